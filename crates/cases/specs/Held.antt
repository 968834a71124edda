-- How long a buffer of a case can be.
use Rattle.std.specs.Prelude.{ℕ, ◌+◌, ◌*◌}
use Rattle.text.specs.Trailer.{file_most}
use Rattle.tree_file.specs.Layout.{blocks_most}
use Rattle.ledger.specs.Ledger.{row_size}

abbrev pub buffer_most : ℕ
buffer_most = file_most + row_size * (blocks_most + 1)
