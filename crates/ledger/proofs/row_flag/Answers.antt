-- The byte at its place (`row-flag`).
use Prim.Native.Nat.{◌*◌}
use lib.ListN.{drop}
use Rattle.ledger.specs.Ledger.{row_size}
use Rattle.ledger.proofs.Reading.{row-flag}
use Rattle.ledger.proofs.row_flag.Goals as goal

pub returns : goal.returns
returns c = row-flag (drop (row_size * c.args.i) c.args.ledger.now) c.row_bytes.result.now c.row_bytes.ensures
