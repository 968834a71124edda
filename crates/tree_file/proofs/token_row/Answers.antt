-- The characters of the token's text are among those of all.
use mathlib.Core.Path.{ap, ◌∙◌}
use Rattle.utf8.specs.Utf8.{one_byte_each}
use Rattle.utf8.proofs.Texts.{one-take}
use Rattle.tree_file.proofs.Shapes.{first-part}
use Rattle.tree_file.proofs.token_row.Goals as goal

pub token_fits-requires : goal.token_fits-requires
token_fits-requires c =
    let first = first-part c.args.text.now c.in_ok-s.s.now c.read_u32-n.result c.in_ok-s.ensures.lookup.0.2 in
    λ e. ap one_byte_each first ∙ one-take c.read_u32-n.result c.args.text.now (c.requires.1 e)
