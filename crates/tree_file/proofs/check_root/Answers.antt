-- The root decides first, then the shape of its tree.
use native.Mathlib.Omega.{arith}
use mathlib.Core.Path.{ap, ◌∙◌}
use Rattle.std.specs.Result.{result_ok}
use Rattle.mitex_syntax.specs.Tree.{Forest}
use Rattle.mitex_syntax.specs.Spells.{SpellsAll}
use Rattle.tree_file.proofs.Answers.{Rooted-as, blocks_are, root-spells, answer-breaks, answer-whole}
use Rattle.tree_file.proofs.check_root.Goals.{In_ok-blocks}
use Rattle.tree_file.proofs.check_root.Goals as goal

-- the rows are those of a root
rooted : (c : In_ok-blocks) (f : Forest) → SpellsAll f c.args.rows.now c.args.text.now → Rooted-as f c.in_ok-blocks.blocks
rooted c f sp =
    blocks_are f c.root_blocks.result c.in_ok-blocks.blocks (c.root_blocks.ensures f sp.rows_are) (c.ok_or.ensures.ok_part ∙ ap result_ok c.in_ok-blocks.was)

pub scan_shape-requires : goal.scan_shape-requires
scan_shape-requires c =
    let p = c.requires in
    let a = rooted (goal.at.scan_shape-requires c).In_ok-blocks p.forest p.spells in
    record {
      given = record { tree = a.tree; spells = root-spells a p.spells };
      few = p.few;
      short = p.short;
      low = let few = p.few in omega arith;
    }

pub returns-in-Err : goal.returns-in-Err
returns-in-Err c =
    λ f sp d.
    let a = rooted (goal.at.returns-in-Err c).In_ok-blocks f sp in
    answer-breaks a d c.scan_shape.result (c.scan_shape.ensures a.tree (root-spells a sp)) c.in-Err.row c.in-Err.is

pub returns : goal.returns
returns c =
    λ f sp d.
    let a = rooted (goal.at.returns c).In_ok-blocks f sp in
    answer-whole a d c.scan_shape.result (c.scan_shape.ensures a.tree (root-spells a sp)) sp c.in_default.is
