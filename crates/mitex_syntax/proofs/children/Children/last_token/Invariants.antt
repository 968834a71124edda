-- `last_token`: the elements that are left have the same last token as all (`Lasts`), and the text left is a part of all; the measure
-- is the rows left.
use Prim.Native.Nat.{◌<◌}
use lib.ListN.{length}
use Rattle.text.specs.Writing.{cap}
use Rattle.text.specs.Slices.{PartOf}
use Rattle.mitex_syntax.specs.Tree.{Forest}
use Rattle.mitex_syntax.specs.Spells.{Begins}
use Rattle.mitex_syntax.proofs.Tokens.{Lasts}
use Rattle.mitex_syntax.proofs.children.Children.last_token.Given as goal

abbrev pub invariant-loop-rows : goal.invariant-loop-rows
invariant-loop-rows l =
    (length l.rows < cap) × (length l.text < cap)
    × ((f : Forest) → Begins f l.self.rows.now l.self.text.now → Lasts f l.rows l.text)
    × PartOf l.text l.self.text.now

abbrev pub decreases-loop-rows : goal.decreases-loop-rows
decreases-loop-rows l = length l.rows
