-- `first_token`: the elements that are left have the same first token as all (`Firsts`); the measure is the rows left.
use Prim.Native.Nat.{◌<◌}
use lib.ListN.{length}
use Rattle.text.specs.Writing.{cap}
use Rattle.mitex_syntax.specs.Tree.{Forest}
use Rattle.mitex_syntax.specs.Spells.{Begins}
use Rattle.mitex_syntax.proofs.Tokens.{Firsts}
use Rattle.mitex_syntax.proofs.children.Children.first_token.Given as goal

abbrev pub invariant-loop-rows : goal.invariant-loop-rows
invariant-loop-rows l =
    (length l.rows < cap) × ((f : Forest) → Begins f l.self.rows.now l.self.text.now → Firsts f l.rows l.self.text.now)

abbrev pub decreases-loop-rows : goal.decreases-loop-rows
decreases-loop-rows l = length l.rows
