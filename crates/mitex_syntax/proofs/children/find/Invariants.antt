-- `find`: what is looked for among all children is what is looked for among those that are left (`Seeks`); the measure is the
-- rows left.
use Prim.Native.Nat.{◌≤◌, ◌-◌}
use lib.ListN.{length, drop}
use Rattle.mitex_syntax.specs.Tree.{Forest}
use Rattle.mitex_syntax.specs.Spells.{Begins}
use Rattle.mitex_syntax.specs.Places.{is_wanted}
use Rattle.mitex_syntax.proofs.Seeking.{Seeks}
use Rattle.mitex_syntax.proofs.children.find.Given as goal

abbrev pub invariant-loop-i : goal.invariant-loop-i
invariant-loop-i l =
    (l.i ≤ length l.rows) × (l.j ≤ length l.text)
    × ((f : Forest) → Begins f (drop l.initial.i l.rows) (drop l.initial.j l.text) → Seeks (is_wanted l.wanted) f l.rows l.text l.initial.i l.i l.j)

abbrev pub decreases-loop-i : goal.decreases-loop-i
decreases-loop-i l = length l.rows - l.i
