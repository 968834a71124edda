-- The invariant: the order of the texts is that of what is left of both.
use Prim.Native.Nat.{◌≤◌}
use mathlib.Core.Path.{◌≡◌}
use lib.ListN.{drop}
use Rattle.text.specs.Compare.{precedes}
use Rattle.text.proofs.precedes.Given as goal

abbrev pub invariant-loop-i : goal.invariant-loop-i
invariant-loop-i l = (l.i ≤ l.n) × (precedes l.a l.b ≡ precedes (drop l.i l.a) (drop l.i l.b))
