-- `mitex_loops::Child::others_follow`: the elements passed were command names, so the answer is that of those left (`Hopped`). The measure is what is left.
use mathlib.Core.Path.{◌≡◌}
use Prim.Native.Nat.{◌-◌, ◌≤◌}
use lib.ListN.{length}
use Rattle.mitex_syntax.specs.Tree.{Forest, rows_ofs}
use Rattle.mitex_loops.proofs.Others.{Hopped}
use Rattle.mitex_loops.proofs.Child.others_follow.Given as goal

abbrev pub invariant-loop-i : goal.invariant-loop-i
invariant-loop-i l = (l.i ≤ length l.behind) × ((f : Forest) → l.behind ≡ rows_ofs f → Hopped l.behind l.i f)

abbrev pub decreases-loop-i : goal.decreases-loop-i
decreases-loop-i l = length l.behind - l.i
