-- `mitex_loops::steady_run` meets its contract. The invariant: the loop is steady on the children passed, and they have the bytes counted (`RunTo`). The measure is what is left.
use mathlib.Core.Path.{◌≡◌}
use Prim.Native.Nat.{◌-◌, ◌≤◌, ◌<◌}
use lib.ListN.{length}
use Rattle.text.specs.Writing.{cap}
use Rattle.mitex_syntax.specs.Tree.{Forest, rows_ofs, texts_of}
use Rattle.mitex_loops.proofs.Steady.{RunTo}
use Rattle.mitex_loops.proofs.steady_run.Given as goal

abbrev pub invariant-loop-k : goal.invariant-loop-k
invariant-loop-k l = (l.k ≤ length l.rows) × ((f : Forest) → l.rows ≡ rows_ofs f → length (texts_of f) < cap → RunTo l.l f l.k l.n)

abbrev pub decreases-loop-k : goal.decreases-loop-k
decreases-loop-k l = length l.rows - l.k
