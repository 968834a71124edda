-- The invariant: what is left trims to the same. A white last character is passed, any other ends the loop.
use mathlib.Core.Path.{◌≡◌}
use lib.ListN.{length}
use Rattle.utf8.specs.Trim.{trim_end}
use Rattle.utf8.proofs.trim_end.Given as goal

abbrev pub invariant-loop-k : goal.invariant-loop-k
invariant-loop-k l = trim_end l.t ≡ trim_end l.s

abbrev pub decreases-loop-k : goal.decreases-loop-k
decreases-loop-k l = length l.t
