-- The invariant: what is left trims to the same. A white first character is passed, any other ends the loop.
use mathlib.Core.Path.{◌≡◌}
use lib.ListN.{length}
use Rattle.utf8.specs.Trim.{trim_start}
use Rattle.utf8.proofs.trim_start.Given as goal

abbrev pub invariant-loop-n : goal.invariant-loop-n
invariant-loop-n l = trim_start l.t ≡ trim_start l.s

abbrev pub decreases-loop-n : goal.decreases-loop-n
decreases-loop-n l = length l.t
