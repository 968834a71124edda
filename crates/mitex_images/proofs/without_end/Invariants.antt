-- The invariant: what is left gives the same without the ending (`without-once`). Each turn cuts a byte or more.
use mathlib.Core.Path.{◌≡◌}
use lib.ListN.{length}
use Rattle.mitex_meaning.specs.Images.{without_end}
use Rattle.mitex_images.proofs.without_end.Given as goal

abbrev pub invariant-loop-rest : goal.invariant-loop-rest
invariant-loop-rest l = without_end l.p l.t ≡ without_end l.p l.v

abbrev pub decreases-loop-rest : goal.decreases-loop-rest
decreases-loop-rest l = length l.t
