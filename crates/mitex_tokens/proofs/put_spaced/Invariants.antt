-- The invariant: what is written so far and the characters left make up the whole (`Partly`). The measure is the bytes left.
use lib.ListN.{length}
use Rattle.mitex_tokens.proofs.Spacing.{Partly}
use Rattle.mitex_tokens.proofs.put_spaced.Given as goal

abbrev pub invariant-loop-t : goal.invariant-loop-t
invariant-loop-t l = Partly l.initial.out l.s l.out l.t

abbrev pub decreases-loop-t : goal.decreases-loop-t
decreases-loop-t l = length l.t
