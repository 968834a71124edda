-- `all_there`: the numbers passed rise, so those that are left decide (`Rises`).
use Rattle.stretches.proofs.Rising.{Rises}
use Rattle.stretches.proofs.all_there.Given as goal

abbrev pub invariant-loop-k : goal.invariant-loop-k
invariant-loop-k l = Rises l.named l.blocks l.least l.k-index
