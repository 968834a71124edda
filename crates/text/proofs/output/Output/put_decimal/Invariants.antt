-- The invariant is `DigitsLeft`: the digits of what is left, before those that stand in the array, are the digits of n. The rest m falls.
use Rattle.text.proofs.Decimal.{DigitsLeft}
use Rattle.text.proofs.output.Output.put_decimal.Given as goal

abbrev pub invariant-loop-m : goal.invariant-loop-m
invariant-loop-m l = DigitsLeft l.n l.digits l.i l.m

abbrev pub decreases-loop-m : goal.decreases-loop-m
decreases-loop-m l = l.m
