-- Each test of the code is one of the definition; a label of at most `label_most` times its mark passes two of them.
use native.Mathlib.Omega.{arith}
use Rattle.std.proofs.lemmas.Bool.Decides.{nat_tests}
use Rattle.ledger.specs.Ledger.{marks_fit}
use Rattle.ledger.proofs.marks_fit.Goals as goal

pub returns-then-len-from : goal.returns-then-len-from
unfolding marks_fit
returns-then-len-from c = grind (arith, nat_tests)

pub returns-else-len-from : goal.returns-else-len-from
unfolding marks_fit
returns-else-len-from c = grind (arith, nat_tests)
