use native.Mathlib.Omega.{arith}
use Rattle.std.proofs.lemmas.Bool.Decides.{nat_tests}
use Rattle.text.specs.Compare.{same}
use Rattle.utf8.proofs.white_three.Goals as goal

pub returns-in-226-eq129 : goal.returns-in-226-eq129
unfolding same
returns-in-226-eq129 c = grind (arith, nat_tests)

pub returns-in-225-eq154 : goal.returns-in-225-eq154
unfolding same
returns-in-225-eq154 c = grind (arith, nat_tests)

pub returns-in_default : goal.returns-in_default
unfolding same
returns-in_default c = grind (arith, nat_tests)

pub returns-in_default-2 : goal.returns-in_default-2
unfolding same
returns-in_default-2 c = grind (arith, nat_tests)

pub returns-in_default-3 : goal.returns-in_default-3
unfolding same
returns-in_default-3 c = grind (arith, nat_tests)

pub returns-in_default-4 : goal.returns-in_default-4
unfolding same
returns-in_default-4 c = grind (arith, nat_tests)
