use native.Mathlib.Omega.{arith}
use Rattle.std.proofs.lemmas.Bool.Decides.{nat_tests}
use Rattle.text.specs.Compare.{same}
use Rattle.utf8.proofs.white_two.Goals as goal

pub returns-in-133 : goal.returns-in-133
unfolding same
returns-in-133 c = grind (arith, nat_tests)

pub returns-in_default : goal.returns-in_default
unfolding same
returns-in_default c = grind (arith, nat_tests)

pub returns-else-a-eq194 : goal.returns-else-a-eq194
unfolding same
returns-else-a-eq194 c = grind (arith, nat_tests)
