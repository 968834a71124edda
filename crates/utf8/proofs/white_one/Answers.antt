use borrow.Author.Rules.{rules}
use native.Mathlib.Omega.{arith}
use Rattle.std.proofs.lemmas.Bool.Decides.{nat_tests}
use Rattle.utf8.proofs.White.{white-one}
use Rattle.utf8.proofs.white_one.Goals as goal

pub returns-in_default : goal.returns-in_default
returns-in_default c = rw (white-one c.args.a (search rules)) (grind (arith, nat_tests))

pub returns-in_default-2 : goal.returns-in_default-2
returns-in_default-2 c = rw (white-one c.args.a (search rules)) (grind (arith, nat_tests))

pub returns-in-9-to-13 : goal.returns-in-9-to-13
returns-in-9-to-13 c = rw (white-one c.args.a (search rules)) (grind (arith, nat_tests))

pub returns-in-9-to-13-2 : goal.returns-in-9-to-13-2
returns-in-9-to-13-2 c = rw (white-one c.args.a (search rules)) (grind (arith, nat_tests))
