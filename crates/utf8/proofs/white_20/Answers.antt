use borrow.Author.Rules.{rules}
use native.Mathlib.Omega.{arith}
use Rattle.std.proofs.lemmas.Bool.Decides.{nat_tests}
use Rattle.utf8.proofs.White.{white-20}
use Rattle.utf8.proofs.white_20.Goals as goal

pub returns-in_default : goal.returns-in_default
returns-in_default c = rw (white-20 c.args.c (search rules)) (grind (arith, nat_tests))

pub returns-in_default-2 : goal.returns-in_default-2
returns-in_default-2 c = rw (white-20 c.args.c (search rules)) (grind (arith, nat_tests))

pub returns-in_default-3 : goal.returns-in_default-3
returns-in_default-3 c = rw (white-20 c.args.c (search rules)) (grind (arith, nat_tests))

pub returns-in-128-to-138 : goal.returns-in-128-to-138
returns-in-128-to-138 c = rw (white-20 c.args.c (search rules)) (grind (arith, nat_tests))

pub returns-in-128-to-138-2 : goal.returns-in-128-to-138-2
returns-in-128-to-138-2 c = rw (white-20 c.args.c (search rules)) (grind (arith, nat_tests))

pub returns-in-128-to-138-3 : goal.returns-in-128-to-138-3
returns-in-128-to-138-3 c = rw (white-20 c.args.c (search rules)) (grind (arith, nat_tests))
