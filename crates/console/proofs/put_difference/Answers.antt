-- `put_difference`: the sign and the number, one after the other.
use borrow.Author.Tests.{lt-leb}
use Rattle.std.proofs.Common.{rules}
use Rattle.text.proofs.Outputs.{puts_then}
use Rattle.console.proofs.put_difference.Goals as goal

pub returns-else-b-a : goal.returns-else-b-a
returns-else-b-a c = let e = lt-leb c.args.b c.args.a c.if-b-a.false in rw e (search (rules, puts_then))
