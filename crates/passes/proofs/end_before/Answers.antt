-- `end_before`: block 0 begins at 0, any other where the row before it ends.
use native.Mathlib.Omega.{arith}
use Rattle.passes.proofs.Ends.{ends-before}
use Rattle.passes.proofs.end_before.Goals as goal

pub returns-in-Some : goal.returns-in-Some
returns-in-Some c =
    let last = c.in-Some.ensures in
    let e = c.row_end.ensures in
    (ends-before _ c.in-Some.last _ (omega arith) e.0, e.1)
