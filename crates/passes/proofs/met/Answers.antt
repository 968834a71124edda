-- `met`: before the first kept block the carry is a document's first, before any other that of the row before (`meets-row`).
use native.Mathlib.Omega.{arith}
use Rattle.passes.proofs.Measuring.{meets-row}
use Rattle.passes.proofs.met.Goals as goal

pub returns-in-Some : goal.returns-in-Some
returns-in-Some c =
    let last = c.in-Some.ensures in
    meets-row c.args.s c.args.kept.now _ c.in-Some.last (omega arith) c.same_carry.ensures
