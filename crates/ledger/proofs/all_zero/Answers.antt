use native.Mathlib.Omega.{arith}
use Rattle.ledger.proofs.Reading.{all_zero-next, all_zero-not, all_zero-end}
use Rattle.ledger.proofs.all_zero.Goals.{then-b-eq0, else-b-eq0}
use Rattle.ledger.proofs.all_zero.Goals as goal

pub loop-b-preserved : goal.loop-b-preserved
loop-b-preserved c =
    let l = c.loop-b in
    let s = c.args.s.now in elim c.if-b-eq0.branch [
      | then-b-eq0 w ↦ all_zero-next s l.b-index l.zero c.loop-b-test.true l.invariant w.if-b-eq0.true w.zero-is
      | else-b-eq0 w ↦ all_zero-not s l.b-index l.zero c.loop-b-test.true l.invariant w.if-b-eq0.false w.zero-is
    ]

pub returns : goal.returns
returns c = all_zero-end c.args.s.now c.loop-b.b-index c.loop-b.zero (omega (arith, c.loop-b-test.false)) c.loop-b.invariant
