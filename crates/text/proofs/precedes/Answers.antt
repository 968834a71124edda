use mathlib.Core.Path.{refl}
use native.Mathlib.Omega.{arith}
use Rattle.text.proofs.Compare.{precedes-next, precedes-stop, precedes-end}
use Rattle.text.proofs.precedes.Goals as goal

pub loop-i-init : goal.loop-i-init
loop-i-init c = (omega arith, refl)

pub returns-then-a-i : goal.returns-then-a-i
returns-then-a-i c =
    let loop = c.loop-i in
    let args = c.args in
    precedes-stop args.a.now args.b.now loop.i _ c.min-n.ensures c.loop-i-test.true c.if-a-i.true
    loop.invariant.1

pub loop-i-preserved : goal.loop-i-preserved
loop-i-preserved c =
    let loop = c.loop-i in
    let args = c.args in (
      omega arith,
      precedes-next args.a.now args.b.now loop.i _ c.min-n.ensures c.loop-i-test.true c.if-a-i.false loop.invariant.1,
    )

pub returns : goal.returns
returns c =
    let loop = c.loop-i in
    let args = c.args in
    precedes-end args.a.now args.b.now loop.i _ c.min-n.ensures loop.invariant.0 c.loop-i-test.false loop.invariant.1
