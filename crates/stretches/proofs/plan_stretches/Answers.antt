use mathlib.Core.Path.{refl}
use Rattle.std.proofs.lemmas.Result.{err_from_is_err_and}
use native.Mathlib.Omega.{arith}
use Rattle.stretches.proofs.Planning.{so-far-start, so-far-after, so-far-halted, so-far-end, plan-starts, plan-goes-on}
use Rattle.stretches.proofs.plan_stretches.Goals as goal

pub loop-k-init : goal.loop-k-init
loop-k-init c = (plan-starts, c.requires.by_index.1, λ w. so-far-start w _ _ _ refl refl refl refl)

pub returns-in_err-s : goal.returns-in_err-s
returns-in_err-s c w =
    let p = err_from_is_err_and c.from_residual.result c.from_residual.ensures.1 in
    rw (p.1, p.2) (so-far-halted w _ _ (c.loop-k.invariant.2 w) c.loop-k-test.true refl (c.in_err-s.ensures w))

pub loop-k-preserved : goal.loop-k-preserved
loop-k-preserved c =
    let i = c.loop-k.invariant in (
      plan-goes-on c.args.d.open _ _ i.0 (c.in_ok-s.ensures c.args.d.open),
      omega (arith, c.plan_stretch.auto.plan, i.1),
      λ w. so-far-after w _ _ (i.2 w) c.loop-k-test.true refl (c.in_ok-s.ensures w) i.0 i.1,
    )

pub returns : goal.returns
returns c w = so-far-end w _ _ (c.loop-k.invariant.2 w) _ c.loop-k-test.false refl refl c.loop-k.invariant.0 c.loop-k.invariant.1
