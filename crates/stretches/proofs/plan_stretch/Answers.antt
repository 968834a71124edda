-- `plan_stretch`: the block was converted already, or the pass over the stretch comes to what the definition converts again
-- (`stretch-refused`, `stretch-noted`).
use mathlib.Core.Path.{refl}
use Prim.Native.Nat.{◌+◌, ◌-◌}
use Rattle.std.proofs.lemmas.Result.{err_from_is_err_and}
use native.Mathlib.Omega.{arith}
use Rattle.ledger.proofs.Fitting.{fits-row}
use Rattle.passes.proofs.Ends.{ends-rise}
use Rattle.passes.proofs.Starting.{some-blocks}
use Rattle.stretches.specs.Plans.StretchComes.{passed_over, refused_there, noted_there}
use Rattle.stretches.proofs.Measuring.{stretch-begins, whole, stretch-refused, stretch-pieces}
use Rattle.stretches.proofs.Measuring.{stretch-block, stretch-size, stretch-noted}
use Rattle.stretches.proofs.plan_stretch.Goals as goal

pub returns-then-k-s : goal.returns-then-k-s
returns-then-k-s c w = passed_over c.if-k-s.true refl

pub carry_before-requires : goal.carry_before-requires
carry_before-requires c h = fits-row _ _ _ c.requires.ledger_fits.fitting _ (omega arith)

pub stand_on-from-requires-clause-some_blocks : goal.stand_on-from-requires-clause-some_blocks
stand_on-from-requires-clause-some_blocks c = some-blocks c.args.d.open c.args.k (omega arith)

pub measure-requires-clause-blocks_up_to : goal.measure-requires-clause-blocks_up_to
measure-requires-clause-blocks_up_to c =
    let w = c.args.d.open in
    whole w _ _ (stretch-begins w _ _ c.requires.plan_stands.1 c.carry_before.ensures c.stand_on-from.ensures)

pub measure-requires-clause-blocks_bound : goal.measure-requires-clause-blocks_bound
measure-requires-clause-blocks_bound c = (omega arith, omega arith, fits-row _ _ _ c.requires.ledger_fits.fitting)

pub returns-in_err-m : goal.returns-in_err-m
returns-in_err-m c w =
    let b = stretch-begins w _ _ c.requires.plan_stands.1 c.carry_before.ensures c.stand_on-from.ensures in
    let p = err_from_is_err_and c.from_residual.result c.from_residual.ensures.1 in
    rw (p.1, p.2) (refused_there c.if-k-s.false (stretch-refused w _ _ b c.in_err-m.ensures) refl refl)

pub end_before-requires : goal.end_before-requires
end_before-requires c h = (fits-row _ _ _ c.requires.ledger_fits.fitting (c.args.k - 1) (omega arith)).0

pub end_before-requires-2 : goal.end_before-requires-2
end_before-requires-2 c h =
    (fits-row _ _ _ c.requires.ledger_fits.fitting (c.args.s.block - 1) (omega (arith, c.requires.plan_stands.0.within))).0

pub overflow_sub-between : goal.overflow_sub-between
overflow_sub-between c =
    let n = c.args.d.blocks in
    omega (
      arith,
      ends-rise n _ c.args.ledger.now c.requires.ledger_fits.fitting c.args.s.block c.args.k c.if-k-s.false (omega arith),
      c.end_before.ensures.0 n (omega arith),
      c.end_before-2.ensures.0 n (omega (arith, c.requires.plan_stands.0.within)),
    )

pub overflow_sub-result : goal.overflow_sub-result
overflow_sub-result c =
    let w = c.args.d.open in
    let b = stretch-begins w _ _ c.requires.plan_stands.1 c.carry_before.ensures c.stand_on-from.ensures in
    omega (arith, stretch-block w _ _ b c.in_ok-m.ensures)

-- the place is far from the end of the numbers
pub overflow_add-result-4 : goal.overflow_add-result-4
overflow_add-result-4 c =
    let w = c.args.d.open in
    let b = stretch-begins w _ _ c.requires.plan_stands.1 c.carry_before.ensures c.stand_on-from.ensures in
    let s = c.requires.plan_stands.0 in
    omega (arith, s.low, s.few, w.most, c.end_before.ensures.1, stretch-size w _ _ b c.in_ok-m.ensures)

pub returns : goal.returns
returns c w =
    let b = stretch-begins w _ _ c.requires.plan_stands.1 c.carry_before.ensures c.stand_on-from.ensures in
    let e₀ = c.end_before.ensures.0 c.args.d.blocks (omega arith) in
    let e₁ = c.end_before-2.ensures.0 c.args.d.blocks (omega (arith, c.requires.plan_stands.0.within)) in
    noted_there c.if-k-s.false (stretch-pieces w _ _ b c.in_ok-m.ensures).are
    (stretch-noted w _ _ b c.in_ok-m.ensures refl refl refl (λ i. c.args.s.at + (e₀ i - e₁ i) + c.in_ok-m.m.at)
    (omega (arith, e₀, c.end_before.ensures.1)) refl refl refl refl)
