use native.Mathlib.Omega.{arith}
use mathlib.Core.Path.{sym, ap, ◌∙◌}
use Rattle.std.proofs.Common.{rules, ◌+◌}
use lib.ListN.{drop}
use Rattle.console.specs.Request.{digit_fits, number_from}
use Rattle.console.proofs.Digits.{spelt-starts, spelt-next, spelt-stops, spelt-ends, digit-none, digit-some}
use Rattle.console.proofs.number_spelt.Goals as goal

pub returns-in_err-n : goal.returns-in_err-n
returns-in_err-n c =
    rw c.from_residual.ensures
    (spelt-stops _ _ _ c.loop-x-test.true (digit-none _ _ c.in_err-n.ensures) c.loop-x.invariant)

pub loop-x-preserved : goal.loop-x-preserved
loop-x-preserved c =
    let p = digit-some _ _ _ c.in_ok-n.ensures in
    spelt-next _ _ _ c.loop-x-test.true p.0 c.loop-x.invariant ∙ ap (λ k. number_from k (drop (c.loop-x.x-index + 1) c.args.digits.now)) (sym p.1)

pub returns : goal.returns
returns c = spelt-ends _ _ _ (omega (arith, c.loop-x-test.false)) c.loop-x.invariant
