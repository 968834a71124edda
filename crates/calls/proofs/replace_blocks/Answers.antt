-- `replace_blocks`: the plan comes to the stretches of the definition, and each answer is what that says.
use mathlib.Core.Path.{refl}
use Rattle.std.proofs.lemmas.Result.{err_from_is_err_and}
use Rattle.calls.proofs.Replacing.{replace-fits, replace-unfit, replace-refused, made, replace-as}
use Rattle.calls.proofs.replace_blocks.Goals as goal

pub returns-then-not-replace_fits : goal.returns-then-not-replace_fits
returns-then-not-replace_fits c =
    let a = c.args in
    rw c.no_row.ensures
    (replace-unfit a.d a.named.now a.kept a.out.now a.ledger.now c.replace_fits.ensures c.if-not-replace_fits.true)

pub plan_stretches-requires-clause-ledger_fits : goal.plan_stretches-requires-clause-ledger_fits
plan_stretches-requires-clause-ledger_fits c =
    record { kept = _; fitting = (replace-fits _ _ _ _ _ c.replace_fits.ensures c.if-not-replace_fits.false).fitting }

pub plan_stretches-requires-clause-by_index : goal.plan_stretches-requires-clause-by_index
plan_stretches-requires-clause-by_index c =
    ((replace-fits _ _ _ _ _ c.replace_fits.ensures c.if-not-replace_fits.false).below, refl)

pub returns-in_err-p : goal.returns-in_err-p
returns-in_err-p c =
    let a = c.args in
    let e = err_from_is_err_and c.from_residual.result c.from_residual.ensures.1 in
    rw (e.1, e.2)
    (replace-refused a.d a.named.now a.kept a.out.now a.ledger.now c.replace_fits.ensures c.if-not-replace_fits.false
    (c.in_err-p.ensures a.d.open))

pub exchange_planned-requires : goal.exchange_planned-requires
exchange_planned-requires c =
    let a = c.args in
    made a.d a.named.now a.kept a.out.now a.ledger.now c.replace_fits.ensures c.if-not-replace_fits.false (c.in_ok-p.ensures a.d.open)

pub returns : goal.returns
returns c =
    let a = c.args in
    let p = c.in_ok-p.ensures a.d.open in
    replace-as a.d a.named.now a.kept a.out.now a.ledger.now c.replace_fits.ensures c.if-not-replace_fits.false p
    (c.exchange_planned.ensures
    (made a.d a.named.now a.kept a.out.now a.ledger.now c.replace_fits.ensures c.if-not-replace_fits.false p))
