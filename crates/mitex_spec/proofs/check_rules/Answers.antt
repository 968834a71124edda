-- Past the test of the trailer the file is `Trailed`, and the loops decide (`checked-unfit`), fill the offsets (`begun-fit`) and the
-- table (`checked-fit`).
use mathlib.Core.Path.{sym, ◌∙◌}
use native.Mathlib.Omega.{arith}
use Rattle.text.proofs.Trailer.{trailed-says}
use Rattle.mitex_spec.proofs.Index.{checked-broken, checked-unfit, begun-fit, begun-numbered, checked-fit}
use Rattle.mitex_spec.proofs.check_rules.Goals as goal

pub returns-then-not-trailed : goal.returns-then-not-trailed
returns-then-not-trailed c =
    checked-broken c.args.file.now c.args.index.now (sym c.trailed.ensures ∙ c.if-not-trailed.true)

pub returns-then-not-rules_fit : goal.returns-then-not-rules_fit
returns-then-not-rules_fit c =
    checked-unfit c.args.file.now (trailed-says _ (sym c.trailed.ensures ∙ c.if-not-trailed.false)) c.start_of-start.result
    c.start_of-start.ensures.0 c.args.index.now c.rules_fit.result c.rules_fit.ensures c.if-not-rules_fit.true

pub fill_firsts-requires : goal.fill_firsts-requires
fill_firsts-requires c =
    begun-numbered
    (begun-fit c.args.file.now (trailed-says _ (sym c.trailed.ensures ∙ c.if-not-trailed.false)) c.start_of-start.result
    c.start_of-start.ensures.0 c.args.index.now _ c.rules_fit.result (λ i. omega (arith, c.type_inv.file i)) c.rules_fit.ensures
    c.if-not-rules_fit.false c.fill_index.ensures)
    (λ i. omega (arith, c.type_inv.file i)) c.requires

pub returns : goal.returns
returns c =
    checked-fit
    (begun-fit c.args.file.now (trailed-says _ (sym c.trailed.ensures ∙ c.if-not-trailed.false)) c.start_of-start.result
    c.start_of-start.ensures.0 c.args.index.now _ c.rules_fit.result (λ i. omega (arith, c.type_inv.file i)) c.rules_fit.ensures
    c.if-not-rules_fit.false c.fill_index.ensures)
    c.fill_firsts.ensures
