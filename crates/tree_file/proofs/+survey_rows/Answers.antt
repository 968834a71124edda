use native.Mathlib.Omega.{arith}
use Rattle.tree_file.specs.Parts.{SurveySays}
use Rattle.tree_file.proofs.Shapes.{none-left, by-test}
use Rattle.tree_file.proofs.Surveys.{survey-end, past-token, past-node}
use Rattle.tree_file.proofs.+survey_rows.Goals as goal

pub loop-l-preserved-in-Some : goal.loop-l-preserved-in-Some
loop-l-preserved-in-Some t c = past-token c.loop-l.invariant c.in-Some.ensures (omega (arith, c.if-left-eq0.false))

pub loop-l-preserved : goal.loop-l-preserved
loop-l-preserved t c =
    let inner = c.in_ok-inner.ensures.lookup.0 in
    past-node c.loop-l.invariant c.in_ok-end.ensures inner.1 inner.2 c.survey_rows.ensures c.in_ok-n.was
    (omega (arith, c.if-left-eq0.false)) c.ruled_fits.result c.ruled_fits.ensures c.if-not-ruled_fits.false

pub returns : goal.returns
returns t c =
    let a = c.args in
    by-test (SurveySays a.up a.left a.rows.now a.text.now) c.is_empty.result _ c.then_some.result c.then_some.ensures
    (λ e. survey-end c.loop-l.invariant (none-left c.loop-l.l.now c.is_empty.result c.is_empty.ensures e)) tt
