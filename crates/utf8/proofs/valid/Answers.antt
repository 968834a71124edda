use mathlib.Core.Path.{ap, sym, ◌∙◌}
use lib.Dec.{eqb}
use Rattle.utf8.specs.Utf8.{valid}
use Rattle.utf8.specs.declared.State.{State}
use Rattle.utf8.proofs.Steps.{steps-cons, steps-end}
use Rattle.utf8.proofs.Texts.{one-valid}
use Rattle.utf8.proofs.valid.Goals as goal

pub returns-then-one_byte_each : goal.returns-then-one_byte_each
returns-then-one_byte_each c = sym (one-valid _ (sym c.one_byte_each.ensures ∙ c.if-one_byte_each.true))

pub loop-b-preserved : goal.loop-b-preserved
loop-b-preserved c =
    let at = c.loop-b in rw (c.char_step-u.ensures, ← steps-cons at.u c.args.s.now at.b-index c.loop-b-test.true) at.invariant

pub returns : goal.returns
unfolding valid
returns c =
    ap (λ (u : State). eqb u.more 0)
    (sym (steps-end c.loop-b.u c.args.s.now c.loop-b.b-index c.loop-b-test.false) ∙ c.loop-b.invariant)
