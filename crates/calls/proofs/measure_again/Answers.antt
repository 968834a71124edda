-- `measure_again`: nothing is measured where the carry is the kept one at once (`again-met`); else the answer is that of the pass
-- (`again-on`).
use mathlib.Core.Path.{◌≡◌, sym, subst, ◌∙◌}
use mathlib.Core.Bool.{Bool, true, false, cond}
use mathlib.Core.List.{[]}
use Rattle.std.specs.Prelude.{Result}
use Rattle.refusals.specs.declared.Refusal.{Refusal}
use Rattle.edit_meaning.specs.Walk.{Walk}
use Rattle.edit_meaning.specs.Walk.Walk.{pieces}
use Rattle.passes.specs.Passes.{Came}
use Rattle.passes.specs.declared.Standing.{Standing}
use Rattle.passes.proofs.Measuring.{came-here}
use Rattle.calls.proofs.measure_again.Goals as goal

module _ {from : Standing} {r : Result Standing Refusal} {x b : Bool} (v : Walk) (is : b ≡ x) where
  again-met : b ≡ true → Came from r (pieces []) → Came from r (cond x (pieces []) v)
  again-met t m = subst (λ (y : Bool). Came from r (cond y (pieces []) v)) (sym t ∙ is) m

  again-on : b ≡ false → Came from r v → Came from r (cond x (pieces []) v)
  again-on t m = subst (λ (y : Bool). Came from r (cond y (pieces []) v)) (sym t ∙ is) m

pub returns-then-met_at_once : goal.returns-then-met_at_once
returns-then-met_at_once c = λ w. again-met _ c.met_at_once.ensures c.if-met_at_once.true (came-here w.given.place)
