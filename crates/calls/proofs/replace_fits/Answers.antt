-- `replace_fits`: the three questions of refusal 6, in their order.
use mathlib.Core.Path.{sym, ◌∙◌}
use mathlib.Core.Bool.{false≢true}
use Rattle.edit_meaning.specs.Changes.{change_fits}
use Rattle.calls.proofs.replace_fits.Goals as goal
use Rattle.calls.proofs.replace_fits.Goals.{then-all_there, else-all_there}

pub returns-then-within : goal.returns-then-within
unfolding change_fits
returns-then-within c =
    elim c.if-all_there.branch [
      | then-all_there w ↦
          rw (← c.all_there.ensures, w.if-all_there.true, sym w.within-is ∙ c.if-within.true) c.ledger_fits.ensures
      | else-all_there w ↦ absurd (false≢true (sym (w.within-is ∙ w.if-all_there.false) ∙ c.if-within.true))
    ]

pub returns-else-within : goal.returns-else-within
unfolding change_fits
returns-else-within c =
    elim c.if-all_there.branch [
      | then-all_there w ↦ rw (c.if-within.false, ← c.all_there.ensures, w.if-all_there.true, sym w.within-is ∙ c.if-within.false)
      | else-all_there w ↦ rw (c.if-within.false, ← c.all_there.ensures, w.if-all_there.false)
    ]
