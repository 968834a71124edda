-- `change_fits`: the three questions of refusal 6, in their order.
use mathlib.Core.Path.{sym, ◌∙◌}
use mathlib.Core.Bool.{false≢true}
use Rattle.edit_meaning.specs.Changes.{change_fits}
use Rattle.calls.proofs.change_fits.Goals as goal
use Rattle.calls.proofs.change_fits.Goals.{then-named_there, else-named_there}

pub returns-then-within : goal.returns-then-within
unfolding change_fits
returns-then-within c =
    elim c.if-named_there.branch [
      | then-named_there w ↦
          rw (← c.named_there.ensures, w.if-named_there.true, sym w.within-is ∙ c.if-within.true, ← c.old_count.ensures _) c.ledger_fits.ensures
      | else-named_there w ↦ absurd (false≢true (sym (w.within-is ∙ w.if-named_there.false) ∙ c.if-within.true))
    ]

pub returns-else-within : goal.returns-else-within
unfolding change_fits
returns-else-within c =
    elim c.if-named_there.branch [
      | then-named_there w ↦ rw (c.if-within.false, ← c.named_there.ensures, w.if-named_there.true, sym w.within-is ∙ c.if-within.false)
      | else-named_there w ↦ rw (c.if-within.false, ← c.named_there.ensures, w.if-named_there.false)
    ]
