-- The flags are the same, and so are the labels, by their answers.
use Rattle.ledger.specs.Ledger.{same_carry}
use Rattle.ledger.proofs.same_carry.Goals as goal

pub returns-then-flags : goal.returns-then-flags
unfolding same_carry
returns-then-flags c = rw (← c.row_flag.ensures, c.if-flags.true) c.same_label-labels.ensures

pub returns-else-flags : goal.returns-else-flags
unfolding same_carry
returns-else-flags c = rw (← c.row_flag.ensures, c.if-flags.false)
