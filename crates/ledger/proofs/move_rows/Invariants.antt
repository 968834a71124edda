-- The invariant `RowsMoved`: the rows passed are moved, the others are as they were.
use Rattle.ledger.proofs.Moving.{RowsMoved}
use Rattle.ledger.proofs.move_rows.Given as goal

abbrev pub invariant-loop-i : goal.invariant-loop-i
invariant-loop-i l = RowsMoved l.from l.old l.new l.initial.ledger l.ledger l.i
