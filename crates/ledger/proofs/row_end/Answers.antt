-- The four bytes at their place (`row_at-end`).
use mathlib.Core.Path.{sym, ◌∙◌}
use Rattle.ledger.proofs.Reading.{row_at-end}
use Rattle.ledger.proofs.row_end.Goals as goal

pub returns : goal.returns
returns c = (c.read_u32.ensures.0 ∙ sym (row_at-end c.args.i c.args.ledger.now), c.read_u32.ensures.1)
