-- The parts one after the other are the whole row (`row-filled`).
use native.Mathlib.Omega.{arith}
use Rattle.ledger.proofs.Writing.{row-filled}
use Rattle.ledger.proofs.fill_row.Goals as goal

pub returns : goal.returns
returns c =
    row-filled c.args.row.now c.args.end c.args.converter c.requires.0 (omega arith) c.requires.2
    c.held_len-len.ensures.0 c.write_u32.ensures c.write_marks.ensures c.fill_label.ensures
