-- The row is a part of the ledger, written anew (`row_written`).
use Rattle.ledger.proofs.Writing.{row_written}
use Rattle.ledger.proofs.write_row.Goals as goal

pub returns : goal.returns
returns c =
    let a = c.args in
    row_written a.i a.ledger.now a.end a.converter c.requires.0 c.requires.1 c.requires.2 c.fill_row.ensures
