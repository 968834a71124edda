use native.Mathlib.Omega.{arith}
use Rattle.ledger.proofs.Moving.{rows-moved-same, rows-moved-movable, rows-moved-more}
use Rattle.ledger.proofs.move_rows.Goals as goal

pub move_row-requires : goal.move_row-requires
move_row-requires c =
    let loop = c.loop-i in
    let pre = c.requires in (
      omega (arith, rows-moved-same loop.invariant, pre.1),
      rows-moved-movable loop.invariant (pre.2 loop.i loop.invariant.above c.loop-i-test.true),
    )

pub loop-i-preserved : goal.loop-i-preserved
loop-i-preserved c =
    rows-moved-more c.loop-i.invariant (omega (arith, c.requires.1)) c.move_row.ensures
