use Rattle.std.proofs.lemmas.Result.{err_from_is_err_and}
use native.Mathlib.Omega.{arith}
use Rattle.passes.proofs.Measuring.{rows_left, counts-one, label-short}
use Rattle.passes.proofs.Drafting.{drafted-start, drafted-end, drafted-refused, drafted-next}
use Rattle.passes.proofs.draft_blocks.Goals as goal

pub loop-s-init : goal.loop-s-init
loop-s-init c = drafted-start _ _ _ _ _ _ _ _

pub next_block-requires-clause-blocks_given : goal.next_block-requires-clause-blocks_given
next_block-requires-clause-blocks_given c = (c.loop-s.invariant.passed c.requires.blocks_up_to).whole.given

pub next_block-requires-clause-i_in_bounds : goal.next_block-requires-clause-i_in_bounds
next_block-requires-clause-i_in_bounds c =
    let w = (c.loop-s.invariant.passed c.requires.blocks_up_to).whole in
    (rows_left w c.loop-s-test.true, omega (arith, w.few), omega (arith, c.loop-s.invariant.long))

pub returns-in_err-next-clause-measured : goal.returns-in_err-next-clause-measured
returns-in_err-next-clause-measured c =
    let p = err_from_is_err_and c.from_residual.result c.from_residual.ensures.1 in
    rw (p.1, p.2) ((drafted-refused c.loop-s.invariant c.loop-s-test.true c.in_err-next.ensures).0)

pub returns-in_err-next-clause-written : goal.returns-in_err-next-clause-written
returns-in_err-next-clause-written c = (drafted-refused c.loop-s.invariant c.loop-s-test.true c.in_err-next.ensures).1

pub draft_row-requires : goal.draft_row-requires
draft_row-requires c =
    let w = (c.loop-s.invariant.passed c.requires.blocks_up_to).whole in
    (omega (arith, c.loop-s.invariant.ledger_long), label-short w c.loop-s-test.true c.in_ok-next.ensures)

pub loop-s-smaller : goal.loop-s-smaller
loop-s-smaller c =
    let w = (c.loop-s.invariant.passed c.requires.blocks_up_to).whole in
    omega (arith, counts-one w c.loop-s-test.true c.in_ok-next.ensures)

pub loop-s-preserved : goal.loop-s-preserved
loop-s-preserved c =
    drafted-next c.loop-s.invariant c.loop-s-test.true c.in_ok-next.ensures c.next_block.auto.out c.draft_row.auto.ledger c.draft_row.ensures

pub returns-clause-measured : goal.returns-clause-measured
returns-clause-measured c = (drafted-end c.loop-s.invariant c.loop-s-test.false).0

pub returns-clause-written : goal.returns-clause-written
returns-clause-written c = (drafted-end c.loop-s.invariant c.loop-s-test.false).1
