use Rattle.std.proofs.lemmas.Result.{err_from_is_err_and}
use native.Mathlib.Omega.{arith}
use Rattle.passes.proofs.Measuring.{blocks-passed-start, blocks-passed-end, blocks-passed-refused, blocks-passed-met, blocks-passed-next}
use Rattle.passes.proofs.Measuring.{rows_left, counts-one, label-short, compared-within}
use Rattle.passes.proofs.measure.Goals as goal

pub loop-s-init : goal.loop-s-init
loop-s-init c w = blocks-passed-start w (omega arith)

pub next_block-requires-clause-blocks_given : goal.next_block-requires-clause-blocks_given
next_block-requires-clause-blocks_given c = (c.loop-s.invariant c.requires.blocks_up_to).whole.given

pub next_block-requires-clause-i_in_bounds : goal.next_block-requires-clause-i_in_bounds
next_block-requires-clause-i_in_bounds c =
    let w = (c.loop-s.invariant c.requires.blocks_up_to).whole in
    (rows_left w c.loop-s-test.true, omega (arith, w.few), omega arith)

pub returns-in_err-next : goal.returns-in_err-next
returns-in_err-next c w =
    let p = err_from_is_err_and c.from_residual.result c.from_residual.ensures.1 in
    rw (p.1, p.2) (blocks-passed-refused (c.loop-s.invariant w) c.loop-s-test.true c.in_err-next.ensures)

-- the block that the turn passed is one after the standing
pub overflow_add-j : goal.overflow_add-j
overflow_add-j c =
    let w = (c.loop-s.invariant c.requires.blocks_up_to).whole in
    omega (arith, counts-one w c.loop-s-test.true c.in_ok-next.ensures, w.few)

pub overflow_sub-j : goal.overflow_sub-j
overflow_sub-j c =
    let p = c.loop-s.invariant c.requires.blocks_up_to in
    omega (arith, counts-one p.whole c.loop-s-test.true c.in_ok-next.ensures, p.near)

pub met-requires : goal.met-requires
met-requires c =
    let p = c.loop-s.invariant c.requires.blocks_up_to in
    let i = compared-within p c.loop-s-test.true c.in_ok-next.ensures in (
      λ k. c.requires.blocks_bound.2 _ (omega arith),
      label-short p.whole c.loop-s-test.true c.in_ok-next.ensures,
    )

pub returns-then-met : goal.returns-then-met
returns-then-met c w =
    let p = c.loop-s.invariant w in
    blocks-passed-met p c.loop-s-test.true c.in_ok-next.ensures _
    (c.met.ensures _ (compared-within p c.loop-s-test.true c.in_ok-next.ensures)) c.if-met.true

pub loop-s-smaller : goal.loop-s-smaller
loop-s-smaller c =
    let w = (c.loop-s.invariant c.requires.blocks_up_to).whole in
    omega (arith, counts-one w c.loop-s-test.true c.in_ok-next.ensures)

pub loop-s-preserved : goal.loop-s-preserved
loop-s-preserved c w =
    let p = c.loop-s.invariant w in
    blocks-passed-next p c.loop-s-test.true c.in_ok-next.ensures _
    (c.met.ensures _ (compared-within p c.loop-s-test.true c.in_ok-next.ensures)) c.if-met.false

pub returns : goal.returns
returns c w = blocks-passed-end (c.loop-s.invariant w) c.loop-s-test.false
