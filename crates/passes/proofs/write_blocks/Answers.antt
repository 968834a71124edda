use native.Mathlib.Omega.{arith}
use Rattle.passes.proofs.Rewriting.{blocks-left-start, blocks-left-next, blocks-left-end, block-left, block-passed, row-left, is-passed, steps-as}
use Rattle.passes.proofs.write_blocks.Goals as goal

pub loop-s-init : goal.loop-s-init
loop-s-init c w = blocks-left-start w _

pub next_block-requires-clause-blocks_given : goal.next_block-requires-clause-blocks_given
next_block-requires-clause-blocks_given c = (c.loop-s.invariant c.requires.pieced).here.given

pub next_block-requires-clause-i_in_bounds : goal.next_block-requires-clause-i_in_bounds
next_block-requires-clause-i_in_bounds c =
    let l = c.loop-s.invariant c.requires.pieced in
    (block-left l.here c.loop-s-test.true, omega (arith, l.here.few), omega (arith, l.long))

pub unwrap-next-requires : goal.unwrap-next-requires
unwrap-next-requires c = is-passed (c.loop-s.invariant c.requires.pieced).here c.loop-s-test.true _ c.next_block.ensures

pub write_row-requires : goal.write_row-requires
write_row-requires c =
    row-left (c.loop-s.invariant c.requires.pieced).here c.loop-s-test.true (steps-as c.unwrap-next.ensures c.next_block.ensures)

pub loop-s-smaller : goal.loop-s-smaller
loop-s-smaller c =
    let l = c.loop-s.invariant c.requires.pieced in
    omega (arith, block-passed l.here c.loop-s-test.true (steps-as c.unwrap-next.ensures c.next_block.ensures))

pub loop-s-preserved : goal.loop-s-preserved
loop-s-preserved c w =
    blocks-left-next w _ (c.loop-s.invariant w) c.loop-s-test.true (steps-as c.unwrap-next.ensures c.next_block.ensures) c.write_row.ensures

pub returns : goal.returns
returns c w = blocks-left-end w _ (c.loop-s.invariant w) c.loop-s-test.false
