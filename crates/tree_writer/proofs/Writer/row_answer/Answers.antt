-- Whether the step may be tried, then the limits; the sums fit, as a writer that may step is within them.
use native.Mathlib.Omega.{arith}
use Rattle.tree_writer.proofs.Answers.{tried-says, may-says}
use Rattle.tree_writer.proofs.Writer.row_answer.Goals as goal

pub overflow_add-self : goal.overflow_add-self
overflow_add-self c =
    let p = (may-says c.args.self c.args.buffer.now c.args.placed (tried-says _ _ c.in_ok-may_step.ensures)).could in
    omega (arith, c.if-n-gt-FILE_MOST.false)

pub overflow_add-self-2 : goal.overflow_add-self-2
overflow_add-self-2 c =
    let p = (may-says c.args.self c.args.buffer.now c.args.placed (tried-says _ _ c.in_ok-may_step.ensures)).could in
    omega arith

pub size_with-size-requires : goal.size_with-size-requires
size_with-size-requires c =
    let p = (may-says c.args.self c.args.buffer.now c.args.placed (tried-says _ _ c.in_ok-may_step.ensures)).could in
    omega (arith, c.if-n-gt-FILE_MOST.false)

pub blocks_with_row-requires : goal.blocks_with_row-requires
blocks_with_row-requires c =
    (may-says c.args.self c.args.buffer.now c.args.placed (tried-says _ _ c.in_ok-may_step.ensures)).could.blocks

pub overflow_add-self-3 : goal.overflow_add-self-3
overflow_add-self-3 c =
    let p = (may-says c.args.self c.args.buffer.now c.args.placed (tried-says _ _ c.in_ok-may_step.ensures)).could in
    omega arith
