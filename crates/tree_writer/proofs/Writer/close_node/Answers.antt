-- Whether the step may be tried is the answer; then the innermost row is in the buffer (`close-kept`).
use mathlib.Core.Path.{refl}
use native.Mathlib.Omega.{arith}
use Rattle.tree_writer.specs.Steps.{closes_node}
use Rattle.tree_writer.proofs.Answers.{tried-says, close-kept, refuses, accepts, writer-close, buffer-close}
use Rattle.std.proofs.Common.{rules}
use Rattle.tree_writer.proofs.Writer.close_node.Goals as goal

pub returns-in_err-may_step : goal.returns-in_err-may_step
returns-in_err-may_step c =
    refuses c.args.self.now c.args.buffer.now closes_node refl c.in_err-may_step.ensures (search rules)

pub overflow_add-place : goal.overflow_add-place
overflow_add-place c =
    let k = close-kept c.args.self.now c.args.buffer.now (tried-says _ _ c.in_ok-may_step.ensures) in omega arith

pub overflow_mul-place : goal.overflow_mul-place
overflow_mul-place c =
    let k = close-kept c.args.self.now c.args.buffer.now (tried-says _ _ c.in_ok-may_step.ensures) in omega arith

pub overflow_sub-place : goal.overflow_sub-place
overflow_sub-place c =
    let k = close-kept c.args.self.now c.args.buffer.now (tried-says _ _ c.in_ok-may_step.ensures) in omega arith

pub number_at-inner-requires : goal.number_at-inner-requires
number_at-inner-requires c =
    let k = close-kept c.args.self.now c.args.buffer.now (tried-says _ _ c.in_ok-may_step.ensures) in omega arith

pub overflow_sub-self : goal.overflow_sub-self
overflow_sub-self c =
    let k = close-kept c.args.self.now c.args.buffer.now (tried-says _ _ c.in_ok-may_step.ensures) in omega arith

pub overflow_sub-self-2 : goal.overflow_sub-self-2
overflow_sub-self-2 c =
    let k = close-kept c.args.self.now c.args.buffer.now (tried-says _ _ c.in_ok-may_step.ensures) in omega arith

pub put_number-requires : goal.put_number-requires
put_number-requires c =
    let k = close-kept c.args.self.now c.args.buffer.now (tried-says _ _ c.in_ok-may_step.ensures) in omega arith

pub returns : goal.returns
returns c =
    let w = c.args.self.now in
    let b = c.args.buffer.now in
    accepts w b closes_node refl c.in_ok-may_step.ensures
    (writer-close w b c.number_at-inner.ensures)
    (buffer-close w b c.put_number.ensures)
