-- Whether the step may be tried is the answer; then the file fits the buffer (`finish-kept`).
use Rattle.tree_writer.specs.Steps.{finishes}
use Rattle.tree_writer.proofs.Answers.{tried-says, finish-kept, refuses, accepts, writer-finish, buffer-finish}
use Rattle.std.proofs.Common.{rules}
use Rattle.tree_writer.proofs.Writer.finish_file.Goals as goal

pub returns-in_err-may_step : goal.returns-in_err-may_step
returns-in_err-may_step c =
    refuses c.args.self.now c.args.buffer.now finishes c.finish_placed.ensures c.in_err-may_step.ensures (search rules)

pub put_file-requires : goal.put_file-requires
put_file-requires c =
    let k = finish-kept c.args.self.now c.args.buffer.now c.finish_placed.ensures (tried-says _ _ c.in_ok-may_step.ensures) in
    (k.fits, k.small)

pub returns : goal.returns
returns c =
    let w = c.args.self.now in
    let b = c.args.buffer.now in
    accepts w b finishes c.finish_placed.ensures c.in_ok-may_step.ensures
    (writer-finish w b)
    (buffer-finish w b c.put_file.ensures)
