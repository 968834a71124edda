-- Where the answer by its tests is 0, the row fits, and the writer and the buffer are those after the step.
use Rattle.tree_writer.specs.Steps.{opens_node}
use Rattle.tree_writer.proofs.Answers.{refuses, accepts, writer-open, buffer-open}
use Rattle.std.proofs.Common.{rules}
use Rattle.tree_writer.proofs.Writer.open_node.Goals as goal

pub returns-in_err-row_answer : goal.returns-in_err-row_answer
returns-in_err-row_answer c =
    let args = c.args in
    refuses args.self.now args.buffer.now (opens_node args.kind) c.open_placed.ensures c.in_err-row_answer.ensures (search rules)

pub returns : goal.returns
returns c =
    let w = c.args.self.now in
    let b = c.args.buffer.now in
    accepts w b (opens_node c.args.kind) c.open_placed.ensures c.in_ok-row_answer.ensures
    (writer-open w b c.args.kind c.blocks_with_row.ensures)
    (buffer-open w b c.args.kind c.put_row.ensures)
