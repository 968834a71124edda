-- Where the answer by its tests is 0, the row fits, and the writer and the buffer are those after the step.
use Rattle.tree_writer.specs.Steps.{adds_token}
use Rattle.tree_writer.proofs.Answers.{refuses, accepts, writer_token, buffer-token}
use Rattle.std.proofs.Common.{rules}
use Rattle.tree_writer.proofs.Writer.add_token.Goals as goal

pub returns-in_err-row_answer : goal.returns-in_err-row_answer
returns-in_err-row_answer c =
    let args = c.args in
    refuses args.self.now args.buffer.now (adds_token args.kind args.s.now) c.token_placed.ensures c.in_err-row_answer.ensures
    (search rules)

pub returns : goal.returns
returns c =
    let w = c.args.self.now in
    let b = c.args.buffer.now in
    let s = c.args.s.now in
    accepts w b (adds_token c.args.kind s) c.token_placed.ensures c.in_ok-row_answer.ensures
    (writer_token w b c.args.kind s c.blocks_with_row.ensures)
    (buffer-token w b c.args.kind s c.put_bytes.ensures c.put_row.ensures)
