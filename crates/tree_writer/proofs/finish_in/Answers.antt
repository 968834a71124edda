-- What is called with the writer that the numbers say is its step, so the whole is the step of the numbers (`steps-told`, `length-told`).
use mathlib.Core.Path.{◌∙◌}
use Rattle.std.proofs.Common.{rules}
use Rattle.tree_writer.specs.Steps.{finishes}
use Rattle.tree_writer.proofs.Numbers.{steps-told, length-told}
use Rattle.tree_writer.proofs.finish_in.Goals as goal

pub file_length-requires : goal.file_length-requires
file_length-requires c =
    let e = c.with_writer-answer.ensures in
    (length-told _ c.args.state.now c.args.buffer.now (λ w l r w' l' e. search rules) e.no_state e.stepped).short

pub returns-clause-steps_in : goal.returns-clause-steps_in
returns-clause-steps_in c =
    let e = c.with_writer-answer.ensures in
    steps-told _ c.args.state.now c.args.buffer.now finishes (λ w l r w' l' e. search rules) e.no_state e.stepped c.told.ensures

pub returns-clause-place_after : goal.returns-clause-place_after
returns-clause-place_after c =
    let e = c.with_writer-answer.ensures in
    c.file_length.ensures ∙ (length-told _ c.args.state.now c.args.buffer.now (λ w l r w' l' e. search rules) e.no_state e.stepped).length
