-- What is called with the writer that the numbers say is its step, so the whole is the step of the numbers (`steps-told`).
use Rattle.std.proofs.Common.{rules}
use Rattle.tree_writer.specs.Steps.{closes_node}
use Rattle.tree_writer.proofs.Numbers.{steps-told}
use Rattle.tree_writer.proofs.close_in.Goals as goal

pub returns : goal.returns
returns c =
    let e = c.with_writer.ensures in
    steps-told _ c.args.state.now c.args.buffer.now closes_node (λ w l r w' l' e. search rules) e.no_state e.stepped c.told.ensures
