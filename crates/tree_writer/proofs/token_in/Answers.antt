-- What is called with the writer that the numbers say is its step, so the whole is the step of the numbers (`steps-told`).
use Rattle.std.proofs.Common.{rules}
use Rattle.tree_writer.specs.Steps.{adds_token}
use Rattle.tree_writer.proofs.Numbers.{steps-told}
use Rattle.tree_writer.proofs.token_in.Goals as goal

pub returns : goal.returns
returns c =
    let e = c.with_writer.ensures in
    steps-told _ c.args.state.now c.args.buffer.now (adds_token c.args.kind c.args.s.now) (λ w l r w' l' e. search rules) e.no_state e.stepped c.told.ensures
