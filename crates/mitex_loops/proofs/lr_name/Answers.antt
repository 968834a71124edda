-- `mitex_loops::lr_name` meets its contract: the first child's text without its first byte (`name-apart`).
use mathlib.Core.Path.{◌∙◌}
use Rattle.mitex_loops.proofs.FirstChild.{name-apart}
use Rattle.mitex_loops.proofs.lr_name.Goals as goal

pub returns : goal.returns
returns c = λ f sp. c.past_first.ensures ∙ name-apart (c.first_span-first.ensures.parts f sp)
