-- The first argument under what `begin_part` found.
use Rattle.mitex_syntax.specs.Views.{begin_of}
use Rattle.mitex_syntax.proofs.Trees.{all-begins}
use Rattle.mitex_environments.proofs.table_argument.Goals as goal

pub returns : goal.returns
returns c = λ f sp. c.argument_text.ensures (begin_of f) (all-begins (c.begin_part.ensures.found f sp).spells)
