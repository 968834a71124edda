-- `name_tok`: the text of what was found, for each forest that is spelt.
use mathlib.Core.Path.{◌∙◌}
use Rattle.mitex_syntax.proofs.Places.{place-text}
use Rattle.mitex_syntax.proofs.children.Children.name_tok.Goals as goal

pub returns : goal.returns
returns c = λ f sp. c.text_at.ensures ∙ place-text (c.find_kind.ensures.finds f sp)
