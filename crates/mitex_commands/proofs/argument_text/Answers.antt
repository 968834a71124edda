-- The text at the place of the first argument (`place-text`).
use mathlib.Core.Path.{◌∙◌}
use Rattle.mitex_syntax.proofs.Places.{place-text}
use Rattle.mitex_commands.proofs.argument_text.Goals as goal

pub returns : goal.returns
returns c = λ f sp. c.text_at.ensures ∙ place-text (c.find_kind.ensures.finds f sp)
