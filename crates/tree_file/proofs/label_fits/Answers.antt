-- The text at the place of the first argument is what `good_ends` is asked (`place-text`).
use mathlib.Core.Path.{ap, ◌∙◌}
use Rattle.mitex_syntax.proofs.Places.{place-text}
use Rattle.mitex_syntax.specs.Views.{good_ends}
use Rattle.tree_file.proofs.label_fits.Goals as goal

pub returns : goal.returns
returns c = λ f sp. c.good_ends.ensures ∙ ap good_ends (c.text_at.ensures ∙ place-text (c.find_kind.ensures.finds f sp))
