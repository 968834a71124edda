-- `mitex_images::found_argument` meets its contract: the text at the place of the argument (`place-text`), or none.
use mathlib.Core.Path.{ap, ◌∙◌}
use Rattle.utf8.specs.Trim.{trim}
use Rattle.mitex_syntax.specs.Views.{inner, argument_with}
use Rattle.mitex_syntax.proofs.Places.{place-text}
use Rattle.mitex_images.proofs.Splitting.{inner-text}
use Rattle.mitex_images.proofs.found_argument.Goals as goal

pub returns : goal.returns
returns c =
    λ f sp.
    c.trimmed_inner.ensures
    ∙ ap (λ s. trim (inner s)) (c.text_at.ensures ∙ place-text (c.argument_with.ensures.finds f sp))
    ∙ inner-text (argument_with c.args.kind f)
