-- A place that is there has the text that `ends_in` asks; one that is not leaves it free.
use mathlib.Core.Path.{ap, ◌∙◌}
use Rattle.mitex_syntax.specs.Views.{good_ends}
use Rattle.tree_file.proofs.Rules.{place-ends, place-free}
use Rattle.tree_file.proofs.bracket_fits.Goals as goal

pub returns-then-is_none : goal.returns-then-is_none
returns-then-is_none c = λ f sp. c.if-is_none.true ∙ place-free (c.argument_with-place.ensures.finds f sp) c.if-is_none.ensures

pub returns-else-is_none : goal.returns-else-is_none
returns-else-is_none c =
    λ f sp.
    c.good_ends.ensures ∙ ap good_ends c.text_at.ensures ∙ place-ends (c.argument_with-place.ensures.finds f sp) c.if-is_none.ensures
