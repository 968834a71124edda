-- A place is there where an argument is (`place-there`).
use mathlib.Core.Path.{◌∙◌}
use Rattle.tree_file.proofs.Rules.{place-there}
use Rattle.tree_file.proofs.color_fits.Goals as goal

pub returns : goal.returns
returns c = λ f sp. c.is_some.ensures ∙ place-there (c.find_kind.ensures.finds f sp)
