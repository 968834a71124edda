-- The model among the children of the first argument (`color-there`), or none (`color-missing`).
use Rattle.mitex_syntax.proofs.Trees.{all-begins}
use Rattle.mitex_syntax.proofs.Places.{stands, nowhere}
use Rattle.mitex_colors.proofs.Models.{argument_rest, argument-left, color-missing, color-there}
use Rattle.mitex_colors.proofs.color_model.Goals as goal

pub returns-in_default : goal.returns-in_default
returns-in_default c = λ f sp. color-missing sp (nowhere (c.find_kind.ensures.finds f (all-begins sp)) c.in_default.is)

pub returns : goal.returns
returns c =
    let said = c.children_at.ensures in
    λ f sp.
    let s = stands (c.find_kind.ensures.finds f (all-begins sp)) c.in-Some.is in
    color-there s said.rows said.text (c.greedy_model.ensures (argument_rest s) (argument-left s said.rows said.text)) c.last_place-rest.ensures
