-- The three tests of `image_fits`, in its order; the last is found.
use mathlib.Core.Path.{◌≡◌, sym, ap, ◌∙◌}
use mathlib.Core.Bool.{true, false, not}
use Rattle.mitex_syntax.specs.Syntax.{ItemCurly}
use Rattle.mitex_syntax.specs.Views.{text_in, argument_with, good_ends}
use Rattle.tree_file.specs.Shape.{is_some, image_fits}
use Rattle.tree_file.proofs.Rules.{place-there}
use Rattle.tree_file.proofs.image_fits.Goals.{then-is_none, else-is_none}
use Rattle.tree_file.proofs.image_fits.Goals as goal

pub returns-else-curly_fits : goal.returns-else-curly_fits
returns-else-curly_fits c =
    λ f sp.
    let there = sym (place-there (c.argument_with.ensures.finds f sp)) ∙ c.is_none.ensures in
    let fits : false ≡ image_fits f = elim c.if-is_none.branch [
      | then-is_none w ↦
          let none : is_some (argument_with 0 f) ≡ false = there ∙ ap not w.if-is_none.true in
          let ends : good_ends (text_in (argument_with ItemCurly f)) ≡ false = sym (w.curly_fits.ensures f sp) ∙ sym w.value-is ∙ c.if-curly_fits.false in
          rw (none, ends)
      | else-is_none w ↦ let some : is_some (argument_with 0 f) ≡ true = there ∙ ap not w.if-is_none.false in rw some
    ] in
    c.if-curly_fits.false ∙ fits
