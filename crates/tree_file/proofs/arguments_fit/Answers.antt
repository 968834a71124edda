-- The three names, in the order of `arguments_fit`.
use mathlib.Core.Path.{sym, ◌∙◌}
use Rattle.tree_file.proofs.arguments_fit.Goals as goal

pub returns-then-same : goal.returns-then-same
returns-then-same c = λ f sp. rw (sym c.same.ensures ∙ c.if-same.true) (c.label_fits.ensures f sp)

pub returns-then-same-2 : goal.returns-then-same-2
returns-then-same-2 c =
    λ f sp.
    rw (sym c.same.ensures ∙ c.if-same.false, sym c.same-2.ensures ∙ c.if-same-2.true)
    (c.image_fits.ensures f sp)

pub returns-then-same-3 : goal.returns-then-same-3
returns-then-same-3 c =
    let not-label = sym c.same.ensures ∙ c.if-same.false in
    let not-image = sym c.same-2.ensures ∙ c.if-same-2.false in
    λ f sp.
    rw (not-label, not-image, sym c.same-3.ensures ∙ c.if-same-3.true)
    (c.color_fits.ensures f sp)

pub returns : goal.returns
returns c =
    let not-label = sym c.same.ensures ∙ c.if-same.false in
    let not-image = sym c.same-2.ensures ∙ c.if-same-2.false in
    λ f sp. rw (not-label, not-image, sym c.same-3.ensures ∙ c.if-same-3.false)
