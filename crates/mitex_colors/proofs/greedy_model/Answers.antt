-- Scans and steps, one after the other, as the meaning has them (`held-passed`, `bare-passed`).
use mathlib.Core.Path.{sym, refl, ◌∙◌}
use mathlib.Core.List.{[]}
use borrow.Author.Tests.{ne_eqb}
use Rattle.mitex_syntax.specs.Views.{is_solid}
use Rattle.mitex_meaning.specs.Colors.{rest, seek, past_first}
use Rattle.mitex_colors.proofs.Scans.{some_left, is-none, is-some, left-none, left-kind, moved-text}
use Rattle.mitex_colors.proofs.Models.{bracket-models, bare-by, bare-end, bare-passed, held-passed, bracket_end}
use Rattle.mitex_colors.proofs.greedy_model.Goals as goal
use Rattle.mitex_colors.proofs.greedy_model.Goals.{then-is_empty-via-then-is_empty, then-is_empty-via-else-is_empty+then-first-ne-TOKEN_LBRACKET}

pub returns-then-is_empty : goal.returns-then-is_empty
returns-then-is_empty c =
    λ s l.
    let a = c.seek-first.ensures [] s l in
    bare-passed a
    (elim c.then-is_empty.branch [
      | then-is_empty-via-then-is_empty w ↦
          bare-end bracket-models (seek is_solid s) (left-none a.moved.there (is-none (sym c.is_empty.ensures ∙ w.if-is_empty.true)))
      | then-is_empty-via-else-is_empty+then-first-ne-TOKEN_LBRACKET w ↦
          bare-by bracket-models (seek is_solid s) (λ t f q. ne_eqb _ _ (λ e. w.if-first-ne-TOKEN_LBRACKET.true (left-kind a.moved.there t f q ∙ e)))
    ])

pub slice_bounds-text-count : goal.slice_bounds-text-count
slice_bounds-text-count c =
    let all = c.args.elements.some in
    let s = rest 0 all.forest in
    let a = c.seek-first.ensures _ s (some_left all) in
    let b = c.past_child-begin.ensures _ (seek is_solid s) a.moved.there in
    moved-text (c.seek-end.ensures _ (past_first (seek is_solid s)) b.moved.there).moved

pub returns : goal.returns
returns c =
    λ s l.
    let a = c.seek-first.ensures [] s l in
    let b = c.past_child-begin.ensures [] (seek is_solid s) a.moved.there in
    let d = c.seek-end.ensures [] (past_first (seek is_solid s)) b.moved.there in
    let e = c.past_child-beyond.ensures [] (bracket_end s) d.moved.there in
    held-passed _ a b d e (c.seek-behind.ensures [] (past_first (bracket_end s)) e.moved.there)
    (is-some (sym c.is_empty.ensures ∙ c.if-is_empty.false)) c.if-first-ne-TOKEN_LBRACKET.false refl
