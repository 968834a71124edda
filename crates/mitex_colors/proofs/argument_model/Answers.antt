-- The first argument is a model (`argument-passed`) or there is none (`argument-bare`).
use mathlib.Core.Path.{refl, sym, ◌∙◌}
use mathlib.Core.List.{[]}
use native.Mathlib.Omega.{arith}
use Rattle.mitex_syntax.specs.Syntax.{ClauseArgument}
use Rattle.mitex_syntax.specs.Views.{is_of}
use Rattle.mitex_meaning.specs.Colors.{rest, seek, past_first}
use Rattle.mitex_colors.proofs.Scans.{some_left, exact-left, moved-text}
use Rattle.mitex_colors.proofs.Models.{model-found, whole, inner-cut, argument-bare, argument-passed}
use Rattle.mitex_colors.proofs.argument_model.Goals as goal

pub slice_bounds-argument-count : goal.slice_bounds-argument-count
slice_bounds-argument-count c =
    let all = c.args.children.some in
    let s = rest 1 all.forest in
    let a = c.seek-first.ensures _ s (some_left all) in
    moved-text (c.past_child-next.ensures _ (seek (is_of ClauseArgument) s) a.moved.there).moved

pub returns-then-is_model : goal.returns-then-is_model
returns-then-is_model c =
    λ f sp.
    let s = rest 1 f in
    let a = c.seek-first.ensures [] s (exact-left sp) in
    let b = c.past_child-next.ensures [] (seek (is_of ClauseArgument) s) a.moved.there in
    let d = c.seek-behind.ensures [] (past_first (seek (is_of ClauseArgument) s)) b.moved.there in
    model-found 0 _ 0 _ (omega arith) (omega arith) (omega arith) (omega arith) (whole _) (whole _)
    (argument-passed a b _ d (sym c.is_model.ensures ∙ c.if-is_model.true) (inner-cut _)) c.last_place-rest.ensures refl (omega arith)

pub returns : goal.returns
returns c =
    λ f sp.
    let s = rest 1 f in
    let a = c.seek-first.ensures [] s (exact-left sp) in
    let b = c.past_child-next.ensures [] (seek (is_of ClauseArgument) s) a.moved.there in
    model-found 0 _ 0 _ (omega arith) (omega arith) (omega arith) (omega arith) (whole _) (whole _)
    (argument-bare a b (sym c.is_model.ensures ∙ c.if-is_model.false)) c.last_place-rest-2.ensures refl (omega arith)
