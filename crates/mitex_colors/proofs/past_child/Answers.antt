-- The first element, if there is one, has the rows and the text that its rows say (`first-passed`).
use mathlib.Core.Path.{sym, ◌∙◌}
use Rattle.mitex_meaning.specs.Colors.{rest}
use Rattle.mitex_colors.proofs.Scans.{some_left, is-none, is-some, first-passed-none, first-passed-spans, first-passed, first-high, first-stop, past-some}
use Rattle.mitex_colors.proofs.past_child.Goals as goal

pub returns-then-is_empty : goal.returns-then-is_empty
returns-then-is_empty c = λ tail s l. first-passed-none s l (is-none (sym c.is_empty.ensures ∙ c.if-is_empty.true))

pub span_at-first-requires : goal.span_at-first-requires
span_at-first-requires c =
    let all = c.args.elements.some in
    first-passed-spans (rest 0 all.forest) (some_left all) (is-some (sym c.is_empty.ensures ∙ c.if-is_empty.false)) all.few all.short

-- the part past the first element begins where it ends
pub slice_bounds-result-count : goal.slice_bounds-result-count
slice_bounds-result-count c =
    let all = c.args.elements.some in
    let said = c.span_at-first.ensures in
    first-high (rest 0 all.forest) (some_left all) (is-some (sym c.is_empty.ensures ∙ c.if-is_empty.false)) all.few all.short _ _ said.rows said.text

pub slice_bounds-result-start : goal.slice_bounds-result-start
slice_bounds-result-start c =
    let all = c.args.elements.some in
    let said = c.span_at-first.ensures in
    first-high (rest 0 all.forest) (some_left all) (is-some (sym c.is_empty.ensures ∙ c.if-is_empty.false)) all.few all.short _ _ said.rows said.text

pub slice_bounds-result-count-2 : goal.slice_bounds-result-count-2
slice_bounds-result-count-2 c =
    let all = c.args.elements.some in
    let said = c.span_at-first.ensures in
    first-stop (rest 0 all.forest) (some_left all) (is-some (sym c.is_empty.ensures ∙ c.if-is_empty.false)) all.few all.short _ _ said.rows said.text

pub slice_bounds-result-start-2 : goal.slice_bounds-result-start-2
slice_bounds-result-start-2 c =
    let all = c.args.elements.some in
    let said = c.span_at-first.ensures in
    first-stop (rest 0 all.forest) (some_left all) (is-some (sym c.is_empty.ensures ∙ c.if-is_empty.false)) all.few all.short _ _ said.rows said.text

pub invariant_of-result : goal.invariant_of-result
invariant_of-result c =
    let all = c.args.elements.some in
    let said = c.span_at-first.ensures in
    record {
      some = past-some (rest 0 all.forest) (some_left all) (is-some (sym c.is_empty.ensures ∙ c.if-is_empty.false)) all.few all.short _ _ said.rows said.text;
    }

pub returns : goal.returns
returns c =
    let all = c.args.elements.some in
    let said = c.span_at-first.ensures in
    λ tail s l. first-passed s l (is-some (sym c.is_empty.ensures ∙ c.if-is_empty.false)) all.few all.short _ _ said.rows said.text
