-- `mitex_loops::first_span` meets its contract: no child (`none_apart`), or the size of the first (`some-apart`).
use Rattle.mitex_loops.proofs.FirstChild.{empty, some-left, head-spans, head-inside, none_apart, some-apart}
use Rattle.mitex_loops.proofs.first_span.Goals as goal

pub returns-then-is_empty-clause-parts : goal.returns-then-is_empty-clause-parts
returns-then-is_empty-clause-parts c = λ f sp. none_apart sp (empty _ c.is_empty.ensures c.if-is_empty.true)

pub span_at-requires : goal.span_at-requires
span_at-requires c = head-spans c.args.children.some (some-left _ c.is_empty.ensures c.if-is_empty.false)

pub returns-clause-inside : goal.returns-clause-inside
returns-clause-inside c =
    head-inside c.args.children.some (some-left _ c.is_empty.ensures c.if-is_empty.false) _ _ c.span_at.ensures.rows c.span_at.ensures.text

pub returns-clause-parts : goal.returns-clause-parts
returns-clause-parts c =
    let g = c.args.children.some in
    λ f sp. some-apart sp (some-left _ c.is_empty.ensures c.if-is_empty.false) g.few g.short _ c.span_at.ensures.rows c.span_at.ensures.text
