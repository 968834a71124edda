-- `is_argument_with`: the test on the first byte and on the first node under it (`wanted-argument`, `wanted-other`).
use mathlib.Core.Path.{ap, ◌∙◌}
use native.Mathlib.Omega.{arith}
use borrow.Author.Tests.{ne_eqb}
use Rattle.std.specs.Prelude.{ℕ, Option, unwrap_or}
use Rattle.mitex_syntax.specs.Views.{children_of, first_node}
use Rattle.mitex_syntax.proofs.Seeking.{children-rows, kind-or-none, wanted-argument, wanted-other, element-eight}
use Rattle.mitex_syntax.proofs.is_argument_with.Goals as goal

pub bounds-rows-0 : goal.bounds-rows-0
bounds-rows-0 c = omega (arith, element-eight c.requires.tree _ c.requires.rows_are)

pub slice_bounds-first_node_kind-count : goal.slice_bounds-first_node_kind-count
slice_bounds-first_node_kind-count c = omega (arith, element-eight c.requires.tree _ c.requires.rows_are)

pub slice_bounds-first_node_kind-start : goal.slice_bounds-first_node_kind-start
slice_bounds-first_node_kind-start c = omega (arith, element-eight c.requires.tree _ c.requires.rows_are)

pub first_node_kind-requires : goal.first_node_kind-requires
first_node_kind-requires c =
    let pre = c.requires in
    record { forest = children_of pre.tree; rows_are = children-rows pre.tree _ pre.rows_are }

pub returns-then-rows-eq-CLAUSE_ARGUMENT : goal.returns-then-rows-eq-CLAUSE_ARGUMENT
returns-then-rows-eq-CLAUSE_ARGUMENT c =
    λ t e. wanted-argument t _ e c.args.kind _ c.if-rows-eq-CLAUSE_ARGUMENT.true
    (c.unwrap_or.ensures ∙ ap (λ (r : Option ℕ). unwrap_or r 0) (c.first_node_kind.ensures (children_of t) (children-rows t _ e))
    ∙ kind-or-none (first_node (children_of t)))

pub returns-else-rows-eq-CLAUSE_ARGUMENT : goal.returns-else-rows-eq-CLAUSE_ARGUMENT
returns-else-rows-eq-CLAUSE_ARGUMENT c =
    λ t e. ne_eqb _ _ c.if-rows-eq-CLAUSE_ARGUMENT.false ∙ wanted-other t _ e c.args.kind c.if-rows-eq-CLAUSE_ARGUMENT.false
