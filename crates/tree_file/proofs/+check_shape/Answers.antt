use native.Mathlib.Omega.{arith}
use mathlib.Core.Path.{◌≡◌, sym, ap, ◌∙◌}
use Prim.Native.Nat.{ℕ, ◌<◌}
use Rattle.std.specs.Prelude.{Err}
use lib.ListN.{length, get_or}
use lib.Seq.{length-take-le}
use Rattle.mitex_syntax.specs.Tree.{Tree}
use Rattle.mitex_syntax.specs.Spells.{Spells}
use Rattle.mitex_syntax.specs.Views.{children_of}
use Rattle.mitex_syntax.proofs.Trees.{rows-some, children-part}
use Rattle.tree_file.specs.Shape.{node_fits}
use Rattle.tree_file.proofs.Shapes.{some-left, none-left, handed-on, shape-token, unless-breaks, unless-right, node-breaks, asked-forest}
use Rattle.tree_file.proofs.Scanning.{Spanned}
use Rattle.tree_file.proofs.Children.{shape-loop-start, shape-loop-end, shape-loop-spans}
use Rattle.tree_file.proofs.Children.{child-end, child-stop, child-asks, child-breaks, child-next}
use Rattle.tree_file.proofs.+check_shape.Goals.{After-node_fits, After-span_at-s}
use Rattle.tree_file.proofs.+check_shape.Goals as goal

-- whether the node may be over its children
fits : (t : ℕ) (c : After-node_fits t) (u : Tree) → Spells u c.args.rows.now c.args.text.now → c.node_fits.result ≡ node_fits (get_or c.args.rows.now 0 0) (children_of u)
fits t c u sp = c.node_fits.ensures (children_of u) (children-part u sp)

-- a child is left
some_here : (t : ℕ) (c : After-span_at-s t) → 0 < length c.loop-l.l.now
some_here t c = some-left c.loop-l.l.now c.is_empty.result c.is_empty.ensures c.loop-l-test.true

spanned : (t : ℕ) (c : After-span_at-s t) → Spanned c.loop-l.l.now c.span_at-s.result.rows c.span_at-s.result.text
spanned t c = let s = c.span_at-s.ensures in record { is_e = s.rows; is_n = s.text }

pub bounds-rows-0 : goal.bounds-rows-0
bounds-rows-0 t c = let h = rows-some c.requires.given.spells in omega arith

pub bounds-rows-1 : goal.bounds-rows-1
bounds-rows-1 t c = let h = rows-some c.requires.given.spells in omega arith

pub returns-then-rows-eq1 : goal.returns-then-rows-eq1
returns-then-rows-eq1 t c =
    let a = c.args in
    λ u sp. shape-token u a.up a.row _ _ sp c.if-rows-eq1.true c.sym_fits.result c.sym_fits.ensures c.unless.result c.unless.ensures

pub slice_bounds-children-count : goal.slice_bounds-children-count
slice_bounds-children-count t c = rows-some c.requires.given.spells

pub slice_bounds-children-start : goal.slice_bounds-children-start
slice_bounds-children-start t c = rows-some c.requires.given.spells

pub invariant_of-children : goal.invariant_of-children
invariant_of-children t c = record { some = asked-forest c.requires }

pub returns-in_err-unless : goal.returns-in_err-unless
returns-in_err-unless t c =
    let at = (goal.at.returns-in_err-unless t c).After-node_fits in
    let a = c.args in
    let r = c.in_err-unless.field-0.0 in
    let p = unless-breaks c.node_fits.result a.row r c.unless-2.result c.unless-2.ensures c.in_err-unless.was in
    λ u sp.
    handed-on c.from_residual.result r c.from_residual.ensures.1 ∙ sym (ap Err p.1)
    ∙ node-breaks sp c.if-rows-eq1.false a.up a.row c.node_fits.result (fits t at u sp) p.0

pub loop-l-init : goal.loop-l-init
loop-l-init t c =
    let at = (goal.at.loop-l-init t c).After-node_fits in
    let fine = unless-right c.node_fits.result c.args.row c.unless-2.result c.unless-2.ensures c.in_ok-unless.was in
    shape-loop-start c.requires c.if-rows-eq1.false (λ u sp. sym (fits t at u sp) ∙ fine)

pub span_at-s-requires : goal.span_at-s-requires
span_at-s-requires t c = shape-loop-spans c.loop-l.invariant (some-left c.loop-l.l.now c.is_empty.result c.is_empty.ensures c.loop-l-test.true)

pub slice_bounds-check_shape-end : goal.slice_bounds-check_shape-end
slice_bounds-check_shape-end t c =
    let at = (goal.at.slice_bounds-check_shape-end t c).After-span_at-s in
    sym (length-take-le _ _ (child-end c.loop-l.invariant (some_here t at) _ _ (spanned t at)))

pub slice_bounds-check_shape-end-in-loop-l : goal.slice_bounds-check_shape-end-in-loop-l
slice_bounds-check_shape-end-in-loop-l t c =
    let at = (goal.at.slice_bounds-check_shape-end-in-loop-l t c).After-span_at-s in
    sym (length-take-le _ _ (child-stop c.loop-l.invariant (some_here t at) _ _ (spanned t at)))

pub check_shape-requires : goal.check_shape-requires
check_shape-requires t c =
    let at = (goal.at.check_shape-requires t c).After-span_at-s in
    let w = c.loop-l.invariant in
    let e = c.span_at-s.result.rows in
    let end = child-end w (some_here t at) _ _ (spanned t at) in
    let past = w.past in
    let place = w.place in
    (omega (arith, length-take-le e c.loop-l.l.now end), child-asks w (some_here t at) _ _ (spanned t at))

pub returns-in_err-check_shape : goal.returns-in_err-check_shape
returns-in_err-check_shape t c =
    let at = (goal.at.returns-in_err-check_shape t c).After-span_at-s in
    let r = c.in_err-check_shape.field-0.0 in
    let v = c.from_residual-in_err-check_shape in
    λ u sp.
    handed-on v.result r v.ensures.1
    ∙ child-breaks c.loop-l.invariant (some_here t at) _ _ (spanned t at) c.check_shape.result c.check_shape.ensures r c.in_err-check_shape.was u sp

pub slice_bounds-l-count : goal.slice_bounds-l-count
slice_bounds-l-count t c =
    let at = (goal.at.slice_bounds-l-count t c).After-span_at-s in
    child-end c.loop-l.invariant (some_here t at) _ _ (spanned t at)

pub slice_bounds-l-start : goal.slice_bounds-l-start
slice_bounds-l-start t c =
    let at = (goal.at.slice_bounds-l-start t c).After-span_at-s in
    child-end c.loop-l.invariant (some_here t at) _ _ (spanned t at)

pub slice_bounds-t-count : goal.slice_bounds-t-count
slice_bounds-t-count t c =
    let at = (goal.at.slice_bounds-t-count t c).After-span_at-s in
    child-stop c.loop-l.invariant (some_here t at) _ _ (spanned t at)

pub slice_bounds-t-start : goal.slice_bounds-t-start
slice_bounds-t-start t c =
    let at = (goal.at.slice_bounds-t-start t c).After-span_at-s in
    child-stop c.loop-l.invariant (some_here t at) _ _ (spanned t at)

pub loop-l-preserved : goal.loop-l-preserved
loop-l-preserved t c =
    let at = (goal.at.loop-l-preserved t c).After-span_at-s in
    child-next c.loop-l.invariant (some_here t at) _ _ (spanned t at) c.check_shape.result c.check_shape.ensures c.in_ok-check_shape.was

pub returns : goal.returns
returns t c = λ u sp. shape-loop-end c.loop-l.invariant (none-left c.loop-l.l.now c.is_empty.result c.is_empty.ensures c.loop-l-test.false) u sp
