use mathlib.Core.Path.{◌≡◌}
use mathlib.Core.Bool.{Bool}
use mathlib.Core.List.{List}
use Prim.Native.Nat.{ℕ, ◌≤◌, ◌<◌}
use native.Mathlib.Omega.{arith}
use lib.ListN.{length, take, drop}
use Rattle.mitex_syntax.specs.Tree.{Tree, Forest}
use Rattle.mitex_syntax.specs.Rows.{extent_of, token_sum}
use Rattle.mitex_syntax.specs.Spells.{Begins, SomeForest}
use Rattle.mitex_syntax.specs.Places.Placed.{missing, there}
use Rattle.mitex_syntax.proofs.Trees.{ChildPart, child-part, spans}
use Rattle.mitex_syntax.proofs.Places.{spot-in}
use Rattle.mitex_syntax.proofs.Seeking.{Seeks, seek-element, seek_found, seek-next, seek-none}
use Rattle.mitex_syntax.proofs.children.find.Goals as goal

-- in a turn of the loop there is an element: the child that `span_at` measures
kid :
    {p : Tree → Bool} {rows text : List ℕ} {i₀ j₀ i j e n : ℕ} (pre : SomeForest rows text i₀ j₀)
    → ((f : Forest) → Begins f (drop i₀ rows) (drop j₀ text) → Seeks p f rows text i₀ i j) → i < length rows → j ≤ length text
    → e ≡ extent_of (drop i rows) → n ≡ token_sum (take (extent_of (drop i rows)) (drop i rows)) → ChildPart rows text i j e n
kid pre seeks h hj is_e is_n = child-part (seek-element (seeks pre.forest pre.begins) h hj pre.few pre.short) _ _ is_e is_n

pub span_at-s-requires : goal.span_at-s-requires
span_at-s-requires c =
    let pre = c.requires in
    let inv = c.loop-i.invariant in
    spans (seek-element (inv.2 pre.forest pre.begins) c.loop-i-test.true inv.1 pre.few pre.short) pre.few pre.short

pub overflow_add-end : goal.overflow_add-end
overflow_add-end c =
    let inv = c.loop-i.invariant in
    let k = kid c.requires inv.2 c.loop-i-test.true inv.1 c.span_at-s.ensures.rows c.span_at-s.ensures.text in
    let z = k.end in
    let y = c.requires.few in omega arith

pub overflow_add-to : goal.overflow_add-to
overflow_add-to c =
    let inv = c.loop-i.invariant in
    let k = kid c.requires inv.2 c.loop-i-test.true inv.1 c.span_at-s.ensures.rows c.span_at-s.ensures.text in
    let z = k.stop in omega arith

pub slice_bounds-is_wanted-end : goal.slice_bounds-is_wanted-end
slice_bounds-is_wanted-end c =
    let inv = c.loop-i.invariant in
    let k = kid c.requires inv.2 c.loop-i-test.true inv.1 c.span_at-s.ensures.rows c.span_at-s.ensures.text in
    let z = k.end in omega arith

pub is_wanted-requires : goal.is_wanted-requires
is_wanted-requires c =
    let inv = c.loop-i.invariant in
    let g = (kid c.requires inv.2 c.loop-i-test.true inv.1 c.span_at-s.ensures.rows c.span_at-s.ensures.text).given in
    record { tree = g.tree; rows_are = g.spells.rows_are }

pub returns-then-is_wanted-clause-finds : goal.returns-then-is_wanted-clause-finds
returns-then-is_wanted-clause-finds c =
    let inv = c.loop-i.invariant in
    let pre = c.requires in
    λ f sp. there (seek_found (inv.2 f sp) c.loop-i-test.true inv.1 pre.few pre.short _ _ c.span_at-s.ensures.rows
    c.span_at-s.ensures.text c.is_wanted.ensures c.if-is_wanted.true)

pub returns-then-is_wanted-clause-found : goal.returns-then-is_wanted-clause-found
returns-then-is_wanted-clause-found c =
    let inv = c.loop-i.invariant in
    let pre = c.requires in
    spot-in (seek_found (inv.2 pre.forest pre.begins) c.loop-i-test.true inv.1 pre.few pre.short _ _ c.span_at-s.ensures.rows
    c.span_at-s.ensures.text c.is_wanted.ensures c.if-is_wanted.true)

pub loop-i-preserved : goal.loop-i-preserved
loop-i-preserved c =
    let inv = c.loop-i.invariant in
    let pre = c.requires in
    let k = kid pre inv.2 c.loop-i-test.true inv.1 c.span_at-s.ensures.rows c.span_at-s.ensures.text in (
      k.end,
      k.stop,
      λ f sp. seek-next (inv.2 f sp) c.loop-i-test.true inv.1 pre.few pre.short _ _ c.span_at-s.ensures.rows
          c.span_at-s.ensures.text c.is_wanted.ensures c.if-is_wanted.false,
    )

pub returns-clause-finds : goal.returns-clause-finds
returns-clause-finds c = λ f sp. missing (seek-none (c.loop-i.invariant.2 f sp) c.loop-i-test.false)
