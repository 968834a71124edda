-- `last_token`: a turn goes over an element or into the last (`last-next`), until the row that stands last of all is left.
use mathlib.Core.Path.{◌≡◌, refl, sym, subst₂}
use mathlib.Core.List.{List}
use Prim.Native.Nat.{ℕ, ◌≤◌, ◌<◌, ◌-◌}
use native.Mathlib.Omega.{arith}
use lib.ListN.{length, get_or, take, drop, length-take, length-drop}
use lib.Seq.{length-take-le, take-length}
use Rattle.text.specs.Writing.{cap}
use Rattle.text.proofs.Writing.{part-rest}
use Rattle.text.proofs.Slices.{part-at, part-of-part}
use Rattle.mitex_syntax.specs.Tree.{Forest}
use Rattle.mitex_syntax.specs.Rows.{num_of, Spans}
use Rattle.mitex_syntax.specs.Spells.{Begins, SomeForest}
use Rattle.mitex_syntax.specs.Places.{LastHop}
use Rattle.mitex_syntax.specs.declared.Span.{Span}
use Rattle.mitex_syntax.proofs.Tokens.{Lasts, LastSteps, last-spans, last-next, last-inside, last_found, last-bare, last-start, last_none, token-none}
use Rattle.mitex_syntax.proofs.children.Children.last_token.Goals as goal
use Rattle.mitex_syntax.proofs.children.Children.last_token.Goals.{else-rows-eq8-via-then-rows-eq8+else-rows-eq1, else-rows-eq8-via-else-rows-eq8}

-- what is left, in a turn
module _ {rows text l r : List ℕ} (pre : SomeForest rows text 0 0) (few : length l < cap) (short : length r < cap)
    (left : (f : Forest) → Begins f rows text → Lasts f l r) where
  asks : 8 < length l → Spans l 0
  asks h = last-spans (left pre.forest pre.begins) (omega arith) few short

  steps : 8 < length l → {s : Span} → LastHop l 0 s → LastSteps pre.forest l r s
  steps h {s} hop = last-next (left pre.forest pre.begins) (omega arith) few short s hop h

  text-here : length l ≡ 8 → {n : ℕ} → n ≡ num_of l → get_or l 1 0 ≡ 1 → n ≤ length r
  text-here q {n} is_n m = last-inside (left pre.forest pre.begins) (omega arith) few short q n is_n m

smaller : (l : List ℕ) (n : ℕ) → 8 ≤ n → n ≤ length l → length (take (length l - n) (drop n l)) < length l
smaller l n some h = simp (length-take, length-drop) (omega arith)

rest_few : (l : List ℕ) (n : ℕ) → length l < cap → length (take (length l - n) (drop n l)) < cap
rest_few l n h = simp (length-take, length-drop) (omega arith)

lasts-rest :
    {f : Forest} (l r : List ℕ) (s : Span) → Lasts f (drop s.rows l) (drop s.text r)
    → Lasts f (take (length l - s.rows) (drop s.rows l)) (take (length r - s.text) (drop s.text r))
lasts-rest {f} l r s w = subst₂ (Lasts f) (sym (part-rest l s.rows)) (sym (part-rest r s.text)) w

pub loop-rows-init : goal.loop-rows-init
loop-rows-init c =
    let pre = c.args.self.some in
    let text = c.args.self.text.now in
    (pre.few, pre.short, λ f sp. last-start f _ _ sp, part-at 0 (length text) (omega arith) (sym (take-length text)))

pub hop-s-requires : goal.hop-s-requires
hop-s-requires c =
    let inv = c.loop-rows.invariant in asks c.args.self.some inv.0 inv.1 inv.2 (omega (arith, c.loop-rows-test.true))

pub slice_bounds-rows-count : goal.slice_bounds-rows-count
slice_bounds-rows-count c =
    let inv = c.loop-rows.invariant in (steps c.args.self.some inv.0 inv.1 inv.2 (omega (arith, c.loop-rows-test.true)) c.hop-s.ensures).end

pub slice_bounds-rows-start : goal.slice_bounds-rows-start
slice_bounds-rows-start c =
    let inv = c.loop-rows.invariant in
    let z = (steps c.args.self.some inv.0 inv.1 inv.2 (omega (arith, c.loop-rows-test.true)) c.hop-s.ensures).end in omega arith

pub slice_bounds-text-count : goal.slice_bounds-text-count
slice_bounds-text-count c =
    let inv = c.loop-rows.invariant in (steps c.args.self.some inv.0 inv.1 inv.2 (omega (arith, c.loop-rows-test.true)) c.hop-s.ensures).stop

pub slice_bounds-text-start : goal.slice_bounds-text-start
slice_bounds-text-start c =
    let inv = c.loop-rows.invariant in
    let z = (steps c.args.self.some inv.0 inv.1 inv.2 (omega (arith, c.loop-rows-test.true)) c.hop-s.ensures).stop in omega arith

pub loop-rows-smaller : goal.loop-rows-smaller
loop-rows-smaller c =
    let inv = c.loop-rows.invariant in
    let s = steps c.args.self.some inv.0 inv.1 inv.2 (omega (arith, c.loop-rows-test.true)) c.hop-s.ensures in
    smaller c.loop-rows.rows.now c.hop-s.result.rows s.some s.end

pub loop-rows-preserved : goal.loop-rows-preserved
loop-rows-preserved c =
    let inv = c.loop-rows.invariant in (
      rest_few c.loop-rows.rows.now c.hop-s.result.rows inv.0,
      rest_few c.loop-rows.text.now c.hop-s.result.text inv.1,
      λ f sp. lasts-rest c.loop-rows.rows.now c.loop-rows.text.now c.hop-s.result
          (last-next (inv.2 f sp) (omega (arith, c.loop-rows-test.true)) inv.0 inv.1 c.hop-s.result c.hop-s.ensures (omega (arith, c.loop-rows-test.true))).lasts,
      part-of-part
          (part-at c.hop-s.result.text (length c.loop-rows.text.now - c.hop-s.result.text)
          (steps c.args.self.some inv.0 inv.1 inv.2 (omega (arith, c.loop-rows-test.true)) c.hop-s.ensures).stop refl)
          inv.3,
    )

pub slice_bounds-result-end : goal.slice_bounds-result-end
slice_bounds-result-end c =
    let inv = c.loop-rows.invariant in
    sym (length-take-le _ c.loop-rows.text.now
    (text-here c.args.self.some inv.0 inv.1 inv.2 c.if-rows-eq8.true c.number.ensures.0 c.if-rows-eq1.true))

pub returns-then-rows-eq1-clause-token : goal.returns-then-rows-eq1-clause-token
returns-then-rows-eq1-clause-token c =
    let inv = c.loop-rows.invariant in
    let q = c.if-rows-eq8.true in
    λ f sp. last_found (inv.2 f sp) (omega arith) inv.0 inv.1 q _ c.number.ensures.0 c.if-rows-eq1.true _ refl refl

pub returns-then-rows-eq1-clause-inside : goal.returns-then-rows-eq1-clause-inside
returns-then-rows-eq1-clause-inside c = part-of-part (part-at 0 c.number.result (omega arith) refl) c.loop-rows.invariant.3

pub returns-clause-token : goal.returns-clause-token
returns-clause-token c =
    let inv = c.loop-rows.invariant in
    elim c.else-rows-eq8.branch [
      | else-rows-eq8-via-then-rows-eq8+else-rows-eq1 w ↦
          let q = w.if-rows-eq8.true in
          λ f sp. token-none (last-bare (inv.2 f sp) (omega arith) inv.0 inv.1 q w.if-rows-eq1.false)
      | else-rows-eq8-via-else-rows-eq8 w ↦
          let ne = w.if-rows-eq8.false in
          let le = c.loop-rows-test.false in
          λ f sp. token-none (last_none (inv.2 f sp) (omega (arith, ne)))
    ]
