-- `first_token`: a turn looks at the first row that is left; a token's text begins the text, and a node's children are gone into.
use mathlib.Core.Path.{◌≡◌, refl, sym}
use mathlib.Core.List.{List}
use Prim.Native.Nat.{ℕ, ◌≤◌, ◌<◌, ◌+◌, ◌*◌}
use native.Mathlib.Omega.{arith}
use lib.ListN.{length, get_or, length-take, length-drop}
use lib.Seq.{length-take-le}
use Rattle.text.specs.Writing.{cap}
use Rattle.text.proofs.Slices.{part-at}
use Rattle.mitex_syntax.specs.Tree.{Forest}
use Rattle.mitex_syntax.specs.Rows.{num_of}
use Rattle.mitex_syntax.specs.Spells.{Begins, SomeForest}
use Rattle.mitex_syntax.proofs.Tokens.{Firsts, some-left, none-left, first-eight, first-inside, first_found, first-into, first-none, token-none}
use Rattle.mitex_syntax.proofs.children.Children.first_token.Goals as goal

-- what is left, in a turn
module _ {rows text l : List ℕ} (pre : SomeForest rows text 0 0) (left : (f : Forest) → Begins f rows text → Firsts f l text) (h : 0 < length l) where
  row-here : 8 ≤ length l
  row-here = first-eight (left pre.forest pre.begins) h

  module _ (few : length l < cap) {n : ℕ} (is_n : n ≡ num_of l) where
    text-here : get_or l 1 0 ≡ 1 → n ≤ length text
    text-here m = first-inside (left pre.forest pre.begins) h few pre.short n is_n m

    whole : (get_or l 1 0 ≡ 1 → ⊥) → 8 + 8 * n ≤ length l
    whole m = (first-into (left pre.forest pre.begins) h few pre.short n is_n m).0

pub number-n-requires : goal.number-n-requires
number-n-requires c = row-here c.args.self.some c.loop-rows.invariant.1 (some-left _ c.loop-rows-test.ensures)

pub bounds-rows-1 : goal.bounds-rows-1
bounds-rows-1 c = omega (arith, row-here c.args.self.some c.loop-rows.invariant.1 (some-left _ c.loop-rows-test.ensures))

pub slice_bounds-result-end : goal.slice_bounds-result-end
slice_bounds-result-end c =
    let inv = c.loop-rows.invariant in
    sym (length-take-le _ c.args.self.text.now
    (text-here c.args.self.some inv.1 (some-left _ c.loop-rows-test.ensures) inv.0 c.number-n.ensures.0 c.if-rows-eq1.true))

pub returns-then-rows-eq1-clause-token : goal.returns-then-rows-eq1-clause-token
returns-then-rows-eq1-clause-token c =
    let inv = c.loop-rows.invariant in
    λ f sp. first_found (inv.1 f sp) (some-left _ c.loop-rows-test.ensures) inv.0 c.args.self.some.short _ c.number-n.ensures.0
    c.if-rows-eq1.true _ refl refl

pub returns-then-rows-eq1-clause-inside : goal.returns-then-rows-eq1-clause-inside
returns-then-rows-eq1-clause-inside c = part-at 0 c.number-n.result (omega arith) refl

pub slice_bounds-rows-end : goal.slice_bounds-rows-end
slice_bounds-rows-end c =
    let inv = c.loop-rows.invariant in
    omega (arith, whole c.args.self.some inv.1 (some-left _ c.loop-rows-test.ensures) inv.0 c.number-n.ensures.0 c.if-rows-eq1.false)

pub loop-rows-preserved : goal.loop-rows-preserved
loop-rows-preserved c =
    let inv = c.loop-rows.invariant in (
      let z = inv.0 in simp (length-take, length-drop) (omega arith),
      λ f sp. (first-into (inv.1 f sp) (some-left _ c.loop-rows-test.ensures) inv.0 c.args.self.some.short _ c.number-n.ensures.0
          c.if-rows-eq1.false).1,
    )

pub returns-clause-token : goal.returns-clause-token
returns-clause-token c = λ f sp. token-none (first-none (c.loop-rows.invariant.1 f sp) (none-left _ c.loop-rows-test.ensures))
