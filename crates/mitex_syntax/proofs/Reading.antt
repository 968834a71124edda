-- What the bytes of rows say: the number of a row, the extent of an element, and the text bytes of rows, row by row.
use mathlib.Core.Path.{◌≡◌, refl, sym, ap, subst, ◌∙◌}
use mathlib.Core.Bool.{Bool, true, false, cond}
use mathlib.Core.List.{List, [], ◌∷◌}
use Prim.Native.Nat.{ℕ, ◌+◌, ◌*◌, ◌-◌, ◌%◌, ◌≤◌, ◌<◌}
use native.Mathlib.Nat.{add_assoc}
use native.Mathlib.Omega.{arith}
use borrow.Author.Tests.{eq-eqb, ne_eqb}
use lib.Dec.{eqb}
use lib.ListN.{length, take, drop, get_or, length-drop}
use lib.Seq.{drop-drop, get_or-drop, length-take-le}
use Rattle.text.specs.Numbers.{four_at}
use Rattle.mitex_syntax.specs.Rows.{num_of, extent_of, token_at, token_sum}

-- the number of the row at i
pub num_of-at : (l : List ℕ) (i : ℕ) → four_at (i + 4) l ≡ num_of (drop i l)
num_of-at l i = simp (get_or-drop, add_assoc)

pub token_sum-step : (l : List ℕ) → 8 ≤ length l → token_sum l ≡ token_at l + token_sum (drop 8 l)
unfolding token_sum
token_sum-step [] h = absurd (omega arith)
token_sum-step (k ∷ []) h = absurd (omega arith)
token_sum-step (k ∷ m ∷ []) h = absurd (omega arith)
token_sum-step (k ∷ m ∷ y ∷ []) h = absurd (omega arith)
token_sum-step (k ∷ m ∷ y ∷ z ∷ []) h = absurd (omega arith)
token_sum-step (k ∷ m ∷ y ∷ z ∷ a ∷ []) h = absurd (omega arith)
token_sum-step (k ∷ m ∷ y ∷ z ∷ a ∷ b ∷ []) h = absurd (omega arith)
token_sum-step (k ∷ m ∷ y ∷ z ∷ a ∷ b ∷ c ∷ []) h = absurd (omega arith)
token_sum-step (k ∷ m ∷ y ∷ z ∷ a ∷ b ∷ c ∷ d ∷ l) h = refl

pub token_sum-nil : token_sum [] ≡ 0
unfolding token_sum
token_sum-nil = refl

pub token_sum-at : (l : List ℕ) (i : ℕ) → i + 8 ≤ length l → token_sum (drop i l) ≡ token_at (drop i l) + token_sum (drop (i + 8) l)
token_sum-at l i h = token_sum-step (drop i l) (simp length-drop (omega arith)) ∙ ap (λ m. token_at (drop i l) + token_sum m) (drop-drop 8 i l)

pub marked : (l : List ℕ) (i : ℕ) → get_or l (i + 1) 0 ≡ 1 → eqb (get_or (drop i l) 1 0) 1 ≡ true
marked l i h = eq-eqb _ _ (get_or-drop i l 1 0 ∙ h)

pub unmarked : (l : List ℕ) (i : ℕ) → (get_or l (i + 1) 0 ≡ 1 → ⊥) → eqb (get_or (drop i l) 1 0) 1 ≡ false
unmarked l i h = ne_eqb _ _ (λ e. h (sym (get_or-drop i l 1 0) ∙ e))

pub picked : (x y : ℕ) {b : Bool} → b ≡ true → x ≡ cond b x y
picked x y {b} e = ap (λ (c : Bool). cond c x y) (sym e)

pub unpicked : (x y : ℕ) {b : Bool} → b ≡ false → y ≡ cond b x y
unpicked x y {b} e = ap (λ (c : Bool). cond c x y) (sym e)

pub extent-token : (l : List ℕ) (i : ℕ) → get_or l (i + 1) 0 ≡ 1 → 8 ≡ extent_of (drop i l)
extent-token l i h = picked _ _ (marked l i h)

pub extent-node : (l : List ℕ) (i n : ℕ) → (get_or l (i + 1) 0 ≡ 1 → ⊥) → n ≡ num_of (drop i l) → 8 + 8 * n ≡ extent_of (drop i l)
extent-node l i n h e = ap (λ (m : ℕ). 8 + 8 * m) e ∙ unpicked _ _ (unmarked l i h)

pub token-len : (l : List ℕ) (i n : ℕ) → get_or l (i + 1) 0 ≡ 1 → n ≡ num_of (drop i l) → n ≡ token_at (drop i l)
token-len l i n h e = e ∙ picked _ _ (marked l i h)

pub node-len : (l : List ℕ) (i : ℕ) → (get_or l (i + 1) 0 ≡ 1 → ⊥) → 0 ≡ token_at (drop i l)
node-len l i h = unpicked _ _ (unmarked l i h)

pub extent-whole : (l : List ℕ) → extent_of l % 8 ≡ 0
extent-whole l = go (eqb (get_or l 1 0) 1)
  where
    go : (b : Bool) → cond b 8 (8 + 8 * num_of l) % 8 ≡ 0
    go true = refl
    go false = omega arith

-- the part of the rows that is an element
module _ (rows : List ℕ) (i e : ℕ) (is_e : e ≡ extent_of (drop i rows)) where
  same-part : token_sum (take (i + e - i) (drop i rows)) ≡ token_sum (take (extent_of (drop i rows)) (drop i rows))
  same-part = let p : i + e - i ≡ extent_of (drop i rows) = omega arith in ap (λ (m : ℕ). token_sum (take m (drop i rows))) p

  pub part-asks :
      i + extent_of (drop i rows) ≤ length rows → token_sum (take (extent_of (drop i rows)) (drop i rows)) < 4294967296
      → (token_sum (take (i + e - i) (drop i rows)) < 4294967296) × (length (take (i + e - i) (drop i rows)) % 8 ≡ 0)
  part-asks h short =
      let l = length-drop i rows in
      let p : i + e - i ≡ extent_of (drop i rows) = omega arith in (
        subst (λ (n : ℕ). n < 4294967296) (sym same-part) short,
        ap (λ (m : ℕ). length (take m (drop i rows)) % 8) p
            ∙ ap (λ (n : ℕ). n % 8) (length-take-le (extent_of (drop i rows)) (drop i rows) (omega arith)) ∙ extent-whole (drop i rows),
      )

  pub part_says : (n : ℕ) → n ≡ token_sum (take (i + e - i) (drop i rows)) → n ≡ token_sum (take (extent_of (drop i rows)) (drop i rows))
  part_says n q = q ∙ same-part
