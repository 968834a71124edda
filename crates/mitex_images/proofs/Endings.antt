-- An ending cut off once, and so as often as it repeats; which of the two endings a length has.
use mathlib.Core.Path.{◌≡◌, refl, sym, ap, ◌∙◌}
use mathlib.Core.Bool.{true, false, cond, false≢true}
use mathlib.Core.List.{List, ◌++◌}
use Prim.Native.Nat.{ℕ, zero, suc, ◌-◌, ◌≤◌, ◌<◌}
use native.Mathlib.Decide.{dec_le}
use native.Mathlib.Omega.{arith}
use lib.Dec.{eqb}
use lib.ListN.{length, take, drop}
use lib.Seq.{length-take-le}
use Rattle.text.specs.Compare.{ends_with}
use Rattle.std.specs.Cmp.Lexicographic.{pointwise}
use Rattle.text.proofs.Compare.{by-test, ends-short, ends-is, same-is, same-sym}
use Rattle.mitex_meaning.specs.Texts.{of_page, textwidth, textheight}
use Rattle.mitex_meaning.specs.Images.{stripped, without_end, length_text}

-- ---- an ending

module _ (p : List ℕ) (q : 0 < length p) where
  -- what ends so is as long
  ends-long : (v : List ℕ) → ends_with v p ≡ true → length p ≤ length v
  ends-long v e =
      elim (dec_le (length p) (length v)) [
        | yes le ↦ le
        | no gt ↦ absurd (false≢true (sym (ends-short v p (omega arith)) ∙ e))
      ]

  -- the test as it is made of the bytes at the end
  pub ends-so : (v : List ℕ) → pointwise eqb (drop (length v - length p) v) p ≡ ends_with v p
  ends-so v = same-is (drop (length v - length p) v) p ∙ same-sym (drop (length v - length p) v) p ∙ sym (same-is p (drop (length v - length p) v)) ∙ ends-is v p

  strip-done : (n : ℕ) (v : List ℕ) → ends_with v p ≡ false → v ≡ stripped n p v
  unfolding stripped
  strip-done zero v e = refl
  strip-done (suc n) v e = sym (ap (λ t. cond t (stripped n p (take (length v - length p) v)) v) e)

  strip-once : (n : ℕ) (v : List ℕ) → ends_with v p ≡ true → stripped (suc n) p v ≡ stripped n p (take (length v - length p) v)
  unfolding stripped
  strip-once n v e = ap (λ t. cond t (stripped n p (take (length v - length p) v)) v) e

  -- as many turns as there are bytes are enough
  strip-enough : (n m : ℕ) (v : List ℕ) → length v ≤ n → length v ≤ m → stripped n p v ≡ stripped m p v
  strip-enough zero m v h k = let e = ends-short v p (omega arith) in sym (strip-done zero v e) ∙ strip-done m v e
  strip-enough (suc n) zero v h k = let e = ends-short v p (omega arith) in sym (strip-done (suc n) v e) ∙ strip-done zero v e
  strip-enough (suc n) (suc m) v h k =
      by-test (ends_with v p)
      (λ e.
      let l = length-take-le (length v - length p) v (omega arith) in
      let l' = ends-long v e in
      strip-once n v e
      ∙ strip-enough n m (take (length v - length p) v) (omega arith) (omega arith)
      ∙ sym (strip-once m v e))
      (λ e. sym (strip-done (suc n) v e) ∙ strip-done (suc m) v e)

  pub without-done : (v : List ℕ) → ends_with v p ≡ false → v ≡ without_end p v
  without-done v e = strip-done (length v) v e

  pub without-once : (v : List ℕ) → ends_with v p ≡ true → without_end p (take (length v - length p) v) ≡ without_end p v
  without-once v e =
      let l = length-take-le (length v - length p) v (omega arith) in
      let l' = ends-long v e in
      let n = length v - 1 in
      let z : length v ≡ suc n = omega arith in
      strip-enough (length (take (length v - length p) v)) n (take (length v - length p) v) (omega arith) (omega arith)
      ∙ sym (strip-once n v e)
      ∙ ap (λ m. stripped m p v) (sym z)

-- ---- a length

module _ (v : List ℕ) where
  pub length-width : ends_with v textwidth ≡ true → without_end textwidth v ++ of_page ≡ length_text v
  length-width e =
      sym
      (ap (λ t. cond t (without_end textwidth v ++ of_page) (cond (ends_with v textheight) (without_end textheight v ++ of_page) v)) e)

  module _ (no : ends_with v textwidth ≡ false) where
    other : length_text v ≡ cond (ends_with v textheight) (without_end textheight v ++ of_page) v
    other =
        ap (λ t. cond t (without_end textwidth v ++ of_page) (cond (ends_with v textheight) (without_end textheight v ++ of_page) v)) no

    pub length-height : ends_with v textheight ≡ true → without_end textheight v ++ of_page ≡ length_text v
    length-height e = sym (other ∙ ap (λ t. cond t (without_end textheight v ++ of_page) v) e)

    pub length-plain : ends_with v textheight ≡ false → v ≡ length_text v
    length-plain e = sym (other ∙ ap (λ t. cond t (without_end textheight v ++ of_page) v) e)
