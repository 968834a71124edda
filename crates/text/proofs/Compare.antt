-- The tests on bytes decide what they say: `same` equality, `precedes` a strict order.
-- Each is also what std's own comparison of slices says (`same-is` and those like it).
use mathlib.Core.Path.{◌≡◌, refl, sym, ap, ◌∙◌}
use mathlib.Core.Bool.{Bool, true, false, ◌&&◌, ◌||◌, cond, beq, false≢true, and-eq-true_iff, or-false}
use mathlib.Core.Logic.{◌⊎◌, inl, inr, ⊎_elim}
use mathlib.Core.List.{List, [], ◌∷◌}
use Prim.Native.Nat.{ℕ, ◌+◌, ◌-◌, ◌≤◌, ◌<◌, min}
use native.Mathlib.Decide.{dec_le}
use native.Mathlib.Omega.{arith}
use lib.Dec.{eqb, ltb}
use borrow.Author.Tests.{ltb-true, ltb-false, eqb-true, lt-ltb, le-ltb, le-leb, lt-leb, eq-eqb, ne_eqb}
use lib.ListN.{length, take, drop, get_or, length-take, length-drop, drop_of_length-le}
use lib.Seq.{drop-cons}
use native.Mathlib.Numerals.{add-one}
use lib.Pointwise.{pointwise}
use Rattle.std.proofs.Common.{Some, Less, Equal, Greater, Option, Ordering}
use Rattle.std.specs.Ordering.{is_lt, nat_cmp, is_some_and, partial_lt, partial_ordering_then}
use Rattle.std.specs.Cmp.Lexicographic.{slice_partial_cmp}
use Rattle.std.specs.List.{position, position_or_len}
use Rattle.std.specs.Option.{unwrap_or}
use Rattle.text.specs.Compare.{same, precedes, starts_with, ends_with, index_of}

-- a test is true or false
pub by-test : {P : Type 0} (t : Bool) → (t ≡ true → P) → (t ≡ false → P) → P
by-test true y n = y refl
by-test false y n = n refl

pub beq-true : (a b : Bool) → beq a b ≡ true → a ≡ b
beq-true true true e = refl
beq-true true false e = sym e
beq-true false true e = e
beq-true false false e = refl

-- ---- same

pub same_refl : (a : List ℕ) → same a a ≡ true
unfolding same
same_refl [] = refl
same_refl (x ∷ a) = ap (λ t. t && same a a) (eq-eqb x x refl) ∙ same_refl a

pub same_true : (a b : List ℕ) → same a b ≡ true → a ≡ b
unfolding same
same_true [] [] e = refl
same_true [] (y ∷ b) e = absurd (false≢true e)
same_true (x ∷ a) [] e = absurd (false≢true e)
same_true (x ∷ a) (y ∷ b) e =
    let p = (and-eq-true_iff (eqb x y) (same a b)).0 e in cc (eqb-true x y p.0, same_true a b p.1)

pub same-differ : (a b : List ℕ) → (a ≡ b → ⊥) → same a b ≡ false
same-differ a b h = by-test (same a b) (λ e. absurd (h (same_true a b e))) (λ e. e)

-- as std compares two slices
pub same-is : (a b : List ℕ) → pointwise eqb a b ≡ same a b
unfolding same
same-is [] [] = refl
same-is [] (y ∷ b) = refl
same-is (x ∷ a) [] = refl
same-is (x ∷ a) (y ∷ b) = ap (λ t. eqb x y && t) (same-is a b)

pub same-sym : (a b : List ℕ) → same a b ≡ same b a
same-sym a b =
    by-test (same a b)
    (λ e. ap (λ x. same x b) (same_true a b e) ∙ ap (same b) (sym (same_true a b e)))
    (λ e. e ∙ sym (same-differ b a (λ q. false≢true (sym e ∙ ap (same a) q ∙ same_refl a))))

-- ---- precedes

step-says : (x y : ℕ) (t : Bool) → (ltb x y || (eqb x y && t)) ≡ true → (x < y) ⊎ ((x ≡ y) × (t ≡ true))
step-says x y t e =
    by-test (ltb x y)
    (λ l. inl (ltb-true x y l))
    (λ l.
    let p = (and-eq-true_iff (eqb x y) t).0 (sym (ap (λ s. s || (eqb x y && t)) l) ∙ e) in
    inr (eqb-true x y p.0, p.1))

step_less : (x y : ℕ) (t : Bool) → x < y → (ltb x y || (eqb x y && t)) ≡ true
step_less x y t h = ap (λ s. s || (eqb x y && t)) (lt-ltb x y h)

step-equal : (x y : ℕ) (t : Bool) → x ≡ y → (ltb x y || (eqb x y && t)) ≡ t
step-equal x y t q =
    ap (λ s. s || (eqb x y && t)) (le-ltb x y (omega arith)) ∙ ap (λ s. s && t) (eq-eqb x y q)

step-differ : (x y : ℕ) (t : Bool) → (x ≡ y → ⊥) → (ltb x y || (eqb x y && t)) ≡ ltb x y
step-differ x y t q = ap (λ s. ltb x y || (s && t)) (ne_eqb x y q) ∙ or-false (ltb x y)

pub precedes-self : (a : List ℕ) → precedes a a ≡ false
unfolding precedes
precedes-self [] = refl
precedes-self (x ∷ a) = step-equal x x (precedes a a) refl ∙ precedes-self a

pub precedes-trans : (a b c : List ℕ) → precedes a b ≡ true → precedes b c ≡ true → precedes a c ≡ true
unfolding precedes
precedes-trans a [] c p q = absurd (none a p) where
  none : (a : List ℕ) → precedes a [] ≡ true → ⊥
  none [] e = false≢true e
  none (x ∷ a) e = false≢true e
precedes-trans [] (y ∷ b) [] p q = absurd (false≢true q)
precedes-trans [] (y ∷ b) (z ∷ c) p q = refl
precedes-trans (x ∷ a) (y ∷ b) [] p q = absurd (false≢true q)
precedes-trans (x ∷ a) (y ∷ b) (z ∷ c) p q =
    ⊎_elim
    (λ h. ⊎_elim (λ k. step_less x z _ (omega arith)) (λ k. step_less x z _ (omega arith)) (step-says y z _ q))
    (λ h.
    ⊎_elim
    (λ k. step_less x z _ (omega arith))
    (λ k. step-equal x z _ (omega arith) ∙ precedes-trans a b c h.1 k.1)
    (step-says y z _ q))
    (step-says x y _ p)

-- what precedes another neither is it nor follows it
pub precedes-not-same : (a b : List ℕ) → precedes a b ≡ true → a ≡ b → ⊥
precedes-not-same a b p e = false≢true (sym (precedes-self a) ∙ ap (precedes a) e ∙ p)

-- at a place of both
precedes-at :
    (a b : List ℕ) (i : ℕ) → i < length a → i < length b
    → precedes (drop i a) (drop i b) ≡ (ltb (get_or a i 0) (get_or b i 0) || (eqb (get_or a i 0) (get_or b i 0) && precedes (drop (i + 1) a) (drop (i + 1) b)))
unfolding precedes
precedes-at a b i ha hb = rw (add-one, drop-cons a i 0 ha, drop-cons b i 0 hb)

pub precedes-next :
    (a b : List ℕ) (i n : ℕ) → n ≡ min (length a) (length b) → i < n → get_or a i 0 ≡ get_or b i 0
    → precedes a b ≡ precedes (drop i a) (drop i b) → precedes a b ≡ precedes (drop (i + 1) a) (drop (i + 1) b)
precedes-next a b i n l h q p = p ∙ precedes-at a b i (omega arith) (omega arith) ∙ step-equal (get_or a i 0) (get_or b i 0) _ q

pub precedes-stop :
    (a b : List ℕ) (i n : ℕ) → n ≡ min (length a) (length b) → i < n → (get_or a i 0 ≡ get_or b i 0 → ⊥)
    → precedes a b ≡ precedes (drop i a) (drop i b) → ltb (get_or a i 0) (get_or b i 0) ≡ precedes a b
precedes-stop a b i n l h q p =
    sym (p ∙ precedes-at a b i (omega arith) (omega arith) ∙ step-differ (get_or a i 0) (get_or b i 0) _ q)

precedes-nil : (a : List ℕ) → precedes a [] ≡ false
unfolding precedes
precedes-nil [] = refl
precedes-nil (x ∷ a) = refl

pub precedes-end :
    (a b : List ℕ) (i n : ℕ) → n ≡ min (length a) (length b) → i ≤ n → n ≤ i → precedes a b ≡ precedes (drop i a) (drop i b)
    → ltb (length a) (length b) ≡ precedes a b
unfolding precedes
precedes-end a b i n l lo hi p =
    elim (dec_le (length b) (length a)) [
      | yes le ↦
          le-ltb (length a) (length b) le
          ∙ sym (p ∙ ap (precedes (drop i a)) (drop_of_length-le b {i = i} (omega arith)) ∙ precedes-nil (drop i a))
      | no gt ↦
          lt-ltb (length a) (length b) (omega arith)
          ∙ sym
          (p
          ∙ ap (λ x. precedes x (drop i b)) (drop_of_length-le a {i = i} (omega arith))
          ∙ ap (precedes []) (drop-cons b i 0 (omega arith)))
    ]

-- as std compares two slices
step-is :
    (l e : Bool) (o : Option Ordering) (t : Bool) → is_some_and is_lt o ≡ t
    → is_some_and is_lt (partial_ordering_then (Some (cond l Less (cond e Equal Greater))) o) ≡ (l || (e && t))
step-is true e o t p = refl
step-is false true o t p = p
step-is false false o t p = refl

pub precedes-is : (a b : List ℕ) → partial_lt (slice_partial_cmp (λ x y. Some (nat_cmp x y))) a b ≡ precedes a b
unfolding precedes
precedes-is [] [] = refl
precedes-is [] (y ∷ b) = refl
precedes-is (x ∷ a) [] = refl
precedes-is (x ∷ a) (y ∷ b) =
    step-is (ltb x y) (eqb x y) (slice_partial_cmp (λ x y. Some (nat_cmp x y)) a b) (precedes a b) (precedes-is a b)

-- ---- what a text begins and ends with

pub starts-same : (s p : List ℕ) → length p ≤ length s → starts_with s p ≡ same (take (length p) s) p
unfolding same starts_with
starts-same s [] h = refl
starts-same [] (y ∷ p) h = absurd (omega arith)
starts-same (x ∷ s) (y ∷ p) h = ap (λ t. eqb x y && t) (starts-same s p (omega arith))

pub starts-short : (s p : List ℕ) → length s < length p → starts_with s p ≡ false
unfolding starts_with
starts-short s [] h = absurd (omega arith)
starts-short [] (y ∷ p) h = refl
starts-short (x ∷ s) (y ∷ p) h =
    ap (λ t. eqb x y && t) (starts-short s p (omega arith)) ∙ mathlib.Core.Bool.and-false (eqb x y)

pub ends_same : (s p : List ℕ) → length p ≤ length s → ends_with s p ≡ same (drop (length s - length p) s) p
unfolding ends_with
ends_same s p h = ap (λ t. t && same (drop (length s - length p) s) p) (le-leb (length p) (length s) h)

pub ends-short : (s p : List ℕ) → length s < length p → ends_with s p ≡ false
unfolding ends_with
ends-short s p h = ap (λ t. t && same (drop (length s - length p) s) p) (lt-leb (length p) (length s) h)

-- as std answers
pub starts-is : (s p : List ℕ) → pointwise eqb p (take (length p) s) ≡ starts_with s p
starts-is s p =
    same-is p (take (length p) s)
    ∙ same-sym p (take (length p) s)
    ∙ elim (dec_le (length p) (length s)) [
      | yes le ↦ sym (starts-same s p le)
      | no gt ↦
          same-differ (take (length p) s) p (λ e. absurd (omega (arith, length-take (length p) s, ap length e)))
          ∙ sym (starts-short s p (omega arith))
    ]

pub ends-is : (s p : List ℕ) → pointwise eqb p (drop (length s - length p) s) ≡ ends_with s p
ends-is s p =
    same-is p (drop (length s - length p) s)
    ∙ same-sym p (drop (length s - length p) s)
    ∙ elim (dec_le (length p) (length s)) [
      | yes le ↦ sym (ends_same s p le)
      | no gt ↦
          same-differ (drop (length s - length p) s) p
          (λ e. absurd (omega (arith, length-drop (length s - length p) s, ap length e)))
          ∙ sym (ends-short s p (omega arith))
    ]

-- ---- where a byte stands

index-prefix : (b : ℕ) (s : List ℕ) → position_or_len (λ x. eqb x b) s ≡ index_of b s
unfolding index_of
index-prefix b [] = refl
index-prefix b (x ∷ s) =
    by-test (eqb x b)
    (λ e. rw e refl)
    (λ e. rw e (ap (λ n. 1 + n) (index-prefix b s)))

prefix-most : (p : ℕ → Bool) (s : List ℕ) → position_or_len p s ≤ length s
prefix-most p [] = omega arith
prefix-most p (x ∷ s) = let h = prefix-most p s in by-test (p x) (λ e. rw e (omega arith)) (λ e. rw e (omega arith))

-- the place of the first byte that passes, as std finds it, or the length
pub found-or-length : (p : ℕ → Bool) (s : List ℕ) → unwrap_or (position p s) (length s) ≡ position_or_len p s
found-or-length p s =
    by-test (ltb (position_or_len p s) (length s))
    (λ e. rw e refl)
    (λ e. rw e (let h = prefix-most p s in let g = ltb-false (position_or_len p s) (length s) e in omega arith))

-- as std answers
pub index-is : (b : ℕ) (s : List ℕ) → unwrap_or (position (λ x. eqb x b) s) (length s) ≡ index_of b s
index-is b s = found-or-length (λ x. eqb x b) s ∙ index-prefix b s

-- std's comparisons and searches are these tests
pub ruleset compares = (same-is, precedes-is, starts-is, ends-is, index-is)
