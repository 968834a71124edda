-- The blocks that a change names: numbers that rise (`rising-first`), a block that is not among them (`among-others`, `none_before`), and
-- blocks that are the same one by one (`same-front`).
use mathlib.Core.Path.{◌≡◌, refl, ap₂, ◌∙◌}
use mathlib.Core.Logic.{◌≢◌}
use mathlib.Core.Bool.{true, false, ◌&&◌, and-eq-true_iff}
use mathlib.Core.List.{List, [], ◌∷◌}
use Prim.Native.Nat.{ℕ, zero, suc, ◌≤◌, ◌<◌}
use native.Mathlib.Omega.{arith}
use borrow.Author.Tests.{ltb-true, leb-true, ne_eqb}
use lib.ListN.{length, take, drop}
use lib.Dec.{leb, ltb}
use Rattle.edit_meaning.specs.Changes.{rise_below, is_among}

pub rising-first :
    (least n k : ℕ) (ks : List ℕ) → rise_below least n (k ∷ ks) ≡ true → (least ≤ k) × (k < n) × (rise_below (suc k) n ks ≡ true)
rising-first least n k ks r =
    let p = (and-eq-true_iff (leb least k) (ltb k n && rise_below (suc k) n ks)).0 r in
    let q = (and-eq-true_iff (ltb k n) (rise_below (suc k) n ks)).0 p.1 in
    (leb-true least k p.0, ltb-true k n q.0, q.1)

pub among-others : (i k : ℕ) (ks : List ℕ) → i ≢ k → is_among i (k ∷ ks) ≡ is_among i ks
among-others i k ks h = rw (ne_eqb i k h)

-- numbers that rise from `least` on have none before it
pub none_before : (i least n : ℕ) (ks : List ℕ) → rise_below least n ks ≡ true → i < least → is_among i ks ≡ false
none_before i least n [] r h = refl
none_before i least n (k ∷ ks) r h =
    let (g, f, q) = rising-first least n k ks r in
    among-others i k ks (λ e. omega arith) ∙ none_before i (suc k) n ks q (omega arith)

-- lists that are the same one by one, in the first n places
pub same-front {ℓ} :
    {A : Type ℓ} (n : ℕ) (xs ys : List A) → length xs ≡ length ys → ((i : ℕ) → i < n → take 1 (drop i xs) ≡ take 1 (drop i ys))
    → take n xs ≡ take n ys
same-front zero xs ys l f = refl
same-front (suc n) [] [] l f = refl
same-front (suc n) [] (y ∷ ys) l f = absurd (omega arith)
same-front (suc n) (x ∷ xs) [] l f = absurd (omega arith)
same-front {A = A} (suc n) (x ∷ xs) (y ∷ ys) l f =
    ap₂ (λ a l. a ∷ l) (first (f 0 (omega arith))) (same-front n xs ys (omega arith) (λ i h. f (suc i) (omega arith)))
  where
    first : x ∷ [] ≡ y ∷ [] → x ≡ y
    first e = cc
