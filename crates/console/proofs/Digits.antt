-- A number read digit by digit: what is left to read continues the number that was read so far.
use mathlib.Core.Path.{◌≡◌, refl, sym, ap, ◌∙◌}
use mathlib.Core.Bool.{Bool, true, false, cond, and-eq-true_iff}
use mathlib.Core.List.{List, [], ◌∷◌}
use Prim.Native.Nat.{ℕ, ◌+◌, ◌≤◌, ◌<◌}
use native.Mathlib.Numerals.{add-one}
use native.Mathlib.Omega.{arith}
use lib.Dec.{leb, ltb}
use borrow.Author.Tests.{ltb-true, ltb-false, leb-true, leb-false, lt-ltb, le-ltb, le-leb, lt-leb}
use lib.ListN.{length, drop, get_or, drop_of_length-le}
use lib.Seq.{drop-cons}
use Rattle.std.specs.Prelude.{Some, None}
use Rattle.text.proofs.Compare.{by-test}
use Rattle.console.specs.Request.{number_end, with_digit, digit_fits, number_from, number_spelt}

-- ---- one digit

pub digit-fits-says : (n x : ℕ) → digit_fits n x ≡ true → (48 ≤ x) × (x ≤ 57) × (with_digit n x < number_end)
digit-fits-says n x e =
    let p = (and-eq-true_iff (leb 48 x) _).0 e in
    let q = (and-eq-true_iff (leb x 57) _).0 p.1 in (leb-true 48 x p.0, leb-true x 57 q.0, ltb-true _ _ q.1)

pub digit-fits-below : (n x : ℕ) → x < 48 → false ≡ digit_fits n x
digit-fits-below n x h = simp (lt-leb 48 x h)

pub digit-fits-above : (n x : ℕ) → 57 < x → false ≡ digit_fits n x
digit-fits-above n x h = simp (le-leb 48 x (omega arith), lt-leb x 57 h)

digit-fits-at : (n x : ℕ) → 48 ≤ x → x ≤ 57 → digit_fits n x ≡ ltb (with_digit n x) number_end
digit-fits-at n x l h = simp (le-leb 48 x l, le-leb x 57 h)

-- ---- along the digits

spelt-at :
    (l : List ℕ) (n i : ℕ) → i < length l
    → number_from n (drop i l) ≡ cond (digit_fits n (get_or l i 0)) (number_from (with_digit n (get_or l i 0)) (drop (i + 1) l)) None
unfolding number_from
spelt-at l n i h = rw (add-one, drop-cons l i 0 h)

pub spelt-empty : (l : List ℕ) → length l ≡ 0 → None ≡ number_spelt l
spelt-empty [] h = refl
spelt-empty (x ∷ l) h = absurd (omega arith)

pub spelt-starts : (l : List ℕ) → (length l ≡ 0 → ⊥) → number_spelt l ≡ number_from 0 (drop 0 l)
spelt-starts [] h = absurd (h refl)
spelt-starts (x ∷ l) h = refl

pub spelt-next :
    (l : List ℕ) (n i : ℕ) → i < length l → digit_fits n (get_or l i 0) ≡ true → number_spelt l ≡ number_from n (drop i l)
    → number_spelt l ≡ number_from (with_digit n (get_or l i 0)) (drop (i + 1) l)
spelt-next l n i h g e =
    e ∙ spelt-at l n i h ∙ ap (λ t. cond t (number_from (with_digit n (get_or l i 0)) (drop (i + 1) l)) None) g

pub spelt-stops :
    (l : List ℕ) (n i : ℕ) → i < length l → digit_fits n (get_or l i 0) ≡ false → number_spelt l ≡ number_from n (drop i l)
    → None ≡ number_spelt l
spelt-stops l n i h g e =
    sym (e ∙ spelt-at l n i h ∙ ap (λ t. cond t (number_from (with_digit n (get_or l i 0)) (drop (i + 1) l)) None) g)

-- what is said of a digit more
pub digit-none : (b : Bool) (m : ℕ) → None ≡ cond b (Some m) None → b ≡ false
digit-none false m e = refl
digit-none true m e = search e

pub digit-some : (b : Bool) (m k : ℕ) → Some k ≡ cond b (Some m) None → (b ≡ true) × (k ≡ m)
digit-some false m k e = search e
digit-some true m k e = search e

pub spelt-ends : (l : List ℕ) (n i : ℕ) → length l ≤ i → number_spelt l ≡ number_from n (drop i l) → Some n ≡ number_spelt l
unfolding number_from
spelt-ends l n i h e = sym (e ∙ ap (number_from n) (drop_of_length-le l h))
