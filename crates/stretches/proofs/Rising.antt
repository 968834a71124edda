-- Numbers that rise strictly and stay below a count (`rise_below`), read one after the other: those passed rise, and those from place i on
-- decide (`Rises`).
use mathlib.Core.Path.{◌≡◌, refl, sym, ap, ◌∙◌}
use mathlib.Core.Bool.{true, false, ◌&&◌}
use mathlib.Core.List.{List, [], ◌∷◌}
use Prim.Native.Nat.{ℕ, zero, suc, ◌+◌, ◌≤◌, ◌<◌}
use native.Mathlib.Omega.{arith}
use borrow.Author.Tests.{lt-ltb, le-ltb, le-leb, lt-leb}
use lib.ListN.{length, drop, get_or}
use lib.Seq.{drop-cons, drop-nil}
use lib.Dec.{leb, ltb}
use Rattle.edit_meaning.specs.Changes.{rise_below, named_there}
use Rattle.edit_meaning.specs.Changes.Kind.{replace_all}
use Rattle.edit_meaning.proofs.Named.{rising-first}

-- all of them rise if those from place i on do, from `least` on
pub record Rises (named : List ℕ) (n least i : ℕ) : Type 0 where
  pub same : rise_below 0 n named ≡ rise_below least n (drop i named)
  pub within : i ≤ length named

pub rises-start : (named : List ℕ) (n : ℕ) → Rises named n 0 0
rises-start named n = record { same = refl; within = omega arith }

module _ {named : List ℕ} {n least i : ℕ} (r : Rises named n least i) (h : i < length named) {k : ℕ} (e : k ≡ get_or named i 0) where
  here : rise_below 0 n named ≡ leb least k && (ltb k n && rise_below (suc k) n (drop (suc i) named))
  here =
      r.same ∙ ap (rise_below least n) (drop-cons named i 0 h)
      ∙ ap (λ x. leb least x && (ltb x n && rise_below (suc x) n (drop (suc i) named))) (sym e)

  there : named_there (replace_all named) n ≡ rise_below 0 n named
  there = some-there named h
    where
      some-there : (l : List ℕ) → i < length l → named_there (replace_all l) n ≡ rise_below 0 n l
      some-there [] g = absurd (omega arith)
      some-there (x ∷ l) g = refl

  pub rises-low : k < least → false ≡ named_there (replace_all named) n
  rises-low g = sym (there ∙ here ∙ ap (λ b. b && (ltb k n && rise_below (suc k) n (drop (suc i) named))) (lt-leb least k g))

  pub rises-far : least ≤ k → n ≤ k → false ≡ named_there (replace_all named) n
  rises-far g f =
      sym
      (there ∙ here
      ∙ ap (λ b. b && (ltb k n && rise_below (suc k) n (drop (suc i) named))) (le-leb least k g)
      ∙ ap (λ b. b && rise_below (suc k) n (drop (suc i) named)) (le-ltb k n f))

  pub rises_next : least ≤ k → k < n → Rises named n (k + 1) (i + 1)
  rises_next g f =
      let s : k + 1 ≡ suc k = omega arith in
      let t : i + 1 ≡ suc i = omega arith in
      record {
        same =
            here
            ∙ ap (λ b. b && (ltb k n && rise_below (suc k) n (drop (suc i) named))) (le-leb least k g)
            ∙ ap (λ b. b && rise_below (suc k) n (drop (suc i) named)) (lt-ltb k n f)
            ∙ (λ j. rise_below (sym s j) n (drop (sym t j) named));
        within = omega arith;
      }

pub rises-end : {named : List ℕ} {n least i : ℕ} → Rises named n least i → length named ≤ i → ltb 0 i ≡ named_there (replace_all named) n
rises-end {named} {n} {least} {i} r h =
    go named (r.same ∙ ap (rise_below least n) (none named i h)) h r.within
  where
    none : (l : List ℕ) (j : ℕ) → length l ≤ j → drop j l ≡ []
    none [] j g = drop-nil j
    none (x ∷ l) zero g = absurd (omega arith)
    none (x ∷ l) (suc j) g = none l j (omega arith)

    go : (l : List ℕ) → rise_below 0 n l ≡ true → length l ≤ i → i ≤ length l → ltb 0 i ≡ named_there (replace_all l) n
    go [] e f g = le-ltb 0 i (omega arith)
    go (x ∷ l) e f g = lt-ltb 0 i (omega arith) ∙ sym e

-- each of them is below the count
pub rising-below : (named : List ℕ) (n least : ℕ) → rise_below least n named ≡ true → (i : ℕ) → i < length named → get_or named i 0 < n
rising-below [] n least e i h = absurd (omega arith)
rising-below (k ∷ ks) n least e zero h = (rising-first least n k ks e).1
rising-below (k ∷ ks) n least e (suc i) h = rising-below ks n (suc k) (rising-first least n k ks e).2 i (omega arith)
