-- What the code does byte by byte is what the definitions say. A change reads rows at their places (`end_before-at`, `carry_before-at`,
-- `row_carries-at`). It moves the kept tail, writes the new text before it and clears what is left (`text_after-stored`, `text_after-over`); so
-- it does with the rows, when those after have got their lengths (`over-stored`).
use mathlib.Core.Path.{◌≡◌, refl, sym, ap, ap₂, ◌∙◌}
use mathlib.Core.List.{List, ◌∷◌, ◌++◌, append_assoc}
use Prim.Native.Nat.{ℕ, zero, suc, ◌+◌, ◌-◌, ◌≤◌, ◌<◌, max}
use native.Mathlib.Omega.{arith}
use lib.ListN.{length, take, drop, get_or, replicate, length-append, length-drop, length-replicate}
use lib.Seq.{sets, sets-eq, length-sets, take_at, drop_at, take-take, drop-drop, drop-append-add, length-take-le, take-append-le}
use Rattle.mitex_meaning.specs.Parts.{between}
use Rattle.ledger.specs.Ledger.{row_size, row_at, decode_row, decode_rows}
use Rattle.ledger.proofs.Fitting.{row-later}
use Rattle.ledger.proofs.Writing.{sets-front, sets-drop}
use Rattle.edit_meaning.specs.Edit.{at_front, no_row, end_before, carry_before, row_carries, text_after}
use Rattle.edit_meaning.specs.Changes.{front_over}

-- ---- reading rows

pub decode_rows-at : (n i : ℕ) (l : List ℕ) → i < n → get_or (decode_rows n l) i no_row ≡ row_at i l
decode_rows-at zero i l h = absurd (omega arith)
decode_rows-at (suc n) zero l h = refl
decode_rows-at (suc n) (suc i) l h = decode_rows-at n i (drop row_size l) (omega arith) ∙ ap (λ r. decode_row r) (sym (row-later i l))

pub end_before-at : (n i : ℕ) (l : List ℕ) → i < n → end_before (suc i) (decode_rows n l) ≡ (row_at i l).end
end_before-at n i l h = ap (λ r. r.end) (decode_rows-at n i l h)

pub carry_before-at : (n i : ℕ) (l : List ℕ) → i < n → carry_before (suc i) (decode_rows n l) ≡ (row_at i l).carry
carry_before-at n i l h = ap (λ r. r.carry) (decode_rows-at n i l h)

pub row_carries-at : (n k : ℕ) (l : List ℕ) → k < n
    → row_carries (drop k (decode_rows n l)) ≡ (row_at k l).carry ∷ row_carries (drop (suc k) (decode_rows n l))
row_carries-at zero k l h = absurd (omega arith)
row_carries-at (suc n) zero l h = refl
row_carries-at (suc n) (suc k) l h =
    row_carries-at n k (drop row_size l) (omega arith)
    ∙ ap (λ r. (decode_row r).carry ∷ row_carries (drop (suc k) (decode_rows n (drop row_size l)))) (sym (row-later k l))

-- ---- writing

pub at_front-stored : (l new : List ℕ) → length new ≤ length l → sets l 0 new ≡ at_front new l
at_front-stored l new h = sets-front l new h

module _ (from old kept : ℕ) (again text : List ℕ) (h₁ : from ≤ old) (h₂ : old ≤ kept) (h₃ : kept ≤ length text) where
  abbrev now : ℕ
  now = from + length again

  abbrev new : ℕ
  new = now + (kept - old)

  abbrev moved : List ℕ
  moved = take (kept - old) (drop old text)

  moved_length : length moved ≡ kept - old
  moved_length = length-take-le (kept - old) (drop old text) (omega (arith, length-drop old text))

  module _ (room : new ≤ length text) where
    after_tail : sets text now moved ≡ take now text ++ (moved ++ drop new text)
    after_tail =
        sets-eq moved text now (omega (arith, moved_length))
        ∙ append_assoc (take now text) moved (drop (now + length moved) text)
        ∙ ap (λ n. take now text ++ (moved ++ drop (now + n) text)) moved_length

    after-new : sets (sets text now moved) from again ≡ take from text ++ (again ++ (moved ++ drop new text))
    after-new =
        let ln : length (take now text) ≡ now = length-take-le now text (omega arith) in
        let t : take from (sets text now moved) ≡ take from text
        = ap (take from) after_tail
        ∙ take-append-le from (take now text) (moved ++ drop new text) (omega arith)
        ∙ take-take from now text (omega arith) in
        let d : drop now (sets text now moved) ≡ moved ++ drop new text
        = ap (drop now) after_tail ∙ drop_at (take now text) (moved ++ drop new text) now ln in
        sets-eq again (sets text now moved) from (omega (arith, length-sets text now moved))
        ∙ append_assoc (take from (sets text now moved)) again (drop now (sets text now moved))
        ∙ ap₂ (λ x y. x ++ (again ++ y)) t d

    pub text_after-stored :
        sets (sets (sets text now moved) from again) new (replicate (kept - new) 0) ≡ text_after from old kept new again text
    unfolding text_after
    text_after-stored =
        let L : List ℕ = sets (sets text now moved) from again in
        let Z : List ℕ = replicate (kept - new) 0 in
        let F : List ℕ = (take from text ++ again) ++ moved in
        let lz : length Z ≡ kept - new = length-replicate (kept - new) 0 in
        let l_f : length F ≡ new
        = length-append (take from text ++ again) moved
        ∙ ap₂ (λ x y. x + y) (length-append (take from text) again ∙ ap (λ n. n + length again) (length-take-le from text (omega arith))) moved_length in
        let ll : length L ≡ length text = length-sets (sets text now moved) from again ∙ length-sets text now moved in
        let e : L ≡ F ++ drop new text
        = after-new
        ∙ sym (append_assoc (take from text) again (moved ++ drop new text))
        ∙ sym (append_assoc (take from text ++ again) moved (drop new text)) in
        let t : take new L ≡ F = ap (take new) e ∙ take_at F (drop new text) new l_f in
        let k : length F + (kept - new) ≡ new + length Z = omega (arith, l_f, lz) in
        let m : new + (kept - new) ≡ max kept new = omega arith in
        let d : drop (new + length Z) L ≡ drop (max kept new) text
        = ap (λ n. drop n L) (sym k)
        ∙ ap (drop (length F + (kept - new))) e
        ∙ drop-append-add F (drop new text) (kept - new)
        ∙ drop-drop (kept - new) new text
        ∙ ap (λ n. drop n text) m in
        sets-eq Z L new (omega (arith, lz, ll)) ∙ ap₂ (λ x y. x ++ Z ++ y) t d

-- the text so written is the front of the buffer written anew
pub text_after-over :
    (from old kept new : ℕ) (again text : List ℕ)
    → text_after from old kept new again text ≡ front_over (take from text ++ (again ++ between old kept text)) new kept text
unfolding text_after front_over
text_after-over from old kept new again text =
    ap (λ x. x ++ replicate (kept - new) 0 ++ drop (max kept new) text) (append_assoc (take from text) again (between old kept text))

-- The same where what is moved was changed in its place before, as rows are that get other lengths.
module _ (from old kept : ℕ) (again changed l : List ℕ) (h₁ : from ≤ old) (h₂ : old + length changed ≡ kept) (h₃ : kept ≤ length l) where
  abbrev before : List ℕ
  before = sets l old changed

  before-is : before ≡ take old l ++ (changed ++ drop kept l)
  before-is =
      sets-eq changed l old (omega arith)
      ∙ append_assoc (take old l) changed (drop (old + length changed) l)
      ∙ ap (λ n. take old l ++ (changed ++ drop n l)) h₂

  front_long : length (take old l) ≡ old
  front_long = length-take-le old l (omega arith)

  front_same : take from before ≡ take from l
  front_same =
      ap (take from) before-is
      ∙ take-append-le from (take old l) (changed ++ drop kept l) (omega (arith, front_long))
      ∙ take-take from old l h₁

  tail-is : between old kept before ≡ changed
  tail-is =
      let e : kept - old ≡ length changed = omega arith in
      ap (take (kept - old)) (ap (drop old) before-is ∙ drop_at (take old l) (changed ++ drop kept l) old front_long)
      ∙ take_at changed (drop kept l) (kept - old) (sym e)

  rest-same : (n : ℕ) → kept ≤ n → drop n before ≡ drop n l
  rest-same n h =
      let e : old + length changed + (n - kept) ≡ n = omega arith in
      ap (λ i. drop i before) (sym e)
      ∙ sym (drop-drop (n - kept) (old + length changed) before)
      ∙ ap (drop (n - kept)) (sets-drop changed l old (omega arith))
      ∙ drop-drop (n - kept) (old + length changed) l
      ∙ ap (λ i. drop i l) e

  pub over-stored :
      let now = from + length again in
      let new = now + (kept - old) in
      new ≤ length l
      → sets (sets (sets before now (between old kept before)) from again) new (replicate (kept - new) 0)
      ≡ front_over (take from l ++ (again ++ changed)) new kept l
  unfolding front_over
  over-stored room =
      let new : ℕ = from + length again + (kept - old) in
      let n = length-sets l old changed in
      text_after-stored from old kept again before h₁ (omega arith) (omega arith) (omega arith)
      ∙ text_after-over from old kept new again before
      ∙ (λ i. (front_same i ++ (again ++ tail-is i)) ++ replicate (kept - new) 0 ++ rest-same (max kept new) (omega arith) i)
