-- What is said of a row, or moved of it, stands in the row: two ledgers with the same bytes in front have the same rows there.
use mathlib.Core.Path.{◌≡◌, refl, sym, ap, ap₂, ◌∙◌}
use mathlib.Core.Bool.{Bool, true, false}
use mathlib.Core.List.{List, [], ◌∷◌, ◌++◌}
use Prim.Native.Nat.{ℕ, zero, suc, ◌+◌, ◌*◌, ◌-◌, ◌≤◌, ◌<◌}
use native.Mathlib.Omega.{arith}
use lib.ListN.{length, take, drop, get_or}
use lib.Seq.{take-take, take-nil, get_or-take}
use lib.Dec.{eqb}
use Rattle.text.specs.Numbers.{four, four_at}
use Rattle.mitex_meaning.specs.Outcome.{label_most}
use Rattle.mitex_meaning.specs.Outcome.Label.{held}
use Rattle.mitex_meaning.specs.State.{label_of}
use Rattle.ledger.specs.Ledger.{row_size, decode_row, row_at, all_zero, padding, row_fits, RowFits, move_row, move_rows}
use Rattle.ledger.proofs.Reading.{row_fits-marks}

drop-take : (a n : ℕ) (l : List ℕ) → drop a (take n l) ≡ take (n - a) (drop a l)
drop-take zero n l = let e : n ≡ n - 0 = omega arith in ap (λ m. take m l) e
drop-take (suc a) zero l = let e : 0 ≡ 0 - suc a = omega arith in ap (λ m. take m (drop (suc a) l)) e
drop-take (suc a) (suc n) [] = sym (take-nil (suc n - suc a))
drop-take (suc a) (suc n) (x ∷ l) = let e : n - a ≡ suc n - suc a = omega arith in drop-take a n l ∙ ap (λ m. take m (drop a l)) e

-- two lists whose first n bytes are the same
pub record SameFront (n : ℕ) (l k : List ℕ) : Type 0 where
  pub same : take n l ≡ take n k

module _ {n : ℕ} {l k : List ℕ} (e : SameFront n l k) where
  pub front_less : (m : ℕ) → m ≤ n → SameFront m l k
  front_less m h = record { same = sym (take-take m n l h) ∙ ap (take m) e.same ∙ take-take m n k h }

  pub front_rest : (a m : ℕ) → m ≡ n - a → SameFront m (drop a l) (drop a k)
  front_rest a m h =
      record {
        same =
            ap (λ i. take i (drop a l)) h
            ∙ sym (drop-take a n l)
            ∙ ap (drop a) e.same
            ∙ drop-take a n k
            ∙ ap (λ i. take i (drop a k)) (sym h);
      }

  pub front_at : (i : ℕ) → i < n → get_or l i 0 ≡ get_or k i 0
  front_at i h = sym (get_or-take n l i 0 h) ∙ ap (λ r. get_or r i 0) e.same ∙ get_or-take n k i 0 h

-- ---- the first row

module _ {l k : List ℕ} (e : SameFront row_size l k) where
  pub front-end : four_at 0 l ≡ four_at 0 k
  front-end = cc (front_at e 0 (omega arith), front_at e 1 (omega arith), front_at e 2 (omega arith), front_at e 3 (omega arith))

  label-front : SameFront label_most (drop 8 l) (drop 8 k)
  label-front = front_rest e 8 label_most (omega arith)

  padding-same : padding l ≡ padding k
  padding-same =
      (front_rest label-front (get_or l 6 0) (label_most - get_or l 6 0) (omega arith)).same
      ∙ ap (λ n. take (label_most - n) (drop n (drop 8 k))) (front_at e 6 (omega arith))

  pub front_fits : row_fits l ≡ row_fits k
  unfolding row_fits
  front_fits =
      let z = ap all_zero padding-same in
      cc (front_at e 4 (omega arith), front_at e 5 (omega arith), front_at e 6 (omega arith), front_at e 7 (omega arith))

  label_same : (b : Bool) (n : ℕ) → n ≤ label_most → label_of b n (drop 8 l) ≡ label_of b n (drop 8 k)
  label_same true n h = ap held (front_less label-front n h).same
  label_same false n h = refl

  pub front-carry : row_fits l ≡ true → (decode_row l).carry ≡ (decode_row k).carry
  unfolding decode_row
  front-carry f =
      let s : label_of (eqb (get_or l 5 0) 1) (get_or l 6 0) (drop 8 l) ≡ label_of (eqb (get_or k 5 0) 1) (get_or k 6 0) (drop 8 k)
      = label_same (eqb (get_or l 5 0) 1) (get_or l 6 0) (row_fits-marks 0 l f).short
      ∙ (λ i. label_of (eqb (front_at e 5 (omega arith) i) 1) (front_at e 6 (omega arith) i) (drop 8 k)) in
      λ i. record { flag = eqb (front_at e 4 (omega arith) i) 1; label = s i }

  pub front-moved : (old new : ℕ) → move_row old new l ≡ move_row old new k
  unfolding move_row
  front-moved old new = ap₂ (λ n t. four (new + (n - old)) t) front-end (front_rest e 4 (row_size - 4) (omega arith)).same

-- ---- rows

pub move_rows-front : (n old new : ℕ) {l k : List ℕ} → SameFront (row_size * n) l k → move_rows n old new l ≡ move_rows n old new k
move_rows-front zero old new e = refl
move_rows-front (suc n) old new e =
    ap₂ (λ x y. x ++ y) (front-moved (front_less e row_size (omega arith)) old new)
    (move_rows-front n old new (front_rest e row_size (row_size * n) (omega arith)))

-- one of them
module _ (n : ℕ) {l k : List ℕ} (e : SameFront (row_size * n) l k) (i : ℕ) (h : i < n) where
  row-front : SameFront row_size (drop (row_size * i) l) (drop (row_size * i) k)
  row-front = front_rest (front_less e (row_size * i + row_size) (omega arith)) (row_size * i) row_size (omega arith)

  pub row-same-end : (row_at i l).end ≡ (row_at i k).end
  unfolding decode_row
  row-same-end = front-end row-front

  pub row-same-fits : length l ≡ length k → RowFits i k → RowFits i l
  row-same-fits long f = (omega (arith, f.0), front_fits row-front ∙ f.1)

  pub row-same-carry : RowFits i k → (row_at i l).carry ≡ (row_at i k).carry
  row-same-carry f = front-carry row-front (front_fits row-front ∙ f.1)
