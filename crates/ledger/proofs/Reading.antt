-- A row read at its place of the ledger. `row_fits` is five tests and the padding; with both marks 0 or 1 a label of at most
-- `label_most` times its mark is short enough, and empty while unheld.
use mathlib.Core.Path.{◌≡◌, refl, sym, ap, ◌∙◌}
use mathlib.Core.Bool.{Bool, true, false, ◌&&◌, ◌||◌, and-eq-true_iff, and-false}
use mathlib.Core.List.{List}
use Prim.Native.Nat.{ℕ, ◌+◌, ◌*◌, ◌-◌, ◌≤◌, ◌<◌}
use native.Mathlib.Nat.{add-zero}
use native.Mathlib.Numerals.{add-one}
use native.Mathlib.Omega.{arith}
use borrow.Author.Tests.{leb-true, eqb-true, eq-eqb, ne_eqb}
use lib.ListN.{length, take, drop, get_or, length-take, drop_of_length-le}
use lib.Seq.{get_or-drop, drop-drop, drop-cons, length-take-le}
use lib.Dec.{leb, eqb}
use Rattle.std.proofs.lemmas.List.{drop-take, take-take, get_or-take}
use Rattle.text.specs.Numbers.{four_at}
use Rattle.text.proofs.Numbers.{four_at-drop}
use Rattle.text.proofs.Writing.{part-rest}
use Rattle.mitex_meaning.specs.Outcome.{label_most}
use Rattle.mitex_meaning.specs.Outcome.Label.{unheld, held}
use Rattle.mitex_meaning.specs.State.{label_of}
use Rattle.mitex_meaning.specs.Keeping.{label_bytes, Short}
use Rattle.ledger.specs.Ledger.{row_size, decode_row, row_at, all_zero, padding, marks_fit, row_fits}

-- what a row says, at its place
pub row_at-end : (i : ℕ) (l : List ℕ) → (row_at i l).end ≡ four_at (row_size * i) l
unfolding decode_row
row_at-end i l = four_at-drop (row_size * i) 0 l ∙ ap (λ n. four_at n l) (add-zero (row_size * i))

-- ---- bytes 4 to 7

pub record Marks (flag mark len blank : ℕ) : Type 0 where
  pub flag_small : flag ≤ 1
  pub mark_small : mark ≤ 1
  pub short : len ≤ label_most
  pub empty : (eqb mark 1 || eqb len 0) ≡ true
  pub none : blank ≡ 0

marks_fit-true : (flag mark len blank : ℕ) → marks_fit flag mark len blank ≡ true → Marks flag mark len blank
unfolding marks_fit
marks_fit-true flag mark len blank e =
    let a = (and-eq-true_iff (leb flag 1) _).0 e in
    let b = (and-eq-true_iff (leb mark 1) _).0 a.1 in
    let c = (and-eq-true_iff (leb len label_most) _).0 b.1 in
    let d = (and-eq-true_iff (eqb mark 1 || eqb len 0) _).0 c.1 in
    record {
      flag_small = leb-true flag 1 a.0;
      mark_small = leb-true mark 1 b.0;
      short = leb-true len label_most c.0;
      empty = d.0;
      none = eqb-true blank 0 d.1;
    }

-- ---- a row that fits

abbrev pub marks_at : ℕ → List ℕ → Bool
marks_at at l = marks_fit (get_or l (at + 4) 0) (get_or l (at + 5) 0) (get_or l (at + 6) 0) (get_or l (at + 7) 0)

pub row_fits-at : (at : ℕ) (l : List ℕ)
    → row_fits (drop at l)
    ≡ marks_at at l && all_zero (take (label_most - get_or l (at + 6) 0) (drop (at + 8 + get_or l (at + 6) 0) l))
unfolding row_fits
row_fits-at at l =
    rw (
      get_or-drop at l 4 0,
      get_or-drop at l 5 0,
      get_or-drop at l 6 0,
      get_or-drop at l 7 0,
      drop-drop 8 at l,
      drop-drop (get_or l (at + 6) 0) (at + 8) l,
    )

pub row_fits-marks : (at : ℕ) (l : List ℕ) → row_fits (drop at l) ≡ true
    → Marks (get_or l (at + 4) 0) (get_or l (at + 5) 0) (get_or l (at + 6) 0) (get_or l (at + 7) 0)
row_fits-marks at l e = marks_fit-true _ _ _ _ ((and-eq-true_iff (marks_at at l) _).0 (sym (row_fits-at at l) ∙ e)).0

label-bytes : (b : Bool) (n : ℕ) (l : List ℕ) → (b || eqb n 0) ≡ true → label_bytes (label_of b n l) ≡ take n l
label-bytes true n l e = refl
label-bytes false n l e = ap (λ k. take k l) (sym (eqb-true n 0 e))

pub row_at-label : (i : ℕ) (l : List ℕ) → row_fits (drop (row_size * i) l) ≡ true
    → label_bytes (row_at i l).carry.label ≡ take (get_or l (row_size * i + 6) 0) (drop (row_size * i + 8) l)
unfolding decode_row
row_at-label i l e =
    rw (get_or-drop (row_size * i) l 5 0, get_or-drop (row_size * i) l 6 0, drop-drop 8 (row_size * i) l)
    (label-bytes (eqb (get_or l (row_size * i + 5) 0) 1) (get_or l (row_size * i + 6) 0) (drop (row_size * i + 8) l) (row_fits-marks (row_size * i) l e).empty)

pub row_at-short : (i : ℕ) (l : List ℕ) → row_fits (drop (row_size * i) l) ≡ true → Short (row_at i l).carry
row_at-short i l e =
    omega (
      arith,
      ap length (row_at-label i l e),
      length-take (get_or l (row_size * i + 6) 0) (drop (row_size * i + 8) l),
      (row_fits-marks (row_size * i) l e).short,
    )

-- ---- the bytes of a row

module _ (l row : List ℕ) (here : row ≡ take row_size l) where
  row-byte : (k : ℕ) → k < row_size → get_or row k 0 ≡ get_or l k 0
  row-byte k h = ap (λ r. get_or r k 0) here ∙ get_or-take row_size l k 0 h

  row-label : drop 8 row ≡ take label_most (drop 8 l)
  row-label = ap (drop 8) here ∙ drop-take 8 label_most l

  pub row-length : row_size ≤ length l → length row ≡ row_size
  row-length h = ap length here ∙ length-take-le row_size l h

  -- how many of them the label has
  pub row-short : (n : ℕ) → n ≡ get_or row 6 0 → row_fits l ≡ true → n ≤ label_most
  unfolding row_fits
  row-short n e f = omega (arith, row-byte 6, (marks_fit-true _ _ _ _ ((and-eq-true_iff _ (all_zero (padding l))).0 f).0).short)

  pub row-flag : eqb (get_or row 4 0) 1 ≡ (decode_row l).carry.flag
  unfolding decode_row
  row-flag = ap (λ b. eqb b 1) (row-byte 4 (omega arith))

  pub row-unheld : (get_or row 5 0 ≡ 1 → ⊥) → unheld ≡ (decode_row l).carry.label
  unfolding decode_row
  row-unheld h = rw (ne_eqb (get_or l 5 0) 1 (λ e. h (row-byte 5 (omega arith) ∙ e)))

  -- the label's bytes are within the row
  pub row-held : (n : ℕ) → get_or row 5 0 ≡ 1 → n ≡ get_or row 6 0 → n ≤ label_most → held (take (8 + n - 8) (drop 8 row)) ≡ (decode_row l).carry.label
  unfolding decode_row
  row-held n h e k =
      let m : 8 + n - 8 ≡ n = omega arith in
      rw (eq-eqb (get_or l 5 0) 1 (sym (row-byte 5 (omega arith)) ∙ h))
      (ap held
      (ap (λ x. take x (drop 8 row)) m ∙ ap (take n) row-label ∙ take-take n label_most (drop 8 l) k ∙ ap (λ x. take x (drop 8 l)) (e ∙ row-byte 6 (omega arith))))

  -- the marks, and then the padding
  module _ {flag mark len blank : ℕ} (e₄ : flag ≡ get_or row 4 0) (e₅ : mark ≡ get_or row 5 0) (e₆ : len ≡ get_or row 6 0) (e₇ : blank ≡ get_or row 7 0) where
    row-marks : marks_fit (get_or l 4 0) (get_or l 5 0) (get_or l 6 0) (get_or l 7 0) ≡ marks_fit flag mark len blank
    row-marks = cc (row-byte 4 (omega arith), row-byte 5 (omega arith), row-byte 6 (omega arith), row-byte 7 (omega arith))

    pub row-unfit : marks_fit flag mark len blank ≡ false → false ≡ row_fits l
    unfolding row_fits
    row-unfit e = sym (ap (λ b. b && all_zero (padding l)) (row-marks ∙ e))

    pub row-padding : len ≤ label_most → drop (8 + len) row ≡ padding l
    row-padding k =
        let m : label_most ≡ len + (label_most - len) = omega arith in
        sym (drop-drop len 8 row)
        ∙ ap (drop len) (row-label ∙ ap (λ x. take x (drop 8 l)) m)
        ∙ drop-take len (label_most - len) (drop 8 l)
        ∙ ap (λ x. take (label_most - x) (drop x (drop 8 l))) (e₆ ∙ row-byte 6 (omega arith))

    pub row-zeros : marks_fit flag mark len blank ≡ true → all_zero (take (length row - (8 + len)) (drop (8 + len) row)) ≡ row_fits l
    unfolding row_fits
    row-zeros e =
        ap all_zero (part-rest row (8 + len) ∙ row-padding (marks_fit-true flag mark len blank e).short)
        ∙ sym (ap (λ b. b && all_zero (padding l)) (row-marks ∙ e))

pub marks-short : (flag mark len blank : ℕ) → marks_fit flag mark len blank ≡ true → len ≤ label_most
marks-short flag mark len blank e = (marks_fit-true flag mark len blank e).short

-- ---- zeros, from a place to the next

all_zero-at : (s : List ℕ) (i : ℕ) → i < length s → all_zero (drop i s) ≡ eqb (get_or s i 0) 0 && all_zero (drop (i + 1) s)
unfolding all_zero
all_zero-at s i h = rw (add-one, drop-cons s i 0 h)

and-true : (b : Bool) → (b && true) ≡ b
and-true true = refl
and-true false = refl

-- the next byte is zero, and those before it go on to be; or it is not
module _ (s : List ℕ) (i : ℕ) (z : Bool) {z' : Bool} (h : i < length s) (p : all_zero s ≡ (z && all_zero (drop i s))) where
  pub all_zero-next : get_or s i 0 ≡ 0 → z' ≡ z → all_zero s ≡ (z' && all_zero (drop (i + 1) s))
  all_zero-next x e =
      p
      ∙ ap (λ b. z && b) (all_zero-at s i h ∙ ap (λ b. b && all_zero (drop (i + 1) s)) (eq-eqb (get_or s i 0) 0 x))
      ∙ ap (λ b. b && all_zero (drop (i + 1) s)) (sym e)

  pub all_zero-not : (get_or s i 0 ≡ 0 → ⊥) → z' ≡ eqb (get_or s i 0) 0 → all_zero s ≡ (z' && all_zero (drop (i + 1) s))
  all_zero-not x e =
      p
      ∙ ap (λ b. z && b) (all_zero-at s i h ∙ ap (λ b. b && all_zero (drop (i + 1) s)) (ne_eqb (get_or s i 0) 0 x))
      ∙ and-false z
      ∙ ap (λ b. b && all_zero (drop (i + 1) s)) (sym (e ∙ ne_eqb (get_or s i 0) 0 x))

pub all_zero-end : (s : List ℕ) (i : ℕ) (z : Bool) → length s ≤ i → all_zero s ≡ (z && all_zero (drop i s)) → z ≡ all_zero s
unfolding all_zero
all_zero-end s i z h p = sym (p ∙ ap (λ l. z && all_zero l) (drop_of_length-le s h) ∙ and-true z)
