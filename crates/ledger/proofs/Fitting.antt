-- A ledger that fits. The code goes from row to row: what the rows from i on say decides the whole (`fits_next`). Of a ledger
-- that fits, each row fits, and the lengths rise to the kept one (`fits-row`, `fits-rise`, `fits-end`, `fits-ends`).
use mathlib.Core.Path.{◌≡◌, sym, ap, ◌∙◌}
use mathlib.Core.Bool.{Bool, true, false, ◌&&◌, not, and-eq-true_iff}
use mathlib.Core.List.{List}
use Prim.Native.Nat.{ℕ, zero, suc, ◌+◌, ◌*◌, ◌-◌, ◌/◌, ◌≤◌, ◌<◌}
use native.Mathlib.Omega.{arith}
use borrow.Author.Tests.{leb-true, eqb-true, le-leb, lt-leb, not-true, not-false}
use lib.ListN.{length, drop}
use lib.Seq.{drop-drop}
use lib.Dec.{leb}
use Rattle.text.specs.Numbers.{four_at}
use Rattle.ledger.specs.Ledger.{row_size, RowFits, row_at, decode_row, row_fits, all_rows_fit, fits, Movable}

-- ---- from row to row

next_row : (i : ℕ) (l : List ℕ) → drop row_size (drop (row_size * i) l) ≡ drop (row_size * (i + 1)) l
next_row i l = let e : row_size * i + row_size ≡ row_size * (i + 1) = omega arith in drop-drop row_size (row_size * i) l ∙ ap (λ n. drop n l) e

pub fits-few : (n kept : ℕ) (l : List ℕ) → length l / row_size < n → false ≡ fits n kept l
unfolding fits
fits-few n kept l h = sym (ap (λ b. b && all_rows_fit n 0 kept l) (lt-leb (row_size * n) (length l) (omega arith)))

pub fits-start : (n kept : ℕ) (l : List ℕ) → n ≤ length l / row_size → fits n kept l ≡ all_rows_fit (n - 0) 0 kept (drop (row_size * 0) l)
unfolding fits
fits-start n kept l h =
    let e : n ≡ n - 0 = omega arith in
    ap (λ b. b && all_rows_fit n 0 kept l) (le-leb (row_size * n) (length l) (omega arith)) ∙ ap (λ m. all_rows_fit m 0 kept l) e

module _ (n kept : ℕ) (l : List ℕ) (at i : ℕ) (p : fits n kept l ≡ all_rows_fit (n - i) at kept (drop (row_size * i) l)) where
  row_first : i < n → fits n kept l
      ≡ leb at (row_at i l).end && (row_fits (drop (row_size * i) l) && all_rows_fit (n - (i + 1)) (row_at i l).end kept (drop (row_size * (i + 1)) l))
  unfolding decode_row
  row_first h =
      let m : n - i ≡ suc (n - (i + 1)) = omega arith in
      let e : ℕ = four_at 0 (drop (row_size * i) l) in
      p
      ∙ ap (λ k. all_rows_fit k at kept (drop (row_size * i) l)) m
      ∙ ap (λ r. leb at e && (row_fits (drop (row_size * i) l) && all_rows_fit (n - (i + 1)) e kept r)) (next_row i l)

  pub fits-falls : {next : ℕ} → i < n → next ≡ (row_at i l).end → next < at → false ≡ fits n kept l
  fits-falls {next} h e f =
      sym
      (row_first h
      ∙ ap (λ b. b && (row_fits (drop (row_size * i) l) && all_rows_fit (n - (i + 1)) (row_at i l).end kept (drop (row_size * (i + 1)) l)))
      (lt-leb at (row_at i l).end (omega arith)))

  rises : {next : ℕ} → i < n → next ≡ (row_at i l).end → at ≤ next
      → fits n kept l ≡ row_fits (drop (row_size * i) l) && all_rows_fit (n - (i + 1)) (row_at i l).end kept (drop (row_size * (i + 1)) l)
  rises {next} h e f =
      row_first h
      ∙ ap (λ b. b && (row_fits (drop (row_size * i) l) && all_rows_fit (n - (i + 1)) (row_at i l).end kept (drop (row_size * (i + 1)) l)))
      (le-leb at (row_at i l).end (omega arith))

  pub fits_not : {next : ℕ} {b : Bool} → i < n → next ≡ (row_at i l).end → at ≤ next → b ≡ row_fits (drop (row_size * i) l) → not b ≡ true
      → false ≡ fits n kept l
  fits_not {next} {b} h e f q t =
      sym
      (rises h e f
      ∙ ap (λ x. x && all_rows_fit (n - (i + 1)) (row_at i l).end kept (drop (row_size * (i + 1)) l)) (sym q ∙ not-true b t))

  pub fits_next : {next : ℕ} {b : Bool} → i < n → next ≡ (row_at i l).end → at ≤ next → b ≡ row_fits (drop (row_size * i) l) → not b ≡ false
      → fits n kept l ≡ all_rows_fit (n - (i + 1)) next kept (drop (row_size * (i + 1)) l)
  fits_next {next} {b} h e f q t =
      rises h e f
      ∙ ap (λ x. x && all_rows_fit (n - (i + 1)) (row_at i l).end kept (drop (row_size * (i + 1)) l)) (sym q ∙ not-false b t)
      ∙ ap (λ k. all_rows_fit (n - (i + 1)) k kept (drop (row_size * (i + 1)) l)) (sym e)

-- ---- what a ledger that fits says

pub record Row-says (at kept i : ℕ) (l : List ℕ) : Type 0 where
  pub fit : row_fits (drop (row_size * i) l) ≡ true
  pub above : at ≤ (row_at i l).end
  pub below : (row_at i l).end ≤ kept

pub row-later : (i : ℕ) (l : List ℕ) → drop (row_size * suc i) l ≡ drop (row_size * i) (drop row_size l)
row-later i l =
    let e : row_size + row_size * i ≡ row_size * suc i = omega arith in sym (drop-drop (row_size * i) row_size l ∙ ap (λ n. drop n l) e)

module _ (n at kept : ℕ) (l : List ℕ) (e : all_rows_fit (suc n) at kept l ≡ true) where
  first_above : at ≤ four_at 0 l
  first_above = leb-true at (four_at 0 l) ((and-eq-true_iff (leb at (four_at 0 l)) _).0 e).0

  first_fits : row_fits l ≡ true
  first_fits = ((and-eq-true_iff (row_fits l) _).0 ((and-eq-true_iff (leb at (four_at 0 l)) _).0 e).1).0

  rest-fits : all_rows_fit n (four_at 0 l) kept (drop row_size l) ≡ true
  rest-fits = ((and-eq-true_iff (row_fits l) _).0 ((and-eq-true_iff (leb at (four_at 0 l)) _).0 e).1).1

all_rows_fit-within : (n at kept : ℕ) (l : List ℕ) → all_rows_fit n at kept l ≡ true → at ≤ kept
all_rows_fit-within zero at kept l e = omega (arith, eqb-true at kept e)
all_rows_fit-within (suc n) at kept l e =
    omega (arith, first_above n at kept l e, all_rows_fit-within n (four_at 0 l) kept (drop row_size l) (rest-fits n at kept l e))

all_rows_fit-says : (n at kept : ℕ) (l : List ℕ) → all_rows_fit n at kept l ≡ true → (i : ℕ) → i < n → Row-says at kept i l
unfolding decode_row
all_rows_fit-says zero at kept l e i h = absurd (omega arith)
all_rows_fit-says (suc n) at kept l e zero h =
    record {
      fit = first_fits n at kept l e;
      above = first_above n at kept l e;
      below = all_rows_fit-within n (four_at 0 l) kept (drop row_size l) (rest-fits n at kept l e);
    }
all_rows_fit-says (suc n) at kept l e (suc i) h =
    let s : Row-says (four_at 0 l) kept i (drop row_size l)
    = all_rows_fit-says n (four_at 0 l) kept (drop row_size l) (rest-fits n at kept l e) i (omega arith) in
    let up = first_above n at kept l e in
    record {
      fit = ap row_fits (row-later i l) ∙ s.fit;
      above = rw (row-later i l) (omega (arith, s.above));
      below = rw (row-later i l) s.below;
    }

all_rows_fit-rise : (n at kept : ℕ) (l : List ℕ) → all_rows_fit n at kept l ≡ true → (i j : ℕ) → i ≤ j → j < n → (row_at i l).end ≤ (row_at j l).end
unfolding decode_row
all_rows_fit-rise zero at kept l e i j h k = absurd (omega arith)
all_rows_fit-rise (suc n) at kept l e zero zero h k = omega arith
all_rows_fit-rise (suc n) at kept l e zero (suc j) h k =
    rw (row-later j l) (all_rows_fit-says n (four_at 0 l) kept (drop row_size l) (rest-fits n at kept l e) j (omega arith)).above
all_rows_fit-rise (suc n) at kept l e (suc i) zero h k = absurd (omega arith)
all_rows_fit-rise (suc n) at kept l e (suc i) (suc j) h k =
    rw (row-later i l, row-later j l) (all_rows_fit-rise n (four_at 0 l) kept (drop row_size l) (rest-fits n at kept l e) i j (omega arith) (omega arith))

all_rows_fit-ends : (n at kept : ℕ) (l : List ℕ) → all_rows_fit (suc n) at kept l ≡ true → (row_at n l).end ≡ kept
unfolding decode_row
all_rows_fit-ends zero at kept l e = eqb-true (four_at 0 l) kept (rest-fits 0 at kept l e)
all_rows_fit-ends (suc n) at kept l e =
    rw (row-later n l) (all_rows_fit-ends n (four_at 0 l) kept (drop row_size l) (rest-fits (suc n) at kept l e))

module _ (n kept : ℕ) (l : List ℕ) (e : fits n kept l ≡ true) where
  pub fits-long : row_size * n ≤ length l
  unfolding fits
  fits-long = leb-true (row_size * n) (length l) ((and-eq-true_iff (leb (row_size * n) (length l)) _).0 e).0

  rows_fit : all_rows_fit n 0 kept l ≡ true
  unfolding fits
  rows_fit = ((and-eq-true_iff (leb (row_size * n) (length l)) _).0 e).1

  pub fits-row : (i : ℕ) → i < n → RowFits i l
  fits-row i h = (omega (arith, fits-long), (all_rows_fit-says n 0 kept l rows_fit i h).fit)

  pub fits-end : (i : ℕ) → i < n → (row_at i l).end ≤ kept
  fits-end i h = (all_rows_fit-says n 0 kept l rows_fit i h).below

  pub fits-rise : (i j : ℕ) → i ≤ j → j < n → (row_at i l).end ≤ (row_at j l).end
  fits-rise i j h k = all_rows_fit-rise n 0 kept l rows_fit i j h k

  -- rows after the place `old` can be moved as far as the whole text can
  pub fits-movable : (old new j : ℕ) → j < n → old ≤ (row_at j l).end → new + (kept - old) < 4294967296 → Movable j old new l
  fits-movable old new j h b s = record { behind = b; small = omega (arith, fits-end j h) }

-- the kept length is that of the last row, and 0 where there is none
module _ (kept : ℕ) (l : List ℕ) where
  pub fits-none : fits 0 kept l ≡ true → 0 ≡ kept
  fits-none e = eqb-true 0 kept (rows_fit 0 kept l e)

  pub fits-ends : (n : ℕ) → fits (suc n) kept l ≡ true → (row_at n l).end ≡ kept
  fits-ends n e = all_rows_fit-ends n 0 kept l (rows_fit (suc n) kept l e)
