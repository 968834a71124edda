-- A text buffer counts as at most 4,294,967,295 bytes in refusal 6 too. `edit_fits` and `change_fits` compare the kept length with the
-- buffer's own length, and that comes to the same (`edit_fits-counted`, `change_fits-counted`): a ledger that fits ends with the kept length,
-- and a row has four bytes for it.
use mathlib.Core.Path.{◌≡◌, refl, sym, ap, ◌∙◌}
use mathlib.Core.Bool.{Bool, true, false, ◌&&◌, and-eq-true_iff}
use mathlib.Core.List.{List}
use Prim.Native.Nat.{ℕ, zero, suc, ◌*◌, ◌≤◌, min}
use native.Mathlib.Omega.{arith}
use lib.ListN.{length, drop}
use lib.Dec.{leb, ltb}
use borrow.Author.Tests.{leb-true, leb-false, eqb-true, le-leb, lt-leb}
use Rattle.text.specs.Numbers.{Bytes, four_at}
use Rattle.text.proofs.Numbers.{bytes_drop}
use Rattle.ledger.specs.Ledger.{row_size, row_fits, all_rows_fit, fits}
use Rattle.edit_meaning.specs.Edit.{text_most, edit_fits}
use Rattle.edit_meaning.specs.Changes.{Kind, named_there, old_count, change_fits}

four-small : (l : List ℕ) → Bytes l → four_at 0 l ≤ text_most
four-small l by = omega (arith, by 0, by 1, by 2, by 3)

-- rows that fit, from a length of four bytes on, end with one
kept_small : (n at kept : ℕ) (l : List ℕ) → Bytes l → at ≤ text_most → all_rows_fit n at kept l ≡ true → kept ≤ text_most
kept_small zero at kept l by h e = omega (arith, eqb-true at kept e)
kept_small (suc n) at kept l by h e =
    let rest = ((and-eq-true_iff (row_fits l) _).0 ((and-eq-true_iff (leb at (four_at 0 l)) _).0 e).1).1 in
    kept_small n (four_at 0 l) kept (drop row_size l) (bytes_drop row_size l by) (four-small l by) rest

fits-small : (n kept : ℕ) (l : List ℕ) → Bytes l → fits n kept l ≡ true → kept ≤ text_most
unfolding fits
fits-small n kept l by e = kept_small n 0 kept l by (omega arith) ((and-eq-true_iff (leb (row_size * n) (length l)) _).0 e).1

never : (a b : Bool) → a && false ≡ b && false
never true true = refl
never true false = refl
never false true = refl
never false false = refl

-- a number that is counted compares with a length as with the length counted
counted : (n size : ℕ) → n ≤ text_most → (b : Bool) → leb n size ≡ b → leb n size ≡ leb n (min size text_most)
counted n size h true e = e ∙ sym (le-leb n (min size text_most) (omega (arith, leb-true n size e)))
counted n size h false e = e ∙ sym (lt-leb n (min size text_most) (omega (arith, leb-false n size e)))

kept-counted :
    (n kept : ℕ) (text ledger : List ℕ) → Bytes ledger
    → leb kept (length text) && fits n kept ledger ≡ leb kept (min (length text) text_most) && fits n kept ledger
kept-counted n kept text ledger by = go (fits n kept ledger) refl
  where
    go : (b : Bool) → fits n kept ledger ≡ b → leb kept (length text) && b ≡ leb kept (min (length text) text_most) && b
    go false e = never (leb kept (length text)) (leb kept (min (length text) text_most))
    go true e =
        ap (λ b. b && true) (counted kept (length text) (fits-small n kept ledger by e) (leb kept (length text)) refl)

pub edit_fits-counted :
    (n k kept : ℕ) (text ledger : List ℕ) → Bytes ledger
    → edit_fits n k kept text ledger ≡ ltb k n && (leb kept (min (length text) text_most) && fits n kept ledger)
unfolding edit_fits
edit_fits-counted n k kept text ledger by = ap (λ b. ltb k n && b) (kept-counted n kept text ledger by)

pub change_fits-counted :
    (k : Kind) (n kept : ℕ) (text ledger : List ℕ) → Bytes ledger
    → change_fits k n kept text ledger ≡ named_there k n && (leb kept (min (length text) text_most) && fits (old_count k n) kept ledger)
unfolding change_fits
change_fits-counted k n kept text ledger by = ap (λ b. named_there k n && b) (kept-counted (old_count k n) kept text ledger by)
