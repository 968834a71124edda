-- Rows moved one after the other: those that are moved stand before the rest, which is as it was (`RowsMoved`).
use mathlib.Core.Path.{◌≡◌, refl, sym, ap, ap₂, subst, ◌∙◌}
use mathlib.Core.List.{List, ◌++◌, append_assoc, append-nil}
use Prim.Native.Nat.{ℕ, zero, suc, ◌+◌, ◌*◌, ◌-◌, ◌≤◌}
use native.Mathlib.Omega.{arith}
use lib.ListN.{length, take, drop, length-append, length-drop}
use lib.Seq.{sets, length-sets, length-take-le, drop-drop}
use Rattle.text.proofs.Writing.{sets-append}
use Rattle.ledger.specs.Ledger.{row_size, row_at, decode_row, Movable, move_row, move_rows}
use Rattle.ledger.proofs.Writing.{sets-drop}

move_row-length : (old new : ℕ) (l : List ℕ) → row_size ≤ length l → length (move_row old new l) ≡ row_size
unfolding move_row
move_row-length old new l h =
    let e : length (take (row_size - 4) (drop 4 l)) ≡ row_size - 4 = length-take-le (row_size - 4) (drop 4 l) (omega (arith, length-drop 4 l)) in
    omega arith

pub move_rows-length : (n old new : ℕ) (l : List ℕ) → row_size * n ≤ length l → length (move_rows n old new l) ≡ row_size * n
move_rows-length zero old new l h = refl
move_rows-length (suc n) old new l h =
    omega (
      arith,
      length-append (move_row old new l) (move_rows n old new (drop row_size l)),
      move_row-length old new l (omega arith),
      move_rows-length n old new (drop row_size l) (omega (arith, length-drop row_size l)),
    )

move_rows-more : (n old new : ℕ) (l : List ℕ) → move_rows (suc n) old new l ≡ move_rows n old new l ++ move_row old new (drop (row_size * n) l)
move_rows-more zero old new l = append-nil (move_row old new l)
move_rows-more (suc n) old new l =
    let e : row_size + row_size * n ≡ row_size * suc n = omega arith in
    ap (λ r. move_row old new l ++ r) (move_rows-more n old new (drop row_size l))
    ∙ sym (append_assoc (move_row old new l) (move_rows n old new (drop row_size l)) (move_row old new (drop (row_size * n) (drop row_size l))))
    ∙ ap (λ r. move_rows (suc n) old new l ++ move_row old new r) (drop-drop (row_size * n) row_size l ∙ ap (λ k. drop k l) e)

-- the rows from `from` up to i are moved
pub record RowsMoved (from old new : ℕ) (l₀ l : List ℕ) (i : ℕ) : Type 0 where
  pub above : from ≤ i
  pub within : row_size * i ≤ length l₀
  pub are : l ≡ sets l₀ (row_size * from) (move_rows (i - from) old new (drop (row_size * from) l₀))

module _ {from old new : ℕ} {l₀ l : List ℕ} {i : ℕ} (m : RowsMoved from old new l₀ l i) where
  rows-moved-length : row_size * from + length (move_rows (i - from) old new (drop (row_size * from) l₀)) ≡ row_size * i
  rows-moved-length =
      let a = m.above in
      let w = m.within in
      omega (
        arith,
        move_rows-length (i - from) old new (drop (row_size * from) l₀) (omega (arith, length-drop (row_size * from) l₀)),
      )

  pub rows-moved-same : length l ≡ length l₀
  rows-moved-same = ap length m.are ∙ length-sets l₀ (row_size * from) (move_rows (i - from) old new (drop (row_size * from) l₀))

  rows-moved-rest : drop (row_size * i) l ≡ drop (row_size * i) l₀
  rows-moved-rest =
      let w = m.within in
      ap (drop (row_size * i)) m.are
      ∙ subst (λ n. drop n (sets l₀ (row_size * from) (move_rows (i - from) old new (drop (row_size * from) l₀))) ≡ drop n l₀) rows-moved-length
      (sets-drop (move_rows (i - from) old new (drop (row_size * from) l₀)) l₀ (row_size * from) (omega (arith, rows-moved-length)))

  pub rows-moved-movable : Movable i old new l₀ → Movable i old new l
  rows-moved-movable v =
      let e : (row_at i l).end ≡ (row_at i l₀).end = ap (λ r. (decode_row r).end) rows-moved-rest in
      let b = v.behind in
      let s = v.small in
      record { behind = omega arith; small = omega arith }

  pub rows-moved-more : {l' : List ℕ} → row_size * (i + 1) ≤ length l₀ → l' ≡ sets l (row_size * i) (move_row old new (drop (row_size * i) l))
      → RowsMoved from old new l₀ l' (i + 1)
  rows-moved-more {l'} h e =
      let a = m.above in
      let k : ℕ = i - from in
      let M : List ℕ = move_rows k old new (drop (row_size * from) l₀) in
      let r : List ℕ = move_row old new (drop (row_size * i) l₀) in
      let j : row_size * from + row_size * k ≡ row_size * i = omega arith in
      let q : suc k ≡ i + 1 - from = omega arith in
      record {
        above = omega arith;
        within = h;
        are =
            e
            ∙ ap₂ (λ x y. sets x (row_size * i) (move_row old new y)) m.are rows-moved-rest
            ∙ ap (λ n. sets (sets l₀ (row_size * from) M) n r) (sym rows-moved-length)
            ∙ sym (sets-append M r l₀ (row_size * from))
            ∙ ap (λ d. sets l₀ (row_size * from) (M ++ move_row old new d))
            (sym (drop-drop (row_size * k) (row_size * from) l₀ ∙ ap (λ n. drop n l₀) j))
            ∙ ap (sets l₀ (row_size * from)) (sym (move_rows-more k old new (drop (row_size * from) l₀)))
            ∙ ap (λ n. sets l₀ (row_size * from) (move_rows n old new (drop (row_size * from) l₀))) q;
      }
