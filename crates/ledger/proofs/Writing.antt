-- What is written of a row. Bytes stored from a place on leave what stands after them (`sets-drop`), and storing what stands
-- there already changes nothing (`sets_same`), so a row is moved by its four length bytes.
use mathlib.Core.Path.{◌≡◌, refl, sym, ap, ◌∙◌}
use mathlib.Core.Bool.{Bool, true, false, cond}
use mathlib.Core.List.{List, [], ◌∷◌, ◌++◌, append_assoc, append-nil}
use Prim.Native.Nat.{ℕ, suc, ◌+◌, ◌*◌, ◌-◌, ◌≤◌, ◌<◌}
use native.Mathlib.Omega.{arith}
use native.Mathlib.Nat.{zero-add}
use lib.ListN.{length, take, drop, set, replicate, length-append, length-take, length-drop, length-set, take-append-drop, drop_of_length-le}
use lib.Seq.{sets, sets-eq, length-sets, drop_at, drop-drop, length-take-le, set-append_left, set_comm, take-set-le, drop-set-lt}
use Rattle.text.specs.Numbers.{four}
use Rattle.text.proofs.Writing.{sets-append}
use Rattle.mitex_meaning.specs.Outcome.{label_most}
use Rattle.mitex_meaning.specs.State.{label_of, carry_of}
use Rattle.mitex_meaning.specs.Keeping.{label_bytes, Short}
use Rattle.mitex_meaning.specs.declared.Converter.{Converter}
use Rattle.ledger.specs.Ledger.{Row, row_size, mark, is_held, encode_carry, encode_row, HasRow, row_at, decode_row, move_row}
use Rattle.ledger.proofs.Rows.{encode_row-length}

-- ---- bytes stored from a place on

pub sets-front : (l vs : List ℕ) → length vs ≤ length l → sets l 0 vs ≡ vs ++ drop (length vs) l
sets-front l vs h = sets-eq vs l 0 (omega arith) ∙ ap (λ n. vs ++ drop n l) (zero-add (length vs))

pub sets-drop : (vs l : List ℕ) (i : ℕ) → i + length vs ≤ length l → drop (i + length vs) (sets l i vs) ≡ drop (i + length vs) l
sets-drop vs l i h =
    ap (drop (i + length vs)) (sets-eq vs l i h)
    ∙ drop_at (take i l ++ vs) (drop (i + length vs) l) (i + length vs)
    (length-append (take i l) vs ∙ ap (λ n. n + length vs) (length-take-le i l (omega arith)))

pub sets_same : (n : ℕ) (l : List ℕ) (i : ℕ) → i + n ≤ length l → sets l i (take n (drop i l)) ≡ l
sets_same n l i h =
    let k : length (take n (drop i l)) ≡ n = length-take-le n (drop i l) (omega (arith, length-drop i l)) in
    sets-eq (take n (drop i l)) l i (omega arith)
    ∙ append_assoc (take i l) (take n (drop i l)) (drop (i + length (take n (drop i l))) l)
    ∙ ap (λ m. take i l ++ (take n (drop i l) ++ drop (i + m) l)) k
    ∙ ap (λ r. take i l ++ (take n (drop i l) ++ r)) (sym (drop-drop n i l))
    ∙ ap (λ r. take i l ++ r) (take-append-drop n (drop i l))
    ∙ take-append-drop i l

-- two runs of bytes stored apart from each other, in either order
set_past : (xs l : List ℕ) (i j b : ℕ) → i + length xs ≤ j → set (sets l i xs) j b ≡ sets (set l j b) i xs
set_past [] l i j b h = refl
set_past (a ∷ xs) l i j b h =
    set_past xs (set l i a) (suc i) j b (omega arith)
    ∙ ap (λ m. sets m (suc i) xs) (set_comm l i j a b (λ e. omega arith))

pub sets-swap : (xs ys l : List ℕ) (i j : ℕ) → i + length xs ≤ j → sets (sets l i xs) j ys ≡ sets (sets l j ys) i xs
sets-swap xs [] l i j h = refl
sets-swap xs (b ∷ ys) l i j h =
    ap (λ m. sets m (suc j) ys) (set_past xs l i j b h) ∙ sets-swap xs ys (set l j b) i (suc j) (omega arith)

-- one stored before one that stands already
pub sets-before : (xs ys l : List ℕ) (i j : ℕ) → j ≡ i + length xs → sets (sets l j ys) i xs ≡ sets l i (xs ++ ys)
sets-before xs ys l i j e =
    sym (sets-swap xs ys l i j (omega arith)) ∙ ap (λ k. sets (sets l i xs) k ys) e ∙ sym (sets-append xs ys l i)

-- what stands before a run is as it was, and what stands after it
pub take-sets-le : (vs l : List ℕ) (i k : ℕ) → k ≤ i → take k (sets l i vs) ≡ take k l
take-sets-le [] l i k h = refl
take-sets-le (v ∷ vs) l i k h = take-sets-le vs (set l i v) (suc i) k (omega arith) ∙ take-set-le k l i v h

pub drop-sets-le : (vs l : List ℕ) (i k : ℕ) → i + length vs ≤ k → drop k (sets l i vs) ≡ drop k l
drop-sets-le [] l i k h = refl
drop-sets-le (v ∷ vs) l i k h = drop-sets-le vs (set l i v) (suc i) k (omega arith) ∙ drop-set-lt k l i v (omega arith)

-- a run of bytes stored in the front of a list
sets-left : (vs a b : List ℕ) (i : ℕ) → i + length vs ≤ length a → sets (a ++ b) i vs ≡ sets a i vs ++ b
sets-left [] a b i h = refl
sets-left (v ∷ vs) a b i h =
    ap (λ l. sets l (suc i) vs) (set-append_left a b i v (omega arith))
    ∙ sets-left vs (set a i v) b (suc i) (omega (arith, length-set a i v))

pub front-stored : (l vs : List ℕ) (i k : ℕ) → i + length vs ≤ k → k ≤ length l → sets (take k l) i vs ++ drop k l ≡ sets l i vs
front-stored l vs i k h h' =
    sym (sets-left vs (take k l) (drop k l) i (omega (arith, length-take-le k l h')))
    ∙ ap (λ x. sets x i vs) (take-append-drop k l)

-- a part of k bytes from a on, written anew
pub part-written : (l ys : List ℕ) (a k : ℕ) → length ys ≡ k → a + k ≤ length l → take a l ++ (ys ++ drop k (drop a l)) ≡ sets l a ys
part-written l ys a k e h =
    sym
    (sets-eq ys l a (omega arith)
    ∙ append_assoc (take a l) ys (drop (a + length ys) l)
    ∙ ap (λ n. take a l ++ (ys ++ drop (a + n) l)) e
    ∙ ap (λ r. take a l ++ (ys ++ r)) (sym (drop-drop k a l)))

-- and the part to the end
rest-written : (l ys : List ℕ) (a : ℕ) → take a l ++ (ys ++ drop (length l - a) (drop a l)) ≡ take a l ++ ys
rest-written l ys a =
    ap (λ r. take a l ++ (ys ++ r)) (drop_of_length-le (drop a l) {i = length l - a} (omega (arith, length-drop a l)))
    ∙ ap (λ r. take a l ++ r) (append-nil ys)

-- ---- a row

label-counts : (h : Bool) (n : ℕ) (l : List ℕ) → n ≤ length l
    → (length (label_bytes (label_of h n l)) ≡ cond h n 0) × (label_bytes (label_of h n l) ≡ take (cond h n 0) l) × (is_held (label_of h n l) ≡ h)
label-counts true n l h = (length-take-le n l h, refl, refl)
label-counts false n l h = (refl, refl, refl)

pub carry_of-short : (c : Converter) → c.label_len ≤ label_most → Short (carry_of c)
carry_of-short c h = go c.label_held
  where
    go : (x : Bool) → length (label_bytes (label_of x c.label_len c.label)) ≤ label_most
    go true = omega (arith, length-take c.label_len c.label)
    go false = omega arith

pub row-filled : (row : List ℕ) {row₁ row₂ y : List ℕ} (end : ℕ) {len : ℕ} (c : Converter) → length row ≡ row_size → length c.label ≡ label_most
    → c.label_len ≤ label_most → len ≡ cond c.label_held c.label_len 0 → row₁ ≡ sets row 0 (four end [])
    → row₂ ≡ sets row₁ 4 (mark c.skip_next_space ∷ mark c.label_held ∷ len ∷ 0 ∷ [])
    → y ≡ take len c.label ++ replicate (label_most - len) 0
    → take 8 row₂ ++ (y ++ drop (length row₂ - 8) (drop 8 row₂)) ≡ encode_row (record { end = end; carry = carry_of c })
unfolding encode_row encode_carry
row-filled row {row₁} {row₂} {y} end {len} c l la ls le w₁ w₂ wy =
    let marks : List ℕ = mark c.skip_next_space ∷ mark c.label_held ∷ len ∷ 0 ∷ [] in
    let w : row₂ ≡ sets row 0 (four end marks) = w₂ ∙ ap (λ m. sets m 4 marks) w₁ in
    let f : row₂ ≡ four end marks ++ drop 8 row = w ∙ sets-front row (four end marks) (omega arith) in
    let t : take 8 row₂ ≡ four end marks = ap (take 8) f in
    let p = label-counts c.label_held c.label_len c.label (omega arith) in
    let b : List ℕ = label_bytes (label_of c.label_held c.label_len c.label) in
    let n : length b ≡ len = p.0 ∙ sym le in
    let e : take len c.label ≡ b = ap (λ k. take k c.label) le ∙ sym p.1 in
    rest-written row₂ y 8
    ∙ ap (λ r. r ++ y) t
    ∙ ap (λ r. four end (mark c.skip_next_space ∷ mark c.label_held ∷ len ∷ 0 ∷ r)) (wy ∙ ap (λ r. r ++ replicate (label_most - len) 0) e)
    ∙ ap (λ k. four end (mark c.skip_next_space ∷ mark c.label_held ∷ k ∷ 0 ∷ b ++ replicate (label_most - k) 0)) (sym n)
    ∙ ap (λ h. four end (mark c.skip_next_space ∷ mark h ∷ length b ∷ 0 ∷ b ++ replicate (label_most - length b) 0)) (sym p.2)

-- ---- a row moved

pub row_moved : (i old new : ℕ) {x : ℕ} (l : List ℕ) → HasRow i l → x ≡ new + ((row_at i l).end - old)
    → sets l (row_size * i) (four x []) ≡ sets l (row_size * i) (move_row old new (drop (row_size * i) l))
unfolding move_row decode_row
row_moved i old new {x} l h e =
    let at : ℕ = row_size * i in
    let m : List ℕ = sets l at (four x []) in
    let r : List ℕ = take (row_size - 4) (drop 4 (drop at l)) in
    let lm : length m ≡ length l = length-sets l at (four x []) in
    let d : drop 4 (drop at l) ≡ drop (at + 4) m = drop-drop 4 at l ∙ sym (sets-drop (four x []) l at (omega arith)) in
    sym
    (ap (λ n. sets l at (four n r)) (sym e)
    ∙ sets-append (four x []) r l at
    ∙ ap (λ q. sets m (at + 4) (take (row_size - 4) q)) d
    ∙ sets_same (row_size - 4) m (at + 4) (omega arith))

pub row_written : (i : ℕ) (l : List ℕ) (end : ℕ) (c : Converter) {y : List ℕ} → HasRow i l → end < 4294967296 → c.label_len ≤ label_most
    → y ≡ encode_row (record { end = end; carry = carry_of c })
    → take (row_size * i) l ++ (y ++ drop (row_size * i + row_size - row_size * i) (drop (row_size * i) l))
    ≡ sets l (row_size * i) (encode_row (record { end = end; carry = carry_of c }))
row_written i l end c {y} h small short w =
    let r : Row = record { end = end; carry = carry_of c } in
    let n : length (encode_row r) ≡ row_size = encode_row-length r (record { small = small; short = carry_of-short c short }) in
    let k : length y ≡ row_size * i + row_size - row_size * i = ap length w ∙ n ∙ omega arith in
    part-written l y (row_size * i) (row_size * i + row_size - row_size * i) k (omega arith) ∙ ap (sets l (row_size * i)) w
