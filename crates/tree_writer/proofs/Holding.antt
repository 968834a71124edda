-- Texts from the front, rows from the back: what a buffer holds before the finish, and how each step keeps it so.
use mathlib.Core.Path.{◌≡◌, refl, sym, ap, ◌∙◌}
use mathlib.Core.List.{List, [], ◌∷◌, ◌++◌, reverse, append_assoc, reverse-append, reverse-reverse}
use Prim.Native.Nat.{ℕ, suc, ◌+◌, ◌*◌, ◌-◌, ◌/◌, ◌%◌, ◌≤◌, ◌<◌}
use native.Mathlib.Omega.{arith}
use lib.ListN.{set, length, get_or, take, drop, length-append, length-reverse, take-append-drop, drop_of_length-le}
use lib.Seq.{sets, sets-eq, length-sets, take-set-le, drop-set-lt, drop-set-add, take_at, drop_at}
use lib.Seq.{drop-drop, get_or-drop, length-take-le, take-append-le, take-take}
use Rattle.text.specs.Numbers.{four}
use Rattle.tree_writer.specs.Buffers.{back_number, back_number_at, turned_rows, filed}

-- ---- stores apart

take-sets : (k : ℕ) (vs l : List ℕ) (i : ℕ) → k ≤ i → take k (sets l i vs) ≡ take k l
take-sets k [] l i h = refl
take-sets k (a ∷ vs) l i h = take-sets k vs (set l i a) (suc i) (omega arith) ∙ take-set-le k l i a h

drop-sets : (k : ℕ) (vs l : List ℕ) (i : ℕ) → i + length vs ≤ k → drop k (sets l i vs) ≡ drop k l
drop-sets k [] l i h = refl
drop-sets k (a ∷ vs) l i h = drop-sets k vs (set l i a) (suc i) (omega arith) ∙ drop-set-lt k l i a (omega arith)

-- in what stands from k on
drop-sets-in : (k : ℕ) (vs l : List ℕ) (i : ℕ) → drop k (sets l (k + i) vs) ≡ sets (drop k l) i vs
drop-sets-in k [] l i = refl
drop-sets-in k (a ∷ vs) l i =
    ap (λ n. drop k (sets (set l (k + i) a) n vs)) (let e : suc (k + i) ≡ k + suc i = omega arith in e) ∙ drop-sets-in k vs (set l (k + i) a) (suc i)
    ∙ ap (λ m. sets m (suc i) vs) (drop-set-add k l i a)

-- from the place on
drop-sets-at : (vs l : List ℕ) (i : ℕ) → i + length vs ≤ length l → drop i (sets l i vs) ≡ vs ++ drop (i + length vs) l
drop-sets-at vs l i h =
    let e = length-take-le i l (omega arith) in
    ap (drop i) (sets-eq vs l i h ∙ append_assoc (take i l) vs (drop (i + length vs) l)) ∙ drop_at (take i l) (vs ++ drop (i + length vs) l) i e

take-sets-at : (vs l : List ℕ) (i : ℕ) → i + length vs ≤ length l → take (i + length vs) (sets l i vs) ≡ take i l ++ vs
take-sets-at vs l i h =
    let e = length-take-le i l (omega arith) in
    ap (take (i + length vs)) (sets-eq vs l i h) ∙ take_at (take i l ++ vs) (drop (i + length vs) l) (i + length vs) (length-append (take i l) vs ∙ omega arith)

-- ---- what is held

pub record HoldsRows (rows text b : List ℕ) : Type 0 where
  pub room : length text + length rows + 8 ≤ length b
  pub texts : take (length text) b ≡ text
  pub back : drop (length b - length rows) b ≡ reverse rows

pub holds-none : (b : List ℕ) → 8 ≤ length b → HoldsRows [] [] b
holds-none b h = record { room = omega arith; texts = refl; back = drop_all b (length b - 0) (omega arith) }
  where
    drop_all : (l : List ℕ) (n : ℕ) → length l ≤ n → drop n l ≡ []
    drop_all l n k = drop_of_length-le l {i = n} k

-- a text after the others
pub holds_text : (rows text b s : List ℕ) → HoldsRows rows text b → length text + length s + length rows + 8 ≤ length b
    → HoldsRows rows (text ++ s) (sets b (length text) s)
holds_text rows text b s w h =
    let t = length text in
    let l = length-sets b t s in
    let la = length-append text s in
    record {
      room = omega arith;
      texts = ap (λ n. take n (sets b t s)) la ∙ take-sets-at s b t (omega arith) ∙ ap (λ x. x ++ s) w.texts;
      back = ap (λ n. drop (n - length rows) (sets b t s)) l ∙ drop-sets (length b - length rows) s b t (omega arith) ∙ w.back;
    }

-- a row after the others: it stands before them in the buffer
pub holds_row : (rows text b r v : List ℕ) (p : ℕ) → HoldsRows rows text b → length r ≡ 8 → v ≡ reverse r → p ≡ length b - (length rows + 8)
    → length text + length rows + 8 + 8 ≤ length b → HoldsRows (rows ++ r) text (sets b p v)
holds_row rows text b r v p w e q i h =
    let l = length-sets b p v in
    let la = length-append rows r in
    let lv : length v ≡ 8 = ap length q ∙ length-reverse r ∙ e in
    record {
      room = omega arith;
      texts = take-sets (length text) v b p (omega arith) ∙ w.texts;
      back =
          ap (λ n. drop n (sets b p v)) (let x : length (sets b p v) - length (rows ++ r) ≡ p = omega arith in x)
          ∙ drop-sets-at v b p (omega arith)
          ∙ ap (λ n. v ++ drop n b) (let x : p + length v ≡ length b - length rows = omega arith in x)
          ∙ ap (λ x. v ++ x) w.back ∙ ap (λ x. x ++ reverse rows) q ∙ sym (reverse-append rows r);
    }

sets-middle : (x y z v : List ℕ) (i : ℕ) → length x ≡ i → length v ≡ length y → sets (x ++ (y ++ z)) i v ≡ x ++ (v ++ z)
sets-middle x y z v i e l =
    let la = length-append x (y ++ z) in
    let lb = length-append y z in
    sets-eq v (x ++ (y ++ z)) i (omega arith)
    ∙ ap (λ a. (a ++ v) ++ drop (i + length v) (x ++ (y ++ z))) (take_at x (y ++ z) i e)
    ∙ ap (λ a. (x ++ v) ++ drop (i + length v) a) (sym (append_assoc x y z))
    ∙ ap (λ a. (x ++ v) ++ a) (drop_at (x ++ y) z (i + length v) (length-append x y ∙ omega arith))
    ∙ append_assoc x v z

turned-row : (pre rest : List ℕ) (k m : ℕ) → reverse (pre ++ (k ∷ 0 ∷ 0 ∷ 0 ∷ four m rest))
    ≡ reverse rest ++ (back_number m ++ ((0 ∷ 0 ∷ 0 ∷ k ∷ []) ++ reverse pre))
turned-row pre rest k m =
    reverse-append pre (k ∷ 0 ∷ 0 ∷ 0 ∷ four m rest)
    ∙ ap (λ x. x ++ reverse pre) (reverse-append (k ∷ 0 ∷ 0 ∷ 0 ∷ four m []) rest)
    ∙ append_assoc (reverse rest) (reverse (k ∷ 0 ∷ 0 ∷ 0 ∷ four m [])) (reverse pre)

-- the number of a row, put in place of another
pub holds-number : (pre rest text b : List ℕ) (k n m p : ℕ) → HoldsRows (pre ++ (k ∷ 0 ∷ 0 ∷ 0 ∷ four n rest)) text b → p ≡ length b - (length pre + 8)
    → HoldsRows (pre ++ (k ∷ 0 ∷ 0 ∷ 0 ∷ four m rest)) text (sets b p (back_number m))
holds-number pre rest text b k n m p w q =
    let rows = pre ++ (k ∷ 0 ∷ 0 ∷ 0 ∷ four n rest) in
    let rows' = pre ++ (k ∷ 0 ∷ 0 ∷ 0 ∷ four m rest) in
    let v = back_number m in
    let l = length-sets b p v in
    let la = length-append pre (k ∷ 0 ∷ 0 ∷ 0 ∷ four n rest) in
    let lb = length-append pre (k ∷ 0 ∷ 0 ∷ 0 ∷ four m rest) in
    let h = w.room in
    let d = length b - length rows in
    record {
      room = omega arith;
      texts = take-sets (length text) v b p (omega arith) ∙ w.texts;
      back =
          ap (λ i. drop i (sets b p v)) (let x : length (sets b p v) - length rows' ≡ d = omega arith in x)
          ∙ ap (λ i. drop d (sets b i v)) (let x : p ≡ d + length rest = omega arith in x)
          ∙ drop-sets-in d v b (length rest)
          ∙ ap (λ x. sets x (length rest) v) (w.back ∙ turned-row pre rest k n)
          ∙ sets-middle (reverse rest) (back_number n) ((0 ∷ 0 ∷ 0 ∷ k ∷ []) ++ reverse pre) v (length rest) (length-reverse rest) refl
          ∙ sym (turned-row pre rest k m);
    }

-- and read back
number_at : (b z : List ℕ) (p n : ℕ) → drop p b ≡ back_number n ++ z → n < 4294967296 → back_number_at b p ≡ n
number_at b z p n e h =
    let g : (i : ℕ) → get_or b (p + i) 0 ≡ get_or (back_number n ++ z) i 0 = λ i. sym (get_or-drop p b i 0) ∙ ap (λ l. get_or l i 0) e in
    let g0 : get_or b p 0 ≡ n / 256 / 256 / 256 % 256 = ap (λ i. get_or b i 0) (let x : p ≡ p + 0 = omega arith in x) ∙ g 0 in
    omega (arith, g0, g 1, g 2, g 3)

pub holds_read : (pre rest text b : List ℕ) (k n p : ℕ) → HoldsRows (pre ++ (k ∷ 0 ∷ 0 ∷ 0 ∷ four n rest)) text b → p ≡ length b - (length pre + 8)
    → n < 4294967296 → back_number_at b p ≡ n
holds_read pre rest text b k n p w q =
    let rows = pre ++ (k ∷ 0 ∷ 0 ∷ 0 ∷ four n rest) in
    let la = length-append pre (k ∷ 0 ∷ 0 ∷ 0 ∷ four n rest) in
    let h = w.room in
    let d = length b - length rows in
    let z = (0 ∷ 0 ∷ 0 ∷ k ∷ []) ++ reverse pre in
    number_at b z p n
    (ap (λ i. drop i b) (let x : p ≡ d + length rest = omega arith in x) ∙ sym (drop-drop (length rest) d b)
    ∙ ap (drop (length rest)) (w.back ∙ turned-row pre rest k n)
    ∙ drop_at (reverse rest) (back_number n ++ z) (length rest) (length-reverse rest))

-- ---- the finish

pub length-turned : (n : ℕ) (b : List ℕ) → length (turned_rows n b) ≡ length b
length-turned n b =
    let d = length b - 8 * n in
    length-append (take d b) (reverse (drop d b)) ∙ ap (λ k. length (take d b) + k) (length-reverse (drop d b))
    ∙ sym (length-append (take d b) (drop d b)) ∙ ap length (take-append-drop d b)

pub holds-filed : (rows text b : List ℕ) (n : ℕ) → HoldsRows rows text b → length rows ≡ 8 * n
    → take (length text + 8 * n + 8) (filed (length text) n b) ≡ text ++ (rows ++ four (length text) (four n []))
holds-filed rows text b n w e =
    let t = length text in
    let d = length b - 8 * n in
    let tr = four t (four n []) in
    let h = w.room in
    let r : reverse (drop d b) ≡ rows = ap reverse (ap (λ k. drop (length b - k) b) (sym e) ∙ w.back) ∙ reverse-reverse rows in
    let lt = length-take-le d b (omega arith) in
    let lu = length-turned n b in
    let u : take t (turned_rows n b) ≡ text =
    take-append-le t (take d b) (reverse (drop d b)) (omega arith) ∙ take-take t d b (omega arith) ∙ w.texts in
    let m = sets (turned_rows n b) t (reverse (drop d b)) in
    let lm : length m ≡ length b = length-sets (turned_rows n b) t (reverse (drop d b)) ∙ lu in
    let front : take (t + 8 * n) m ≡ text ++ rows =
    ap (λ k. take (t + k) m) (sym e ∙ ap length (sym r)) ∙ take-sets-at (reverse (drop d b)) (turned_rows n b) t (omega (arith, ap length r))
    ∙ ap (λ x. x ++ reverse (drop d b)) u ∙ ap (λ x. text ++ x) r in
    take-sets-at tr m (t + 8 * n) (omega arith) ∙ ap (λ x. x ++ tr) front ∙ append_assoc text rows tr
