-- What the trailer of a file of rows says: a file that passes its tests is its text area, its rows and the trailer (`areas`), and one
-- that is put together so passes them, with these areas.
use mathlib.Core.Path.{◌≡◌, refl, sym, ap, ◌∙◌}
use mathlib.Core.Bool.{Bool, true, false, and-eq-true_iff}
use mathlib.Core.Option.{Option}
use mathlib.Core.Option.Option.{none, some}
use mathlib.Core.List.{List, [], ◌∷◌, ◌++◌, append_assoc}
use Prim.Native.Nat.{ℕ, ◌+◌, ◌*◌, ◌-◌, ◌≤◌}
use native.Mathlib.Omega.{arith}
use borrow.Author.Tests.{le-leb, leb-true, eq-eqb, eqb-true}
use lib.Dec.{eqb}
use lib.ListN.{length, take, drop, length-append, length-drop, take-append-drop}
use lib.Seq.{take_at, drop_at, drop-drop, take-append_seam, drop-append_seam, length-take-le}
use Rattle.text.specs.Numbers.{Bytes, four, four_at}
use Rattle.text.specs.Trailer.{file_most, start_of, count_of, trailed, text_area, row_area, ahead}
use Rattle.text.proofs.Numbers.{bytes_take, bytes_drop, four-says, four_at-drop, eight-fours}

-- ---- a file with a trailer

pub record Trailed (file : List ℕ) : Type 0 where
  pub long : 8 ≤ length file
  pub short : length file ≤ file_most
  pub sum : start_of file + 8 * count_of file + 8 ≡ length file

pub trailed-says : (file : List ℕ) → trailed file ≡ true → Trailed file
trailed-says file e =
    let w = (and-eq-true_iff _ _).0 e in
    let v = (and-eq-true_iff _ _).0 w.1 in
    record { long = leb-true _ _ w.0; short = leb-true _ _ v.0; sum = eqb-true _ _ v.1 }

pub trailed-is : (file : List ℕ) → Trailed file → trailed file ≡ true
trailed-is file w =
    let x = le-leb 8 (length file) w.long in
    let y = le-leb (length file) file_most w.short in
    let z = eq-eqb (start_of file + 8 * count_of file + 8) (length file) w.sum in
    rw (x, y, z)

pub trailed-not : (file : List ℕ) → (Trailed file → ⊥) → trailed file ≡ false
trailed-not file h = by (trailed file) refl
  where
    by : (b : Bool) → trailed file ≡ b → b ≡ false
    by true e = absurd (h (trailed-says file e))
    by false e = refl

-- in the bounds the sum decides
pub trailed-by :
    (file : List ℕ) (s n : ℕ) → 8 ≤ length file → length file ≤ file_most → s ≡ start_of file → n ≡ count_of file
    → eqb (s + 8 * n + 8) (length file) ≡ trailed file
trailed-by file s n long short p q = rw (le-leb 8 (length file) long, le-leb (length file) file_most short, p, q)

module _ (file : List ℕ) (w : Trailed file) where
  pub length-text_area : length (text_area file) ≡ start_of file
  length-text_area = let sum = w.sum in length-take-le (start_of file) file (omega arith)

  pub length-row_area : length (row_area file) ≡ 8 * count_of file
  length-row_area = let sum = w.sum in length-take-le (8 * count_of file) (drop (start_of file) file) (simp length-drop (omega arith))

  pub areas : Bytes file → file ≡ text_area file ++ (row_area file ++ four (start_of file) (four (count_of file) []))
  areas by =
      let sum = w.sum in
      let k = start_of file + 8 * count_of file in
      let d = drop k file in
      let end : d ≡ four (start_of file) (four (count_of file) []) =
      eight-fours d (bytes_drop k file by) (length-drop k file ∙ omega arith)
      ∙ ap (λ x. four x (four (four_at 4 d) [])) (four_at-drop k 0 file ∙ ap (λ i. four_at i file) (omega arith))
      ∙ ap (λ x. four (start_of file) (four x [])) (four_at-drop k 4 file ∙ ap (λ i. four_at i file) (omega arith)) in
      sym (take-append-drop (start_of file) file)
      ∙ ap (λ x. text_area file ++ x) (sym (take-append-drop (8 * count_of file) (drop (start_of file) file)))
      ∙ ap (λ x. text_area file ++ (row_area file ++ x)) (drop-drop (8 * count_of file) (start_of file) file ∙ end)

  -- the parts that code takes, which has the start as a number
  module _ (start : ℕ) (e : start ≡ start_of file) where
    pub start-inside : start ≤ length file - 8
    start-inside = let sum = w.sum in omega arith

    pub part-text : length (take start file) ≡ start
    part-text = let sum = w.sum in length-take-le start file (omega arith)

    pub part-rows : take (length file - 8 - start) (drop start file) ≡ row_area file
    part-rows =
        let sum = w.sum in
        let many : length file - 8 - start_of file ≡ 8 * count_of file = omega arith in
        ap (λ k. take (length file - 8 - k) (drop k file)) e ∙ ap (λ k. take k (drop (start_of file) file)) many

    pub part-many : length (take (length file - 8 - start) (drop start file)) ≡ 8 * count_of file
    part-many = ap length part-rows ∙ length-row_area

pub bytes-row_area : (file : List ℕ) → Bytes file → Bytes (row_area file)
bytes-row_area file by = bytes_take (8 * count_of file) (drop (start_of file) file) (bytes_drop (start_of file) file by)

-- ---- a file put together of a text, n rows, and the trailer that belongs to them

abbrev pub laid_out : ℕ → List ℕ → List ℕ → List ℕ
laid_out n text rows = text ++ (rows ++ four (length text) (four n []))

module _ (n : ℕ) (text rows : List ℕ) (l : length rows ≡ 8 * n) (short : length (laid_out n text rows) ≤ file_most) where
  abbrev file : List ℕ
  file = laid_out n text rows

  abbrev end : List ℕ
  end = four (length text) (four n [])

  pub laid-length : length file ≡ length text + 8 * n + 8
  laid-length = length-append text (rows ++ end) ∙ ap (λ k. length text + k) (length-append rows end) ∙ omega arith

  laid_end : drop (length file - 8) file ≡ end
  laid_end =
      ap (drop (length file - 8)) (sym (append_assoc text rows end))
      ∙ drop_at (text ++ rows) end (length file - 8) (length-append text rows ∙ omega (arith, laid-length))

  pub laid-start : start_of file ≡ length text
  laid-start =
      ap (λ k. four_at k file) (omega arith)
      ∙ sym (four_at-drop (length file - 8) 0 file)
      ∙ ap (four_at 0) laid_end
      ∙ four-says (length text) (omega (arith, laid-length))

  pub laid-count : count_of file ≡ n
  laid-count =
      ap (λ k. four_at k file) (omega (arith, laid-length))
      ∙ sym (four_at-drop (length file - 8) 4 file)
      ∙ ap (four_at 4) laid_end
      ∙ four-says n (omega (arith, laid-length))

  pub laid-trailed : Trailed file
  laid-trailed =
      let k = laid-length in
      let s = laid-start in
      let c = laid-count in
      record { long = omega arith; short = short; sum = omega arith }

  pub laid-text : text_area file ≡ text
  laid-text = ap (λ k. take k file) laid-start ∙ take-append_seam text (rows ++ end)

  pub laid-rows : row_area file ≡ rows
  laid-rows =
      ap (λ k. take (8 * k) (drop (start_of file) file)) laid-count
      ∙ ap (λ k. take (8 * n) (drop k file)) laid-start
      ∙ ap (take (8 * n)) (drop-append_seam text (rows ++ end))
      ∙ take_at rows end (8 * n) l

-- ---- rows one by one

pub ahead-some :
    {A : Type 0} (a : A) (o : Option (List A)) (l : List A) → ahead a o ≡ some l → (m : List A) × ((o ≡ some m) × (a ∷ m ≡ l))
ahead-some a none l e = absurd (let z : ◌≡◌ {A = ℕ} 0 1 = cc in omega arith)
ahead-some a (some m) l e = (m, (refl, cc))
