-- The bytes of rows say what the rows are: rows that can be written are read back (`decode_row-encode`), fit, and move by
-- their lengths alone. Each law about a list of rows follows the list; a row is looked into by the laws of one row only.
use mathlib.Core.Path.{◌≡◌, refl, sym, ap, ap₂, ◌∙◌, subst}
use mathlib.Core.Bool.{Bool, true, false, ◌||◌}
use mathlib.Core.List.{List, [], ◌∷◌, ◌++◌, append_assoc}
use Prim.Native.Nat.{ℕ, zero, suc, ◌+◌, ◌*◌, ◌-◌, ◌<◌}
use native.Mathlib.Nat.{add_assoc, add-zero, zero-add}
use native.Mathlib.Omega.{arith}
use borrow.Author.Tests.{le-leb, eq-eqb}
use lib.ListN.{length, take, drop, replicate, length-append, length-replicate}
use lib.Seq.{take-append_seam, drop-append_seam, take_at, drop_at}
use lib.Dec.{leb, eqb}
use Rattle.text.specs.Numbers.{four, four_at}
use Rattle.text.proofs.Numbers.{four_at-four}
use Rattle.mitex_meaning.specs.Outcome.{Label, Carry, label_most}
use Rattle.mitex_meaning.specs.Outcome.Label.{unheld, held}
use Rattle.mitex_meaning.specs.State.{label_of}
use Rattle.mitex_meaning.specs.Keeping.{label_bytes, Short}
use Rattle.ledger.specs.Ledger.{Row, row_size, mark, is_held, encode_carry, encode_row, encode_rows, decode_row, decode_rows, all_zero, marks_fit}
use Rattle.ledger.specs.Ledger.{row_fits, all_rows_fit, fits, move_row, move_rows, Piece, written, rows_from}

-- rows that can be written
pub record Encodable (r : Row) : Type 0 where
  pub small : r.end < 4294967296
  pub short : Short r.carry

pub data AllEncodable : List Row → Type 0 where
  encodable_none : AllEncodable []
  encodable_more : {r : Row} {rs : List Row} → Encodable r → AllEncodable rs → AllEncodable (r ∷ rs)

-- ---- one row

encode_carry-length : (c : Carry) → Short c → length (encode_carry c) ≡ row_size - 4
unfolding encode_carry
encode_carry-length c h =
    let b : List ℕ = label_bytes c.label in
    rw (length-append b (replicate (label_most - length b) 0), length-replicate {A = ℕ} (label_most - length b) 0) (omega arith)

pub encode_row-length : (r : Row) → Encodable r → length (encode_row r) ≡ row_size
unfolding encode_row
encode_row-length r ok = ap (λ n. suc (suc (suc (suc n)))) (encode_carry-length r.carry ok.short)

pub encode_row-drop : (r : Row) (l : List ℕ) → Encodable r → drop row_size (encode_row r ++ l) ≡ l
encode_row-drop r l ok = drop_at (encode_row r) l row_size (encode_row-length r ok)

pub encode_row-end : (r : Row) (l : List ℕ) → Encodable r → four_at 0 (encode_row r ++ l) ≡ r.end
unfolding encode_row
encode_row-end r l ok = four_at-four r.end (encode_carry r.carry ++ l) ok.small

mark-says : (b : Bool) → eqb (mark b) 1 ≡ b
mark-says true = refl
mark-says false = refl

label-says : (a : Label) (l : List ℕ) → label_of (eqb (mark (is_held a)) 1) (length (label_bytes a)) (label_bytes a ++ l) ≡ a
label-says unheld l = refl
label-says (held b) l = ap held (take-append_seam b l)

pub decode_row-encode : (r : Row) (l : List ℕ) → Encodable r → decode_row (encode_row r ++ l) ≡ r
unfolding encode_row encode_carry decode_row
decode_row-encode r l ok =
    let a : Label = r.carry.label in
    let b : List ℕ = label_bytes a in
    let z : List ℕ = replicate (label_most - length b) 0 in
    let en : four_at 0 (encode_row r ++ l) ≡ r.end = encode_row-end r l ok in
    let fl : eqb (mark r.carry.flag) 1 ≡ r.carry.flag = mark-says r.carry.flag in
    let la : label_of (eqb (mark (is_held a)) 1) (length b) ((b ++ z) ++ l) ≡ a = rw append_assoc (label-says a (z ++ l)) in
    λ i. record { end = en i; carry = record { flag = fl i; label = la i } }

mark_small : (b : Bool) → leb (mark b) 1 ≡ true
mark_small true = refl
mark_small false = refl

unheld-empty : (a : Label) → (eqb (mark (is_held a)) 1 || eqb (length (label_bytes a)) 0) ≡ true
unheld-empty unheld = refl
unheld-empty (held b) = refl

all_zero-replicate : (n : ℕ) → all_zero (replicate n 0) ≡ true
unfolding all_zero
all_zero-replicate zero = refl
all_zero-replicate (suc n) = all_zero-replicate n

padding-zero : (b l : List ℕ) → all_zero (take (label_most - length b) (drop (length b) ((b ++ replicate (label_most - length b) 0) ++ l))) ≡ true
padding-zero b l =
    let n : ℕ = label_most - length b in
    let z : List ℕ = replicate n 0 in
    rw (append_assoc b z l, drop-append_seam b (z ++ l), take_at z l n (length-replicate {A = ℕ} n 0)) (all_zero-replicate n)

pub row_fits-encode : (r : Row) (l : List ℕ) → Encodable r → row_fits (encode_row r ++ l) ≡ true
unfolding encode_row encode_carry row_fits marks_fit
row_fits-encode r l ok =
    let b : List ℕ = label_bytes r.carry.label in
    rw (
      mark_small r.carry.flag,
      mark_small (is_held r.carry.label),
      le-leb (length b) label_most ok.short,
      unheld-empty r.carry.label,
    )
    (padding-zero b l)

pub move_row-encode : (r : Row) (l : List ℕ) → Encodable r → (o w : ℕ)
    → move_row o w (encode_row r ++ l) ≡ encode_row (record { end = w + (r.end - o); carry = r.carry })
unfolding encode_row move_row
move_row-encode r l ok o w =
    ap₂ (λ n t. four (w + (n - o)) t) (four_at-four r.end (encode_carry r.carry ++ l) ok.small)
    (take_at (encode_carry r.carry) l (row_size - 4) (encode_carry-length r.carry ok.short))

-- ---- rows

pub encode_rows-length : {rs : List Row} → AllEncodable rs → length (encode_rows rs) ≡ row_size * length rs
encode_rows-length encodable_none = refl
encode_rows-length (encodable_more {r} {rs} o os) = rw length-append (omega (arith, encode_row-length r o, encode_rows-length os))

pub decode_rows-encode : {rs : List Row} → AllEncodable rs → (l : List ℕ) → decode_rows (length rs) (encode_rows rs ++ l) ≡ rs
decode_rows-encode encodable_none l = refl
decode_rows-encode (encodable_more {r} {rs} o os) l =
    rw (append_assoc, decode_row-encode r (encode_rows rs ++ l) o, encode_row-drop r (encode_rows rs ++ l) o, decode_rows-encode os l)

-- ---- the rows of blocks

pub data AllShort : List Piece → Type 0 where
  short_none : AllShort []
  short_more : {p : Piece} {ps : List Piece} → Short p.after → AllShort ps → AllShort (p ∷ ps)

pub written-append : (ps qs : List Piece) → written (ps ++ qs) ≡ written ps ++ written qs
written-append [] qs = refl
written-append (p ∷ ps) qs = ap (λ t. p.text ++ t) (written-append ps qs) ∙ sym (append_assoc p.text (written ps) (written qs))

pub rows_from-length : (at : ℕ) (ps : List Piece) → length (rows_from at ps) ≡ length ps
rows_from-length at [] = refl
rows_from-length at (p ∷ ps) = ap suc (rows_from-length (at + length p.text) ps)

pub rows_from-encodable : {ps : List Piece} → AllShort ps → (at : ℕ) → at + length (written ps) < 4294967296 → AllEncodable (rows_from at ps)
rows_from-encodable short_none at h = encodable_none
rows_from-encodable (short_more {p} {ps} s a) at h =
    let e : length (p.text ++ written ps) ≡ length p.text + length (written ps) = length-append p.text (written ps) in
    let fit : at + length p.text < 4294967296 = omega arith in
    encodable_more (record { small = fit; short = s }) (rows_from-encodable a (at + length p.text) (omega arith))

pub rows_from-append : (at : ℕ) (ps qs : List Piece)
    → encode_rows (rows_from at (ps ++ qs)) ≡ encode_rows (rows_from at ps) ++ encode_rows (rows_from (at + length (written ps)) qs)
rows_from-append at [] qs = ap (λ n. encode_rows (rows_from n qs)) (sym (add-zero at))
rows_from-append at (p ∷ ps) qs =
    let n : ℕ = at + length p.text in
    rw (rows_from-append n ps qs, append_assoc, length-append p.text (written ps), add_assoc at (length p.text) (length (written ps)))

-- the rows of a front and of a rest
pub encodable-left : (at : ℕ) (ps qs : List Piece) → AllEncodable (rows_from at (ps ++ qs)) → AllEncodable (rows_from at ps)
encodable-left at [] qs ok = encodable_none
encodable-left at (p ∷ ps) qs (encodable_more o os) = encodable_more o (encodable-left (at + length p.text) ps qs os)

pub encodable-right : (at : ℕ) (ps qs : List Piece) → AllEncodable (rows_from at (ps ++ qs)) → AllEncodable (rows_from (at + length (written ps)) qs)
encodable-right at [] qs ok = rw add-zero ok
encodable-right at (p ∷ ps) qs (encodable_more o os) =
    rw (length-append p.text (written ps), ← add_assoc) (encodable-right (at + length p.text) ps qs os)

all_rows_fit-encode : (at : ℕ) (ps : List Piece) → AllEncodable (rows_from at ps) → (l : List ℕ)
    → all_rows_fit (length ps) at (at + length (written ps)) (encode_rows (rows_from at ps) ++ l) ≡ true
all_rows_fit-encode at [] os l = eq-eqb at (at + 0) (omega arith)
all_rows_fit-encode at (p ∷ ps) (encodable_more o os) l =
    let n : ℕ = at + length p.text in
    let r : Row = record { end = n; carry = p.after } in
    let m : List ℕ = encode_rows (rows_from n ps) ++ l in
    rw (
      append_assoc,
      encode_row-end r m o,
      row_fits-encode r m o,
      encode_row-drop r m o,
      length-append p.text (written ps),
      ← add_assoc at (length p.text) (length (written ps)),
    )
    (rw (le-leb at n (omega arith)) (all_rows_fit-encode n ps os l))

-- a ledger that holds the rows of blocks fits their text
pub fits-encode : (ps : List Piece) → AllEncodable (rows_from 0 ps) → (l : List ℕ)
    → fits (length ps) (length (written ps)) (encode_rows (rows_from 0 ps) ++ l) ≡ true
unfolding fits
fits-encode ps os l =
    let r : List ℕ = encode_rows (rows_from 0 ps) in
    rw (le-leb (row_size * length ps) (length (r ++ l)) (omega (arith, length-append r l, encode_rows-length os, rows_from-length 0 ps)))
    (subst (λ n. all_rows_fit (length ps) 0 n (r ++ l) ≡ true) (zero-add (length (written ps))) (all_rows_fit-encode 0 ps os l))

-- the rows of blocks whose text is moved are the rows of the blocks at the new place
pub move_rows-encode : (o w x : ℕ) (ps : List Piece) → AllEncodable (rows_from (o + x) ps) → (l : List ℕ)
    → move_rows (length ps) o w (encode_rows (rows_from (o + x) ps) ++ l) ≡ encode_rows (rows_from (w + x) ps)
move_rows-encode o w x [] os l = refl
move_rows-encode o w x (p ∷ ps) (encodable_more ok os) l =
    let n : ℕ = length p.text in
    let r : Row = record { end = o + x + n; carry = p.after } in
    let m : List ℕ = encode_rows (rows_from (o + x + n) ps) ++ l in
    let at : w + (o + x + n - o) ≡ w + x + n = omega arith in
    let ih : move_rows (length ps) o w (encode_rows (rows_from (o + (x + n)) ps) ++ l) ≡ encode_rows (rows_from (w + (x + n)) ps)
    = move_rows-encode o w (x + n) ps (rw (← add_assoc) os) l in
    rw (append_assoc (encode_row r) (encode_rows (rows_from (o + x + n) ps)) l, move_row-encode r m ok o w, encode_row-drop r m ok, at)
    (ap (λ t. encode_row (record { end = w + x + n; carry = p.after }) ++ t) (rw (← add_assoc o x n, ← add_assoc w x n) at ih))
