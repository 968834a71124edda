-- The ledger: one row of `row_size` bytes for each block of the document.
--   0 to 3   the text's length after the block
--   4        the space flag
--   5        whether a label is held
--   6        the label's length
--   7        zero
--   8 on     the label's bytes, padded with zeros
-- The flag and the label are what the block hands to the next one: its carry.
use Rattle.std.specs.Prelude.{◌≡◌, Bool, true, false, ◌&&◌, ◌||◌, List, [], ◌∷◌, ◌++◌, ℕ, zero, suc, ◌+◌, ◌*◌, ◌-◌, ◌≤◌, ◌<◌, length, take, drop, get_or, replicate, leb, eqb}
use Rattle.std.specs.Bool.{beq}
use Rattle.text.specs.Numbers.{four, four_at}
use Rattle.text.specs.Compare.{same}
use Rattle.mitex_meaning.specs.Outcome.{Label, Carry, label_most}
use Rattle.mitex_meaning.specs.Outcome.Label.{unheld, held}
use Rattle.mitex_meaning.specs.State.{label_of}
use Rattle.mitex_meaning.specs.Keeping.{label_bytes}

abbrev pub row_size : ℕ
row_size = 8 + label_most

pub record Row : Type 0 where
  pub end : ℕ
  pub carry : Carry

-- ---- the bytes of rows

abbrev pub mark : Bool → ℕ
mark true = 1
mark false = 0

abbrev pub is_held : Label → Bool
is_held unheld = false
is_held (held b) = true

-- a row after its length
unfoldable pub encode_carry : Carry → List ℕ
encode_carry c =
    mark c.flag
    ∷ mark (is_held c.label)
    ∷ length (label_bytes c.label)
    ∷ 0
    ∷ label_bytes c.label ++ replicate (label_most - length (label_bytes c.label)) 0

unfoldable pub encode_row : Row → List ℕ
encode_row r = four r.end (encode_carry r.carry)

abbrev pub encode_rows : List Row → List ℕ
encode_rows [] = []
encode_rows (r ∷ rs) = encode_row r ++ encode_rows rs

-- ---- rows from bytes

unfoldable pub decode_row : List ℕ → Row
decode_row l =
    record {
      end = four_at 0 l;
      carry = record {
        flag = eqb (get_or l 4 0) 1;
        label = label_of (eqb (get_or l 5 0) 1) (get_or l 6 0) (drop 8 l);
      };
    }

abbrev pub decode_rows : ℕ → List ℕ → List Row
decode_rows zero l = []
decode_rows (suc n) l = decode_row l ∷ decode_rows n (drop row_size l)

-- the row with number i, where the ledger has one
abbrev pub HasRow : ℕ → List ℕ → Type 0
HasRow i l = row_size * (i + 1) ≤ length l

abbrev pub row_at : ℕ → List ℕ → Row
row_at i l = decode_row (drop (row_size * i) l)

-- ---- a ledger that fits

unfoldable pub all_zero : List ℕ → Bool
all_zero [] = true
all_zero (x ∷ l) = eqb x 0 && all_zero l

-- what stands after the label in its row
abbrev pub padding : List ℕ → List ℕ
padding l = take (label_most - get_or l 6 0) (drop (get_or l 6 0) (drop 8 l))

-- bytes 4 to 7: both marks are 0 or 1, the label's length is at most the limit, an unheld label has length 0, and zero
unfoldable pub marks_fit : ℕ → ℕ → ℕ → ℕ → Bool
marks_fit flag hold len blank =
    leb flag 1 && (leb hold 1 && (leb len label_most && ((eqb hold 1 || eqb len 0) && eqb blank 0)))

-- the first row
unfoldable pub row_fits : List ℕ → Bool
row_fits l = marks_fit (get_or l 4 0) (get_or l 5 0) (get_or l 6 0) (get_or l 7 0) && all_zero (padding l)

-- the row with number i stands in the ledger and fits
abbrev pub RowFits : ℕ → List ℕ → Type 0
RowFits i l = HasRow i l × (row_fits (drop (row_size * i) l) ≡ true)

-- n rows of which each fits, whose lengths never fall, from `at` on, and of which the last equals the kept length
abbrev pub all_rows_fit : ℕ → ℕ → ℕ → List ℕ → Bool
all_rows_fit zero at kept l = eqb at kept
all_rows_fit (suc n) at kept l = leb at (four_at 0 l) && (row_fits l && all_rows_fit n (four_at 0 l) kept (drop row_size l))

-- the ledger has a row for each of n blocks, and these fit a text of the kept length
unfoldable pub fits : ℕ → ℕ → List ℕ → Bool
fits n kept l = leb (row_size * n) (length l) && all_rows_fit n 0 kept l

-- ---- rows whose text was moved

-- the first row, its text moved from the place `old` to `new`: only the length changes
unfoldable pub move_row : ℕ → ℕ → List ℕ → List ℕ
move_row old new l = four (new + (four_at 0 l - old)) (take (row_size - 4) (drop 4 l))

-- the row with number i, where its text begins at `old` or later and its length stays a number of four bytes
pub record Movable (i old new : ℕ) (l : List ℕ) : Type 0 where
  pub behind : old ≤ (row_at i l).end
  pub small : new + ((row_at i l).end - old) < 4294967296

abbrev pub move_rows : ℕ → ℕ → ℕ → List ℕ → List ℕ
move_rows zero old new l = []
move_rows (suc n) old new l = move_row old new l ++ move_rows n old new (drop row_size l)

-- ---- the same carry: label and flag

abbrev pub same_label : Label → Label → Bool
same_label unheld unheld = true
same_label unheld (held b) = false
same_label (held a) unheld = false
same_label (held a) (held b) = same a b

unfoldable pub same_carry : Carry → Carry → Bool
same_carry c d = beq c.flag d.flag && same_label c.label d.label

-- ---- the rows of a document

-- a block's text, and the carry after it
pub record Piece : Type 0 where
  pub text : List ℕ
  pub after : Carry

-- the text of blocks
abbrev pub written : List Piece → List ℕ
written [] = []
written (p ∷ ps) = p.text ++ written ps

-- the rows of blocks whose text begins at a place
abbrev pub rows_from : ℕ → List Piece → List Row
rows_from at [] = []
rows_from at (p ∷ ps) = record { end = at + length p.text; carry = p.after } ∷ rows_from (at + length p.text) ps
