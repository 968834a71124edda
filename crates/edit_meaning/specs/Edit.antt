-- Convert and Edit: what a call answers, and what it leaves in the text buffer and in the ledger. Over any check of a tree file
-- and any converter of one block (`BlockConverter`), in one mode and with one rule file.
use Rattle.std.specs.Prelude.{Bool, ◌&&◌, cond, List, [], ◌∷◌, ◌++◌, ℕ, zero, suc, ◌+◌, ◌*◌, ◌-◌, min, max, ℤ, pos, ◌-ℤ◌, length, take, drop, get_or, replicate, leb, ltb}
use Rattle.mitex_meaning.specs.Outcome.{Carry}
use Rattle.mitex_meaning.specs.Conversion.{start_carry}
use Rattle.ledger.specs.Ledger.{Row, row_size, encode_rows, decode_rows, fits, move_rows, Piece, written, rows_from}
use Rattle.edit_meaning.specs.Walk.{CheckedFile, BlockConverter, Walk, walk, walk_until, rows_all}
use Rattle.edit_meaning.specs.Walk.CheckedFile.{bad, good}
use Rattle.edit_meaning.specs.Walk.Walk.{stopped, pieces}

-- refused with a number and a row; Convert accepted, with the text's length and the count of blocks; a change (an edit, an insertion, a
-- removal, several blocks replaced) accepted, with the new length, the growth and the count of blocks converted again
pub data Answer : Type 0 where
  refused : ℕ → ℕ → Answer
  converted : ℕ → ℕ → Answer
  edited : ℕ → ℤ → ℕ → Answer

-- what a call gives, and what it leaves in the two buffers
pub record Result : Type 0 where
  pub answer : Answer
  pub text : List ℕ
  pub ledger : List ℕ

-- a refusal changes nothing
abbrev pub unchanged : ℕ → ℕ → List ℕ → List ℕ → Result
unchanged n i text ledger = record { answer = refused n i; text = text; ledger = ledger }

-- a text buffer counts as at most so many bytes
abbrev pub text_most : ℕ
text_most = 4294967295

unfoldable pub room_for_text : ℕ → ℕ → Bool
room_for_text n size = leb n (min size text_most)

-- ---- Convert

-- the text and a row for each block have room
unfoldable pub room : ℕ → ℕ → List Piece → Bool
room text_size ledger_size ps = room_for_text (length (written ps)) text_size && leb (row_size * length ps) ledger_size

-- the front of a buffer overwritten
abbrev pub at_front : List ℕ → List ℕ → List ℕ
at_front new l = new ++ drop (length new) l

-- what Convert makes of a walk: its refusal; or text and rows, where they have room; or 15
unfoldable pub settle : Walk → List ℕ → List ℕ → Result
settle (stopped n i) text ledger = unchanged n i text ledger
settle (pieces ps) text ledger =
    cond (room (length text) (length ledger) ps)
    (record {
      answer = converted (length (written ps)) (length ps);
      text = at_front (written ps) text;
      ledger = at_front (encode_rows (rows_from 0 ps)) ledger;
    })
    (unchanged 15 0 text ledger)

module _ (𝓒 : BlockConverter) where
  open 𝓒 use {Block, check}

  -- the root is row 0, so the first block's first row is 1
  abbrev pub from_check : CheckedFile Block → Walk
  from_check (bad n i) = stopped n i
  from_check (good bs) = walk 𝓒 start_carry 1 bs

  unfoldable pub conversion : List ℕ → Walk
  conversion tree = from_check (check tree)

  unfoldable pub convert_document : List ℕ → List ℕ → List ℕ → Result
  convert_document tree text ledger = settle (conversion tree) text ledger

-- ---- Edit

-- refusal 6: the block exists, the kept length is within the text buffer (that this counts as at most `text_most` bytes comes to the same:
-- `edit_fits-counted`), the ledger fits
unfoldable pub edit_fits : ℕ → ℕ → ℕ → List ℕ → List ℕ → Bool
edit_fits n k kept text ledger = ltb k n && (leb kept (length text) && fits n kept ledger)

-- where block k begins, and the carry that it begins with, by the row before it
abbrev pub no_row : Row
no_row = record { end = 0; carry = start_carry }

abbrev pub end_before : ℕ → List Row → ℕ
end_before zero rows = 0
end_before (suc k) rows = (get_or rows k no_row).end

abbrev pub carry_before : ℕ → List Row → Carry
carry_before zero rows = start_carry
carry_before (suc k) rows = (get_or rows k no_row).carry

abbrev pub row_carries : List Row → List Carry
row_carries [] = []
row_carries (r ∷ rs) = r.carry ∷ row_carries rs

-- The text, of which the bytes from `from` up to `old` become others: those before stay, those after up to the kept length are
-- moved, then come zeros where the text shrank, and the rest of the buffer as it was.
unfoldable pub text_after : ℕ → ℕ → ℕ → ℕ → List ℕ → List ℕ → List ℕ
text_after from old kept new again text =
    take from text ++ again ++ take (kept - old) (drop old text) ++ replicate (kept - new) 0 ++ drop (max kept new) text

-- The rows of n blocks, of which those from k on become the rows of some pieces: those before stay, those after change only in
-- length, as their text is moved from `old` to `now`, and the rest of the ledger is as it was.
unfoldable pub ledger_after : ℕ → ℕ → ℕ → ℕ → ℕ → List Piece → List ℕ → List ℕ
ledger_after n k from old now qs ledger =
    take (row_size * k) ledger
    ++ encode_rows (rows_from from qs)
    ++ move_rows (n - (k + length qs)) old now (drop (row_size * (k + length qs)) ledger)
    ++ drop (row_size * n) ledger

-- the pieces of the blocks converted again written in the place of the kept ones: the kept text up to `old`, theirs up to `now`
unfoldable pub write : ℕ → ℕ → ℕ → List Row → List Piece → List ℕ → List ℕ → Result
write n k kept rows qs text ledger =
    let from : ℕ = end_before k rows in
    let old : ℕ = end_before (k + length qs) rows in
    let now : ℕ = from + length (written qs) in
    let new : ℕ = now + (kept - old) in
    cond (room_for_text new (length text))
    (record {
      answer = edited new (pos new -ℤ pos kept) (length qs);
      text = text_after from old kept new (written qs) text;
      ledger = ledger_after n k from old now qs ledger;
    })
    (unchanged 15 0 text ledger)

abbrev pub write_or : ℕ → ℕ → ℕ → List Row → Walk → List ℕ → List ℕ → Result
write_or n k kept rows (stopped m i) text ledger = unchanged m i text ledger
write_or n k kept rows (pieces qs) text ledger = write n k kept rows qs text ledger

module _ (𝓒 : BlockConverter) where
  open 𝓒 use {Block, rows as rows_of, check}

  -- from the carry of the row before block k, to the first block after which label and flag are those of the kept row
  unfoldable pub again : List Block → ℕ → List Row → Walk
  again bs k rows =
      walk_until 𝓒 (carry_before k rows) (1 + rows_all rows_of (take k bs)) (drop k bs) (row_carries (drop k rows))

  abbrev pub edit_checked : CheckedFile Block → ℕ → ℕ → List ℕ → List ℕ → Result
  edit_checked (bad n i) k kept text ledger = unchanged n i text ledger
  edit_checked (good bs) k kept text ledger =
      let rows : List Row = decode_rows (length bs) ledger in
      cond (edit_fits (length bs) k kept text ledger)
      (write_or (length bs) k kept rows (again bs k rows) text ledger)
      (unchanged 6 0 text ledger)

  unfoldable pub edit : List ℕ → ℕ → ℕ → List ℕ → List ℕ → Result
  edit tree k kept text ledger = edit_checked (check tree) k kept text ledger
