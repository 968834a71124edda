-- Blocks put in and taken out, over the small converter of `Examples`, with a document of no blocks allowed: each answer, and that it is
-- the one demanded; and what is left in the buffers.
use Rattle.std.specs.Prelude.{◌≡◌, refl, cond, List, [], ◌∷◌, ◌++◌, ℕ, ◌+◌, ◌*◌, ◌-◌, pos, negsuc, replicate, eqb}
use Rattle.text.specs.Compare.{same}
use Rattle.ledger.specs.Ledger.{row_size, encode_carry, encode_row, decode_row, all_zero, marks_fit, row_fits, fits, move_row, same_carry}
use Rattle.edit_meaning.specs.Walk.{CheckedFile, BlockConverter, walk, walk_until}
use Rattle.edit_meaning.specs.Walk.CheckedFile.{bad, good}
use Rattle.edit_meaning.specs.Edit.{room_for_text, room, settle, conversion, convert_document, again}
use Rattle.edit_meaning.specs.Edit.Answer.{refused, edited}
use Rattle.edit_meaning.specs.Run.{Kept, Run, Reference}
use Rattle.edit_meaning.specs.Examples.{toy_block, one_row}
use Rattle.edit_meaning.specs.Changes.{Kind, Change, change_fits, putting_in, taking_out, remake, front_over, exchange, change, run_changes}
use Rattle.edit_meaning.specs.Changes.{demanded_change, reference_changes}
use Rattle.edit_meaning.specs.Changes.Kind.{replace, put_in, take_out}

-- a tree may have no blocks; 255 is not the layout
abbrev empty_check : List ℕ → CheckedFile ℕ
empty_check [] = good []
empty_check (x ∷ xs) = cond (eqb x 255) (bad 3 0) (good (x ∷ xs))

abbrev empty_toy : BlockConverter
empty_toy = record { Block = ℕ; check = empty_check; convert = toy_block; rows = one_row }

abbrev pub becomes : List ℕ → Kind → Change
becomes tree kind = record { tree = tree; kind = kind }

-- from no blocks at all, and back
abbrev toy_changes : List Change
toy_changes =
    becomes [] (put_in 0)  -- 6: no block to put in
    ∷ becomes (1 ∷ []) (put_in 1)  -- 6: a position beyond the old count
    ∷ becomes (0 ∷ []) (put_in 0)  -- a block that writes the held label, of which there is none
    ∷ becomes (0 ∷ 6 ∷ []) (put_in 1)  -- at the end
    ∷ becomes (1 ∷ 0 ∷ 6 ∷ []) (put_in 0)  -- a label: the block after it is converted again, and writes it
    ∷ becomes (1 ∷ 5 ∷ 0 ∷ 6 ∷ []) (put_in 1)  -- a word between: the carry is the one that stood there
    ∷ becomes (255 ∷ []) (put_in 0)  -- 3
    ∷ becomes (1 ∷ 5 ∷ 9 ∷ 0 ∷ 6 ∷ []) (put_in 2)  -- 7 at row 3
    ∷ becomes (1 ∷ 5 ∷ 0 ∷ 6 ∷ 7 ∷ []) (put_in 4)  -- 15: the ledger has room for four rows
    ∷ becomes (1 ∷ 5 ∷ 0 ∷ 8 ∷ []) (replace 3)  -- an edit
    ∷ becomes (1 ∷ 0 ∷ 8 ∷ []) (take_out 1)  -- nothing is converted again
    ∷ becomes (0 ∷ 8 ∷ []) (take_out 0)  -- the label is gone, and one block is converted again
    ∷ becomes (0 ∷ 8 ∷ []) (take_out 3)  -- 6
    ∷ becomes (0 ∷ []) (take_out 1)  -- the last block
    ∷ becomes [] (take_out 0)  -- and the only one
    ∷ []

no_blocks : Kept
no_blocks = record { text = replicate 6 7; ledger = replicate (4 * row_size) 7; size = 0 }

unfoldable toy_run : Run
toy_run = run_changes empty_toy no_blocks toy_changes

unfoldable toy_reference : Reference
toy_reference = reference_changes empty_toy (replicate 6 0) (replicate (4 * row_size) 0) [] toy_changes

changes-are :
    toy_run.answers
    ≡ refused 6 0
    ∷ refused 6 0
    ∷ edited 0 (pos 0) 1
    ∷ edited 1 (pos 1) 1
    ∷ edited 2 (pos 1) 2
    ∷ edited 3 (pos 1) 1
    ∷ refused 3 0
    ∷ refused 7 3
    ∷ refused 15 0
    ∷ edited 3 (pos 0) 1
    ∷ edited 2 (negsuc 0) 0
    ∷ edited 1 (negsuc 0) 1
    ∷ refused 6 0
    ∷ edited 0 (negsuc 0) 0
    ∷ edited 0 (pos 0) 0
    ∷ []
unfolding no_blocks toy_run run_changes change exchange front_over change_fits remake putting_in taking_out again walk_until same_carry same
    encode_row encode_carry decode_row all_zero marks_fit row_fits fits move_row room_for_text
changes-are = refl

changes-demanded : toy_run.answers ≡ toy_reference.answers
unfolding no_blocks toy_run toy_reference run_changes reference_changes demanded_change conversion convert_document settle room walk change
    exchange front_over change_fits remake putting_in taking_out again walk_until same_carry same encode_row encode_carry decode_row all_zero
    marks_fit row_fits fits move_row room_for_text
changes-demanded = refl

-- Buffers that no conversion left, but whose ledger fits: blocks of 3, 2 and 2 bytes. One is put in before the last, and the second is
-- taken out. Later rows move by a place and in length; the row left over is zeros, and so is what the text left; the rest stays.
abbrev pub ends_at : ℕ → List ℕ
ends_at n = n ∷ replicate (row_size - 1) 0

foreign : Kept
foreign =
    record {
      text = 30 ∷ 31 ∷ 32 ∷ 20 ∷ 21 ∷ 22 ∷ 23 ∷ 7 ∷ 7 ∷ [];
      ledger = ends_at 3 ++ ends_at 5 ++ ends_at 7 ++ replicate (row_size + 2) 9;
      size = 7;
    }

unfoldable foreign_run : Run
foreign_run = run_changes empty_toy foreign (becomes (3 ∷ 2 ∷ 4 ∷ 2 ∷ []) (put_in 2) ∷ becomes (3 ∷ 4 ∷ 2 ∷ []) (take_out 1) ∷ [])

foreign-are :
    (foreign_run.answers ≡ edited 8 (pos 1) 1 ∷ edited 6 (negsuc 1) 0 ∷ [])
    × (foreign_run.left.text ≡ 30 ∷ 31 ∷ 32 ∷ 4 ∷ 22 ∷ 23 ∷ 0 ∷ 0 ∷ 7 ∷ [])
    × (foreign_run.left.ledger ≡ ends_at 3 ++ ends_at 4 ++ ends_at 6 ++ replicate row_size 0 ++ replicate 2 9)
unfolding foreign foreign_run run_changes change exchange front_over change_fits remake putting_in taking_out walk_until same_carry same
    encode_row encode_carry decode_row all_zero marks_fit row_fits fits move_row room_for_text
foreign-are = (refl, refl, refl)
