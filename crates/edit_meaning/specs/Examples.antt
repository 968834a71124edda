-- A converter small enough to run: a tree is its blocks, each a byte. 0 writes the held label and drops it, 1 holds the label `e`, 9 is
-- refused, any other writes itself.
use Rattle.std.specs.Prelude.{◌≡◌, refl, false, cond, List, [], ◌∷◌, ℕ, ◌+◌, ◌*◌, pos, negsuc, replicate, eqb}
use Rattle.text.specs.Compare.{same}
use Rattle.mitex_meaning.specs.Outcome.{Carry, Outcome, flagged, labelled}
use Rattle.mitex_meaning.specs.Outcome.Label.{unheld, held}
use Rattle.mitex_meaning.specs.Outcome.Outcome.{done, refused as declined}
use Rattle.mitex_meaning.specs.Keeping.{label_bytes}
use Rattle.ledger.specs.Ledger.{row_size, encode_carry, encode_row, decode_row, all_zero, marks_fit, row_fits, fits, move_row, same_carry}
use Rattle.edit_meaning.specs.Walk.{CheckedFile, BlockConverter, walk, walk_until}
use Rattle.edit_meaning.specs.Walk.CheckedFile.{bad, good}
use Rattle.edit_meaning.specs.Edit.{Answer, Result, room_for_text, room, settle, conversion, convert_document, edit_fits, text_after, ledger_after, write, again, edit}
use Rattle.edit_meaning.specs.Edit.Answer.{refused, converted, edited}
use Rattle.edit_meaning.specs.Run.{Edit, Kept, run, demanded, reference}

abbrev pub toy_block : Carry → ℕ → Outcome
toy_block c b =
    cond (eqb b 0) (done (labelled unheld (flagged false c)) (label_bytes c.label))
    (cond (eqb b 1) (done (labelled (held (101 ∷ [])) c) [])
    (cond (eqb b 9) (declined 7 0)
    (done (flagged false c) (b ∷ []))))

abbrev pub toy_check : List ℕ → CheckedFile ℕ
toy_check [] = bad 3 0
toy_check (x ∷ xs) = good (x ∷ xs)

abbrev pub one_row : ℕ → ℕ
one_row b = 1

abbrev pub toy : BlockConverter
toy = record { Block = ℕ; check = toy_check; convert = toy_block; rows = one_row }

first : Result
first = convert_document toy (1 ∷ 5 ∷ 0 ∷ 6 ∷ []) (replicate 8 7) (replicate (row_size * 4 + 1) 7)

start : Kept
start = record { text = first.text; ledger = first.ledger; size = 3 }

-- the label's block is edited away, and three blocks are converted; then refused ones; a block that stands alone; the label again
abbrev toy_edits : List Edit
toy_edits =
    record { tree = 2 ∷ 5 ∷ 0 ∷ 6 ∷ []; block = 0 }
    ∷ record { tree = []; block = 0 }
    ∷ record { tree = 2 ∷ 5 ∷ 0 ∷ []; block = 3 }
    ∷ record { tree = 2 ∷ 5 ∷ 0 ∷ 9 ∷ []; block = 3 }
    ∷ record { tree = 2 ∷ 5 ∷ 8 ∷ 6 ∷ []; block = 2 }
    ∷ record { tree = 1 ∷ 5 ∷ 8 ∷ 6 ∷ []; block = 0 }
    ∷ []

unfoldable toy_answers : List Answer
toy_answers = (run toy start toy_edits).answers

answers-are :
    (first.answer ≡ converted 3 4)
    × (toy_answers ≡ edited 3 (pos 0) 3 ∷ refused 3 0 ∷ refused 6 0 ∷ refused 7 4 ∷ edited 4 (pos 1) 1 ∷ edited 3 (negsuc 0) 4 ∷ [])
unfolding first start toy_answers run edit convert_document conversion settle room room_for_text text_after ledger_after write again edit_fits
    walk walk_until same_carry same encode_row encode_carry decode_row all_zero marks_fit row_fits fits move_row
answers-are = (refl, refl)

-- and so they are demanded, whatever the buffers hold
answers-demanded : toy_answers ≡ (reference toy (replicate 8 0) (replicate (row_size * 4 + 1) 0) (1 ∷ 5 ∷ 0 ∷ 6 ∷ []) toy_edits).answers
unfolding first start toy_answers run edit convert_document conversion settle room room_for_text text_after ledger_after write again edit_fits
    walk walk_until same_carry same encode_row encode_carry decode_row all_zero marks_fit row_fits fits move_row reference demanded
answers-demanded = refl
