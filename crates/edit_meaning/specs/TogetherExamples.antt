-- Several blocks replaced together, over the small converter of `Examples`: each answer, and that it is the one demanded. Then over one
-- whose blocks have lengths: what is left in the buffers, and how it differs from what edits one by one leave.
use Rattle.std.specs.Prelude.{◌≡◌, refl, false, List, [], ◌∷◌, ◌++◌, ℕ, ◌+◌, ◌*◌, pos, negsuc, replicate}
use Rattle.text.specs.Compare.{same}
use Rattle.mitex_meaning.specs.Outcome.{flagged}
use Rattle.mitex_meaning.specs.Outcome.Outcome.{done}
use Rattle.ledger.specs.Ledger.{row_size, encode_carry, encode_row, decode_row, all_zero, marks_fit, row_fits, fits, move_row, same_carry}
use Rattle.edit_meaning.specs.Walk.{BlockConverter, walk, walk_until}
use Rattle.edit_meaning.specs.Walk.CheckedFile.{good}
use Rattle.edit_meaning.specs.Edit.{Result, room_for_text, room, settle, conversion, convert_document, edit_fits, text_after, ledger_after}
use Rattle.edit_meaning.specs.Edit.{write, again, edit}
use Rattle.edit_meaning.specs.Edit.Answer.{refused, edited}
use Rattle.edit_meaning.specs.Run.{Edit, Kept, Run, Reference, run}
use Rattle.edit_meaning.specs.Examples.{toy, one_row}
use Rattle.edit_meaning.specs.Changes.{Change, change_fits, each_from, remake, front_over, exchange, change, run_changes}
use Rattle.edit_meaning.specs.Changes.{demanded_change, reference_changes}
use Rattle.edit_meaning.specs.Changes.Kind.{replace_all}
use Rattle.edit_meaning.specs.ChangesExamples.{becomes, ends_at}

-- ---- the label that is held from block 0 on and written by block 2

-- `1 5 0 6` and its text, `5 e 6`
label_result : Result
label_result = convert_document toy (1 ∷ 5 ∷ 0 ∷ 6 ∷ []) (replicate 6 7) (replicate (4 * row_size + 1) 7)

label_kept : Kept
label_kept = record { text = label_result.text; ledger = label_result.ledger; size = 3 }

abbrev toy_replacements : List Change
toy_replacements =
    becomes (2 ∷ 5 ∷ 0 ∷ 7 ∷ []) (replace_all (0 ∷ 3 ∷ []))  -- the label is gone: blocks 0 to 2; then block 3
    ∷ becomes (1 ∷ 4 ∷ 0 ∷ 8 ∷ []) (replace_all (0 ∷ 1 ∷ 3 ∷ []))  -- block 1 lies in the stretch of block 0, and counts once
    ∷ becomes (1 ∷ 5 ∷ 0 ∷ 8 ∷ []) (replace_all (1 ∷ 3 ∷ []))  -- the block between is not converted
    ∷ becomes (1 ∷ 5 ∷ 0 ∷ 8 ∷ []) (replace_all (2 ∷ []))  -- one that stays what it was
    ∷ becomes (1 ∷ 5 ∷ 0 ∷ 6 ∷ []) (replace_all [])  -- 6: none is named
    ∷ becomes (1 ∷ 4 ∷ 0 ∷ 8 ∷ []) (replace_all (1 ∷ 1 ∷ []))  -- 6: equal numbers
    ∷ becomes (2 ∷ 5 ∷ 0 ∷ 6 ∷ []) (replace_all (3 ∷ 0 ∷ []))  -- 6: falling ones
    ∷ becomes (2 ∷ 5 ∷ 0 ∷ 8 ∷ []) (replace_all (0 ∷ 4 ∷ []))  -- 6: one that is not below the count
    ∷ becomes (1 ∷ 5 ∷ 9 ∷ 9 ∷ []) (replace_all (2 ∷ 3 ∷ []))  -- 7 at row 3, the first that is refused
    ∷ becomes (4 ∷ 5 ∷ 0 ∷ 9 ∷ []) (replace_all (0 ∷ 3 ∷ []))  -- 7 at row 4: nothing is left of the first stretch
    ∷ becomes [] (replace_all [])  -- 3 comes before 6
    ∷ becomes (2 ∷ 3 ∷ 4 ∷ 5 ∷ []) (replace_all (0 ∷ 1 ∷ 2 ∷ 3 ∷ []))  -- all
    ∷ []

unfoldable replacements_run : Run
replacements_run = run_changes toy label_kept toy_replacements

unfoldable replacements_reference : Reference
replacements_reference = reference_changes toy (replicate 6 0) (replicate (4 * row_size + 1) 0) (1 ∷ 5 ∷ 0 ∷ 6 ∷ []) toy_replacements

replacements-are :
    replacements_run.answers
    ≡ edited 3 (pos 0) 4
    ∷ edited 3 (pos 0) 4
    ∷ edited 3 (pos 0) 2
    ∷ edited 3 (pos 0) 1
    ∷ refused 6 0
    ∷ refused 6 0
    ∷ refused 6 0
    ∷ refused 6 0
    ∷ refused 7 3
    ∷ refused 7 4
    ∷ refused 3 0
    ∷ edited 4 (pos 1) 4
    ∷ []
unfolding label_result label_kept replacements_run run_changes change exchange front_over change_fits remake each_from again walk walk_until
    conversion convert_document settle room same_carry same encode_row encode_carry decode_row all_zero marks_fit row_fits fits move_row room_for_text
replacements-are = refl

replacements-demanded : replacements_run.answers ≡ replacements_reference.answers
unfolding label_result label_kept replacements_run replacements_reference run_changes reference_changes demanded_change change exchange front_over
    change_fits remake each_from again walk walk_until conversion convert_document settle room same_carry same encode_row encode_carry decode_row
    all_zero marks_fit row_fits fits move_row room_for_text
replacements-demanded = refl

-- ---- blocks that have lengths: block b writes its number b times

abbrev repeat_toy : BlockConverter
repeat_toy = record { Block = ℕ; check = λ tree. good tree; convert = λ c b. done (flagged false c) (replicate b b); rows = one_row }

-- Buffers that no conversion left, but whose ledger fits: blocks of 3, 2, 1, 2 and 1 bytes. The first becomes shorter by 2 and the third
-- longer by 3, so that block 1 is moved down by 2, and blocks 3 and 4 up by 1. Then both shrink, and zeros stand where the text ended.
five_blocks : Kept
five_blocks =
    record {
      text = 30 ∷ 31 ∷ 32 ∷ 20 ∷ 21 ∷ 10 ∷ 22 ∷ 23 ∷ 11 ∷ replicate 3 7;
      ledger = ends_at 3 ++ ends_at 5 ++ ends_at 6 ++ ends_at 8 ++ ends_at 9 ++ replicate 2 9;
      size = 9;
    }

unfoldable regions_run : Run
regions_run =
    run_changes repeat_toy five_blocks
    (becomes (1 ∷ 2 ∷ 4 ∷ 2 ∷ 1 ∷ []) (replace_all (0 ∷ 2 ∷ [])) ∷ becomes (0 ∷ 2 ∷ 1 ∷ 2 ∷ 1 ∷ []) (replace_all (0 ∷ 2 ∷ [])) ∷ [])

unfoldable regions_once : Run
regions_once = run_changes repeat_toy five_blocks (becomes (1 ∷ 2 ∷ 4 ∷ 2 ∷ 1 ∷ []) (replace_all (0 ∷ 2 ∷ [])) ∷ [])

regions-move :
    (regions_once.left.text ≡ 1 ∷ 20 ∷ 21 ∷ 4 ∷ 4 ∷ 4 ∷ 4 ∷ 22 ∷ 23 ∷ 11 ∷ 7 ∷ 7 ∷ [])
    × (regions_once.left.ledger ≡ ends_at 1 ++ ends_at 3 ++ ends_at 7 ++ ends_at 9 ++ ends_at 10 ++ replicate 2 9)
    × (regions_run.answers ≡ edited 10 (pos 1) 2 ∷ edited 6 (negsuc 3) 2 ∷ [])
    × (regions_run.left.text ≡ 20 ∷ 21 ∷ 1 ∷ 22 ∷ 23 ∷ 11 ∷ 0 ∷ 0 ∷ 0 ∷ 0 ∷ 7 ∷ 7 ∷ [])
    × (regions_run.left.ledger ≡ ends_at 0 ++ ends_at 2 ++ ends_at 3 ++ ends_at 5 ++ ends_at 6 ++ replicate 2 9)
unfolding five_blocks regions_run regions_once run_changes change exchange front_over change_fits remake each_from again walk_until same_carry same
    encode_row encode_carry decode_row all_zero marks_fit row_fits fits move_row room_for_text
regions-move = (refl, refl, refl, refl, refl)

-- ---- together, or one by one

-- 1 and 4, in five bytes of a buffer that has n more
abbrev one_four : ℕ → Kept
one_four n = record { text = 1 ∷ 4 ∷ 4 ∷ 4 ∷ 4 ∷ replicate n 7; ledger = ends_at 1 ++ ends_at 5; size = 5 }

-- they become 4 and 1, as long together
abbrev swapped : List Change
swapped = becomes (4 ∷ 1 ∷ []) (replace_all (0 ∷ 1 ∷ [])) ∷ []

abbrev swapped_singly : List Edit
swapped_singly = record { tree = 4 ∷ 4 ∷ []; block = 0 } ∷ record { tree = 4 ∷ 1 ∷ []; block = 1 } ∷ []

unfoldable swapped_run : Run
swapped_run = run_changes repeat_toy (one_four 5) swapped

unfoldable swapped_singly_run : Run
swapped_singly_run = run repeat_toy (one_four 5) swapped_singly

-- the text, its length and the rows are the same; the bytes after the text are not
singly-differs :
    (swapped_run.answers ≡ edited 5 (pos 0) 2 ∷ [])
    × (swapped_singly_run.answers ≡ edited 8 (pos 3) 1 ∷ edited 5 (negsuc 2) 1 ∷ [])
    × (swapped_run.left.text ≡ 4 ∷ 4 ∷ 4 ∷ 4 ∷ 1 ∷ 7 ∷ 7 ∷ 7 ∷ 7 ∷ 7 ∷ [])
    × (swapped_singly_run.left.text ≡ 4 ∷ 4 ∷ 4 ∷ 4 ∷ 1 ∷ 0 ∷ 0 ∷ 0 ∷ 7 ∷ 7 ∷ [])
    × (swapped_run.left.ledger ≡ swapped_singly_run.left.ledger)
unfolding swapped_run swapped_singly_run run_changes change exchange front_over change_fits remake each_from run edit edit_fits write text_after ledger_after
    again walk_until same_carry same encode_row encode_carry decode_row all_zero marks_fit row_fits fits move_row room_for_text
singly-differs = (refl, refl, refl, refl, refl)

-- in a full buffer the growing one is 15 by itself, and both together are accepted
unfoldable tight_run : Run
tight_run = run_changes repeat_toy (one_four 0) swapped

tight-fits :
    (tight_run.answers ≡ edited 5 (pos 0) 2 ∷ [])
    × (tight_run.left.text ≡ 4 ∷ 4 ∷ 4 ∷ 4 ∷ 1 ∷ [])
    × ((edit repeat_toy (4 ∷ 4 ∷ []) 0 5 (one_four 0).text (one_four 0).ledger).answer ≡ refused 15 0)
unfolding tight_run run_changes change exchange front_over change_fits remake each_from edit edit_fits write text_after ledger_after
    again walk_until same_carry same encode_row encode_carry decode_row all_zero marks_fit row_fits fits move_row room_for_text
tight-fits = (refl, refl, refl)
