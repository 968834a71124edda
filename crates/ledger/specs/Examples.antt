-- Worked rows.
use Rattle.std.specs.Prelude.{◌≡◌, refl, true, false, List, [], ◌∷◌, ◌++◌, ℕ, ◌-◌, replicate}
use Rattle.mitex_meaning.specs.Outcome.{label_most}
use Rattle.mitex_meaning.specs.Outcome.Label.{unheld, held}
use Rattle.ledger.specs.Ledger.{Row, encode_carry, encode_row, decode_row, all_zero, marks_fit, row_fits, fits, move_row, same_carry, rows_from, encode_rows}

abbrev labelled_row : Row
labelled_row = record { end = 258; carry = record { flag = true; label = held (101 ∷ []) } }

abbrev plain_row : ℕ → Row
plain_row n = record { end = n; carry = record { flag = false; label = unheld } }

-- eight bytes and the first of the label, padded
abbrev row_bytes : List ℕ → List ℕ
row_bytes l = l ++ replicate (label_most - 1) 0

labelled-bytes : encode_row labelled_row ≡ row_bytes (2 ∷ 1 ∷ 0 ∷ 0 ∷ 1 ∷ 1 ∷ 1 ∷ 0 ∷ 101 ∷ [])
unfolding encode_row encode_carry
labelled-bytes = refl

plain-bytes : encode_row (plain_row 5) ≡ row_bytes (5 ∷ 0 ∷ 0 ∷ 0 ∷ 0 ∷ 0 ∷ 0 ∷ 0 ∷ 0 ∷ [])
unfolding encode_row encode_carry
plain-bytes = refl

back : decode_row (row_bytes (2 ∷ 1 ∷ 0 ∷ 0 ∷ 1 ∷ 1 ∷ 1 ∷ 0 ∷ 101 ∷ [])) ≡ labelled_row
unfolding decode_row
back = refl

bytes-moved : move_row 100 90 (row_bytes (2 ∷ 1 ∷ 0 ∷ 0 ∷ 1 ∷ 1 ∷ 1 ∷ 0 ∷ 101 ∷ [])) ≡ row_bytes (248 ∷ 0 ∷ 0 ∷ 0 ∷ 1 ∷ 1 ∷ 1 ∷ 0 ∷ 101 ∷ [])
unfolding move_row
bytes-moved = refl

-- a ledger may be longer than its rows; with no rows it fits where the kept length is 0
rows-fitting : (fits 1 5 (row_bytes (5 ∷ 0 ∷ 0 ∷ 0 ∷ 0 ∷ 0 ∷ 0 ∷ 0 ∷ 0 ∷ []) ++ (7 ∷ [])) ≡ true) × (fits 0 0 (7 ∷ []) ≡ true) × (fits 0 1 [] ≡ false)
unfolding fits row_fits marks_fit all_zero
rows-fitting = (refl, refl, refl)

-- another length, a mark of 2, an unheld label with a length, a byte 7, a byte after the label, no whole row
rows-unfit : (fits 1 6 (row_bytes (5 ∷ 0 ∷ 0 ∷ 0 ∷ 0 ∷ 0 ∷ 0 ∷ 0 ∷ 0 ∷ [])) ≡ false)
    × (fits 1 5 (row_bytes (5 ∷ 0 ∷ 0 ∷ 0 ∷ 2 ∷ 0 ∷ 0 ∷ 0 ∷ 0 ∷ [])) ≡ false)
    × (fits 1 5 (row_bytes (5 ∷ 0 ∷ 0 ∷ 0 ∷ 0 ∷ 0 ∷ 1 ∷ 0 ∷ 0 ∷ [])) ≡ false)
    × (fits 1 5 (row_bytes (5 ∷ 0 ∷ 0 ∷ 0 ∷ 0 ∷ 1 ∷ 0 ∷ 1 ∷ 0 ∷ [])) ≡ false)
    × (fits 1 5 (row_bytes (5 ∷ 0 ∷ 0 ∷ 0 ∷ 0 ∷ 1 ∷ 0 ∷ 0 ∷ 9 ∷ [])) ≡ false)
    × (fits 1 5 (5 ∷ 0 ∷ 0 ∷ 0 ∷ 0 ∷ 0 ∷ 0 ∷ 0 ∷ replicate (label_most - 1) 0) ≡ false)
unfolding fits row_fits marks_fit all_zero
rows-unfit = (refl, refl, refl, refl, refl, refl)

-- lengths that fall
falling : fits 2 4 (encode_rows (plain_row 5 ∷ plain_row 4 ∷ [])) ≡ false
unfolding fits row_fits marks_fit all_zero encode_row encode_carry
falling = refl

-- no label and an empty one differ
differing : same_carry (record { flag = true; label = unheld }) (record { flag = true; label = held [] }) ≡ false
unfolding same_carry
differing = refl

rows-of-pieces : rows_from 1 (record { text = 97 ∷ []; after = labelled_row.carry } ∷ record { text = []; after = (plain_row 0).carry } ∷ [])
    ≡ record { end = 2; carry = labelled_row.carry } ∷ plain_row 2 ∷ []
rows-of-pieces = refl
