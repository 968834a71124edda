-- What a call tells by numbers: the refusal's number (0 where there is none), a place (the refusal's row, else the text's length),
-- the growth and a count (both 0 where there is none), and the bytes that it leaves in the two buffers. No refusal has the number 0
-- (`convert-answers`, `edit-answers`, `change-answers` of crate `manuscript`), so the numbers spell the answer (`convert-told`, `edit-told`,
-- `change-told`).
use Rattle.std.specs.Prelude.{◌≡◌, List, ℕ, zero, suc, ℤ, pos}
use Rattle.edit_meaning.specs.Edit.{Answer, Result}
use Rattle.edit_meaning.specs.Edit.Answer.{refused, converted, edited}

abbrev pub number_told : Answer → ℕ
number_told (refused number row) = number
number_told (converted len blocks) = 0
number_told (edited len growth count) = 0

abbrev pub place_told : Answer → ℕ
place_told (refused number row) = row
place_told (converted len blocks) = len
place_told (edited len growth count) = len

abbrev pub growth_told : Answer → ℤ
growth_told (refused number row) = pos 0
growth_told (converted len blocks) = pos 0
growth_told (edited len growth count) = growth

abbrev pub count_told : Answer → ℕ
count_told (refused number row) = 0
count_told (converted len blocks) = blocks
count_told (edited len growth count) = count

-- an answer told
pub record AnswerTold (a : Answer) (number place : ℕ) (growth : ℤ) (count : ℕ) : Type 0 where
  pub said : number ≡ number_told a
  pub stands : place ≡ place_told a
  pub grown : growth ≡ growth_told a
  pub counted : count ≡ count_told a

-- what a call gives, told, with the bytes that it leaves
pub record Tells (r : Result) (number place : ℕ) (growth : ℤ) (count : ℕ) (text ledger : List ℕ) : Type 0 where
  pub told : AnswerTold r.answer number place growth count
  pub bytes : text ≡ r.text
  pub rows : ledger ≡ r.ledger

-- the answer that the numbers of Convert spell, and those of a change
abbrev pub convert_told : (number place count : ℕ) → Answer
convert_told zero place count = converted place count
convert_told (suc n) place count = refused (suc n) place

abbrev pub edit_told : (number place : ℕ) (growth : ℤ) (count : ℕ) → Answer
edit_told zero place growth count = edited place growth count
edit_told (suc n) place growth count = refused (suc n) place
