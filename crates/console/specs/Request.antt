-- The line that asks for an edit: a mode's letter, the block and the kept length, as in `t 3 120`, with one space between them, up to
-- a line feed or the end of the input.
use Rattle.std.specs.Prelude.{Bool, ◌&&◌, cond, List, [], ◌∷◌, ℕ, ◌+◌, ◌*◌, ◌-◌, eqb, leb, ltb, take, drop, Option, Some, None}
use Rattle.text.specs.Compare.{index_of}
use Rattle.console.specs.Mode.{mode_by}
use Rattle.console.specs.declared.Request.{Request}

-- ---- a number

-- one more than a number of 64 bits can be
abbrev pub number_end : ℕ
number_end = 18446744073709551616

-- with a digit more
abbrev pub with_digit : ℕ → ℕ → ℕ
with_digit n x = n * 10 + (x - 48)

-- x is a decimal digit, and with it the number still has 64 bits
abbrev pub digit_fits : ℕ → ℕ → Bool
digit_fits n x = leb 48 x && (leb x 57 && ltb (with_digit n x) number_end)

-- the number that begins with n and goes on with these digits
unfoldable pub number_from : ℕ → List ℕ → Option ℕ
number_from n [] = Some n
number_from n (x ∷ l) = cond (digit_fits n x) (number_from (with_digit n x) l) None

-- the number that digits spell, at least one
abbrev pub number_spelt : List ℕ → Option ℕ
number_spelt [] = None
number_spelt (x ∷ l) = number_from 0 (x ∷ l)

-- ---- the line

-- the part before the first byte b, and the part after it
abbrev pub part_before : ℕ → List ℕ → List ℕ
part_before b l = take (index_of b l) l

abbrev pub part_after : ℕ → List ℕ → List ℕ
part_after b l = drop (index_of b l + 1) l

abbrev pub both : ℕ → Option ℕ → Option ℕ → Option Request
both mode (Some block) (Some kept) = Some (record { mode = mode; block = block; kept = kept })
both mode (Some block) None = None
both mode None kept = None

-- a line without its end
abbrev pub line_request : List ℕ → Option Request
line_request [] = None
line_request (letter ∷ []) = None
line_request (letter ∷ space ∷ rest) =
    cond (eqb space 32) (both (mode_by letter) (number_spelt (part_before 32 rest)) (number_spelt (part_after 32 rest))) None

-- so many bytes are more than any line of the form needs
abbrev pub line_most : ℕ
line_most = 64

-- the first line of the input, if it is shorter
unfoldable pub request_in : List ℕ → Option Request
request_in input = cond (leb line_most (index_of 10 input)) None (line_request (part_before 10 input))
