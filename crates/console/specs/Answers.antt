-- The line of an answer: a refusal's number and row, as in `refused 11 at 1`; or a text's length, its growth and the count of blocks
-- converted again, as in `ok 34 -31 2`. A line feed ends it.
use Rattle.std.specs.Prelude.{cond, List, ◌++◌, ℕ, ◌-◌, leb}
use Rattle.text.specs.Ascii.{ascii}
use Rattle.text.specs.Writing.{decimal}

abbrev pub refusal_line : ℕ → ℕ → List ℕ
refusal_line number row = ascii "refused " ++ (decimal number ++ (ascii " at " ++ (decimal row ++ ascii "\n")))

-- a less b, in decimal with its sign if it is below 0
abbrev pub difference : ℕ → ℕ → List ℕ
difference a b = cond (leb b a) (decimal (a - b)) (ascii "-" ++ decimal (b - a))

-- the growth is the length less the kept one
abbrev pub edited_line : ℕ → ℕ → ℕ → List ℕ
edited_line size kept count =
    ascii "ok "
    ++ (decimal size ++ (ascii " " ++ (difference size kept ++ (ascii " " ++ (decimal count ++ ascii "\n")))))

-- no line is longer than `ok`, three numbers of 20 digits, a sign, three spaces and the line feed
abbrev pub answer_most : ℕ
answer_most = 67
