-- The head of a table: its column letters l, c, r and |, and the lines that are written for them.
use Rattle.std.specs.Prelude.{Bool, true, ◌&&◌, ◌||◌, cond, List, [], ◌∷◌, ◌++◌, ℕ, ◌+◌, eqb}
use Rattle.text.specs.Writing.{decimal}
use Rattle.mitex_meaning.specs.Texts.{line_feed, columns_begin, align_begin, align_left}
use Rattle.mitex_meaning.specs.Texts.{align_center, align_right, align_end, vline_begin, vline_end}

-- l, c, r and |
abbrev pub is_column : ℕ → Bool
is_column b = eqb b 108 || (eqb b 99 || eqb b 114)

abbrev pub is_line : ℕ → Bool
is_line b = eqb b 124

unfoldable pub letters_fit : List ℕ → Bool
letters_fit [] = true
letters_fit (b ∷ s) = (is_column b || is_line b) && letters_fit s

-- how many columns
unfoldable pub columns : List ℕ → ℕ
columns [] = 0
columns (b ∷ s) = cond (is_column b) (1 + columns s) (columns s)

abbrev pub alignment : ℕ → List ℕ
alignment b =
    cond (eqb b 108) align_left (cond (eqb b 99) align_center (cond (eqb b 114) align_right []))

unfoldable pub alignments : List ℕ → List ℕ
alignments [] = []
alignments (b ∷ s) = alignment b ++ alignments s

-- the lines, each after as many columns as stand before it
unfoldable pub vlines : ℕ → List ℕ → List ℕ
vlines n [] = []
vlines n (b ∷ s) =
    cond (is_line b) (vline_begin ++ (decimal n ++ (vline_end ++ vlines n s)))
    (vlines (cond (is_column b) (n + 1) n) s)

abbrev pub table_head : List ℕ → List ℕ
table_head letters =
    columns_begin
    ++ (decimal (columns letters)
    ++ (align_begin ++ (alignments letters ++ (align_end ++ (vlines 0 letters ++ line_feed)))))
