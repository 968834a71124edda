-- Trimming by Unicode's White_Space property, on characters.
use Rattle.std.specs.Prelude.{cond, List, [], ◌∷◌, reverse, ℕ}
use Rattle.utf8.specs.Chars.{chars, concat, is_white}

-- without the white characters that it begins with
unfoldable pub skip_white : List (List ℕ) → List (List ℕ)
skip_white [] = []
skip_white (c ∷ cs) = cond (is_white c) (skip_white cs) (c ∷ cs)

unfoldable pub trim_start : List ℕ → List ℕ
trim_start s = concat (skip_white (chars s))

unfoldable pub trim_end : List ℕ → List ℕ
trim_end s = concat (reverse (skip_white (reverse (chars s))))

unfoldable pub trim : List ℕ → List ℕ
trim s = trim_end (trim_start s)
