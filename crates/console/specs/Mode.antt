-- The letter that names a mode.
use Rattle.std.specs.Prelude.{cond, List, [], ◌∷◌, ℕ, eqb}

-- what is no mode
abbrev pub no_mode : ℕ
no_mode = 2

-- t is 0 (Text), m is 1 (Math)
abbrev pub mode_by : ℕ → ℕ
mode_by letter = cond (eqb letter 116) 0 (cond (eqb letter 109) 1 no_mode)

-- the mode that the first byte of the input names
abbrev pub mode_in : List ℕ → ℕ
mode_in [] = no_mode
mode_in (letter ∷ rest) = mode_by letter
