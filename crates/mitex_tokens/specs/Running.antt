-- Which tokens of a run are copied.
use Rattle.std.specs.Prelude.{Bool, ◌||◌, ℕ, eqb}
use Rattle.mitex_syntax.specs.Syntax.{TokenWord, TokenWhiteSpace}

-- a token of this kind writes its text as it is, in Text and while the flag is not set
abbrev pub is_copied : ℕ → Bool
is_copied k = eqb k TokenWord || eqb k TokenWhiteSpace
