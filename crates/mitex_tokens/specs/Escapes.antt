-- How code picks the escape of a token, by one byte: that this gives the text of the definitions is what `escaped` promises.
use Rattle.std.specs.Prelude.{List, [], ◌∷◌, ℕ, Option, Some, None}

-- a backslash and the byte, if there is one
abbrev pub escape_of : Option ℕ → List ℕ
escape_of None = []
escape_of (Some b) = 92 ∷ b ∷ []
