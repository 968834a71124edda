-- What rows say by themselves, before a tree is known: the number of a row, how far the rows of an element reach, and how many
-- bytes of text the tokens of some rows have.
use Rattle.std.specs.Prelude.{cond, ℕ, ◌+◌, ◌*◌, ◌≤◌, ◌<◌, List, [], ◌∷◌, length, take, drop, get_or, eqb}
use Rattle.text.specs.Numbers.{four_at}
use Rattle.text.specs.Writing.{cap}

-- the number in a row's last four bytes
abbrev pub num_of : List ℕ → ℕ
num_of l = four_at 4 l

-- the bytes of the rows of the element that begins here
abbrev pub extent_of : List ℕ → ℕ
extent_of l = cond (eqb (get_or l 1 0) 1) 8 (8 + 8 * num_of l)

-- the text bytes of the row that begins here; a node has none of its own
abbrev pub token_at : List ℕ → ℕ
token_at l = cond (eqb (get_or l 1 0) 1) (num_of l) 0

-- the text bytes of these rows
unfoldable pub token_sum : List ℕ → ℕ
token_sum [] = 0
token_sum (k ∷ []) = 0
token_sum (k ∷ m ∷ []) = 0
token_sum (k ∷ m ∷ y ∷ []) = 0
token_sum (k ∷ m ∷ y ∷ z ∷ []) = 0
token_sum (k ∷ m ∷ y ∷ z ∷ a ∷ []) = 0
token_sum (k ∷ m ∷ y ∷ z ∷ a ∷ b ∷ []) = 0
token_sum (k ∷ m ∷ y ∷ z ∷ a ∷ b ∷ c ∷ []) = 0
token_sum (k ∷ m ∷ y ∷ z ∷ a ∷ b ∷ c ∷ d ∷ l) = token_at (k ∷ m ∷ y ∷ z ∷ a ∷ b ∷ c ∷ d ∷ []) + token_sum l

-- whole rows of an element stand from i on, and its text is not too long to be counted
pub record Spans (rows : List ℕ) (i : ℕ) : Type 0 where
  pub some : i + 8 ≤ length rows
  pub inside : i + extent_of (drop i rows) ≤ length rows
  pub few : length rows < cap
  pub short : token_sum (take (extent_of (drop i rows)) (drop i rows)) < cap
