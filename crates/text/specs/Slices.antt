-- A part of a text, told by where it stands.
use Rattle.std.specs.Prelude.{◌≡◌, ℕ, ◌+◌, ◌≤◌, List, length, take, drop}

-- s is a part of the text: the bytes from a place on
pub record PartOf (s text : List ℕ) : Type 0 where
  pub from : ℕ
  pub inside : from + length s ≤ length text
  pub is : s ≡ take (length s) (drop from text)
