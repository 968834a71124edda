-- How many bytes were read: so many stand at the start of the buffer that was lent.
use Rattle.std.specs.Prelude.{◌≡◌, ℕ, ◌≤◌, List, length, take}

-- n is no more than the length, so that the first n bytes are there; that these are n bytes follows, and is said for those who take them
abbrev pub IsPrefixLen : ℕ → List ℕ → Type 0
IsPrefixLen n xs = (n ≤ length xs) × (n ≡ length (take n xs))
