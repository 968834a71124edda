-- Numbers in bytes, the lowest byte first, as both files and the ledger have them.
use Rattle.std.specs.Prelude.{ℕ, ◌+◌, ◌*◌, ◌/◌, ◌%◌, ◌<◌, List, ◌∷◌, get_or}

-- each is a byte
abbrev pub Bytes : List ℕ → Type 0
Bytes l = (i : ℕ) → get_or l i 0 < 256

-- the two bytes of n, before l
abbrev pub two : ℕ → List ℕ → List ℕ
two n l = n % 256 ∷ n / 256 % 256 ∷ l

-- the four bytes of n, before l
abbrev pub four : ℕ → List ℕ → List ℕ
four n l = n % 256 ∷ n / 256 % 256 ∷ n / 256 / 256 % 256 ∷ n / 256 / 256 / 256 % 256 ∷ l

-- the number in the two bytes from i on
abbrev pub two_at : ℕ → List ℕ → ℕ
two_at i l = get_or l i 0 + 256 * get_or l (i + 1) 0

-- the number in the four bytes from i on
abbrev pub four_at : ℕ → List ℕ → ℕ
four_at i l = get_or l i 0 + 256 * get_or l (i + 1) 0 + 65536 * get_or l (i + 2) 0 + 16777216 * get_or l (i + 3) 0
