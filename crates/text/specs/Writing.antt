-- Bytes written at a place of a lent buffer. Those that fall outside are left out, and the place still moves on: so the
-- same code measures a text, over no buffer, and writes it.
use Rattle.std.specs.Prelude.{◌≡◌, cond, ℕ, zero, suc, ◌+◌, ◌/◌, ◌%◌, min, List, [], ◌∷◌, ◌++◌, length, replicate, ltb}
use Rattle.std.proofs.lemmas.List.Edits.{sets}

-- a place counts up to here and stays: 2 to the power of 32
abbrev pub cap : ℕ
cap = 4294967296

-- the bytes w were written from the place `at` of `out` on, as far as they fall inside
pub record Wrote (at : ℕ) (out w : List ℕ) (at' : ℕ) (out' : List ℕ) : Type 0 where
  pub next : at' ≡ min cap (at + length w)
  pub over : out' ≡ sets out at w

-- n spaces
abbrev pub spaces : ℕ → List ℕ
spaces n = replicate n 32

-- the last `most` decimal digits of n, without leading zeros
unfoldable pub digits : ℕ → ℕ → List ℕ
digits zero n = []
digits (suc most) n = cond (ltb n 10) ((48 + n) ∷ []) (digits most (n / 10) ++ ((48 + n % 10) ∷ []))

-- n in decimal: a number of 64 bits has at most 20 digits
abbrev pub decimal : ℕ → List ℕ
decimal n = digits 20 n
