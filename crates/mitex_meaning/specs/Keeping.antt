-- What every conversion keeps, whatever its context and its tree: a held label stays short enough for a ledger row, and a
-- refusal has one of the numbers 7 to 14. `keeps` (proofs/Keeping.antt) says so of `convert` at every level.
use Rattle.std.specs.Prelude.{Bool, ◌&&◌, List, [], ℕ, ◌≤◌, length, T, leb}
use Rattle.mitex_meaning.specs.Outcome.{Label, Carry, Outcome, label_most}
use Rattle.mitex_meaning.specs.Outcome.Label.{unheld, held}
use Rattle.mitex_meaning.specs.Outcome.Outcome.{refused, done}

-- the bytes of a label; none has none
abbrev pub label_bytes : Label → List ℕ
label_bytes unheld = []
label_bytes (held s) = s

-- a label that can be held
abbrev pub Short : Carry → Type 0
Short c = length (label_bytes c.label) ≤ label_most

-- the numbers of refusals that a walk gives
abbrev pub is_walk_number : ℕ → Bool
is_walk_number n = leb 7 n && leb n 14

-- what is kept of an outcome, from a start of which `begun` holds
pub data KeptOutcome (begun : Type 0) : Outcome → Type 0 where
  kept_refused : {n r : ℕ} → T (is_walk_number n) → KeptOutcome begun (refused n r)
  kept_done : {c : Carry} {w : List ℕ} → (begun → Short c) → KeptOutcome begun (done c w)

abbrev pub Keeps : (Carry → Outcome) → Type 0
Keeps k = (c : Carry) → KeptOutcome (Short c) (k c)
