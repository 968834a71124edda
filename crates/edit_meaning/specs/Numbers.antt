-- What a call can answer: a refusal with one of the numbers 1 to 15, or a result of its own kind. Convert and the changes (an edit, an
-- insertion, a removal, several blocks replaced) answer so in every mode, with any files and any buffers: `convert-answers`,
-- `change-answers` and `edit-answers` of crate `manuscript`.
use Rattle.std.specs.Prelude.{◌≢◌, ℕ, ◌≤◌}
use Rattle.edit_meaning.specs.Edit.{Answer}
use Rattle.edit_meaning.specs.Edit.Answer.{refused, converted, edited}

abbrev pub Fifteen : ℕ → Type 0
Fifteen n = (1 ≤ n) × (n ≤ 15)

-- Convert never says 6: that is for changes alone
abbrev pub ConvertNumber : ℕ → Type 0
ConvertNumber n = Fifteen n × (n ≢ 6)

-- an answer of Convert, and one of a change, a refusal's number being one of which P holds
abbrev pub OfConvert : (ℕ → Type 0) → Answer → Type 0
OfConvert P (refused n i) = P n
OfConvert P (converted len n) = Unit {0}
OfConvert P (edited len g n) = ⊥

abbrev pub OfEdit : (ℕ → Type 0) → Answer → Type 0
OfEdit P (refused n i) = P n
OfEdit P (converted len n) = ⊥
OfEdit P (edited len g n) = Unit {0}
