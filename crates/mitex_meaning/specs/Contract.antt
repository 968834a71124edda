-- What a walk promises: its answer agrees with the outcome that the definitions give.
use Rattle.std.specs.Prelude.{◌≡◌, Bool, ℕ, ◌+◌, ◌≤◌, ◌<◌, List, Result, Ok, Err}
use Rattle.refusals.specs.Refusals.{refusal_number}
use Rattle.text.specs.Writing.{Wrote}
use Rattle.text.specs.Outputs.{Puts}
use Rattle.mitex_meaning.specs.Outcome.{Carry, Outcome, label_most}
use Rattle.mitex_meaning.specs.Outcome.Outcome.{refused, done}
use Rattle.mitex_meaning.specs.State.{carry_of}
use Rattle.mitex_meaning.specs.Environments.{taken, dropped}
use Rattle.refusals.specs.declared.Refusal.{Refusal}
use Rattle.text.specs.declared.output.Output.{Output}
use Rattle.mitex_meaning.specs.declared.LaTeXMode.{LaTeXMode}
use Rattle.mitex_meaning.specs.declared.LaTeXEnv.{LaTeXEnv}
use Rattle.mitex_meaning.specs.declared.Converter.{Converter}

-- where an element stands, which goes down and does not come back: mode, environment and indent
pub record Place : Type 0 where
  pub mode : LaTeXMode
  pub env : LaTeXEnv
  pub indent : ℕ

abbrev pub place_of : Converter → Place
place_of c = record { mode = c.mode; env = c.env; indent = c.indent }

-- what a walk comes to: the converter and the next place, with refusal 0; or a refusal and its row
pub record Walked : Type 0 where
  pub converter : Converter
  pub at : ℕ
  pub refusal : ℕ
  pub row : ℕ

-- An answer agrees with an outcome: it refuses as the outcome does, at a row counted from `row`; or it gives the converter back in the
-- place x with the outcome's carry and a label within the limit, and what `out` then holds is what it held with the text written from
-- `at` on.
pub data Agrees (a : Walked) (x : Place) (row at : ℕ) (out out' : List ℕ) : Outcome → Type 0 where
  declines : {n r : ℕ} → 0 < n → a.refusal ≡ n → a.row ≡ row + r → Agrees a x row at out out' (refused n r)
  accepts :
      {c : Carry} {w : List ℕ} → a.refusal ≡ 0 → place_of a.converter ≡ x → carry_of a.converter ≡ c
      → a.converter.label_len ≤ label_most → Wrote at out w a.at out' → Agrees a x row at out out' (done c w)

-- a walk that went well, and one that was refused
abbrev pub went_with : Converter → ℕ → Walked
went_with c at = record { converter = c; at = at; refusal = 0; row = 0 }

abbrev pub refused_with : Converter → ℕ → ℕ → Walked
refused_with c n row = record { converter = c; at = 0; refusal = n; row = row }

-- the answer of a walk that was lent the converter: where it stands now, or the refusal
abbrev pub walked_by : Converter → ℕ → Result (Unit {0}) Refusal → Walked
walked_by c at (Ok u) = went_with c at
walked_by c at (Err e) = record { converter = c; at = at; refusal = refusal_number e.reason; row = e.row }

-- what ends an environment, on a lent converter: the held label is written and dropped where the environment takes it, and the rest stays
pub record Takes (c : Converter) (o : Output) (list : Bool) (m : LaTeXMode) (c2 : Converter) (o2 : Output) : Type 0 where
  pub placed_so : place_of c2 ≡ place_of c
  pub carry : carry_of c2 ≡ dropped list m (carry_of c)
  pub short : c.label_len ≤ label_most → c2.label_len ≤ label_most
  pub written : Puts o (taken list m (carry_of c).label) o2
