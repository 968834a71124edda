-- What a token comes to: it writes and moves the flag, and the held label stays as it is.
use Rattle.std.specs.Prelude.{◌≡◌, Bool, List, ℕ, Result, Ok, Err}
use Rattle.refusals.specs.Refusals.{refusal_number}
use Rattle.text.specs.Outputs.{Puts}
use Rattle.mitex_syntax.specs.Syntax.{TokenError, ClauseCommandName, TokenCommandSym}
use Rattle.mitex_meaning.specs.Outcome.{Label, Carry, Outcome}
use Rattle.mitex_meaning.specs.Outcome.Outcome.{refused, done}
use Rattle.refusals.specs.declared.Reason.{Reason}
use Rattle.text.specs.declared.output.Output.{Output}

abbrev pub carrying : Bool → Label → Carry
carrying b l = record { flag = b; label = l }

-- An answer agrees with an outcome, whatever label l is held: it refuses as the outcome does, at the token's own row; or the flag is the
-- outcome's, and its text was written.
pub data Comes (r : Result (Unit {0}) Reason) (flag : Bool) (l : Label) (o o2 : Output) : Outcome → Type 0 where
  declines : {e : Reason} → r ≡ Err e → Comes r flag l o o2 (refused (refusal_number e) 0)
  accepts : {w : List ℕ} → r ≡ Ok tt → Puts o w o2 → Comes r flag l o o2 (done (carrying flag l) w)

-- a kind of which no token is refused
pub record Unrefused (k : ℕ) : Type 0 where
  pub error : k ≡ TokenError → ⊥
  pub name : k ≡ ClauseCommandName → ⊥
  pub symbol : k ≡ TokenCommandSym → ⊥
