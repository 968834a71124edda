-- Tokens that stand one after the other, as children in a plain loop: none of them touches the held label, so nothing of it is given.
use Rattle.std.specs.Prelude.{◌≡◌, Bool, false, List, ℕ, ◌+◌, ◌*◌, ◌/◌, ◌≤◌, ◌<◌, ◌^◌, length, drop, Result, MatchResult}
use Rattle.refusals.specs.Refusals.{refusal_number}
use Rattle.text.specs.Writing.{cap}
use Rattle.text.specs.Outputs.{Puts}
use Rattle.mitex_syntax.specs.Tree.{Forest, sizes}
use Rattle.mitex_syntax.specs.Spells.{SpellsAll}
use Rattle.mitex_meaning.specs.Outcome.{Context, Label, after}
use Rattle.mitex_meaning.specs.Outcome.Outcome.{refused}
use Rattle.mitex_meaning.specs.Children.{each}
use Rattle.mitex_meaning.specs.Conversion.{convert}
use Rattle.refusals.specs.declared.Reason.{Reason}
use Rattle.refusals.specs.declared.Refusal.{Refusal}
use Rattle.text.specs.declared.output.Output.{Output}
use Rattle.mitex_syntax.specs.declared.Span.{Span}
use Rattle.mitex_meaning.specs.declared.Loop.TheVariants.{Plain}
use Rattle.mitex_meaning.specs.declared.LaTeXMode.TheVariants.{Text}
use Rattle.mitex_tokens.specs.Comes.{carrying}

-- what is asked: some elements are spelt, in bytes that are few enough to be counted
pub record RunGiven (rows text : List ℕ) : Type 0 where
  pub forest : Forest
  pub spells : SpellsAll forest rows text
  pub few : length rows < cap
  pub short : length text < cap
  pub some : 0 < length rows

-- the loop over f goes on behind the run: with a text written, over the elements behind it, with another flag
pub record Gone (x : Context) (flag : Bool) (f : Forest) (n : ℕ) (rows text : List ℕ) (o : Output) (s : Span) (flag2 : Bool) (o2 : Output) : Type 0 where
  pub forest : Forest
  pub spells : SpellsAll forest (drop s.rows rows) (drop s.text text)
  pub fits : sizes forest ≤ sizes f
  pub written : List ℕ
  pub wrote : Puts o written o2
  pub is :
      (l : Label) (k : ℕ) → each (convert n x) k Plain f (carrying flag l)
      ≡ after written (each (convert n x) (k + s.rows / 8) Plain forest (carrying flag2 l))

-- the same where the tokens are words and white space in Text, with the flag not set: it stays so
pub record Copies (rows text : List ℕ) (o : Output) (s : Span) (o2 : Output) : Type 0 where
  pub some : 8 ≤ s.rows
  pub high : s.rows ≤ length rows
  pub stop : s.text ≤ length text
  pub whole : s.rows ≡ 8 * (s.rows / 8)
  pub goes :
      (x : Context) → x.mode ≡ Text → (f : Forest) (n : ℕ) → SpellsAll f rows text → sizes f ≤ n
      → Gone x false f n rows text o s false o2

-- a run of at least one element, whatever elements are spelt, at every level that is high enough
pub record Ran (x : Context) (flag : Bool) (rows text : List ℕ) (o : Output) (flag2 : Bool) (o2 : Output) (s : Span) : Type 0 where
  pub high : s.rows ≤ length rows
  pub stop : s.text ≤ length text
  pub some : 8 ≤ s.rows
  pub goes : (f : Forest) (n : ℕ) → SpellsAll f rows text → sizes f ≤ n → Gone x flag f n rows text o s flag2 o2

-- a refusal of a number, of an element that stands so many rows behind the first
pub record Stops (x : Context) (flag : Bool) (rows text : List ℕ) (number below : ℕ) : Type 0 where
  pub high : 8 * below < length rows
  pub refuses :
      (f : Forest) (n : ℕ) (l : Label) (k : ℕ) → SpellsAll f rows text → sizes f ≤ n
      → each (convert n x) k Plain f (carrying flag l) ≡ refused number (k + below)

-- what is promised of a part of a run, which refuses its first element alone
abbrev pub PartGoes : Context → Bool → List ℕ → List ℕ → Output → Result Span Reason → Bool → Output → Type 0
PartGoes x flag rows text o r flag2 o2 =
    MatchResult r (Ran x flag rows text o flag2 o2) (λ e. Stops x flag rows text (refusal_number e) 0)

-- a refusal at a row, counted from the one right before the elements; the count stays below 2 to the power of 64
pub record StopsAt (x : Context) (flag : Bool) (rows text : List ℕ) (row : ℕ) (e : Refusal) : Type 0 where
  pub below : ℕ
  pub stops : Stops x flag rows text (refusal_number e.reason) below
  pub is : row + length rows < 2 ^ 64 → e.row ≡ row + 1 + below

-- and of a run
abbrev pub RunGoes : Context → Bool → List ℕ → List ℕ → ℕ → Output → Result Span Refusal → Bool → Output → Type 0
RunGoes x flag rows text row o r flag2 o2 =
    MatchResult r (Ran x flag rows text o flag2 o2) (StopsAt x flag rows text row)
