-- Laws of what a token comes to (`Comes`): it is the same whatever label is held (`Uniform`), so one answer of the code stands for all labels.
use mathlib.Core.Path.{◌≡◌, refl, sym, ap, subst, ◌∙◌}
use mathlib.Core.Bool.{Bool, true, false, ◌||◌, cond}
use mathlib.Core.Option.{Option}
use mathlib.Core.Option.Option.{none as nothing, some}
use mathlib.Core.List.{List, [], ◌++◌}
use Prim.Native.Nat.{ℕ}
use lib.Dec.{eqb}
use lib.ListN.{length, drop}
use Rattle.std.specs.Prelude.{Result, Ok, Err}
use Rattle.refusals.specs.Refusals.{refusal_number}
use Rattle.refusals.specs.declared.Reason.{Reason}
use Rattle.text.specs.Writing.{spaces}
use Rattle.text.specs.Outputs.{Puts}
use Rattle.text.specs.declared.output.Output.{Output}
use Rattle.mitex_spec.specs.Rules.{Rule, get_cmd, written_name}
use Rattle.mitex_syntax.specs.Syntax.{TokenError, ClauseCommandName, TokenWhiteSpace, TokenLineBreak, TokenCommandSym}
use Rattle.mitex_meaning.specs.Outcome.{Context, Label, Carry, Outcome}
use Rattle.mitex_meaning.specs.Outcome.Label.{unheld}
use Rattle.mitex_meaning.specs.Outcome.Outcome.{refused, done}
use Rattle.mitex_meaning.specs.Tokens.{token_text, white_space, symbol_by, token_out}
use Rattle.mitex_tokens.specs.Comes.{carrying, Comes}
use Rattle.mitex_tokens.specs.Comes.Comes.{declines, accepts}

pub comes-as :
    {w v : Outcome} {r : Result (Unit {0}) Reason} {b : Bool} {l : Label} {o o2 : Output} → w ≡ v → Comes r b l o o2 v → Comes r b l o o2 w
comes-as {w} {v} {r} {b} {l} {o} {o2} e m = subst (Comes r b l o o2) (sym e) m

pub comes-flag :
    {a b : Bool} {w : Outcome} {r : Result (Unit {0}) Reason} {l : Label} {o o2 : Output} → a ≡ b → Comes r b l o o2 w → Comes r a l o o2 w
comes-flag {a} {b} {w} {r} {l} {o} {o2} e m = subst (λ (x : Bool). Comes r x l o o2 w) (sym e) m

-- a text was written, with the flag b
pub comes-done :
    {a b : Bool} {l : Label} {o o2 : Output} {w : List ℕ} → a ≡ b → Puts o w o2 → Comes (Ok tt) a l o o2 (done (carrying b l) w)
comes-done {a} {b} {l} {o} {o2} {w} e p = subst (λ (x : Bool). Comes (Ok tt) x l o o2 (done (carrying b l) w)) (sym e) (accepts refl p)

-- ---- the same whatever label is held

-- what comes of a token for each label: one refusal, or one flag and one text
pub data Uniform (o : Label → Outcome) : Type 0 where
  refuses : (n : ℕ) → ((l : Label) → o l ≡ refused n 0) → Uniform o
  does : (b : Bool) (w : List ℕ) → ((l : Label) → o l ≡ done (carrying b l) w) → Uniform o

uniform-cond : (b : Bool) {p q : Label → Outcome} → Uniform p → Uniform q → Uniform (λ l. cond b (p l) (q l))
uniform-cond true u v = u
uniform-cond false u v = v

uniform-space : (b : Bool) (s : List ℕ) → Uniform (λ l. white_space b s (carrying b l))
uniform-space true s = does false [] (λ l. refl)
uniform-space false s = does false s (λ l. refl)

uniform-symbol : (name : List ℕ) (r : Option Rule) → Uniform (λ l. symbol_by name r (carrying false l))
uniform-symbol name nothing = refuses 9 (λ l. refl)
uniform-symbol name (some r) = does false (written_name r name) (λ l. refl)

pub uniform-token : (x : Context) (k : ℕ) (s : List ℕ) (b : Bool) → Uniform (λ l. token_out x k s (carrying b l))
unfolding token_out
uniform-token x k s b =
    uniform-cond (eqb k TokenWhiteSpace) (uniform-space b s)
    (uniform-cond (eqb k TokenLineBreak) (does true (s ++ spaces x.indent) (λ l. refl))
    (uniform-cond (eqb k TokenError || eqb k ClauseCommandName) (refuses 7 (λ l. refl))
    (uniform-cond (eqb k TokenCommandSym) (uniform-symbol (drop 1 s) (get_cmd x.rules (drop 1 s)))
    (does false (token_text x k s) (λ l. refl)))))

-- a token that is written, for each label with the same text
pub record Passed (b : Bool) (o o2 : Output) (w : Label → Outcome) : Type 0 where
  pub written : List ℕ
  pub puts : Puts o written o2
  pub is : (l : Label) → w l ≡ done (carrying b l) written

module _ {b : Bool} {o o2 : Output} where
  pub passed :
      {w : Label → Outcome} {r : Result (Unit {0}) Reason} → Uniform w → ((l : Label) → Comes r b l o o2 (w l)) → r ≡ Ok tt → Passed b o o2 w
  passed {w} {r} (refuses n e) m z = absurd (no (m unheld) (e unheld))
    where
      no : {p : Outcome} → Comes r b unheld o o2 p → p ≡ refused n 0 → ⊥
      no (declines y) q = cc
      no (accepts y t) q = cc
  passed {w} {r} (does a s e) m z = on (m unheld) (e unheld)
    where
      on : {p : Outcome} → Comes r b unheld o o2 p → p ≡ done (carrying a unheld) s → Passed b o o2 w
      on (declines y) q = cc
      on (accepts {w = v} y t) q =
          let same : s ≡ v = cc in
          let carry : carrying a unheld ≡ carrying b unheld = cc in
          let flag : a ≡ b = ap (λ (d : Carry). d.flag) carry in
          record {
            written = v;
            puts = t;
            is = λ l. e l ∙ ap (done (carrying a l)) same ∙ ap (λ (f : Bool). done (carrying f l) v) flag;
          }

  -- one that is refused
  pub refused-so : {l : Label} {w : Outcome} {r : Result (Unit {0}) Reason} {e : Reason} → Comes r b l o o2 w → r ≡ Err e → w ≡ refused (refusal_number e) 0
  refused-so {e = e} (declines {e = d} y) z = let same : d ≡ e = cc in ap (λ (x : Reason). refused (refusal_number x) 0) same
  refused-so (accepts y t) z = cc

  -- what was written, went to the same lent buffer
  pub comes-lent :
      {l : Label} {w : Outcome} {r : Result (Unit {0}) Reason} → Comes r b l o o2 w → r ≡ Ok tt → o2.buffer.ghost_name ≡ o.buffer.ghost_name
  comes-lent (declines y) z = cc
  comes-lent (accepts y t) z = t.lent

  -- and left its length
  pub comes-kept :
      {l : Label} {w : Outcome} {r : Result (Unit {0}) Reason} → Comes r b l o o2 w → r ≡ Ok tt → length o2.buffer.now ≡ length o.buffer.now
  comes-kept (declines y) z = cc
  comes-kept (accepts y t) z = t.kept
