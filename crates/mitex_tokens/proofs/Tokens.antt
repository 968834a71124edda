-- What a token comes to, by its kind, and a command symbol by its rule.
use mathlib.Core.Path.{◌≡◌, sym, ap, ◌∙◌}
use mathlib.Core.Bool.{false, true}
use mathlib.Core.Option.{Option}
use mathlib.Core.Logic.{◌⊎◌, inl, inr}
use mathlib.Core.List.{List, ◌++◌}
use Prim.Native.Nat.{ℕ}
use borrow.Author.Tests.{ne_eqb}
use Rattle.std.specs.Prelude.{Option as Maybe, Some, None}
use Rattle.text.specs.Writing.{spaces}
use Rattle.mitex_spec.specs.Rules.{Rule, alias_or}
use Rattle.mitex_spec.specs.LookUp.{alias_of, rule_of}
use Rattle.mitex_spec.specs.declared.rules.Found.{Found}
use Rattle.mitex_syntax.specs.Syntax.{TokenWord, TokenError, ClauseCommandName, TokenWhiteSpace, TokenLineBreak, TokenCommandSym}
use Rattle.mitex_meaning.specs.Outcome.{Context, Carry, flagged}
use Rattle.mitex_meaning.specs.Outcome.Outcome.{refused, done}
use Rattle.mitex_meaning.specs.Tokens.{word, token_text, white_space, symbol_by, command_sym, token_out}

module _ (x : Context) (s : List ℕ) (c : Carry) where
  pub token-space : (k : ℕ) → k ≡ TokenWhiteSpace → token_out x k s c ≡ white_space c.flag s c
  unfolding token_out
  token-space k e = ap (λ (n : ℕ). token_out x n s c) e

  pub token-break : (k : ℕ) → k ≡ TokenLineBreak → token_out x k s c ≡ done (flagged true c) (s ++ spaces x.indent)
  unfolding token_out
  token-break k e = ap (λ (n : ℕ). token_out x n s c) e

  pub token-misplaced : (k : ℕ) → (k ≡ TokenError) ⊎ (k ≡ ClauseCommandName) → token_out x k s c ≡ refused 7 0
  unfolding token_out
  token-misplaced k (inl e) = ap (λ (n : ℕ). token_out x n s c) e
  token-misplaced k (inr e) = ap (λ (n : ℕ). token_out x n s c) e

  pub token-symbol : (k : ℕ) → k ≡ TokenCommandSym → token_out x k s c ≡ command_sym x s (flagged false c)
  unfolding token_out
  token-symbol k e = ap (λ (n : ℕ). token_out x n s c) e

  pub token-word : (k : ℕ) → k ≡ TokenWord → token_out x k s c ≡ done (flagged false c) (word x.mode s)
  unfolding token_out
  token-word k e = ap (λ (n : ℕ). token_out x n s c) e

  pub token-other :
      (k : ℕ) → (k ≡ TokenWhiteSpace → ⊥) → (k ≡ TokenLineBreak → ⊥) → (k ≡ TokenError → ⊥) → (k ≡ ClauseCommandName → ⊥)
      → (k ≡ TokenCommandSym → ⊥) → token_out x k s c ≡ done (flagged false c) (token_text x k s)
  unfolding token_out
  token-other k p q r t u =
      rw (
        ne_eqb k TokenWhiteSpace p,
        ne_eqb k TokenLineBreak q,
        ne_eqb k TokenError r,
        ne_eqb k ClauseCommandName t,
        ne_eqb k TokenCommandSym u,
      )

-- ---- command symbols

module _ (name : List ℕ) {o : Option Rule} {r : Maybe Found} (c : Carry) (g : rule_of name r ≡ o) where
  by-found : {z : Maybe Found} → r ≡ z → symbol_by name o c ≡ symbol_by name (rule_of name z) c
  by-found e = ap (λ (p : Option Rule). symbol_by name p c) (sym g) ∙ ap (λ (y : Maybe Found). symbol_by name (rule_of name y) c) e

  pub symbol-absent : r ≡ None → symbol_by name o c ≡ refused 9 0
  symbol-absent e = by-found e

  pub symbol-found : {f : Found} {w : List ℕ} → r ≡ Some f → w ≡ alias_or (alias_of f) name → symbol_by name o c ≡ done c w
  symbol-found e q = by-found e ∙ ap (done c) (sym q)
