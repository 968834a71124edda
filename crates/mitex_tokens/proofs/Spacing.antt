-- Each character and a space, character by character: what is written so far, and what is to come (`Partly`).
use mathlib.Core.Path.{◌≡◌, refl, sym, ap, subst, ◌∙◌}
use mathlib.Core.Bool.{true, false}
use mathlib.Core.List.{List, [], ◌∷◌, ◌++◌, append_assoc, append-nil}
use Prim.Native.Nat.{ℕ, zero, suc, ◌<◌}
use native.Mathlib.Omega.{arith}
use borrow.Author.Tests.{eqb-true}
use lib.Dec.{eqb}
use lib.ListN.{length, take, drop}
use Rattle.text.specs.Outputs.{Puts}
use Rattle.text.specs.declared.output.Output.{Output}
use Rattle.text.proofs.Outputs.{puts_nil, puts_then, puts_as}
use Rattle.utf8.specs.Chars.{chars, char_len}
use Rattle.utf8.proofs.Chars.{char_len-first}
use Rattle.mitex_meaning.specs.Texts.{space}
use Rattle.mitex_meaning.specs.Tokens.{spaced}

-- the test for no bytes
pub is-none : {n : ℕ} → eqb n 0 ≡ true → n ≡ 0
is-none {n} e = eqb-true n 0 e

pub is-some : {n : ℕ} → eqb n 0 ≡ false → 0 < n
is-some {n} e = on n e
  where
    on : (k : ℕ) → eqb k 0 ≡ false → 0 < k
    on zero e = cc
    on (suc k) e = omega arith

-- of the characters of s those before t are written
pub record Partly (o : Output) (s : List ℕ) (o2 : Output) (t : List ℕ) : Type 0 where
  pub text : List ℕ
  pub puts : Puts o text o2
  pub rest : spaced (chars s) ≡ text ++ spaced (chars t)

pub spaced-start : (o : Output) (s : List ℕ) → Partly o s o s
spaced-start o s = record { text = []; puts = puts_nil; rest = refl }

spaced-step : (t : List ℕ) → 0 < length t → spaced (chars t) ≡ (take (char_len t) t ++ space) ++ spaced (chars (drop (char_len t) t))
unfolding spaced
spaced-step t h =
    ap spaced (char_len-first t h).parts ∙ sym (append_assoc (take (char_len t) t) space (spaced (chars (drop (char_len t) t))))

module _ {o : Output} {s : List ℕ} {o2 : Output} {t : List ℕ} (m : Partly o s o2 t) where
  -- a character and a space more
  pub spaced-more :
      {n : ℕ} {o3 o4 : Output} → 0 < length t → n ≡ char_len t → Puts o2 (take n t) o3 → Puts o3 space o4 → Partly o s o4 (drop n t)
  spaced-more {n} some e w v =
      record {
        text = m.text ++ (take n t ++ space);
        puts = puts_then m.puts (puts_then w v);
        rest =
            m.rest
            ∙ ap (λ (l : List ℕ). m.text ++ l)
            (subst (λ (k : ℕ). spaced (chars t) ≡ (take k t ++ space) ++ spaced (chars (drop k t))) (sym e) (spaced-step t some))
            ∙ sym (append_assoc m.text (take n t ++ space) (spaced (chars (drop n t))));
      }

  pub spaced-all : length t ≡ 0 → Puts o (spaced (chars s)) o2
  unfolding spaced chars
  spaced-all h = puts_as (sym (m.rest ∙ ap (λ (l : List ℕ). m.text ++ spaced (chars l)) (none t h) ∙ append-nil m.text)) m.puts
    where
      none : (t : List ℕ) → length t ≡ 0 → t ≡ []
      none [] h = refl
      none (b ∷ t) h = absurd (omega arith)
