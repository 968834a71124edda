-- Rules on commands and environments, from the places that the views find.
use mathlib.Core.Path.{◌≡◌, refl, sym, ap, ◌∙◌}
use mathlib.Core.Bool.{Bool, true, false}
use mathlib.Core.Option.Option.{none as nothing, some}
use mathlib.Core.List.{List}
use Prim.Native.Nat.{ℕ}
use native.Mathlib.Omega.{arith}
use Rattle.std.specs.Prelude.{Option as Maybe, Some, None}
use Rattle.std.specs.Option.{unwrap_or}
use lib.Dec.{eqb}
use Rattle.mitex_syntax.specs.Syntax.{ItemBegin, TokenCommandSym}
use Rattle.mitex_syntax.specs.Tree.{Tree, Forest}
use Rattle.mitex_syntax.specs.Views.{first_by, is_of, children_of, children_in, first_tokens, kind_in, good_ends}
use Rattle.mitex_syntax.specs.Places.{Placed, part_at, kind_told, TokenIs}
use Rattle.mitex_syntax.specs.Places.Placed.{missing, there}
use Rattle.mitex_syntax.specs.declared.Spot.{Spot}
use Rattle.mitex_syntax.specs.declared.Token.{Token}
use Rattle.mitex_syntax.proofs.Seeking.{kind-or-none}
use Rattle.tree_file.specs.Shape.{is_some, ends_in, env_fits}
use Rattle.tree_file.specs.Parts.{is_there}

module _ {p : Tree → Bool} {f : Forest} {rows text : List ℕ} {i : ℕ} where
  -- a place is there where something is
  pub place-there : {r : Maybe Spot} → Placed p f rows text i r → is_there r ≡ is_some (first_by p f)
  place-there (missing h) = ap is_some (sym h)
  place-there (there s) = ap is_some (sym s.is)

  -- what is found has good ends where its text has
  pub place-ends : {r : Maybe Spot} → Placed p f rows text i r → is_there r ≡ true → good_ends (part_at r text) ≡ ends_in (first_by p f)
  place-ends (missing h) e = absurd (let z : ◌≡◌ {A = ℕ} 0 1 = cc in omega arith)
  place-ends (there s) e = ap good_ends s.spells.text_is ∙ ap ends_in (sym s.is)

  pub place-free : {r : Maybe Spot} → Placed p f rows text i r → is_there r ≡ false → true ≡ ends_in (first_by p f)
  place-free (missing h) e = ap ends_in (sym h)
  place-free (there s) e = absurd (let z : ◌≡◌ {A = ℕ} 0 1 = cc in omega arith)

-- ---- an environment by its first ItemBegin

pub env-none : (f : Forest) → first_by (is_of ItemBegin) f ≡ nothing → false ≡ env_fits f
unfolding first_tokens
env-none f e = sym (ap (λ o. eqb (kind_in (first_tokens (children_in o))) TokenCommandSym) e)

-- where it stands, the first token under it decides, if there is one
pub env-some :
    (f : Forest) (t : Tree) → first_by (is_of ItemBegin) f ≡ some t → (r : Maybe Token) (b : Bool) → TokenIs (first_tokens (children_of t)) r
    → (r ≡ None → b ≡ false) → ((x : Token) → r ≡ Some x → b ≡ eqb x.kind TokenCommandSym) → b ≡ env_fits f
env-some f t e r b m missed names =
    named r missed names
    ∙ ap (λ (k : ℕ). eqb k TokenCommandSym) (ap (λ (k : Maybe ℕ). unwrap_or k 0) m.kind ∙ kind-or-none (first_tokens (children_of t)))
    ∙ sym (ap (λ o. eqb (kind_in (first_tokens (children_in o))) TokenCommandSym) e)
  where
    named : (r : Maybe Token) → (r ≡ None → b ≡ false) → ((x : Token) → r ≡ Some x → b ≡ eqb x.kind TokenCommandSym) → b ≡ eqb (unwrap_or (kind_told r) 0) TokenCommandSym
    named None missed names = missed refl
    named (Some x) missed names = names x refl
