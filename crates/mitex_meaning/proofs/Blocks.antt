-- The root and its blocks: converting the root element from the state of `Converter::new` is converting its blocks one after the
-- other, each from the carry that the one before it left, and counting its rows from where it stands.
use mathlib.Core.Path.{◌≡◌, refl, ◌∙◌}
use mathlib.Core.List.{List, []}
use Prim.Native.Nat.{ℕ, suc, ◌+◌, ◌≤◌}
use native.Mathlib.Omega.{arith}
use Rattle.mitex_spec.specs.Rules.{Rule}
use Rattle.mitex_syntax.specs.Syntax.{ScopeRoot}
use Rattle.mitex_syntax.specs.Tree.{Tree, Forest, size}
use Rattle.mitex_syntax.specs.Tree.Tree.{node}
use Rattle.mitex_syntax.specs.Tree.Forest.{none, more}
use Rattle.mitex_meaning.specs.Outcome.{Context, Carry, Outcome, and_then, shift}
use Rattle.mitex_meaning.specs.Outcome.Outcome.{done}
use Rattle.mitex_meaning.specs.Children.{turn, each}
use Rattle.mitex_meaning.specs.Conversion.{step, convert, levels, start_context, new_carry, start_carry, blocks_from}
use Rattle.mitex_meaning.specs.declared.LaTeXMode.{LaTeXMode}
use Rattle.mitex_meaning.specs.declared.Act.TheVariants.{Convert}
use Rattle.mitex_meaning.specs.declared.Loop.TheVariants.{Plain}
use Rattle.mitex_meaning.proofs.Outcomes.{after-nil, closing-nil}
use Rattle.mitex_meaning.proofs.Levels.{convert-level}

-- ---- one after the other

module _ (conv : Tree → Carry → Outcome) where
  pub turn-plain : (t : Tree) (c : Carry) → turn conv Convert t c ≡ conv t c
  unfolding turn
  turn-plain t c = after-nil _ ∙ closing-nil (conv t c)

  pub plain-none : (o : ℕ) (c : Carry) → each conv o Plain none c ≡ done c []
  unfolding each
  plain-none o c = refl

  pub plain_more : (o : ℕ) (t : Tree) (f : Forest) (c : Carry) → each conv o Plain (more t f) c
      ≡ and_then (shift o (conv t c)) (each conv (o + size t) Plain f)
  unfolding each
  plain_more o t f c = rw turn-plain

-- ---- the root

pub convert-root : (d : ℕ) (x : Context) (f : Forest) → convert (suc d) x (node ScopeRoot f) new_carry ≡ each (convert d x) 1 Plain f start_carry
unfolding convert step
convert-root d x f = refl

-- a tree has at most as many rows as there are levels
pub root-blocks :
    (rules : List Rule) (m : LaTeXMode) (f : Forest) → size (node ScopeRoot f) ≤ levels
    → convert levels (start_context rules m) (node ScopeRoot f) new_carry ≡ blocks_from rules m 1 f start_carry
root-blocks rules m f h =
    convert-level levels (suc levels) (start_context rules m) (node ScopeRoot f) new_carry h (omega arith)
    ∙ convert-root levels (start_context rules m) f
