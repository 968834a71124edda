-- From bytes to the reference: what the blocks of an accepted file come to, one after the other, is the conversion of the root element
-- from a new converter (`document-root`). `walk-root` says so of any tree that has no more rows than there are levels, and a file of
-- 65,536 bytes has fewer.
use mathlib.Core.Path.{◌≡◌, refl, sym, ap, subst, ◌∙◌}
use mathlib.Core.List.{List}
use mathlib.Core.Option.{Option}
use Prim.Native.Nat.{ℕ, ◌+◌, ◌*◌, ◌≤◌}
use native.Mathlib.Omega.{arith}
use lib.ListN.{length}
use Rattle.text.specs.Numbers.{Bytes}
use Rattle.mitex_spec.specs.Rules.{Rule}
use Rattle.mitex_syntax.specs.Tree.{Tree, size, text_of}
use Rattle.mitex_syntax.specs.Tree.Tree.{node}
use Rattle.mitex_syntax.specs.Syntax.{ScopeRoot}
use Rattle.tree_file.specs.Check.{check_tree, blocks_of}
use Rattle.tree_file.specs.Check.Verdict.{accepted}
use Rattle.tree_file.proofs.Bridge.{accepted-says, accepted-blocks}
use Rattle.mitex_meaning.specs.Conversion.{convert, levels, start_context, new_carry, start_carry}
use Rattle.mitex_meaning.specs.declared.LaTeXMode.{LaTeXMode}
use Rattle.edit_meaning.specs.Walk.{walk}
use Rattle.manuscript.specs.Manuscript.{listed, rules_left, mode_left, manuscript_in, together}
use Rattle.manuscript.proofs.Manuscript.{walk-root}

module _ (file : List ℕ) (bytes : Bytes file) (t : Tree) (is : check_tree file ≡ accepted t) where
  -- the root over its blocks
  root_over : t ≡ node ScopeRoot (blocks_of t)
  root_over =
      let a = accepted-says file bytes t is in
      (accepted-blocks file t a (length (text_of t)) (length (text_of t) + 8 * size t) refl refl).root_is

  -- as many levels as rows
  pub enough : size t ≤ levels
  enough =
      let a = accepted-says file bytes t is in
      let w = a.whole in
      let s = a.laid.short in
      omega arith

  pub document-root :
      (mode : Option LaTeXMode) (rules : Option (List Rule))
      → together start_carry (walk (manuscript_in mode rules) start_carry 1 (listed (blocks_of t)))
      ≡ convert levels (start_context (rules_left rules) (mode_left mode)) t new_carry
  document-root mode rules =
      walk-root mode rules (blocks_of t) (subst (λ u. size u ≤ levels) root_over enough)
      ∙ ap (λ u. convert levels (start_context (rules_left rules) (mode_left mode)) u new_carry) (sym root_over)
