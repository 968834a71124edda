-- The three tests of `token_fits`, in its order; the others are found.
use mathlib.Core.Path.{◌≡◌, sym, ◌∙◌}
use mathlib.Core.Bool.{true, true≢false}
use lib.Dec.{leb}
use lib.ListN.{length}
use borrow.Author.Tests.{le-leb}
use Rattle.mitex_syntax.specs.Syntax.{is_token}
use Rattle.utf8.proofs.Texts.{one-valid}
use Rattle.tree_file.proofs.Shapes.{some-left, not-true}
use Rattle.tree_file.proofs.token_fits.Goals.{then-is_token, else-is_token}
use Rattle.tree_file.proofs.token_fits.Goals as goal

pub returns-then-plain : goal.returns-then-plain
returns-then-plain c =
    elim c.if-is_token.branch [
      | then-is_token w ↦
          let s = c.args.s.now in
          let kind : is_token c.args.k ≡ true = sym c.is_token.ensures ∙ w.if-is_token.true in
          let empty = not-true w.is_empty.result (sym w.value-is ∙ c.if-not-is_empty.true) in
          let some : leb 1 (length s) ≡ true = le-leb 1 (length s) (some-left s w.is_empty.result w.is_empty.ensures empty) in
          c.if-plain.true ∙ rw (kind, some, one-valid s (c.requires c.if-plain.true))
      | else-is_token w ↦ absurd (true≢false (sym c.if-not-is_empty.true ∙ w.value-is ∙ w.if-is_token.false))
    ]
