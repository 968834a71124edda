-- The first row under the ClauseLR is its first child's (`lr-none`, `lr-token`, `lr-node`).
use native.Mathlib.Omega.{arith}
use mathlib.Core.Path.{◌∙◌}
use borrow.Author.Tests.{ne_eqb}
use Rattle.tree_file.proofs.Shapes.{lr-none, lr-node, lr-token}
use Rattle.tree_file.proofs.lr_fits.Goals as goal

pub returns-in_default : goal.returns-in_default
returns-in_default c = λ f sp. let h = c.in_default.len_below in lr-none f _ _ sp (omega arith)

pub returns-then-mark-eq1 : goal.returns-then-mark-eq1
returns-then-mark-eq1 c = λ f sp. c.begins_slashed.ensures ∙ lr-token f _ _ sp c.if-mark-eq1.true

pub returns-else-mark-eq1 : goal.returns-else-mark-eq1
returns-else-mark-eq1 c = λ f sp. ne_eqb _ _ c.if-mark-eq1.false ∙ lr-node f _ _ sp c.if-mark-eq1.false
