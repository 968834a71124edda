-- The tests of `tree_row_at`, in its order.
use borrow.Author.Tests.{eq-eqb, ne_eqb}
use Rattle.tree_file.specs.Layout.{tree_row_at}
use Rattle.tree_file.proofs.tree_row_at.Goals.{then-rows-ne0-via-then-rows-ne0, then-rows-ne0-via-else-rows-ne0+then-rows-ne0-2}
use Rattle.tree_file.proofs.tree_row_at.Goals as goal

pub returns-then-rows-ne0 : goal.returns-then-rows-ne0
unfolding tree_row_at
returns-then-rows-ne0 c =
    elim c.then-rows-ne0.branch [
      | then-rows-ne0-via-then-rows-ne0 w ↦ rw (ne_eqb _ _ w.if-rows-ne0.true)
      | then-rows-ne0-via-else-rows-ne0+then-rows-ne0-2 w ↦ rw (eq-eqb _ _ w.if-rows-ne0.false, ne_eqb _ _ w.if-rows-ne0-2.true)
    ]

pub returns-then-rows-eq1 : goal.returns-then-rows-eq1
unfolding tree_row_at
returns-then-rows-eq1 c =
    rw (eq-eqb _ _ c.if-rows-ne0.false, eq-eqb _ _ c.if-rows-ne0-2.false, eq-eqb _ _ c.if-rows-eq1.true) c.token_row.ensures

pub returns : goal.returns
unfolding tree_row_at
returns c =
    rw (eq-eqb _ _ c.if-rows-ne0.false, eq-eqb _ _ c.if-rows-ne0-2.false, ne_eqb _ _ c.if-rows-eq1.false) c.node_row.ensures
