-- The walk over an element goes into each child; what is left of the children decides (`ShapeLoop`). The measure of a call is how many
-- rows it has, that of the loop what is left of them.
use lib.ListN.{length}
use Rattle.tree_file.proofs.Children.{ShapeLoop}
use Rattle.tree_file.proofs.+check_shape.Given as goal

abbrev pub decreases-check_shape : goal.decreases-check_shape
decreases-check_shape l = length l.rows.now

abbrev pub invariant-loop-l : goal.invariant-loop-l
invariant-loop-l l = ShapeLoop l.rows l.text l.up l.row l.k l.l l.t l.at

abbrev pub decreases-loop-l : goal.decreases-loop-l
decreases-loop-l l = length l.l
