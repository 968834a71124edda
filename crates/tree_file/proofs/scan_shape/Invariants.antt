-- What is left decides (`ShapeScan`). The measure is what is left of the rows.
use lib.ListN.{length}
use Rattle.tree_file.proofs.Scanning.{ShapeScan}
use Rattle.tree_file.proofs.scan_shape.Given as goal

abbrev pub invariant-loop-l : goal.invariant-loop-l
invariant-loop-l l = ShapeScan l.rows l.text l.l l.t l.at

abbrev pub decreases-loop-l : goal.decreases-loop-l
decreases-loop-l l = length l.l
