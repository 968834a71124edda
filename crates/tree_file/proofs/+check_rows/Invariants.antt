-- The recursion goes into each child's range; the rows passed grow to a forest no deeper than `left`, and what is left decides
-- (`Turn`). The measure of a call is how many rows it has, that of the loop what is left of them.
use mathlib.Core.Path.{◌≡◌}
use mathlib.Core.List.{List}
use Prim.Native.Nat.{◌≤◌}
use lib.ListN.{length}
use Rattle.tree_file.specs.Layout.{Line}
use Rattle.tree_file.specs.Parts.{bytes_of, LinesFit}
use Rattle.tree_file.proofs.Nesting.{Turn}
use Rattle.tree_file.proofs.+check_rows.Given as goal

abbrev pub decreases-check_rows : goal.decreases-check_rows
decreases-check_rows l = length l.rows.now

abbrev pub invariant-loop-rest : goal.invariant-loop-rest
invariant-loop-rest l = (length l.rest ≤ length l.rows) × ((ls : List Line) → l.rows ≡ bytes_of ls → LinesFit ls → Turn ls l.left l.rest)

abbrev pub decreases-loop-rest : goal.decreases-loop-rest
decreases-loop-rest l = length l.rest
