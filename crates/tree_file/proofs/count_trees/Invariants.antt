-- The loop goes from tree to tree; those passed and those left are all (`Trees`). The measure is what is left of the rows.
use mathlib.Core.Path.{◌≡◌}
use Prim.Native.Nat.{◌+◌, ◌*◌, ◌≤◌}
use lib.ListN.{length}
use Rattle.mitex_syntax.specs.Tree.{Forest, rows_ofs}
use Rattle.tree_file.proofs.Roots.{Trees}
use Rattle.tree_file.proofs.count_trees.Given as goal

abbrev pub invariant-loop-rest : goal.invariant-loop-rest
invariant-loop-rest l = (8 * l.m + length l.rest ≤ length l.rows) × ((f : Forest) → l.rows ≡ rows_ofs f → Trees f l.rest l.m)

abbrev pub decreases-loop-rest : goal.decreases-loop-rest
decreases-loop-rest l = length l.rest
