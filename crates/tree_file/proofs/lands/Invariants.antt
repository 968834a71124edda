-- The loop hops from tree to tree; what is left to pass decides (`Lands`). The measure is that number.
use mathlib.Core.Path.{◌≡◌}
use mathlib.Core.Option.Option.{some}
use mathlib.Core.List.{List}
use Rattle.mitex_syntax.specs.Tree.{Forest}
use Rattle.tree_file.specs.Layout.{Line, grow}
use Rattle.tree_file.specs.Parts.{bytes_of, LinesFit}
use Rattle.tree_file.proofs.Nesting.{Lands}
use Rattle.tree_file.proofs.lands.Given as goal

abbrev pub invariant-loop-left : goal.invariant-loop-left
invariant-loop-left l = (ls : List Line) (f : Forest) → l.rows ≡ bytes_of ls → LinesFit ls → grow ls ≡ some f → Lands l.n f l.left l.rest

abbrev pub decreases-loop-left : goal.decreases-loop-left
decreases-loop-left l = l.left
