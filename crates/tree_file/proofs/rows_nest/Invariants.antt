-- Row by row, each node's rows are whole trees; what is left decides (`LinesRest`). The measure is what is left of the rows.
use mathlib.Core.Path.{◌≡◌}
use mathlib.Core.List.{List}
use lib.ListN.{length}
use Rattle.tree_file.specs.Layout.{Line}
use Rattle.tree_file.specs.Parts.{bytes_of, LinesFit}
use Rattle.tree_file.proofs.Nesting.{LinesRest}
use Rattle.tree_file.proofs.rows_nest.Given as goal

abbrev pub invariant-loop-rest : goal.invariant-loop-rest
invariant-loop-rest l = (ls : List Line) → l.rows ≡ bytes_of ls → LinesFit ls → LinesRest ls l.rest

abbrev pub decreases-loop-rest : goal.decreases-loop-rest
decreases-loop-rest l = length l.rest
