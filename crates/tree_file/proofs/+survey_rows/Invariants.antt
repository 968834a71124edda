-- What was passed, before any elements that are right, makes elements that are right (`Surveying`); the rows under a node are
-- right where the call for them says so. The measure of a call is how many rows it has, that of the loop what is left of them.
use lib.ListN.{length}
use Rattle.tree_file.proofs.Surveys.{Surveying}
use Rattle.tree_file.proofs.+survey_rows.Given as goal

abbrev pub decreases-survey_rows : goal.decreases-survey_rows
decreases-survey_rows l = length l.rows.now

abbrev pub invariant-loop-l : goal.invariant-loop-l
invariant-loop-l l = Surveying l.up l.left l.rows l.text l.plain l.l l.t

abbrev pub decreases-loop-l : goal.decreases-loop-l
decreases-loop-l l = length l.l
