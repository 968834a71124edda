-- `mitex_loops::Child::is_followed` meets its contract: rows are behind where a child is.
use mathlib.Core.Path.{ap, ◌∙◌}
use mathlib.Core.Bool.{not}
use Rattle.mitex_loops.proofs.Others.{follows-by}
use Rattle.mitex_loops.proofs.Child.is_followed.Goals as goal

pub returns : goal.returns
returns c = λ t f m. ap not c.is_empty.ensures ∙ follows-by f m.others
