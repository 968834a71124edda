-- The end is trimmed off what is left of the start.
use mathlib.Core.Path.{ap, ◌∙◌}
use Rattle.utf8.specs.Trim.{trim_end, trim}
use Rattle.utf8.proofs.trim.Goals as goal

pub returns : goal.returns
unfolding trim
returns c = c.trim_end.ensures ∙ ap trim_end c.trim_start.ensures
