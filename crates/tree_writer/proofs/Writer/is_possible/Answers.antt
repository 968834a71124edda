-- The tests of `possible`, in its order.
use Rattle.std.proofs.Common.{rules}
use Rattle.tree_writer.specs.Writers.{possible}
use Rattle.tree_writer.proofs.Writer.is_possible.Goals as goal

pub returns-then-self-eq0 : goal.returns-then-self-eq0
unfolding possible
returns-then-self-eq0 c = search rules

pub returns-then-opened_fits : goal.returns-then-opened_fits
unfolding possible
returns-then-opened_fits c = search rules

pub returns-else-opened_fits : goal.returns-else-opened_fits
unfolding possible
returns-else-opened_fits c = search rules
