-- `mitex_loops::act_of` meets its contract: the two loops that look into the child.
use Rattle.mitex_loops.proofs.act_of.Goals as goal

pub returns-in-Figure : goal.returns-in-Figure
returns-in-Figure c = λ t f m. rw c.in-Figure.is (c.figure_act.ensures t f m)

pub returns-in-Table : goal.returns-in-Table
returns-in-Table c = λ t f m. rw c.in-Table.is (c.table_act.ensures t f m)
