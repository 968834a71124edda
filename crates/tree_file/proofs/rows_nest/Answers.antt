use mathlib.Core.Path.{◌≡◌, ap, ◌∙◌}
use Rattle.tree_file.specs.Parts.{under_of}
use Rattle.tree_file.proofs.Nesting.{under-alone, lines-rest-falls, lines-rest-next, lines-rest-end}
use Rattle.tree_file.proofs.rows_nest.Goals.{After-under}
use Rattle.tree_file.proofs.rows_nest.Goals as goal

-- the rows under the row at which the loop stands
under_here : (c : After-under) → c.under.result ≡ under_of c.loop-rest.rest.now
under_here c = c.under.ensures.0 ∙ ap under_of c.split_at.ensures.front ∙ under-alone c.loop-rest.rest.now c.loop-rest-test.true

pub returns-then-not-lands : goal.returns-then-not-lands
returns-then-not-lands c =
    let n = under_here (goal.at.returns-then-not-lands c).After-under in
    λ ls e h.
    lines-rest-falls (c.loop-rest.invariant ls e h) c.loop-rest-test.true c.split_at.ensures.back c.under.result n c.lands.result c.lands.ensures
    c.if-not-lands.true

pub loop-rest-preserved : goal.loop-rest-preserved
loop-rest-preserved c =
    let n = under_here (goal.at.loop-rest-preserved c).After-under in
    λ ls e h.
    lines-rest-next (c.loop-rest.invariant ls e h) c.loop-rest-test.true c.split_at.ensures.back c.under.result n c.lands.result c.lands.ensures
    c.if-not-lands.false

pub returns : goal.returns
returns c = λ ls e h. lines-rest-end (c.loop-rest.invariant ls e h) c.loop-rest-test.false
