use mathlib.Core.Path.{◌≡◌}
use mathlib.Core.Logic.{inl, inr}
use mathlib.Core.Option.Option.{some}
use mathlib.Core.List.{List}
use Rattle.mitex_syntax.specs.Tree.{Forest}
use Rattle.tree_file.specs.Layout.{Line, grow}
use Rattle.tree_file.specs.Parts.{bytes_of, LinesFit}
use Rattle.tree_file.proofs.Nesting.{LandsAt, lands-at, lands-out, lands-over, lands-never, lands-next, lands-end}
use Rattle.tree_file.proofs.lands.Goals.{After-under-m}
use Rattle.tree_file.proofs.lands.Goals as goal

-- the tree at which the loop stands
here : (c : After-under-m) (ls : List Line) (f : Forest)
    → c.args.rows.now ≡ bytes_of ls → LinesFit ls → grow ls ≡ some f → LandsAt c.args.n f c.loop-left.left c.loop-left.rest.now c.under-m.result
here c ls f e h g = lands-at (c.loop-left.invariant ls f e h g) c.if-rest-lt8.false c.under-m.result c.under-m.ensures.0

pub returns-then-rest-lt8 : goal.returns-then-rest-lt8
returns-then-rest-lt8 c = λ ls f e h g. lands-out (c.loop-left.invariant ls f e h g) c.loop-left-test.true c.if-rest-lt8.true

pub returns-then-left-m : goal.returns-then-left-m
returns-then-left-m c =
    λ ls f e h g.
    let w = here (goal.at.returns-then-left-m c).After-under-m ls f e h g in
    elim c.then-left-m.either [ inl p ↦ lands-over w c.loop-left-test.true p | inr q ↦ absurd (lands-never w q.1) ]

pub loop-left-preserved : goal.loop-left-preserved
loop-left-preserved c = λ ls f e h g. lands-next (here (goal.at.loop-left-preserved c).After-under-m ls f e h g) c.if-rest-past.false c.if-left-m.false

pub returns : goal.returns
returns c = λ ls f e h g. lands-end (c.loop-left.invariant ls f e h g) c.loop-left-test.false
