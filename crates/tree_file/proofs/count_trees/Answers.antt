use native.Mathlib.Omega.{arith}
use mathlib.Core.Path.{◌≡◌}
use Rattle.text.proofs.Writing.{rest-length}
use Rattle.mitex_syntax.specs.Tree.{Forest, rows_ofs}
use Rattle.tree_file.proofs.Roots.{Tree-at, trees-at, trees-end}
use Rattle.tree_file.proofs.count_trees.Goals.{After-extent-end}
use Rattle.tree_file.proofs.count_trees.Goals as goal

-- the tree at which the loop stands
here : (c : After-extent-end) (f : Forest) → c.args.rows.now ≡ rows_ofs f → Tree-at f c.loop-rest.rest.now c.loop-rest.m c.extent-end.result
here c f e =
    trees-at (c.loop-rest.invariant.1 f e) c.loop-rest-test.true (omega (arith, c.loop-rest.invariant.0, c.requires.few)) c.extent-end.result c.extent-end.ensures

-- that of some forest
some-here : (c : After-extent-end) → Tree-at c.requires.forest c.loop-rest.rest.now c.loop-rest.m c.extent-end.result
some-here c = here c c.requires.forest c.requires.spelt

pub slice_bounds-rest-count : goal.slice_bounds-rest-count
slice_bounds-rest-count c = (some-here (goal.at.slice_bounds-rest-count c).After-extent-end).inside

pub slice_bounds-rest-start : goal.slice_bounds-rest-start
slice_bounds-rest-start c = (some-here (goal.at.slice_bounds-rest-start c).After-extent-end).inside

pub loop-rest-preserved : goal.loop-rest-preserved
loop-rest-preserved c =
    let at = (goal.at.loop-rest-preserved c).After-extent-end in
    let tree = some-here at in
    let less = rest-length c.loop-rest.rest.now c.extent-end.result in
    (omega (arith, less, tree.some, tree.inside, c.loop-rest.invariant.0), λ f e. (here at f e).next)

pub returns : goal.returns
returns c = λ f e. trees-end (c.loop-rest.invariant.1 f e) c.loop-rest-test.false
