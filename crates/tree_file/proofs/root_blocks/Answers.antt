-- The tests follow `root_blocks`; past them the rows are those of a root (`Root`), whose blocks are counted.
use native.Mathlib.Omega.{arith}
use mathlib.Core.Path.{◌≡◌, ◌∙◌}
use Rattle.text.proofs.Writing.{rest-length}
use Rattle.mitex_syntax.specs.Tree.{Forest, rows_ofs}
use Rattle.tree_file.proofs.Roots.{Root, root_none, root-kind, root-token, root-short, root-of}
use Rattle.tree_file.proofs.root_blocks.Goals.{Else-rows-extent, then-rows-lt8-via-then-rows-lt8}
use Rattle.tree_file.proofs.root_blocks.Goals.{then-rows-lt8-via-else-rows-lt8+then-rows-ne-SCOPE_ROOT}
use Rattle.tree_file.proofs.root_blocks.Goals.{then-rows-lt8-via-else-rows-lt8+else-rows-ne-SCOPE_ROOT+then-rows-eq1}
use Rattle.tree_file.proofs.root_blocks.Goals as goal

-- past the tests
root : (c : Else-rows-extent) (f : Forest) → c.args.rows.now ≡ rows_ofs f → Root f c.args.rows.now
root c f e =
    root-of f _ e c.if-rows-lt8.false c.requires.few c.if-rows-ne-SCOPE_ROOT.false c.if-rows-eq1.false
    c.extent.result c.extent.ensures c.if-rows-extent.false

pub returns-then-rows-lt8 : goal.returns-then-rows-lt8
returns-then-rows-lt8 c =
    λ f e.
    elim c.then-rows-lt8.branch [
      | then-rows-lt8-via-then-rows-lt8 w ↦ root_none f _ e w.if-rows-lt8.true
      | then-rows-lt8-via-else-rows-lt8+then-rows-ne-SCOPE_ROOT w ↦ root-kind f _ e w.if-rows-lt8.false w.if-rows-ne-SCOPE_ROOT.true
      | then-rows-lt8-via-else-rows-lt8+else-rows-ne-SCOPE_ROOT+then-rows-eq1 w ↦ root-token f _ e w.if-rows-lt8.false w.if-rows-eq1.true
    ]

pub returns-then-rows-extent : goal.returns-then-rows-extent
returns-then-rows-extent c =
    λ f e. root-short f _ e c.if-rows-lt8.false c.requires.few c.if-rows-eq1.false c.extent.result c.extent.ensures c.if-rows-extent.true

pub count_trees-m-requires : goal.count_trees-m-requires
count_trees-m-requires c =
    let r = root (goal.at.count_trees-m-requires c).Else-rows-extent c.requires.forest c.requires.spelt in
    let less = rest-length c.args.rows.now 8 in
    record { forest = r.blocks; spelt = r.spelt; few = omega (arith, less, c.requires.few) }

pub returns : goal.returns
returns c =
    λ f e.
    let r = root (goal.at.returns c).Else-rows-extent f e in
    c.then_some.ensures ∙ r.are c.count_trees-m.result (c.count_trees-m.ensures r.blocks r.spelt)
