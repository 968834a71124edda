-- What grows is known whether or not it is deep; where it does the root decides between 3 and 4.
use mathlib.Core.Path.{◌≡◌, sym, ap, ◌∙◌}
use mathlib.Core.Option.Option.{some}
use mathlib.Core.List.{List}
use Rattle.std.specs.Prelude.{Err}
use Rattle.mitex_syntax.specs.Tree.{Forest}
use Rattle.tree_file.specs.Layout.{Line, grow}
use Rattle.tree_file.specs.Parts.{bytes_of, LinesFit, answer_to}
use Rattle.tree_file.proofs.Answers.{is-some, found, not-found, grown-rows, answer-broken, answer-amiss, blocks_are, answer-deep}
use Rattle.tree_file.proofs.check_deep.Goals.{Then-rows_nest}
use Rattle.tree_file.proofs.check_deep.Goals.{else-rows_nest-via-then-rows_nest+else-is_some, else-rows_nest-via-else-rows_nest}
use Rattle.tree_file.proofs.check_deep.Goals as goal

-- the rows nest
nested : (c : Then-rows_nest) (ls : List Line) → c.args.rows.now ≡ bytes_of ls → LinesFit ls → (f : Forest) × (grow ls ≡ some f)
nested c ls e h = is-some (grow ls) c.rows_nest.result (c.rows_nest.ensures ls e h) c.if-rows_nest.true

pub root_blocks-requires : goal.root_blocks-requires
root_blocks-requires c =
    let p = c.requires in
    let w = nested c p.ls p.spelt p.fit in
    record { forest = w.0; spelt = grown-rows p.ls w.0 p.spelt w.1; few = p.few }

pub returns-then-is_some : goal.returns-then-is_some
returns-then-is_some c =
    let b = found c.root_blocks.result c.is_some.result c.is_some.ensures c.if-is_some.true in
    λ ls e h d.
    let w = nested (goal.at.returns-then-is_some c).Then-rows_nest ls e h in
    let blocks = c.root_blocks.ensures w.0 (grown-rows ls w.0 e w.1) in
    ap Err c.no_row.ensures ∙ answer-deep (blocks_are w.0 c.root_blocks.result b.0 blocks b.1) (d w.0 w.1) ∙ sym (ap answer_to w.1)

pub returns : goal.returns
returns c =
    λ ls e h d.
    ap Err c.no_row-2.ensures ∙ elim c.else-rows_nest.branch [
      | else-rows_nest-via-then-rows_nest+else-is_some v ↦
          let w = is-some (grow ls) c.rows_nest.result (c.rows_nest.ensures ls e h) v.if-rows_nest.true in
          answer-amiss w.0 v.root_blocks.result (v.root_blocks.ensures w.0 (grown-rows ls w.0 e w.1))
          (not-found v.root_blocks.result v.is_some.result v.is_some.ensures v.if-is_some.false)
          ∙ sym (ap answer_to w.1)
      | else-rows_nest-via-else-rows_nest v ↦ answer-broken (grow ls) c.rows_nest.result (c.rows_nest.ensures ls e h) v.if-rows_nest.false
    ]
