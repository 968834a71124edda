-- A survey of all says what the rows grow to (`spelt-grows`), and that nothing is wrong but, perhaps, the root.
use mathlib.Core.Path.{sym, ap, ◌∙◌}
use Rattle.std.specs.Prelude.{Err}
use Rattle.std.specs.Result.{result_ok}
use Rattle.tree_file.specs.Parts.{answer_to}
use Rattle.tree_file.proofs.Answers.{refused-so, blocks_are, answer-amiss}
use Rattle.tree_file.proofs.Surveys.{survey-spells, spelt-grows, survey-whole}
use Rattle.tree_file.proofs.check_quickly.Goals as goal

pub returns-in_err-blocks : goal.returns-in_err-blocks
returns-in_err-blocks c =
    let p = c.requires in
    let w = c.survey_all.ensures c.if-not-survey_all.false in
    let b = c.root_blocks in
    let o = c.ok_or in
    let x = c.in_err-blocks.field-0.0 in
    let v = c.from_residual in
    let r = refused-so b.result c.no_row.result x o.result v.result o.ensures.value o.ensures.ok_part c.in_err-blocks.was v.ensures.1 in
    λ n e.
    r.1 ∙ ap Err c.no_row.ensures ∙ answer-amiss w.forest b.result (b.ensures w.forest w.begins.rows_are) r.0
    ∙ sym (ap answer_to (spelt-grows w.forest (survey-spells w) p.few p.short n e))

pub returns : goal.returns
returns c =
    let p = c.requires in
    let w = c.survey_all.ensures c.if-not-survey_all.false in
    let sp = survey-spells w in
    let b = c.root_blocks in
    let is = c.ok_or.ensures.ok_part ∙ ap result_ok c.in_ok-blocks.was in
    let a = blocks_are w.forest b.result c.in_ok-blocks.blocks (b.ensures w.forest w.begins.rows_are) is in
    λ n e. survey-whole a sp w.low w.shaped ∙ sym (ap answer_to (spelt-grows w.forest sp p.few p.short n e))
