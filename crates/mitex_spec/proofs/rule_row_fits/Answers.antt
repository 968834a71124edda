-- A row that fits says what each test asks (`RuleRowFits`), so a failed test refuses it; where only the alias is left, its test is the answer.
-- Where the characters of the text have one byte each, name and alias are valid (`row_plain`).
use mathlib.Core.Path.{sym, ap, ◌∙◌}
use mathlib.Core.Bool.{true≢false}
use native.Mathlib.Omega.{arith}
use Rattle.utf8.specs.Utf8.{valid}
use Rattle.mitex_spec.proofs.Checking.{row-not, row-name, row-texts, row_plain}
use Rattle.mitex_spec.proofs.rule_row_fits.Goals.{then-not-padded-via-then-not-padded, then-not-padded-via-else-not-padded+then-text-end, then-not-padded-via-else-not-padded+else-text-end+then-row-gt-CLASS_MOST}
use Rattle.mitex_spec.proofs.rule_row_fits.Goals as goal

pub returns-then-not-padded : goal.returns-then-not-padded
returns-then-not-padded c =
    row-not c.args.row.now c.args.text.now
    (elim c.then-not-padded.branch [
      | then-not-padded-via-then-not-padded w ↦ λ f. true≢false (sym f.pad ∙ sym c.padded.ensures ∙ w.if-not-padded.true)
      | then-not-padded-via-else-not-padded+then-text-end w ↦ λ f. omega (arith, f.room, c.rule_taken-end.ensures.0, w.if-text-end.true)
      | then-not-padded-via-else-not-padded+else-text-end+then-row-gt-CLASS_MOST w ↦ λ f. omega (arith, f.low, w.if-row-gt-CLASS_MOST.true)
    ])

pub returns-then-plain : goal.returns-then-plain
returns-then-plain c =
    c.if-plain.true
    ∙ row_plain c.args.row.now c.args.text.now (sym c.padded.ensures ∙ c.if-not-padded.false)
    (omega (arith, c.rule_taken-end.ensures.0, c.if-text-end.false)) c.if-row-gt-CLASS_MOST.false (c.requires.1 c.if-plain.true)

pub returns-then-valid : goal.returns-then-valid
returns-then-valid c =
    c.valid-then-valid.ensures
    ∙ ap valid c.split_at.ensures.back
    ∙ row-texts c.args.row.now c.args.text.now c.read_u16.result c.rule_taken-end.result (sym c.padded.ensures ∙ c.if-not-padded.false)
    c.rule_taken-end.ensures.0 c.if-text-end.false c.if-row-gt-CLASS_MOST.false c.read_u16.ensures.0
    (ap valid (sym c.split_at.ensures.front) ∙ sym c.valid.ensures ∙ c.if-valid.true)

pub returns-else-valid : goal.returns-else-valid
returns-else-valid c =
    c.if-valid.false
    ∙ row-name c.args.row.now c.args.text.now c.read_u16.result c.rule_taken-end.result (sym c.padded.ensures ∙ c.if-not-padded.false)
    c.rule_taken-end.ensures.0 c.if-text-end.false c.if-row-gt-CLASS_MOST.false c.read_u16.ensures.0
    (ap valid (sym c.split_at.ensures.front) ∙ sym c.valid.ensures ∙ c.if-valid.false)
