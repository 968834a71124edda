use mathlib.Core.Path.{◌≡◌, sym, ap, ◌∙◌}
use mathlib.Core.Bool.{Bool, true}
use mathlib.Core.List.{List}
use Prim.Native.Nat.{◌≤◌, ℕ}
use native.Mathlib.Omega.{arith}
use lib.ListN.{length}
use lib.Seq.{length-take-le}
use Rattle.text.proofs.Writing.{part-rest}
use Rattle.utf8.specs.Utf8.{one_byte_each}
use Rattle.utf8.proofs.Texts.{one-drop}
use Rattle.mitex_spec.specs.RuleFile.{length_of_name, rule_taken, rule_row_fits}
use Rattle.mitex_spec.proofs.RuleFile.{rule-row-says}
use Rattle.mitex_spec.proofs.Checking.{rules-left-unfit, rules-left-falls, rules-left-next, rules-left-end}
use Rattle.mitex_spec.proofs.rules_fit.Goals as goal

-- the texts of a row that fits are there: its name, and all that it takes
name-room : (row text : List ℕ) (r : Bool) (n : ℕ) → r ≡ rule_row_fits row text → r ≡ true → n ≡ length_of_name row → n ≤ length text
name-room row text r n q t e = let f = (rule-row-says row text (sym q ∙ t)).room in omega arith

room : (row text : List ℕ) (r : Bool) (n : ℕ) → r ≡ rule_row_fits row text → r ≡ true → n ≡ rule_taken row → n ≤ length text
room row text r n q t e = let f = (rule-row-says row text (sym q ∙ t)).room in omega arith

pub returns-then-not-rule_row_fits : goal.returns-then-not-rule_row_fits
returns-then-not-rule_row_fits c =
    let turn = c.in-Some.ensures.steps.1 in
    λ n e. rules-left-unfit (c.loop-row.invariant.2 n e) _ _ turn.0 (turn.1 ∙ c.loop-row.invariant.0) (sym c.rule_row_fits.ensures ∙ c.if-not-rule_row_fits.true)

pub slice_bounds-name-end : goal.slice_bounds-name-end
slice_bounds-name-end c =
    sym (length-take-le _ _ (name-room _ _ _ _ c.rule_row_fits.ensures c.if-not-rule_row_fits.false c.read_u16.ensures.0))

pub returns-then-not-may_follow : goal.returns-then-not-may_follow
returns-then-not-may_follow c =
    let turn = c.in-Some.ensures.steps.1 in
    λ n e. rules-left-falls (c.loop-row.invariant.2 n e) _ _ turn.0 (turn.1 ∙ c.loop-row.invariant.0) c.read_u16.result
    (sym c.rule_row_fits.ensures ∙ c.if-not-rule_row_fits.false) c.read_u16.ensures.0 (sym c.may_follow.ensures ∙ c.if-not-may_follow.true)

pub slice_bounds-rest-count : goal.slice_bounds-rest-count
slice_bounds-rest-count c = room _ _ _ _ c.rule_row_fits.ensures c.if-not-rule_row_fits.false c.rule_taken.ensures.0

pub slice_bounds-rest-start : goal.slice_bounds-rest-start
slice_bounds-rest-start c = room _ _ _ _ c.rule_row_fits.ensures c.if-not-rule_row_fits.false c.rule_taken.ensures.0

pub loop-row-preserved : goal.loop-row-preserved
loop-row-preserved c =
    let loop = c.loop-row in
    let turn = c.in-Some.ensures.steps in (
      turn.0 ∙ loop.invariant.0,
      λ e. ap one_byte_each (part-rest loop.rest.now c.rule_taken.result) ∙ one-drop c.rule_taken.result loop.rest.now (loop.invariant.1 e),
      λ n e.
          rules-left-next (loop.invariant.2 n e) _ _ turn.1.0 (turn.1.1 ∙ loop.invariant.0) c.read_u16.result
          (sym c.rule_row_fits.ensures ∙ c.if-not-rule_row_fits.false) c.read_u16.ensures.0 c.rule_taken.result
          (sym c.may_follow.ensures ∙ c.if-not-may_follow.false) c.rule_taken.ensures.0,
    )

pub returns : goal.returns
returns c =
    λ n e. c.is_empty.ensures ∙ rules-left-end (c.loop-row.invariant.2 n e) (let h = c.in-None.ensures.steps.1.0 in let q = c.loop-row.invariant.0 in omega arith)
