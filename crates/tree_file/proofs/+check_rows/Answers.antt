use native.Mathlib.Omega.{arith}
use mathlib.Core.Path.{◌≡◌, sym, subst}
use mathlib.Core.List.{List}
use Prim.Native.Nat.{ℕ, ◌+◌, ◌*◌, ◌-◌}
use Rattle.std.specs.Prelude.{Ok, Err}
use lib.ListN.{take}
use Rattle.text.proofs.Writing.{rest-length}
use Rattle.tree_file.specs.Layout.{Line, grow}
use Rattle.tree_file.specs.Parts.{bytes_of, LinesFit, Nested}
use Rattle.tree_file.proofs.Shapes.{handed-on}
use Rattle.tree_file.proofs.Nesting.{turn-start, turn-deep, turn_end}
use Rattle.tree_file.proofs.Nesting.{At, at_row, at-short, at-refused, at_next, at-answer, none-under}
use Rattle.tree_file.proofs.+check_rows.Goals.{After-under-n, then-n-gt0+in_ok-check_rows, else-n-gt0}
use Rattle.tree_file.proofs.+check_rows.Goals as goal

-- the row at which the loop stands
here : (t : ℕ) (c : After-under-n t) (ls : List Line) → c.args.rows.now ≡ bytes_of ls → LinesFit ls → At ls c.args.left c.loop-rest.rest.now c.under-n.result
here t c ls e h = at_row (c.loop-rest.invariant.1 ls e h) c.loop-rest-test.true c.under-n.result c.under-n.ensures.0

pub loop-rest-init : goal.loop-rest-init
loop-rest-init t c = (omega arith, λ ls e h. turn-start ls _ _ e h)

pub returns-then-left-eq0 : goal.returns-then-left-eq0
returns-then-left-eq0 t c = λ ls e h. turn-deep (c.loop-rest.invariant.1 ls e h) c.loop-rest-test.true c.if-left-eq0.true

pub returns-then-rest-end : goal.returns-then-rest-end
returns-then-rest-end t c = λ ls e h. at-short (here t (goal.at.returns-then-rest-end t c).After-under-n ls e h) c.if-rest-end.true

pub returns-in_err-check_rows : goal.returns-in_err-check_rows
returns-in_err-check_rows t c =
    let x = c.in_err-check_rows.field-0.0 in
    λ ls e h.
    let at = here t (goal.at.returns-in_err-check_rows t c).After-under-n ls e h in
    let told = at-answer at c.if-rest-end.false c.check_rows.result (Err x) c.check_rows.ensures c.in_err-check_rows.was in
    subst (Nested (grow ls) c.args.left) (sym (handed-on c.from_residual.result x c.from_residual.ensures.1))
    (at-refused at c.if-rest-end.false (omega arith) x told)

-- whether there are any rows under it or not, they are fine
pub loop-rest-preserved : goal.loop-rest-preserved
loop-rest-preserved t c =
    let at = (goal.at.loop-rest-preserved t c).After-under-n in
    let less = rest-length c.loop-rest.rest.now (8 + 8 * c.under-n.result) in (
      omega (arith, less, c.loop-rest.invariant.0),
      λ ls e h.
          let w = here t at ls e h in
          let fine : Nested (grow (take c.under-n.result w.ns)) (c.args.left - 1) (Ok tt) = elim c.if-n-gt0.branch [
            | then-n-gt0+in_ok-check_rows v ↦ at-answer w c.if-rest-end.false v.check_rows.result (Ok tt) v.check_rows.ensures v.in_ok-check_rows.was
            | else-n-gt0 v ↦ none-under w.ns _ _ v.if-n-gt0.false
          ] in
          at_next w c.if-rest-end.false (omega arith) fine,
    )

pub returns : goal.returns
returns t c = λ ls e h. turn_end (c.loop-rest.invariant.1 ls e h) c.loop-rest-test.false
