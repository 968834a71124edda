use Rattle.text.proofs.Writing.{part-rest}
use native.Mathlib.Omega.{arith}
use mathlib.Core.Path.{◌≡◌, sym, ap, subst, ◌∙◌}
use mathlib.Core.List.{◌++◌}
use Prim.Native.Nat.{◌-◌, ◌≤◌}
use lib.ListN.{length, take, drop}
use Rattle.std.specs.Prelude.{Some}
use Rattle.std.specs.Slice.Iter.{chunks_exact_rest}
use Rattle.utf8.specs.Utf8.{one_byte_each}
use Rattle.utf8.proofs.Texts.{one-drop}
use Rattle.tree_file.specs.Layout.{tree_row_at}
use Rattle.tree_file.proofs.Runs.{LinesLeft, lines-left-none, lines-left-next, lines-left-end, chunk-whole, chunk-past, chunk-row, taken-room}
use Rattle.tree_file.proofs.lines_fit.Goals.{In-Some, After-row_taken}
use Rattle.tree_file.proofs.lines_fit.Goals as goal

-- the row is cut off of what is left
cut : (c : In-Some) → chunks_exact_rest c.loop-row.row-iterator ≡ c.in-Some.row.now ++ chunks_exact_rest c.next.new.self
cut c = c.in-Some.ensures.steps.1.0

long : (c : In-Some) → length c.in-Some.row.now ≡ 8
long c = c.in-Some.ensures.steps.1.1 ∙ c.loop-row.invariant.eight

-- a row takes no more text than there is
room : (c : After-row_taken) → c.row_taken.result ≤ length c.loop-row.left.now
room c =
    let h = taken-room c.in-Some.row.now c.loop-row.left.now c.in-Some-tree_row_at.read (sym c.tree_row_at.ensures ∙ c.in-Some-tree_row_at.is) in
    omega (arith, c.row_taken.ensures)

pub returns-in_default : goal.returns-in_default
returns-in_default c =
    let at = (goal.at.returns-in_default c).In-Some in
    let l = chunks_exact_rest c.loop-row.row-iterator in
    let x = c.in-Some.row.now in
    let m = chunks_exact_rest c.next.new.self in
    λ n e.
    let none = sym (chunk-row l x m (cut at) (long at) c.loop-row.left.now) ∙ sym c.tree_row_at.ensures ∙ c.in_default.is in
    lines-left-none (c.loop-row.invariant.left n e) (chunk-whole l x m (cut at) (long at)) none

pub slice_bounds-left-count : goal.slice_bounds-left-count
slice_bounds-left-count c = room (goal.at.slice_bounds-left-count c).After-row_taken

pub slice_bounds-left-start : goal.slice_bounds-left-start
slice_bounds-left-start c = room (goal.at.slice_bounds-left-start c).After-row_taken

pub loop-row-preserved : goal.loop-row-preserved
loop-row-preserved c =
    let at = (goal.at.loop-row-preserved c).In-Some in
    let v = c.loop-row.invariant in
    let n = c.row_taken.result in
    let t = c.loop-row.left.now in
    let l = chunks_exact_rest c.loop-row.row-iterator in
    let x = c.in-Some.row.now in
    let m = chunks_exact_rest c.next.new.self in
    let r = c.in-Some-tree_row_at.read in
    record {
      eight = c.in-Some.ensures.steps.0 ∙ v.eight;
      plain = λ e. ap one_byte_each (part-rest t n) ∙ one-drop n t (v.plain e);
      left = λ k e.
          let is : tree_row_at l t ≡ Some r = sym (chunk-row l x m (cut at) (long at) t) ∙ sym c.tree_row_at.ensures ∙ c.in-Some-tree_row_at.is in
          subst (λ y. LinesLeft k c.args.rows.now c.args.text.now y (take (length t - n) (drop n t))) (chunk-past l x m (cut at) (long at))
          (lines-left-next (v.left k e) (chunk-whole l x m (cut at) (long at)) r is n c.row_taken.ensures);
    }

pub returns : goal.returns
returns c = λ n e.
    let v = c.loop-row.invariant in
    let w = v.left n e in
    let end = c.in-None.ensures.steps.1.0 in
    c.is_empty.ensures ∙ lines-left-end w (omega (arith, v.eight))
