-- Bytes 4 to 7 first, then the padding as a part of the row.
use mathlib.Core.Path.{refl, sym, ◌∙◌}
use mathlib.Core.List.{List}
use Prim.Native.Nat.{ℕ, ◌*◌}
use native.Mathlib.Omega.{arith}
use lib.ListN.{drop, length-drop}
use Rattle.ledger.specs.Ledger.{row_size}
use Rattle.ledger.proofs.Reading.{row-length, row-unfit, row-zeros, marks-short}
use Rattle.ledger.proofs.row_fits.Goals as goal

pub slice_bounds-all_zero-count : goal.slice_bounds-all_zero-count
slice_bounds-all_zero-count c =
    let at : List ℕ = drop (row_size * c.args.i) c.args.ledger.now in
    omega (
      arith,
      row-length at c.row_bytes-row.result.now c.row_bytes-row.ensures (omega (arith, length-drop (row_size * c.args.i) c.args.ledger.now)),
      marks-short _ _ _ _ (sym c.marks_fit.ensures ∙ c.if-marks_fit.true),
    )

pub slice_bounds-all_zero-start : goal.slice_bounds-all_zero-start
slice_bounds-all_zero-start c =
    let at : List ℕ = drop (row_size * c.args.i) c.args.ledger.now in
    omega (
      arith,
      row-length at c.row_bytes-row.result.now c.row_bytes-row.ensures (omega (arith, length-drop (row_size * c.args.i) c.args.ledger.now)),
      marks-short _ _ _ _ (sym c.marks_fit.ensures ∙ c.if-marks_fit.true),
    )

pub returns-then-marks_fit : goal.returns-then-marks_fit
returns-then-marks_fit c =
    let row = c.row_bytes-row in
    c.all_zero.ensures
    ∙ row-zeros (drop (row_size * c.args.i) c.args.ledger.now) row.result.now row.ensures refl refl c.from-len.ensures refl
    (sym c.marks_fit.ensures ∙ c.if-marks_fit.true)

pub returns-else-marks_fit : goal.returns-else-marks_fit
returns-else-marks_fit c =
    let row = c.row_bytes-row in
    c.if-marks_fit.false
    ∙ row-unfit (drop (row_size * c.args.i) c.args.ledger.now) row.result.now row.ensures refl refl c.from-len.ensures refl
    (sym c.marks_fit.ensures ∙ c.if-marks_fit.false)
