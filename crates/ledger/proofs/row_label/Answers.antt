-- The label of a row that fits lies in the row (`row-held`).
use mathlib.Core.List.{List}
use Prim.Native.Nat.{ℕ, ◌*◌}
use native.Mathlib.Omega.{arith}
use lib.ListN.{drop, length-drop}
use Rattle.ledger.specs.Ledger.{row_size}
use Rattle.ledger.proofs.Reading.{row-length, row-short, row-held, row-unheld}
use Rattle.ledger.proofs.row_label.Goals as goal

pub returns-then-row-ne1 : goal.returns-then-row-ne1
returns-then-row-ne1 c =
    let at : List ℕ = drop (row_size * c.args.i) c.args.ledger.now in
    row-unheld at c.row_bytes-row.result.now c.row_bytes-row.ensures c.if-row-ne1.true

pub slice_bounds-result-end : goal.slice_bounds-result-end
slice_bounds-result-end c =
    let at : List ℕ = drop (row_size * c.args.i) c.args.ledger.now in
    let row = c.row_bytes-row in
    omega (
      arith,
      row-length at row.result.now row.ensures (omega (arith, c.requires.0, length-drop (row_size * c.args.i) c.args.ledger.now)),
      row-short at row.result.now row.ensures c.from-len.result c.from-len.ensures c.requires.1,
    )

pub returns : goal.returns
returns c =
    let at : List ℕ = drop (row_size * c.args.i) c.args.ledger.now in
    let row = c.row_bytes-row in
    row-held at row.result.now row.ensures c.from-len.result c.if-row-ne1.false c.from-len.ensures
    (row-short at row.result.now row.ensures c.from-len.result c.from-len.ensures c.requires.1)
