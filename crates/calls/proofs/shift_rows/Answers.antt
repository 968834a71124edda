-- `shift_rows`: rows that stand where they are to be moved stay (`sets_same`).
use mathlib.Core.Path.{sym, ap, ◌∙◌}
use Prim.Native.Nat.{◌*◌, ◌-◌}
use native.Mathlib.Omega.{arith}
use lib.ListN.{take, drop}
use lib.Seq.{sets}
use Rattle.ledger.specs.Ledger.{row_size}
use Rattle.ledger.proofs.Writing.{sets_same}
use Rattle.calls.proofs.shift_rows.Goals as goal

pub returns-then-q-to : goal.returns-then-q-to
returns-then-q-to c =
    let a = c.args in
    let l = a.ledger.now in
    let n = row_size * a.was - row_size * a.q in
    let p = c.requires in
    sym
    (ap (λ i. sets l (row_size * i) (take n (drop (row_size * a.q) l))) (sym c.if-q-to.true)
    ∙ sets_same n l (row_size * a.q) (omega arith))
