-- Only the four length bytes differ from what stands there (`row_moved`).
use mathlib.Core.Path.{ap, ◌∙◌}
use Prim.Native.Nat.{◌+◌, ◌-◌}
use Rattle.ledger.proofs.Writing.{row_moved}
use Rattle.ledger.proofs.move_row.Goals as goal

pub returns : goal.returns
returns c =
    c.write_u32.ensures ∙ row_moved c.args.i c.args.old c.args.new c.args.ledger.now c.requires.0 (ap (λ e. c.args.new + (e - c.args.old)) c.row_end-end.ensures.0)
