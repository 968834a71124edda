-- `has_room`: the text's room and that of the rows, in their order.
use Prim.Native.Nat.{min}
use native.Mathlib.Omega.{arith}
use borrow.Author.Tests.{le-leb, lt-leb}
use lib.ListN.{length}
use Rattle.edit_meaning.specs.Edit.{text_most, room_for_text}
use Rattle.calls.proofs.Settling.{rows-fit}
use Rattle.calls.proofs.has_room.Goals as goal

pub returns-then-at-text_room : goal.returns-then-at-text_room
unfolding room_for_text
returns-then-at-text_room c =
    let a = c.args in
    rw (le-leb a.at (min (length a.out.now) text_most) (omega (arith, c.text_room.ensures, c.if-at-text_room.true))) (rows-fit a.blocks (length a.ledger.now))

pub returns-else-at-text_room : goal.returns-else-at-text_room
unfolding room_for_text
returns-else-at-text_room c =
    let a = c.args in
    rw (
      lt-leb a.at (min (length a.out.now) text_most) (omega (arith, c.text_room.ensures, c.if-at-text_room.false)),
      lt-leb a.at c.text_room.result c.if-at-text_room.false,
    )
