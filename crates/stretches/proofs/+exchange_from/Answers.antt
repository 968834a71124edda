-- What is kept after the first stretch up to the next is known by the two ends read (`old-end`); the others may be exchanged (`deeper`),
-- and then the first may be written (`writable`): what is kept stays where it is, or it is moved up.
use mathlib.Core.Path.{ap}
use native.Mathlib.Omega.{arith}
use borrow.Author.Tests.{lt-ltb, le-ltb}
use lib.ListN.{length, length-drop}
use Rattle.stretches.proofs.Exchanging.{none-exchanged, plan-long, rest-some, rest-is, after_next, after-row, next_row}
use Rattle.stretches.proofs.Exchanging.{old-end, place_rest, tail-room, deeper, out₂-long, rows-room, rows-movable}
use Rattle.stretches.proofs.Exchanging.{writable, exchanged}
use Rattle.stretches.proofs.+exchange_from.Goals as goal

pub returns-then-d-note : goal.returns-then-d-note
returns-then-d-note t c w = none-exchanged w c.if-d-note.true

pub bounds-rest-0 : goal.bounds-rest-0
bounds-rest-0 t c = rest-some c.requires c.if-d-note.false

pub end_before-old-requires : goal.end_before-old-requires
end_before-old-requires t c = after-row c.requires c.if-d-note.false

pub end_before-requires : goal.end_before-requires
end_before-requires t c = next_row c.requires c.if-d-note.false

pub overflow_sub-tail : goal.overflow_sub-tail
overflow_sub-tail t c = old-end c.requires c.if-d-note.false c.end_before-old.ensures.0 c.end_before.ensures.0

pub lower-requires : goal.lower-requires
lower-requires t c = tail-room c.requires c.if-d-note.false c.end_before-old.ensures.0 c.end_before.ensures.0

pub overflow_add-to-2 : goal.overflow_add-to-2
overflow_add-to-2 t c =
    omega (arith, (place_rest c.requires c.if-d-note.false c.end_before-old.ensures.0 c.end_before.ensures.0).1)

pub exchange_from-requires : goal.exchange_from-requires
exchange_from-requires t c = (
  omega (
    arith,
    plan-long c.requires c.if-d-note.false,
    ap length (rest-is c.requires c.if-d-note.false),
    length-drop 1 c.args.plan.now,
    c.decreases,
  ),
  deeper c.requires c.if-d-note.false c.end_before-old.ensures.0 c.end_before.ensures.0 c.lower.ensures,
)

pub move_rows-requires : goal.move_rows-requires
move_rows-requires t c =
    let h = c.if-d-note.false in
    let old = c.end_before-old.ensures.0 in
    let end = c.end_before.ensures.0 in (
      (after_next c.requires h).0,
      rows-room c.requires h old end c.lower.ensures c.exchange_from.ensures,
      rows-movable c.requires h old end c.lower.ensures c.exchange_from.ensures,
    )

pub write_stretch-requires : goal.write_stretch-requires
write_stretch-requires t c =
    writable c.requires c.if-d-note.false c.end_before-old.ensures.0 c.end_before.ensures.0 c.lower.ensures c.exchange_from.ensures
    (rw (le-ltb _ _ c.if-to-old.true)) c.move_rows.ensures

pub returns-then-to-old : goal.returns-then-to-old
returns-then-to-old t c w =
    exchanged w c.if-d-note.false c.end_before-old.ensures.0 c.end_before.ensures.0 c.lower.ensures c.exchange_from.ensures
    (rw (le-ltb _ _ c.if-to-old.true)) c.move_rows.ensures c.write_stretch.ensures

pub move_bytes-requires : goal.move_bytes-requires
move_bytes-requires t c =
    let h = c.if-d-note.false in
    let old = c.end_before-old.ensures.0 in
    let end = c.end_before.ensures.0 in
    let room = tail-room c.requires h old end in
    let long = out₂-long c.requires h old end c.lower.ensures c.exchange_from.ensures in
    (omega (arith, room.0, long), omega (arith, room.1, long))

pub write_stretch-requires-2 : goal.write_stretch-requires-2
write_stretch-requires-2 t c =
    writable c.requires c.if-d-note.false c.end_before-old.ensures.0 c.end_before.ensures.0 c.lower.ensures c.exchange_from.ensures
    (rw (lt-ltb _ _ c.if-to-old.false) c.move_bytes.ensures) c.move_rows.ensures

pub returns : goal.returns
returns t c w =
    exchanged w c.if-d-note.false c.end_before-old.ensures.0 c.end_before.ensures.0 c.lower.ensures c.exchange_from.ensures
    (rw (lt-ltb _ _ c.if-to-old.false) c.move_bytes.ensures) c.move_rows.ensures c.write_stretch-2.ensures
