-- `splice`: where text and rows have room, what `overwrite` leaves is what the definition says; where one has none, nothing changes.
use mathlib.Core.Path.{refl}
use Prim.Native.Nat.{◌+◌, ◌-◌}
use native.Mathlib.Omega.{arith}
use Rattle.calls.proofs.Splicing.{old-kept, last_row, difference-fits, difference-is, no_room, has-room, spliced}
use Rattle.calls.proofs.splice.Goals as goal

pub end_before-old-requires : goal.end_before-old-requires
end_before-old-requires c = last_row c.requires refl refl

-- the kept text of the blocks ends where `end_before` says
pub overflow_sub-new : goal.overflow_sub-new
overflow_sub-new c =
    omega (arith, old-kept c.requires refl (c.end_before-old.ensures.0 c.args.was (omega (arith, c.requires.within))))

pub returns-then-not-has_room : goal.returns-then-not-has_room
returns-then-not-has_room c w =
    rw c.no_row.ensures
    (no_room w refl (c.end_before-old.ensures.0 c.args.was (omega (arith, c.requires.within))) c.has_room.ensures c.if-not-has_room.true)

pub overwrite-requires-clause-roomy : goal.overwrite-requires-clause-roomy
overwrite-requires-clause-roomy c =
    let e = c.end_before-old.ensures.0 c.args.was (omega (arith, c.requires.within)) in
    let h = has-room c.requires refl e c.has_room.ensures c.if-not-has_room.false in
    record { starts = refl; ends = e; text = omega (arith, h.0); small = omega (arith, h.0); rows = h.1 }

-- the new length and the kept one are numbers of 63 bits, as the length of every buffer is
pub overflow_cast-result : goal.overflow_cast-result
overflow_cast-result c =
    let e = c.end_before-old.ensures.0 c.args.was (omega (arith, c.requires.within)) in
    record { sfits = omega (arith, (has-room c.requires refl e c.has_room.ensures c.if-not-has_room.false).0) }

pub overflow_sub-result : goal.overflow_sub-result
overflow_sub-result c =
    let e = c.end_before-old.ensures.0 c.args.was (omega (arith, c.requires.within)) in
    difference-fits (c.args.m.at + (c.args.kept - c.end_before-old.result)) c.args.kept (omega (arith, (has-room c.requires refl e c.has_room.ensures c.if-not-has_room.false).0))
    (omega (arith, c.requires.inside))

pub returns : goal.returns
returns c w =
    let e = c.end_before-old.ensures.0 c.args.was (omega (arith, c.requires.within)) in
    let g = difference-is (c.args.m.at + (c.args.kept - c.end_before-old.result)) c.args.kept (omega (arith, (has-room c.requires refl e c.has_room.ensures c.if-not-has_room.false).0))
    (omega (arith, c.requires.inside)) in
    spliced w refl e c.has_room.ensures c.if-not-has_room.false g refl (c.overwrite.ensures w)
