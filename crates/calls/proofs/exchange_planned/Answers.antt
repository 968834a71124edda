-- `exchange_planned`: where the text has room, what `exchange_from` leaves, with zeros stored after it, is what the definition says; where it
-- has none, nothing changes.
use mathlib.Core.Path.{refl}
use Prim.Native.Nat.{◌+◌, ◌-◌}
use native.Mathlib.Omega.{arith}
use Rattle.calls.proofs.Splicing.{difference-fits, difference-is}
use Rattle.calls.proofs.Replacing.{planned-row, plan-some, first-row, planned-old, planned-no-room, planned-room, exchangeable, planned-done}
use Rattle.calls.proofs.exchange_planned.Goals as goal

pub end_before-requires : goal.end_before-requires
end_before-requires c = planned-row c.requires

pub overflow_sub-new : goal.overflow_sub-new
overflow_sub-new c = omega (arith, planned-old c.requires c.end_before.ensures.0)

pub returns-then-not-has_room : goal.returns-then-not-has_room
returns-then-not-has_room c w =
    rw c.no_row.ensures (planned-no-room w c.end_before.ensures.0 c.has_room.ensures c.if-not-has_room.true)

pub bounds-plan-0 : goal.bounds-plan-0
bounds-plan-0 c = plan-some c.requires

pub end_before-first-requires : goal.end_before-first-requires
end_before-first-requires c = first-row c.requires

pub exchange_from-requires : goal.exchange_from-requires
exchange_from-requires c =
    exchangeable c.requires c.end_before.ensures.0 c.has_room.ensures c.if-not-has_room.false c.end_before-first.ensures.0

-- the new length is that of a buffer, as the kept one is
pub overflow_cast-result : goal.overflow_cast-result
overflow_cast-result c =
    record { sfits = omega (arith, planned-room c.requires c.end_before.ensures.0 c.has_room.ensures c.if-not-has_room.false) }

pub overflow_sub-result : goal.overflow_sub-result
overflow_sub-result c =
    difference-fits (c.args.p.at + (c.args.kept - c.end_before.result)) c.args.kept
    (omega (arith, planned-room c.requires c.end_before.ensures.0 c.has_room.ensures c.if-not-has_room.false))
    (omega (arith, c.requires.inside))

pub returns : goal.returns
returns c w =
    let o = c.end_before.ensures.0 in
    let r = c.has_room.ensures in
    let t = c.if-not-has_room.false in
    let f = c.end_before-first.ensures.0 in
    planned-done w o r t f (c.exchange_from.ensures (exchangeable w o r t f)) c.clear_between.ensures
    (difference-is (c.args.p.at + (c.args.kept - c.end_before.result)) c.args.kept
    (omega (arith, planned-room c.requires o r t)) (omega (arith, c.requires.inside))) refl
