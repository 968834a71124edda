-- `convert_by_draft`: the pass comes to the document's walk (`draft-passed`), and each answer is what the walk settles.
use mathlib.Core.Path.{sym}
use native.Mathlib.Omega.{arith}
use lib.Seq.{length-take-le}
use Rattle.std.proofs.lemmas.Result.{err_from_is_err_and}
use Rattle.mitex_meaning.proofs.Holding.{opening-says}
use Rattle.passes.proofs.Starting.{some-blocks, blocks-begin}
use Rattle.calls.proofs.Settling.{draft-passed, settled-refused, settled-no-room, settled-within, settled-draft, settled-done}
use Rattle.calls.proofs.convert_by_draft.Goals as goal

pub stand_at-from-requires : goal.stand_at-from-requires
stand_at-from-requires c = some-blocks c.args.d.open 0 (omega arith)

pub draft_blocks-requires-clause-blocks_up_to : goal.draft_blocks-requires-clause-blocks_up_to
draft_blocks-requires-clause-blocks_up_to c =
    let w = c.args.d.open in
    let s = c.stand_at-from.ensures w.blocks _ w.spells (omega arith) w.short in
    blocks-begin w s (opening-says c.opening.ensures) (omega arith) (omega arith)

pub returns-in_err-m : goal.returns-in_err-m
returns-in_err-m c =
    let w = c.args.d.open in
    let s = c.stand_at-from.ensures w.blocks _ w.spells (omega arith) w.short in
    let e = err_from_is_err_and c.from_residual.result c.from_residual.ensures.1 in
    rw (e.1, e.2) (settled-refused _ _ (draft-passed {d = c.args.d} s (opening-says c.opening.ensures) c.in_err-m.ensures.measured))

pub returns-then-not-has_room : goal.returns-then-not-has_room
returns-then-not-has_room c =
    let w = c.args.d.open in
    let s = c.stand_at-from.ensures w.blocks _ w.spells (omega arith) w.short in
    let p = draft-passed {d = c.args.d} s (opening-says c.opening.ensures) c.in_ok-m.ensures.measured in
    rw c.no_row.ensures (settled-no-room _ _ p c.has_room.ensures c.if-not-has_room.true)

pub slice_bounds-deliver-end : goal.slice_bounds-deliver-end
slice_bounds-deliver-end c =
    let a = c.args in
    let w = a.d.open in
    let s = c.stand_at-from.ensures w.blocks _ w.spells (omega arith) w.short in
    let p = draft-passed {d = c.args.d} s (opening-says c.opening.ensures) c.in_ok-m.ensures.measured in
    omega (arith, settled-within a.out.now a.ledger.now p c.has_room.ensures c.if-not-has_room.false)

pub slice_bounds-deliver-end-2 : goal.slice_bounds-deliver-end-2
slice_bounds-deliver-end-2 c =
    let a = c.args in
    let w = a.d.open in
    let s = c.stand_at-from.ensures w.blocks _ w.spells (omega arith) w.short in
    let p = draft-passed {d = c.args.d} s (opening-says c.opening.ensures) c.in_ok-m.ensures.measured in
    sym (length-take-le _ _ (omega (arith, settled-within a.out.now a.ledger.now p c.has_room.ensures c.if-not-has_room.false)))

pub deliver-requires : goal.deliver-requires
deliver-requires c =
    let a = c.args in
    let w = a.d.open in
    let s = c.stand_at-from.ensures w.blocks _ w.spells (omega arith) w.short in
    let p = draft-passed {d = c.args.d} s (opening-says c.opening.ensures) c.in_ok-m.ensures.measured in
    settled-draft a.out.now a.ledger.now p c.has_room.ensures c.if-not-has_room.false c.draft_blocks.auto.out c.draft_blocks.auto.ledger
    c.requires.1 c.in_ok-m.ensures.written

pub returns : goal.returns
returns c =
    let a = c.args in
    let w = a.d.open in
    let s = c.stand_at-from.ensures w.blocks _ w.spells (omega arith) w.short in
    let p = draft-passed {d = c.args.d} s (opening-says c.opening.ensures) c.in_ok-m.ensures.measured in
    settled-done a.out.now a.ledger.now p c.has_room.ensures c.if-not-has_room.false c.draft_blocks.auto.out c.draft_blocks.auto.ledger
    c.requires.1 c.in_ok-m.ensures.written _ _ c.deliver.ensures
