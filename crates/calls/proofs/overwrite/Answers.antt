-- `overwrite`: each step stores one run of bytes, and the six together are what the definition says (`overwrote`).
use native.Mathlib.Omega.{arith}
use Rattle.ledger.proofs.Fitting.{fits-long}
use Rattle.calls.proofs.Splicing.{after-within, after-many, old-kept, after-movable, pieced, overwrote}
use Rattle.calls.proofs.overwrite.Goals as goal

pub overflow_sub-kept : goal.overflow_sub-kept
overflow_sub-kept c = let y = c.requires.roomy in omega (arith, old-kept c.requires.measured y.starts y.ends)

pub move_bytes-requires : goal.move_bytes-requires
move_bytes-requires c =
    let w = c.requires.measured in
    let y = c.requires.roomy in
    (omega (arith, old-kept w y.starts y.ends, w.inside), y.text)

pub move_rows-requires : goal.move_rows-requires
move_rows-requires c =
    let w = c.requires.measured in
    let y = c.requires.roomy in (
      after-within w y.starts y.ends,
      fits-long _ _ _ w.fitting,
      after-movable w y.starts y.ends y.small,
    )

pub shift_rows-requires : goal.shift_rows-requires
shift_rows-requires c =
    let w = c.requires.measured in
    let y = c.requires.roomy in (
      after-within w y.starts y.ends,
      omega (arith, c.move_rows.auto.ledger, fits-long _ _ _ w.fitting),
      omega (arith, c.move_rows.auto.ledger, after-many w y.starts y.ends, y.rows),
    )

pub write_blocks-requires-clause-pieced : goal.write_blocks-requires-clause-pieced
write_blocks-requires-clause-pieced c =
    let w = c.requires.measured in
    let y = c.requires.roomy in
    pieced w y.starts y.ends (omega (arith, y.small)) _ (omega (arith, c.shift_rows.auto.ledger, c.move_rows.auto.ledger, y.rows))

pub overflow_sub-kept-2 : goal.overflow_sub-kept-2
overflow_sub-kept-2 c = let y = c.requires.roomy in omega (arith, old-kept c.requires.measured y.starts y.ends)

pub clear_between-requires-2 : goal.clear_between-requires-2
clear_between-requires-2 c =
    omega (arith, c.write_blocks.auto.ledger, c.shift_rows.auto.ledger, c.move_rows.auto.ledger, fits-long _ _ _ c.requires.measured.fitting)

pub returns : goal.returns
returns c w =
    let y = c.requires.roomy in
    overwrote w y.starts y.ends (omega (arith, y.small)) y.text y.rows c.move_bytes.ensures c.move_rows.ensures c.shift_rows.ensures
    (c.write_blocks.ensures
    (pieced w y.starts y.ends (omega (arith, y.small)) _ (omega (arith, c.shift_rows.auto.ledger, c.move_rows.auto.ledger, y.rows))))
    c.clear_between.ensures c.clear_between-2.ensures
