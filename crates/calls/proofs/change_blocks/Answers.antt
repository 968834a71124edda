-- `change_blocks`: the pass comes to the walk of the blocks converted again, and each answer is what that says.
use mathlib.Core.Path.{◌≡◌, sym, subst}
use mathlib.Core.Bool.{Bool, true}
use mathlib.Core.List.{List}
use Prim.Native.Nat.{ℕ, ◌<◌}
use native.Mathlib.Omega.{arith}
use Rattle.std.specs.Prelude.{Result}
use Rattle.std.proofs.lemmas.Result.{err_from_is_err_and}
use Rattle.text.specs.Writing.{cap}
use Rattle.refusals.specs.declared.Refusal.{Refusal}
use Rattle.mitex_meaning.specs.declared.Converter.{Converter}
use Rattle.edit_meaning.specs.Changes.{change_fits, old_count}
use Rattle.passes.specs.Passes.{EndsBefore, CarriesBefore, StandsBefore}
use Rattle.passes.specs.declared.open.OpenDocument.{OpenDocument}
use Rattle.passes.specs.declared.Standing.{Standing}
use Rattle.calls.specs.Calls.{kind_by, MeasuresAgain}
use Rattle.calls.specs.declared.Way.{Way}
use Rattle.passes.proofs.Starting.{some-blocks, blocks-begin}
use Rattle.calls.proofs.Again.{Fitting, fitting, MeasuredAgain, fitting-row, row_before, changed-unfit, changed-refused, change-measured, changed-as}
use Rattle.calls.proofs.change_blocks.Goals as goal

-- refusal 6 did not come
fits :
    (way : Way) (n was k kept : ℕ) (out ledger : List ℕ) {b : Bool} → b ≡ change_fits (kind_by way k) n kept out ledger → b ≡ true
    → ((j : ℕ) → was ≡ old_count (kind_by way j) n) → Fitting way n was k kept out ledger
fits way n was k kept out ledger e t o =
    subst (λ (x : ℕ). Fitting way n x k kept out ledger) (sym (o k)) (fitting way n k kept out ledger e t)

-- the pass stands before the named block, and has measured the blocks converted again
here :
    (d : OpenDocument) (way : Way) (k kept : ℕ) (out ledger : List ℕ) {b : Bool} {was at : ℕ} {converter : Converter} {from : Standing}
    {r : Result Standing Refusal} → b ≡ change_fits (kind_by way k) d.blocks kept out ledger → b ≡ true
    → ((j : ℕ) → was ≡ old_count (kind_by way j) d.blocks) → EndsBefore ledger k at × (at < cap) → CarriesBefore ledger k d.mode converter
    → StandsBefore d.content.rows.now k at converter from → MeasuresAgain d from was ledger r → MeasuredAgain d way k kept out ledger was from r
here d way k kept out ledger {was = was} e t o ends carries stands measured =
    let w = d.open in
    record {
      test = _;
      tested = e;
      fits_so = t;
      was_is = o k;
      at = _;
      converter = _;
      ends = ends.0;
      low = ends.1;
      carries = carries;
      stood = stands w.blocks _ w.spells (omega (arith, w.many, (fits way d.blocks was k kept out ledger e t o).now)) w.short;
      measured = measured;
    }

pub returns-then-not-change_fits : goal.returns-then-not-change_fits
returns-then-not-change_fits c =
    let a = c.args in
    rw c.no_row.ensures (changed-unfit a.d a.way a.block a.kept a.out.now a.ledger.now c.change_fits.ensures c.if-not-change_fits.true)

pub end_before-at-requires : goal.end_before-at-requires
end_before-at-requires c =
    let a = c.args in
    let f = fits a.way a.d.blocks c.old_count-was.result a.block a.kept a.out.now a.ledger.now c.change_fits.ensures
    c.if-not-change_fits.false c.old_count-was.ensures in
    λ h. (row_before f h).0

pub carry_before-requires : goal.carry_before-requires
carry_before-requires c =
    let a = c.args in
    let f = fits a.way a.d.blocks c.old_count-was.result a.block a.kept a.out.now a.ledger.now c.change_fits.ensures
    c.if-not-change_fits.false c.old_count-was.ensures in
    λ h. row_before f h

pub stand_at-from-requires : goal.stand_at-from-requires
stand_at-from-requires c =
    let a = c.args in
    some-blocks a.d.open a.block
    (fits a.way a.d.blocks c.old_count-was.result a.block a.kept a.out.now a.ledger.now c.change_fits.ensures
    c.if-not-change_fits.false c.old_count-was.ensures).now

pub measure_again-requires-clause-blocks_up_to : goal.measure_again-requires-clause-blocks_up_to
measure_again-requires-clause-blocks_up_to c =
    let a = c.args in
    let w = a.d.open in
    let f = fits a.way a.d.blocks c.old_count-was.result a.block a.kept a.out.now a.ledger.now c.change_fits.ensures
    c.if-not-change_fits.false c.old_count-was.ensures in
    let t = c.stand_at-from.ensures w.blocks _ w.spells (omega (arith, w.many, f.now)) w.short in
    blocks-begin w t (c.carry_before.ensures c.old_count-was.result f.before) (omega (arith, c.end_before-at.ensures.1)) f.now

pub measure_again-requires-clause-blocks_bound : goal.measure_again-requires-clause-blocks_bound
measure_again-requires-clause-blocks_bound c =
    let a = c.args in
    let w = a.d.open in
    let f = fits a.way a.d.blocks c.old_count-was.result a.block a.kept a.out.now a.ledger.now c.change_fits.ensures
    c.if-not-change_fits.false c.old_count-was.ensures in
    let t = c.stand_at-from.ensures w.blocks _ w.spells (omega (arith, w.many, f.now)) w.short in
    (omega (arith, f.near, t.block), omega (arith, f.few), fitting-row f)

pub returns-in_err-m : goal.returns-in_err-m
returns-in_err-m c =
    let a = c.args in
    let p = here a.d a.way a.block a.kept a.out.now a.ledger.now c.change_fits.ensures c.if-not-change_fits.false c.old_count-was.ensures
    c.end_before-at.ensures c.carry_before.ensures c.stand_at-from.ensures c.in_err-m.ensures in
    let e = err_from_is_err_and c.from_residual.result c.from_residual.ensures.1 in
    rw (e.1, e.2) (changed-refused a.d a.way a.block a.kept a.out.now a.ledger.now p)

pub splice-requires : goal.splice-requires
splice-requires c =
    let a = c.args in
    let p = here a.d a.way a.block a.kept a.out.now a.ledger.now c.change_fits.ensures c.if-not-change_fits.false c.old_count-was.ensures
    c.end_before-at.ensures c.carry_before.ensures c.stand_at-from.ensures c.in_ok-m.ensures in
    change-measured a.d a.way a.block a.kept a.out.now a.ledger.now p

pub returns : goal.returns
returns c =
    let a = c.args in
    let p = here a.d a.way a.block a.kept a.out.now a.ledger.now c.change_fits.ensures c.if-not-change_fits.false c.old_count-was.ensures
    c.end_before-at.ensures c.carry_before.ensures c.stand_at-from.ensures c.in_ok-m.ensures in
    changed-as a.d a.way a.block a.kept a.out.now a.ledger.now p
    (c.splice.ensures (change-measured a.d a.way a.block a.kept a.out.now a.ledger.now p))
