use native.Mathlib.Omega.{arith}
use mathlib.Core.Path.{ap}
use mathlib.Core.Bool.{not}
use Rattle.ledger.proofs.Fitting.{fits-few, fits-start, fits-falls, fits_not, fits_next}
use Rattle.ledger.proofs.ledger_fits.Goals as goal

pub returns-then-ledger-blocks : goal.returns-then-ledger-blocks
returns-then-ledger-blocks c = fits-few _ _ _ c.if-ledger-blocks.true

pub loop-i-init : goal.loop-i-init
loop-i-init c = (omega arith, fits-start _ _ _ c.if-ledger-blocks.false)

pub returns-then-next-end : goal.returns-then-next-end
returns-then-next-end c = fits-falls _ _ _ _ _ c.loop-i.invariant.1 c.loop-i-test.true c.row_end-next.ensures.0 c.if-next-end.true

pub returns-then-not-row_fits : goal.returns-then-not-row_fits
returns-then-not-row_fits c =
    fits_not _ _ _ _ _ c.loop-i.invariant.1 c.loop-i-test.true c.row_end-next.ensures.0
    c.if-next-end.false c.row_fits.ensures (ap not c.if-not-row_fits.true)

pub loop-i-preserved : goal.loop-i-preserved
loop-i-preserved c = (
  omega arith,
  fits_next _ _ _ _ _ c.loop-i.invariant.1 c.loop-i-test.true c.row_end-next.ensures.0
      c.if-next-end.false c.row_fits.ensures (ap not c.if-not-row_fits.false),
)
