-- `mitex_tables::put_vlines` meets its contract: one letter more, which is a column, a line or another.
use mathlib.Core.Path.{refl, sym, ◌∙◌}
use native.Mathlib.Omega.{arith}
use Rattle.text.proofs.Outputs.{puts_nil}
use Rattle.mitex_meaning.specs.Tables.{columns, vlines}
use Rattle.mitex_tables.proofs.Letters.{line-column, line-line, line-other}
use Rattle.mitex_tables.proofs.put_vlines.Goals as goal
use Rattle.mitex_tables.proofs.put_vlines.Goals.{then-is_column, else-is_column+then-b-eq-LINE, else-is_column+else-b-eq-LINE}

pub loop-b-init : goal.loop-b-init
unfolding vlines columns
loop-b-init c = record { few = omega arith; counted = refl; written = puts_nil }

pub loop-b-preserved : goal.loop-b-preserved
loop-b-preserved c =
    let s = c.args.letters.now in
    let b = sym c.is_column.ensures in
    elim c.if-is_column.branch [
      | then-is_column w ↦ rw (w.n-is, w.out-is) (line-column s _ c.loop-b-test.true c.loop-b.invariant (b ∙ w.if-is_column.true))
      | else-is_column+then-b-eq-LINE w ↦
          rw (w.n-is, w.out-is) (line-line s _ c.loop-b-test.true c.loop-b.invariant (b ∙ w.if-is_column.false) w.if-b-eq-LINE.true w.put_vline.ensures)
      | else-is_column+else-b-eq-LINE w ↦
          rw (w.n-is, w.out-is) (line-other s _ c.loop-b-test.true c.loop-b.invariant (b ∙ w.if-is_column.false) w.if-b-eq-LINE.false)
    ]
