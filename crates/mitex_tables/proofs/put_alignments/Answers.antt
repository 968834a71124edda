-- `mitex_tables::put_alignments` meets its contract: one letter more.
use mathlib.Core.Path.{sym}
use Rattle.text.proofs.Outputs.{puts_nil, puts_then, puts_as}
use Rattle.mitex_meaning.specs.Tables.{alignments}
use Rattle.mitex_tables.proofs.Letters.{alignments-more}
use Rattle.mitex_tables.proofs.put_alignments.Goals as goal

pub loop-b-init : goal.loop-b-init
unfolding alignments
loop-b-init c = puts_nil

pub loop-b-preserved : goal.loop-b-preserved
loop-b-preserved c =
    puts_as (sym (alignments-more c.args.letters.now c.loop-b.b-index c.loop-b-test.true)) (puts_then c.loop-b.invariant c.put_alignment.ensures)
