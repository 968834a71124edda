-- `mitex_tables::put_table_head` meets its contract: the parts one after the other.
use mathlib.Core.Path.{ap}
use Rattle.text.specs.Writing.{decimal}
use Rattle.text.proofs.Outputs.{puts_then, puts_as}
use Rattle.mitex_tables.proofs.put_table_head.Goals as goal

pub returns : goal.returns
returns c =
    let letters = puts_then c.put_alignments.ensures (puts_then c.put-3.ensures (puts_then c.put_vlines.ensures c.put-4.ensures)) in
    puts_then c.put.ensures (puts_then (puts_as (ap decimal c.columns.ensures.0) c.put_decimal.ensures) (puts_then c.put-2.ensures letters))
