use Rattle.text.proofs.Decimal.{digits-left-next, digits-left-end}
use Rattle.text.proofs.Outputs.{puts_as}
use Rattle.text.proofs.output.Output.put_decimal.Goals as goal

pub loop-m-preserved : goal.loop-m-preserved
loop-m-preserved c = digits-left-next c.low_byte.result c.loop-m.invariant c.loop-m-test.true c.low_byte.ensures

pub returns : goal.returns
returns c =
    puts_as (digits-left-end c.low_byte-2.result c.loop-m.invariant c.loop-m-test.false c.low_byte-2.ensures) c.put.ensures
