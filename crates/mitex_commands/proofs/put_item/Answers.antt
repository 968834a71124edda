-- The four texts one after the other.
use mathlib.Core.Path.{ap}
use Rattle.text.specs.Writing.{spaces}
use Rattle.text.proofs.Outputs.{puts_then, puts_as}
use Rattle.mitex_commands.proofs.put_item.Goals as goal

pub returns : goal.returns
returns c =
    puts_then c.put.ensures
    (puts_then (puts_as (ap spaces c.saturating_sub.ensures) c.put_spaces.ensures) (puts_then c.put_byte.ensures c.put-2.ensures))
