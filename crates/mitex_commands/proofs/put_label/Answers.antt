-- The three texts one after the other.
use Rattle.text.proofs.Outputs.{puts_then}
use Rattle.mitex_commands.proofs.put_label.Goals as goal

pub returns : goal.returns
returns c = puts_then c.put.ensures (puts_then c.put-2.ensures c.put-3.ensures)
