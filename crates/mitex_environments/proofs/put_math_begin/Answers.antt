-- The three texts one after the other.
use Rattle.text.proofs.Outputs.{puts_then}
use Rattle.mitex_environments.proofs.put_math_begin.Goals as goal

pub returns : goal.returns
returns c = puts_then c.put_dollar_begin.ensures (puts_then c.put.ensures c.put-2.ensures)
