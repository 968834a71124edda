-- The text, then the indent.
use Rattle.text.proofs.Outputs.{puts_then}
use Rattle.mitex_tokens.proofs.put_break.Goals as goal

pub returns-clause-puts : goal.returns-clause-puts
returns-clause-puts c = puts_then c.put.ensures c.put_spaces.ensures
