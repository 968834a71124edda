-- `mitex_tables::put_vline` meets its contract: the texts one after the other.
use Rattle.std.proofs.Common.{rules}
use Rattle.text.proofs.Outputs.{puts_then}
use Rattle.mitex_tables.proofs.put_vline.Goals as goal

pub returns : goal.returns
returns c = search (rules, puts_then)
