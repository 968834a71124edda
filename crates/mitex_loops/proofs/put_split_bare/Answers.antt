-- `mitex_loops::put_split_bare` meets its contract: the texts one after the other.
use Rattle.std.proofs.Common.{rules}
use Rattle.text.proofs.Outputs.{puts_then}
use Rattle.mitex_loops.proofs.put_split_bare.Goals as goal

pub returns : goal.returns
returns c = search (rules, puts_then)
