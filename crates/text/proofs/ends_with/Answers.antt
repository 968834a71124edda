use Rattle.std.proofs.Common.{◌∙◌}
use Rattle.text.proofs.Compare.{ends-is}
use Rattle.text.proofs.ends_with.Goals as goal

pub returns : goal.returns
returns c = c.ends_with.ensures.value ∙ ends-is c.args.s.now c.args.p.now
