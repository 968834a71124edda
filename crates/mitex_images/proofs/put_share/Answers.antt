-- `mitex_images::put_share` meets its contract: what stands before the ending, then the rest of the sum.
use Rattle.text.proofs.Outputs.{puts_then, puts_as}
use Rattle.mitex_images.proofs.put_share.Goals as goal

pub returns : goal.returns
returns c = puts_then (puts_as c.without_end.ensures c.put.ensures) c.put-2.ensures
