-- The four texts one after the other.
use Rattle.text.proofs.Outputs.{puts_then}
use Rattle.mitex_colors.proofs.put_color_head.Goals as goal

pub returns : goal.returns
returns c = λ name. puts_then (c.put_color_name.ensures name) (puts_then c.put.ensures (puts_then c.put_model.ensures c.put-2.ensures))
