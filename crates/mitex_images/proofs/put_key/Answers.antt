-- `mitex_images::put_key` meets its contract: the texts one after the other.
use mathlib.Core.Path.{sym, ◌∙◌}
use Rattle.text.proofs.Outputs.{puts_then}
use Rattle.mitex_images.proofs.put_key.Goals as goal

pub returns-then-is_size : goal.returns-then-is_size
returns-then-is_size c =
    rw (sym c.is_size.ensures ∙ c.if-is_size.true)
    (puts_then c.put.ensures (puts_then c.put-then-is_size.ensures (puts_then c.put_length.ensures c.put-then-is_size-2.ensures)))
