-- `mitex_images::convert_command_includegraphics` meets its contract: the parts one after the other, with the texts of the two arguments.
use Rattle.text.proofs.Outputs.{puts_then, puts_as}
use Rattle.mitex_images.proofs.Splitting.{options-found}
use Rattle.mitex_images.proofs.convert_command_includegraphics.Goals as goal

pub returns : goal.returns
returns c =
    λ f sp.
    puts_then c.put.ensures
    (puts_then (puts_as (options-found f (c.found_argument.ensures f sp)) c.put_options.ensures)
    (puts_then c.put-2.ensures (puts_then (puts_as (c.found_argument-2.ensures f sp) c.put-3.ensures) c.put-4.ensures)))
