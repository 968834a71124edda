-- What `copy_within` leaves is the buffer with the part stored at its new place (`copied-sets`).
use mathlib.Core.Path.{◌∙◌}
use Rattle.text.proofs.Writing.{copied-sets}
use Rattle.text.proofs.move_bytes.Goals as goal

pub returns : goal.returns
returns c =
    c.copy_within.ensures.after ∙ copied-sets c.args.out.now c.args.old c.args.new c.args.n c.requires.0 c.requires.1
