-- The one fact that is left: the text of an accepted conversion lies within its buffer (`converted-inside`).
use mathlib.Core.Path.{sym, ap}
use lib.Seq.{length-take-le}
use Rattle.calls.specs.Calls.{answer_of_convert}
use Rattle.program.proofs.Inside.{converted-inside}
use Rattle.program.proofs.convert.Goals as goal

pub slice_bounds-text-end : goal.slice_bounds-text-end
slice_bounds-text-end g c = converted-inside c.convert.ensures (ap answer_of_convert c.in-Ok.is)

pub slice_bounds-write_all-end : goal.slice_bounds-write_all-end
slice_bounds-write_all-end g c = sym (length-take-le _ _ (converted-inside c.convert.ensures (ap answer_of_convert c.in-Ok.is)))
