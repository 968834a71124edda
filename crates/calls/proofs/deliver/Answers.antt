-- `deliver`: a writing pass writes the pieces, and so does the copy of a draft that holds them (`delivered`).
use Rattle.calls.proofs.Delivering.{delivered}
use Rattle.calls.proofs.deliver.Goals as goal

pub returns : goal.returns
returns c = λ w. delivered w c.if-draft-at.false c.copy_bytes.ensures c.copy_bytes-2.ensures
