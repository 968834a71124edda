-- `edit` is the change `Replace`, and what that gives is what Edit gives (`alters-edit`).
use Rattle.edit_meaning.proofs.ChangeCalls.{alters-edit}
use Rattle.calls.proofs.edit.Goals as goal

pub returns : goal.returns
returns c = alters-edit c.change.ensures
