-- `replace_all`: a refusal of the checks is handed on (`alters-shut`); else the call is that over the document's blocks (`opened-changes`).
use Rattle.std.proofs.lemmas.Result.{err_from_is_err_and}
use Rattle.edit_meaning.specs.Changes.Kind.{replace_all}
use Rattle.calls.proofs.Files.{opened-changes, alters-shut}
use Rattle.calls.proofs.replace_all.Goals as goal

pub returns-in_err-d : goal.returns-in_err-d
returns-in_err-d c =
    let e = err_from_is_err_and c.from_residual.result c.from_residual.ensures.1 in
    rw (e.1, e.2) (alters-shut c.args.mode c.args.rules.now c.args.tree.now c.in_err-d.ensures)

pub returns : goal.returns
returns c = opened-changes c.in_ok-d.ensures c.replace_blocks.result (replace_all c.args.named.now) c.replace_blocks.ensures
