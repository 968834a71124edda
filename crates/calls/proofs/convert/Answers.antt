-- `convert`: a refusal of the checks is handed on (`converts-shut`); else the call is that over the document's blocks (`opened-converts`).
use Rattle.std.proofs.lemmas.Result.{err_from_is_err_and}
use Rattle.calls.proofs.Files.{opened-converts, converts-shut}
use Rattle.calls.proofs.convert.Goals as goal

pub returns-in_err-d : goal.returns-in_err-d
returns-in_err-d c =
    let e = err_from_is_err_and c.from_residual.result c.from_residual.ensures.1 in
    rw (e.1, e.2) (converts-shut c.args.mode c.args.rules.now c.args.tree.now c.in_err-d.ensures)

pub returns : goal.returns
returns c = opened-converts c.in_ok-d.ensures c.convert_blocks.result c.convert_blocks.ensures
