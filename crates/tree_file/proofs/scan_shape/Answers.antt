use mathlib.Core.Path.{◌∙◌}
use Rattle.tree_file.proofs.Shapes.{handed-on}
use Rattle.tree_file.proofs.Scanning.{shape-scan-start, shape-scan-breaks, shape-scan-end}
use Rattle.tree_file.proofs.scan_shape.Goals as goal

pub loop-l-init : goal.loop-l-init
loop-l-init c = shape-scan-start c.requires

pub returns-in_err-s : goal.returns-in_err-s
returns-in_err-s c =
    let r = c.in_err-s.field-0.0 in
    λ u sp.
    handed-on c.from_residual.result r c.from_residual.ensures.1
    ∙ shape-scan-breaks c.loop-l.invariant c.pass_row.result r c.pass_row.ensures c.in_err-s.was u sp

pub returns : goal.returns
returns c = λ u sp. shape-scan-end c.loop-l.invariant c.loop-l-test.false u sp
