use mathlib.Core.Path.{sym, ap, ◌∙◌}
use mathlib.Core.Bool.{◌&&◌, and-true}
use lib.Dec.{leb}
use Rattle.utf8.proofs.Texts.{one-next, one_end}
use Rattle.utf8.proofs.one_byte_each.Goals as goal

pub loop-b-preserved : goal.loop-b-preserved
loop-b-preserved c =
    let loop = c.loop-b in
    loop.invariant ∙ one-next c.args.s.now loop.b-index loop.most c.max-most.result c.loop-b-test.true c.max-most.ensures

pub returns : goal.returns
returns c =
    let loop = c.loop-b in
    sym (loop.invariant ∙ ap (λ b. leb loop.most 0x7F && b) (one_end c.args.s.now loop.b-index c.loop-b-test.false) ∙ and-true _)
