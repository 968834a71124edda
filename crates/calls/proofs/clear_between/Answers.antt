-- `clear_between`: the zeros that fill the part are those that are stored (`cleared`).
use Rattle.calls.proofs.Splicing.{cleared}
use Rattle.calls.proofs.clear_between.Goals as goal

pub returns : goal.returns
returns c =
    let a = c.args in
    cleared a.out.now c.fill.new.self c.min.result a.from a.to c.min.ensures c.requires (c.fill.ensures.after (λ y e. e))
