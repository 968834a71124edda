-- `mitex_images::without_end` meets its contract: the ending is cut once more (`without-once`), or there is none.
use mathlib.Core.Path.{sym, ap, ◌∙◌}
use Rattle.mitex_meaning.specs.Images.{without_end}
use Rattle.mitex_images.proofs.Endings.{without-once, without-done, ends-so}
use Rattle.mitex_images.proofs.without_end.Goals as goal

pub loop-rest-preserved : goal.loop-rest-preserved
loop-rest-preserved c =
    let p = c.args.p.now in
    let v = c.loop-rest.t.now in
    let e = c.in-Some.ensures.cases in
    ap (without_end p) e.1 ∙ without-once p c.requires v (sym (ends-so p c.requires v) ∙ e.0) ∙ c.loop-rest.invariant

pub returns : goal.returns
returns c =
    let p = c.args.p.now in
    let v = c.loop-rest.t.now in
    without-done p c.requires v (sym (ends-so p c.requires v) ∙ c.in_default.ensures.cases) ∙ c.loop-rest.invariant
