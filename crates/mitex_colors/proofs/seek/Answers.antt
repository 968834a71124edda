use mathlib.Core.Path.{sym, ◌∙◌}
use Rattle.mitex_meaning.specs.Colors.{rest}
use Rattle.mitex_colors.proofs.Scans.{some_left, is-none, is-some, first-passed-far, scan-end, scan-found, scan-again}
use Rattle.mitex_colors.proofs.seek.Goals as goal

-- by where the scan of the elements that are given has come to
pub loop-stop-smaller : goal.loop-stop-smaller
loop-stop-smaller c =
    let all = c.args.elements.some in
    let now = c.loop-stop.rest.some in
    let here = c.loop-stop.invariant _ (rest 0 all.forest) (some_left all) in
    let l = here.moved.there in
    first-passed-far here.now l (is-some (sym c.is_empty.ensures ∙ c.loop-stop-test.true)) now.few now.short (c.past_child-rest.ensures _ here.now l)

pub loop-stop-preserved : goal.loop-stop-preserved
loop-stop-preserved c =
    λ tail s l.
    let w = c.loop-stop.invariant tail s l in
    scan-again c.args.stop w (is-some (sym c.is_empty.ensures ∙ c.loop-stop-test.true)) c.stops.ensures c.if-not-stops.true
    (c.past_child-rest.ensures tail w.now w.moved.there)

pub returns-else-not-stops : goal.returns-else-not-stops
returns-else-not-stops c =
    λ tail s l.
    scan-found c.args.stop (c.loop-stop.invariant tail s l) (is-some (sym c.is_empty.ensures ∙ c.loop-stop-test.true)) c.stops.ensures
    c.if-not-stops.false

pub returns-after-loop-stop : goal.returns-after-loop-stop
returns-after-loop-stop c =
    λ tail s l. scan-end c.args.stop (c.loop-stop.invariant tail s l) (is-none (sym c.is_empty.ensures ∙ c.loop-stop-test.false))
