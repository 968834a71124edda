-- `mitex_loops::steady_run` meets its contract: the child at k, of the elements that the rows are, and how the run goes on over it.
use mathlib.Core.Path.{sym, ◌∙◌}
use native.Mathlib.Omega.{arith}
use Rattle.mitex_loops.proofs.Steady.{run-start, run_on}
use Rattle.mitex_loops.proofs.steady_run.Goals as goal

pub loop-k-init : goal.loop-k-init
loop-k-init c = (omega arith, λ f e s. run-start _ f)

pub span_at-s-requires : goal.span_at-s-requires
span_at-s-requires c =
    let g = c.requires in
    (run_on g.rows_are (c.loop-k.invariant.1 g.forest g.rows_are g.short) c.loop-k-test.true g.few g.short).here.spans

pub overflow_add-k : goal.overflow_add-k
overflow_add-k c =
    let g = c.requires in
    let h = (run_on g.rows_are (c.loop-k.invariant.1 g.forest g.rows_are g.short) c.loop-k-test.true g.few g.short).here in
    omega (arith, h.inside, h.extent, c.span_at-s.ensures.rows, g.few)

pub overflow_add-n : goal.overflow_add-n
overflow_add-n c =
    let g = c.requires in
    let o = run_on g.rows_are (c.loop-k.invariant.1 g.forest g.rows_are g.short) c.loop-k-test.true g.few g.short in
    omega (arith, o.fits, o.here.sum, c.span_at-s.ensures.text, g.short)

pub loop-k-preserved : goal.loop-k-preserved
loop-k-preserved c =
    let g = c.requires in
    let h = (run_on g.rows_are (c.loop-k.invariant.1 g.forest g.rows_are g.short) c.loop-k-test.true g.few g.short).here in
    let steady = sym c.is_steady.ensures ∙ c.if-is_steady.true in
    let e = c.span_at-s.ensures.rows in
    let n = c.span_at-s.ensures.text in
    (omega (arith, h.inside, h.extent, e), λ f p s. (run_on p (c.loop-k.invariant.1 f p s) c.loop-k-test.true g.few s).on steady _ _ e n)
