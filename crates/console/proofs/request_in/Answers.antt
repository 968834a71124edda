-- The line ends before the first line feed; where there is none, it is all of the input.
use mathlib.Core.Path.{◌∙◌}
use native.Mathlib.Omega.{arith}
use lib.ListN.{length-take}
use Rattle.std.proofs.Common.{rules}
use Rattle.console.proofs.Lines.{index-inside, request-long, request-line}
use Rattle.console.proofs.request_in.Goals as goal

pub returns-then-end-ge-LINE_MOST : goal.returns-then-end-ge-LINE_MOST
returns-then-end-ge-LINE_MOST c = request-long _ (omega (arith, c.index_of-end.ensures, c.if-end-ge-LINE_MOST.true))

pub slice_bounds-line_request-end : goal.slice_bounds-line_request-end
slice_bounds-line_request-end c = search (rules, index-inside, c.index_of-end.ensures)

pub returns : goal.returns
returns c =
    let e = c.index_of-end.ensures in
    c.line_request.ensures ∙ request-line _ e (omega (arith, e, c.if-end-ge-LINE_MOST.false))
