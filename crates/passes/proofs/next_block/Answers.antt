-- `next_block`: the block at which the pass stands is an element of the rows, and what `convert_block` promises of it is promised here.
use Rattle.std.proofs.Common.{rules}
use Rattle.std.proofs.lemmas.Result.{err_from_is_err_and}
use native.Mathlib.Omega.{arith}
use Rattle.passes.proofs.Stepping.{next-spans, next-child, stepped-on, stepped-refused, rows_few, text-short, next-siblings, next-low, next-short}
use Rattle.passes.proofs.next_block.Goals as goal

pub span_at-span-requires : goal.span_at-span-requires
span_at-span-requires c = next-spans c.requires.blocks_given c.requires.i_in_bounds.0

pub overflow_add-i : goal.overflow_add-i
overflow_add-i c =
    let w = c.requires.blocks_given in
    let here = next-child w c.requires.i_in_bounds.0 _ _ c.span_at-span.ensures.rows c.span_at-span.ensures.text in
    omega (arith, here.end, rows_few w)

pub overflow_add-j : goal.overflow_add-j
overflow_add-j c =
    let w = c.requires.blocks_given in
    let here = next-child w c.requires.i_in_bounds.0 _ _ c.span_at-span.ensures.rows c.span_at-span.ensures.text in
    omega (arith, here.stop, text-short w)

pub slice_bounds-e-end : goal.slice_bounds-e-end
slice_bounds-e-end c =
    let here = next-child c.requires.blocks_given c.requires.i_in_bounds.0 _ _ c.span_at-span.ensures.rows c.span_at-span.ensures.text in
    omega (arith, here.end)

pub slice_bounds-e-end-2 : goal.slice_bounds-e-end-2
slice_bounds-e-end-2 c =
    let here = next-child c.requires.blocks_given c.requires.i_in_bounds.0 _ _ c.span_at-span.ensures.rows c.span_at-span.ensures.text in
    omega (arith, here.stop)

pub invariant_of-e : goal.invariant_of-e
invariant_of-e c =
    let w = c.requires.blocks_given in
    let h = c.requires.i_in_bounds.0 in
    let rows = c.span_at-span.ensures.rows in
    let text = c.span_at-span.ensures.text in
    record {
      low = next-low w h _ _ rows text;
      short = next-short w h _ _ rows text;
      spelt = ∣ next-siblings w h _ _ rows text ∣₁;
    }

pub convert_block-requires-clause-some_tree : goal.convert_block-requires-clause-some_tree
convert_block-requires-clause-some_tree c =
    (next-child c.requires.blocks_given c.requires.i_in_bounds.0 _ _ c.span_at-span.ensures.rows c.span_at-span.ensures.text).given

pub returns-in_err-convert_block : goal.returns-in_err-convert_block
returns-in_err-convert_block c w t g is =
    let p = err_from_is_err_and c.from_residual.result c.from_residual.ensures.1 in
    rw (p.1, p.2)
    (stepped-refused w t g is _ _ c.span_at-span.ensures.rows c.span_at-span.ensures.text _ c.in_err-convert_block.ensures.converts)

pub returns : goal.returns
returns c w t g is =
    stepped-on w t g is _ _ c.span_at-span.ensures.rows c.span_at-span.ensures.text (search rules) c.in_ok-convert_block.ensures.converts
