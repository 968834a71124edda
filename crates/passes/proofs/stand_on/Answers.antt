use mathlib.Core.Path.{refl}
use native.Mathlib.Omega.{arith}
use Rattle.passes.proofs.Reaching.{reaches-low, reaches-begun, reaches-spans, reaches-next, reaches-stands}
use Rattle.passes.proofs.stand_on.Goals as goal

pub span_at-span-requires : goal.span_at-span-requires
span_at-span-requires c = reaches-spans c.requires.some_blocks c.loop.invariant c.loop-test.true

pub overflow_add-i : goal.overflow_add-i
overflow_add-i c =
    let g = c.requires.some_blocks in
    let said = c.span_at-span.ensures in
    omega (arith, reaches-low g (reaches-next g c.loop.invariant c.loop-test.true said.rows said.text))

pub overflow_add-j : goal.overflow_add-j
overflow_add-j c =
    let g = c.requires.some_blocks in
    let said = c.span_at-span.ensures in
    omega (arith, reaches-begun g (reaches-next g c.loop.invariant c.loop-test.true said.rows said.text))

pub loop-preserved : goal.loop-preserved
loop-preserved c =
    let said = c.span_at-span.ensures in
    reaches-next c.requires.some_blocks c.loop.invariant c.loop-test.true said.rows said.text

pub returns : goal.returns
returns c = reaches-stands c.loop.invariant (omega arith) refl refl refl
