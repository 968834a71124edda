-- `measure`: who finishes from the standing s has finished from the start, for whatever the pass was given (`BlocksPassed`); the measure is
-- the blocks left.
use mathlib.Core.Bool.{true}
use Prim.Native.Nat.{◌-◌}
use Rattle.passes.specs.Passes.{BlocksUpTo}
use Rattle.passes.proofs.Measuring.{BlocksPassed}
use Rattle.passes.proofs.measure.Given as goal

abbrev pub invariant-loop-s : goal.invariant-loop-s
invariant-loop-s l =
    (w : BlocksUpTo l.d.rules.file.now l.d.rules.index.now l.d.rows.now l.d.text.now l.initial.s l.blocks)
    → BlocksPassed w l.was true l.kept l.s

abbrev pub decreases-loop-s : goal.decreases-loop-s
decreases-loop-s l = l.blocks - l.s.block
