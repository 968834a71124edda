-- `write_blocks`: whatever pieces the pass was given, those that are left are given again (`BlocksLeft`); the measure is the blocks left.
use Prim.Native.Nat.{◌-◌}
use Rattle.passes.specs.Passes.{Pieced}
use Rattle.passes.proofs.Rewriting.{BlocksLeft}
use Rattle.passes.proofs.write_blocks.Given as goal

abbrev pub invariant-loop-s : goal.invariant-loop-s
invariant-loop-s l =
    (w : Pieced l.d.rules.file.now l.d.rules.index.now l.d.rows.now l.d.text.now l.initial.s l.to l.initial.ledger)
    → BlocksLeft w l.initial.out l.s l.out l.ledger

abbrev pub decreases-loop-s : goal.decreases-loop-s
decreases-loop-s l = l.to - l.s.block
