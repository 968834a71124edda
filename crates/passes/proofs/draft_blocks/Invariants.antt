-- `draft_blocks`: the pass has come to the standing s (`Drafted`); the measure is the blocks left.
use Prim.Native.Nat.{◌-◌}
use Rattle.passes.proofs.Drafting.{Drafted}
use Rattle.passes.proofs.draft_blocks.Given as goal

abbrev pub invariant-loop-s : goal.invariant-loop-s
invariant-loop-s l =
    Drafted l.d.rules.file.now l.d.rules.index.now l.d.rows.now l.d.text.now l.initial.s l.blocks l.initial.out l.initial.ledger l.s l.out
    l.ledger

abbrev pub decreases-loop-s : goal.decreases-loop-s
decreases-loop-s l = l.blocks - l.s.block
