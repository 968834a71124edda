-- `plan_stretches`: after each turn the plan is that of the named blocks passed (`PlanSoFar`).
use mathlib.Core.Path.{◌≡◌}
use lib.ListN.{length}
use Rattle.passes.specs.Passes.{Document}
use Rattle.stretches.specs.Plans.{plan_size, PlanStands}
use Rattle.stretches.proofs.Planning.{PlanSoFar}
use Rattle.stretches.proofs.plan_stretches.Given as goal

abbrev pub invariant-loop-k : goal.invariant-loop-k
invariant-loop-k l =
    PlanStands l.d.content.rows.now l.d.blocks l.s
    × (length l.plan ≡ plan_size)
    × ((w : Document l.d.content.rules.file.now l.d.content.rules.index.now l.d.content.rows.now l.d.content.text.now l.d.blocks)
    → PlanSoFar w l.d.mode l.ledger l.named l.k-index l.s l.plan)
