-- The recursion goes over the stretches of the plan; a call exchanges the first, with those after it exchanged on the way (`exchanged`).
-- The measure is the length of the plan.
use lib.ListN.{length}
use Rattle.stretches.proofs.+exchange_from.Given as goal

abbrev pub decreases-exchange_from : goal.decreases-exchange_from
decreases-exchange_from l = length l.plan.now
