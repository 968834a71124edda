-- `stand_on`: i and j have reached the next block of whatever forest the rows spell (`Reaches`).
use Rattle.passes.specs.Passes.{Reaches}
use Rattle.passes.proofs.stand_on.Given as goal

abbrev pub invariant-loop : goal.invariant-loop
invariant-loop l = Reaches l.rows l.block l.counter l.i l.j
