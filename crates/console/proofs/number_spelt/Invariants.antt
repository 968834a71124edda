-- The invariant: what is left to read continues the number that was read so far.
use Rattle.std.proofs.Common.{◌≡◌}
use lib.ListN.{drop}
use Rattle.console.specs.Request.{number_from, number_spelt}
use Rattle.console.proofs.number_spelt.Given as goal

abbrev pub invariant-loop-x : goal.invariant-loop-x
invariant-loop-x l = number_spelt l.digits ≡ number_from l.n (drop l.x-index l.digits)
