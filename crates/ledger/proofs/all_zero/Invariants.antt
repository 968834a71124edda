-- The invariant: the bytes are all zero if those seen are, and those that are left.
use mathlib.Core.Path.{◌≡◌}
use mathlib.Core.Bool.{◌&&◌}
use lib.ListN.{drop}
use Rattle.ledger.specs.Ledger.{all_zero}
use Rattle.ledger.proofs.all_zero.Given as goal

abbrev pub invariant-loop-b : goal.invariant-loop-b
invariant-loop-b l = all_zero l.s ≡ (l.zero && all_zero (drop l.b-index l.s))
