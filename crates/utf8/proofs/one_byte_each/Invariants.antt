-- The greatest byte so far and what is left decide.
use mathlib.Core.Path.{◌≡◌}
use mathlib.Core.Bool.{◌&&◌}
use lib.Dec.{leb}
use lib.ListN.{drop}
use Rattle.utf8.specs.Utf8.{one_byte_each}
use Rattle.utf8.proofs.one_byte_each.Given as goal

abbrev pub invariant-loop-b : goal.invariant-loop-b
invariant-loop-b l = one_byte_each l.s ≡ (leb l.most 0x7F && one_byte_each (drop l.b-index l.s))
