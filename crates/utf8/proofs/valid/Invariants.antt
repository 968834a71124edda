-- One-byte characters are valid text. Otherwise, the invariant: what is left leads from the present state to where the whole text
-- leads from its start.
use mathlib.Core.Path.{◌≡◌}
use lib.ListN.{drop}
use Rattle.utf8.specs.Utf8.{whole, char_steps}
use Rattle.utf8.proofs.valid.Given as goal

abbrev pub invariant-loop-b : goal.invariant-loop-b
invariant-loop-b l = char_steps l.u (drop l.b-index l.s) ≡ char_steps whole l.s
