-- The invariant is `RulesLeft`: the answer for all rows is that for the rows that are left, after the last name; and what is left of
-- a text whose characters have one byte each is such a text.
use mathlib.Core.Path.{◌≡◌}
use mathlib.Core.Bool.{true}
use Prim.Native.Nat.{ℕ, ◌*◌}
use lib.ListN.{length}
use Rattle.utf8.specs.Utf8.{one_byte_each}
use Rattle.mitex_spec.specs.LookUp.{lent}
use Rattle.mitex_spec.proofs.Checking.{RulesLeft}
use Rattle.mitex_spec.proofs.rules_fit.Given as goal

abbrev pub invariant-loop-row : goal.invariant-loop-row
invariant-loop-row l =
    (l.row-iterator.size ≡ 8) × (l.plain ≡ true → one_byte_each l.rest ≡ true)
    × ((n : ℕ) → length l.rows ≡ 8 * n → RulesLeft n l.rows l.text (lent l.last) l.row-iterator.rest.now l.rest)
