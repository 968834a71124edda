-- The invariant is `Filled`: what is to be stored for all rows is what stands and what is to be stored for those left. Offsets stay
-- small, as each row takes fewer than 131,072 bytes.
use mathlib.Core.Path.{◌≡◌}
use Prim.Native.Nat.{ℕ, ◌+◌, ◌*◌, ◌≤◌}
use lib.ListN.{length}
use Rattle.mitex_spec.proofs.Checking.{Filled}
use Rattle.mitex_spec.proofs.fill_index.Given as goal

abbrev pub invariant-loop-k : goal.invariant-loop-k
invariant-loop-k l =
    let left = l.k-iterator.iter in
    (left.size ≡ 8) × (l.at ≤ 131072 * l.k-iterator.count) × (8 * l.k-iterator.count + length left.rest.now ≤ length l.rows)
    × ((n : ℕ) → length l.rows ≡ 8 * n → Filled n l.rows l.initial.index l.index left.rest.now l.at l.k-iterator.count)
