-- What is left of rows and text decides (`LinesLeft`): of the rows, what the chunks have left.
use mathlib.Core.Path.{◌≡◌}
use Prim.Native.Nat.{ℕ, ◌*◌}
use mathlib.Core.Bool.{true}
use lib.ListN.{length}
use Rattle.std.specs.Slice.Iter.{chunks_exact_rest, chunks_exact_size}
use Rattle.utf8.specs.Utf8.{one_byte_each}
use Rattle.tree_file.proofs.Runs.{LinesLeft}
use Rattle.tree_file.proofs.lines_fit.Given as goal

abbrev pub invariant-loop-row : goal.invariant-loop-row
invariant-loop-row l = record {
  eight : chunks_exact_size l.row-iterator ≡ 8;
  plain : l.plain ≡ true → one_byte_each l.left ≡ true;
  left : (n : ℕ) → length l.rows ≡ 8 * n → LinesLeft n l.rows l.text (chunks_exact_rest l.row-iterator) l.left;
}
