-- A writer between two steps: the file so far, the row of the innermost open node, and the length of the buffer from the first accepted
-- step on. A writer that no steps can have left, or a buffer of another length, gets 16.
use Rattle.std.specs.Prelude.{Bool, true, false, ◌&&◌, not, cond, List, ℕ, ◌+◌, ◌-◌, length, eqb, leb, ltb}
use Rattle.text.specs.Trailer.{file_most}
use Rattle.tree_file.specs.Layout.{blocks_most}
use Rattle.tree_file.specs.Depth.{depth_most}
use Rattle.tree_writer.specs.Steps.{Step}
use Rattle.tree_writer.specs.SoFar.{SoFar, size_with, step_answer, out_of_place}
use Rattle.tree_writer.specs.declared.Writer.{Writer}

-- nothing was written yet
abbrev pub new_writer : Writer
new_writer = record { finished = false; rows = 0; text = 0; blocks = 0; depth = 0; inner = 0; room = 0 }

abbrev pub so_far : Writer → SoFar
so_far w = record { finished = w.finished; rows = w.rows; text = w.text; blocks = w.blocks; depth = w.depth }

-- ---- writers that steps can have left

abbrev pub is_new : Writer → Bool
is_new w =
    not w.finished && (eqb w.text 0 && (eqb w.blocks 0 && (eqb w.depth 0 && (eqb w.inner 0 && eqb w.room 0))))

-- within the limits of 3, 4 and 15
abbrev pub within_limits : Writer → Bool
within_limits w =
    leb (size_with w.text w.rows) file_most && (leb (size_with w.text w.rows) w.room && (leb w.blocks blocks_most
    && leb w.depth depth_most))

-- text is that of a row which is neither the root nor open
abbrev pub text_fits : Writer → Bool
text_fits w = cond (eqb w.text 0) true (ltb 1 w.rows && ltb w.depth w.rows)

-- n rows can be c blocks
abbrev pub can_be : (c n : ℕ) → Bool
can_be c n = leb c n && cond (eqb c 0) (eqb n 0) true

-- at most the root is open: the other rows are those of the blocks
abbrev pub at_root : Writer → Bool
at_root w = eqb w.inner 0 && can_be w.blocks (w.rows - 1)

-- a block is open, and with it the nodes down to the innermost: before that lie the root, the other blocks, and the open nodes around it;
-- just the root where it is the first block itself
abbrev pub block_stands : Writer → Bool
block_stands w =
    leb (w.blocks + (w.depth - 2)) w.inner && cond (eqb w.depth 2 && eqb w.blocks 1) (eqb w.inner 1) true

-- no row lies under the innermost node where that is as deep as a row may lie
abbrev pub deepest_fits : Writer → Bool
deepest_fits w = cond (eqb w.depth depth_most) (eqb w.rows (w.inner + 1)) true

abbrev pub in_block : Writer → Bool
in_block w = leb 1 w.blocks && (ltb w.inner w.rows && (block_stands w && deepest_fits w))

abbrev pub opened_fits : Writer → Bool
opened_fits w = cond (leb w.depth 1) (at_root w) (in_block w)

-- finished only with the root closed
abbrev pub finished_fits : Writer → Bool
finished_fits w = cond w.finished (eqb w.depth 0) true

unfoldable pub possible : Writer → Bool
possible w =
    cond (eqb w.rows 0) (is_new w)
    (within_limits w && (text_fits w && (opened_fits w && finished_fits w)))

-- ---- the answer to a step

-- the buffer is as long as it was at the first accepted step
abbrev pub same_room : Writer → List ℕ → Bool
same_room w b = cond (eqb w.rows 0) true (eqb (length b) w.room)

-- a step may be tried; `placed` says whether it is in its place
abbrev pub may_step : Writer → List ℕ → Bool → Bool
may_step w b placed = (possible w && same_room w b) && (not w.finished && placed)

unfoldable pub answer_step : Writer → List ℕ → Step → ℕ
answer_step w b s = cond (possible w && same_room w b) (step_answer (length b) (so_far w) s) out_of_place
