-- The file so far, by numbers: how many rows, bytes of text and blocks were written, how many nodes are open, and whether the file is
-- finished. The answer to a step goes by these and by the buffer's length: 16, then 3, then 4, then 15.
use Rattle.std.specs.Prelude.{Bool, true, false, ◌&&◌, ◌||◌, not, cond, List, [], ◌∷◌, ℕ, ◌+◌, ◌*◌, ◌-◌, length, eqb, leb, ltb}
use Rattle.text.specs.Trailer.{file_most}
use Rattle.mitex_syntax.specs.Syntax.{ScopeRoot, is_node}
use Rattle.mitex_syntax.specs.Spells.{token_fits}
use Rattle.tree_file.specs.Layout.{blocks_most}
use Rattle.tree_file.specs.Depth.{depth_most}
use Rattle.tree_file.specs.Check.{bad_layout, too_deep}
use Rattle.tree_writer.specs.Steps.{Step, opens_node, adds_token, closes_node, finishes}

pub record SoFar : Type 0 where
  pub finished : Bool
  pub rows : ℕ
  pub text : ℕ
  pub blocks : ℕ
  pub depth : ℕ

-- the empty start
abbrev pub nothing_yet : SoFar
nothing_yet = record { finished = false; rows = 0; text = 0; blocks = 0; depth = 0 }

-- the bytes of so much text and so many rows, trailer counted
abbrev pub size_with : (text rows : ℕ) → ℕ
size_with text rows = text + 8 * rows + 8

-- the blocks with a row more: right under the root it is a block
abbrev pub blocks_with : (depth blocks : ℕ) → ℕ
blocks_with depth blocks = cond (eqb depth 1) (blocks + 1) blocks

-- ---- what a step adds

unfoldable pub with_step : SoFar → Step → SoFar
with_step f (opens_node k) =
    record { finished = f.finished; rows = f.rows + 1; text = f.text; blocks = blocks_with f.depth f.blocks; depth = f.depth + 1 }
with_step f (adds_token k s) =
    record { finished = f.finished; rows = f.rows + 1; text = f.text + length s; blocks = blocks_with f.depth f.blocks; depth = f.depth }
with_step f closes_node =
    record { finished = f.finished; rows = f.rows; text = f.text; blocks = f.blocks; depth = f.depth - 1 }
with_step f finishes =
    record { finished = true; rows = f.rows; text = f.text; blocks = f.blocks; depth = f.depth }

-- all of them, one after the other
unfoldable pub with_steps : SoFar → List Step → SoFar
with_steps f [] = f
with_steps f (s ∷ ss) = with_steps (with_step f s) ss

-- ---- the answer to a step

abbrev pub out_of_place : ℕ
out_of_place = 16

abbrev pub too_short : ℕ
too_short = 15

-- the root first, a ScopeRoot and the only one; tokens and closes where a node is open; the finish where the root is closed
abbrev pub is_in_place : SoFar → Step → Bool
is_in_place f (opens_node k) = is_node k && cond (eqb f.depth 0) (eqb f.rows 0 && eqb k ScopeRoot) true
is_in_place f (adds_token k s) = token_fits k s && leb 1 f.depth
is_in_place f closes_node = leb 1 f.depth
is_in_place f finishes = leb 1 f.rows && eqb f.depth 0

-- a file of so many bytes and blocks whose new row lies so deep, in a buffer of `room` bytes: 3, then 4, then 15, else 0
abbrev pub limit_passed : (room size blocks depth : ℕ) → ℕ
limit_passed room size blocks depth =
    cond (ltb file_most size || ltb blocks_most blocks) bad_layout (cond (ltb depth_most depth) too_deep (cond (ltb room size) too_short 0))

-- a row more with n bytes of text; a close and a finish add none
abbrev pub row_limit : ℕ → SoFar → ℕ → ℕ
row_limit room f n = limit_passed room (size_with (f.text + n) (f.rows + 1)) (blocks_with f.depth f.blocks) (f.depth + 1)

abbrev pub step_limit : ℕ → SoFar → Step → ℕ
step_limit room f (opens_node k) = row_limit room f 0
step_limit room f (adds_token k s) = row_limit room f (length s)
step_limit room f closes_node = 0
step_limit room f finishes = 0

-- 16 first, and for every step after the finish
unfoldable pub step_answer : ℕ → SoFar → Step → ℕ
step_answer room f s = cond (not f.finished && is_in_place f s) (step_limit room f s) out_of_place
