-- When a step is accepted: a writer that steps can have left, the buffer as long as before, the step in its place and within the limits.
use mathlib.Core.Path.{◌≡◌, refl, ap, ◌∙◌}
use mathlib.Core.Bool.{Bool, true, false, ◌&&◌, ◌||◌, not, cond, and-eq-true_iff}
use mathlib.Core.List.{List}
use Prim.Native.Nat.{ℕ, ◌+◌, ◌≤◌}
use native.Mathlib.Omega.{arith}
use lib.ListN.{length}
use lib.Dec.{ltb}
use borrow.Author.Tests.{eq-eqb, ne_eqb, ltb-false, le-ltb, not-true}
use Rattle.text.specs.Trailer.{file_most}
use Rattle.tree_file.specs.Layout.{blocks_most}
use Rattle.tree_file.specs.Depth.{depth_most}
use Rattle.tree_file.specs.Check.{bad_layout, too_deep}
use Rattle.tree_writer.specs.Steps.{Step, opens_node, adds_token}
use Rattle.tree_writer.specs.SoFar.{SoFar, size_with, blocks_with, is_in_place, limit_passed, step_limit, step_answer, out_of_place, too_short}
use Rattle.tree_writer.specs.Writers.{so_far, possible, same_room, answer_step}
use Rattle.tree_writer.specs.Buffers.{step_done, step_refused, take_step}
use Rattle.tree_writer.specs.declared.Writer.{Writer}

-- ---- the limits

pub record LimitsKept (room size blocks depth : ℕ) : Type 0 where
  pub small : size ≤ file_most
  pub few : blocks ≤ blocks_most
  pub low : depth ≤ depth_most
  pub fits : size ≤ room

limits-by : (room size blocks depth : ℕ) (a b c d : Bool) → ltb file_most size ≡ a → ltb blocks_most blocks ≡ b → ltb depth_most depth ≡ c
    → ltb room size ≡ d → ◌≡◌ {A = ℕ} (cond (a || b) bad_layout (cond c too_deep (cond d too_short 0))) 0 → LimitsKept room size blocks depth
limits-by room size blocks depth true b c d ea eb ec ed e = absurd (omega arith)
limits-by room size blocks depth false true c d ea eb ec ed e = absurd (omega arith)
limits-by room size blocks depth false false true d ea eb ec ed e = absurd (omega arith)
limits-by room size blocks depth false false false true ea eb ec ed e = absurd (omega arith)
limits-by room size blocks depth false false false false ea eb ec ed e =
    record {
      small = ltb-false file_most size ea;
      few = ltb-false blocks_most blocks eb;
      low = ltb-false depth_most depth ec;
      fits = ltb-false room size ed;
    }

pub limits-kept : (room size blocks depth : ℕ) → limit_passed room size blocks depth ≡ 0 → LimitsKept room size blocks depth
limits-kept room size blocks depth e = limits-by room size blocks depth _ _ _ _ refl refl refl refl e

pub limits-none : (room size blocks depth : ℕ) → size ≤ file_most → blocks ≤ blocks_most → depth ≤ depth_most → size ≤ room
    → limit_passed room size blocks depth ≡ 0
limits-none room size blocks depth p q r s =
    ap (λ b. cond (b || ltb blocks_most blocks) bad_layout (cond (ltb depth_most depth) too_deep (cond (ltb room size) too_short 0))) (le-ltb file_most size p)
    ∙ ap (λ b. cond b bad_layout (cond (ltb depth_most depth) too_deep (cond (ltb room size) too_short 0))) (le-ltb blocks_most blocks q)
    ∙ ap (λ b. cond b too_deep (cond (ltb room size) too_short 0)) (le-ltb depth_most depth r) ∙ ap (λ b. cond b too_short 0) (le-ltb room size s)

-- ---- by the file so far

pub record StepAccepted (room : ℕ) (f : SoFar) (s : Step) : Type 0 where
  pub unfinished : f.finished ≡ false
  pub placed : is_in_place f s ≡ true
  pub within : step_limit room f s ≡ 0

pub step-says : (room : ℕ) (f : SoFar) (s : Step) → step_answer room f s ≡ 0 → StepAccepted room f s
unfolding step_answer
step-says room f s = go (not f.finished && is_in_place f s) refl
  where
    go : (t : Bool) → not f.finished && is_in_place f s ≡ t → cond t (step_limit room f s) out_of_place ≡ 0 → StepAccepted room f s
    go true p e =
        let a = (and-eq-true_iff (not f.finished) (is_in_place f s)).0 p in
        record { unfinished = not-true f.finished a.0; placed = a.1; within = e }
    go false p e = absurd (omega arith)

pub step-when : (room : ℕ) (f : SoFar) (s : Step) → f.finished ≡ false → is_in_place f s ≡ true → step_limit room f s ≡ 0 → step_answer room f s ≡ 0
unfolding step_answer
step-when room f s p q e =
    ap (λ x. cond (not x && is_in_place f s) (step_limit room f s) out_of_place) p ∙ ap (λ x. cond x (step_limit room f s) out_of_place) q ∙ e

-- ---- by the writer and the buffer

pub answer-possible : (w : Writer) (b : List ℕ) (s : Step) → possible w ≡ true → same_room w b ≡ true
    → answer_step w b s ≡ step_answer (length b) (so_far w) s
unfolding answer_step
answer-possible w b s p q =
    ap (λ x. cond (x && same_room w b) (step_answer (length b) (so_far w) s) out_of_place) p
    ∙ ap (λ x. cond x (step_answer (length b) (so_far w) s) out_of_place) q

-- the limits that an accepted row keeps
pub kept-open : (room : ℕ) (f : SoFar) (k : ℕ) → StepAccepted room f (opens_node k)
    → LimitsKept room (size_with (f.text + 0) (f.rows + 1)) (blocks_with f.depth f.blocks) (f.depth + 1)
kept-open room f k a = limits-kept room (size_with (f.text + 0) (f.rows + 1)) (blocks_with f.depth f.blocks) (f.depth + 1) a.within

pub kept-token : (room : ℕ) (f : SoFar) (k : ℕ) (s : List ℕ) → StepAccepted room f (adds_token k s)
    → LimitsKept room (size_with (f.text + length s) (f.rows + 1)) (blocks_with f.depth f.blocks) (f.depth + 1)
kept-token room f k s a =
    limits-kept room (size_with (f.text + length s) (f.rows + 1)) (blocks_with f.depth f.blocks) (f.depth + 1) a.within

-- ---- what is left of a step that is accepted, and of one that is refused

pub step-done : (w : Writer) (b : List ℕ) (s : Step) → answer_step w b s ≡ 0 → take_step w b s ≡ step_done w b s
unfolding take_step
step-done w b s e = ap (λ x. cond x (step_done w b s) (step_refused w b s)) (eq-eqb (answer_step w b s) 0 e)

pub step-refused : (w : Writer) (b : List ℕ) (s : Step) → (answer_step w b s ≡ 0 → ⊥) → take_step w b s ≡ step_refused w b s
unfolding take_step
step-refused w b s h = ap (λ x. cond x (step_done w b s) (step_refused w b s)) (ne_eqb (answer_step w b s) 0 h)
