-- Any call: its number is one of five, and a refusal leaves the numbers of the state and the bytes of the buffer.
use mathlib.Core.Path.{◌≡◌, refl, sym, ap, subst, ◌∙◌}
use mathlib.Core.Bool.{Bool, true, false, ◌&&◌, ◌||◌, not, cond, and-eq-true_iff}
use mathlib.Core.List.{List, ◌∷◌, ◌++◌}
use Prim.Native.Nat.{ℕ, ◌+◌, ◌≤◌}
use native.Mathlib.Omega.{arith}
use native.Mathlib.Decide.{ℕ_discrete}
use lib.ListN.{length, get_or, drop}
use lib.Seq.{drop-cons}
use lib.Dec.{eqb, leb, ltb}
use borrow.Author.Tests.{eq-eqb, ne_eqb, leb-true}
use Rattle.text.proofs.Compare.{by-test}
use Rattle.text.specs.Trailer.{file_most}
use Rattle.tree_file.specs.Layout.{blocks_most}
use Rattle.tree_file.specs.Depth.{depth_most}
use Rattle.tree_writer.specs.Steps.{Step, opens_node, adds_token, closes_node, finishes}
use Rattle.tree_writer.specs.SoFar.{SoFar, size_with, blocks_with, is_in_place, limit_passed, row_limit, step_limit, step_answer}
use Rattle.tree_writer.specs.Writers.{so_far, possible, same_room, answer_step}
use Rattle.tree_writer.specs.Buffers.{step_refused, StepResult, take_step}
use Rattle.tree_writer.specs.States.{state_size, writer_in, is_state, flag_number, numbers_of, StateResult, step_in}
use Rattle.tree_writer.specs.Runs.{StepNumber, is_accepted, is_misplaced, is_over, is_deep, is_short, AnyStep}
use Rattle.tree_writer.specs.declared.Writer.{Writer}
use Rattle.tree_writer.proofs.Accepting.{step-done, step-refused}
use Rattle.tree_writer.proofs.Numbers.{step-state, step-no-state, taken-keeps, numbers-back}

-- ---- the number

either : (t : Bool) {m n : ℕ} → StepNumber m → StepNumber n → StepNumber (cond t m n)
either true p q = p
either false p q = q

limit-number : (room size blocks depth : ℕ) → StepNumber (limit_passed room size blocks depth)
limit-number room size blocks depth =
    either (ltb file_most size || ltb blocks_most blocks) is_over
    (either (ltb depth_most depth) is_deep (either (ltb room size) is_short is_accepted))

row_number : (room : ℕ) (f : SoFar) (n : ℕ) → StepNumber (row_limit room f n)
row_number room f n = limit-number room (size_with (f.text + n) (f.rows + 1)) (blocks_with f.depth f.blocks) (f.depth + 1)

step-limit : (room : ℕ) (f : SoFar) (s : Step) → StepNumber (step_limit room f s)
step-limit room f (opens_node k) = row_number room f 0
step-limit room f (adds_token k t) = row_number room f (length t)
step-limit room f closes_node = is_accepted
step-limit room f finishes = is_accepted

answer-number : (w : Writer) (b : List ℕ) (s : Step) → StepNumber (answer_step w b s)
unfolding answer_step step_answer
answer-number w b s =
    either (possible w && same_room w b)
    (either (not (so_far w).finished && is_in_place (so_far w) s) (step-limit (length b) (so_far w) s) is_misplaced) is_misplaced

taken-number : (w : Writer) (b : List ℕ) (s : Step) → StepNumber (take_step w b s).number
taken-number w b s =
    elim (ℕ_discrete (answer_step w b s) 0) [
      | yes e ↦ subst (λ r. StepNumber r.number) (sym (step-done w b s e)) is_accepted
      | no e ↦ subst (λ r. StepNumber r.number) (sym (step-refused w b s e)) (answer-number w b s)
    ]

-- ---- any call

of-state : (z b : List ℕ) (s : Step) → is_state z ≡ true → AnyStep z b s
of-state z b s e =
    let r = take_step (writer_in z) b s in
    let is = step-state z b s e in
    let kept : ((step_in z b s).number ≡ 0 → ⊥) → r ≡ step_refused (writer_in z) b s =
    λ h. taken-keeps (writer_in z) b s (λ n. h (ap (λ (x : StateResult). x.number) is ∙ n)) in
    record {
      number = subst (λ x. StepNumber x.number) (sym is) (taken-number (writer_in z) b s);
      keeps_state = λ h. ap (λ (x : StateResult). x.state) is ∙ ap (λ (x : StepResult). numbers_of x.writer ++ drop state_size z) (kept h) ∙ numbers-back z e;
      keeps_buffer = λ h. ap (λ (x : StateResult). x.buffer) is ∙ ap (λ (x : StepResult). x.buffer) (kept h);
    }

of-no-state : (z b : List ℕ) (s : Step) → is_state z ≡ false → AnyStep z b s
of-no-state z b s e =
    let is = step-no-state z b s e in
    record {
      number = subst (λ x. StepNumber x.number) (sym is) is_misplaced;
      keeps_state = λ h. ap (λ (x : StateResult). x.state) is;
      keeps_buffer = λ h. ap (λ (x : StateResult). x.buffer) is;
    }

pub any_step : (state b : List ℕ) (s : Step) → AnyStep state b s
any_step z b s = by-test (is_state z) (of-state z b s) (of-no-state z b s)
