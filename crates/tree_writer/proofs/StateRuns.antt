-- A writer kept as numbers answers and writes as the writer does: after each step the numbers are those of the writer, and the numbers
-- after these are as they were.
use mathlib.Core.Path.{◌≡◌, refl, ap, ◌∙◌}
use mathlib.Core.Bool.{Bool, true, false, ◌&&◌, cond}
use mathlib.Core.List.{List, [], ◌∷◌, ◌++◌}
use Prim.Native.Nat.{ℕ}
use native.Mathlib.Omega.{arith}
use lib.ListN.{length}
use lib.Dec.{eqb, leb}
use borrow.Author.Tests.{le-leb}
use Rattle.tree_writer.specs.Steps.{Step}
use Rattle.tree_writer.specs.SoFar.{out_of_place}
use Rattle.tree_writer.specs.Writers.{new_writer}
use Rattle.tree_writer.specs.Buffers.{take_step}
use Rattle.tree_writer.specs.States.{state_size, writer_in, is_state, flag_number, numbers_of, StateResult, state_after, step_in}
use Rattle.tree_writer.specs.Runs.{StepRun, StateRun, run_from, run_in, NumbersRight}
use Rattle.tree_writer.specs.declared.Writer.{Writer}

flag-read : (b : Bool) → (eqb (flag_number b) 1 ≡ b) × (leb (flag_number b) 1 ≡ true)
flag-read true = (refl, refl)
flag-read false = (refl, refl)

numbers-read : (w : Writer) (rest : List ℕ) → writer_in (numbers_of w ++ rest) ≡ w
numbers-read w rest =
    ap (λ b. record { finished = b; rows = w.rows; text = w.text; blocks = w.blocks; depth = w.depth; inner = w.inner; room = w.room })
    (flag-read w.finished).0

numbers-state : (w : Writer) (rest : List ℕ) → is_state (numbers_of w ++ rest) ≡ true
numbers-state w rest =
    ap (λ b. b && leb (flag_number w.finished) 1) (le-leb state_size (length (numbers_of w ++ rest)) (omega arith)) ∙ (flag-read w.finished).1

step-numbers : (w : Writer) (rest b : List ℕ) (s : Step)
    → step_in (numbers_of w ++ rest) b s
    ≡ record { number = (take_step w b s).number; state = numbers_of (take_step w b s).writer ++ rest; buffer = (take_step w b s).buffer }
unfolding step_in
step-numbers w rest b s =
    let z = numbers_of w ++ rest in
    ap (λ x. cond x (state_after (take_step (writer_in z) b s) z) (record { number = out_of_place; state = z; buffer = b })) (numbers-state w rest)
    ∙ ap (λ v. state_after (take_step v b s) z) (numbers-read w rest)

abbrev as_numbers : List ℕ → StepRun → StateRun
as_numbers rest r = record { answers = r.answers; state = numbers_of r.writer ++ rest; buffer = r.buffer }

abbrev answer_ahead : ℕ → StateRun → StateRun
answer_ahead n r = record { answers = n ∷ r.answers; state = r.state; buffer = r.buffer }

run-numbers : (w : Writer) (rest b : List ℕ) (ss : List Step) → run_in (numbers_of w ++ rest) b ss ≡ as_numbers rest (run_from w b ss)
unfolding run_in run_from
run-numbers w rest b [] = refl
run-numbers w rest b (s ∷ ss) =
    let r = take_step w b s in
    ap (λ (x : StateResult). answer_ahead x.number (run_in x.state x.buffer ss)) (step-numbers w rest b s)
    ∙ ap (answer_ahead r.number) (run-numbers r.writer rest r.buffer ss)

pub numbers-right : (rest b : List ℕ) (ss : List Step) → NumbersRight rest b ss
numbers-right rest b ss =
    let e = run-numbers new_writer rest b ss in
    record {
      answers = ap (λ (x : StateRun). x.answers) e;
      state = ap (λ (x : StateRun). x.state) e;
      buffer = ap (λ (x : StateRun). x.buffer) e;
    }
