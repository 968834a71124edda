-- Lists of steps, each on what the one before left, and what the writer promises of them.
use Rattle.std.specs.Prelude.{◌≡◌, true, cond, List, [], ◌∷◌, ◌++◌, ℕ, ◌+◌, ◌≤◌, length, take, replicate, eqb}
use Rattle.std.proofs.Math.Option.Option.{some}
use Rattle.text.specs.Numbers.{Bytes}
use Rattle.mitex_syntax.specs.Tree.{Tree, file_of}
use Rattle.tree_file.specs.Layout.{decode, Laid}
use Rattle.tree_file.specs.Depth.{depth, depth_most}
use Rattle.tree_file.specs.Shape.{lowest}
use Rattle.tree_file.specs.Check.{bad_layout, too_deep, by_shape, check_tree}
use Rattle.tree_writer.specs.Steps.{Step, finishes, walk_of_tree}
use Rattle.tree_writer.specs.SoFar.{nothing_yet, size_with, with_steps, out_of_place, too_short, step_answer}
use Rattle.tree_writer.specs.Writers.{new_writer, so_far, possible}
use Rattle.tree_writer.specs.Buffers.{StepResult, take_step}
use Rattle.tree_writer.specs.States.{state_size, numbers_of, StateResult, step_in}
use Rattle.tree_writer.specs.declared.Writer.{Writer}

-- ---- calls one after the other

pub record StepRun : Type 0 where
  pub answers : List ℕ
  pub writer : Writer
  pub buffer : List ℕ

unfoldable pub run_from : Writer → List ℕ → List Step → StepRun
run_from w b [] = record { answers = []; writer = w; buffer = b }
run_from w b (s ∷ ss) =
    let r : StepResult = take_step w b s in
    let rest : StepRun = run_from r.writer r.buffer ss in
    record { answers = r.number ∷ rest.answers; writer = rest.writer; buffer = rest.buffer }

-- from the empty start
abbrev pub run_steps : List ℕ → List Step → StepRun
run_steps b ss = run_from new_writer b ss

-- the same with the writer kept as numbers
pub record StateRun : Type 0 where
  pub answers : List ℕ
  pub state : List ℕ
  pub buffer : List ℕ

unfoldable pub run_in : List ℕ → List ℕ → List Step → StateRun
run_in z b [] = record { answers = []; state = z; buffer = b }
run_in z b (s ∷ ss) =
    let r : StateResult = step_in z b s in
    let rest : StateRun = run_in r.state r.buffer ss in
    record { answers = r.number ∷ rest.answers; state = rest.state; buffer = rest.buffer }

-- ---- by the steps alone, in a buffer of `room` bytes

-- the answer to a step after accepted ones
abbrev pub answer_after : ℕ → List Step → Step → ℕ
answer_after room accepted s = step_answer room (with_steps nothing_yet accepted) s

-- the accepted steps with one more, where it is accepted too
abbrev pub accepted_with : ℕ → List Step → Step → List Step
accepted_with room accepted s = cond (eqb (answer_after room accepted s) 0) (accepted ++ (s ∷ [])) accepted

-- the answers to a list of steps, and the steps accepted, after those that were accepted before
unfoldable pub answers_after : ℕ → List Step → List Step → List ℕ
answers_after room accepted [] = []
answers_after room accepted (s ∷ ss) = answer_after room accepted s ∷ answers_after room (accepted_with room accepted s) ss

unfoldable pub accepted_after : ℕ → List Step → List Step → List Step
accepted_after room accepted [] = accepted
accepted_after room accepted (s ∷ ss) = accepted_after room (accepted_with room accepted s) ss

abbrev pub accepted_of : ℕ → List Step → List Step
accepted_of room ss = accepted_after room [] ss

-- ---- what is promised

-- accepted, or one of the refusals of a step
pub data StepNumber : ℕ → Type 0 where
  is_accepted : StepNumber 0
  is_misplaced : StepNumber out_of_place
  is_over : StepNumber bad_layout
  is_deep : StepNumber too_deep
  is_short : StepNumber too_short

-- whatever numbers and bytes a call is given, a refusal changes none of them
pub record AnyStep (state b : List ℕ) (s : Step) : Type 0 where
  pub number : StepNumber (step_in state b s).number
  pub keeps_state : ((step_in state b s).number ≡ 0 → ⊥) → (step_in state b s).state ≡ state
  pub keeps_buffer : ((step_in state b s).number ≡ 0 → ⊥) → (step_in state b s).buffer ≡ b

-- the answers are those that the accepted steps give, and what is left is what these alone leave
pub record AnswersRight (b : List ℕ) (ss : List Step) : Type 0 where
  pub answers : (run_steps b ss).answers ≡ answers_after (length b) [] ss
  pub up_to_here : so_far (run_steps b ss).writer ≡ with_steps nothing_yet (accepted_of (length b) ss)
  pub writer : (run_steps b ss).writer ≡ (run_steps b (accepted_of (length b) ss)).writer
  pub buffer : (run_steps b ss).buffer ≡ (run_steps b (accepted_of (length b) ss)).buffer

-- a finished file passes 3 and 4, so that its check goes on to 5, and walking it shows the accepted steps: it is the file of a tree within
-- the limits, and the accepted steps are its walk and the finish
pub record FinishedRight (b : List ℕ) (ss : List Step) : Type 0 where
  pub tree : Tree
  pub file : take (size_with (run_steps b ss).writer.text (run_steps b ss).writer.rows) (run_steps b ss).buffer ≡ file_of tree
  pub long : length (file_of tree) ≡ size_with (run_steps b ss).writer.text (run_steps b ss).writer.rows
  pub laid : Laid tree (file_of tree)
  pub decodes : decode (file_of tree) ≡ some tree
  pub shallow : depth tree ≤ depth_most
  pub passes : check_tree (file_of tree) ≡ by_shape tree (lowest 0 0 tree)
  pub walked : accepted_of (length b) ss ≡ walk_of_tree tree ++ (finishes ∷ [])

-- a file fed as its own walk comes out byte for byte
pub record ComesOut (file b : List ℕ) (t : Tree) : Type 0 where
  pub answers : (run_steps b (walk_of_tree t ++ (finishes ∷ []))).answers ≡ replicate (length (walk_of_tree t) + 1) 0
  pub bytes : (run_steps b (walk_of_tree t ++ (finishes ∷ []))).buffer ≡ file

-- some steps in some buffer leave this writer
pub record LeftBySteps (w : Writer) : Type 0 where
  pub buffer : List ℕ
  pub steps : List Step
  pub left : (run_steps buffer steps).writer ≡ w

-- with numbers, zeros at the start and any after them, the answers and the bytes are the same, and the numbers are those of the writer
pub record NumbersRight (rest b : List ℕ) (ss : List Step) : Type 0 where
  pub answers : (run_in (replicate state_size 0 ++ rest) b ss).answers ≡ (run_steps b ss).answers
  pub state : (run_in (replicate state_size 0 ++ rest) b ss).state ≡ numbers_of (run_steps b ss).writer ++ rest
  pub buffer : (run_in (replicate state_size 0 ++ rest) b ss).buffer ≡ (run_steps b ss).buffer

pub record WriterPromises : Type 0 where
  pub any_caller : (state b : List ℕ) (s : Step) → AnyStep state b s
  -- after any list of steps, refused ones included
  pub answered : (b : List ℕ) (ss : List Step) → AnswersRight b ss
  pub finished : (b : List ℕ) (ss : List Step) → (run_steps b ss).writer.finished ≡ true → FinishedRight b ss
  -- every file that passes 3 and 4, in a buffer of its length
  pub comes_out :
      (file : List ℕ) → Bytes file → (t : Tree) → decode file ≡ some t → depth t ≤ depth_most → (b : List ℕ) → length b ≡ length file → ComesOut file b t
  -- 16 for a state goes just to those that no steps can have left
  pub reached : (w : Writer) → possible w ≡ true → LeftBySteps w
  pub stays_possible : (b : List ℕ) (ss : List Step) → possible (run_steps b ss).writer ≡ true
  pub by_numbers : (rest b : List ℕ) (ss : List Step) → NumbersRight rest b ss
