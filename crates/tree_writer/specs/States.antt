-- A writer as numbers, for callers that keep it between calls: whether it has finished (0 or 1), rows, text, blocks, depth, the row of the
-- innermost open node, and the buffer's length. Zeros are a writer that has written nothing. Numbers after these stay as they are.
use Rattle.std.specs.Prelude.{◌≡◌, Bool, true, false, ◌&&◌, cond, List, [], ◌∷◌, ◌++◌, ℕ, length, get_or, drop, eqb, leb, ⊤, Option, Some, None, Result, Ok, Err}
use Rattle.std.specs.Borrow.{MutBor}
use Rattle.tree_writer.specs.Steps.{Step}
use Rattle.tree_writer.specs.SoFar.{size_with, out_of_place}
use Rattle.refusals.specs.Refusals.{refusal_number}
use Rattle.tree_writer.specs.Buffers.{StepResult, take_step}
use Rattle.refusals.specs.declared.Reason.{Reason}
use Rattle.refusals.specs.declared.Reason.TheVariants.{OutOfPlace}
use Rattle.tree_writer.specs.declared.Writer.{Writer}

-- how many numbers a state has
abbrev pub state_size : ℕ
state_size = 7

abbrev pub writer_in : List ℕ → Writer
writer_in s =
    record {
      finished = eqb (get_or s 0 0) 1;
      rows = get_or s 1 0;
      text = get_or s 2 0;
      blocks = get_or s 3 0;
      depth = get_or s 4 0;
      inner = get_or s 5 0;
      room = get_or s 6 0;
    }

-- enough numbers, the first of them 0 or 1
abbrev pub is_state : List ℕ → Bool
is_state s = leb state_size (length s) && leb (get_or s 0 0) 1

-- the writer that is loaded from numbers
abbrev pub load : List ℕ → Option Writer
load s = cond (is_state s) (Some (writer_in s)) None

abbrev pub flag_number : Bool → ℕ
flag_number true = 1
flag_number false = 0

abbrev pub numbers_of : Writer → List ℕ
numbers_of w =
    flag_number w.finished ∷ w.rows ∷ w.text ∷ w.blocks ∷ w.depth ∷ w.inner ∷ w.room ∷ []

-- what a call over numbers gives and leaves
pub record StateResult : Type 0 where
  pub number : ℕ
  pub state : List ℕ
  pub buffer : List ℕ

abbrev pub state_after : StepResult → List ℕ → StateResult
state_after r s = record { number = r.number; state = numbers_of r.writer ++ drop state_size s; buffer = r.buffer }

unfoldable pub step_in : List ℕ → List ℕ → Step → StateResult
step_in s b t = cond (is_state s) (state_after (take_step (writer_in s) b t) s) (record { number = out_of_place; state = s; buffer = b })

-- the length of the file that an accepted finish leaves, else 0
abbrev pub length_in : StateResult → ℕ
length_in r = cond (eqb r.number 0) (size_with (get_or r.state 2 0) (get_or r.state 1 0)) 0

-- the call's number, its numbers and its bytes
pub record StepsIn (r : StateResult) (said : ℕ) (s b : List ℕ) : Type 0 where
  pub number : said ≡ r.number
  pub state : s ≡ r.state
  pub buffer : b ≡ r.buffer

-- ---- the same for whatever is called with the writer that the numbers say

-- what a call may do: the writer and the buffer that it is lent, its answer, and both after it
abbrev pub StepCall : Type 1
StepCall = MutBor Writer → MutBor (List ℕ) → Result ⊤ Reason → MutBor Writer → MutBor (List ℕ) → Type 0

-- the number of an answer that has the writer: 0 where the step was taken, else that of its reason
abbrev pub told_number : Result Writer Reason → ℕ
told_number (Ok _) = 0
told_number (Err reason) = refusal_number reason

-- and the length of the file, 0 in a refusal
abbrev pub told_length : Result Writer Reason → ℕ
told_length (Ok w) = size_with w.text w.rows
told_length (Err reason) = 0

abbrev pub answer_with : Result ⊤ Reason → Writer → Result Writer Reason
answer_with (Ok _) w = Ok w
answer_with (Err reason) w = Err reason

-- the numbers change only where the step was taken
abbrev pub numbers_with : Result ⊤ Reason → Writer → List ℕ → List ℕ
numbers_with (Ok _) w s = numbers_of w ++ drop state_size s
numbers_with (Err reason) w s = s

-- without a writer nothing is done
pub record NoStep (s b : List ℕ) (said : Result Writer Reason) (s' b' : List ℕ) : Type 0 where
  pub answer : said ≡ Err OutOfPlace
  pub state : s' ≡ s
  pub buffer : b' ≡ b

-- with one it is a call with that writer and the buffer; its answer is told, and the numbers are those of the writer that it left
pub record SteppedIn (call : StepCall) (s b : List ℕ) (said : Result Writer Reason) (s' b' : List ℕ) : Type 0 where
  pub writer : MutBor Writer
  pub loads : writer.now ≡ writer_in s
  pub lent : MutBor (List ℕ)
  pub lends : lent.now ≡ b
  pub answered : Result ⊤ Reason
  pub writer_left : MutBor Writer
  pub lent_left : MutBor (List ℕ)
  pub called : call writer lent answered writer_left lent_left
  pub answer : said ≡ answer_with answered writer_left.now
  pub state : s' ≡ numbers_with answered writer_left.now s
  pub buffer : b' ≡ lent_left.now
