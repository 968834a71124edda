-- The buffer of a writer. Texts stand from its front on in order. Rows stand from its back on: the bytes of all rows so far, from the
-- last to the first, end where the buffer ends, so that a row that is added moves no other. The number of an open node's row is the row
-- of the node around it, until the close puts there how many rows lie under it. The finish turns the rows round, moves them after the
-- texts and writes the trailer.
use Rattle.std.specs.Prelude.{◌≡◌, cond, List, [], ◌∷◌, ◌++◌, reverse, ℕ, ◌+◌, ◌*◌, ◌-◌, ◌/◌, ◌%◌, length, get_or, take, drop, eqb, ⊤, Result, Ok, Err}
use Rattle.std.proofs.lemmas.List.Edits.{sets}
use Rattle.text.specs.Numbers.{four}
use Rattle.refusals.specs.Refusals.{refusal_number}
use Rattle.tree_writer.specs.Steps.{Step, opens_node, adds_token, closes_node, finishes}
use Rattle.tree_writer.specs.SoFar.{SoFar, with_step}
use Rattle.tree_writer.specs.Writers.{so_far, answer_step}
use Rattle.tree_writer.specs.declared.Writer.{Writer}
use Rattle.refusals.specs.declared.Reason.{Reason}

-- where row i stands, and its bytes there: kind, mark and number from the last byte to the first
abbrev pub row_place : List ℕ → ℕ → ℕ
row_place b i = length b - 8 * (i + 1)

abbrev pub back_number : ℕ → List ℕ
back_number n = n / 256 / 256 / 256 % 256 ∷ n / 256 / 256 % 256 ∷ n / 256 % 256 ∷ n % 256 ∷ []

abbrev pub back_row : (kind mark n : ℕ) → List ℕ
back_row kind mark n = back_number n ++ (0 ∷ 0 ∷ mark ∷ kind ∷ [])

-- the number that stands there
abbrev pub back_number_at : List ℕ → ℕ → ℕ
back_number_at b i = get_or b (i + 3) 0 + 256 * get_or b (i + 2) 0 + 65536 * get_or b (i + 1) 0 + 16777216 * get_or b i 0

-- ---- what an accepted step leaves

-- the rows turned round at the buffer's end
abbrev pub turned_rows : ℕ → List ℕ → List ℕ
turned_rows n b = take (length b - 8 * n) b ++ reverse (drop (length b - 8 * n) b)

-- and copied after t bytes of text, with the trailer
abbrev pub filed : (t n : ℕ) → List ℕ → List ℕ
filed t n b =
    sets (sets (turned_rows n b) t (reverse (drop (length b - 8 * n) b))) (t + 8 * n) (four t (four n []))

unfoldable pub buffer_after : Writer → List ℕ → Step → List ℕ
buffer_after w b (opens_node k) = sets b (row_place b w.rows) (back_row k 0 w.inner)
buffer_after w b (adds_token k s) = sets (sets b w.text s) (row_place b w.rows) (back_row k 1 (length s))
buffer_after w b closes_node = sets b (row_place b w.inner) (back_number (w.rows - 1 - w.inner))
buffer_after w b finishes = filed w.text w.rows b

-- the row of the innermost open node
abbrev pub inner_after : Writer → List ℕ → Step → ℕ
inner_after w b (opens_node k) = w.rows
inner_after w b (adds_token k s) = w.inner
inner_after w b closes_node = back_number_at b (row_place b w.inner)
inner_after w b finishes = w.inner

abbrev pub writer_of : SoFar → (inner room : ℕ) → Writer
writer_of f inner room =
    record {
      finished = f.finished;
      rows = f.rows;
      text = f.text;
      blocks = f.blocks;
      depth = f.depth;
      inner = inner;
      room = room;
    }

unfoldable pub writer_after : Writer → List ℕ → Step → Writer
writer_after w b s = writer_of (with_step (so_far w) s) (inner_after w b s) (length b)

-- ---- what a call gives and leaves; a refused step leaves the writing so far

pub record StepResult : Type 0 where
  pub number : ℕ
  pub writer : Writer
  pub buffer : List ℕ

abbrev pub step_done : Writer → List ℕ → Step → StepResult
step_done w b s = record { number = 0; writer = writer_after w b s; buffer = buffer_after w b s }

abbrev pub step_refused : Writer → List ℕ → Step → StepResult
step_refused w b s = record { number = answer_step w b s; writer = w; buffer = b }

unfoldable pub take_step : Writer → List ℕ → Step → StepResult
take_step w b s = cond (eqb (answer_step w b s) 0) (step_done w b s) (step_refused w b s)

-- the number of an answer: 0 where the step was taken, else that of its reason
abbrev pub reason_number : Result ⊤ Reason → ℕ
reason_number (Ok _) = 0
reason_number (Err reason) = refusal_number reason

-- the call's answer, its writer and its bytes
pub record TakesStep (r : StepResult) (said : Result ⊤ Reason) (w : Writer) (b : List ℕ) : Type 0 where
  pub number : reason_number said ≡ r.number
  pub writer : w ≡ r.writer
  pub buffer : b ≡ r.buffer
