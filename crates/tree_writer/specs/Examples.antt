-- Worked examples, which antt computes.
use Rattle.std.specs.Prelude.{◌≡◌, refl, false, List, [], ◌∷◌, ◌++◌, ℕ, replicate}
use Rattle.text.specs.Ascii.{ascii}
use Rattle.utf8.specs.Utf8.{char_steps, valid}
use Rattle.mitex_syntax.specs.Syntax.{ScopeRoot, ItemCurly, TokenWord}
use Rattle.mitex_syntax.specs.Tree.{Tree, size, rows_of, text_of, file_of}
use Rattle.mitex_syntax.specs.Tree.Tree.{token, node}
use Rattle.mitex_syntax.specs.Tree.Forest.{none, more}
use Rattle.tree_writer.specs.Steps.{Step, opens_node, adds_token, closes_node, finishes, walk_of_tree}
use Rattle.tree_writer.specs.SoFar.{SoFar, with_step, step_answer}
use Rattle.tree_writer.specs.Writers.{possible, answer_step}
use Rattle.tree_writer.specs.Buffers.{buffer_after, writer_after, take_step}
use Rattle.tree_writer.specs.States.{step_in}
use Rattle.tree_writer.specs.Runs.{run_from, run_steps, run_in}

abbrev doc : Tree
doc =
    node ScopeRoot (more (token TokenWord (ascii "ab")) (more (node ItemCurly (more (token TokenWord (ascii "c")) none)) none))

walk_is : walk_of_tree doc
    ≡ opens_node ScopeRoot ∷ adds_token TokenWord (ascii "ab") ∷ opens_node ItemCurly ∷ adds_token TokenWord (ascii "c") ∷ closes_node ∷ closes_node ∷ []
unfolding walk_of_tree
walk_is = refl

-- its walk, with refused steps between: no root yet, no ScopeRoot, no text, a token's kind opened, a finish with a node open, a second root
abbrev steps : List Step
steps =
    finishes ∷ closes_node ∷ adds_token TokenWord (ascii "x") ∷ opens_node ItemCurly ∷ opens_node ScopeRoot ∷ adds_token TokenWord (ascii "ab")
    ∷ adds_token TokenWord [] ∷ opens_node TokenWord ∷ opens_node ItemCurly ∷ adds_token TokenWord (ascii "c") ∷ finishes ∷ closes_node ∷ closes_node
    ∷ opens_node ScopeRoot ∷ finishes ∷ finishes ∷ []

answers-are : (run_steps (replicate 43 7) steps).answers
    ≡ 16 ∷ 16 ∷ 16 ∷ 16 ∷ 0 ∷ 0 ∷ 16 ∷ 16 ∷ 0 ∷ 0 ∷ 16 ∷ 0 ∷ 0 ∷ 16 ∷ 0 ∷ 16 ∷ []
unfolding run_from take_step answer_step step_answer possible with_step writer_after buffer_after valid char_steps
answers-are = refl

file-is : (run_steps (replicate 43 7) steps).buffer ≡ file_of doc
unfolding run_from take_step answer_step step_answer possible with_step writer_after buffer_after valid char_steps file_of rows_of text_of size
file-is = refl

-- by numbers, with one more that stays
state-is : (run_in (replicate 7 0 ++ (9 ∷ [])) (replicate 43 7) (walk_of_tree doc)).state ≡ 0 ∷ 4 ∷ 3 ∷ 2 ∷ 0 ∷ 0 ∷ 43 ∷ 9 ∷ []
unfolding walk_of_tree run_in step_in take_step answer_step step_answer possible with_step writer_after buffer_after valid char_steps
state-is = refl

-- a buffer that is a byte too short: the last token is refused, and what needs no room is not
short-answers : (run_steps (replicate 42 7) (walk_of_tree doc ++ (finishes ∷ []))).answers ≡ 0 ∷ 0 ∷ 0 ∷ 15 ∷ 0 ∷ 0 ∷ 0 ∷ []
unfolding walk_of_tree run_from take_step answer_step step_answer possible with_step writer_after buffer_after valid char_steps
short-answers = refl

-- the limits, by the file so far: 3 before 4, 4 before 15, and 16 before all
abbrev writing : (rows text blocks depth : ℕ) → SoFar
writing rows text blocks depth = record { finished = false; rows = rows; text = text; blocks = blocks; depth = depth }

file-full : step_answer 65536 (writing 8190 0 1 2) (adds_token TokenWord (ascii "12345678")) ≡ 3
unfolding step_answer valid char_steps
file-full = refl

last_byte : step_answer 65536 (writing 8189 0 1 2) (adds_token TokenWord (ascii "12345678")) ≡ 0
unfolding step_answer valid char_steps
last_byte = refl

one-block-more : step_answer 65536 (writing 513 0 512 1) (opens_node ItemCurly) ≡ 3
unfolding step_answer
one-block-more = refl

too-deep : step_answer 65536 (writing 64 0 1 64) (opens_node ItemCurly) ≡ 4
unfolding step_answer
too-deep = refl

long-before-deep : step_answer 65536 (writing 8191 0 1 64) (opens_node ItemCurly) ≡ 3
unfolding step_answer
long-before-deep = refl

deep-before-short : step_answer 16 (writing 64 0 1 64) (opens_node ItemCurly) ≡ 4
unfolding step_answer
deep-before-short = refl

placed_first : step_answer 16 (writing 8191 0 1 64) (opens_node TokenWord) ≡ 16
unfolding step_answer
placed_first = refl

-- a state that no steps can have left: the innermost node of two that are open is no row that was written
no-such-row : answer_step (record { finished = false; rows = 2; text = 0; blocks = 1; depth = 2; inner = 2; room = 43 }) (replicate 43 7) closes_node ≡ 16
unfolding answer_step possible
no-such-row = refl

-- and the same with the row that it is
such-a-row : answer_step (record { finished = false; rows = 2; text = 0; blocks = 1; depth = 2; inner = 1; room = 43 }) (replicate 43 7) closes_node ≡ 0
unfolding answer_step step_answer possible
such-a-row = refl
