-- The answers to a list of steps are those that the accepted ones give, and what is left is what these alone leave: a refused step
-- changes nothing, and along the way the writer and its buffer stand for the steps accepted so far.
use mathlib.Core.Path.{◌≡◌, refl, sym, ap, subst, ◌∙◌}
use mathlib.Core.Bool.{Bool, true, false, cond}
use mathlib.Core.List.{List, [], ◌∷◌, ◌++◌, reverse}
use Prim.Native.Nat.{ℕ, ◌+◌, ◌*◌, ◌-◌}
use lib.ListN.{length, take, drop, length-append, length-reverse, take-append-drop}
use lib.Seq.{length-sets}
use lib.Dec.{eqb}
use borrow.Author.Tests.{eqb-true}
use Rattle.tree_writer.specs.Steps.{Step, opens_node, adds_token, closes_node, finishes}
use Rattle.tree_writer.specs.SoFar.{SoFar, nothing_yet, with_step, with_steps, step_answer}
use Rattle.tree_writer.specs.Writers.{new_writer, so_far, possible, answer_step}
use Rattle.tree_writer.specs.Buffers.{turned_rows, buffer_after, writer_after, step_done, step_refused, StepResult, take_step}
use Rattle.tree_writer.specs.Runs.{StepRun, run_from, run_steps, answer_after, accepted_with, answers_after, accepted_after, accepted_of, AnswersRight}
use Rattle.tree_writer.specs.declared.Writer.{Writer}
use Rattle.tree_writer.proofs.Accepting.{answer-possible, step-done}
use Rattle.tree_writer.proofs.Holding.{length-turned}
use Rattle.tree_writer.proofs.Standing.{WriterStands, no_step_yet, stands-possible, stands-room, step-stands}

-- ---- the buffer keeps its length

pub length-buffer_after : (w : Writer) (b : List ℕ) (s : Step) → length (buffer_after w b s) ≡ length b
unfolding buffer_after
length-buffer_after w b (opens_node k) = simp length-sets
length-buffer_after w b (adds_token k s) = simp length-sets
length-buffer_after w b closes_node = simp length-sets
length-buffer_after w b finishes = simp length-sets (length-turned w.rows b)

-- ---- runs one after the other

runs_append : (w : Writer) (b : List ℕ) (x y : List Step)
    → ((run_from w b (x ++ y)).writer ≡ (run_from (run_from w b x).writer (run_from w b x).buffer y).writer)
    × ((run_from w b (x ++ y)).buffer ≡ (run_from (run_from w b x).writer (run_from w b x).buffer y).buffer)
unfolding run_from
runs_append w b [] y = (refl, refl)
runs_append w b (s ∷ x) y = runs_append (take_step w b s).writer (take_step w b s).buffer x y

with_append : (f : SoFar) (x y : List Step) → with_steps f (x ++ y) ≡ with_steps (with_steps f x) y
unfolding with_steps
with_append f [] y = refl
with_append f (s ∷ x) y = with_append (with_step f s) x y

so-far-after : (w : Writer) (b : List ℕ) (s : Step) → so_far (writer_after w b s) ≡ with_step (so_far w) s
unfolding writer_after
so-far-after w b s = refl

-- ---- along the way

-- the steps `so` were accepted in the buffer `start`, and left the writer w and the buffer b
pub record Follows (start : List ℕ) (so : List Step) (w : Writer) (b : List ℕ) : Type 0 where
  pub long : length b ≡ length start
  pub counted : so_far w ≡ with_steps nothing_yet so
  pub writer : (run_steps start so).writer ≡ w
  pub buffer : (run_steps start so).buffer ≡ b
  pub stands : WriterStands (length start) so w b

follows-none : (b : List ℕ) → Follows b [] new_writer b
unfolding run_from with_steps
follows-none b = record { long = refl; counted = refl; writer = refl; buffer = refl; stands = no_step_yet refl refl }

module _ (start : List ℕ) where
  answer-same : (so : List Step) (w : Writer) (b : List ℕ) (s : Step) → Follows start so w b → answer_step w b s ≡ answer_after (length start) so s
  answer-same so w b s h =
      answer-possible w b s (stands-possible (length start) so w b h.stands) (stands-room (length start) so w b h.stands h.long)
      ∙ ap (λ k. step_answer k (so_far w) s) h.long ∙ ap (λ f. step_answer (length start) f s) h.counted

  -- an accepted step
  follows-one : (so : List Step) (w : Writer) (b : List ℕ) (s : Step) → Follows start so w b → answer_step w b s ≡ 0
      → Follows start (so ++ (s ∷ [])) (writer_after w b s) (buffer_after w b s)
  unfolding run_from with_steps
  follows-one so w b s h e =
      let t = step-done w b s e in
      let r = runs_append new_writer start so (s ∷ []) in
      let c : run_from (run_steps start so).writer (run_steps start so).buffer (s ∷ []) ≡ run_from w b (s ∷ []) =
      ap (λ v. run_from v (run_steps start so).buffer (s ∷ [])) h.writer ∙ ap (λ v. run_from w v (s ∷ [])) h.buffer in
      let a : step_answer (length b) (so_far w) s ≡ 0 =
      sym (answer-possible w b s (stands-possible (length start) so w b h.stands) (stands-room (length start) so w b h.stands h.long)) ∙ e in
      record {
        long = length-buffer_after w b s ∙ h.long;
        counted = so-far-after w b s ∙ ap (λ f. with_step f s) h.counted ∙ sym (with_append nothing_yet so (s ∷ []));
        writer = r.0 ∙ ap (λ (x : StepRun). x.writer) c ∙ ap (λ (x : StepResult). x.writer) t;
        buffer = r.1 ∙ ap (λ (x : StepRun). x.buffer) c ∙ ap (λ (x : StepResult). x.buffer) t;
        stands = subst (λ n. WriterStands n (so ++ (s ∷ [])) (writer_after w b s) (buffer_after w b s)) h.long
            (step-stands so w b s (subst (λ n. WriterStands n so w b) (sym h.long) h.stands) a);
      }

  -- any step
  pub record Followed (so : List Step) (s : Step) (r : StepResult) : Type 0 where
    pub number : r.number ≡ answer_after (length start) so s
    pub follows : Follows start (accepted_with (length start) so s) r.writer r.buffer

  followed : (so : List Step) (w : Writer) (b : List ℕ) (s : Step) → Follows start so w b → Followed so s (take_step w b s)
  unfolding take_step
  followed so w b s h = go (eqb (answer_step w b s) 0) refl
    where
      n : answer_step w b s ≡ answer_after (length start) so s
      n = answer-same so w b s h

      go : (t : Bool) → eqb (answer_step w b s) 0 ≡ t → Followed so s (cond t (step_done w b s) (step_refused w b s))
      go true p =
          let z = eqb-true (answer_step w b s) 0 p in
          record {
            number = sym z ∙ n;
            follows = subst (λ x. Follows start (cond x (so ++ (s ∷ [])) so) (writer_after w b s) (buffer_after w b s)) (sym p ∙ ap (λ k. eqb k 0) n)
                (follows-one so w b s h z);
          }
      go false p =
          record { number = n; follows = subst (λ x. Follows start (cond x (so ++ (s ∷ [])) so) w b) (sym p ∙ ap (λ k. eqb k 0) n) h }

  -- all steps
  pub record FollowsRun (so ss : List Step) (r : StepRun) : Type 0 where
    pub answers : r.answers ≡ answers_after (length start) so ss
    pub follows : Follows start (accepted_after (length start) so ss) r.writer r.buffer

  pub follows-run : (so : List Step) (w : Writer) (b : List ℕ) (ss : List Step) → Follows start so w b → FollowsRun so ss (run_from w b ss)
  unfolding run_from answers_after accepted_after
  follows-run so w b [] h = record { answers = refl; follows = h }
  follows-run so w b (s ∷ ss) h =
      let r = take_step w b s in
      let x = followed so w b s h in
      let rest = follows-run (accepted_with (length start) so s) r.writer r.buffer ss x.follows in
      record {
        answers = ap (λ k. k ∷ (run_from r.writer r.buffer ss).answers) x.number ∙ ap (λ k. answer_after (length start) so s ∷ k) rest.answers;
        follows = rest.follows;
      }

-- ---- from the empty start

pub follows-steps : (b : List ℕ) (ss : List Step) → FollowsRun b [] ss (run_steps b ss)
follows-steps b ss = follows-run b [] new_writer b ss (follows-none b)

pub answers-right : (b : List ℕ) (ss : List Step) → AnswersRight b ss
answers-right b ss =
    let r = follows-steps b ss in
    let h = r.follows in
    record { answers = r.answers; up_to_here = h.counted; writer = sym h.writer; buffer = sym h.buffer }

pub run-possible : (b : List ℕ) (ss : List Step) → possible (run_steps b ss).writer ≡ true
run-possible b ss =
    stands-possible (length b) (accepted_of (length b) ss) (run_steps b ss).writer (run_steps b ss).buffer (follows-steps b ss).follows.stands
