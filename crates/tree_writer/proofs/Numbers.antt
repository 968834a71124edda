-- A writer kept as numbers: what is saved is loaded, and a call over numbers is the step.
use mathlib.Core.Path.{◌≡◌, refl, sym, ap, subst, ◌∙◌}
use mathlib.Core.Bool.{true, false, cond, and-eq-true_iff}
use mathlib.Core.List.{List, ◌∷◌, ◌++◌}
use Prim.Native.Nat.{ℕ, ◌≤◌}
use native.Mathlib.Omega.{arith}
use native.Mathlib.Decide.{ℕ_discrete}
use lib.ListN.{length, get_or, drop}
use lib.Seq.{drop-cons}
use lib.Dec.{eqb, leb}
use borrow.Author.Tests.{leb-true, eqb-true, eqb-false, eq-eqb, ne_eqb}
use Rattle.std.specs.Prelude.{⊤, Result, Ok, Err}
use Rattle.std.specs.Borrow.{MutBor}
use Rattle.text.proofs.Compare.{by-test}
use Rattle.text.specs.Trailer.{file_most}
use Rattle.refusals.specs.Refusals.{refusal_number}
use Rattle.tree_writer.specs.Steps.{Step, finishes}
use Rattle.tree_writer.specs.SoFar.{size_with, with_step, out_of_place}
use Rattle.tree_writer.specs.Writers.{answer_step}
use Rattle.tree_writer.specs.Buffers.{writer_after, StepResult, step_refused, reason_number, take_step, TakesStep}
use Rattle.tree_writer.specs.States.{state_size, writer_in, is_state, flag_number, numbers_of, state_after, step_in, length_in, StepsIn}
use Rattle.tree_writer.specs.States.{told_number, told_length, answer_with, numbers_with, StepCall, NoStep, SteppedIn}
use Rattle.refusals.specs.declared.Reason.{Reason}
use Rattle.tree_writer.specs.declared.Writer.{Writer}
use Rattle.tree_writer.proofs.Answers.{answer-says, some-number}
use Rattle.tree_writer.proofs.Accepting.{step-done, step-refused}

-- ---- the numbers of a state are those of its writer

flag-back : (n : ℕ) → n ≤ 1 → flag_number (eqb n 1) ≡ n
flag-back n h =
    elim (ℕ_discrete n 1) [
      | yes e ↦ ap flag_number (eq-eqb n 1 e) ∙ sym e
      | no e ↦ ap flag_number (ne_eqb n 1 e) ∙ omega arith
    ]

pub numbers-back : (z : List ℕ) → is_state z ≡ true → numbers_of (writer_in z) ++ drop state_size z ≡ z
numbers-back z e =
    let a = (and-eq-true_iff (leb state_size (length z)) (leb (get_or z 0 0) 1)).0 e in
    let l = leb-true state_size (length z) a.0 in
    ap (λ n. n ∷ get_or z 1 0 ∷ get_or z 2 0 ∷ get_or z 3 0 ∷ get_or z 4 0 ∷ get_or z 5 0 ∷ get_or z 6 0 ∷ drop state_size z)
    (flag-back (get_or z 0 0) (leb-true (get_or z 0 0) 1 a.1))
    ∙ ap (λ r. get_or z 0 0 ∷ get_or z 1 0 ∷ get_or z 2 0 ∷ get_or z 3 0 ∷ get_or z 4 0 ∷ get_or z 5 0 ∷ r) (sym (drop-cons z 6 0 (omega arith)))
    ∙ ap (λ r. get_or z 0 0 ∷ get_or z 1 0 ∷ get_or z 2 0 ∷ get_or z 3 0 ∷ get_or z 4 0 ∷ r) (sym (drop-cons z 5 0 (omega arith)))
    ∙ ap (λ r. get_or z 0 0 ∷ get_or z 1 0 ∷ get_or z 2 0 ∷ get_or z 3 0 ∷ r) (sym (drop-cons z 4 0 (omega arith)))
    ∙ ap (λ r. get_or z 0 0 ∷ get_or z 1 0 ∷ get_or z 2 0 ∷ r) (sym (drop-cons z 3 0 (omega arith)))
    ∙ ap (λ r. get_or z 0 0 ∷ get_or z 1 0 ∷ r) (sym (drop-cons z 2 0 (omega arith)))
    ∙ ap (λ r. get_or z 0 0 ∷ r) (sym (drop-cons z 1 0 (omega arith)))
    ∙ sym (drop-cons z 0 0 (omega arith))

-- ---- a call over numbers

pub step-no-state : (z b : List ℕ) (s : Step) → is_state z ≡ false → step_in z b s ≡ record { number = out_of_place; state = z; buffer = b }
unfolding step_in
step-no-state z b s e =
    ap (λ x. cond x (state_after (take_step (writer_in z) b s) z) (record { number = out_of_place; state = z; buffer = b })) e

pub step-state : (z b : List ℕ) (s : Step) → is_state z ≡ true → step_in z b s ≡ state_after (take_step (writer_in z) b s) z
unfolding step_in
step-state z b s e =
    ap (λ x. cond x (state_after (take_step (writer_in z) b s) z) (record { number = out_of_place; state = z; buffer = b })) e

-- a refused step leaves writer and buffer
pub taken-keeps : (w : Writer) (b : List ℕ) (s : Step) → ((take_step w b s).number ≡ 0 → ⊥) → take_step w b s ≡ step_refused w b s
taken-keeps w b s h = step-refused w b s (λ e. h (ap (λ (r : StepResult). r.number) (step-done w b s e)))

-- what is kept of the writer is the writer after the step, and in a refusal the one that was loaded
kept :
    (z b : List ℕ) (s : Step) (w' : Writer) (said : Result ⊤ Reason) {b' : List ℕ} → is_state z ≡ true
    → TakesStep (take_step (writer_in z) b s) said w' b' → numbers_with said w' z ≡ numbers_of w' ++ drop state_size z
kept z b s w' (Ok x) e t = refl
kept z b s w' (Err reason) e t =
    sym (numbers-back z e)
    ∙ ap (λ v. numbers_of v ++ drop state_size z) (sym (ap (λ (r : StepResult). r.writer) same) ∙ sym t.writer)
  where
    same : take_step (writer_in z) b s ≡ step_refused (writer_in z) b s
    same = taken-keeps (writer_in z) b s (λ n. some-number reason (t.number ∙ n))

-- ---- what is called with the writer that the numbers say

-- at any writer and buffer it is the step
abbrev pub IsStep : StepCall → Step → Type 0
IsStep call s =
    (w : MutBor Writer) (l : MutBor (List ℕ)) (r : Result ⊤ Reason) (w' : MutBor Writer) (l' : MutBor (List ℕ)) → call w l r w' l'
    → TakesStep (take_step w.now l.now s) r w'.now l'.now

-- so it is the step of the writer that was loaded, in the buffer that was lent
step-taken :
    {call : StepCall} (z b : List ℕ) (s : Step) {said : Result Writer Reason} {z' b' : List ℕ} → IsStep call s → (t : SteppedIn call z b said z' b')
    → TakesStep (take_step (writer_in z) b s) t.answered t.writer_left.now b'
step-taken z b s says t =
    let r = says t.writer t.lent t.answered t.writer_left t.lent_left t.called in
    let w = ap (λ v. take_step v t.lent.now s) t.loads ∙ ap (λ l. take_step (writer_in z) l s) t.lends in
    record {
      number = r.number ∙ ap (λ x. x.number) w;
      writer = r.writer ∙ ap (λ x. x.writer) w;
      buffer = t.buffer ∙ r.buffer ∙ ap (λ x. x.buffer) w;
    }

number-with : (r : Result ⊤ Reason) (w : Writer) → told_number (answer_with r w) ≡ reason_number r
number-with (Ok x) w = refl
number-with (Err reason) w = refl

steps-in :
    {call : StepCall} (z b : List ℕ) (s : Step) {said : Result Writer Reason} {z' b' : List ℕ} → is_state z ≡ true → IsStep call s
    → SteppedIn call z b said z' b' → StepsIn (step_in z b s) (told_number said) z' b'
steps-in z b s e says t =
    let r = step-taken z b s says t in
    let is = step-state z b s e in
    record {
      number = ap told_number t.answer ∙ number-with t.answered t.writer_left.now ∙ r.number ∙ sym (ap (λ x. x.number) is);
      state =
          t.state
          ∙ kept z b s t.writer_left.now t.answered e r
          ∙ ap (λ v. numbers_of v ++ drop state_size z) r.writer
          ∙ sym (ap (λ x. x.state) is);
      buffer = r.buffer ∙ sym (ap (λ x. x.buffer) is);
    }

steps-no-state :
    (z b : List ℕ) (s : Step) {said : Result Writer Reason} {z' b' : List ℕ} → is_state z ≡ false → NoStep z b said z' b'
    → StepsIn (step_in z b s) (told_number said) z' b'
steps-no-state z b s e t =
    let is = step-no-state z b s e in
    record {
      number = ap told_number t.answer ∙ sym (ap (λ x. x.number) is);
      state = t.state ∙ sym (ap (λ x. x.state) is);
      buffer = t.buffer ∙ sym (ap (λ x. x.buffer) is);
    }

pub steps-told :
    (call : StepCall) (z b : List ℕ) (s : Step) {said : Result Writer Reason} {z' b' : List ℕ} {n : ℕ} → IsStep call s
    → (is_state z ≡ false → NoStep z b said z' b') → (is_state z ≡ true → SteppedIn call z b said z' b') → n ≡ told_number said → StepsIn (step_in z b s) n z' b'
steps-told call z b s {said} {z'} {b'} {n} says idle stepped is =
    subst (λ m. StepsIn (step_in z b s) m z' b') (sym is)
    (by-test (is_state z) (λ e. steps-in z b s e says (stepped e)) (λ e. steps-no-state z b s e (idle e)))

-- ---- the length of the file

text-finished : (w : Writer) (b : List ℕ) → size_with (writer_after w b finishes).text (writer_after w b finishes).rows ≡ size_with w.text w.rows
unfolding writer_after with_step
text-finished w b = refl

-- an accepted finish is of a file within the limits
finish-short :
    (w : Writer) (b : List ℕ) (w' : Writer) {b' : List ℕ} → TakesStep (take_step w b finishes) (Ok tt) w' b' → size_with w'.text w'.rows ≤ file_most
finish-short w b w' t =
    let m = (answer-says w b finishes answered).0 in
    let after = t.writer ∙ ap (λ x. x.writer) (step-done w b finishes answered) in
    omega (arith, ap (λ v. size_with v.text v.rows) after, text-finished w b, m.could.size)
  where
    answered : answer_step w b finishes ≡ 0
    answered =
        by-test (eqb (answer_step w b finishes) 0)
        (λ e. eqb-true _ 0 e)
        (λ e. sym (ap (λ x. x.number) (step-refused w b finishes (eqb-false _ 0 e))) ∙ sym t.number)

-- the length that an answer tells: within the limits, and that of the file
pub record LengthTold (z b : List ℕ) (said : Result Writer Reason) : Type 0 where
  pub short : told_length said ≤ file_most
  pub length : told_length said ≡ length_in (step_in z b finishes)

length-with : (r : Result ⊤ Reason) (w : Writer) → told_length (answer_with r w) ≡ cond (eqb (reason_number r) 0) (size_with w.text w.rows) 0
length-with (Ok x) w = refl
length-with (Err reason) w = sym (ap (λ t. cond t (size_with w.text w.rows) 0) (ne_eqb (refusal_number reason) 0 (some-number reason)))

short-with :
    (w : Writer) (b : List ℕ) (r : Result ⊤ Reason) (w' : Writer) {b' : List ℕ} → TakesStep (take_step w b finishes) r w' b'
    → told_length (answer_with r w') ≤ file_most
short-with w b (Ok x) w' t = finish-short w b w' t
short-with w b (Err reason) w' t = omega arith

length-in :
    {call : StepCall} (z b : List ℕ) {said : Result Writer Reason} {z' b' : List ℕ} → is_state z ≡ true → IsStep call finishes → SteppedIn call z b said z' b' → LengthTold z b said
length-in z b e says t =
    let r = step-taken z b finishes says t in
    let w' = t.writer_left.now in
    record {
      short = subst (λ a. told_length a ≤ file_most) (sym t.answer) (short-with (writer_in z) b t.answered w' r);
      length =
          ap told_length t.answer
          ∙ length-with t.answered w'
          ∙ ap (λ m. cond (eqb m 0) (size_with w'.text w'.rows) 0) r.number
          ∙ ap (λ v. cond (eqb (take_step (writer_in z) b finishes).number 0) (size_with v.text v.rows) 0) r.writer
          ∙ sym (ap length_in (step-state z b finishes e));
    }

no_length : (z b : List ℕ) {said : Result Writer Reason} {z' b' : List ℕ} → is_state z ≡ false → NoStep z b said z' b' → LengthTold z b said
no_length z b e t =
    record {
      short = subst (λ a. told_length a ≤ file_most) (sym t.answer) (omega arith);
      length = ap told_length t.answer ∙ sym (ap length_in (step-no-state z b finishes e));
    }

pub length-told :
    (call : StepCall) (z b : List ℕ) {said : Result Writer Reason} {z' b' : List ℕ} → IsStep call finishes → (is_state z ≡ false → NoStep z b said z' b')
    → (is_state z ≡ true → SteppedIn call z b said z' b') → LengthTold z b said
length-told call z b says idle stepped = by-test (is_state z) (λ e. length-in z b e says (stepped e)) (λ e. no_length z b e (idle e))
