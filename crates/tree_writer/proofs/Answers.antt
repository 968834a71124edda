-- From the tests of a step to its answer, and from the answer to what a call gives.
use mathlib.Core.Path.{◌≡◌, refl, sym, ap, ◌∙◌}
use mathlib.Core.Bool.{Bool, true, false, ◌&&◌, not, cond, and-eq-true_iff}
use mathlib.Core.List.{List}
use Prim.Native.Nat.{ℕ, ◌+◌, ◌-◌, ◌≤◌, ◌<◌}
use native.Mathlib.Omega.{arith}
use native.Mathlib.Decide.{dec_le}
use lib.ListN.{length}
use lib.Seq.{sets}
use lib.Dec.{eqb, leb}
use borrow.Author.Tests.{leb-true, eqb-true, ne_eqb, not-true}
use Rattle.text.specs.Trailer.{file_most}
use Rattle.tree_file.specs.Layout.{blocks_most}
use Rattle.tree_file.specs.Depth.{depth_most}
use Rattle.tree_writer.specs.Steps.{Step, opens_node, adds_token, closes_node, finishes}
use Rattle.tree_writer.specs.SoFar.{size_with, blocks_with, with_step, is_in_place, step_limit, step_answer, out_of_place}
use Rattle.tree_writer.specs.Writers.{so_far}
use Rattle.tree_writer.specs.Writers.{possible, same_room, may_step, answer_step}
use Rattle.tree_writer.specs.Buffers.{row_place, back_number, back_number_at, back_row, filed, buffer_after, writer_after, reason_number, take_step, TakesStep}
use Rattle.tree_writer.specs.declared.Writer.{Writer}
use Rattle.refusals.specs.Refusals.{refusal_number}
use Rattle.refusals.specs.declared.Reason.{Reason}
use Rattle.refusals.specs.declared.Reason.TheVariants.{NoMode, BadRules, BadLayout, TooDeep, BadShape, NoFit, Misplaced, UnlikeEnds, NoCommand, NoEnvironment, NoList, NoArgument, BadColumn, LongLabel, TooShort, OutOfPlace}
use Rattle.std.specs.Prelude.{⊤, Result, Ok, Err}
use Rattle.tree_writer.proofs.Possible.{OpenedAs, opened_at_root, opened_in_block, possible-says, possible-none}
use Rattle.tree_writer.proofs.Accepting.{step-done, step-refused}

-- ---- writers that steps can have left

-- the numbers of such a writer, whether it has rows or not
pub record WriterBounds (w : Writer) : Type 0 where
  pub size : size_with w.text w.rows ≤ file_most
  pub blocks : w.blocks ≤ blocks_most
  pub depth : w.depth ≤ depth_most
  pub room : 1 ≤ w.rows → size_with w.text w.rows ≤ w.room
  pub inner : 1 ≤ w.depth → w.inner < w.rows

inner_below : (w : Writer) → 1 ≤ w.rows → OpenedAs w → w.inner < w.rows
inner_below w h (opened_at_root d i b z) = omega arith
inner_below w h (opened_in_block d b i l one deepest) = i

possible-bounds : (w : Writer) → possible w ≡ true → WriterBounds w
possible-bounds w e =
    elim (dec_le 1 w.rows) [
      | yes h ↦
          let p = possible-says w e h in
          let l = p.within in
          record { size = l.small; blocks = l.few; depth = l.low; room = λ r. l.fits; inner = λ d. inner_below w h p.opened }
      | no h ↦
          let n = possible-none w e (omega arith) in
          let text = ap (λ (v : Writer). v.text) n in
          let blocks = ap (λ (v : Writer). v.blocks) n in
          let depth = ap (λ (v : Writer). v.depth) n in
          record { size = omega arith; blocks = omega arith; depth = omega arith; room = λ r. absurd (h r); inner = λ d. absurd (omega arith) }
    ]

-- ---- the answer to a step

choose-twice : (x y : Bool) (a z : ℕ) → cond x (cond y a z) z ≡ cond (x && y) a z
choose-twice true y a z = refl
choose-twice false y a z = refl

-- whether the step may be tried decides
answer-decided :
    (w : Writer) (b : List ℕ) (s : Step) → answer_step w b s ≡ cond (may_step w b (is_in_place (so_far w) s)) (step_limit (length b) (so_far w) s) out_of_place
unfolding answer_step step_answer
answer-decided w b s =
    choose-twice (possible w && same_room w b) (not w.finished && is_in_place (so_far w) s) (step_limit (length b) (so_far w) s) out_of_place

pub answer-by :
    (w : Writer) (b : List ℕ) (s : Step) {p : Bool} {n : ℕ} → p ≡ is_in_place (so_far w) s
    → n ≡ cond (may_step w b p) (step_limit (length b) (so_far w) s) out_of_place → n ≡ answer_step w b s
answer-by w b s q e = e ∙ ap (λ x. cond (may_step w b x) (step_limit (length b) (so_far w) s) out_of_place) q ∙ sym (answer-decided w b s)

-- a step that may be tried
pub record MayStep (w : Writer) (b : List ℕ) (placed : Bool) : Type 0 where
  pub could : WriterBounds w
  pub room : 1 ≤ w.rows → length b ≡ w.room
  pub unfinished : w.finished ≡ false
  pub in_place : placed ≡ true

pub may-says : (w : Writer) (b : List ℕ) (placed : Bool) → may_step w b placed ≡ true → MayStep w b placed
may-says w b placed e =
    let a = (and-eq-true_iff (possible w && same_room w b) (not w.finished && placed)).0 e in
    let l = (and-eq-true_iff (possible w) (same_room w b)).0 a.0 in
    let r = (and-eq-true_iff (not w.finished) placed).0 a.1 in
    record {
      could = possible-bounds w l.0;
      room = λ h. eqb-true _ _ (sym (ap (λ t. cond t true (eqb (length b) w.room)) (ne_eqb w.rows 0 (λ z. omega arith))) ∙ l.1);
      unfinished = not-true _ r.0;
      in_place = r.1;
    }

-- only a step that may be tried is accepted
zero-says : (t : Bool) (n : ℕ) → cond t n out_of_place ≡ 0 → (t ≡ true) × (n ≡ 0)
zero-says true n e = (refl, e)
zero-says false n e = absurd (omega arith)

pub answer-says :
    (w : Writer) (b : List ℕ) (s : Step) → answer_step w b s ≡ 0
    → MayStep w b (is_in_place (so_far w) s) × (step_limit (length b) (so_far w) s ≡ 0)
answer-says w b s e =
    let p = is_in_place (so_far w) s in
    let z = zero-says (may_step w b p) (step_limit (length b) (so_far w) s) (sym (answer-decided w b s) ∙ e) in
    (may-says w b p z.0, z.1)

-- a step that is taken may be tried
pub tried-says : (t : Bool) (n : ℕ) → 0 ≡ cond t n out_of_place → t ≡ true
tried-says t n e = (zero-says t n (sym e)).0

-- ---- what a writer that may be tried keeps

-- the text and the rows, with the trailer, fit the buffer
pub record FileKept (w : Writer) (b : List ℕ) : Type 0 where
  pub small : size_with w.text w.rows ≤ file_most
  pub fits : size_with w.text w.rows ≤ length b

file-kept : (w : Writer) (b : List ℕ) (placed : Bool) → 1 ≤ w.rows → MayStep w b placed → FileKept w b
file-kept w b placed h m =
    record { small = m.could.size; fits = omega (arith, m.room h, m.could.room h) }

pub record CloseKept (w : Writer) (b : List ℕ) : Type 0 where
  pub deep : 1 ≤ w.depth
  pub inner : w.inner < w.rows
  pub file : FileKept w b

pub close-kept : (w : Writer) (b : List ℕ) → may_step w b (leb 1 w.depth) ≡ true → CloseKept w b
close-kept w b t =
    let m = may-says w b (leb 1 w.depth) t in
    let deep = leb-true 1 w.depth m.in_place in
    let inner = m.could.inner deep in
    record { deep = deep; inner = inner; file = file-kept w b _ (omega arith) m }

pub finish-kept : (w : Writer) (b : List ℕ) {p : Bool} → p ≡ is_in_place (so_far w) finishes → may_step w b p ≡ true → FileKept w b
finish-kept w b {p} q t =
    let m = may-says w b p t in
    let placed = (and-eq-true_iff (leb 1 w.rows) (eqb w.depth 0)).0 (sym q ∙ m.in_place) in
    file-kept w b p (leb-true 1 w.rows placed.0) m

-- ---- what a call gives

-- no reason has the number of an accepted step
pub some-number : (e : Reason) → refusal_number e ≡ 0 → ⊥
some-number e z =
    elim e as (λ r. refusal_number r ≡ 0 → ⊥) [
      | NoMode ↦ λ q. omega arith
      | BadRules ↦ λ q. omega arith
      | BadLayout ↦ λ q. omega arith
      | TooDeep ↦ λ q. omega arith
      | BadShape ↦ λ q. omega arith
      | NoFit ↦ λ q. omega arith
      | Misplaced ↦ λ q. omega arith
      | UnlikeEnds ↦ λ q. omega arith
      | NoCommand ↦ λ q. omega arith
      | NoEnvironment ↦ λ q. omega arith
      | NoList ↦ λ q. omega arith
      | NoArgument ↦ λ q. omega arith
      | BadColumn ↦ λ q. omega arith
      | LongLabel ↦ λ q. omega arith
      | TooShort ↦ λ q. omega arith
      | OutOfPlace ↦ λ q. omega arith
    ] z

-- a step that is refused by its tests leaves writer and buffer
pub refuses :
    (w : Writer) (b : List ℕ) (s : Step) {p : Bool} {e : Reason} {said : Result ⊤ Reason} → p ≡ is_in_place (so_far w) s
    → refusal_number e ≡ cond (may_step w b p) (step_limit (length b) (so_far w) s) out_of_place → said ≡ Err e → TakesStep (take_step w b s) said w b
refuses w b s {p} {e} {said} q n is =
    let answer = answer-by w b s q n in
    let refused = step-refused w b s (λ z. some-number e (answer ∙ z)) in
    record {
      number = ap reason_number is ∙ answer ∙ sym (ap (λ x. x.number) refused);
      writer = sym (ap (λ x. x.writer) refused);
      buffer = sym (ap (λ x. x.buffer) refused);
    }

-- a step that its tests accept leaves those after it
pub accepts :
    (w : Writer) (b : List ℕ) (s : Step) {p : Bool} {w' : Writer} {b' : List ℕ} → p ≡ is_in_place (so_far w) s
    → 0 ≡ cond (may_step w b p) (step_limit (length b) (so_far w) s) out_of_place → w' ≡ writer_after w b s → b' ≡ buffer_after w b s
    → TakesStep (take_step w b s) (Ok tt) w' b'
accepts w b s q z ew eb =
    let done = step-done w b s (sym (answer-by w b s q z)) in
    record {
      number = sym (ap (λ x. x.number) done);
      writer = ew ∙ sym (ap (λ x. x.writer) done);
      buffer = eb ∙ sym (ap (λ x. x.buffer) done);
    }

-- ---- step by step

pub writer-open :
    (w : Writer) (b : List ℕ) (k : ℕ) {n : ℕ} → n ≡ blocks_with w.depth w.blocks
    → record {
      finished = w.finished;
      rows = w.rows + 1;
      text = w.text;
      blocks = n;
      depth = w.depth + 1;
      inner = w.rows;
      room = length b;
    } ≡ writer_after w b (opens_node k)
unfolding writer_after with_step
writer-open w b k e = cc

pub writer_token :
    (w : Writer) (b : List ℕ) (k : ℕ) (s : List ℕ) {n : ℕ} → n ≡ blocks_with w.depth w.blocks
    → record {
      finished = w.finished;
      rows = w.rows + 1;
      text = w.text + length s;
      blocks = n;
      depth = w.depth;
      inner = w.inner;
      room = length b;
    } ≡ writer_after w b (adds_token k s)
unfolding writer_after with_step
writer_token w b k s e = cc

pub writer-close :
    (w : Writer) (b : List ℕ) {n : ℕ} → n ≡ back_number_at b (row_place b w.inner)
    → record {
      finished = w.finished;
      rows = w.rows;
      text = w.text;
      blocks = w.blocks;
      depth = w.depth - 1;
      inner = n;
      room = length b;
    } ≡ writer_after w b closes_node
unfolding writer_after with_step
writer-close w b e = cc

pub writer-finish :
    (w : Writer) (b : List ℕ)
    → record {
      finished = true;
      rows = w.rows;
      text = w.text;
      blocks = w.blocks;
      depth = w.depth;
      inner = w.inner;
      room = length b;
    } ≡ writer_after w b finishes
unfolding writer_after with_step
writer-finish w b = refl

pub buffer-open :
    (w : Writer) (b : List ℕ) (k : ℕ) {o : List ℕ} → o ≡ sets b (row_place b w.rows) (back_row k 0 w.inner)
    → o ≡ buffer_after w b (opens_node k)
unfolding buffer_after
buffer-open w b k e = e

pub buffer-token :
    (w : Writer) (b : List ℕ) (k : ℕ) (s : List ℕ) {p o : List ℕ} → p ≡ sets b w.text s
    → o ≡ sets p (row_place b w.rows) (back_row k 1 (length s)) → o ≡ buffer_after w b (adds_token k s)
unfolding buffer_after
buffer-token w b k s t e = e ∙ ap (λ x. sets x (row_place b w.rows) (back_row k 1 (length s))) t

pub buffer-close :
    (w : Writer) (b : List ℕ) {o : List ℕ} → o ≡ sets b (row_place b w.inner) (back_number (w.rows - 1 - w.inner))
    → o ≡ buffer_after w b closes_node
unfolding buffer_after
buffer-close w b e = e

pub buffer-finish : (w : Writer) (b : List ℕ) {o : List ℕ} → o ≡ filed w.text w.rows b → o ≡ buffer_after w b finishes
unfolding buffer_after
buffer-finish w b e = e
