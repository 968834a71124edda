-- What several blocks replaced together come to: 6 where the list, the kept length or the ledger do not fit (`replace-unfit`), the refusal
-- that the blocks converted again meet (`replace-refused`), and else the stretches that were planned take the place of the kept blocks, where
-- the new text has room (`planned-no-room`, `planned-done`).
use mathlib.Core.Path.{◌≡◌, refl, sym, ap, subst, ◌∙◌}
use mathlib.Core.Bool.{Bool, true, false, ◌&&◌, cond, and-eq-true_iff}
use mathlib.Core.List.{List}
use Prim.Native.Nat.{ℕ, ◌+◌, ◌*◌, ◌-◌, ◌≤◌, ◌<◌, min}
use native.Mathlib.Omega.{arith}
use borrow.Author.Tests.{leb-true}
use lib.IntN.{ℤ, pos, ◌-ℤ◌}
use lib.ListN.{length, get_or, replicate}
use lib.Seq.{sets}
use lib.Dec.{leb}
use Rattle.text.specs.Writing.{cap}
use Rattle.tree_file.specs.Layout.{blocks_most}
use Rattle.mitex_meaning.specs.declared.LaTeXMode.{LaTeXMode}
use Rattle.ledger.specs.Ledger.{Row, row_size, HasRow, decode_rows, fits}
use Rattle.ledger.proofs.Fitting.{fits-long}
use Rattle.edit_meaning.specs.Walk.{BlockConverter}
use Rattle.edit_meaning.specs.Walk.CheckedFile.{good}
use Rattle.edit_meaning.specs.Edit.{Answer, Result, text_most, unchanged, end_before, room_for_text}
use Rattle.edit_meaning.specs.Edit.Answer.{refused, edited}
use Rattle.edit_meaning.specs.Calls.{Gives}
use Rattle.edit_meaning.specs.Changes.{some_named, rise_below, named_there, change_fits, Stretch, come_count, gone_count, Remade, each_from, remake}
use Rattle.edit_meaning.specs.Changes.{text_over, ledger_over, front_over, exchange, exchange_or, change_checked}
use Rattle.edit_meaning.specs.Changes.Kind.{replace_all}
use Rattle.edit_meaning.specs.Changes.Remade.{halted, remade}
use Rattle.manuscript.specs.Manuscript.{listed, blocks_in}
use Rattle.manuscript.proofs.Manuscript.{listed-count}
use Rattle.std.specs.Prelude.{Ok, Err}
use Rattle.refusals.specs.Refusals.{refusal_number}
use Rattle.refusals.specs.declared.Refusal.{Refusal}
use Rattle.passes.specs.Passes.{Document, EndsBefore}
use Rattle.passes.specs.declared.open.OpenDocument.{OpenDocument}
use Rattle.passes.proofs.Ends.{ends-kept}
use Rattle.stretches.specs.Plans.{next_block, after_all, place_after, rest_text, rest_rows, LaidOut, PlanComes, Exchangeable, Exchanged}
use Rattle.stretches.specs.Plans.PlanComes.{plan_halted, plan_made}
use Rattle.stretches.specs.declared.Note.{Note}
use Rattle.stretches.specs.declared.Planned.{Planned}
use Rattle.stretches.proofs.Rising.{rising-below}
use Rattle.stretches.proofs.Laying.{note_in, laid_from}
use Rattle.stretches.proofs.Whole.{after-within, laid-even, over_first, over-long, whole-text, whole-rows}
use Rattle.calls.specs.Calls.{PlanMade}
use Rattle.calls.proofs.Settling.{room_for}

-- ---- what the plan came to

module _ {rules index rows text : List ℕ} {n : ℕ} {w : Document rules index rows text n} {m : LaTeXMode} {ledger : List ℕ} {plan : List Note} where
  plan-refused : {e : Refusal} {x : Remade} → PlanComes w m ledger plan (Err e) x → x ≡ halted (refusal_number e.reason) e.row
  plan-refused (plan_halted f g) = λ i. halted (sym f i) (sym g i)

module _ {rules index rows text : List ℕ} {n : ℕ} (w : Document rules index rows text n) (m : LaTeXMode) (ledger : List ℕ) (r : Planned)
    (plan : List Note) where
  pub record PlanStretches (x : Remade) : Type 0 where
    pub ss : List Stretch
    pub are : x ≡ remade ss
    pub laid : LaidOut w m ledger 0 ss plan
    pub block : r.block ≡ after_all 0 ss
    pub count : r.count ≡ come_count ss
    pub low : r.at ≤ 2 * cap * blocks_most
    pub placed : min cap r.at ≡ min cap (place_after (decode_rows n ledger) 0 0 ss)

  pub plan-stretches : {x : Remade} → PlanComes w m ledger plan (Ok r) x → PlanStretches x
  plan-stretches (plan_made {ss = ss} l b c a p) = record { ss = ss; are = refl; laid = l; block = b; count = c; low = a; placed = p }

-- ---- refusal 6

-- the blocks that are named are there, the kept length is in the buffer, the ledger fits
pub record ReplaceFits (named : List ℕ) (n kept : ℕ) (out ledger : List ℕ) : Type 0 where
  pub below : (i : ℕ) → i < length named → get_or named i 0 < n
  pub inside : kept ≤ length out
  pub fitting : fits n kept ledger ≡ true

pub replace-fits :
    (named : List ℕ) (n kept : ℕ) (out ledger : List ℕ) {b : Bool} → b ≡ change_fits (replace_all named) n kept out ledger → b ≡ true
    → ReplaceFits named n kept out ledger
unfolding change_fits
replace-fits named n kept out ledger e t =
    let x = (and-eq-true_iff (named_there (replace_all named) n) (leb kept (length out) && fits n kept ledger)).0 (sym e ∙ t) in
    let y = (and-eq-true_iff (leb kept (length out)) (fits n kept ledger)).0 x.1 in
    record {
      below = rising-below named n 0 ((and-eq-true_iff (some_named named) (rise_below 0 n named)).0 x.0).1;
      inside = leb-true kept (length out) y.0;
      fitting = y.1;
    }

-- ---- the call over the blocks

module _ (d : OpenDocument) (named : List ℕ) (kept : ℕ) (out ledger : List ℕ) where
  abbrev 𝓒 : BlockConverter
  𝓒 = blocks_in d.mode d.open.rs

  abbrev bs : List 𝓒.Block
  bs = listed d.open.blocks

  abbrev result : Result
  result = change_checked 𝓒 (good bs) (replace_all named) kept out ledger

  abbrev each : Remade
  each = each_from 𝓒 bs (decode_rows d.blocks ledger) 0 named

  abbrev by : Bool → Remade → Result
  by b x = cond b (exchange_or d.blocks kept (decode_rows d.blocks ledger) x out ledger) (unchanged 6 0 out ledger)

  result_by : {b : Bool} → b ≡ change_fits (replace_all named) d.blocks kept out ledger → (c : Bool) → b ≡ c → {x : Remade} → each ≡ x → result ≡ by c x
  unfolding remake
  result_by e c t {x} a =
      ap
      (λ (k : ℕ). cond (change_fits (replace_all named) k kept out ledger)
      (exchange_or k kept (decode_rows k ledger) (each_from 𝓒 bs (decode_rows k ledger) 0 named) out ledger) (unchanged 6 0 out ledger))
      (listed-count d.open.blocks ∙ d.open.many)
      ∙ (λ i. by ((sym e ∙ t) i) (a i))

  pub replace-unfit : {b : Bool} → b ≡ change_fits (replace_all named) d.blocks kept out ledger → b ≡ false → Gives result (refused 6 0) out ledger
  replace-unfit e t =
      subst (λ (x : Result). Gives x (refused 6 0) out ledger) (sym (result_by e false t refl))
      (record { answer = refl; bytes = refl; rows = refl })

  module _ {b : Bool} (e : b ≡ change_fits (replace_all named) d.blocks kept out ledger) (t : b ≡ true) {plan : List Note} where
    pub replace-refused :
        {x : Refusal} → PlanComes d.open d.mode ledger plan (Err x) each → Gives result (refused (refusal_number x.reason) x.row) out ledger
    replace-refused {x} comes =
        subst (λ (y : Result). Gives y (refused (refusal_number x.reason) x.row) out ledger) (sym (result_by e true t (plan-refused comes)))
        (record { answer = refl; bytes = refl; rows = refl })

    module _ {r : Planned} (comes : PlanComes d.open d.mode ledger plan (Ok r) each) where
      abbrev pub made : PlanMade d kept plan r out ledger
      made =
          let s = plan-stretches d.open d.mode ledger r plan comes in
          let f = replace-fits named d.blocks kept out ledger e t in
          record {
            ss = s.ss;
            laid = s.laid;
            block = s.block;
            count = s.count;
            low = s.low;
            placed = s.placed;
            fitting = f.fitting;
            inside = f.inside;
          }

      pub replace-as :
          {a : Answer} {out' ledger' : List ℕ} → Gives (exchange d.blocks kept (decode_rows d.blocks ledger) made.ss out ledger) a out' ledger'
          → Gives result a out' ledger'
      replace-as {a} {out'} {ledger'} g =
          subst (λ (x : Result). Gives x a out' ledger') (sym (result_by e true t (plan-stretches d.open d.mode ledger r plan comes).are)) g

-- ---- stretches that were planned

module _ {d : OpenDocument} {kept : ℕ} {plan : List Note} {p : Planned} {out ledger : List ℕ} (w : PlanMade d kept plan p out ledger) where
  abbrev n : ℕ
  n = d.blocks

  abbrev rs : List Row
  rs = decode_rows n ledger

  block_within : p.block ≤ n
  block_within = omega (arith, w.block, after-within w.laid)

  pub planned-row : 0 < p.block → HasRow (p.block - 1) ledger
  planned-row h = omega (arith, block_within, fits-long n kept ledger w.fitting)

  -- the first stretch
  pub plan-some : 0 < length plan
  plan-some = (laid_from w.laid).some

  pub first-row : 0 < (note_in plan).block → HasRow ((note_in plan).block - 1) ledger
  first-row h = omega (arith, (laid_from w.laid).says, (laid_from w.laid).within, fits-long n kept ledger w.fitting)

  abbrev new_text : List ℕ
  new_text = text_over kept rs w.ss out

  abbrev exchange-gives : Result
  exchange-gives = exchange n kept rs w.ss out ledger

  -- what is kept after the last stretch begins at `old`
  module _ {old : ℕ} (is-old : EndsBefore ledger p.block old) where
    old-is : old ≡ end_before (after_all 0 w.ss) rs
    old-is = is-old n block_within ∙ ap (λ k. end_before k rs) w.block

    pub planned-old : old ≤ kept
    planned-old = omega (arith, old-is, ends-kept n kept ledger w.fitting (after_all 0 w.ss) (after-within w.laid))

    abbrev new : ℕ
    new = p.at + (kept - old)

    capped : min cap new ≡ min cap (length new_text)
    capped = omega (arith, w.placed, old-is, over-long d.open d.mode ledger kept w.fitting out w.inside w.laid)

    -- what the definition gives, with a row for each of n blocks
    abbrev given-at : ℕ → Result
    given-at many =
        cond (room_for_text (length new_text) (length out) && leb (row_size * many) (length ledger))
        (record {
          answer = edited (length new_text) (pos (length new_text) -ℤ pos kept) (come_count w.ss);
          text = front_over new_text (length new_text) kept out;
          ledger = front_over (ledger_over n rs w.ss ledger) (row_size * many) (row_size * n) ledger;
        })
        (unchanged 15 0 out ledger)

    exchange-at : exchange-gives ≡ given-at n
    unfolding exchange
    exchange-at =
        let many : (n + come_count w.ss) - gone_count w.ss ≡ n = omega (arith, laid-even w.laid) in
        λ i. given-at (many i)

    module _ {b : Bool} (r : b ≡ room_for_text new (length out) && leb (row_size * n) (length ledger)) where
      room-same : b ≡ room_for_text (length new_text) (length out) && leb (row_size * n) (length ledger)
      room-same = r ∙ ap (λ x. x && leb (row_size * n) (length ledger)) (room_for new (length new_text) (length out) capped)

      pub planned-no-room : b ≡ false → Gives exchange-gives (refused 15 0) out ledger
      planned-no-room h = rw (exchange-at, ← room-same, h) (record { answer = refl; bytes = refl; rows = refl })

      module _ (h : b ≡ true) where
        pub planned-room : new ≤ min (length out) text_most
        unfolding room_for_text
        planned-room =
            leb-true new (min (length out) text_most)
            ((and-eq-true_iff (room_for_text new (length out)) (leb (row_size * n) (length ledger))).0 (sym r ∙ h)).0

        pub new_is : new ≡ length new_text
        new_is = omega (arith, capped, planned-room)

        -- the first stretch begins at `at`
        module _ {at : ℕ} (is_at : EndsBefore ledger ((note_in plan).block) at) where
          at-is : at ≡ end_before (next_block n w.ss) rs
          at-is =
              let f = laid_from w.laid in
              is_at n (omega (arith, f.says, f.within)) ∙ ap (λ k. end_before k rs) f.says

          pub long : at + length (rest_text kept rs w.ss out) ≡ length new_text
          long = omega (arith, at-is, over_first d.open d.mode ledger kept w.fitting out w.inside w.laid)

          abbrev pub exchangeable : Exchangeable d.content.rules.file.now d.content.rules.index.now d.content.rows.now d.content.text.now d.mode d.blocks plan at out ledger
          exchangeable =
              record {
                document = d.open;
                kept = kept;
                fitting = w.fitting;
                inside = w.inside;
                from = 0;
                ss = w.ss;
                laid = w.laid;
                room = omega (arith, long, new_is, planned-room);
                small = omega (arith, long, new_is, planned-room);
              }

          pub planned-done :
              {out₁ out₂ ledger₁ : List ℕ} {g : ℤ} {k : ℕ} → Exchanged n kept at w.ss out ledger out₁ ledger₁
              → out₂ ≡ sets out₁ new (replicate (kept - new) 0) → g ≡ pos new -ℤ pos kept → k ≡ p.count
              → Gives exchange-gives (edited new g k) out₂ ledger₁
          planned-done {out₁} {out₂} {ledger₁} {g} {k} x z e c =
              let text : out₂ ≡ front_over new_text (length new_text) kept out
              = whole-text d.open d.mode ledger kept w.fitting out w.inside w.laid (omega (arith, new_is, planned-room))
              (x.text ∙ ap (λ i. sets out i (rest_text kept rs w.ss out)) at-is)
              (z ∙ ap (λ i. sets out₁ i (replicate (kept - i) 0)) new_is) in
              let rows : ledger₁ ≡ front_over (ledger_over n rs w.ss ledger) (row_size * n) (row_size * n) ledger
              = whole-rows d.open d.mode ledger kept w.fitting out w.inside w.laid (omega (arith, new_is, planned-room))
              (x.rows ∙ ap (λ i. sets ledger (row_size * next_block n w.ss) (rest_rows n rs i w.ss ledger)) at-is) in
              let count : k ≡ come_count w.ss = c ∙ w.count in
              let size : edited new g k ≡ edited (length new_text) (pos (length new_text) -ℤ pos kept) (come_count w.ss)
              = (λ i. edited (new_is i) ((e ∙ ap (λ j. pos j -ℤ pos kept) new_is) i) (count i)) in
              rw (exchange-at, ← room-same, h) (record { answer = size; bytes = text; rows = rows })
