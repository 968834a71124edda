-- A stretch measured: a pass that stands before a named block, with the carry of the kept row before it, comes to what the definition
-- converts again (`again-came`); so it is refused as that is, or there is one stretch more (`stretch-noted`).
use mathlib.Core.Path.{◌≡◌, sym, ap, subst, ◌∙◌}
use mathlib.Core.Bool.{true}
use mathlib.Core.List.{List}
use Prim.Native.Nat.{ℕ, suc, ◌+◌, ◌-◌, ◌≤◌, ◌<◌, min}
use Rattle.std.specs.Prelude.{Result, Ok, Err}
use native.Mathlib.Omega.{arith}
use lib.ListN.{length, take, drop, set, length-drop}
use Rattle.text.specs.Writing.{cap}
use Rattle.refusals.specs.Refusals.{refusal_number}
use Rattle.refusals.specs.declared.Refusal.{Refusal}
use Rattle.mitex_syntax.specs.Tree.{size}
use Rattle.mitex_meaning.specs.State.{new_of, carry_of, Carried}
use Rattle.mitex_meaning.specs.declared.LaTeXMode.{LaTeXMode}
use Rattle.mitex_meaning.specs.declared.Converter.{Converter}
use Rattle.ledger.specs.Ledger.{Row, decode_rows, Piece, written}
use Rattle.edit_meaning.specs.Walk.{BlockConverter, rows_all, walk_until}
use Rattle.edit_meaning.specs.Walk.Walk.{stopped}
use Rattle.edit_meaning.specs.Edit.{end_before, carry_before, again}
use Rattle.edit_meaning.proofs.Bytes.{row_carries-at}
use Rattle.manuscript.specs.Manuscript.{listed, blocks_in}
use Rattle.manuscript.proofs.Manuscript.{listed-count}
use Rattle.passes.specs.Passes.{Document, CarriesBefore, BlocksUpTo, FirstPieces, Reaches, StandsBefore, Stood, Measures, Came, row_no, converter_of, carries_on, kept_block}
use Rattle.passes.specs.declared.Standing.{Standing}
use Rattle.passes.proofs.Starting.{blocks-begin, begins-as}
use Rattle.passes.proofs.Reaching.{stood-reaches}
use Rattle.passes.proofs.Pieces.{walk-gives, gives-within, some-until, came_refused, came-pieces, Came-to}
use Rattle.stretches.specs.Plans.{NextNoted}
use Rattle.stretches.specs.declared.Note.{Note}
use Rattle.stretches.specs.declared.Planned.{Planned}

module _ {rules index rows text : List ℕ} {n : ℕ} (w : Document rules index rows text n) (m : LaTeXMode) (ledger : List ℕ) where
  abbrev 𝓒 : BlockConverter
  𝓒 = blocks_in m w.rs

  abbrev bs : List 𝓒.Block
  bs = listed w.blocks

  abbrev kept : List Row
  kept = decode_rows n ledger

  -- a pass stands before block k, as the kept row before it says
  pub record StretchBegins (k : ℕ) (from : Standing) : Type 0 where
    pub below : k < n
    pub converter : Converter
    pub carries : CarriesBefore ledger k m converter
    pub stands : StandsBefore rows k 0 converter from

  pub stretch-begins :
      {k : ℕ} {c : Converter} {from : Standing} → k < n → CarriesBefore ledger k m c → StandsBefore rows k 0 c from → StretchBegins k from
  stretch-begins h carries stands = record { below = h; converter = _; carries = carries; stands = stands }

  module _ {k : ℕ} {from : Standing} (p : StretchBegins k from) where
    pub stood : Stood w.blocks rows text k 0 p.converter from
    stood = p.stands w.blocks text w.spells (omega (arith, w.many, p.below)) w.short

    pub carried : Carried (new_of m) (carry_before k kept) p.converter
    carried = p.carries n (omega (arith, p.below))

    abbrev pub whole : BlocksUpTo rules index rows text from n
    whole = blocks-begin w stood carried (omega arith) (omega (arith, p.below))

    walk-again :
        walk_until (converter_of whole.given) (carry_of from.converter) (row_no from) (listed stood.left)
        (carries_on (kept_block (suc from.block) n n) kept)
        ≡ again 𝓒 bs k kept
    unfolding again
    walk-again =
        let j : kept_block (suc from.block) n n ≡ suc k = omega (arith, stood.block) in
        begins-as w stood carried (omega arith) (omega (arith, p.below)) true (carries_on (kept_block (suc from.block) n n) kept)
        ∙ ap (λ (i : ℕ). walk_until 𝓒 (carry_before k kept) (1 + rows_all size (take k bs)) (drop k bs) (carries_on i kept)) j

    -- and measured up to where the carry is the kept one
    pub again-came :
        {r : Result Standing Refusal} → Measures rules index rows text from n n true ledger r → Came from r (again 𝓒 bs k kept)
    again-came {r} measured = subst (Came from r) walk-again (measured whole)

    pub stretch-refused :
        {e : Refusal} → Measures rules index rows text from n n true ledger (Err e)
        → again 𝓒 bs k kept ≡ stopped (refusal_number e.reason) e.row
    stretch-refused measured = came_refused (again-came measured)

    module _ {r : Standing} (measured : Measures rules index rows text from n n true ledger (Ok r)) where
      abbrev pub stretch-pieces : Came-to from r (again 𝓒 bs k kept)
      stretch-pieces = came-pieces (again-came measured)

      abbrev qs : List Piece
      qs = stretch-pieces.ps

      some : 0 < length qs
      unfolding again
      some =
          some-until 𝓒 (carry_before k kept) (1 + rows_all size (take k bs)) (drop k bs) _ _ qs
          (omega (arith, length-drop k bs, listed-count w.blocks, w.many, p.below))
          (ap (walk_until 𝓒 (carry_before k kept) (1 + rows_all size (take k bs)) (drop k bs)) (sym (row_carries-at n k ledger p.below))
          ∙ stretch-pieces.are)

      given : FirstPieces 𝓒 (carry_before k kept) (drop k bs) qs
      unfolding again
      given = walk-gives 𝓒 true (drop k bs) _ _ _ qs stretch-pieces.are

      pub stretch-block : r.block ≡ k + length qs
      stretch-block = omega (arith, stretch-pieces.block, stood.block)

      pub stretch-size : r.at ≡ min cap (length (written qs))
      stretch-size = omega (arith, stretch-pieces.place, stood.next)

      pub stretch-within : k + length qs ≤ n
      stretch-within = omega (arith, gives-within 𝓒 given, length-drop k bs, listed-count w.blocks, w.many, p.below)

      -- the stretch noted, and the plan with it
      pub stretch-noted :
          {s t : Planned} {plan plan' : List Note} → t.stretches ≡ s.stretches + 1 → t.count ≡ s.count + (r.block - k) → t.block ≡ r.block
          → t.at ≡ s.at + (end_before k kept - end_before s.block kept) + r.at → end_before k kept < cap → t.from ≡ k → t.i ≡ from.i
          → t.j ≡ from.j
          → plan' ≡ set plan s.stretches (record { block = k; after = r.block; size = r.at; i = from.i; j = from.j })
          → NextNoted w m ledger s k qs t plan plan'
      stretch-noted {s} {t} {plan} e₁ e₂ e₃ e₄ near e₅ e₆ e₇ e₈ =
          record {
            some = some;
            within = stretch-within;
            are = given;
            stretches = e₁;
            count = omega (arith, e₂, stretch-block);
            block = e₃ ∙ stretch-block;
            at = e₄ ∙ ap (λ x. s.at + (end_before k kept - end_before s.block kept) + x) stretch-size;
            near = near;
            from = e₅;
            reaches =
                subst (λ (i : ℕ). Reaches rows k k i t.j) (sym e₆)
                (subst (λ (j : ℕ). Reaches rows k k from.i j) (sym e₇) (stood-reaches p.stands));
            noted =
                e₈
                ∙ (λ i. set plan s.stretches
                (record { block = k; after = sym e₃ i; size = stretch-size i; i = sym e₆ i; j = sym e₇ i }));
          }
