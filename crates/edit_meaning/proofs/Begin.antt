-- What an accepted Convert leaves is what demand 3 starts from (`converts-holds`): only that both buffers keep their length is left to
-- show, since `Holds` speaks of the very buffers that the conversion leaves. So do buffers that hold its text and its rows, whatever else
-- they hold and however long they are (`converts-starts`).
use mathlib.Core.Path.{◌≡◌, refl, sym, ap, ap₂, subst, ◌∙◌}
use mathlib.Core.Bool.{Bool, true, false}
use mathlib.Core.List.{List, ◌++◌}
use Prim.Native.Nat.{ℕ, ◌*◌, ◌≤◌, min}
use native.Mathlib.Omega.{arith}
use lib.ListN.{length, take, drop, length-append, length-drop, take-append-drop}
use lib.Seq.{take-append_seam}
use Rattle.mitex_meaning.specs.Conversion.{start_carry}
use Rattle.ledger.specs.Ledger.{row_size, encode_rows, Piece, written, rows_from}
use Rattle.edit_meaning.specs.Walk.{CheckedFile, BlockConverter, KeepsShort, Walk}
use Rattle.edit_meaning.specs.Walk.CheckedFile.{bad, good}
use Rattle.edit_meaning.specs.Walk.Walk.{stopped, pieces}
use Rattle.edit_meaning.specs.Edit.{text_most, room, at_front, settle, conversion, convert_document}
use Rattle.edit_meaning.specs.Edit.Answer.{refused, converted}
use Rattle.edit_meaning.specs.Run.{Kept, Holds}
use Rattle.edit_meaning.specs.Calls.{Converts}
use Rattle.edit_meaning.proofs.Walks.{WalkedBlocks, walk-walked}
use Rattle.edit_meaning.proofs.Holding.{room_says, rows-length, holding, walked-encodable, StandsIn, stands-encodable, stands-accepted, stands-holds, HoldsPieces, holds-pieces}

at_front-length : (new l : List ℕ) → length new ≤ length l → length (at_front new l) ≡ length l
at_front-length new l h = simp (length-append, length-drop) (omega arith)

module _ (𝓒 : BlockConverter) (keeps-short : KeepsShort 𝓒) (tree t l : List ℕ) (size blocks : ℕ) where
  open 𝓒 use {Block, check}

  abbrev left : Kept
  left = record { text = (convert_document 𝓒 tree t l).text; ledger = (convert_document 𝓒 tree t l).ledger; size = size }

  sized :
      (bs : List Block) (ps : List Piece) → check tree ≡ good bs → conversion 𝓒 tree ≡ pieces ps → (b : Bool) → room (length t) (length l) ps ≡ b
      → (convert_document 𝓒 tree t l).answer ≡ converted size blocks
      → (length (convert_document 𝓒 tree t l).text ≡ length t) × (length (convert_document 𝓒 tree t l).ledger ≡ length l)
  unfolding convert_document settle conversion
  sized bs ps ch c false r e =
      let x : refused 15 0 ≡ converted size blocks = rw (c, r) at e in
      let y : ◌≡◌ {A = ℕ} 0 1 = cc in absurd (omega arith)
  sized bs ps ch c true r e =
      let fit : (length (written ps) ≤ min (length t) text_most) × (row_size * length ps ≤ length l) = room_says (length t) (length l) ps r in
      let w : WalkedBlocks 𝓒 start_carry bs ps = walk-walked 𝓒 bs start_carry 1 ps (rw ch at c) in
      let n : length (encode_rows (rows_from 0 ps)) ≡ row_size * length ps = rows-length ps (walked-encodable 𝓒 keeps-short w (omega arith)) in
      (rw (c, r) (at_front-length (written ps) t (omega arith)), rw (c, r) (at_front-length (encode_rows (rows_from 0 ps)) l (omega arith)))

  by-walk :
      (bs : List Block) → check tree ≡ good bs → (w : Walk) → conversion 𝓒 tree ≡ w → (convert_document 𝓒 tree t l).answer ≡ converted size blocks
      → (length (convert_document 𝓒 tree t l).text ≡ length t) × (length (convert_document 𝓒 tree t l).ledger ≡ length l)
  unfolding convert_document settle
  by-walk bs ch (stopped n i) c e =
      let x : refused n i ≡ converted size blocks = rw c at e in
      let y : ◌≡◌ {A = ℕ} 0 1 = cc in absurd (omega arith)
  by-walk bs ch (pieces ps) c e = sized bs ps ch c (room (length t) (length l) ps) refl e

  by-check :
      (x : CheckedFile Block) → check tree ≡ x → (convert_document 𝓒 tree t l).answer ≡ converted size blocks
      → (length (convert_document 𝓒 tree t l).text ≡ length t) × (length (convert_document 𝓒 tree t l).ledger ≡ length l)
  unfolding convert_document settle conversion
  by-check (bad n i) ch e =
      let x : refused n i ≡ converted size blocks = rw ch at e in
      let y : ◌≡◌ {A = ℕ} 0 1 = cc in absurd (omega arith)
  by-check (good bs) ch e = by-walk bs ch (conversion 𝓒 tree) refl e

  pub converted-holds : (convert_document 𝓒 tree t l).answer ≡ converted size blocks → Holds 𝓒 t l tree left
  converted-holds e =
      let n = by-check (check tree) refl e in
      record { blocks = blocks; accepted = e; text = refl; rows = refl; text_size = n.0; ledger_size = n.1 }

  -- told of the call: what the contract of `convert` gives
  pub converts-holds :
      {text' ledger' : List ℕ} → Converts 𝓒 tree t l (converted size blocks) text' ledger'
      → Holds 𝓒 t l tree (record { text = text'; ledger = ledger'; size = size })
  converts-holds g =
      let s : left ≡ record { text = _; ledger = _; size = size }
      = λ i. record { text = sym g.gives.bytes i; ledger = sym g.gives.rows i; size = size } in
      subst (Holds 𝓒 t l tree) s (converted-holds (sym g.gives.answer))

  module _ {text₁ ledger₁ : List ℕ} (g : Converts 𝓒 tree t l (converted size blocks) text₁ ledger₁) (text ledger : List ℕ)
      (same_text : take size text ≡ take size text₁) (same_rows : take (row_size * blocks) ledger ≡ take (row_size * blocks) ledger₁) where
    there : HoldsPieces 𝓒 keeps-short t l tree (record { text = text₁; ledger = ledger₁; size = size })
    there = holds-pieces 𝓒 keeps-short t l tree (record { text = text₁; ledger = ledger₁; size = size }) (converts-holds g)

    abbrev ps : List Piece
    ps = there.ps

    -- the pieces' text and rows at the front of the buffers
    sized-text : size ≡ length (written ps)
    sized-text = ap (λ s. s.size) there.is

    counted : blocks ≡ length ps
    counted =
        let a : converted size blocks ≡ converted (length (written ps)) (length ps)
        = g.gives.answer ∙ stands-accepted 𝓒 keeps-short t l there.stands in
        cc

    front-text : text ≡ written ps ++ drop size text
    front-text =
        let e : take size text ≡ written ps
        = same_text ∙ ap₂ (λ n s. take n s.text) sized-text there.is ∙ take-append_seam (written ps) there.rest in
        sym (take-append-drop size text) ∙ ap (λ x. x ++ drop size text) e

    front-rows : ledger ≡ encode_rows (rows_from 0 ps) ++ drop (row_size * blocks) ledger
    front-rows =
        let n : row_size * blocks ≡ length (encode_rows (rows_from 0 ps))
        = ap (λ k. row_size * k) counted ∙ sym (rows-length ps (stands-encodable 𝓒 keeps-short t l there.stands)) in
        let e : take (row_size * blocks) ledger ≡ encode_rows (rows_from 0 ps)
        = same_rows ∙ ap₂ (λ k s. take k s.ledger) n there.is ∙ take-append_seam (encode_rows (rows_from 0 ps)) there.l₂ in
        sym (take-append-drop (row_size * blocks) ledger) ∙ ap (λ x. x ++ drop (row_size * blocks) ledger) e

    pub converts-starts : Holds 𝓒 text ledger tree (record { text = text; ledger = ledger; size = size })
    converts-starts =
        let st : StandsIn 𝓒 keeps-short text ledger tree ps (drop size text) (drop (row_size * blocks) ledger)
        = record {
          blocks = there.stands.blocks;
          checked = there.stands.checked;
          along = there.stands.along;
          small = there.stands.small;
          text_size = ap length (sym front-text);
          ledger_size = ap length (sym front-rows);
        } in
        let s : holding ps (drop size text) (drop (row_size * blocks) ledger) ≡ record { text = text; ledger = ledger; size = size }
        = λ i. record { text = sym front-text i; ledger = sym front-rows i; size = sym sized-text i } in
        subst (Holds 𝓒 text ledger tree) s (stands-holds 𝓒 keeps-short text ledger st)
