-- Buffers that hold a document, told by its pieces: from the statement's own terms (`Holds`) to these (`holds-pieces`), and back
-- (`stands-holds`).
use mathlib.Core.Path.{◌≡◌, refl, sym, ap, ◌∙◌}
use mathlib.Core.Bool.{Bool, true, false, and-eq-true_iff}
use mathlib.Core.List.{List, ◌++◌}
use Prim.Native.Nat.{ℕ, ◌*◌, ◌≤◌, min}
use native.Mathlib.Omega.{arith}
use borrow.Author.Tests.{leb-true, le-leb}
use lib.ListN.{length, take, drop, take-append-drop, length-append}
use lib.Seq.{take-append_seam}
use Rattle.mitex_meaning.specs.Outcome.{Carry}
use Rattle.mitex_meaning.specs.Conversion.{start_carry}
use Rattle.mitex_meaning.specs.Keeping.{Short}
use Rattle.ledger.specs.Ledger.{row_size, encode_rows, Piece, written, rows_from}
use Rattle.ledger.proofs.Rows.{AllEncodable, AllShort, short_none, short_more, encode_rows-length, rows_from-length, rows_from-encodable}
use Rattle.edit_meaning.specs.Walk.{CheckedFile, BlockConverter, KeepsShort, Walk}
use Rattle.edit_meaning.specs.Walk.CheckedFile.{bad, good}
use Rattle.edit_meaning.specs.Walk.Walk.{stopped, pieces}
use Rattle.edit_meaning.specs.Edit.{text_most, room_for_text, room, settle, conversion, convert_document}
use Rattle.edit_meaning.specs.Edit.Answer.{refused, converted}
use Rattle.edit_meaning.specs.Run.{Kept, Holds}
use Rattle.edit_meaning.proofs.Walks.{WalkedBlocks, none_left, one_walked, walk-walked, walked-walk}

pub room_says : (n k : ℕ) (ps : List Piece) → room n k ps ≡ true → (length (written ps) ≤ min n text_most) × (row_size * length ps ≤ k)
unfolding room room_for_text
room_says n k ps r =
    let p = (and-eq-true_iff (room_for_text (length (written ps)) n) _).0 r in
    (leb-true (length (written ps)) (min n text_most) p.0, leb-true (row_size * length ps) k p.1)

pub rows-length : (ps : List Piece) → AllEncodable (rows_from 0 ps) → length (encode_rows (rows_from 0 ps)) ≡ row_size * length ps
rows-length ps ok = encode_rows-length ok ∙ ap (λ n. row_size * n) (rows_from-length 0 ps)

-- buffers that hold some pieces, and then any bytes
abbrev pub holding : List Piece → List ℕ → List ℕ → Kept
holding ps rest l = record { text = written ps ++ rest; ledger = encode_rows (rows_from 0 ps) ++ l; size = length (written ps) }

module _ (𝓒 : BlockConverter) (keeps-short : KeepsShort 𝓒) where
  open 𝓒 use {Block, check}

  walked-short : {c : Carry} {bs : List Block} {ps : List Piece} → WalkedBlocks 𝓒 c bs ps → Short c → AllShort ps
  walked-short none_left s = short_none
  walked-short (one_walked {c} {b} {bs} {c'} {t} e w) s = let s' : Short c' = keeps-short c c' b t s e in short_more s' (walked-short w s')

  -- the rows of a document that was converted can be written
  pub walked-encodable : {bs : List Block} {ps : List Piece} → WalkedBlocks 𝓒 start_carry bs ps → length (written ps) ≤ text_most → AllEncodable (rows_from 0 ps)
  walked-encodable w h = rows_from-encodable (walked-short w (omega arith)) 0 (omega arith)

  module _ (t l : List ℕ) where
    -- a tree whose conversion is ps, and buffers as long as t and l that hold it, with any bytes after
    pub record StandsIn (tree : List ℕ) (ps : List Piece) (rest l₂ : List ℕ) : Type 0 where
      pub blocks : List Block
      pub checked : check tree ≡ good blocks
      pub along : WalkedBlocks 𝓒 start_carry blocks ps
      pub small : length (written ps) ≤ text_most
      pub text_size : length (written ps ++ rest) ≡ length t
      pub ledger_size : length (encode_rows (rows_from 0 ps) ++ l₂) ≡ length l

    module _ {tree : List ℕ} {ps : List Piece} {rest l₂ : List ℕ} (st : StandsIn tree ps rest l₂) where
      pub stands-conversion : conversion 𝓒 tree ≡ pieces ps
      unfolding conversion
      stands-conversion = rw st.checked (walked-walk 𝓒 st.along 1)

      pub stands-encodable : AllEncodable (rows_from 0 ps)
      stands-encodable = walked-encodable st.along st.small

      stands-room : room (length t) (length l) ps ≡ true
      unfolding room room_for_text
      stands-room =
          let n : length (written ps) ≤ min (length t) text_most = omega (arith, st.text_size, st.small, length-append (written ps) rest) in
          let k : row_size * length ps ≤ length l
          = omega (arith, rows-length ps stands-encodable, st.ledger_size, length-append (encode_rows (rows_from 0 ps)) l₂) in
          rw (le-leb (length (written ps)) (min (length t) text_most) n, le-leb (row_size * length ps) (length l) k)

      pub stands-accepted : (convert_document 𝓒 tree t l).answer ≡ converted (length (written ps)) (length ps)
      unfolding convert_document settle
      stands-accepted =
          let c : conversion 𝓒 tree ≡ pieces ps = stands-conversion in
          let r : room (length t) (length l) ps ≡ true = stands-room in
          rw (c, r)

      pub stands-holds : Holds 𝓒 t l tree (holding ps rest l₂)
      unfolding convert_document settle
      stands-holds =
          let n : row_size * length ps ≡ length (encode_rows (rows_from 0 ps)) = sym (rows-length ps stands-encodable) in
          let c : conversion 𝓒 tree ≡ pieces ps = stands-conversion in
          let r : room (length t) (length l) ps ≡ true = stands-room in
          record {
            blocks = length ps;
            accepted = stands-accepted;
            text = rw (c, r, take-append_seam (written ps) rest, take-append_seam (written ps) (drop (length (written ps)) t));
            rows =
                rw (
                  c,
                  r,
                  n,
                  take-append_seam (encode_rows (rows_from 0 ps)) l₂,
                  take-append_seam (encode_rows (rows_from 0 ps)) (drop (length (encode_rows (rows_from 0 ps))) l),
                );
            text_size = st.text_size;
            ledger_size = st.ledger_size;
          }

    -- buffers that hold a document are its pieces and some bytes
    pub record HoldsPieces (tree : List ℕ) (s : Kept) : Type 0 where
      pub ps : List Piece
      pub rest : List ℕ
      pub l₂ : List ℕ
      pub is : s ≡ holding ps rest l₂
      pub stands : StandsIn tree ps rest l₂

    module _ (tree : List ℕ) (s : Kept) (ho : Holds 𝓒 t l tree s) where
      found-room :
          (bs : List Block) (ps : List Piece) → check tree ≡ good bs → conversion 𝓒 tree ≡ pieces ps
          → (b : Bool) → room (length t) (length l) ps ≡ b → HoldsPieces tree s
      unfolding convert_document settle conversion
      found-room bs ps ch c false r =
          let x : refused 15 0 ≡ converted s.size ho.blocks = rw (c, r) at ho.accepted in
          let y : ◌≡◌ {A = ℕ} 0 1 = cc in absurd (omega arith)
      found-room bs ps ch c true r =
          let x : converted (length (written ps)) (length ps) ≡ converted s.size ho.blocks = rw (c, r) at ho.accepted in
          let n : length (written ps) ≡ s.size = cc in
          let k : length ps ≡ ho.blocks = cc in
          let w : WalkedBlocks 𝓒 start_carry bs ps = walk-walked 𝓒 bs start_carry 1 ps (rw ch at c) in
          let fit : (length (written ps) ≤ min (length t) text_most) × (row_size * length ps ≤ length l) = room_says (length t) (length l) ps r in
          let j : row_size * length ps ≡ length (encode_rows (rows_from 0 ps)) = sym (rows-length ps (walked-encodable w (omega arith))) in
          let tx : take (length (written ps)) s.text ≡ written ps
          = rw (c, r, ← n) at ho.text ∙ take-append_seam (written ps) (drop (length (written ps)) t) in
          let ld : take (row_size * length ps) s.ledger ≡ encode_rows (rows_from 0 ps)
          = rw (c, r, ← k) at ho.rows ∙ rw j (take-append_seam (encode_rows (rows_from 0 ps)) (drop (length (encode_rows (rows_from 0 ps))) l)) in
          let te : s.text ≡ written ps ++ drop (length (written ps)) s.text
          = sym (ap (λ x. x ++ drop (length (written ps)) s.text) (sym tx) ∙ take-append-drop (length (written ps)) s.text) in
          let le : s.ledger ≡ encode_rows (rows_from 0 ps) ++ drop (row_size * length ps) s.ledger
          = sym (ap (λ x. x ++ drop (row_size * length ps) s.ledger) (sym ld) ∙ take-append-drop (row_size * length ps) s.ledger) in
          record {
            ps = ps;
            rest = drop (length (written ps)) s.text;
            l₂ = drop (row_size * length ps) s.ledger;
            is = λ i. record { text = te i; ledger = le i; size = sym n i };
            stands = record {
              blocks = bs;
              checked = ch;
              along = w;
              small = omega arith;
              text_size = ap length (sym te) ∙ ho.text_size;
              ledger_size = ap length (sym le) ∙ ho.ledger_size;
            };
          }

      found-walk : (bs : List Block) → check tree ≡ good bs → (w : Walk) → conversion 𝓒 tree ≡ w → HoldsPieces tree s
      unfolding convert_document settle
      found-walk bs ch (stopped n i) c =
          let x : refused n i ≡ converted s.size ho.blocks = rw c at ho.accepted in
          let y : ◌≡◌ {A = ℕ} 0 1 = cc in absurd (omega arith)
      found-walk bs ch (pieces ps) c = found-room bs ps ch c (room (length t) (length l) ps) refl

      found-check : (x : CheckedFile Block) → check tree ≡ x → HoldsPieces tree s
      unfolding convert_document settle conversion
      found-check (bad n i) ch =
          let x : refused n i ≡ converted s.size ho.blocks = rw ch at ho.accepted in
          let y : ◌≡◌ {A = ℕ} 0 1 = cc in absurd (omega arith)
      found-check (good bs) ch = found-walk bs ch (conversion 𝓒 tree) refl

      pub holds-pieces : HoldsPieces tree s
      holds-pieces = found-check (check tree) refl
