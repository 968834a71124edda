-- What Convert comes to. The walk of the drafting pass is the document's (`came`): it was refused (`settled-refused`), or it gave a piece
-- for each block. Then text and rows have room or not (`settled-no-room`), the pass left a draft of the pieces (`settled-draft`), and
-- whoever delivers it leaves what Convert is to leave (`settled-done`).
use mathlib.Core.Path.{◌≡◌, refl, sym, ap, subst, ◌∙◌}
use mathlib.Core.Bool.{Bool, true, false, ◌&&◌}
use mathlib.Core.List.{List, [], ◌++◌, append-nil}
use mathlib.Core.Option.Option.{some}
use Prim.Native.Nat.{ℕ, ◌*◌, ◌/◌, ◌≤◌, min}
use native.Mathlib.Omega.{arith}
use borrow.Author.Tests.{le-leb, lt-leb, leb-true, leb-false}
use lib.ListN.{length, take, drop, drop_of_length-le}
use lib.Seq.{sets, length-take-le, take-append_seam}
use lib.Dec.{leb}
use Rattle.text.specs.Writing.{cap}
use Rattle.mitex_meaning.specs.Conversion.{start_carry}
use Rattle.mitex_meaning.specs.State.{new_of, Carried}
use Rattle.mitex_meaning.specs.declared.Converter.{Converter}
use Rattle.ledger.specs.Ledger.{row_size, encode_rows, Piece, written, rows_from}
use Rattle.edit_meaning.specs.Walk.{Walk, walk}
use Rattle.edit_meaning.specs.Walk.Walk.{stopped, pieces}
use Rattle.edit_meaning.specs.Edit.{text_most, room_for_text, room, at_front, settle}
use Rattle.edit_meaning.specs.Edit.Answer.{refused, converted}
use Rattle.edit_meaning.specs.Calls.{Gives}
use Rattle.edit_meaning.proofs.Bytes.{at_front-stored}
use Rattle.edit_meaning.proofs.Holding.{room_says, walked-encodable, rows-length}
use Rattle.edit_meaning.proofs.Walks.{WalkedBlocks, walk-walked, walked-length}
use Rattle.manuscript.specs.Manuscript.{listed, blocks_in}
use Rattle.std.specs.Prelude.{Result, Ok, Err}
use Rattle.refusals.specs.Refusals.{refusal_number}
use Rattle.refusals.specs.declared.Refusal.{Refusal}
use Rattle.passes.specs.Passes.{Pieced, Stood, Came, Measures, Writes}
use Rattle.passes.specs.declared.open.OpenDocument.{OpenDocument}
use Rattle.passes.specs.declared.Standing.{Standing}
use Rattle.manuscript.proofs.Manuscript.{keeps-short}
use Rattle.passes.proofs.Pieces.{walk-gives, came_refused, Came-to, came-pieces}
use Rattle.manuscript.proofs.Manuscript.{listed-count}
use Rattle.calls.specs.Calls.{Draft, Delivers}
use Rattle.passes.proofs.Starting.{blocks-begin, begins-as}

-- ---- a walk settled

settle-stopped : {v : Walk} {n i : ℕ} (out ledger : List ℕ) → v ≡ stopped n i → Gives (settle v out ledger) (refused n i) out ledger
unfolding settle
settle-stopped out ledger e = rw e (record { answer = refl; bytes = refl; rows = refl })

module _ {v : Walk} {ps : List Piece} (out ledger : List ℕ) (is : v ≡ pieces ps) where
  settle-full : room (length out) (length ledger) ps ≡ false → Gives (settle v out ledger) (refused 15 0) out ledger
  unfolding settle
  settle-full e = rw (is, e) (record { answer = refl; bytes = refl; rows = refl })

  settle-done :
      {a n : ℕ} {out' ledger' : List ℕ} → room (length out) (length ledger) ps ≡ true → a ≡ length (written ps) → n ≡ length ps
      → out' ≡ at_front (written ps) out → ledger' ≡ at_front (encode_rows (rows_from 0 ps)) ledger
      → Gives (settle v out ledger) (converted a n) out' ledger'
  unfolding settle
  settle-done e ea en eo el = rw (is, e) (record { answer = λ i. converted (ea i) (en i); bytes = eo; rows = el })

-- a length as far as a row can say it has room where the length has
pub room_for : (a b size : ℕ) → min cap a ≡ min cap b → room_for_text a size ≡ room_for_text b size
unfolding room_for_text
room_for a b size e = go (leb a (min size text_most)) refl
  where
    go : (x : Bool) → leb a (min size text_most) ≡ x → leb a (min size text_most) ≡ leb b (min size text_most)
    go true q = q ∙ sym (le-leb b (min size text_most) (omega (arith, leb-true a (min size text_most) q)))
    go false q = q ∙ sym (lt-leb b (min size text_most) (omega (arith, leb-false a (min size text_most) q)))

-- so many rows have room where they are no more than the buffer's length divided by that of a row
pub rows-fit : (n size : ℕ) → leb n (size / 128) ≡ leb (row_size * n) size
rows-fit n size = go (leb n (size / 128)) refl
  where
    go : (x : Bool) → leb n (size / 128) ≡ x → leb n (size / 128) ≡ leb (row_size * n) size
    go true q = q ∙ sym (le-leb (row_size * n) size (omega (arith, leb-true n (size / 128) q)))
    go false q = q ∙ sym (lt-leb (row_size * n) size (omega (arith, leb-false n (size / 128) q)))

-- a text stored in a buffer as long as itself is all of it
pub stored_whole : (new out : List ℕ) → length out ≡ length new → new ≡ sets out 0 new
stored_whole new out e =
    sym
    (at_front-stored out new (omega arith)
    ∙ ap (λ r. new ++ r) (drop_of_length-le out {i = length new} (omega arith))
    ∙ append-nil new)

-- a text written over a lent part as long as itself
part-put :
    (new out out₁ : List ℕ) (at : ℕ) → at ≡ length new → at ≤ length out → out₁ ≡ sets (take at out) 0 new
    → out₁ ++ drop at out ≡ at_front new out
part-put new out out₁ at e h w =
    let l = length-take-le at out h in
    let whole : out₁ ≡ new = w ∙ sym (stored_whole new (take at out) (omega arith)) in
    λ i. whole i ++ drop (e i) out

-- a text written at the start of a buffer is what the buffer begins with
taken : (new buf buf' : List ℕ) (n : ℕ) → n ≡ length new → n ≤ length buf → buf' ≡ sets buf 0 new → take n buf' ≡ new
taken new buf buf' n e h w =
    (λ i. take (e i) (w i))
    ∙ ap (take (length new)) (at_front-stored buf new (omega arith))
    ∙ take-append_seam new (drop (length new) buf)

-- ---- a document measured from its first block on

abbrev pub document_walk : OpenDocument → Walk
document_walk d = walk (blocks_in d.mode d.open.rs) start_carry 1 (listed d.open.blocks)

-- the pass stood before the first block, and came from there to the document's walk
pub record DraftPassed (d : OpenDocument) (from : Standing) (r : Result Standing Refusal) : Type 0 where
  pub converter : Converter
  pub stood : Stood d.open.blocks d.content.rows.now d.content.text.now 0 0 converter from
  pub carried : Carried (new_of d.mode) start_carry converter
  pub came : Came from r (document_walk d)

module _ {d : OpenDocument} where
  pub draft-passed :
      {c : Converter} {from : Standing} {r : Result Standing Refusal} → Stood d.open.blocks d.content.rows.now d.content.text.now 0 0 c from
      → Carried (new_of d.mode) start_carry c
      → Measures d.content.rules.file.now d.content.rules.index.now d.content.rows.now d.content.text.now from d.blocks d.blocks false [] r → DraftPassed d from r
  draft-passed {c} {from} {r} st car me =
      record {
        converter = c;
        stood = st;
        carried = car;
        came = subst (Came from r) (begins-as d.open st car (omega arith) (omega arith) false [])
            (me (blocks-begin d.open st car (omega arith) (omega arith)));
      }

  module _ {from : Standing} (out ledger : List ℕ) where
    pub settled-refused :
        {e : Refusal} → DraftPassed d from (Err e) → Gives (settle (document_walk d) out ledger) (refused (refusal_number e.reason) e.row) out ledger
    settled-refused p = settle-stopped out ledger (came_refused p.came)

    module _ {r : Standing} (p : DraftPassed d from (Ok r)) where
      abbrev measured : Came-to from r (document_walk d)
      measured = came-pieces p.came

      walked : WalkedBlocks (blocks_in d.mode d.open.rs) start_carry (listed d.open.blocks) measured.ps
      walked = walk-walked (blocks_in d.mode d.open.rs) (listed d.open.blocks) start_carry 1 measured.ps measured.are

      -- a piece for each block
      many : length measured.ps ≡ d.blocks
      many = sym (walked-length (blocks_in d.mode d.open.rs) walked) ∙ listed-count d.open.blocks ∙ d.open.many

      -- the room that the code asks for is that of the definition
      module _ {b : Bool} (is : b ≡ room_for_text r.at (length out) && leb (row_size * d.blocks) (length ledger)) where
        room-is : b ≡ room (length out) (length ledger) measured.ps
        unfolding room
        room-is =
            let l = length (written measured.ps) in
            let e : min cap r.at ≡ min cap l = omega (arith, measured.place, p.stood.next) in
            is ∙ (λ i. room_for r.at l (length out) e i && leb (row_size * sym many i) (length ledger))

        pub settled-no-room : b ≡ false → Gives (settle (document_walk d) out ledger) (refused 15 0) out ledger
        settled-no-room e = settle-full out ledger measured.are (sym room-is ∙ e)

        -- there is room
        module _ (e : b ≡ true) where
          fit : (length (written measured.ps) ≤ min (length out) text_most) × (row_size * length measured.ps ≤ length ledger)
          fit = room_says (length out) (length ledger) measured.ps (sym room-is ∙ e)

          exact : r.at ≡ length (written measured.ps)
          exact = omega (arith, measured.place, p.stood.next, fit.0)

          pub settled-within : r.at ≤ min (length out) text_most
          settled-within = omega (arith, fit.0, exact)

          -- they can be written, with a ledger that has a row for each block
          abbrev pieced : (l : List ℕ) → row_size * d.blocks ≤ length l → Pieced d.content.rules.file.now d.content.rules.index.now d.content.rows.now d.content.text.now from d.blocks l
          pieced l h =
              let s = p.stood in
              record {
                given = (blocks-begin d.open s p.carried (omega arith) (omega arith)).given;
                ps = measured.ps;
                gives = walk-gives _ false _ _ _ [] _ (begins-as d.open s p.carried (omega arith) (omega arith) false [] ∙ measured.are);
                many = omega (arith, s.block, many);
                end = omega (arith, s.next, exact, fit.0);
                room = h;
                few = d.open.most;
              }

          -- each piece has a row
          rows_long : row_size * d.blocks ≡ length (encode_rows (rows_from 0 measured.ps))
          rows_long =
              let en = walked-encodable (blocks_in d.mode d.open.rs) (keeps-short (some d.mode) (some d.open.rs)) walked (omega (arith, exact, fit.0)) in
              omega (arith, rows-length measured.ps en, many)

          -- text and rows begin where the buffers begin
          text-first : (l : List ℕ) → sets l from.at (written measured.ps) ≡ sets l 0 (written measured.ps)
          text-first l = ap (λ a. sets l a (written measured.ps)) p.stood.next

          rows-first :
              (l : List ℕ) → sets l (row_size * from.block) (encode_rows (rows_from from.at measured.ps))
              ≡ sets l 0 (encode_rows (rows_from 0 measured.ps))
          rows-first l = λ i. sets l (row_size * p.stood.block i) (encode_rows (rows_from (p.stood.next i) measured.ps))

          -- the pass wrote to buffers of its own
          module _ {text₀ rows₀ text₁ rows₁ : List ℕ} (lt : length text₁ ≡ length text₀) (lr : length rows₁ ≡ length rows₀)
              (h : row_size * d.blocks ≤ length rows₀) (writes : Writes d.content.rules.file.now d.content.rules.index.now d.content.rows.now d.content.text.now from d.blocks text₀ rows₀ text₁ rows₁) where
            abbrev draft : Draft d from text₁ rows₁ (take r.at out) ledger
            draft =
                let x = writes (pieced rows₀ h) in
                let ps = measured.ps in
                let long = length-take-le r.at out (omega (arith, settled-within)) ∙ exact in
                record {
                  pieced = pieced ledger (omega (arith, fit.1, many));
                  first = p.stood.next;
                  begins = p.stood.block;
                  long = long;
                  holds = λ k. taken (written ps) text₀ text₁ _ long (omega (arith, k, lt)) (x.text ∙ text-first text₀);
                  room = omega (arith, h, lr);
                  holds_rows = taken (encode_rows (rows_from 0 ps)) rows₀ rows₁ _ rows_long h (x.rows ∙ rows-first rows₀);
                }

            pub settled-draft : Draft d from text₁ rows₁ (take r.at out) ledger
            settled-draft = draft

            pub settled-done :
                (out₁ ledger' : List ℕ)
                → Delivers d from text₁ rows₁ (take r.at out) ledger out₁ ledger'
                → Gives (settle (document_walk d) out ledger) (converted r.at d.blocks) (out₁ ++ drop r.at out) ledger'
            settled-done out₁ ledger' delivers =
                let x = delivers draft in
                let ps = measured.ps in
                let at = r.at in
                settle-done out ledger measured.are (sym room-is ∙ e) exact (sym many)
                (part-put (written ps) out out₁ at exact (omega (arith, settled-within)) (x.text ∙ text-first (take at out)))
                (x.rows
                ∙ rows-first ledger
                ∙ at_front-stored ledger (encode_rows (rows_from 0 ps)) (omega (arith, fit.1, many, rows_long)))
