-- Demand 3, over every list of changes (`demand-changes`). One change leaves buffers that hold the next document, with the answer and the
-- moved text that are demanded (`step`): by its tree's check, by whether what it names can be changed, by what it converts again
-- (`remakes`, which is all that a kind of change has to say), and by the room for the new text and rows. The list follows by recursion.
use mathlib.Core.Path.{◌≡◌, refl, sym, ap, ap₂, subst, ◌∙◌}
use mathlib.Core.Bool.{Bool, true, false, cond, and-eq-true_iff}
use mathlib.Core.List.{List, [], ◌∷◌, ◌++◌, append_assoc}
use Prim.Native.Nat.{ℕ, suc, ◌+◌, ◌*◌, ◌-◌, ◌≤◌, min, max}
use native.Mathlib.Omega.{arith}
use borrow.Author.Tests.{le-leb, ltb-true}
use lib.IntN.{pos, ◌-ℤ◌}
use lib.ListN.{length, take, drop, replicate, length-append}
use Rattle.mitex_meaning.specs.Conversion.{start_carry}
use Rattle.ledger.specs.Ledger.{row_size, encode_rows, decode_rows, Piece, written, rows_from}
use Rattle.ledger.proofs.Rows.{AllEncodable, decode_rows-encode, rows_from-length, fits-encode}
use Rattle.edit_meaning.specs.Walk.{CheckedFile, BlockConverter, KeepsShort, Walk, carries, carry_after, walk}
use Rattle.edit_meaning.specs.Walk.CheckedFile.{bad, good}
use Rattle.edit_meaning.specs.Walk.Walk.{stopped, pieces}
use Rattle.edit_meaning.specs.Edit.{Result, unchanged, text_most, room, settle, conversion, convert_document}
use Rattle.edit_meaning.specs.Edit.Answer.{refused, edited}
use Rattle.edit_meaning.specs.Run.{Kept, leaves, pieces_of, edit_answer, document_after, Holds}
use Rattle.edit_meaning.specs.Changes.{Kind, Change, rise_below, some_named, named_there, old_count, change_fits, Stretch, come_count, Remade}
use Rattle.edit_meaning.specs.Changes.{remake, front_over, exchange_or, change, call_change, run_changes, lacks_named, count_by, BlocksBeside}
use Rattle.edit_meaning.specs.Changes.{demanded_change, document_changed, reference_changes, PermittedChange, AllowedChanges}
use Rattle.edit_meaning.specs.Changes.{text_from_block, moved_by, block_count, change_moved, ChangesMoved, DemandChanges}
use Rattle.edit_meaning.specs.Changes.Kind.{replace, put_in, take_out, replace_all}
use Rattle.edit_meaning.specs.Changes.Remade.{remade}
use Rattle.edit_meaning.proofs.Walks.{WalkedBlocks, walk-walked, walked-length}
use Rattle.edit_meaning.proofs.Reading.{text-after, block-text, block-carry}
use Rattle.edit_meaning.proofs.Holding.{holding, room_says, walked-encodable, rows-length, HoldsPieces, holds-pieces}
use Rattle.edit_meaning.proofs.Holding.{StandsIn, stands-conversion, stands-encodable, stands-holds}
use Rattle.edit_meaning.proofs.Stretches.{Spliced, exchange-spliced, front_over-length}
use Rattle.edit_meaning.proofs.Remaking.{Shared, PiecesMoved, Remakes, halts, comes_to, replaces, puts-in, takes_out}
use Rattle.edit_meaning.proofs.Together.{replaces-all}

-- ---- what was not converted again, in the buffers

module _ (ps ns : List Piece) (rest l rest' l' : List ℕ) (ok : AllEncodable (rows_from 0 ps)) (ok' : AllEncodable (rows_from 0 ns)) where
  shared-after : (j j' : ℕ) → Shared j j' ns ps → text_from_block j (holding ns rest' l') ≡ text_from_block j' (holding ps rest l)
  shared-after j j' sh =
      let now : text_from_block j (holding ns rest' l') ≡ written sh.back
      = rw sh.new (text-after sh.now sh.back j sh.now_length (rw (← sh.new) ok') rest' l') in
      let was : text_from_block j' (holding ps rest l) ≡ written sh.back
      = rw sh.old (text-after sh.was sh.back j' sh.was_length (rw (← sh.old) ok) rest l) in
      now ∙ sym was

  moved-pieces :
      (k : Kind) (count blocks : ℕ) → length ns ≡ blocks → old_count k blocks ≡ length ps → PiecesMoved k count ps ns
      → moved_by k count blocks (holding ps rest l) (holding ns rest' l')
  moved-pieces (replace k) count blocks n o sh = shared-after (k + count) (k + count) sh
  moved-pieces (put_in k) count blocks n o sh = shared-after (k + count) (k + (count - 1)) sh
  moved-pieces (take_out k) count blocks n o sh = shared-after (k + count) (k + suc count) sh
  moved-pieces (replace_all ks) count blocks n o same =
      λ i h e b.
      let c : carry_after start_carry (take i ns) ≡ carry_after start_carry (take i ps)
      = sym (block-carry ns rest' l' ok' i (omega arith)) ∙ b ∙ block-carry ps rest l ok i (omega arith) in
      block-text ns rest' l' ok' i (omega arith) ∙ ap written (same i e c) ∙ sym (block-text ps rest l ok i (omega arith))

-- the document before had as many blocks as the change says
old-count :
    {Block : Type 0} (k : Kind) (bs bs' : List Block) → named_there k (length bs') ≡ true → BlocksBeside k bs bs' → old_count k (length bs') ≡ length bs
old-count (replace k) bs bs' h b = b.count
old-count (put_in k) bs bs' h b = let e : length bs' ≡ suc (length bs) = b.count in omega arith
old-count (take_out k) bs bs' h b = sym b.count
old-count (replace_all ks) bs bs' h b = b.count

module _ (𝓒 : BlockConverter) (keeps-short : KeepsShort 𝓒) where
  open 𝓒 use {Block, check}

  -- what a change converts again, by its kind
  remakes :
      (k : Kind) (bs bs' : List Block) (ps : List Piece) → WalkedBlocks 𝓒 start_carry bs ps → named_there k (length bs') ≡ true → BlocksBeside k bs bs'
      → Remakes 𝓒 k bs' ps (remake 𝓒 bs' (rows_from 0 ps) k)
  remakes (replace k) bs bs' ps w h b = replaces 𝓒 bs bs' ps w k b (ltb-true k (length bs') h)
  remakes (put_in k) bs bs' ps w h b = puts-in 𝓒 bs bs' ps w k b (ltb-true k (length bs') h)
  remakes (take_out k) bs bs' ps w h b = takes_out 𝓒 bs bs' ps w k b (ltb-true k (suc (length bs')) h)
  remakes (replace_all ks) bs bs' ps w h b =
      replaces-all 𝓒 ks bs bs' ps w b ((and-eq-true_iff (some_named ks) (rise_below 0 (length bs') ks)).0 h).1

  module _ (t l : List ℕ) where
    -- what one change comes to
    pub record Changed (tree : List ℕ) (s : Kept) (e : Change) : Type 0 where
      pub answer : (call_change 𝓒 s e).answer ≡ demanded_change 𝓒 t l tree e
      ps' : List Piece
      rest' : List ℕ
      l' : List ℕ
      left : leaves (call_change 𝓒 s e) s.size ≡ holding ps' rest' l'
      stands : StandsIn 𝓒 keeps-short t l (document_changed 𝓒 t l tree e) ps' rest' l'
      moved :
          change_moved (call_change 𝓒 s e).answer e.kind (block_count (check e.tree)) s (leaves (call_change 𝓒 s e) s.size)

    module _ (tree : List ℕ) (ps : List Piece) (rest l₂ : List ℕ) (st : StandsIn 𝓒 keeps-short t l tree ps rest l₂) (e : Change) where
      abbrev text : List ℕ
      text = written ps ++ rest

      abbrev ledger : List ℕ
      ledger = encode_rows (rows_from 0 ps) ++ l₂

      abbrev old : Kept
      old = holding ps rest l₂

      abbrev kept : ℕ
      kept = length (written ps)

      demanded-by :
          (w : Walk) (b : Bool) → conversion 𝓒 e.tree ≡ w → lacks_named (check e.tree) e.kind ≡ b
          → demanded_change 𝓒 t l tree e
          ≡ cond b (refused 6 0) (edit_answer (settle w t l).answer kept (count_by e.kind (carries (pieces_of w)) (carries ps)))
      unfolding demanded_change convert_document
      demanded-by w b cw ub = rw (ub, cw, stands-conversion 𝓒 keeps-short t l st)

      settled :
          (R : Result) → call_change 𝓒 old e ≡ R → demanded_change 𝓒 t l tree e ≡ R.answer → (ps' : List Piece) (rest' l' : List ℕ)
          → leaves R kept ≡ holding ps' rest' l' → StandsIn 𝓒 keeps-short t l (document_after R.answer tree e.tree) ps' rest' l'
          → change_moved R.answer e.kind (block_count (check e.tree)) old (leaves R kept) → Changed tree old e
      settled R r d ps' rest' l' f s m =
          record {
            answer = ap (λ x. x.answer) r ∙ sym d;
            ps' = ps';
            rest' = rest';
            l' = l';
            left = ap (λ x. leaves x kept) r ∙ f;
            stands = subst (λ x. StandsIn 𝓒 keeps-short t l (document_after x tree e.tree) ps' rest' l') (sym d) s;
            moved = subst (λ x. change_moved x.answer e.kind (block_count (check e.tree)) old (leaves x kept)) (sym r) m;
          }

      -- a refusal leaves the document
      stays :
          (n i : ℕ) → call_change 𝓒 old e ≡ unchanged n i text ledger → demanded_change 𝓒 t l tree e ≡ refused n i → Changed tree old e
      stays n i r d = settled (unchanged n i text ledger) r d ps rest l₂ refl st tt

      ok : AllEncodable (rows_from 0 ps)
      ok = stands-encodable 𝓒 keeps-short t l st

      ledger-old : length (encode_rows (rows_from 0 ps)) ≡ row_size * length ps
      ledger-old = rows-length ps ok

      -- the tree passes the checks, what is named can be changed, and it is the document so changed
      module _ (bs : List Block) (ch : check e.tree ≡ good bs) (h : named_there e.kind (length bs) ≡ true)
          (be : BlocksBeside e.kind st.blocks bs) where
        count-old : old_count e.kind (length bs) ≡ length ps
        count-old = old-count e.kind st.blocks bs h be ∙ walked-length 𝓒 st.along

        is-named : lacks_named (check e.tree) e.kind ≡ false
        is-named = rw (ch, h)

        change-fits : change_fits e.kind (length bs) kept text ledger ≡ true
        unfolding change_fits
        change-fits =
            let n : kept ≤ length text = omega (arith, length-append (written ps) rest) in
            rw (h, le-leb kept (length text) n, count-old) (fits-encode ps ok l₂)

        abbrev remaking : Remade
        remaking = remake 𝓒 bs (rows_from 0 ps) e.kind

        change-again : call_change 𝓒 old e ≡ exchange_or (length ps) kept (rows_from 0 ps) remaking text ledger
        unfolding change
        change-again =
            let d : decode_rows (length ps) ledger ≡ rows_from 0 ps = rw (rows_from-length 0 ps) at (decode_rows-encode ok l₂) in
            rw (ch, change-fits, count-old, d)

        conversion-walk : (w : Walk) → walk 𝓒 start_carry 1 bs ≡ w → conversion 𝓒 e.tree ≡ w
        unfolding conversion
        conversion-walk w q = rw ch q

        -- the stretches turn ps into ns
        module _ (ss : List Stretch) (ns : List Piece) (again-is : remaking ≡ remade ss) (v : walk 𝓒 start_carry 1 bs ≡ pieces ns)
            (sp : Spliced 0 ps ss ns) (count : come_count ss ≡ count_by e.kind (carries ns) (carries ps))
            (mv : PiecesMoved e.kind (come_count ss) ps ns) where
          abbrev rest_new : List ℕ
          rest_new = replicate (kept - length (written ns)) 0 ++ drop (max kept (length (written ns))) text

          abbrev ledger_new : List ℕ
          ledger_new =
              replicate (row_size * length ps - row_size * length ns) 0 ++ drop (max (row_size * length ps) (row_size * length ns)) ledger

          abbrev result : Result
          result =
              record {
                answer = edited (length (written ns)) (pos (length (written ns)) -ℤ pos kept) (come_count ss);
                text = front_over (written ns) (length (written ns)) kept text;
                ledger = front_over (encode_rows (rows_from 0 ns)) (row_size * length ns) (row_size * length ps) ledger;
              }

          change-result :
              (b : Bool) → room (length t) (length l) ns ≡ b → call_change 𝓒 old e ≡ cond b result (unchanged 15 0 text ledger)
          change-result b r =
              change-again ∙ rw again-is (exchange-spliced ps rest l₂ ok sp ∙ rw (st.text_size, st.ledger_size, r))

          demanded-result :
              (b : Bool) → room (length t) (length l) ns ≡ b → demanded_change 𝓒 t l tree e ≡ cond b result.answer (refused 15 0)
          unfolding settle
          demanded-result true r = demanded-by (pieces ns) false (conversion-walk (pieces ns) v) is-named ∙ rw (r, count)
          demanded-result false r = demanded-by (pieces ns) false (conversion-walk (pieces ns) v) is-named ∙ rw r

          walked-new : WalkedBlocks 𝓒 start_carry bs ns
          walked-new = walk-walked 𝓒 bs start_carry 1 ns v

          left_is : leaves result kept ≡ holding ns rest_new ledger_new
          unfolding front_over
          left_is = simp append_assoc

          accepted : room (length t) (length l) ns ≡ true → Changed tree old e
          unfolding front_over
          accepted r =
              let fit : (length (written ns) ≤ min (length t) text_most) × (row_size * length ns ≤ length l)
              = room_says (length t) (length l) ns r in
              let ok' : AllEncodable (rows_from 0 ns) = walked-encodable 𝓒 keeps-short walked-new (omega arith) in
              let tn : length (front_over (written ns) (length (written ns)) kept text) ≡ length text
              = front_over-length (written ns) text (length (written ns)) kept refl (omega (arith, length-append (written ps) rest))
              (omega (arith, st.text_size)) in
              let ln : length (front_over (encode_rows (rows_from 0 ns)) (row_size * length ns) (row_size * length ps) ledger) ≡ length ledger
              = front_over-length (encode_rows (rows_from 0 ns)) ledger (row_size * length ns) (row_size * length ps) (rows-length ns ok')
              (omega (arith, length-append (encode_rows (rows_from 0 ps)) l₂, ledger-old)) (omega (arith, st.ledger_size)) in
              settled result (change-result true r) (demanded-result true r) ns rest_new ledger_new left_is
              (record {
                blocks = bs;
                checked = ch;
                along = walked-new;
                small = omega arith;
                text_size = ap length (ap (λ s. s.text) (sym left_is)) ∙ tn ∙ st.text_size;
                ledger_size = ap length (ap (λ s. s.ledger) (sym left_is)) ∙ ln ∙ st.ledger_size;
              })
              (rw ch
              (subst (λ (s : Kept). moved_by e.kind (come_count ss) (length bs) old s) (sym left_is)
              (moved-pieces ps ns rest l₂ rest_new ledger_new ok ok' e.kind (come_count ss) (length bs) (sym (walked-length 𝓒 walked-new))
              count-old mv)))

          room-step : (b : Bool) → room (length t) (length l) ns ≡ b → Changed tree old e
          room-step true r = accepted r
          room-step false r = stays 15 0 (change-result false r) (demanded-result false r)

        again-step : (x : Remade) → remaking ≡ x → Remakes 𝓒 e.kind bs ps x → Changed tree old e
        unfolding settle
        again-step x a (halts {n} {i} v) =
            stays n i (change-again ∙ rw a) (demanded-by (stopped n i) false (conversion-walk (stopped n i) v) is-named)
        again-step x a (comes_to {ss} ns v sp c mv) = room-step ss ns a v sp c mv (room (length t) (length l) ns) refl

      named_step :
          PermittedChange 𝓒 t l tree e → (bs : List Block) → check e.tree ≡ good bs → (b : Bool) → named_there e.kind (length bs) ≡ b
          → Changed tree old e
      unfolding change change_fits
      named_step p bs ch true h =
          let be : BlocksBeside e.kind st.blocks bs = p st.blocks bs st.checked ch h in
          again-step bs ch h be (remaking bs ch h be) refl (remakes e.kind st.blocks bs ps st.along h be)
      named_step p bs ch false h = stays 6 0 (rw (ch, h)) (demanded-by (conversion 𝓒 e.tree) true refl (rw (ch, h)))

      check-step : PermittedChange 𝓒 t l tree e → (x : CheckedFile Block) → check e.tree ≡ x → Changed tree old e
      unfolding change conversion settle
      check-step p (bad n i) ch = stays n i (rw ch) (demanded-by (stopped n i) false (rw ch) (rw ch))
      check-step p (good bs) ch = named_step p bs ch (named_there e.kind (length bs)) refl

      step : PermittedChange 𝓒 t l tree e → Changed tree old e
      step p = check-step p (check e.tree) refl

    pub changed : (tree : List ℕ) (s : Kept) → Holds 𝓒 t l tree s → (e : Change) → PermittedChange 𝓒 t l tree e → Changed tree s e
    changed tree s ho e p =
        let f : HoldsPieces 𝓒 keeps-short t l tree s = holds-pieces 𝓒 keeps-short t l tree s ho in
        subst (λ x. Changed tree x e) (sym f.is) (step tree f.ps f.rest f.l₂ f.stands e p)

    pub changed-holds :
        (tree : List ℕ) (s : Kept) (e : Change) → Changed tree s e
        → Holds 𝓒 t l (document_changed 𝓒 t l tree e) (leaves (call_change 𝓒 s e) s.size)
    changed-holds tree s e c =
        subst (Holds 𝓒 t l (document_changed 𝓒 t l tree e)) (sym c.left) (stands-holds 𝓒 keeps-short t l c.stands)

    -- every list of changes, refused ones included
    demand-list :
        (es : List Change) (tree : List ℕ) (s : Kept) → Holds 𝓒 t l tree s → AllowedChanges 𝓒 t l tree es → DemandChanges 𝓒 t l tree s es
    unfolding run_changes reference_changes AllowedChanges ChangesMoved
    demand-list [] tree s ho al = record { answers = refl; holds = ho; moved = tt }
    demand-list (e ∷ es) tree s ho al =
        let one : Changed tree s e = changed tree s ho e al.0 in
        let more : DemandChanges 𝓒 t l (document_changed 𝓒 t l tree e) (leaves (call_change 𝓒 s e) s.size) es
        = demand-list es (document_changed 𝓒 t l tree e) (leaves (call_change 𝓒 s e) s.size) (changed-holds tree s e one) al.1 in
        record {
          answers = ap₂ (λ x xs. x ∷ xs) one.answer more.answers;
          holds = more.holds;
          moved = (one.moved, more.moved);
        }

  -- from buffers that hold an accepted conversion
  pub demand-changes :
      (t l tree : List ℕ) (s : Kept) → Holds 𝓒 t l tree s → (es : List Change) → AllowedChanges 𝓒 t l tree es
      → DemandChanges 𝓒 t l tree s es
  demand-changes t l tree s ho es al = demand-list t l es tree s ho al
