-- What holds of blocks that were measured, with a ledger that fits: the text of those before ends where theirs begins, and theirs no
-- later than the kept text. So what the code stores step by step is what the definition of a change says (`overwrote`, `spliced`).
use mathlib.Core.Path.{◌≡◌, refl, sym, ap, ap₂, subst, ◌∙◌}
use mathlib.Core.Bool.{Bool, true, false, ◌&&◌, cond, and-eq-true_iff}
use mathlib.Core.List.{List, [], ◌∷◌, ◌++◌}
use mathlib.Core.Option.Option.{some}
use Prim.Native.Nat.{ℕ, zero, suc, ◌+◌, ◌*◌, ◌-◌, ◌≤◌, ◌<◌, ◌^◌, min}
use native.Mathlib.Omega.{arith}
use borrow.Author.Tests.{leb-true, leb-false}
use borrow.Rule.Slice.PartMut.{put_mid}
use lib.IntN.{ℤ, pos, negsuc, ◌-ℤ◌}
use lib.ListN.{length, take, drop, replicate, length-append, length-take, length-drop, length-replicate}
use lib.Seq.{sets, length-sets, length-take-le}
use lib.Dec.{leb, ltb}
use lib.Signed.{mag}
use mir.Syntax.{w64}
use mir.Val.{SFits, to_z, of_z}
use mir.Facts.{to_z_pos, to_z-of_z}
use Rattle.text.specs.Writing.{cap}
use Rattle.text.proofs.Writing.{put_mid-sets}
use Rattle.mitex_meaning.specs.Parts.{between}
use Rattle.ledger.specs.Ledger.{row_size, HasRow, decode_rows, encode_rows, Movable, move_rows, written, rows_from}
use Rattle.ledger.proofs.Rows.{AllEncodable, encode_rows-length, rows_from-length, rows_from-encodable}
use Rattle.ledger.proofs.Fitting.{fits-long, fits-movable}
use Rattle.ledger.proofs.Writing.{front-stored, carry_of-short}
use Rattle.ledger.proofs.Moving.{move_rows-length}
use Rattle.edit_meaning.specs.Edit.{Result, text_most, unchanged, end_before, room_for_text}
use Rattle.edit_meaning.specs.Edit.Answer.{refused, edited}
use Rattle.edit_meaning.specs.Calls.{Gives}
use Rattle.edit_meaning.specs.Changes.{Stretch, text_over, ledger_over, front_over, exchange}
use Rattle.edit_meaning.proofs.Bytes.{text_after-stored, text_after-over, over-stored}
use Rattle.passes.specs.Passes.{Pieced, WrotePieces, kept_block}
use Rattle.passes.specs.declared.open.OpenDocument.{OpenDocument}
use Rattle.passes.specs.declared.Standing.{Standing}
use Rattle.manuscript.proofs.Manuscript.{keeps-short}
use Rattle.passes.proofs.Ends.{ends-rise, ends-kept, ends-row}
use Rattle.passes.proofs.Pieces.{gives-short}
use Rattle.calls.specs.Calls.{Measured, old_end, stretch_of, Overwrote}
use Rattle.calls.proofs.Settling.{room_for}

-- ---- zeros

-- zeros in a part are zeros stored from where it begins; where it would begin after its end there are none
pub cleared :
    (l ys : List ℕ) (low from to : ℕ) → low ≡ min from to → to ≤ length l → ys ≡ replicate (length (take (to - low) (drop low l))) 0
    → put_mid low (to - low) l ys ≡ sets l from (replicate (to - from) 0)
cleared l ys low from to e h y =
    let n : length (take (to - low) (drop low l)) ≡ to - from
    = omega (arith, length-take (to - low) (drop low l), length-drop low l) in
    let z : ys ≡ replicate (to - from) 0 = y ∙ ap (λ k. replicate k 0) n in
    let many : length ys ≡ to - low = omega (arith, ap length z, length-replicate {A = ℕ} (to - from) 0) in
    put_mid-sets low (to - low) l ys many (omega arith) ∙ ap (sets l low) z ∙ go (leb from to) refl
  where
    go : (x : Bool) → leb from to ≡ x → sets l low (replicate (to - from) 0) ≡ sets l from (replicate (to - from) 0)
    go true q = let k : low ≡ from = omega (arith, leb-true from to q) in ap (λ i. sets l i (replicate (to - from) 0)) k
    go false q =
        let k : to - from ≡ 0 = omega (arith, leb-false from to q) in
        ap (λ i. sets l low (replicate i 0)) k ∙ sym (ap (λ i. sets l from (replicate i 0)) k)

-- ---- the growth: the difference of two numbers below 2 to the power of 63

difference-small : (a b : ℕ) → a < 2 ^ 63 → b < 2 ^ 63 → mag (pos a -ℤ pos b) < 2 ^ 63
difference-small a zero h k = omega arith
difference-small a (suc b) h k = go (ltb a (suc b)) (omega arith) (omega arith)
  where
    go : (x : Bool) → suc b - suc a < 2 ^ 63 → a - suc b < 2 ^ 63 → mag (cond x (negsuc (suc b - suc a)) (pos (a - suc b))) < 2 ^ 63
    go true f g = f
    go false f g = g

module _ (a b : ℕ) (h : a < 2 ^ 63) (k : b < 2 ^ 63) where
  abbrev as-signed : to_z w64 a -ℤ to_z w64 b ≡ pos a -ℤ pos b
  as-signed = ap₂ ◌-ℤ◌ (to_z_pos w64 h) (to_z_pos w64 k)

  pub difference-fits : SFits w64 (to_z w64 a -ℤ to_z w64 b)
  difference-fits = subst (SFits w64) (sym as-signed) (record { sfits = difference-small a b h k })

  pub difference-is : to_z w64 (of_z w64 (to_z w64 a -ℤ to_z w64 b)) ≡ pos a -ℤ pos b
  difference-is = to_z-of_z difference-fits ∙ as-signed

-- ---- blocks that were measured

-- q is the first kept block after them, and `old` where it begins
module _ {d : OpenDocument} {was kept : ℕ} {from m : Standing} {out ledger : List ℕ} (w : Measured d was kept from m out ledger) {q old : ℕ}
    (is-q : q ≡ kept_block m.block d.blocks was) (is-old : old ≡ old_end was d.blocks m ledger) where
  abbrev n : ℕ
  n = d.blocks

  old-at : end_before q (decode_rows was ledger) ≡ old
  old-at = ap (λ j. end_before j (decode_rows was ledger)) is-q ∙ sym is-old

  pub after-within : q ≤ was
  after-within = omega (arith, w.within)

  -- there are as many kept rows after them as blocks
  pub after-many : m.block + (was - q) ≡ n
  after-many = omega (arith, w.within, w.near)

  pub old-kept : old ≤ kept
  old-kept = omega (arith, old-at, ends-kept was kept ledger w.fitting q after-within)

  from_old : from.at ≤ old
  from_old =
      omega (arith, w.begins, old-at, ends-rise was kept ledger w.fitting from.block q (omega (arith, w.later)) after-within)

  -- the row before that block
  pub last_row : 0 < q → HasRow (q - 1) ledger
  last_row h = omega (arith, after-within, fits-long was kept ledger w.fitting)

  -- the rows after them can be moved as far as the whole text can
  pub after-movable : m.at + (kept - old) < cap → (j : ℕ) → q ≤ j → j < was → Movable j old m.at ledger
  after-movable s j h k =
      fits-movable was kept ledger w.fitting old m.at j k
      (omega (arith, old-at, ends-row was kept ledger w.fitting q j h k)) s

  -- what the definition writes, by the places that the code has
  past : from.block + (kept_block m.block n was - from.block) ≡ q
  past = omega (arith, w.later)

  past-old : end_before (from.block + (kept_block m.block n was - from.block)) (decode_rows was ledger) ≡ old
  past-old = ap (λ j. end_before j (decode_rows was ledger)) past ∙ old-at

  abbrev text_as : ℕ → ℕ → List ℕ
  text_as at o = take at out ++ (written w.qs ++ between o kept out)

  text-as : text_over kept (decode_rows was ledger) (stretch_of was n from m w.qs ∷ []) out ≡ text_as from.at old
  text-as = λ i. text_as (sym w.begins i) (past-old i)

  -- the place, where it is no more than a row can say
  pub measured-place : m.at < cap → m.at ≡ from.at + length (written w.qs)
  measured-place h = omega (arith, w.end)

  module _ (small : m.at < cap) where
    abbrev pub pieced : (l : List ℕ) → row_size * n ≤ length l → Pieced d.content.rules.file.now d.content.rules.index.now d.content.rows.now d.content.text.now from m.block l
    pieced l room =
        record {
          given = w.given;
          ps = w.qs;
          gives = w.are;
          many = sym w.many;
          end = omega (arith, measured-place small);
          room = omega (arith, w.within);
          few = omega (arith, w.within, w.most);
        }

    encodable : AllEncodable (rows_from from.at w.qs)
    encodable =
        let c = from.converter in
        rows_from-encodable
        (gives-short _ (keeps-short (some c.mode) (some w.given.rs)) (carry_of-short c w.given.outside.label) w.are)
        from.at (omega (arith, measured-place small))

    abbrev fresh : List ℕ
    fresh = encode_rows (rows_from from.at w.qs)

    fresh-end : row_size * from.block + length fresh ≡ row_size * m.block
    fresh-end = omega (arith, encode_rows-length encodable, rows_from-length from.at w.qs, w.many)

    -- the rows after them, with their new lengths
    abbrev lengthened : List ℕ
    lengthened = move_rows (was - q) old m.at (drop (row_size * q) ledger)

    lengthened-end : row_size * q + length lengthened ≡ row_size * was
    lengthened-end =
        omega (
          arith,
          after-within,
          fits-long was kept ledger w.fitting,
          move_rows-length (was - q) old m.at (drop (row_size * q) ledger)
              (omega (arith, after-within, fits-long was kept ledger w.fitting, length-drop (row_size * q) ledger)),
        )

    abbrev ledger_as : ℕ → ℕ → ℕ → ℕ → List ℕ
    ledger_as at j o now =
        take (row_size * from.block) ledger
        ++ (encode_rows (rows_from at w.qs) ++ move_rows (was - j) o now (drop (row_size * j) ledger))

    ledger-as :
        ledger_over was (decode_rows was ledger) (stretch_of was n from m w.qs ∷ []) ledger
        ≡ ledger_as from.at q old m.at
    ledger-as =
        let now : end_before from.block (decode_rows was ledger) + length (written w.qs) ≡ m.at
        = omega (arith, measured-place small, w.begins) in
        λ i. ledger_as (sym w.begins i) (past i) (past-old i) (now i)

    -- the two buffers, when the tail was moved and the text written, zeros stored after; and the rows after got their lengths and were
    -- moved, theirs written, zeros stored after
    module _ (room : m.at + (kept - old) ≤ length out) (rows-room : row_size * n ≤ length ledger) where
      abbrev new : ℕ
      new = m.at + (kept - old)

      text-stored :
          {out₁ part out₂ : List ℕ} → out₁ ≡ sets out m.at (between old kept out)
          → part ≡ sets (take m.at out₁) from.at (written w.qs)
          → out₂ ≡ sets (part ++ drop m.at out₁) new (replicate (kept - new) 0)
          → out₂ ≡ front_over (text_as from.at old) new kept out
      text-stored {out₁} {part} e p z =
          let at = m.at in
          let long : length out₁ ≡ length out = ap length e ∙ length-sets out at (between old kept out) in
          let f : part ++ drop at out₁ ≡ sets (sets out at (between old kept out)) from.at (written w.qs)
          = ap (λ x. x ++ drop at out₁) p
          ∙ front-stored out₁ (written w.qs) from.at at (omega (arith, measured-place small)) (omega arith)
          ∙ ap (λ x. sets x from.at (written w.qs)) e in
          z
          ∙ ap (λ x. sets x new (replicate (kept - new) 0)) f
          ∙ rw (measured-place small)
          (text_after-stored from.at old kept (written w.qs) out from_old old-kept w.inside (omega (arith, measured-place small))
          ∙ text_after-over from.at old kept (from.at + length (written w.qs) + (kept - old)) (written w.qs) out)

      -- what `over-stored` says, when the fresh rows end at a and all rows at b
      abbrev StoredTo : ℕ → ℕ → Type 0
      StoredTo a b =
          let l = sets ledger (row_size * q) lengthened in
          sets (sets (sets l a (between (row_size * q) (row_size * was) l)) (row_size * from.block) fresh) b (replicate (row_size * was - b) 0)
          ≡ front_over (take (row_size * from.block) ledger ++ (fresh ++ lengthened)) b (row_size * was) ledger

      rows-stored :
          {ledger₁ ledger₂ ledger₃ ledger₄ : List ℕ} → ledger₁ ≡ sets ledger (row_size * q) lengthened
          → ledger₂ ≡ sets ledger₁ (row_size * m.block) (between (row_size * q) (row_size * was) ledger₁)
          → ledger₃ ≡ sets ledger₂ (row_size * from.block) fresh
          → ledger₄ ≡ sets ledger₃ (row_size * n) (replicate (row_size * was - row_size * n) 0)
          → ledger₄ ≡ front_over (ledger_as from.at q old m.at) (row_size * n) (row_size * was) ledger
      rows-stored {ledger₁} e₁ e₂ e₃ e₄ =
          let f = row_size * from.block in
          let end : f + length fresh + (row_size * was - row_size * q) ≡ row_size * n = omega (arith, fresh-end, after-many, after-within) in
          let stored : StoredTo (f + length fresh) (f + length fresh + (row_size * was - row_size * q))
          = over-stored f (row_size * q) (row_size * was) fresh lengthened ledger (omega (arith, w.later)) lengthened-end
          (fits-long was kept ledger w.fitting) (omega (arith, end)) in
          e₄
          ∙ ap (λ x. sets x (row_size * n) (replicate (row_size * was - row_size * n) 0))
          (e₃ ∙ ap (λ x. sets x f fresh) (e₂ ∙ ap (λ x. sets x (row_size * m.block) (between (row_size * q) (row_size * was) x)) e₁))
          ∙ subst (λ (a : ℕ). StoredTo a (row_size * n)) fresh-end (subst (λ (b : ℕ). StoredTo (f + length fresh) b) end stored)

      pub overwrote :
          {out₁ part out₂ ledger₁ ledger₂ ledger₃ ledger₄ : List ℕ} → out₁ ≡ sets out m.at (between old kept out)
          → ledger₁ ≡ sets ledger (row_size * q) lengthened
          → ledger₂ ≡ sets ledger₁ (row_size * m.block) (between (row_size * q) (row_size * was) ledger₁)
          → WrotePieces w.qs from (take m.at out₁) ledger₂ part ledger₃
          → out₂ ≡ sets (part ++ drop m.at out₁) new (replicate (kept - new) 0)
          → ledger₄ ≡ sets ledger₃ (row_size * n) (replicate (row_size * was - row_size * n) 0)
          → Overwrote was n kept from m w.qs out ledger out₂ ledger₄
      overwrote e e₁ e₂ p z e₄ =
          record {
            text = text-stored e p.text z ∙ (λ i. front_over (sym text-as i) (m.at + (kept - is-old i)) kept out);
            rows = rows-stored e₁ e₂ p.rows e₄ ∙ ap (λ x. front_over x (row_size * n) (row_size * was) ledger) (sym ledger-as);
          }

  -- ---- the answer

  abbrev exchanged : List Stretch
  exchanged = stretch_of was n from m w.qs ∷ []

  abbrev new_text : List ℕ
  new_text = text_over kept (decode_rows was ledger) exchanged out

  text_long : length new_text ≡ from.at + length (written w.qs) + (kept - old)
  text_long =
      omega (
        arith,
        ap length text-as,
        length-append (take from.at out) (written w.qs ++ between old kept out),
        length-append (written w.qs) (between old kept out),
        length-take-le from.at out (omega (arith, from_old, old-kept, w.inside)),
        length-take-le (kept - old) (drop old out) (omega (arith, length-drop old out, w.inside)),
      )

  -- what the definition gives, by the numbers that the code has
  abbrev given-at : (new many count : ℕ) → Result
  given-at new many count =
      cond (room_for_text new (length out) && leb (row_size * many) (length ledger))
      (record {
        answer = edited new (pos new -ℤ pos kept) count;
        text = front_over new_text new kept out;
        ledger = front_over (ledger_over was (decode_rows was ledger) exchanged ledger) (row_size * many) (row_size * was) ledger;
      })
      (unchanged 15 0 out ledger)

  abbrev change-gives : Result
  change-gives = exchange was kept (decode_rows was ledger) exchanged out ledger

  exchange-at : change-gives ≡ given-at (from.at + length (written w.qs) + (kept - old)) n (length w.qs)
  unfolding exchange
  exchange-at =
      let many : (was + (length w.qs + 0)) - (kept_block m.block n was - from.block + 0) ≡ n
      = omega (arith, w.many, w.later, w.within, w.near) in
      let count : length w.qs + 0 ≡ length w.qs = omega arith in
      λ i. given-at (text_long i) (many i) (count i)

  module _ {b : Bool} (r : b ≡ room_for_text (m.at + (kept - old)) (length out) && leb (row_size * n) (length ledger)) where
    -- the room that the code asks for is that of the definition: where the place is not the length, neither has room
    room-same : b ≡ room_for_text (from.at + length (written w.qs) + (kept - old)) (length out) && leb (row_size * n) (length ledger)
    room-same =
        let e : min cap (m.at + (kept - old)) ≡ min cap (from.at + length (written w.qs) + (kept - old))
        = omega (arith, w.end) in
        r ∙ ap (λ x. x && leb (row_size * n) (length ledger)) (room_for _ _ (length out) e)

    pub no_room : b ≡ false → Gives change-gives (refused 15 0) out ledger
    no_room h = rw (exchange-at, ← room-same, h) (record { answer = refl; bytes = refl; rows = refl })

    module _ (h : b ≡ true) where
      pub has-room : (m.at + (kept - old) ≤ min (length out) text_most) × (row_size * n ≤ length ledger)
      unfolding room_for_text
      has-room =
          let x = (and-eq-true_iff (room_for_text (m.at + (kept - old)) (length out)) (leb (row_size * n) (length ledger))).0 (sym r ∙ h) in
          (leb-true (m.at + (kept - old)) (min (length out) text_most) x.0, leb-true (row_size * n) (length ledger) x.1)

      pub spliced : {g : ℤ} {k : ℕ} {out' ledger' : List ℕ} → g ≡ pos (m.at + (kept - old)) -ℤ pos kept → k ≡ m.block - from.block
          → Overwrote was n kept from m w.qs out ledger out' ledger'
          → Gives change-gives (edited (m.at + (kept - old)) g k) out' ledger'
      spliced {g} {k} e c v =
          let a : m.at ≡ from.at + length (written w.qs) = measured-place (omega (arith, has-room.0)) in
          let s : k ≡ length w.qs = omega (arith, w.many) in
          let t : old ≡ old_end was n m ledger = is-old in
          rw (exchange-at, ← room-same, h, ← a) (record { answer = cc; bytes = rw t v.text; rows = v.rows })
