-- What a change comes to over a document's blocks: 6 where what is named, the kept length or the ledger do not fit (`changed-unfit`); the
-- refusal that the blocks converted again meet (`changed-refused`); else their pieces are exchanged for the kept ones (`changed-as`).
use mathlib.Core.Path.{◌≡◌, refl, sym, ap, ap₂, subst, ◌∙◌}
use mathlib.Core.Bool.{Bool, true, false, ◌&&◌, cond, and-eq-true_iff}
use mathlib.Core.List.{List, [], ◌∷◌}
use Prim.Native.Nat.{ℕ, suc, ◌+◌, ◌-◌, ◌≤◌, ◌<◌}
use native.Mathlib.Omega.{arith}
use borrow.Author.Tests.{ltb-true, leb-true, le-ltb, lt-ltb}
use lib.ListN.{length, take, drop, length-drop}
use lib.Dec.{ltb, leb}
use Rattle.text.specs.Writing.{cap}
use Rattle.mitex_syntax.specs.Tree.{size}
use Rattle.mitex_meaning.specs.Outcome.{Carry}
use Rattle.mitex_meaning.specs.State.{new_of, carry_of, Carried}
use Rattle.mitex_meaning.specs.declared.Converter.{Converter}
use Rattle.ledger.specs.Ledger.{RowFits, decode_rows, fits, same_carry, Piece}
use Rattle.ledger.proofs.Fitting.{fits-row}
use Rattle.edit_meaning.specs.Walk.{BlockConverter, Walk, rows_all, walk_until}
use Rattle.edit_meaning.specs.Walk.Walk.{pieces}
use Rattle.edit_meaning.specs.Walk.CheckedFile.{good}
use Rattle.edit_meaning.specs.Edit.{Answer, Result, unchanged, end_before, carry_before, again}
use Rattle.edit_meaning.specs.Edit.Answer.{refused}
use Rattle.edit_meaning.specs.Calls.{Gives}
use Rattle.edit_meaning.specs.Changes.{named_there, old_count, change_fits, named_block, Stretch, stretch, first_row, putting_in, taking_out, remake, exchange, exchange_or, change_checked}
use Rattle.edit_meaning.proofs.Bytes.{carry_before-at, row_carries-at}
use Rattle.manuscript.specs.Manuscript.{listed, blocks_in}
use Rattle.std.specs.Prelude.{Result as Reply, Ok, Err}
use Rattle.refusals.specs.Refusals.{refusal_number}
use Rattle.refusals.specs.declared.Refusal.{Refusal}
use Rattle.passes.specs.Passes.{EndsBefore, CarriesBefore, BlocksUpTo, Stood, Came, row_no, converter_of, carries_on, kept_block}
use Rattle.passes.specs.declared.open.OpenDocument.{OpenDocument}
use Rattle.passes.specs.declared.Standing.{Standing}
use Rattle.manuscript.proofs.Manuscript.{listed-count}
use Rattle.passes.proofs.Measuring.{carries_on-at}
use Rattle.passes.proofs.Pieces.{gives-stop, walk-gives, gives-within, some-until, came_refused, came-pieces, Came-to}
use Rattle.calls.specs.Calls.{kind_by, Measured, stretch_of, MeasuresAgain}
use Rattle.calls.specs.declared.Way.{Way}
use Rattle.calls.specs.declared.Way.TheVariants.{Replace, PutIn, TakeOut}
use Rattle.passes.proofs.Starting.{blocks-begin, begins-carry, begins-as, count_left}

-- ---- refusal 6

-- What is named is there, the kept length is in the buffer, the ledger fits. So k is within both counts of blocks, there was at most one
-- block more than now, and what is left after block k was there before.
pub record Fitting (way : Way) (n was k kept : ℕ) (out ledger : List ℕ) : Type 0 where
  pub there : named_there (kind_by way k) n ≡ true
  pub now : k ≤ n
  pub before : k ≤ was
  pub few : was ≤ suc n
  pub near : n ≤ suc k + was
  pub inside : kept ≤ length out
  pub rows : fits was kept ledger ≡ true

module _ {k n kept : ℕ} {out ledger : List ℕ} (inside : kept ≤ length out) where
  fits_by :
      (way : Way) (e : named_there (kind_by way k) n ≡ true) → fits (old_count (kind_by way k) n) kept ledger ≡ true
      → Fitting way n (old_count (kind_by way k) n) k kept out ledger
  fits_by Replace e f =
      let h = ltb-true k n e in
      record { there = e; now = omega arith; before = omega arith; few = omega arith; near = omega arith; inside = inside; rows = f }
  fits_by PutIn e f =
      let h = ltb-true k n e in
      record { there = e; now = omega arith; before = omega arith; few = omega arith; near = omega arith; inside = inside; rows = f }
  fits_by TakeOut e f =
      let h = ltb-true k (suc n) e in
      record { there = e; now = omega arith; before = omega arith; few = omega arith; near = omega arith; inside = inside; rows = f }

pub fitting :
    (way : Way) (n k kept : ℕ) (out ledger : List ℕ) {b : Bool} → b ≡ change_fits (kind_by way k) n kept out ledger → b ≡ true
    → Fitting way n (old_count (kind_by way k) n) k kept out ledger
unfolding change_fits
fitting way n k kept out ledger e t =
    let was = old_count (kind_by way k) n in
    let x = (and-eq-true_iff (named_there (kind_by way k) n) (leb kept (length out) && fits was kept ledger)).0 (sym e ∙ t) in
    let y = (and-eq-true_iff (leb kept (length out)) (fits was kept ledger)).0 x.1 in
    fits_by (leb-true kept (length out) y.0) way x.0 y.1

module _ {way : Way} {n was k kept : ℕ} {out ledger : List ℕ} (f : Fitting way n was k kept out ledger) where
  pub fitting-row : (i : ℕ) → i < was → RowFits i ledger
  fitting-row i h = fits-row was kept ledger f.rows i h

  pub row_before : 0 < k → RowFits (k - 1) ledger
  row_before h = fitting-row (k - 1) (omega (arith, f.before))

-- ---- the walk of a change is that of the measuring pass

module _ (𝓒 : BlockConverter) (bs : List 𝓒.Block) (l : List ℕ) (k : ℕ) where
  -- what is converted again, by the way
  abbrev walk_of : Way → ℕ → Walk
  walk_of Replace was = again 𝓒 bs k (decode_rows was l)
  walk_of PutIn was = putting_in 𝓒 bs (decode_rows was l) k
  walk_of TakeOut was = taking_out 𝓒 bs (decode_rows was l) k

  remake-is : (way : Way) (was : ℕ) → remake 𝓒 bs (decode_rows was l) (kind_by way k) ≡ stretch (kind_by way k) (walk_of way was)
  unfolding remake
  remake-is Replace was = refl
  remake-is PutIn was = refl
  remake-is TakeOut was = refl

  -- the pass: nothing where a block was taken out and the carry is its kept row's, else up to the kept carry
  abbrev pass_of : ℕ → ℕ → ℕ → Walk
  pass_of n was j =
      let rows = decode_rows was l in
      cond (ltb n was && same_carry (carry_before k rows) (carry_before (suc k) rows)) (pieces [])
      (walk_until 𝓒 (carry_before k rows) (first_row 𝓒 bs rows k) (drop k bs) (carries_on j rows))

  pass_on :
      (n was j : ℕ) {ds : List Carry} → was ≤ n → carries_on j (decode_rows was l) ≡ ds
      → pass_of n was j ≡ walk_until 𝓒 (carry_before k (decode_rows was l)) (first_row 𝓒 bs (decode_rows was l) k) (drop k bs) ds
  pass_on n was j h e = rw (le-ltb n was h, e)

  pass-is : (way : Way) (n : ℕ) → named_there (kind_by way k) n ≡ true
      → let was = old_count (kind_by way k) n in pass_of n was (kept_block (suc k) n was) ≡ walk_of way was
  unfolding again putting_in taking_out
  pass-is Replace n e =
      let j : kept_block (suc k) n n ≡ suc k = omega arith in
      pass_on n n (kept_block (suc k) n n) (omega arith) (ap (λ i. carries_on i (decode_rows n l)) j)
  pass-is PutIn n e =
      let h = ltb-true k n e in
      let j : kept_block (suc k) n (n - 1) ≡ k = omega arith in
      pass_on n (n - 1) (kept_block (suc k) n (n - 1)) (omega arith)
      (ap (λ i. carries_on i (decode_rows (n - 1) l)) j ∙ carries_on-at (n - 1) k l (omega arith))
  pass-is TakeOut n e =
      let h = ltb-true k (suc n) e in
      let j : kept_block (suc k) n (suc n) ≡ suc (suc k) = omega arith in
      rw (lt-ltb n (suc n) (omega arith), j, row_carries-at (suc n) k l (omega arith), carry_before-at (suc n) k l (omega arith))

-- ---- how many kept blocks give way

-- after m blocks from block k on as many kept blocks are left as new ones, and as many went as there were in the place of the m
pub record Goes (way : Way) (n was k m : ℕ) : Type 0 where
  pub near : n ≤ k + m + was
  pub later : k ≤ kept_block (k + m) n was
  pub gone : kept_block (k + m) n was - k ≡ old_count (kind_by way k) m

goes_by :
    (𝓒 : BlockConverter) (bs : List 𝓒.Block) (l : List ℕ) (k : ℕ) (way : Way) (qs : List Piece)
    → named_there (kind_by way k) (length bs) ≡ true → walk_of 𝓒 bs l k way (old_count (kind_by way k) (length bs)) ≡ pieces qs
    → Goes way (length bs) (old_count (kind_by way k) (length bs)) k (length qs)
unfolding putting_in
goes_by 𝓒 bs l k Replace qs e v = record { near = omega arith; later = omega arith; gone = omega arith }
goes_by 𝓒 bs l k PutIn qs e v =
    let h = ltb-true k (length bs) e in
    let some = some-until 𝓒 _ _ (drop k bs) _ _ qs (omega (arith, length-drop k bs)) v in
    record { near = omega arith; later = omega arith; gone = omega arith }
goes_by 𝓒 bs l k TakeOut qs e v = record { near = omega arith; later = omega arith; gone = omega arith }

named-is : (way : Way) (k : ℕ) → named_block (kind_by way k) ≡ k
named-is Replace k = refl
named-is PutIn k = refl
named-is TakeOut k = refl

-- ---- the call over the blocks

module _ (d : OpenDocument) (way : Way) (k kept : ℕ) (out ledger : List ℕ) where
  abbrev n : ℕ
  n = d.blocks

  abbrev 𝓒 : BlockConverter
  𝓒 = blocks_in d.mode d.open.rs

  abbrev bs : List 𝓒.Block
  bs = listed d.open.blocks

  abbrev result : Result
  result = change_checked 𝓒 (good bs) (kind_by way k) kept out ledger

  abbrev walked : ℕ → Walk
  walked was = walk_of 𝓒 bs ledger k way was

  abbrev by : Bool → ℕ → Result
  by b was = cond b (exchange_or was kept (decode_rows was ledger) (stretch (kind_by way k) (walked was)) out ledger) (unchanged 6 0 out ledger)

  counted : length bs ≡ n
  counted = listed-count d.open.blocks ∙ d.open.many

  result_by : {b : Bool} → b ≡ change_fits (kind_by way k) n kept out ledger → (c : Bool) → b ≡ c → result ≡ by c (old_count (kind_by way k) n)
  result_by e c t =
      let kind = kind_by way k in
      ap
      (λ (x : ℕ). cond (change_fits kind x kept out ledger)
      (exchange_or (old_count kind x) kept (decode_rows (old_count kind x) ledger) (remake 𝓒 bs (decode_rows (old_count kind x) ledger) kind) out ledger)
      (unchanged 6 0 out ledger)) counted
      ∙ ap
      (λ y. cond (change_fits kind n kept out ledger) (exchange_or (old_count kind n) kept (decode_rows (old_count kind n) ledger) y out ledger)
      (unchanged 6 0 out ledger)) (remake-is 𝓒 bs ledger k way (old_count kind n))
      ∙ ap (λ x. by x (old_count kind n)) (sym e ∙ t)

  pub changed-unfit : {b : Bool} → b ≡ change_fits (kind_by way k) n kept out ledger → b ≡ false → Gives result (refused 6 0) out ledger
  changed-unfit e t =
      subst (λ (x : Result). Gives x (refused 6 0) out ledger) (sym (result_by e false t))
      (record { answer = refl; bytes = refl; rows = refl })

  -- a pass that began before block k, as the row before it says, and measured up to where the blocks' carry is the kept one
  pub record MeasuredAgain (was : ℕ) (from : Standing) (r : Reply Standing Refusal) : Type 0 where
    pub test : Bool
    pub tested : test ≡ change_fits (kind_by way k) n kept out ledger
    pub fits_so : test ≡ true
    pub was_is : was ≡ old_count (kind_by way k) n
    pub at : ℕ
    pub converter : Converter
    pub ends : EndsBefore ledger k at
    pub low : at < cap
    pub carries : CarriesBefore ledger k d.mode converter
    pub stood : Stood d.open.blocks d.content.rows.now d.content.text.now k at converter from
    pub measured : MeasuresAgain d from was ledger r

  module _ {was : ℕ} {from : Standing} {r : Reply Standing Refusal} (p : MeasuredAgain was from r) where
    abbrev st : Stood d.open.blocks d.content.rows.now d.content.text.now k p.at p.converter from
    st = p.stood

    abbrev fit : Fitting way n was k kept out ledger
    fit =
        subst (λ (x : ℕ). Fitting way n x k kept out ledger) (sym p.was_is)
        (fitting way n k kept out ledger p.tested p.fits_so)

    pub carried : Carried (new_of d.mode) (carry_before k (decode_rows was ledger)) p.converter
    carried = p.carries was fit.before

    abbrev whole : BlocksUpTo d.content.rules.file.now d.content.rules.index.now d.content.rows.now d.content.text.now from d.blocks
    whole = blocks-begin d.open st carried (omega (arith, p.low)) fit.now

    -- what was measured is the walk of the blocks converted again
    abbrev passed : Carry → ℕ → Walk → Walk
    passed c i v = cond (ltb n was && same_carry c (carry_before (suc i) (decode_rows was ledger))) (pieces []) v

    pub walk_is :
        ◌≡◌ {A = Walk}
        (passed (carry_of from.converter) from.block
        (walk_until (converter_of whole.given) (carry_of from.converter) (row_no from) (listed st.left)
        (carries_on (kept_block (suc from.block) n was) (decode_rows was ledger)))) (walked was)
    walk_is =
        let ds = carries_on (kept_block (suc from.block) n was) (decode_rows was ledger) in
        ap₂ (λ c v. passed c from.block v) (begins-carry d.open st carried) (begins-as d.open st carried (omega (arith, p.low)) fit.now true ds)
        ∙ ap
        (λ (i : ℕ). passed (carry_before k (decode_rows was ledger)) i
        (walk_until 𝓒 (carry_before k (decode_rows was ledger)) (1 + rows_all size (take k bs)) (drop k bs)
        (carries_on (kept_block (suc i) n was) (decode_rows was ledger)))) st.block
        ∙ subst (λ (x : ℕ). pass_of 𝓒 bs ledger k n x (kept_block (suc k) n x) ≡ walk_of 𝓒 bs ledger k way x) (sym p.was_is)
        (pass-is 𝓒 bs ledger k way n fit.there)

    pub came : Came from r (walked was)
    came = subst (Came from r) walk_is (p.measured whole)

    by-walk : {v : Walk} → walked was ≡ v → result ≡ exchange_or was kept (decode_rows was ledger) (stretch (kind_by way k) v) out ledger
    by-walk e =
        result_by p.tested true p.fits_so
        ∙ ap (by true) (sym p.was_is)
        ∙ ap (λ (v : Walk). exchange_or was kept (decode_rows was ledger) (stretch (kind_by way k) v) out ledger) e

  pub changed-refused :
      {was : ℕ} {from : Standing} {e : Refusal} → MeasuredAgain was from (Err e) → Gives result (refused (refusal_number e.reason) e.row) out ledger
  changed-refused {e = e} p =
      subst (λ (x : Result). Gives x (refused (refusal_number e.reason) e.row) out ledger) (sym (by-walk p (came_refused (came p))))
      (record { answer = refl; bytes = refl; rows = refl })

  module _ {was : ℕ} {from r : Standing} (p : MeasuredAgain was from (Ok r)) where
    abbrev to : Came-to from r (walked was)
    to = came-pieces (came p)

    pub goes : Goes way n was k (length to.ps)
    goes =
        subst (λ (x : ℕ). Goes way n x k (length to.ps)) (sym p.was_is)
        (subst (λ (x : ℕ). Goes way x (old_count (kind_by way k) x) k (length to.ps)) counted
        (goes_by 𝓒 bs ledger k way to.ps (ap (named_there (kind_by way k)) counted ∙ (fit p).there)
        (ap walked (ap (old_count (kind_by way k)) counted ∙ sym p.was_is) ∙ to.are)))

    abbrev pub change-measured : Measured d was kept from r out ledger
    change-measured =
        let c = carry_of from.converter in
        let ds = carries_on (kept_block (suc from.block) n was) (decode_rows was ledger) in
        let g = gives-stop (converter_of (whole p).given) (ltb n was && same_carry c (carry_before (suc from.block) (decode_rows was ledger)))
        (walk_until (converter_of (whole p).given) c (row_no from) (listed (st p).left) ds)
        (λ qs. walk-gives (converter_of (whole p).given) true (listed (st p).left) c (row_no from) ds qs) to.ps ((walk_is p) ∙ to.are) in
        record {
          given = (whole p).given;
          qs = to.ps;
          are = g;
          many = to.block;
          end = to.place;
          begins = (st p).next ∙ p.ends was (fit p).before ∙ ap (λ (i : ℕ). end_before i (decode_rows was ledger)) (sym (st p).block);
          within = omega (arith, to.block, (st p).block, gives-within _ g, count_left d.open (st p) (carried p) (fit p).now);
          near = omega (arith, to.block, (st p).block, goes.near);
          later = omega (arith, to.block, (st p).block, goes.later);
          most = d.open.most;
          old_most = omega (arith, (fit p).few, d.open.most);
          fitting = (fit p).rows;
          inside = (fit p).inside;
        }

    pub changed-as :
        {a : Answer} {out' ledger' : List ℕ}
        → Gives (exchange was kept (decode_rows was ledger) (stretch_of was n from r to.ps ∷ []) out ledger) a out' ledger'
        → Gives result a out' ledger'
    changed-as {a} {out'} {ledger'} g =
        let block : from.block ≡ named_block (kind_by way k) = (st p).block ∙ sym (named-is way k) in
        let gone : kept_block r.block n was - from.block ≡ old_count (kind_by way k) (length to.ps)
        = omega (arith, to.block, (st p).block, goes.gone) in
        let same : stretch_of was n from r to.ps ≡ record { block = named_block (kind_by way k); gone = old_count (kind_by way k) (length to.ps); come = to.ps }
        = λ i. record { block = block i; gone = gone i; come = to.ps } in
        subst (λ (x : Result). Gives x a out' ledger')
        (ap (λ (s : Stretch). exchange was kept (decode_rows was ledger) (s ∷ []) out ledger) same ∙ sym (by-walk p to.are)) g
