-- The whole text and the whole ledger, when the stretches of a plan were exchanged: the text's length is told by the places of the plan
-- (`over-long`), and both buffers are as the definition of a change says (`whole-text`, `whole-rows`).
use mathlib.Core.Path.{◌≡◌, refl, sym, ap, ap₂, ◌∙◌}
use mathlib.Core.Bool.{true}
use mathlib.Core.List.{List, [], ◌∷◌, ◌++◌, append-nil}
use mathlib.Core.Option.Option.{some}
use Prim.Native.Nat.{ℕ, ◌+◌, ◌*◌, ◌-◌, ◌≤◌, ◌<◌, max}
use native.Mathlib.Omega.{arith}
use lib.ListN.{length, take, drop, replicate, length-append, length-drop, length-replicate}
use lib.Seq.{sets, sets-eq, length-take-le, take_at, drop-append-add, drop-drop}
use Rattle.text.specs.Writing.{cap}
use Rattle.mitex_meaning.specs.declared.LaTeXMode.{LaTeXMode}
use Rattle.ledger.specs.Ledger.{Row, row_size, decode_rows, encode_rows, fits, written, rows_from}
use Rattle.ledger.proofs.Rows.{encode_rows-length, rows_from-length, rows_from-encodable}
use Rattle.ledger.proofs.Fitting.{fits-long}
use Rattle.ledger.proofs.Moving.{move_rows-length}
use Rattle.edit_meaning.specs.Edit.{end_before}
use Rattle.edit_meaning.specs.Changes.{Stretch, block_after, come_count, gone_count, text_over, ledger_over, front_over}
use Rattle.manuscript.specs.Manuscript.{blocks_in}
use Rattle.manuscript.proofs.Manuscript.{keeps-short}
use Rattle.passes.specs.Passes.{Document}
use Rattle.passes.proofs.Ends.{ends-kept}
use Rattle.passes.proofs.Pieces.{gives-short}
use Rattle.stretches.specs.Plans.{next_block, after_all, place_after, rest_text, rest_rows, Noted, LaidOut}
use Rattle.stretches.specs.Plans.LaidOut.{laid_end, laid_more}
use Rattle.stretches.specs.declared.Note.{Note}
use Rattle.stretches.proofs.Laying.{ends_last, carry-short, kept_text, kept_rows, place_next, rest_text-first, rest_rows-first, laid_from}

-- ---- the blocks of a plan

module _ {rules index rows text : List ℕ} {n : ℕ} {w : Document rules index rows text n} {m : LaTeXMode} {l : List ℕ} where
  pub after-within : {from : ℕ} {ss : List Stretch} {plan : List Note} → LaidOut w m l from ss plan → after_all from ss ≤ n
  after-within (laid_end h e) = h
  after-within (laid_more p q) = after-within q

  -- as many blocks come as go
  pub laid-even : {from : ℕ} {ss : List Stretch} {plan : List Note} → LaidOut w m l from ss plan → gone_count ss ≡ come_count ss
  laid-even (laid_end h e) = refl
  laid-even (laid_more p q) = ap₂ (λ a b. a + b) p.gone (laid-even q)

-- ---- both buffers

-- zeros stored after a text, up to where the old one ended
front-over :
    (t out : List ℕ) (was : ℕ) → length t ≤ length out → was ≤ length out
    → sets (t ++ drop (length t) out) (length t) (replicate (was - length t) 0) ≡ front_over t (length t) was out
unfolding front_over
front-over t out was h g =
    let n : ℕ = length t in
    let z : List ℕ = replicate (was - n) 0 in
    let nz : length z ≡ was - n = length-replicate (was - n) 0 in
    let whole : length (t ++ drop n out) ≡ length out = omega (arith, length-append t (drop n out), length-drop n out) in
    let far : n + length z ≡ max was n = omega (arith, nz) in
    sets-eq z (t ++ drop n out) n (omega (arith, nz, whole))
    ∙ ap₂ (λ x y. x ++ z ++ y) (take_at t (drop n out) n refl)
    (drop-append-add t (drop n out) (length z) ∙ drop-drop (length z) n out ∙ ap (λ k. drop k out) far)

-- nothing is cleared where as many bytes are written as there were
no-zeros : (t l : List ℕ) (k : ℕ) → t ++ drop k l ≡ front_over t k k l
unfolding front_over
no-zeros t l k =
    let z : k - k ≡ 0 = omega arith in
    let m : max k k ≡ k = omega arith in
    ap (λ x. x ++ drop k l) (sym (append-nil t)) ∙ (λ i. t ++ replicate (sym z i) 0 ++ drop (sym m i) l)

module _ {rules index rows text : List ℕ} {n : ℕ} (w : Document rules index rows text n) (m : LaTeXMode) (l : List ℕ) (kept : ℕ)
    (fit : fits n kept l ≡ true) (out : List ℕ) (inside : kept ≤ length out) where
  abbrev rs : List Row
  rs = decode_rows n l

  -- where the first stretch begins, in the old text as in the new one
  abbrev first : List Stretch → ℕ
  first ss = end_before (next_block n ss) rs

  -- ---- what stands before the first stretch, and the rest

  over_text : (ss : List Stretch) → text_over kept rs ss out ≡ take (first ss) out ++ rest_text kept rs ss out
  over_text [] = ap (λ k. take k out) (sym (ends_last n kept l fit)) ∙ sym (append-nil (take (end_before n rs) out))
  over_text (s ∷ ss) = refl

  over_rows : (ss : List Stretch) → ledger_over n rs ss l ≡ take (row_size * next_block n ss) l ++ rest_rows n rs (first ss) ss l
  over_rows [] = sym (append-nil (take (row_size * n) l))
  over_rows (s ∷ ss) = refl

  -- ---- lengths

  -- the rest of the text is that of a stretch, what is kept up to the next, and the rest from there on
  rest-long :
      {from : ℕ} {s : Stretch} {ss : List Stretch} {note : Note} {plan : List Note} → Noted w m l from s note
      → LaidOut w m l (block_after s) ss plan
      → length (rest_text kept rs (s ∷ ss) out)
      ≡ length (written s.come) + (first ss - end_before (block_after s) rs) + length (rest_text kept rs ss out)
  rest-long {s = s} {ss} p q =
      let f = laid_from q in
      let old : ℕ = end_before (block_after s) rs in
      omega (
        arith,
        ap length (rest_text-first n kept l fit s ss out),
        length-append (written s.come) (kept_text n rs s ss out ++ rest_text kept rs ss out),
        length-append (kept_text n rs s ss out) (rest_text kept rs ss out),
        length-take-le (first ss - old) (drop old out)
            (omega (arith, length-drop old out, inside, ends-kept n kept l fit (next_block n ss) f.within)),
      )

  rest-place :
      {from : ℕ} {ss : List Stretch} {plan : List Note} (at : ℕ) → LaidOut w m l from ss plan
      → at + (first ss - end_before from rs) + length (rest_text kept rs ss out)
      ≡ place_after rs at from ss + (kept - end_before (after_all from ss) rs)
  rest-place at (laid_end h e) = omega (arith, ends_last n kept l fit)
  rest-place {from} at (laid_more {s = s} {ss} p q) =
      omega (arith, rest-long p q, rest-place (at + (end_before s.block rs - end_before from rs) + length (written s.come)) q)

  first-within : {from : ℕ} {ss : List Stretch} {plan : List Note} → LaidOut w m l from ss plan → first ss ≤ kept
  first-within {ss = ss} q = ends-kept n kept l fit (next_block n ss) (laid_from q).within

  pub over_first :
      {from : ℕ} {ss : List Stretch} {plan : List Note} → LaidOut w m l from ss plan
      → length (text_over kept rs ss out) ≡ first ss + length (rest_text kept rs ss out)
  over_first {ss = ss} q =
      omega (
        arith,
        ap length (over_text ss),
        length-append (take (first ss) out) (rest_text kept rs ss out),
        length-take-le (first ss) out (omega (arith, first-within q, inside)),
      )

  pub over-long :
      {ss : List Stretch} {plan : List Note} → LaidOut w m l 0 ss plan
      → length (text_over kept rs ss out) ≡ place_after rs 0 0 ss + (kept - end_before (after_all 0 ss) rs)
  over-long q = omega (arith, over_first q, rest-place 0 q)

  -- the rest of the rows goes up to the last
  rows_long :
      {from : ℕ} {ss : List Stretch} {plan : List Note} (at : ℕ) → LaidOut w m l from ss plan → at + length (rest_text kept rs ss out) < cap
      → row_size * next_block n ss + length (rest_rows n rs at ss l) ≡ row_size * n
  rows_long at (laid_end h e) z = omega arith
  rows_long at (laid_more {s = s} {ss} p q) z =
      let f = laid_from q in
      let here = rest-long p q in
      let short = carry-short n kept l fit s.block (omega (arith, p.within)) in
      let all = rows_from-encodable (gives-short (blocks_in m w.rs) (keeps-short (some m) (some w.rs)) short p.are) at (omega arith) in
      let fresh : List ℕ = encode_rows (rows_from at s.come) in
      let later = rows_long (place_next n rs at s ss) q (omega arith) in
      omega (
        arith,
        ap length (rest_rows-first n rs at s ss l),
        length-append fresh (kept_rows n rs at s ss l ++ rest_rows n rs (place_next n rs at s ss) ss l),
        length-append (kept_rows n rs at s ss l) (rest_rows n rs (place_next n rs at s ss) ss l),
        encode_rows-length all,
        rows_from-length at s.come,
        p.gone,
        f.later,
        f.within,
        move_rows-length (next_block n ss - block_after s) (end_before (block_after s) rs) (at + length (written s.come))
            (drop (row_size * block_after s) l)
            (omega (arith, f.later, f.within, fits-long n kept l fit, length-drop (row_size * block_after s) l)),
      )

  -- ---- both buffers

  module _ {ss : List Stretch} {plan : List Note} (q : LaidOut w m l 0 ss plan) where
    abbrev new : List ℕ
    new = text_over kept rs ss out

    pub whole-text :
        {out₁ out₂ : List ℕ} → length new ≤ length out → out₁ ≡ sets out (first ss) (rest_text kept rs ss out)
        → out₂ ≡ sets out₁ (length new) (replicate (kept - length new) 0) → out₂ ≡ front_over new (length new) kept out
    whole-text {out₁} room e z =
        let rest : List ℕ = rest_text kept rs ss out in
        let stored : out₁ ≡ new ++ drop (length new) out
        = e
        ∙ sets-eq rest out (first ss) (omega (arith, over_first q))
        ∙ ap₂ (λ x k. x ++ drop k out) (sym (over_text ss)) (sym (over_first q)) in
        z ∙ ap (λ x. sets x (length new) (replicate (kept - length new) 0)) stored ∙ front-over new out kept room inside

    pub whole-rows :
        {l₁ : List ℕ} → length new < cap → l₁ ≡ sets l (row_size * next_block n ss) (rest_rows n rs (first ss) ss l)
        → l₁ ≡ front_over (ledger_over n rs ss l) (row_size * n) (row_size * n) l
    whole-rows {l₁} small e =
        let rest : List ℕ = rest_rows n rs (first ss) ss l in
        let a : ℕ = row_size * next_block n ss in
        let long = rows_long (first ss) q (omega (arith, over_first q)) in
        let room = fits-long n kept l fit in
        let stored : l₁ ≡ ledger_over n rs ss l ++ drop (row_size * n) l
        = e ∙ sets-eq rest l a (omega arith) ∙ ap₂ (λ x k. x ++ drop k l) (sym (over_rows ss)) long in
        stored ∙ no-zeros (ledger_over n rs ss l) l (row_size * n)
