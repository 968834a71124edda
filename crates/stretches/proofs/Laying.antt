-- Stretches laid out in a plan, the first of them and the others: what each leaves is its own, what is kept after it, and what the others
-- leave (`rest_text-first`, `rest_rows-first`); and the others read the text from where they begin (`laid_same`).
use mathlib.Core.Path.{◌≡◌, refl, sym, ap, subst, ◌∙◌}
use mathlib.Core.Bool.{true}
use mathlib.Core.List.{List, [], ◌∷◌, ◌++◌, append_assoc, append-nil}
use Prim.Native.Nat.{ℕ, zero, suc, ◌+◌, ◌*◌, ◌-◌, ◌≤◌, ◌<◌}
use native.Mathlib.Omega.{arith}
use lib.ListN.{length, take, drop, get_or}
use Rattle.mitex_meaning.specs.Keeping.{Short}
use Rattle.mitex_meaning.specs.Parts.{between}
use Rattle.mitex_meaning.specs.declared.LaTeXMode.{LaTeXMode}
use Rattle.ledger.specs.Ledger.{Row, row_size, decode_rows, encode_rows, fits, move_rows, written, rows_from}
use Rattle.ledger.proofs.Reading.{row_at-short}
use Rattle.ledger.proofs.Fitting.{fits-row, fits-none, fits-ends}
use Rattle.edit_meaning.specs.Edit.{end_before, carry_before}
use Rattle.edit_meaning.specs.Changes.{Stretch, block_after}
use Rattle.edit_meaning.proofs.Bytes.{end_before-at, carry_before-at}
use Rattle.passes.specs.Passes.{Document}
use Rattle.passes.proofs.Ends.{ends-rise}
use Rattle.stretches.specs.Plans.{next_block, rest_text, rest_rows, Noted, LaidOut}
use Rattle.stretches.specs.Plans.LaidOut.{laid_end, laid_more}
use Rattle.stretches.specs.declared.Note.{Note}
use Rattle.stretches.proofs.Storing.{rest-later}

-- ---- a ledger that fits

-- the text of all blocks ends with the kept text
pub ends_last : (n kept : ℕ) (l : List ℕ) → fits n kept l ≡ true → end_before n (decode_rows n l) ≡ kept
ends_last zero kept l e = fits-none kept l e
ends_last (suc n) kept l e = end_before-at (suc n) n l (omega arith) ∙ fits-ends kept l n e

pub carry-short : (n kept : ℕ) (l : List ℕ) → fits n kept l ≡ true → (k : ℕ) → k ≤ n → Short (carry_before k (decode_rows n l))
carry-short n kept l e zero h = omega arith
carry-short n kept l e (suc i) h =
    subst Short (sym (carry_before-at n i l (omega arith))) (row_at-short i l (fits-row n kept l e i (omega arith)).1)

-- ---- the first stretch and the others

-- the text and the rows that are kept after a stretch, up to the next, and where the next begins
abbrev pub kept_text : ℕ → List Row → Stretch → List Stretch → List ℕ → List ℕ
kept_text n rs s ss t = between (end_before (block_after s) rs) (end_before (next_block n ss) rs) t

abbrev pub kept_rows : ℕ → List Row → ℕ → Stretch → List Stretch → List ℕ → List ℕ
kept_rows n rs at s ss l =
    move_rows (next_block n ss - block_after s) (end_before (block_after s) rs) (at + length (written s.come))
    (drop (row_size * block_after s) l)

abbrev pub place_next : ℕ → List Row → ℕ → Stretch → List Stretch → ℕ
place_next n rs at s ss = at + length (written s.come) + (end_before (next_block n ss) rs - end_before (block_after s) rs)

pub rest_text-first :
    (n kept : ℕ) (l : List ℕ) → fits n kept l ≡ true → (s : Stretch) (ss : List Stretch) (t : List ℕ)
    → rest_text kept (decode_rows n l) (s ∷ ss) t
    ≡ written s.come ++ (kept_text n (decode_rows n l) s ss t ++ rest_text kept (decode_rows n l) ss t)
rest_text-first n kept l fit s [] t =
    ap (λ x. written s.come ++ x)
    (ap (λ e. between (end_before (block_after s) (decode_rows n l)) e t) (sym (ends_last n kept l fit))
    ∙ sym (append-nil (kept_text n (decode_rows n l) s [] t)))
rest_text-first n kept l fit s (s₂ ∷ ss) t =
    append_assoc (written s.come) (kept_text n (decode_rows n l) s (s₂ ∷ ss) t) (rest_text kept (decode_rows n l) (s₂ ∷ ss) t)

pub rest_rows-first :
    (n : ℕ) (rs : List Row) (at : ℕ) (s : Stretch) (ss : List Stretch) (l : List ℕ)
    → rest_rows n rs at (s ∷ ss) l
    ≡ encode_rows (rows_from at s.come) ++ (kept_rows n rs at s ss l ++ rest_rows n rs (place_next n rs at s ss) ss l)
rest_rows-first n rs at s [] l = ap (λ x. encode_rows (rows_from at s.come) ++ x) (sym (append-nil (kept_rows n rs at s [] l)))
rest_rows-first n rs at s (s₂ ∷ ss) l =
    append_assoc (encode_rows (rows_from at s.come)) (kept_rows n rs at s (s₂ ∷ ss) l)
    (rest_rows n rs (place_next n rs at s (s₂ ∷ ss)) (s₂ ∷ ss) l)

-- ---- the plan

-- what is read where a plan has no note
abbrev pub no_note : Note
no_note = record { block = 0; after = 0; size = 0; i = 0; j = 0 }

-- its first note
abbrev pub note_in : List Note → Note
note_in plan = get_or plan 0 no_note

-- it says first at which block its stretches begin
pub record LaidFrom (n from : ℕ) (ss : List Stretch) (plan : List Note) : Type 0 where
  pub later : from ≤ next_block n ss
  pub within : next_block n ss ≤ n
  pub some : 0 < length plan
  pub says : (note_in plan).block ≡ next_block n ss

-- the first of its stretches, where there is one, and the plan of the others
module _ {rules index rows text : List ℕ} {n : ℕ} (w : Document rules index rows text n) (m : LaTeXMode) (l : List ℕ) where
  pub record LaidFirst (from : ℕ) (ss : List Stretch) (plan : List Note) : Type 0 where
    pub s : Stretch
    pub others : List Stretch
    pub are : ss ≡ s ∷ others
    pub noted : Noted w m l from s (note_in plan)
    pub laid : LaidOut w m l (block_after s) others (drop 1 plan)

module _ {rules index rows text : List ℕ} {n : ℕ} {w : Document rules index rows text n} {m : LaTeXMode} {l : List ℕ} where
  pub laid_from : {from : ℕ} {ss : List Stretch} {plan : List Note} → LaidOut w m l from ss plan → LaidFrom n from ss plan
  laid_from (laid_end h e) = record { later = h; within = omega arith; some = omega arith; says = e }
  laid_from (laid_more p q) =
      record { later = p.later; within = omega (arith, p.within); some = omega arith; says = p.block }

  pub laid-first :
      {from : ℕ} {ss : List Stretch} {plan : List Note} → LaidOut w m l from ss plan → (note_in plan).block < n → LaidFirst w m l from ss plan
  laid-first (laid_end h e) z = absurd (omega (arith, e))
  laid-first (laid_more {s = s} {ss} p q) z = record { s = s; others = ss; are = refl; noted = p; laid = q }

  pub laid_none : {from : ℕ} {ss : List Stretch} {plan : List Note} → LaidOut w m l from ss plan → n ≤ (note_in plan).block → ss ≡ []
  laid_none (laid_end h e) z = refl
  laid_none (laid_more p q) z = absurd (omega (arith, p.block, p.within, p.gone, p.some))

  -- the rest of the text is read from where its first block begins
  module _ (kept : ℕ) (fit : fits n kept l ≡ true) (t t' : List ℕ) (o : ℕ) (e : drop o t ≡ drop o t') where
    pub laid_same :
        {from : ℕ} {ss : List Stretch} {plan : List Note} → LaidOut w m l from ss plan → o ≤ end_before (next_block n ss) (decode_rows n l)
        → rest_text kept (decode_rows n l) ss t ≡ rest_text kept (decode_rows n l) ss t'
    laid_same (laid_end h z) b = refl
    laid_same (laid_more {s = s} {ss} p q) b =
        let old = end_before (block_after s) (decode_rows n l) in
        let end = end_before (next_block n ss) (decode_rows n l) in
        let f = laid_from q in
        let low : o ≤ old = omega (arith, ends-rise n kept l fit s.block (block_after s) (omega arith) p.within) in
        let high : o ≤ end = omega (arith, ends-rise n kept l fit (block_after s) (next_block n ss) f.later f.within) in
        rest_text-first n kept l fit s ss t
        ∙ (λ i. written s.come ++ (take (end - old) (rest-later t t' o old low e i) ++ laid_same q high i))
        ∙ sym (rest_text-first n kept l fit s ss t')
