-- Edit is the change `replace k` (`edit-change`), for every tree, block, kept length and buffers: what it writes is one stretch exchanged,
-- with as many blocks as before (`write-exchange`). So is the replacement of several blocks where the list has one (`one-replaced`). So a
-- run of edits is a run of changes, and demand 3 over changes has demand 3 over edits in it (`of-changes`).
use mathlib.Core.Path.{◌≡◌, refl, sym, ap, ap₂, ◌∙◌}
use mathlib.Core.Bool.{Bool, true, false, ◌&&◌, and-true, and-eq-true_iff}
use mathlib.Core.List.{List, [], ◌∷◌, ◌++◌, append_assoc, append-nil}
use Prim.Native.Nat.{ℕ, zero, suc, ◌+◌, ◌*◌, ◌-◌, ◌≤◌, ◌<◌, max}
use native.Mathlib.Nat.{add-zero}
use native.Mathlib.Omega.{arith}
use borrow.Author.Tests.{leb-true, le-leb, ltb-true, ltb-false, le-ltb}
use lib.ListN.{length, take, drop, get_or, length-append, length-drop}
use lib.Seq.{length-take-le}
use lib.Dec.{leb, ltb}
use Rattle.ledger.specs.Ledger.{Row, row_size, row_at, encode_rows, decode_rows, fits, move_rows, Piece, written, rows_from}
use Rattle.ledger.proofs.Fitting.{fits-long, fits-end}
use Rattle.edit_meaning.specs.Walk.{CheckedFile, BlockConverter, Walk}
use Rattle.edit_meaning.specs.Walk.CheckedFile.{bad, good}
use Rattle.edit_meaning.specs.Walk.Walk.{stopped, pieces}
use Rattle.edit_meaning.specs.Edit.{Answer, Result, room_for_text, no_row, end_before, text_after, ledger_after}
use Rattle.edit_meaning.specs.Edit.{edit_fits, write, write_or, again, edit, edit_checked}
use Rattle.edit_meaning.specs.Edit.Answer.{refused, converted, edited}
use Rattle.edit_meaning.specs.Run.{Edit, Kept, leaves, call_edit, run, lacks, demanded, document_next, reference}
use Rattle.edit_meaning.specs.Run.{Allowed, tail_moved, TailsMoved, Demand3}
use Rattle.edit_meaning.specs.Changes.{named_there, change_fits, Stretch, come_count, stretch, stretch_then, each_from, remake}
use Rattle.edit_meaning.specs.Changes.{text_over, ledger_over, front_over, exchange, exchange_or}
use Rattle.edit_meaning.specs.Changes.{change_checked, change, Change, call_change, run_changes, lacks_named, demanded_change, reference_changes}
use Rattle.edit_meaning.specs.Changes.{AllowedChanges, block_count, change_moved, ChangesMoved, DemandChanges}
use Rattle.edit_meaning.specs.Changes.Kind.{replace, replace_all}
use Rattle.edit_meaning.proofs.Bytes.{end_before-at}

-- a row that is not there ends at 0
beyond : (n i : ℕ) (l : List ℕ) → n ≤ i → (get_or (decode_rows n l) i no_row).end ≡ 0
beyond zero i l h = refl
beyond (suc n) zero l h = absurd (omega arith)
beyond (suc n) (suc i) l h = beyond n i (drop row_size l) (omega arith)

-- the row before any block of a ledger that fits ends within the kept text
ends-within : (n kept : ℕ) (l : List ℕ) → fits n kept l ≡ true → (i : ℕ) → end_before i (decode_rows n l) ≤ kept
ends-within n kept l f zero = omega arith
ends-within n kept l f (suc i) = go (ltb i n) refl
  where
    go : (b : Bool) → ltb i n ≡ b → end_before (suc i) (decode_rows n l) ≤ kept
    go true e =
        let h : i < n = ltb-true i n e in
        let x : (row_at i l).end ≤ kept = fits-end n kept l f i h in
        omega (arith, end_before-at n i l h)
    go false e =
        let h : n ≤ i = ltb-false i n e in
        omega (arith, beyond n i l h)

module _ (n k kept : ℕ) (text ledger : List ℕ) (qs : List Piece) (inside : kept ≤ length text) (f : fits n kept ledger ≡ true) where
  abbrev rows : List Row
  rows = decode_rows n ledger

  abbrev from : ℕ
  from = end_before k rows

  abbrev old : ℕ
  old = end_before (k + length qs) rows

  abbrev new : ℕ
  new = from + length (written qs) + (kept - old)

  abbrev exchanged : Stretch
  exchanged = record { block = k; gone = length qs; come = qs }

  text-new : length (text_over kept rows (exchanged ∷ []) text) ≡ new
  text-new =
      let a : length (take from text) ≡ from = length-take-le from text (omega (arith, ends-within n kept ledger f k)) in
      let b : length (take (kept - old) (drop old text)) ≡ kept - old
      = length-take-le (kept - old) (drop old text) (omega (arith, length-drop old text)) in
      length-append (take from text) (written qs ++ take (kept - old) (drop old text))
      ∙ ap₂ ◌+◌ a (length-append (written qs) (take (kept - old) (drop old text)) ∙ ap (λ x. length (written qs) + x) b)
      ∙ (let z : from + (length (written qs) + (kept - old)) ≡ new = omega arith in z)

  many : n + (length qs + 0) - (length qs + 0) ≡ n
  many = omega arith

  text_same : take from text ++ written qs ++ take (kept - old) (drop old text) ≡ text_over kept rows (exchanged ∷ []) text
  text_same = append_assoc (take from text) (written qs) (take (kept - old) (drop old text))

  abbrev moved : List ℕ
  moved = move_rows (n - (k + length qs)) old (from + length (written qs)) (drop (row_size * (k + length qs)) ledger)

  ledger-same : take (row_size * k) ledger ++ encode_rows (rows_from from qs) ++ moved ≡ ledger_over n rows (exchanged ∷ []) ledger
  ledger-same = append_assoc (take (row_size * k) ledger) (encode_rows (rows_from from qs)) moved

  write-exchange : write n k kept rows qs text ledger ≡ exchange n kept rows (exchanged ∷ []) text ledger
  unfolding write exchange text_after ledger_after front_over
  write-exchange =
      let r : leb (row_size * n) (length ledger) ≡ true = le-leb (row_size * n) (length ledger) (fits-long n kept ledger f) in
      let c : come_count (exchanged ∷ []) ≡ length qs = add-zero (length qs) in
      let z : row_size * n - row_size * n ≡ 0 = omega arith in
      let x : max (row_size * n) (row_size * n) ≡ row_size * n = omega arith in
      rw (text-new, many, r, and-true (room_for_text new (length text)), z, x, ← text_same, ← ledger-same, append-nil, c)

module _ (𝓒 : BlockConverter) where
  open 𝓒 use {Block, check}

  by-walk :
      (n k kept : ℕ) (text ledger : List ℕ) → kept ≤ length text → fits n kept ledger ≡ true → (w : Walk)
      → write_or n k kept (decode_rows n ledger) w text ledger
      ≡ exchange_or n kept (decode_rows n ledger) (stretch (replace k) w) text ledger
  by-walk n k kept text ledger h f (stopped m i) = refl
  by-walk n k kept text ledger h f (pieces qs) = write-exchange n k kept text ledger qs h f

  by_fits :
      (bs : List Block) (k kept : ℕ) (text ledger : List ℕ) (b : Bool) → edit_fits (length bs) k kept text ledger ≡ b
      → edit_checked 𝓒 (good bs) k kept text ledger ≡ change_checked 𝓒 (good bs) (replace k) kept text ledger
  unfolding edit_fits change_fits remake
  by_fits bs k kept text ledger true e =
      let p = (and-eq-true_iff (ltb k (length bs)) (leb kept (length text) && fits (length bs) kept ledger)).0 e in
      let q = (and-eq-true_iff (leb kept (length text)) (fits (length bs) kept ledger)).0 p.1 in
      rw e
      (by-walk (length bs) k kept text ledger (leb-true kept (length text) q.0) q.1 (again 𝓒 bs k (decode_rows (length bs) ledger)))
  by_fits bs k kept text ledger false e = rw e

  by-check :
      (x : CheckedFile Block) (k kept : ℕ) (text ledger : List ℕ)
      → edit_checked 𝓒 x k kept text ledger ≡ change_checked 𝓒 x (replace k) kept text ledger
  by-check (bad n i) k kept text ledger = refl
  by-check (good bs) k kept text ledger = by_fits bs k kept text ledger (edit_fits (length bs) k kept text ledger) refl

  pub edit-change :
      (tree : List ℕ) (k kept : ℕ) (text ledger : List ℕ) → edit 𝓒 tree k kept text ledger ≡ change 𝓒 tree (replace k) kept text ledger
  unfolding edit change
  edit-change tree k kept text ledger = by-check (check tree) k kept text ledger

  -- ---- a list of one block

  named-one : (k n : ℕ) → named_there (replace_all (k ∷ [])) n ≡ named_there (replace k) n
  named-one k n = rw (le-leb 0 k (omega arith)) (and-true (ltb k n))

  remake-one : (bs : List Block) (rows : List Row) (k : ℕ) → remake 𝓒 bs rows (replace_all (k ∷ [])) ≡ remake 𝓒 bs rows (replace k)
  unfolding remake each_from
  remake-one bs rows k = rw (le-ltb k 0 (omega arith)) (go (again 𝓒 bs k rows))
    where
      go : (w : Walk) → stretch_then k w (λ i. each_from 𝓒 bs rows i []) ≡ stretch (replace k) w
      go (stopped m i) = refl
      go (pieces qs) = refl

  checked-one :
      (x : CheckedFile Block) (k kept : ℕ) (text ledger : List ℕ)
      → change_checked 𝓒 x (replace_all (k ∷ [])) kept text ledger ≡ change_checked 𝓒 x (replace k) kept text ledger
  unfolding change_fits
  checked-one (bad n i) k kept text ledger = refl
  checked-one (good bs) k kept text ledger = rw (named-one k (length bs), remake-one bs (decode_rows (length bs) ledger) k)

  -- so it is Edit
  pub one-replaced :
      (tree : List ℕ) (k kept : ℕ) (text ledger : List ℕ)
      → change 𝓒 tree (replace_all (k ∷ [])) kept text ledger ≡ change 𝓒 tree (replace k) kept text ledger
  unfolding change
  one-replaced tree k kept text ledger = checked-one (check tree) k kept text ledger

-- ---- a run of edits is a run of changes

abbrev pub as_change : Edit → Change
as_change e = record { tree = e.tree; kind = replace e.block }

abbrev pub as_changes : List Edit → List Change
as_changes [] = []
as_changes (e ∷ es) = as_change e ∷ as_changes es

module _ (𝓒 : BlockConverter) where
  open 𝓒 use {Block, check}

  call_same : (s : Kept) (e : Edit) → call_edit 𝓒 s e ≡ call_change 𝓒 s (as_change e)
  call_same s e = edit-change 𝓒 e.tree e.block s.size s.text s.ledger

  pub run-same : (es : List Edit) (s : Kept) → run 𝓒 s es ≡ run_changes 𝓒 s (as_changes es)
  unfolding run run_changes
  run-same [] s = refl
  run-same (e ∷ es) s =
      rw (← call_same s e, ← run-same es (leaves (call_edit 𝓒 s e) s.size))

  lacks-same : (x : CheckedFile Block) (k : ℕ) → lacks x k ≡ lacks_named x (replace k)
  lacks-same (bad n i) k = refl
  lacks-same (good bs) k = refl

  module _ (t l : List ℕ) where
    pub demanded-same : (old : List ℕ) (e : Edit) → demanded 𝓒 t l old e ≡ demanded_change 𝓒 t l old (as_change e)
    unfolding demanded demanded_change
    demanded-same old e = rw (lacks-same (check e.tree) e.block)

    reference-same : (es : List Edit) (old : List ℕ) → reference 𝓒 t l old es ≡ reference_changes 𝓒 t l old (as_changes es)
    unfolding reference reference_changes
    reference-same [] old = refl
    reference-same (e ∷ es) old = rw (← demanded-same old e, ← reference-same es (document_next 𝓒 t l old e))

    allowed_same : (es : List Edit) (old : List ℕ) → Allowed 𝓒 t l old es → AllowedChanges 𝓒 t l old (as_changes es)
    unfolding Allowed AllowedChanges
    allowed_same [] old al = tt
    allowed_same (e ∷ es) old al = (
      λ bs bs' c c' n. al.0 bs bs' c c' (ltb-true e.block (length bs') n),
      rw (← demanded-same old e) (allowed_same es (document_next 𝓒 t l old e) al.1),
    )

  moved_same : (es : List Edit) (s : Kept) → ChangesMoved 𝓒 s (as_changes es) → TailsMoved 𝓒 s es
  unfolding TailsMoved ChangesMoved
  moved_same [] s m = tt
  moved_same (e ∷ es) s m =
      rw (call_same s e) (one (call_change 𝓒 s (as_change e)) m.0, rw (← call_same s e) (moved_same es _ (rw (← call_same s e) at m.1)))
    where
      one :
          (r : Result) → change_moved r.answer (replace e.block) (block_count (check e.tree)) s (leaves r s.size)
          → tail_moved r.answer e.block s (leaves r s.size)
      one r m₂ = go r.answer (leaves r s.size) m₂
        where
          go :
              (a : Answer) (s' : Kept) → change_moved a (replace e.block) (block_count (check e.tree)) s s'
              → tail_moved a e.block s s'
          go (refused n i) s' m₃ = tt
          go (converted len n) s' m₃ = tt
          go (edited len g n) s' m₃ = m₃

  pub of-changes :
      (t l tree : List ℕ) (s : Kept) (es : List Edit)
      → (AllowedChanges 𝓒 t l tree (as_changes es) → DemandChanges 𝓒 t l tree s (as_changes es)) → Allowed 𝓒 t l tree es
      → Demand3 𝓒 t l tree s es
  of-changes t l tree s es d al =
      let c : DemandChanges 𝓒 t l tree s (as_changes es) = d (allowed_same t l es tree al) in
      record {
        answers = ap (λ r. r.answers) (run-same es s) ∙ c.answers ∙ sym (ap (λ r. r.answers) (reference-same t l es tree));
        holds = rw (run-same es s, reference-same t l es tree) c.holds;
        moved = moved_same es s c.moved;
      }
