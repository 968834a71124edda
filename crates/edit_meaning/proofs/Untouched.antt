-- A refusal changes nothing: neither Convert (`convert-untouched`) nor a change (`change-untouched`, and so `edit-untouched`), whatever the
-- converter of blocks.
use mathlib.Core.Path.{refl}
use mathlib.Core.Bool.{Bool, true, false, ◌&&◌, cond}
use mathlib.Core.List.{List}
use Prim.Native.Nat.{ℕ}
use lib.ListN.{length}
use lib.Dec.{leb}
use Rattle.ledger.specs.Ledger.{Row, decode_rows}
use Rattle.edit_meaning.specs.Walk.{CheckedFile, BlockConverter, Walk}
use Rattle.edit_meaning.specs.Walk.CheckedFile.{bad, good}
use Rattle.edit_meaning.specs.Walk.Walk.{stopped, pieces}
use Rattle.edit_meaning.specs.Edit.{Result, room, room_for_text, settle, conversion, convert_document, edit}
use Rattle.edit_meaning.specs.Calls.{Untouched}
use Rattle.edit_meaning.specs.Changes.{Kind, old_count, change_fits, Remade, remake, exchange, exchange_or, change_checked, change}
use Rattle.edit_meaning.specs.Changes.Kind.{replace}
use Rattle.edit_meaning.specs.Changes.Remade.{halted, remade}
use Rattle.edit_meaning.proofs.Changes.{edit-change}

module _ (text ledger : List ℕ) where
  -- a refusal among results leaves both buffers as lent
  abbrev LeavesLent : Result → Type 0
  LeavesLent r = Untouched r.answer text ledger r.text r.ledger

  either : (b : Bool) (x y : Result) → LeavesLent x → LeavesLent y → LeavesLent (cond b x y)
  either true x y h k = h
  either false x y h k = k

  settle-untouched : (w : Walk) → LeavesLent (settle w text ledger)
  unfolding settle
  settle-untouched (stopped n i) = (refl, refl)
  settle-untouched (pieces ps) = either (room (length text) (length ledger) ps) _ _ tt (refl, refl)

  exchange-untouched : (n kept : ℕ) (rows : List Row) (x : Remade) → LeavesLent (exchange_or n kept rows x text ledger)
  unfolding exchange
  exchange-untouched n kept rows (halted m i) = (refl, refl)
  exchange-untouched n kept rows (remade ss) = either (room_for_text _ (length text) && leb _ (length ledger)) _ _ tt (refl, refl)

  module _ (𝓒 : BlockConverter) where
    pub convert-untouched : (tree : List ℕ) → LeavesLent (convert_document 𝓒 tree text ledger)
    unfolding convert_document
    convert-untouched tree = settle-untouched (conversion 𝓒 tree)

    checked-untouched : (x : CheckedFile 𝓒.Block) (k : Kind) (kept : ℕ) → LeavesLent (change_checked 𝓒 x k kept text ledger)
    checked-untouched (bad n i) k kept = (refl, refl)
    checked-untouched (good bs) k kept =
        let n : ℕ = old_count k (length bs) in
        let rows : List Row = decode_rows n ledger in
        either (change_fits k (length bs) kept text ledger) _ _ (exchange-untouched n kept rows (remake 𝓒 bs rows k)) (refl, refl)

    pub change-untouched : (tree : List ℕ) (k : Kind) (kept : ℕ) → LeavesLent (change 𝓒 tree k kept text ledger)
    unfolding change
    change-untouched tree k kept = checked-untouched (𝓒.check tree) k kept

    pub edit-untouched : (tree : List ℕ) (k kept : ℕ) → LeavesLent (edit 𝓒 tree k kept text ledger)
    edit-untouched tree k kept = rw (edit-change 𝓒 tree k kept text ledger) (change-untouched tree (replace k) kept)
