-- A draft copied to the caller's buffers is what a writing pass leaves there.
use mathlib.Core.Path.{◌≡◌, sym, ap, ◌∙◌}
use mathlib.Core.List.{List, ◌++◌}
use Prim.Native.Nat.{ℕ, ◌*◌, ◌≤◌}
use native.Mathlib.Omega.{arith}
use lib.ListN.{length, take, drop}
use lib.Seq.{sets, length-take-le}
use Rattle.ledger.specs.Ledger.{row_size, encode_rows, written, rows_from}
use Rattle.edit_meaning.proofs.Bytes.{at_front-stored}
use Rattle.passes.specs.Passes.{WrotePieces}
use Rattle.passes.specs.declared.open.OpenDocument.{OpenDocument}
use Rattle.passes.specs.declared.Standing.{Standing}
use Rattle.calls.specs.Calls.{Draft}
use Rattle.calls.proofs.Settling.{stored_whole}

module _ {d : OpenDocument} {from : Standing} {draft draft_rows out ledger : List ℕ} (w : Draft d from draft draft_rows out ledger) where
  -- the rows fill the part of the draft that is copied
  rows_long : row_size * d.blocks ≡ length (encode_rows (rows_from 0 w.pieced.ps))
  rows_long = sym (length-take-le (row_size * d.blocks) draft_rows w.room) ∙ ap length w.holds_rows

  -- text and rows copied
  pub delivered :
      {out' ledger₁ : List ℕ} → length out ≤ length draft → out' ≡ take (length out) draft → ledger₁ ≡ take (row_size * d.blocks) draft_rows
      → WrotePieces w.pieced.ps from out ledger out' (ledger₁ ++ drop (row_size * d.blocks) ledger)
  delivered {ledger₁ = ledger₁} h o l =
      let ps = w.pieced.ps in
      let rows : List ℕ = encode_rows (rows_from 0 ps) in
      let first = sym w.first in
      record {
        text = o ∙ w.holds h ∙ stored_whole (written ps) out w.long ∙ (λ i. sets out (first i) (written ps));
        rows =
            (λ i. (l ∙ w.holds_rows) i ++ drop (rows_long i) ledger)
            ∙ sym (at_front-stored ledger rows (omega (arith, rows_long, w.pieced.room)))
            ∙ (λ i. sets ledger (row_size * sym w.begins i) (encode_rows (rows_from (first i) ps)));
      }
