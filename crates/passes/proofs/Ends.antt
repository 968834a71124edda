-- Where blocks end, by the rows before them: no earlier than those before (`ends-rise`), and no later than the kept text (`ends-kept`).
use mathlib.Core.Path.{◌≡◌, sym, ap, ◌∙◌}
use mathlib.Core.Bool.{true}
use mathlib.Core.List.{List}
use Prim.Native.Nat.{ℕ, zero, suc, ◌≤◌, ◌<◌}
use native.Mathlib.Omega.{arith}
use Rattle.ledger.specs.Ledger.{row_at, decode_rows, fits}
use Rattle.ledger.proofs.Fitting.{fits-end, fits-rise}
use Rattle.edit_meaning.specs.Edit.{end_before}
use Rattle.edit_meaning.proofs.Bytes.{end_before-at}
use Rattle.passes.specs.Passes.{EndsBefore}

pub ends-first : (k : ℕ) (l : List ℕ) → k ≡ 0 → EndsBefore l k 0
ends-first k l e n i = sym (ap (λ j. end_before j (decode_rows n l)) e)

pub ends-before : (k last : ℕ) (l : List ℕ) {r : ℕ} → suc last ≡ k → r ≡ (row_at last l).end → EndsBefore l k r
ends-before k last l z e n i =
    e ∙ sym (end_before-at n last l (omega arith)) ∙ ap (λ j. end_before j (decode_rows n l)) z

module _ (n kept : ℕ) (l : List ℕ) (e : fits n kept l ≡ true) where
  pub ends-rise : (i j : ℕ) → i ≤ j → j ≤ n → end_before i (decode_rows n l) ≤ end_before j (decode_rows n l)
  ends-rise zero j h k = omega arith
  ends-rise (suc i) zero h k = absurd (omega arith)
  ends-rise (suc i) (suc j) h k =
      let r = fits-rise n kept l e i j (omega arith) (omega arith) in
      omega (arith, end_before-at n i l (omega arith), end_before-at n j l (omega arith))

  pub ends-kept : (j : ℕ) → j ≤ n → end_before j (decode_rows n l) ≤ kept
  ends-kept zero h = omega arith
  ends-kept (suc j) h = omega (arith, end_before-at n j l (omega arith), fits-end n kept l e j (omega arith))

  pub ends-row : (i j : ℕ) → i ≤ j → j < n → end_before i (decode_rows n l) ≤ (row_at j l).end
  ends-row i j h k = omega (arith, ends-rise i (suc j) (omega arith) (omega arith), end_before-at n j l k)
