-- Blocks measured and written in one pass. Each turn passes a block (`BlocksPassed`), and whatever pieces the pass may have been given, those
-- that are left are given again (`BlocksLeft`): a refusal shows that there were none.
use mathlib.Core.Path.{◌≡◌, refl, ◌∙◌}
use mathlib.Core.Bool.{false}
use mathlib.Core.List.{List, []}
use Prim.Native.Nat.{ℕ, ◌*◌, ◌≤◌, ◌<◌}
use Rattle.std.specs.Prelude.{Result, Ok, Err}
use native.Mathlib.Omega.{arith}
use lib.ListN.{length}
use lib.Seq.{sets}
use Rattle.text.specs.Writing.{cap}
use Rattle.mitex_meaning.specs.State.{carry_of}
use Rattle.ledger.specs.Ledger.{row_size, encode_row}
use Rattle.passes.specs.Passes.{BlocksUpTo, Pieced, Steps, Measures, Writes}
use Rattle.refusals.specs.declared.Refusal.{Refusal}
use Rattle.passes.specs.declared.Standing.{Standing}
use Rattle.passes.proofs.Measuring.{BlocksPassed, blocks-passed-start, blocks-passed-end, blocks-passed-refused, blocks-passed-next}
use Rattle.passes.proofs.Rewriting.{BlocksLeft, blocks-left-start, blocks-left-next, blocks-left-end, row-left, never-refused}

module _ (rules index rows text : List ℕ) (from : Standing) (n : ℕ) (out₀ ledger₀ : List ℕ) where
  -- the pass has come to s, and the buffers are as long as they were
  pub record Drafted (s : Standing) (out ledger : List ℕ) : Type 0 where
    pub passed : (w : BlocksUpTo rules index rows text from n) → BlocksPassed w n false [] s
    pub left : (w : Pieced rules index rows text from n ledger₀) → BlocksLeft w out₀ s out ledger
    pub long : length out ≡ length out₀
    pub ledger_long : length ledger ≡ length ledger₀

  pub drafted-start : Drafted from out₀ ledger₀
  drafted-start = record { passed = λ w. blocks-passed-start w (omega arith); left = λ w. blocks-left-start w out₀; long = refl; ledger_long = refl }

module _ {rules index rows text : List ℕ} {from : Standing} {n : ℕ} {out₀ ledger₀ : List ℕ} {s : Standing} {out ledger : List ℕ}
    (d : Drafted rules index rows text from n out₀ ledger₀ s out ledger) where
  -- what the pass promises where it ends
  abbrev DraftEnds : Result Standing Refusal → List ℕ → Type 0
  DraftEnds r out' =
      Measures rules index rows text from n n false [] r × Writes rules index rows text from n out₀ ledger₀ out' ledger

  pub drafted-end : n ≤ s.block → DraftEnds (Ok s) out
  drafted-end h = (λ w. blocks-passed-end (d.passed w) h, λ w. blocks-left-end w out₀ (d.left w) h)

  module _ (h : s.block < n) {out' : List ℕ} where
    pub drafted-refused : {e : Refusal} → Steps rules index rows text s out (Err e) out' → DraftEnds (Err e) out'
    drafted-refused p = (λ w. blocks-passed-refused (d.passed w) h p, λ w. absurd (never-refused (d.left w).here h p))

    -- where pieces were given, the row can say where the text ends
    pub drafted-next :
        {r : Standing} (p : Steps rules index rows text s out (Ok r) out') {ledger' : List ℕ} → length out' ≡ length out
        → length ledger' ≡ length ledger
        → (r.at < cap
        → ledger' ≡ sets ledger (row_size * s.block) (encode_row (record { end = r.at; carry = carry_of r.converter })))
        → Drafted rules index rows text from n out₀ ledger₀ r out' ledger'
    drafted-next p long ledger_long e =
        record {
          passed = λ w. blocks-passed-next (d.passed w) h p false refl refl;
          left = λ w. blocks-left-next w out₀ (d.left w) h p (e (row-left (d.left w).here h p).1);
          long = long ∙ d.long;
          ledger_long = ledger_long ∙ d.ledger_long;
        }
