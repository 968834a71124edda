-- What Convert and the changes, Edit among them, answer, in every mode, with any files and any buffers: a refusal with one of the numbers 1
-- to 15, or a result of their own kind. The numbers are those of the checks and of the blocks (`numbered`), 6 of changes, and 15.
use mathlib.Core.Path.{◌≡◌}
use mathlib.Core.Logic.{◌≢◌}
use mathlib.Core.List.{List}
use Prim.Native.Nat.{ℕ}
use native.Mathlib.Omega.{arith}
use Rattle.mitex_spec.specs.RuleFile.{rules_of}
use Rattle.mitex_syntax.specs.Tree.{Tree}
use Rattle.mitex_meaning.specs.Outcome.{Carry}
use Rattle.mitex_meaning.specs.Outcome.Outcome.{refused as declined}
use Rattle.edit_meaning.specs.Walk.CheckedFile.{bad}
use Rattle.edit_meaning.specs.Edit.{convert_document, edit}
use Rattle.edit_meaning.specs.Changes.{Kind, change}
use Rattle.edit_meaning.specs.Numbers.{Fifteen, ConvertNumber, OfConvert, OfEdit}
use Rattle.edit_meaning.proofs.Numbers.{convert-in, change-in, edit-in}
use Rattle.manuscript.specs.Manuscript.{mode_of, manuscript}
use Rattle.manuscript.proofs.Manuscript.{numbered}

module _ (mode : ℕ) (rules : List ℕ) where
  of-block : (c : Carry) (b : Tree) (n i : ℕ) → (manuscript mode rules).convert c b ≡ declined n i → Fifteen n
  of-block c b n i e = let h = (numbered (mode_of mode) (rules_of rules)).block c b n i e in (omega arith, omega arith)

  of-check : (tree : List ℕ) (n i : ℕ) → (manuscript mode rules).check tree ≡ bad n i → Fifteen n
  of-check tree n i e = let h = (numbered (mode_of mode) (rules_of rules)).checked tree n i e in (omega arith, omega arith)

  no-six-block : (c : Carry) (b : Tree) (n i : ℕ) → (manuscript mode rules).convert c b ≡ declined n i → n ≢ 6
  no-six-block c b n i e q = let h = (numbered (mode_of mode) (rules_of rules)).block c b n i e in omega arith

  no-six-check : (tree : List ℕ) (n i : ℕ) → (manuscript mode rules).check tree ≡ bad n i → n ≢ 6
  no-six-check tree n i e q = let h = (numbered (mode_of mode) (rules_of rules)).checked tree n i e in omega arith

  pub convert-answers :
      (tree text ledger : List ℕ) → OfConvert ConvertNumber (convert_document (manuscript mode rules) tree text ledger).answer
  convert-answers =
      convert-in ConvertNumber (manuscript mode rules) (λ c b n i e. (of-block c b n i e, no-six-block c b n i e))
      (λ tree n i e. (of-check tree n i e, no-six-check tree n i e)) ((omega arith, omega arith), λ q. omega arith)

  pub change-answers :
      (tree : List ℕ) (k : Kind) (kept : ℕ) (text ledger : List ℕ)
      → OfEdit Fifteen (change (manuscript mode rules) tree k kept text ledger).answer
  change-answers =
      change-in Fifteen (manuscript mode rules) of-block of-check (omega arith, omega arith) (omega arith, omega arith)

  pub edit-answers :
      (tree : List ℕ) (block kept : ℕ) (text ledger : List ℕ)
      → OfEdit Fifteen (edit (manuscript mode rules) tree block kept text ledger).answer
  edit-answers =
      edit-in Fifteen (manuscript mode rules) of-block of-check (omega arith, omega arith) (omega arith, omega arith)
