-- What is told of a call by numbers spells its answer, since no refusal has the number 0.
use mathlib.Core.Path.{◌≡◌, refl, ap, sym, ◌∙◌}
use mathlib.Core.List.{List}
use Prim.Native.Nat.{ℕ, zero, suc}
use native.Mathlib.Omega.{arith}
use lib.IntN.{ℤ}
use Rattle.edit_meaning.specs.Edit.{Answer, Result, convert_document, edit}
use Rattle.edit_meaning.specs.Edit.Answer.{refused, converted, edited}
use Rattle.edit_meaning.specs.Calls.{Gives, Converts, Edits}
use Rattle.edit_meaning.specs.Changes.{Kind, change}
use Rattle.edit_meaning.specs.ChangeCalls.{Alters}
use Rattle.edit_meaning.specs.Numbers.{Fifteen, ConvertNumber, OfConvert, OfEdit}
use Rattle.manuscript.specs.Manuscript.{manuscript}
use Rattle.manuscript.proofs.Answers.{convert-answers, edit-answers, change-answers}
use Rattle.zaldrume.specs.Answers.{number_told, place_told, growth_told, count_told, AnswerTold, Tells, convert_told, edit_told}

convert-spells : (a : Answer) → OfConvert ConvertNumber a → a ≡ convert_told (number_told a) (place_told a) (count_told a)
convert-spells (refused zero i) h = absurd (omega (arith, h.0.0))
convert-spells (refused (suc n) i) h = refl
convert-spells (converted len n) h = refl
convert-spells (edited _ _ _) h = elim h [ ]

edit-spells : (a : Answer) → OfEdit Fifteen a → a ≡ edit_told (number_told a) (place_told a) (growth_told a) (count_told a)
edit-spells (refused zero i) h = absurd (omega arith)
edit-spells (refused (suc n) i) h = refl
edit-spells (edited len g n) h = refl
edit-spells (converted _ _) h = elim h [ ]

module _ (mode : ℕ) (rules tree text ledger : List ℕ) {number place count : ℕ} {growth : ℤ} {text' ledger' : List ℕ} where
  pub convert-told :
      Tells (convert_document (manuscript mode rules) tree text ledger) number place growth count text' ledger'
      → (convert_document (manuscript mode rules) tree text ledger).answer ≡ convert_told number place count
  convert-told t =
      convert-spells _ (convert-answers mode rules tree text ledger)
      ∙ sym (λ i. convert_told (t.told.said i) (t.told.stands i) (t.told.counted i))

  pub edit-told :
      (block kept : ℕ) → Tells (edit (manuscript mode rules) tree block kept text ledger) number place growth count text' ledger'
      → (edit (manuscript mode rules) tree block kept text ledger).answer ≡ edit_told number place growth count
  edit-told block kept t =
      edit-spells _ (edit-answers mode rules tree block kept text ledger)
      ∙ sym (λ i. edit_told (t.told.said i) (t.told.stands i) (t.told.grown i) (t.told.counted i))

  pub change-told :
      (k : Kind) (kept : ℕ) → Tells (change (manuscript mode rules) tree k kept text ledger) number place growth count text' ledger'
      → (change (manuscript mode rules) tree k kept text ledger).answer ≡ edit_told number place growth count
  change-told k kept t =
      edit-spells _ (change-answers mode rules tree k kept text ledger)
      ∙ sym (λ i. edit_told (t.told.said i) (t.told.stands i) (t.told.grown i) (t.told.counted i))

  -- so what a caller in another language is told meets the contract of the call
  pub told-converts :
      Tells (convert_document (manuscript mode rules) tree text ledger) number place growth count text' ledger'
      → Converts (manuscript mode rules) tree text ledger (convert_told number place count) text' ledger'
  told-converts t = record { gives = record { answer = sym (convert-told t); bytes = t.bytes; rows = t.rows } }

  pub told-edits :
      (block kept : ℕ) → Tells (edit (manuscript mode rules) tree block kept text ledger) number place growth count text' ledger'
      → Edits (manuscript mode rules) tree block kept text ledger (edit_told number place growth count) text' ledger'
  told-edits block kept t = record { gives = record { answer = sym (edit-told block kept t); bytes = t.bytes; rows = t.rows } }

  pub told-alters :
      (k : Kind) (kept : ℕ) → Tells (change (manuscript mode rules) tree k kept text ledger) number place growth count text' ledger'
      → Alters (manuscript mode rules) tree k kept text ledger (edit_told number place growth count) text' ledger'
  told-alters k kept t = record { gives = record { answer = sym (change-told k kept t); bytes = t.bytes; rows = t.rows } }
