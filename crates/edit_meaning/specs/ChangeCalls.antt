-- From calls of the four kinds to runs of changes: what a call promises, and calls one after the other. A contract over the code's
-- buffers is one of these records, so that the theorem over lists of changes speaks of the code.
use Rattle.std.specs.Prelude.{◌≡◌, List, [], ◌∷◌, ℕ, ◌*◌, pos, ◌-ℤ◌, take}
use Rattle.ledger.specs.Ledger.{row_size}
use Rattle.edit_meaning.specs.Walk.{BlockConverter}
use Rattle.edit_meaning.specs.Edit.{Answer}
use Rattle.edit_meaning.specs.Edit.Answer.{refused, converted, edited}
use Rattle.edit_meaning.specs.Run.{size_after, Holds}
use Rattle.edit_meaning.specs.Calls.{Gives}
use Rattle.edit_meaning.specs.Changes.{Kind, Change, change, reference_changes, AllowedChanges, ChangesMoved}

-- A change that answered a and left text' and ledger', where converting its tree from the start was accepted, with a length and a count of
-- blocks, and left text'' and ledger'': the same length, the growth since the kept length, the same text up to it and the same block rows.
pub record SameAsConverted (len blocks : ℕ) (text'' ledger'' : List ℕ) (kept : ℕ) (a : Answer) (text' ledger' : List ℕ) : Type 0 where
  pub count : ℕ
  pub answer : a ≡ edited len (pos len -ℤ pos kept) count
  pub bytes : take len text' ≡ take len text''
  pub rows : take (row_size * blocks) ledger' ≡ take (row_size * blocks) ledger''

-- the same, or, where that conversion was refused, the same refusal, and both buffers as they were lent; Convert answers nothing else
abbrev pub AsConverted :
    Answer → (text'' ledger'' : List ℕ) (kept : ℕ) (text ledger : List ℕ) (a : Answer) (text' ledger' : List ℕ) → Type 0
AsConverted (refused n i) text'' ledger'' kept text ledger a text' ledger' = (a ≡ refused n i) × (text' ≡ text) × (ledger' ≡ ledger)
AsConverted (converted len n) text'' ledger'' kept text ledger a text' ledger' = SameAsConverted len n text'' ledger'' kept a text' ledger'
AsConverted (edited len g n) text'' ledger'' kept text ledger a text' ledger' = ⊥

module _ (𝓒 : BlockConverter) where
  -- a call that changes a document, given a tree, what is changed, the kept length and the two buffers
  pub record Alters (tree : List ℕ) (k : Kind) (kept : ℕ) (text ledger : List ℕ) (a : Answer) (text' ledger' : List ℕ) : Type 0 where
    pub gives : Gives (change 𝓒 tree k kept text ledger) a text' ledger'

  -- such calls one after the other: each is given what the one before left, and the length that the last accepted one gave
  pub data RunsChanges : ℕ → List ℕ → List ℕ → List Change → List Answer → ℕ → List ℕ → List ℕ → Type 0 where
    no_change : {kept : ℕ} {text ledger : List ℕ} → RunsChanges kept text ledger [] [] kept text ledger
    then_changes :
        {tree text ledger text₁ ledger₁ text₂ ledger₂ : List ℕ} {k : Kind} {kept kept₂ : ℕ} {a : Answer} {es : List Change} {said : List Answer}
        → Alters tree k kept text ledger a text₁ ledger₁ → RunsChanges (size_after a kept) text₁ ledger₁ es said kept₂ text₂ ledger₂
        → RunsChanges kept text ledger (record { tree = tree; kind = k } ∷ es) (a ∷ said) kept₂ text₂ ledger₂

  -- Demand 3 of such calls, over any list of changes: as `Demanded`, each change being permitted beside the document that it meets.
  abbrev pub DemandedChanges :
      (kept : ℕ) (text ledger : List ℕ) (es : List Change) (said : List Answer) (kept' : ℕ) (text' ledger' : List ℕ) → Type 0
  DemandedChanges kept text ledger es said kept' text' ledger' =
      (t l tree : List ℕ) → Holds 𝓒 t l tree (record { text = text; ledger = ledger; size = kept }) → AllowedChanges 𝓒 t l tree es
      → (said ≡ (reference_changes 𝓒 t l tree es).answers)
      × Holds 𝓒 t l (reference_changes 𝓒 t l tree es).last (record { text = text'; ledger = ledger'; size = kept' })
      × ChangesMoved 𝓒 (record { text = text; ledger = ledger; size = kept }) es
