-- From calls to runs: what a call of Convert or of Edit promises, and calls of Edit one after the other. A contract over the code's
-- buffers is one of these records, so that the theorem over lists of edits speaks of the code.
use Rattle.std.specs.Prelude.{◌≡◌, List, [], ◌∷◌, ℕ}
use Rattle.edit_meaning.specs.Walk.{BlockConverter}
use Rattle.edit_meaning.specs.Edit.{Answer, Result, convert_document, edit}
use Rattle.edit_meaning.specs.Edit.Answer.{refused, converted, edited}
use Rattle.edit_meaning.specs.Run.{Edit, size_after, reference, Allowed, Holds, TailsMoved}

-- a call gave an answer and left text and ledger as the definition says
pub record Gives (r : Result) (a : Answer) (text ledger : List ℕ) : Type 0 where
  pub answer : a ≡ r.answer
  pub bytes : text ≡ r.text
  pub rows : ledger ≡ r.ledger

-- a refusal leaves both buffers as they were lent
abbrev pub Untouched : Answer → (text ledger text' ledger' : List ℕ) → Type 0
Untouched (refused n i) text ledger text' ledger' = (text' ≡ text) × (ledger' ≡ ledger)
Untouched (converted len n) text ledger text' ledger' = Unit {0}
Untouched (edited len g n) text ledger text' ledger' = Unit {0}

module _ (𝓒 : BlockConverter) where
  -- Convert, given a tree and the two buffers
  pub record Converts (tree text ledger : List ℕ) (a : Answer) (text' ledger' : List ℕ) : Type 0 where
    pub gives : Gives (convert_document 𝓒 tree text ledger) a text' ledger'

  -- Edit, given a tree, a block, the kept length and the two buffers
  pub record Edits (tree : List ℕ) (k kept : ℕ) (text ledger : List ℕ) (a : Answer) (text' ledger' : List ℕ) : Type 0 where
    pub gives : Gives (edit 𝓒 tree k kept text ledger) a text' ledger'

  -- calls of Edit one after the other: each is given what the one before left, and the length that the last accepted one gave
  pub data Runs : ℕ → List ℕ → List ℕ → List Edit → List Answer → ℕ → List ℕ → List ℕ → Type 0 where
    no_call : {kept : ℕ} {text ledger : List ℕ} → Runs kept text ledger [] [] kept text ledger
    then_calls :
        {tree text ledger text₁ ledger₁ text₂ ledger₂ : List ℕ} {k kept kept₂ : ℕ} {a : Answer} {es : List Edit} {said : List Answer}
        → Edits tree k kept text ledger a text₁ ledger₁ → Runs (size_after a kept) text₁ ledger₁ es said kept₂ text₂ ledger₂
        → Runs kept text ledger (record { tree = tree; block = k } ∷ es) (a ∷ said) kept₂ text₂ ledger₂

  -- Demand 3 of calls of Edit, over any list of edits. Let the buffers before the first call hold a document, by its conversion in some
  -- buffers t and l, and let each edit change no block but the one that it names. Then the answers are those that conversions from the
  -- start demand, refusals included; the buffers that the last call left hold the last accepted document; and after each accepted edit
  -- what follows the blocks converted again is the text from before, moved.
  abbrev pub Demanded :
      (kept : ℕ) (text ledger : List ℕ) (es : List Edit) (said : List Answer) (kept' : ℕ) (text' ledger' : List ℕ) → Type 0
  Demanded kept text ledger es said kept' text' ledger' =
      (t l tree : List ℕ) → Holds 𝓒 t l tree (record { text = text; ledger = ledger; size = kept }) → Allowed 𝓒 t l tree es
      → (said ≡ (reference 𝓒 t l tree es).answers)
      × Holds 𝓒 t l (reference 𝓒 t l tree es).last (record { text = text'; ledger = ledger'; size = kept' })
      × TailsMoved 𝓒 (record { text = text; ledger = ledger; size = kept }) es
