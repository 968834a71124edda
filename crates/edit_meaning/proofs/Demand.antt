-- Demand 3, over every list of edits (`run-demanded`): an edit is the change of one block (`edit-change`), so this is demand 3 over changes
-- (`demand-changes`) told of edits alone.
use mathlib.Core.List.{List}
use Prim.Native.Nat.{ℕ}
use Rattle.edit_meaning.specs.Walk.{BlockConverter, KeepsShort}
use Rattle.edit_meaning.specs.Run.{Edit, Kept, Allowed, Holds, Demand3}
use Rattle.edit_meaning.proofs.Changes.{as_changes, of-changes}
use Rattle.edit_meaning.proofs.DemandChanges.{demand-changes}

module _ (𝓒 : BlockConverter) (keeps-short : KeepsShort 𝓒) where
  module _ (t l : List ℕ) where
    -- from buffers that hold an accepted conversion, after every list of edits, refused ones included
    pub run-demanded : (tree : List ℕ) (s : Kept) → Holds 𝓒 t l tree s → (es : List Edit) → Allowed 𝓒 t l tree es → Demand3 𝓒 t l tree s es
    run-demanded tree s ho es al = of-changes 𝓒 t l tree s es (demand-changes 𝓒 keeps-short t l tree s ho (as_changes es)) al
