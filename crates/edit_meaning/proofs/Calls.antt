-- Calls one after the other are a run (`runs-are`), so demand 3 holds of the answers that calls gave and of the buffers that they left
-- (`runs-demanded`).
use mathlib.Core.Path.{◌≡◌, refl, sym, ap, ap₂, subst, ◌∙◌}
use mathlib.Core.List.{List, ◌∷◌}
use Prim.Native.Nat.{ℕ}
use Rattle.edit_meaning.specs.Walk.{BlockConverter, KeepsShort}
use Rattle.edit_meaning.specs.Edit.{Answer, edit}
use Rattle.edit_meaning.specs.Run.{Edit, Kept, size_after, leaves, run, reference, Holds, Demand3}
use Rattle.edit_meaning.specs.Calls.{Edits, Runs, Demanded}
use Rattle.edit_meaning.specs.Calls.Runs.{no_call, then_calls}
use Rattle.edit_meaning.proofs.Demand.{run-demanded}

module _ {𝓒 : BlockConverter} where
  -- a call before a run, where the length after it is known by its own
  pub runs-more :
      {tree text ledger text₁ ledger₁ text₂ ledger₂ : List ℕ} {k kept n₁ n₂ : ℕ} {a : Answer} {es : List Edit} {said : List Answer}
      → Edits 𝓒 tree k kept text ledger a text₁ ledger₁ → n₁ ≡ size_after a kept → Runs 𝓒 n₁ text₁ ledger₁ es said n₂ text₂ ledger₂
      → Runs 𝓒 kept text ledger (record { tree = tree; block = k } ∷ es) (a ∷ said) n₂ text₂ ledger₂
  runs-more {text₁ = text₁} {ledger₁} {text₂} {ledger₂} {n₂ = n₂} {es = es} {said} c n m =
      then_calls c (subst (λ (x : ℕ). Runs 𝓒 x text₁ ledger₁ es said n₂ text₂ ledger₂) n m)

  -- what calls answered and left is what the run of the definitions does
  pub runs-are :
      {kept kept' : ℕ} {text ledger text' ledger' : List ℕ} {es : List Edit} {said : List Answer}
      → Runs 𝓒 kept text ledger es said kept' text' ledger'
      → (said ≡ (run 𝓒 (record { text = text; ledger = ledger; size = kept }) es).answers)
      × (record { text = text'; ledger = ledger'; size = kept' } ≡ (run 𝓒 (record { text = text; ledger = ledger; size = kept }) es).left)
  unfolding run
  runs-are no_call = (refl, refl)
  runs-are (then_calls {tree} {text} {ledger} {text₁} {ledger₁} {k = k} {kept} {a = a} {es = es} c m) =
      let g = c.gives in
      let r = runs-are m in
      let s : record { text = text₁; ledger = ledger₁; size = size_after a kept } ≡ leaves (edit 𝓒 tree k kept text ledger) kept
      = λ i. record { text = g.bytes i; ledger = g.rows i; size = size_after (g.answer i) kept } in
      (ap₂ (λ x xs. x ∷ xs) g.answer (r.0 ∙ ap (λ (x : Kept). (run 𝓒 x es).answers) s), r.1 ∙ ap (λ (x : Kept). (run 𝓒 x es).left) s)

module _ (𝓒 : BlockConverter) (keeps-short : KeepsShort 𝓒) where
  pub runs-demanded :
      {kept kept' : ℕ} {text ledger text' ledger' : List ℕ} {es : List Edit} {said : List Answer}
      → Runs 𝓒 kept text ledger es said kept' text' ledger' → Demanded 𝓒 kept text ledger es said kept' text' ledger'
  runs-demanded {kept} {kept'} {text} {ledger} {text'} {ledger'} {es} r t l tree ho al =
      let a = runs-are r in
      let d : Demand3 𝓒 t l tree (record { text = text; ledger = ledger; size = kept }) es
      = run-demanded 𝓒 keeps-short t l tree (record { text = text; ledger = ledger; size = kept }) ho es al in
      (a.0 ∙ d.answers, subst (λ s. Holds 𝓒 t l (reference 𝓒 t l tree es).last s) (sym a.1) d.holds, d.moved)
