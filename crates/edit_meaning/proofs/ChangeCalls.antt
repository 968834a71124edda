-- Calls of the four kinds one after the other are a run of changes (`alters-are`); a call of Edit is one of them (`edits-alter`), and is the
-- call that replaces several blocks where the list has one (`edits-one`). So demand 3 holds of the answers that such calls gave and of the
-- buffers that they left (`alters-demanded`), also from an accepted call of Convert on (`converted-demanded`). One such call gives what a
-- call of Convert on its tree gives (`alters-converted`).
use mathlib.Core.Path.{◌≡◌, refl, sym, ap, ap₂, subst, subst₂, ◌∙◌}
use mathlib.Core.Logic.{◌↔◌}
use mathlib.Core.Bool.{false, cond}
use mathlib.Core.List.{List, [], ◌∷◌}
use Prim.Native.Nat.{ℕ}
use lib.ListN.{length}
use Rattle.ledger.specs.Ledger.{written}
use Rattle.edit_meaning.specs.Walk.{BlockConverter, KeepsShort}
use Rattle.edit_meaning.specs.Edit.{Answer, Result, convert_document}
use Rattle.edit_meaning.specs.Edit.Answer.{refused, converted, edited}
use Rattle.edit_meaning.specs.Run.{Kept, size_after, leaves, pieces_of, edit_answer, document_after, length_of, carries_from, Holds}
use Rattle.edit_meaning.specs.Calls.{Converts, Edits, Untouched}
use Rattle.edit_meaning.specs.Numbers.{OfConvert}
use Rattle.edit_meaning.specs.Changes.{Kind, Change, change, call_change, run_changes, lacks_named, count_by, demanded_change, reference_changes}
use Rattle.edit_meaning.specs.Changes.{PermittedChange, AllowedChanges, ChangesMoved, DemandChanges}
use Rattle.edit_meaning.specs.Changes.Kind.{replace, replace_all}
use Rattle.edit_meaning.specs.ChangeCalls.{AsConverted, Alters, RunsChanges, DemandedChanges}
use Rattle.edit_meaning.specs.ChangeCalls.RunsChanges.{no_change, then_changes}
use Rattle.edit_meaning.proofs.Holding.{HoldsPieces, holds-pieces, stands-conversion}
use Rattle.edit_meaning.proofs.Begin.{converts-holds}
use Rattle.edit_meaning.proofs.Changes.{edit-change, one-replaced}
use Rattle.edit_meaning.proofs.DemandChanges.{Changed, changed, changed-holds, demand-changes}
use Rattle.edit_meaning.proofs.Numbers.{convert-in}
use Rattle.edit_meaning.proofs.Untouched.{change-untouched}

module _ {𝓒 : BlockConverter} where
  -- a call before a run, where the length after it is known by its own
  pub alters-more :
      {tree text ledger text₁ ledger₁ text₂ ledger₂ : List ℕ} {k : Kind} {kept n₁ n₂ : ℕ} {a : Answer} {es : List Change} {said : List Answer}
      → Alters 𝓒 tree k kept text ledger a text₁ ledger₁ → n₁ ≡ size_after a kept → RunsChanges 𝓒 n₁ text₁ ledger₁ es said n₂ text₂ ledger₂
      → RunsChanges 𝓒 kept text ledger (record { tree = tree; kind = k } ∷ es) (a ∷ said) n₂ text₂ ledger₂
  alters-more {text₁ = text₁} {ledger₁} {text₂} {ledger₂} {n₂ = n₂} {es = es} {said} c n m =
      then_changes c (subst (λ (x : ℕ). RunsChanges 𝓒 x text₁ ledger₁ es said n₂ text₂ ledger₂) n m)

  pub edits-alter :
      {tree text ledger text₁ ledger₁ : List ℕ} {k kept : ℕ} {a : Answer} → Edits 𝓒 tree k kept text ledger a text₁ ledger₁
      → Alters 𝓒 tree (replace k) kept text ledger a text₁ ledger₁
  edits-alter {tree} {text} {ledger} {k = k} {kept} c = record { gives = rw (edit-change 𝓒 tree k kept text ledger) at c.gives }

  pub alters-edit :
      {tree text ledger text₁ ledger₁ : List ℕ} {k kept : ℕ} {a : Answer} → Alters 𝓒 tree (replace k) kept text ledger a text₁ ledger₁
      → Edits 𝓒 tree k kept text ledger a text₁ ledger₁
  alters-edit {tree} {text} {ledger} {k = k} {kept} c = record { gives = rw (← edit-change 𝓒 tree k kept text ledger) at c.gives }

  pub edits-one :
      {tree text ledger text₁ ledger₁ : List ℕ} {k kept : ℕ} {a : Answer}
      → Edits 𝓒 tree k kept text ledger a text₁ ledger₁ ↔ Alters 𝓒 tree (replace_all (k ∷ [])) kept text ledger a text₁ ledger₁
  edits-one {tree} {text} {ledger} {k = k} {kept} = (
    λ c. record { gives = rw (← one-replaced 𝓒 tree k kept text ledger) at (edits-alter c).gives },
    λ c. alters-edit (record { gives = rw (one-replaced 𝓒 tree k kept text ledger) at c.gives }),
  )

  -- what calls answered and left is what the run of the definitions does
  pub alters-are :
      {kept kept' : ℕ} {text ledger text' ledger' : List ℕ} {es : List Change} {said : List Answer}
      → RunsChanges 𝓒 kept text ledger es said kept' text' ledger'
      → (said ≡ (run_changes 𝓒 (record { text = text; ledger = ledger; size = kept }) es).answers)
      × (record { text = text'; ledger = ledger'; size = kept' }
      ≡ (run_changes 𝓒 (record { text = text; ledger = ledger; size = kept }) es).left)
  unfolding run_changes
  alters-are no_change = (refl, refl)
  alters-are (then_changes {tree} {text} {ledger} {text₁} {ledger₁} {k = k} {kept} {a = a} {es = es} c m) =
      let g = c.gives in
      let r = alters-are m in
      let s : record { text = text₁; ledger = ledger₁; size = size_after a kept } ≡ leaves (change 𝓒 tree k kept text ledger) kept
      = λ i. record { text = g.bytes i; ledger = g.rows i; size = size_after (g.answer i) kept } in (
        ap₂ (λ x xs. x ∷ xs) g.answer (r.0 ∙ ap (λ (x : Kept). (run_changes 𝓒 x es).answers) s),
        r.1 ∙ ap (λ (x : Kept). (run_changes 𝓒 x es).left) s,
      )

-- what a change gave, by what Convert answered of its tree
module _ (𝓒 : BlockConverter) (t l before tree : List ℕ) (kept count : ℕ) (text ledger : List ℕ) (r : Result)
    (untouched : Untouched r.answer text ledger r.text r.ledger)
    (held : Holds 𝓒 t l (document_after r.answer before tree) (leaves r kept)) where
  as-answered :
      (b : Answer) → (convert_document 𝓒 tree t l).answer ≡ b → r.answer ≡ edit_answer b kept count → OfConvert (λ n. Unit {0}) b
      → AsConverted b (convert_document 𝓒 tree t l).text (convert_document 𝓒 tree t l).ledger kept text ledger r.answer r.text
      r.ledger
  as-answered (refused n i) e d of =
      let u = subst (λ a. Untouched a text ledger r.text r.ledger) d untouched in
      (d, u.0, u.1)
  as-answered (converted len n) e d of =
      let h : Holds 𝓒 t l tree (leaves r kept) = subst (λ a. Holds 𝓒 t l (document_after a before tree) (leaves r kept)) d held in
      let z : size_after r.answer kept ≡ len = ap (λ a. size_after a kept) d in
      let q : converted len n ≡ converted (size_after r.answer kept) h.blocks = sym e ∙ h.accepted in
      let m : n ≡ h.blocks = cc in
      record { count = count; answer = d; bytes = rw z at h.text; rows = rw (← m) at h.rows }
  as-answered (edited _ _ _) e d of = elim of [ ]

module _ (𝓒 : BlockConverter) (keeps-short : KeepsShort 𝓒) where
  -- a change beside Convert, whose buffers hold what is held
  pub alters-converted :
      {t l old tree text ledger text' ledger' text'' ledger'' : List ℕ} {k : Kind} {kept : ℕ} {a b : Answer}
      → Holds 𝓒 t l old (record { text = text; ledger = ledger; size = kept })
      → PermittedChange 𝓒 t l old (record { tree = tree; kind = k }) → lacks_named (𝓒.check tree) k ≡ false
      → Alters 𝓒 tree k kept text ledger a text' ledger' → Converts 𝓒 tree t l b text'' ledger''
      → AsConverted b text'' ledger'' kept text ledger a text' ledger'
  unfolding demanded_change
  alters-converted {t} {l} {old} {tree} {text} {ledger} {text'} {ledger'} {text''} {ledger''} {k} {kept} {a} {b} ho may has al co =
      let s : Kept = record { text = text; ledger = ledger; size = kept } in
      let e : Change = record { tree = tree; kind = k } in
      let r : Result = call_change 𝓒 s e in
      let w : Result = convert_document 𝓒 tree t l in
      let one : Changed 𝓒 keeps-short t l old s e = changed 𝓒 keeps-short t l old s ho e may in
      let held : Holds 𝓒 t l (document_after r.answer old tree) (leaves r kept)
      = subst (λ x. Holds 𝓒 t l (document_after x old tree) (leaves r kept)) (sym one.answer)
      (changed-holds 𝓒 keeps-short t l old s e one) in
      let f : HoldsPieces 𝓒 keeps-short t l old s = holds-pieces 𝓒 keeps-short t l old s ho in
      let size : length_of 𝓒 old ≡ kept
      = ap (λ x. length (written (pieces_of x))) (stands-conversion 𝓒 keeps-short t l f.stands) ∙ sym (ap (λ (x : Kept). x.size) f.is) in
      let n : ℕ = count_by k (carries_from 𝓒 0 tree) (carries_from 𝓒 0 old) in
      let said : r.answer ≡ edit_answer w.answer kept n
      = one.answer
      ∙ ap (λ x. cond x (refused 6 0) (edit_answer w.answer (length_of 𝓒 old) n)) has
      ∙ ap (λ i. edit_answer w.answer i n) size in
      let of : OfConvert (λ m. Unit {0}) w.answer
      = convert-in (λ m. Unit {0}) 𝓒 (λ c x m i q. tt) (λ x m i q. tt) tt tree t l in
      let so : AsConverted w.answer w.text w.ledger kept text ledger r.answer r.text r.ledger
      = as-answered 𝓒 t l old tree kept n text ledger r (change-untouched text ledger 𝓒 tree k kept) held w.answer refl said of in
      let g = al.gives in
      let h = co.gives in
      let there : r ≡ record { answer = a; text = text'; ledger = ledger' }
      = λ i. record { answer = sym g.answer i; text = sym g.bytes i; ledger = sym g.rows i } in
      let whole : w ≡ record { answer = b; text = text''; ledger = ledger'' }
      = λ i. record { answer = sym h.answer i; text = sym h.bytes i; ledger = sym h.rows i } in
      subst₂
      (λ (x y : Result). AsConverted y.answer y.text y.ledger kept text ledger x.answer x.text x.ledger) there whole so

  pub alters-demanded :
      {kept kept' : ℕ} {text ledger text' ledger' : List ℕ} {es : List Change} {said : List Answer}
      → RunsChanges 𝓒 kept text ledger es said kept' text' ledger' → DemandedChanges 𝓒 kept text ledger es said kept' text' ledger'
  alters-demanded {kept} {kept'} {text} {ledger} {text'} {ledger'} {es} r t l tree ho al =
      let a = alters-are r in
      let d : DemandChanges 𝓒 t l tree (record { text = text; ledger = ledger; size = kept }) es
      = demand-changes 𝓒 keeps-short t l tree (record { text = text; ledger = ledger; size = kept }) ho es al in
      (a.0 ∙ d.answers, subst (λ s. Holds 𝓒 t l (reference_changes 𝓒 t l tree es).last s) (sym a.1) d.holds, d.moved)

  -- Convert, and then such calls
  module _ (tree t l : List ℕ) (size blocks : ℕ) where
    pub converted-demanded :
        {kept' : ℕ} {text ledger text' ledger' : List ℕ} {es : List Change} {said : List Answer}
        → Converts 𝓒 tree t l (converted size blocks) text ledger → RunsChanges 𝓒 size text ledger es said kept' text' ledger'
        → AllowedChanges 𝓒 t l tree es
        → (said ≡ (reference_changes 𝓒 t l tree es).answers)
        × Holds 𝓒 t l (reference_changes 𝓒 t l tree es).last (record { text = text'; ledger = ledger'; size = kept' })
        × ChangesMoved 𝓒 (record { text = text; ledger = ledger; size = size }) es
    converted-demanded g r al = alters-demanded r t l tree (converts-holds 𝓒 keeps-short tree t l size blocks g) al
