-- Refusal 6 is demanded exactly when, past 1 to 5, the named block does not exist (`demanded-six`), or what a change names cannot be
-- changed (`demanded-change-six`): no check, no block and no lack of room gives it.
use mathlib.Core.Path.{◌≡◌, refl}
use mathlib.Core.Logic.{◌≢◌, ◌↔◌}
use mathlib.Core.Bool.{Bool, true, false, cond}
use mathlib.Core.List.{List}
use Prim.Native.Nat.{ℕ}
use native.Mathlib.Omega.{arith}
use Rattle.edit_meaning.specs.Walk.{BlockConverter, RefusalNumbers}
use Rattle.edit_meaning.specs.Edit.{Answer, convert_document}
use Rattle.edit_meaning.specs.Edit.Answer.{refused, converted, edited}
use Rattle.edit_meaning.specs.Run.{Edit, lacks, edit_answer, length_of, demanded}
use Rattle.edit_meaning.specs.Numbers.{OfConvert, OfEdit}
use Rattle.edit_meaning.specs.Changes.{Change, lacks_named, demanded_change}
use Rattle.edit_meaning.proofs.Numbers.{convert-in}

-- an edit answers as Convert does
edit-answer-in : (P : ℕ → Type 0) (a : Answer) (old count : ℕ) → OfConvert P a → OfEdit P (edit_answer a old count)
edit-answer-in P (refused n i) old count h = h
edit-answer-in P (converted len n) old count h = tt
edit-answer-in P (edited _ _ _) old count h = elim h [ ]

module _ (𝓒 : BlockConverter) (numbered : RefusalNumbers 𝓒) where
  abbrev NotSix : ℕ → Type 0
  NotSix n = n ≢ 6

  answer-six : (tree t l : List ℕ) (old count : ℕ) → OfEdit NotSix (edit_answer (convert_document 𝓒 tree t l).answer old count)
  answer-six tree t l old count =
      edit-answer-in NotSix (convert_document 𝓒 tree t l).answer old count
      (convert-in NotSix 𝓒 (λ c b n i e q. let h = numbered.block c b n i e in omega arith)
      (λ f n i e q. let h = numbered.checked f n i e in omega arith) (λ q. omega arith) tree t l)

  six-only : (b : Bool) (i : ℕ) (a : Answer) → OfEdit NotSix a → cond b (refused 6 0) a ≡ refused 6 i → b ≡ true
  six-only true i a h q = refl
  six-only false i (refused n j) h q = let z : n ≡ 6 = cc in absurd (h z)
  six-only false i (converted _ _) h q = elim h [ ]
  six-only false i (edited len g n) h q = let z : ◌≡◌ {A = ℕ} 0 1 = cc in absurd (omega arith)

  module _ (t l : List ℕ) (old : List ℕ) (e : Edit) where
    pub demanded-six : (demanded 𝓒 t l old e ≡ refused 6 0) ↔ (lacks (𝓒.check e.tree) e.block ≡ true)
    unfolding demanded
    demanded-six = (
      λ q. six-only (lacks (𝓒.check e.tree) e.block) 0 _ (answer-six e.tree t l (length_of 𝓒 old) _) q,
      λ h. rw h,
    )

  module _ (t l : List ℕ) (old : List ℕ) (e : Change) where
    pub demanded-change-six : (demanded_change 𝓒 t l old e ≡ refused 6 0) ↔ (lacks_named (𝓒.check e.tree) e.kind ≡ true)
    unfolding demanded_change
    demanded-change-six = (
      λ q. six-only (lacks_named (𝓒.check e.tree) e.kind) 0 _ (answer-six e.tree t l (length_of 𝓒 old) _) q,
      λ h. rw h,
    )
