-- The count of blocks converted again that demand 3 has, in words (`demanded-change-counts`, and so `demanded-counts`): to the first block
-- after which the conversions of both documents carry the same, or to the last; of several that are replaced, these and those that begin
-- with another carry. Each conversion carries as many as it has blocks, so `count_by-first` says so.
use mathlib.Core.Path.{◌≡◌, refl, sym, ap, subst, ◌∙◌}
use mathlib.Core.Bool.{Bool, true, false, cond}
use mathlib.Core.List.{List, [], ◌∷◌}
use Prim.Native.Nat.{ℕ, suc}
use native.Mathlib.Omega.{arith}
use lib.IntN.{ℤ}
use lib.ListN.{length}
use borrow.Author.Tests.{not-false, ltb-true}
use Rattle.ledger.specs.Ledger.{Piece}
use Rattle.edit_meaning.specs.Walk.{BlockConverter, KeepsShort, Walk, carries, FirstSame}
use Rattle.edit_meaning.specs.Edit.{Answer, convert_document}
use Rattle.edit_meaning.specs.Edit.Answer.{refused, converted, edited}
use Rattle.edit_meaning.specs.Run.{Edit, Kept, pieces_of, edit_answer, length_of, carries_from, demanded, Permitted, Holds}
use Rattle.edit_meaning.specs.Changes.{Change, named_there, lacks_named, count_by, FirstSameBy, demanded_change, PermittedChange}
use Rattle.edit_meaning.proofs.Walks.{walked-length}
use Rattle.edit_meaning.proofs.Holding.{StandsIn, stands-conversion, holds-pieces}
use Rattle.edit_meaning.proofs.Begin.{converted-holds}
use Rattle.edit_meaning.proofs.Changes.{as_change, demanded-same}
use Rattle.edit_meaning.proofs.Count.{count_by-first}

carries-length : (ps : List Piece) → length (carries ps) ≡ length ps
carries-length [] = refl
carries-length (p ∷ ps) = ap suc (carries-length ps)

-- an accepted change: what it names can be changed, its conversion is accepted, and the count is the one that was worked out
record AcceptedChange (b : Bool) (a : Answer) (count n : ℕ) : Type 0 where
  has : b ≡ false
  len : ℕ
  blocks : ℕ
  is : a ≡ converted len blocks
  counts : n ≡ count

answer-says :
    (b : Bool) (a : Answer) (old count : ℕ) {len : ℕ} {g : ℤ} {n : ℕ} → cond b (refused 6 0) (edit_answer a old count) ≡ edited len g n
    → AcceptedChange b a count n
answer-says true a old count e = let z : ◌≡◌ {A = ℕ} 0 1 = cc in absurd (omega arith)
answer-says false (refused m i) old count e = let z : ◌≡◌ {A = ℕ} 0 1 = cc in absurd (omega arith)
answer-says false (converted len m) old count e = record { has = refl; len = len; blocks = m; is = refl; counts = cc }
answer-says false (edited len g m) old count e = let z : ◌≡◌ {A = ℕ} 0 1 = cc in absurd (omega arith)

module _ (𝓒 : BlockConverter) (keeps-short : KeepsShort 𝓒) (t l old : List ℕ) (s : Kept) (ho : Holds 𝓒 t l old s) where
  open 𝓒 use {Block, check}

  carries-blocks :
      {tree : List ℕ} {ps : List Piece} {rest l₂ : List ℕ} (st : StandsIn 𝓒 keeps-short t l tree ps rest l₂)
      → length (carries_from 𝓒 0 tree) ≡ length st.blocks
  carries-blocks {tree} {ps} st =
      ap (λ (w : Walk). length (carries (pieces_of w))) (stands-conversion 𝓒 keeps-short t l st)
      ∙ carries-length ps ∙ sym (walked-length 𝓒 st.along)

  module _ (e : Change) (permitted : PermittedChange 𝓒 t l old e) where
    counted-first :
        lacks_named (check e.tree) e.kind ≡ false → {len blocks : ℕ} → (convert_document 𝓒 e.tree t l).answer ≡ converted len blocks
        → FirstSameBy e.kind (carries_from 𝓒 0 e.tree) (carries_from 𝓒 0 old)
        (count_by e.kind (carries_from 𝓒 0 e.tree) (carries_from 𝓒 0 old))
    counted-first has {len} {blocks} is =
        let a = (holds-pieces 𝓒 keeps-short t l old s ho).stands in
        let b = (holds-pieces 𝓒 keeps-short t l e.tree _ (converted-holds 𝓒 keeps-short e.tree t l len blocks is)).stands in
        let here : named_there e.kind (length b.blocks) ≡ true
        = not-false _ (ap (λ x. lacks_named x e.kind) (sym b.checked) ∙ has) in
        count_by-first e.kind a.blocks b.blocks (carries_from 𝓒 0 e.tree) (carries_from 𝓒 0 old) (carries-blocks b) (carries-blocks a)
        here (permitted a.blocks b.blocks a.checked b.checked here)

    pub demanded-change-counts :
        (len : ℕ) (g : ℤ) (n : ℕ) → demanded_change 𝓒 t l old e ≡ edited len g n
        → FirstSameBy e.kind (carries_from 𝓒 0 e.tree) (carries_from 𝓒 0 old) n
    unfolding demanded_change
    demanded-change-counts len g n d =
        let a = answer-says (lacks_named (check e.tree) e.kind) (convert_document 𝓒 e.tree t l).answer (length_of 𝓒 old)
        (count_by e.kind (carries_from 𝓒 0 e.tree) (carries_from 𝓒 0 old)) d in
        subst (FirstSameBy e.kind (carries_from 𝓒 0 e.tree) (carries_from 𝓒 0 old)) (sym a.counts) (counted-first a.has a.is)

  module _ (e : Edit) (permitted : Permitted 𝓒 t l old e) where
    abbrev k : ℕ
    k = e.block

    pub demanded-counts :
        (len : ℕ) (g : ℤ) (n : ℕ) → demanded 𝓒 t l old e ≡ edited len g n → FirstSame (carries_from 𝓒 k e.tree) (carries_from 𝓒 k old) n
    demanded-counts len g n d =
        demanded-change-counts (as_change e) (λ bs bs' c c' h. permitted bs bs' c c' (ltb-true k (length bs') h)) len g n
        (sym (demanded-same 𝓒 t l old e) ∙ d)
