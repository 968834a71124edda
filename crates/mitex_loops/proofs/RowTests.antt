-- Tests of the first byte of each row: what `all` and `any` answer over the rows in pieces of 8 bytes (`all-answers`, `any-answers`), and
-- what that says of the elements, where the test picks only kinds of tokens, which have one row each (`kinds-all`, `kinds-not`).
use mathlib.Core.Path.{◌≡◌, refl, sym, ap, subst, ◌∙◌}
use mathlib.Core.Bool.{Bool, true, false, ◌&&◌}
use mathlib.Core.List.{List, []}
use Prim.Native.Nat.{ℕ, zero, suc, ◌+◌, ◌*◌, ◌≤◌, ◌<◌}
use native.Mathlib.Omega.{arith}
use lib.Dec.{T}
use lib.ListN.{length, drop, get_or, length-append, length-drop}
use lib.Seq.{drop_at, get_or-drop}
use denote.Ref.{Bor}
use denote.Param.Members.{Mut, Called}
use Rattle.std.specs.Prelude.{Option, Some, None, IfSome, IsSomeAnd}
use Rattle.std.specs.Bool.{MatchBool}
use Rattle.std.specs.List.{IsSubsliceAt}
use Rattle.std.specs.Option.{option_map}
use Rattle.std.specs.Iterator.Runs.{Run, EveryRun, SomeRun, CallKeepsClosure, AllItemsGive, AnyItemGives, IsChunksExactRun}
use Rattle.mitex_syntax.specs.Syntax.{is_node}
use Rattle.mitex_syntax.specs.Tree.{Tree, Forest, size, kind_of, rows_of, rows_ofs}
use Rattle.mitex_syntax.specs.Tree.Tree.{token, node}
use Rattle.mitex_syntax.specs.Tree.Forest.{none, more}
use Rattle.mitex_syntax.specs.Spells.{Sound, Sounds}
use Rattle.mitex_syntax.proofs.Trees.{length-rows, size-some}
use Rattle.mitex_syntax.proofs.Seeking.{kind-first}

-- ---- the pieces

-- the test gives b at the first byte of each row, or of some row
abbrev pub EachRow : (ℕ → Bool) → Bool → List ℕ → Type 0
EachRow t b rows = (k : ℕ) → 8 * k + 8 ≤ length rows → t (get_or rows (8 * k) 0) ≡ b

pub record SomeRow (t : ℕ → Bool) (b : Bool) (rows : List ℕ) : Type 0 where
  pub at : ℕ
  pub inside : 8 * at + 8 ≤ length rows
  pub gives : t (get_or rows (8 * at) 0) ≡ b

if-some : {A : Type 0} (P : A → Type 0) (o : Option A) → IsSomeAnd o P → IfSome o P
if-some P None h = absurd h
if-some P (Some x) h = h

-- each run over the pieces goes over the rows
pub eights :
    {S : Type 0} {steps : S → Option (Bor (List ℕ)) → S → Type 0} {s : S} {rows : List ℕ} (width : S → ℕ) (rest : S → List ℕ)
    → EveryRun steps (λ p. 0 < width p.from → IsChunksExactRun p (width p.from) (rest p.from))
    → width s ≡ 8 → rest s ≡ rows → (p : Run steps) → p.from ≡ s → IsChunksExactRun p 8 rows
eights {steps = steps} {rows = rows} width rest runs n is p e =
    let m : width p.from ≡ 8 = ap width e ∙ n in
    subst (λ (k : ℕ). IsChunksExactRun p k rows) m
    (subst (IsChunksExactRun p (width p.from)) (ap rest e ∙ is) (runs p p.seen (omega arith)))

module _ {F : Type 0} (g : Mut F (Bor (List ℕ) × Unit {0}) Bool) (f : F) (t : ℕ → Bool)
    (tells : (x : Bor (List ℕ)) (b : Bool) (q : F) → Called g f (x, tt) b q → (q ≡ f) × (b ≡ t (get_or x.now 0 0))) (rows : List ℕ) where
  keeps : CallKeepsClosure g f
  keeps a b q h = (tells a.0 b q h).0

  module _ {S : Type 0} {steps : S → Option (Bor (List ℕ)) → S → Type 0} (p : Run steps) (run : IsChunksExactRun p 8 rows) where
    -- the piece at a place, which there is
    at_place :
        (b : Bool) (k : ℕ) → k < p.len → (o : Option (Bor (List ℕ))) → p.at k ≡ o
        → IfSome o (λ x. (length x.now ≡ 8) × (k * 8 + 8 ≤ length rows) × IsSubsliceAt 8 rows (k * 8) x.now)
        → IfSome o (λ x. Called g f (x, tt) b f) → (8 * k + 8 ≤ length rows) × (t (get_or rows (8 * k) 0) ≡ b)
    at_place b k h None e i c =
        let d : Bor (List ℕ) = record { ref_ptr = (0, 0); now = [] } in
        let n = sym (ap (option_map (λ y. y)) e) ∙ p.reads k d h in
        let z : ◌≡◌ {A = ℕ} 0 1 = cc in
        absurd (omega arith)
    at_place b k h (Some x) e i c =
        let z : k * 8 + 0 ≡ 8 * k = omega arith in
        (omega (arith, i.1), ap t (sym (ap (λ (n : ℕ). get_or rows n 0) z) ∙ sym (i.2.2 0 0 (omega arith))) ∙ sym (tells x b f c).1)

    each : (b : Bool) → p.whole ≡ true → AllItemsGive p g f b → EachRow t b rows
    each b whole all k h =
        let n = run.1 whole in
        (at_place b k (omega arith) (p.at k) refl (run.2 k) (all keeps k)).1

    some : (b : Bool) → AnyItemGives p g f b → SomeRow t b rows
    some b any =
        let x = any keeps in
        let y = at_place b x.0 x.1 (p.at x.0) refl (run.2 x.0) (if-some _ (p.at x.0) x.2) in
        record { at = x.0; inside = y.0; gives = y.1 }

  module _ {S : Type 0} {steps : S → Option (Bor (List ℕ)) → S → Type 0} {s : S} (run : (p : Run steps) → p.from ≡ s → IsChunksExactRun p 8 rows) where
    pub all-answers :
        (r : Bool) → SomeRun steps s (λ p. MatchBool r ((p.whole ≡ true) × AllItemsGive p g f true) (AnyItemGives p g f false))
        → MatchBool r (EachRow t true rows) (SomeRow t false rows)
    all-answers true x = each x.0 (run x.0 x.1) true x.2.0 x.2.1
    all-answers false x = some x.0 (run x.0 x.1) false x.2

    pub any-answers :
        (r : Bool) → SomeRun steps s (λ p. MatchBool r (AnyItemGives p g f true) ((p.whole ≡ true) × AllItemsGive p g f false))
        → MatchBool r (SomeRow t true rows) (EachRow t false rows)
    any-answers true x = some x.0 (run x.0 x.1) true x.2
    any-answers false x = each x.0 (run x.0 x.1) false x.2.0 x.2.1

-- ---- the elements

unfoldable pub all_kinds : (ℕ → Bool) → Forest → Bool
all_kinds t none = true
all_kinds t (more u f) = t (kind_of u) && all_kinds t f

module _ (t : ℕ → Bool) (tokens : (k : ℕ) → t k ≡ true → is_node k ≡ false) where
  -- an element of such a kind has one row
  one_row : (u : Tree) → Sound u → t (kind_of u) ≡ true → size u ≡ 1
  unfolding Sound size
  one_row (token k s) so e = refl
  one_row (node k f) so e = absurd (subst T (tokens k e) so.0)

  first_kind : (u : Tree) (f : Forest) {rows : List ℕ} → rows ≡ rows_ofs (more u f) → get_or rows 0 0 ≡ kind_of u
  unfolding rows_of
  first_kind u f e = ap (λ (l : List ℕ). get_or l 0 0) e ∙ kind-first u (rows_ofs f)

  others : (u : Tree) (f : Forest) {rows : List ℕ} → rows ≡ rows_ofs (more u f) → size u ≡ 1 → drop 8 rows ≡ rows_ofs f
  unfolding rows_of
  others u f e one = ap (drop 8) e ∙ drop_at (rows_of u) (rows_ofs f) 8 (length-rows u ∙ ap (λ (n : ℕ). 8 * n) one)

  first_row : (u : Tree) (f : Forest) {rows : List ℕ} → rows ≡ rows_ofs (more u f) → 8 ≤ length rows
  unfolding rows_of
  first_row u f e = omega (arith, ap length e, length-append (rows_of u) (rows_ofs f), length-rows u, size-some u)

  pub kinds-all : (f : Forest) {rows : List ℕ} → rows ≡ rows_ofs f → Sounds f → EachRow t true rows → all_kinds t f ≡ true
  unfolding all_kinds Sound
  kinds-all none e so h = refl
  kinds-all (more u f) {rows} e so h =
      let k = ap t (sym (first_kind u f e)) ∙ h 0 (first_row u f e) in
      rw k
      (kinds-all f (others u f e (one_row u so.0 k)) so.1
      (λ n z. let l = length-drop 8 rows in
      let m : 8 + 8 * n ≡ 8 * (n + 1) = omega arith in
      ap t (get_or-drop 8 rows (8 * n) 0 ∙ ap (λ (j : ℕ). get_or rows j 0) m) ∙ h (n + 1) (omega arith)))

  missed_at :
      (f : Forest) (rows : List ℕ) (n : ℕ) → rows ≡ rows_ofs f → Sounds f → 8 * n + 8 ≤ length rows → t (get_or rows (8 * n) 0) ≡ false
      → all_kinds t f ≡ false
  unfolding all_kinds Sound rows_of
  missed_at none rows n e so h g = absurd (omega (arith, ap length e))
  missed_at (more u f) rows zero e so h g =
      let k = ap t (sym (first_kind u f e)) ∙ g in
      rw k
  missed_at (more u f) rows (suc n) e so h g =
      let by_first =
      elim (t (kind_of u)) as (λ b. t (kind_of u) ≡ b → (b && all_kinds t f) ≡ false) [
        | true ↦ λ k.
            let l = length-drop 8 rows in
            let m : 8 + 8 * n ≡ 8 * suc n = omega arith in
            missed_at f (drop 8 rows) n (others u f e (one_row u so.0 k)) so.1 (omega arith)
            (ap t (get_or-drop 8 rows (8 * n) 0 ∙ ap (λ (j : ℕ). get_or rows j 0) m) ∙ g)
        | false ↦ λ k. refl
      ] in
      by_first refl

  pub kinds-not : (f : Forest) {rows : List ℕ} → rows ≡ rows_ofs f → Sounds f → SomeRow t false rows → all_kinds t f ≡ false
  kinds-not f {rows} e so x = missed_at f rows x.at e so x.inside x.gives
