-- The byte that names a mode, and the line that asks for an edit: what its tests find, and where it asks for nothing.
use mathlib.Core.Path.{◌≡◌, refl, sym, ap, ◌∙◌}
use mathlib.Core.Bool.{cond}
use mathlib.Core.List.{List, [], ◌∷◌}
use Prim.Native.Nat.{ℕ, zero, suc, ◌+◌, ◌-◌, ◌≤◌, ◌<◌, min}
use native.Mathlib.Decide.{dec_le}
use native.Mathlib.Omega.{arith}
use lib.Dec.{eqb}
use borrow.Author.Tests.{eq-eqb, ne_eqb, le-leb, lt-leb}
use lib.ListN.{length, take, drop, get_or, drop_of_length-le}
use lib.Seq.{take_all, take-take}
use Rattle.text.specs.Compare.{index_of}
use Rattle.text.proofs.Compare.{by-test}
use Rattle.text.proofs.Writing.{part-rest}
use Rattle.console.specs.Mode.{no_mode, mode_by, mode_in}
use Rattle.console.specs.Request.{number_spelt, part_before, part_after, both, line_request, line_most, request_in}
use Rattle.std.specs.Prelude.{Option, Some, None}

pub mode-empty : (l : List ℕ) → length l ≡ 0 → no_mode ≡ mode_in l
mode-empty [] h = refl
mode-empty (x ∷ l) h = absurd (omega arith)

pub mode-first : (l : List ℕ) → (length l ≡ 0 → ⊥) → {m : ℕ} → m ≡ mode_by (get_or l 0 0) → m ≡ mode_in l
mode-first [] h e = absurd (h refl)
mode-first (x ∷ l) h e = e

both-lacks : (m : ℕ) (s : Option ℕ) → both m s None ≡ None
both-lacks m None = refl
both-lacks m (Some n) = refl

pub numbers-lack : (m : ℕ) (l : List ℕ) → length l ≤ index_of 32 l → None ≡ both m (number_spelt (part_before 32 l)) (number_spelt (part_after 32 l))
numbers-lack m l h =
    let past : length l ≤ index_of 32 l + 1 = omega arith in
    sym (ap (λ r. both m (number_spelt (part_before 32 l)) (number_spelt r)) (drop_of_length-le l past) ∙ both-lacks m (number_spelt (part_before 32 l)))

pub numbers-are :
    (m : ℕ) (l : List ℕ) {k : ℕ} {a b : Option ℕ} → k ≡ index_of 32 l → a ≡ number_spelt (take k l)
    → b ≡ number_spelt (take (length l - (k + 1)) (drop (k + 1) l))
    → both m a b ≡ both m (number_spelt (part_before 32 l)) (number_spelt (part_after 32 l))
numbers-are m l {k} {a} {b} ek ea eb = cc (ek, ea, eb, part-rest l (k + 1))

pub line-short : (l : List ℕ) → length l < 2 → None ≡ line_request l
line-short [] h = refl
line-short (x ∷ []) h = refl
line-short (x ∷ y ∷ l) h = absurd (omega arith)

pub line_other : (l : List ℕ) → 2 ≤ length l → (get_or l 1 0 ≡ 32 → ⊥) → None ≡ line_request l
line_other [] h q = absurd (omega arith)
line_other (x ∷ []) h q = absurd (omega arith)
line_other (x ∷ y ∷ l) h q =
    sym (ap (λ t. cond t (both (mode_by x) (number_spelt (part_before 32 l)) (number_spelt (part_after 32 l))) None) (ne_eqb y 32 q))

pub line-numbers :
    (l : List ℕ) → 2 ≤ length l → get_or l 1 0 ≡ 32 → {m : ℕ} → m ≡ mode_by (get_or l 0 0) → {rest : List ℕ} → rest ≡ drop 2 l
    → both m (number_spelt (part_before 32 rest)) (number_spelt (part_after 32 rest)) ≡ line_request l
line-numbers [] h q em er = absurd (omega arith)
line-numbers (x ∷ []) h q em er = absurd (omega arith)
line-numbers (x ∷ y ∷ l) h q em er =
    cc (em, er)
    ∙ sym (ap (λ t. cond t (both (mode_by x) (number_spelt (part_before 32 l)) (number_spelt (part_after 32 l))) None) (eq-eqb y 32 q))

pub index-inside : (b : ℕ) (l : List ℕ) → index_of b l ≤ length l
unfolding index_of
index-inside b [] = omega arith
index-inside b (x ∷ l) = by-test (eqb x b) (λ t. rw t (omega arith)) (λ t. let e = index-inside b l in rw t (omega arith))

pub request-long : (l : List ℕ) → line_most ≤ index_of 10 l → None ≡ request_in l
unfolding request_in
request-long l h = simp (le-leb line_most (index_of 10 l) h)

pub request-line : (l : List ℕ) {k : ℕ} → k ≡ index_of 10 l → index_of 10 l < line_most → line_request (take k l) ≡ request_in l
unfolding request_in
request-line l e h = simp (lt-leb line_most (index_of 10 l) h) (ap (λ k. line_request (take k l)) e)

pub request-all : (l : List ℕ) → index_of 10 l < line_most → length l ≤ index_of 10 l → line_request l ≡ request_in l
request-all l s h = ap line_request (sym (take_all (index_of 10 l) l h)) ∙ request-line l refl s

-- ---- the programs read no more than the beginning of the input, and what stands after it changes nothing

pub mode-reads : (l : List ℕ) → mode_in (take 1 l) ≡ mode_in l
mode-reads [] = refl
mode-reads (x ∷ l) = refl

index-take : (b n : ℕ) (l : List ℕ) → index_of b (take n l) ≡ min n (index_of b l)
unfolding index_of
index-take b zero l = omega arith
index-take b (suc n) [] = omega arith
index-take b (suc n) (x ∷ l) = by-test (eqb x b) (λ t. rw t (omega arith)) (λ t. let e = index-take b n l in rw t (omega arith))

pub request-reads : (l : List ℕ) → request_in (take line_most l) ≡ request_in l
request-reads l =
    let e = index-take 10 line_most l in
    elim (dec_le line_most (index_of 10 l)) [
      | yes far ↦ sym (request-long (take line_most l) (omega arith)) ∙ request-long l far
      | no near ↦
          sym (request-line (take line_most l) {k = index_of 10 l} (omega arith) (omega arith))
          ∙ ap line_request (take-take (index_of 10 l) line_most l (omega arith))
          ∙ request-line l refl (omega arith)
    ]
