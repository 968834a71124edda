-- The table of first bytes. `firsts_below` and `rank_of` both count rules from the first one on, so that the rank of a name lies
-- between the numbers at its first byte and at the next (`rank-first`, `rank-last`). The table is filled from its front
-- (`Tabled`), and each number is counted on from the one before it (`firsts-next`, `firsts-stop`).
use mathlib.Core.Path.{◌≡◌, refl, sym, ap, ◌∙◌}
use mathlib.Core.Bool.{Bool, true, false, ◌&&◌, ◌||◌, cond, false≢true}
use mathlib.Core.List.{List, [], ◌∷◌}
use Prim.Native.Nat.{ℕ, zero, suc, ◌+◌, ◌-◌, ◌≤◌, ◌<◌}
use native.Mathlib.Decide.{dec_le}
use native.Mathlib.Omega.{arith}
use lib.Dec.{eqb, ltb}
use borrow.Author.Tests.{lt-ltb, le-ltb, ne_eqb}
use lib.ListN.{length, take, drop, get_or, set, length-take, length-drop}
use lib.Seq.{sets, take-set-le, get_or-take, get_or-drop}
use Rattle.text.specs.Compare.{precedes}
use Rattle.text.proofs.Compare.{by-test}
use Rattle.mitex_spec.specs.Rules.{Rule}
use Rattle.mitex_spec.specs.Index.{offsets_from, firsts_start, index_size, first_byte, firsts_below, firsts_from, firsts, rule_no, rank_of, Ready}

-- ---- names that begin with a lower byte

module _ (b : ℕ) (r : Rule) (rs : List Rule) where
  firsts-cons : (t : Bool) → ltb (first_byte r.name) b ≡ t → firsts_below b (r ∷ rs) ≡ cond t (1 + firsts_below b rs) 0
  unfolding firsts_below
  firsts-cons t e = ap (λ x. cond x (1 + firsts_below b rs) 0) e

  firsts-lower : first_byte r.name < b → firsts_below b (r ∷ rs) ≡ 1 + firsts_below b rs
  firsts-lower h = firsts-cons true (lt-ltb (first_byte r.name) b h)

  firsts-other : b ≤ first_byte r.name → firsts_below b (r ∷ rs) ≡ 0
  firsts-other h = firsts-cons false (le-ltb (first_byte r.name) b h)

pub firsts-most : (b : ℕ) (rs : List Rule) → firsts_below b rs ≤ length rs
unfolding firsts_below
firsts-most b [] = omega arith
firsts-most b (r ∷ rs) =
    let i = firsts-most b rs in
    elim (dec_le b (first_byte r.name)) [
      | yes h ↦ let q = firsts-other b r rs h in omega arith
      | no h ↦ let q = firsts-lower b r rs (omega arith) in omega arith
    ]

-- no fewer begin with a byte lower than the next
firsts_more : (b : ℕ) (rs : List Rule) → firsts_below b rs ≤ firsts_below (b + 1) rs
unfolding firsts_below
firsts_more b [] = omega arith
firsts_more b (r ∷ rs) =
    let i = firsts_more b rs in
    elim (dec_le b (first_byte r.name)) [
      | yes h ↦ let q = firsts-other b r rs h in omega arith
      | no h ↦
          let q = firsts-lower b r rs (omega arith) in
          let p = firsts-lower (b + 1) r rs (omega arith) in
          omega arith
    ]

-- a name that does not ends the count
pub firsts-stop : (b : ℕ) (rs : List Rule) (k : ℕ) → k < length rs → b ≤ first_byte (rule_no rs k).name → firsts_below b rs ≤ k
firsts-stop b [] k h e = absurd (omega arith)
firsts-stop b (r ∷ rs) zero h e = let q = firsts-other b r rs e in omega arith
firsts-stop b (r ∷ rs) (suc k) h e =
    let i = firsts-stop b rs k (omega arith) e in
    elim (dec_le b (first_byte r.name)) [
      | yes p ↦ let q = firsts-other b r rs p in omega arith
      | no p ↦ let q = firsts-lower b r rs (omega arith) in omega arith
    ]

-- one that does is counted after those before it
pub firsts-next : (b : ℕ) (rs : List Rule) (k : ℕ) → k < length rs → k ≤ firsts_below b rs → first_byte (rule_no rs k).name < b → k + 1 ≤ firsts_below b rs
firsts-next b [] k h l e = absurd (omega arith)
firsts-next b (r ∷ rs) zero h l e = let q = firsts-lower b r rs e in omega arith
firsts-next b (r ∷ rs) (suc k) h l e =
    elim (dec_le b (first_byte r.name)) [
      | yes p ↦ let q = firsts-other b r rs p in absurd (omega arith)
      | no p ↦
          let q = firsts-lower b r rs (omega arith) in
          let i = firsts-next b rs k (omega arith) (omega arith) e in
          omega arith
    ]

-- ---- the rank of a name

-- a lower first byte comes before, and what comes before has no higher one
first-less : (a b : List ℕ) → first_byte a < first_byte b → precedes a b ≡ true
unfolding precedes
first-less [] [] h = absurd (omega arith)
first-less [] (y ∷ b) h = refl
first-less (x ∷ a) [] h = absurd (omega arith)
first-less (x ∷ a) (y ∷ b) h = ap (λ t. t || (eqb x y && precedes a b)) (lt-ltb x y h)

first-most : (a b : List ℕ) → precedes a b ≡ true → first_byte a ≤ first_byte b
unfolding precedes
first-most [] b e = omega arith
first-most (x ∷ a) [] e = absurd (false≢true e)
first-most (x ∷ a) (y ∷ b) e =
    elim (dec_le x y) [
      | yes h ↦ h
      | no h ↦
          absurd
          (false≢true
          (sym (ap (λ t. t || (eqb x y && precedes a b)) (le-ltb x y (omega arith)) ∙ ap (λ t. t && precedes a b) (ne_eqb x y (λ q. omega arith)))
          ∙ e))
    ]

pub rank-cons : (r : Rule) (rs : List Rule) (name : List ℕ) (b : Bool) → precedes r.name name ≡ b → rank_of (r ∷ rs) name ≡ cond b (1 + rank_of rs name) 0
unfolding rank_of
rank-cons r rs name b e = ap (λ t. cond t (1 + rank_of rs name) 0) e

rank-first : (rs : List Rule) (name : List ℕ) → firsts_below (first_byte name) rs ≤ rank_of rs name
unfolding firsts_below
rank-first [] name = omega arith
rank-first (r ∷ rs) name =
    let i = rank-first rs name in
    elim (dec_le (first_byte name) (first_byte r.name)) [
      | yes h ↦ let q = firsts-other (first_byte name) r rs h in omega arith
      | no h ↦
          let q = firsts-lower (first_byte name) r rs (omega arith) in
          let p = rank-cons r rs name true (first-less r.name name (omega arith)) in
          omega arith
    ]

rank-last : (rs : List Rule) (name : List ℕ) → rank_of rs name ≤ firsts_below (first_byte name + 1) rs
unfolding rank_of
rank-last [] name = omega arith
rank-last (r ∷ rs) name =
    let i = rank-last rs name in
    by-test (precedes r.name name)
    (λ e.
    let p = rank-cons r rs name true e in
    let h = first-most r.name name e in
    let q = firsts-lower (first_byte name + 1) r rs (omega arith) in
    omega arith)
    (λ e. let p = rank-cons r rs name false e in omega arith)

-- ---- the table

pub length-firsts : (n b : ℕ) (rs : List Rule) → length (firsts_from b n rs) ≡ n
unfolding firsts_from
length-firsts zero b rs = refl
length-firsts (suc n) b rs = ap suc (length-firsts n (b + 1) rs)

firsts_at : (n b i : ℕ) (rs : List Rule) → i < n → get_or (firsts_from b n rs) i 0 ≡ firsts_below (b + i) rs
unfolding firsts_from
firsts_at zero b i rs h = absurd (omega arith)
firsts_at (suc n) b zero rs h = ap (λ k. firsts_below k rs) (omega arith)
firsts_at (suc n) b (suc i) rs h = firsts_at n (b + 1) i rs (omega arith) ∙ ap (λ k. firsts_below k rs) (omega arith)

-- what is to be stored from 0 on is what stands and what is to be stored from b on; k is no higher than the next number, and
-- the offsets stand
pub record Tabled (rs : List Rule) (index₀ index : List ℕ) (b k : ℕ) : Type 0 where
  pub holds : take (length rs) index ≡ offsets_from 0 rs
  pub low : k ≤ firsts_below b rs
  pub still : sets index₀ firsts_start (firsts rs) ≡ sets index (firsts_start + b) (firsts_from b (257 - b) rs)

pub tabled_start : (rs : List Rule) (index : List ℕ) → take (length rs) index ≡ offsets_from 0 rs → Tabled rs index index 0 0
tabled_start rs index h = record { holds = h; low = omega arith; still = refl }

module _ {rs : List Rule} {index₀ index : List ℕ} {b k : ℕ} (s : Tabled rs index₀ index b k) where
  store-next :
      (n : ℕ) → 257 - b ≡ suc n
      → sets index₀ firsts_start (firsts rs) ≡ sets (set index (firsts_start + b) (firsts_below b rs)) (firsts_start + (b + 1)) (firsts_from (b + 1) n rs)
  unfolding firsts_from
  store-next n e =
      s.still
      ∙ ap (λ i. sets index (firsts_start + b) (firsts_from b i rs)) e
      ∙ ap (λ i. sets (set index (firsts_start + b) (firsts_below b rs)) i (firsts_from (b + 1) n rs)) (omega arith)

  pub tabled-next :
      (index' : List ℕ) (k' : ℕ) → b ≤ 256 → length rs ≤ firsts_start → k' ≡ firsts_below b rs → index' ≡ set index (firsts_start + b) k'
      → Tabled rs index₀ index' (b + 1) k'
  tabled-next index' k' h few e q =
      let p = q ∙ ap (set index (firsts_start + b)) e in
      record {
        holds = ap (take (length rs)) q ∙ take-set-le (length rs) index (firsts_start + b) k' (omega arith) ∙ s.holds;
        low = let m = firsts_more b rs in omega arith;
        still =
            store-next (257 - (b + 1)) (omega arith)
            ∙ ap (λ l. sets l (firsts_start + (b + 1)) (firsts_from (b + 1) (257 - (b + 1)) rs)) (sym p);
      }

  pub tabled-end : 256 < b → index ≡ sets index₀ firsts_start (firsts rs)
  unfolding firsts_from
  tabled-end h =
      let z : 257 - b ≡ 0 = omega arith in sym (s.still ∙ ap (λ i. sets index (firsts_start + b) (firsts_from b i rs)) z)

-- ---- what a look-up reads there

module _ {file index : List ℕ} {rs : List Rule} (r : Ready file index rs) where
  pub index-long : index_size ≤ length index
  index-long =
      omega (arith, ap length r.tabled, length-firsts 257 0 rs, length-take 257 (drop firsts_start index), length-drop firsts_start index)

  firsts-read : (b : ℕ) → b < 257 → get_or index (firsts_start + b) 0 ≡ firsts_below b rs
  firsts-read b h =
      sym (get_or-drop firsts_start index b 0)
      ∙ sym (get_or-take 257 (drop firsts_start index) b 0 h)
      ∙ ap (λ l. get_or l b 0) r.tabled
      ∙ firsts_at 257 0 b rs h
      ∙ ap (λ k. firsts_below k rs) (omega arith)

  pub rank_between :
      (name : List ℕ) (b low high : ℕ) → b ≡ first_byte name → b < 256 → low ≡ get_or index (firsts_start + b) 0 → high ≡ get_or index (firsts_start + b + 1) 0
      → (low ≤ rank_of rs name) × (rank_of rs name ≤ high) × (high ≤ length rs)
  rank_between name b low high e h p q =
      let l = firsts-read b (omega arith) ∙ ap (λ k. firsts_below k rs) e in
      let u : get_or index (firsts_start + b + 1) 0 ≡ firsts_below (b + 1) rs = ap (λ k. get_or index k 0) (omega arith) ∙ firsts-read (b + 1) (omega arith) in
      let u' = u ∙ ap (λ k. firsts_below (k + 1) rs) e in
      let f = rank-first rs name in
      let g = rank-last rs name in
      let m = firsts-most (b + 1) rs in
      (omega arith, omega arith, omega arith)
