-- White_Space by tests: what the table of code points says of a first byte alone, and of a byte after E2 80. Both are
-- computed at every byte, and `every-at` carries the computation to each.
use mathlib.Core.Path.{◌≡◌, refl, ap, ◌∙◌}
use mathlib.Core.Bool.{Bool, true, false, ◌&&◌, cond, beq, and-false}
use mathlib.Core.List.{List, [], ◌∷◌}
use Prim.Native.Nat.{ℕ, zero, suc, ◌<◌}
use native.Mathlib.Omega.{arith}
use lib.Dec.{leb, eqb}
use lib.ListN.{length}
use borrow.Author.Tests.{eqb-true, eqb-false}
use Rattle.text.specs.Compare.{same}
use Rattle.text.proofs.Compare.{beq-true}
use Rattle.utf8.specs.Chars.{is_white}

-- the test passes at every number below n
abbrev every_below : (ℕ → Bool) → ℕ → Bool
every_below p zero = true
every_below p (suc n) = p n && every_below p n

both_first : (a b : Bool) → (a && b) ≡ true → a ≡ true
both_first true b e = refl
both_first false b e = e

both-second : (a b : Bool) → (a && b) ≡ true → b ≡ true
both-second true b e = e
both-second false b e = absurd (let z : ◌≡◌ {A = ℕ} 0 1 = cc in omega arith)

every-at : (p : ℕ → Bool) (n : ℕ) → every_below p n ≡ true → (k : ℕ) → k < n → p k ≡ true
every-at p zero e k h = absurd (omega arith)
every-at p (suc n) e k h =
    let at : (t : Bool) → eqb k n ≡ t → p k ≡ true = λ t. elim t as (λ x. eqb k n ≡ x → p k ≡ true) [
      | true ↦ λ q. ap p (eqb-true k n q) ∙ both_first (p n) (every_below p n) e
      | false ↦ λ q. every-at p n (both-second (p n) (every_below p n) e) k (let x = eqb-false k n q in omega arith)
    ] in
    at (eqb k n) refl

pub white-one : (a : ℕ) → a < 256 → is_white (a ∷ []) ≡ cond (leb a 0x0D) (leb 0x09 a) (eqb a 0x20)
unfolding same
white-one a h =
    beq-true _ _ (every-at (λ a. beq (is_white (a ∷ [])) (cond (leb a 0x0D) (leb 0x09 a) (eqb a 0x20))) 256 refl a h)

pub white-20 : (c : ℕ) → c < 256 → is_white (0xE2 ∷ 0x80 ∷ c ∷ []) ≡ cond (leb c 0x8A) (leb 0x80 c) (cond (leb c 0xA9) (leb 0xA8 c) (eqb c 0xAF))
unfolding same
white-20 c h =
    beq-true _ _
    (every-at (λ c. beq (is_white (0xE2 ∷ 0x80 ∷ c ∷ [])) (cond (leb c 0x8A) (leb 0x80 c) (cond (leb c 0xA9) (leb 0xA8 c) (eqb c 0xAF)))) 256 refl c h)

-- ---- a character by the number of its bytes

pub white-bytes-other : (c : List ℕ) → (length c ≡ 1 → ⊥) → (length c ≡ 2 → ⊥) → (length c ≡ 3 → ⊥) → false ≡ is_white c
unfolding same
white-bytes-other [] h k l = refl
white-bytes-other (x ∷ []) h k l = absurd (h refl)
white-bytes-other (x ∷ y ∷ []) h k l = absurd (k refl)
white-bytes-other (x ∷ y ∷ z ∷ []) h k l = absurd (l refl)
white-bytes-other (x ∷ y ∷ z ∷ w ∷ c) h k l = simp and-false
