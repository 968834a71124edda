-- Bytes that are moved, and bytes stored after them. Moved down before that, or up after it, they are as if all had been stored one after
-- the other (`stored-around`).
use mathlib.Core.Path.{◌≡◌, refl, sym, ap, ◌∙◌}
use mathlib.Core.Bool.{Bool, true, false, cond}
use mathlib.Core.List.{List, ◌++◌}
use Prim.Native.Nat.{ℕ, ◌+◌, ◌-◌, ◌≤◌}
use native.Mathlib.Omega.{arith}
use borrow.Author.Tests.{ltb-true, ltb-false}
use lib.ListN.{length, take, drop, length-drop}
use lib.Seq.{sets, length-sets, length-take-le, drop-drop}
use lib.Dec.{ltb}
use Rattle.text.proofs.Writing.{sets-append}
use Rattle.ledger.proofs.Writing.{sets-before, take-sets-le, drop-sets-le, sets_same}
use Rattle.ledger.proofs.Fronts.{SameFront, front_rest}

-- lists that are the same from a place on are so later
pub rest-later : (l k : List ℕ) (o a : ℕ) → o ≤ a → drop o l ≡ drop o k → drop a l ≡ drop a k
rest-later l k o a h e =
    let d : o + (a - o) ≡ a = omega arith in
    ap (λ j. drop j l) (sym d)
    ∙ sym (drop-drop (a - o) o l)
    ∙ ap (drop (a - o)) e
    ∙ drop-drop (a - o) o k
    ∙ ap (λ j. drop j k) d

-- `tail` bytes from `old` on are moved to `to`, and T stored after them: down before that, or up after it
module _ (out : List ℕ) (old to tail : ℕ) (h : old + tail ≤ length out) (room : to + tail ≤ length out) where
  abbrev moved : List ℕ
  moved = take tail (drop old out)

  moved-long : length moved ≡ tail
  moved-long = length-take-le tail (drop old out) (omega (arith, length-drop old out))

  module _ {out₁ : List ℕ} (e₁ : out₁ ≡ cond (ltb to old) (sets out to moved) out) where
    pub lowered_long : length out₁ ≡ length out
    lowered_long = ap length e₁ ∙ go (ltb to old)
      where
        go : (b : Bool) → length (cond b (sets out to moved) out) ≡ length out
        go true = length-sets out to moved
        go false = refl

    -- what stands after those bytes is as it was
    pub lowered-rest : (k : ℕ) → old + tail ≤ k → drop k out₁ ≡ drop k out
    lowered-rest k z = ap (drop k) e₁ ∙ go (ltb to old) refl
      where
        go : (b : Bool) → ltb to old ≡ b → drop k (cond b (sets out to moved) out) ≡ drop k out
        go true p = let u = ltb-true to old p in drop-sets-le moved out to k (omega (arith, moved-long))
        go false p = refl

  module _ (T : List ℕ) where
    abbrev stored : Bool → Bool → List ℕ
    stored b c =
        let x : List ℕ = sets (cond b (sets out to moved) out) (to + tail) T in cond c (sets x to (take tail (drop old x))) x

    stored_is : (b c : Bool) → ltb to old ≡ b → ltb old to ≡ c → stored b c ≡ sets out to (moved ++ T)
    stored_is true true p q = absurd (omega (arith, ltb-true to old p, ltb-true old to q))
    stored_is true false p q = sym (sets-append moved T out to ∙ ap (λ k. sets (sets out to moved) (to + k) T) moved-long)
    stored_is false true p q =
        let u = ltb-true old to q in
        let front : SameFront (old + tail) (sets out (to + tail) T) out
        = record { same = take-sets-le T out (to + tail) (old + tail) (omega arith) } in
        ap (sets (sets out (to + tail) T) to) (front_rest front old tail (omega arith)).same
        ∙ sets-before moved T out to (to + tail) (omega (arith, moved-long))
    stored_is false false p q =
        let u : old ≡ to = omega (arith, ltb-false to old p, ltb-false old to q) in
        let still : sets out to moved ≡ out = ap (λ k. sets out to (take tail (drop k out))) u ∙ sets_same tail out to room in
        sym (sets-append moved T out to ∙ (λ i. sets (still i) (to + moved-long i) T))

    pub stored-around :
        {out₁ out₂ out₃ : List ℕ} → out₁ ≡ cond (ltb to old) (sets out to moved) out → out₂ ≡ sets out₁ (to + tail) T
        → out₃ ≡ cond (ltb old to) (sets out₂ to (take tail (drop old out₂))) out₂ → out₃ ≡ sets out to (moved ++ T)
    stored-around e₁ e₂ e₃ =
        e₃
        ∙ ap (λ x. cond (ltb old to) (sets x to (take tail (drop old x))) x) (e₂ ∙ ap (λ x. sets x (to + tail) T) e₁)
        ∙ stored_is (ltb to old) (ltb old to) refl refl
