-- `same_carry` decides equality of carries.
use mathlib.Core.Path.{◌≡◌, refl, sym, ap, ◌∙◌}
use mathlib.Core.Bool.{Bool, true, false, not, beq, true≢false, false≢true, and-eq-true_iff}
use mathlib.Core.List.{List}
use Prim.Native.Nat.{ℕ}
use Rattle.text.proofs.Compare.{beq-true, same_refl, same_true}
use Rattle.mitex_meaning.specs.Outcome.{Label, Carry}
use Rattle.mitex_meaning.specs.Outcome.Label.{unheld, held}
use Rattle.mitex_meaning.specs.Conversion.{start_carry}
use Rattle.mitex_meaning.specs.State.{label_of}
use Rattle.ledger.specs.Ledger.{same_label, same_carry}

beq-refl : (a : Bool) → beq a a ≡ true
beq-refl true = refl
beq-refl false = refl

same_label-true : (a b : Label) → same_label a b ≡ true → a ≡ b
same_label-true unheld unheld e = refl
same_label-true unheld (held b) e = absurd (false≢true e)
same_label-true (held a) unheld e = absurd (false≢true e)
same_label-true (held a) (held b) e = ap held (same_true a b e)

same_label-refl : (a : Label) → same_label a a ≡ true
same_label-refl unheld = refl
same_label-refl (held a) = same_refl a

pub same_carry-true : (c d : Carry) → same_carry c d ≡ true → c ≡ d
unfolding same_carry
same_carry-true c d e =
    let p = (and-eq-true_iff (beq c.flag d.flag) (same_label c.label d.label)).0 e in
    let f : c.flag ≡ d.flag = beq-true c.flag d.flag p.0 in
    let l : c.label ≡ d.label = same_label-true c.label d.label p.1 in
    λ i. record { flag = f i; label = l i }

pub same_carry-refl : (c : Carry) → same_carry c c ≡ true
unfolding same_carry
same_carry-refl c = rw (beq-refl c.flag, same_label-refl c.label)

pub same_carry-false : (c d : Carry) → same_carry c d ≡ false → c ≡ d → ⊥
same_carry-false c d e q = true≢false (sym (same_carry-refl c) ∙ ap (same_carry c) q ∙ e)

-- ---- the carry that a document begins with

pub opening-is : (flag hold : Bool) (n : ℕ) (l : List ℕ) → flag ≡ false
    → not hold ≡ same_carry (record { flag = flag; label = label_of hold n l }) start_carry
unfolding same_carry
opening-is true hold n l e = absurd (true≢false e)
opening-is false true n l e = refl
opening-is false false n l e = refl

pub opening-flagged : (flag : Bool) (b : Label) → flag ≡ true → false ≡ same_carry (record { flag = flag; label = b }) start_carry
unfolding same_carry
opening-flagged true b e = refl
opening-flagged false b e = absurd (false≢true e)
