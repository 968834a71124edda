-- The test accepts just the texts of the RFC's grammar. One way, each character leads from between two characters to
-- between two. The other way, what a state still asks (`Completes`) is found byte by byte in whatever is accepted from it.
use mathlib.Core.Path.{◌≡◌, refl, sym, ap, subst, ◌∙◌}
use mathlib.Core.Logic.{dite, ◌↔◌}
use mathlib.Core.Bool.{Bool, true, false}
use mathlib.Core.List.{List, [], ◌∷◌}
use Prim.Native.Nat.{ℕ, zero, suc, ◌-◌, ◌≤◌}
use native.Mathlib.Omega.{arith}
use native.Mathlib.Decide.{dec_le}
use lib.Dec.{eqb, leb}
use borrow.Author.Tests.{ne_eqb, le-leb, lt-leb, leb-true, eqb-true, eqb-false}
use Rattle.utf8.specs.declared.State.{State}
use Rattle.utf8.specs.Utf8.{Between, Tail, Char, Text, length_by, second_low, second_high, state, whole, dead, begun, char_step, char_steps, valid}
use Rattle.utf8.specs.Utf8.Char.{one_00, two_c2, three_e0, three_e1, three_ed, three_ee, four_f0, four_f1, four_f4}
use Rattle.utf8.specs.Utf8.Text.{end, then}
use Rattle.utf8.proofs.Steps.{steps-append}

-- ---- the first byte: which line of the grammar it begins

-- a first byte with n bytes to come, the next of them from lo to hi
pub record Leads (b n lo hi : ℕ) : Type 0 where
  pub by : length_by b ≡ suc n
  pub from : second_low b ≡ lo
  pub to : second_high b ≡ hi

-- only four first bytes narrow the second
leads-plain : (b n : ℕ) → length_by b ≡ suc n → (b ≡ 0xE0 → ⊥) → (b ≡ 0xED → ⊥) → (b ≡ 0xF0 → ⊥) → (b ≡ 0xF4 → ⊥) → Leads b n 0x80 0xBF
leads-plain b n e h k l m =
    record { by = e; from = rw (ne_eqb b 0xE0 h, ne_eqb b 0xF0 l); to = rw (ne_eqb b 0xED k, ne_eqb b 0xF4 m) }

module _ {b : ℕ} where
  pub leads-1 : Between 0x00 0x7F b → Leads b 0 0x80 0xBF
  leads-1 w = let h = w.high in leads-plain b 0 (rw (le-leb b 0x7F)) (omega arith) (omega arith) (omega arith) (omega arith)

  pub leads-2 : Between 0xC2 0xDF b → Leads b 1 0x80 0xBF
  leads-2 w =
      let l = w.low in let h = w.high in
      leads-plain b 1 (rw (lt-leb b 0x7F (omega arith), lt-leb b 0xC1, le-leb b 0xDF)) (omega arith) (omega arith) (omega arith) (omega arith)

  leads-3 : 0xE0 ≤ b → b ≤ 0xEF → (b ≡ 0xE0 → ⊥) → (b ≡ 0xED → ⊥) → Leads b 2 0x80 0xBF
  leads-3 l h x y =
      leads-plain b 2 (rw (lt-leb b 0x7F (omega arith), lt-leb b 0xC1 (omega arith), lt-leb b 0xDF, le-leb b 0xEF)) x y (omega arith) (omega arith)

  pub leads-e1 : Between 0xE1 0xEC b → Leads b 2 0x80 0xBF
  leads-e1 w = let l = w.low in let h = w.high in leads-3 (omega arith) (omega arith) (omega arith) (omega arith)

  pub leads-ee : Between 0xEE 0xEF b → Leads b 2 0x80 0xBF
  leads-ee w = let l = w.low in let h = w.high in leads-3 (omega arith) (omega arith) (omega arith) (omega arith)

  pub leads-f1 : Between 0xF1 0xF3 b → Leads b 3 0x80 0xBF
  leads-f1 w =
      let l = w.low in let h = w.high in
      leads-plain b 3
      (rw (lt-leb b 0x7F (omega arith), lt-leb b 0xC1 (omega arith), lt-leb b 0xDF (omega arith), lt-leb b 0xEF (omega arith), le-leb b 0xF4 (omega arith)))
      (omega arith) (omega arith) (omega arith) (omega arith)

abbrev leads : {b n lo hi : ℕ} → length_by b ≡ suc n → second_low b ≡ lo → second_high b ≡ hi → Leads b n lo hi
leads e p q = record { by = e; from = p; to = q }

leads-e0 : Leads 0xE0 2 0xA0 0xBF
leads-e0 = leads refl refl refl

leads-ed : Leads 0xED 2 0x80 0x9F
leads-ed = leads refl refl refl

leads-f0 : Leads 0xF0 3 0x90 0xBF
leads-f0 = leads refl refl refl

leads-f4 : Leads 0xF4 3 0x80 0x8F
leads-f4 = leads refl refl refl

-- ---- from the grammar to the test

less_one : (n : ℕ) → suc n - 1 ≡ n
less_one n = omega arith

pub begun-leads : {b n lo hi : ℕ} → Leads b n lo hi → begun b ≡ state n lo hi
begun-leads {b} {n} w = rw (w.by, w.from, w.to, ne_eqb (suc n) 0 (omega arith), less_one n)

-- a byte within its bounds
step-on : {m lo hi b : ℕ} → Between lo hi b → char_step (state (suc m) lo hi) b ≡ state m 0x80 0xBF
step-on {m} {lo} {hi} {b} w =
    let l = w.low in let h = w.high in
    rw (ne_eqb (suc m) 0 (omega arith), le-leb lo b, le-leb b hi, less_one m)

-- characters of two, three and four bytes
module _ {a lo hi b : ℕ} (w : Between lo hi b) where
  steps-2 : Leads a 1 lo hi → char_steps whole (a ∷ b ∷ []) ≡ whole
  unfolding char_steps
  steps-2 l = rw (begun-leads l, step-on {m = 0} w)

  steps-3 : {c : ℕ} → Leads a 2 lo hi → Tail c → char_steps whole (a ∷ b ∷ c ∷ []) ≡ whole
  unfolding char_steps
  steps-3 l t = rw (begun-leads l, step-on {m = 1} w, step-on {m = 0} t)

  steps-4 : {c d : ℕ} → Leads a 3 lo hi → Tail c → Tail d → char_steps whole (a ∷ b ∷ c ∷ d ∷ []) ≡ whole
  unfolding char_steps
  steps-4 l t v = rw (begun-leads l, step-on {m = 2} w, step-on {m = 1} t, step-on {m = 0} v)

steps-char : {c : List ℕ} → Char c → char_steps whole c ≡ whole
unfolding char_steps
steps-char (one_00 w) = begun-leads (leads-1 w)
steps-char (two_c2 w t) = steps-2 t (leads-2 w)
steps-char (three_e0 w t) = steps-3 w leads-e0 t
steps-char (three_e1 w t v) = steps-3 t (leads-e1 w) v
steps-char (three_ed w t) = steps-3 w leads-ed t
steps-char (three_ee w t v) = steps-3 t (leads-ee w) v
steps-char (four_f0 w t v) = steps-4 w leads-f0 t v
steps-char (four_f1 w t v x) = steps-4 t (leads-f1 w) v x
steps-char (four_f4 w t v) = steps-4 w leads-f4 t v

pub text-steps : {s : List ℕ} → Text s → char_steps whole s ≡ whole
unfolding char_steps
text-steps end = refl
text-steps (then {c} {s} w t) = steps-append whole c s ∙ ap (λ (u : State). char_steps u s) (steps-char w) ∙ text-steps t

-- ---- from the test to the grammar

-- what a state asks of the text that follows: so many bytes, the next from lo to hi, and text after them
abbrev Completes : ℕ → ℕ → ℕ → List ℕ → Type 0
Completes zero lo hi s = Text s
Completes (suc m) lo hi [] = ⊥
Completes (suc m) lo hi (b ∷ s) = Between lo hi b × Completes m 0x80 0xBF s

-- a first byte, the rest of its character, and text
module _ {lo hi : ℕ} (a : ℕ) where
  ends-2 : ((b : ℕ) → Between lo hi b → Char (a ∷ b ∷ [])) → (s : List ℕ) → Completes 1 lo hi s → Text (a ∷ s)
  ends-2 made [] e = absurd e
  ends-2 made (b ∷ s) e = then (made b e.0) e.1

  ends-3 : ((b c : ℕ) → Between lo hi b → Tail c → Char (a ∷ b ∷ c ∷ [])) → (s : List ℕ) → Completes 2 lo hi s → Text (a ∷ s)
  ends-3 made [] e = absurd e
  ends-3 made (b ∷ []) e = absurd e.1
  ends-3 made (b ∷ c ∷ s) e = then (made b c e.0 e.1.0) e.1.1

  ends-4 : ((b c d : ℕ) → Between lo hi b → Tail c → Tail d → Char (a ∷ b ∷ c ∷ d ∷ [])) → (s : List ℕ) → Completes 3 lo hi s → Text (a ∷ s)
  ends-4 made [] e = absurd e
  ends-4 made (b ∷ []) e = absurd e.1
  ends-4 made (b ∷ c ∷ []) e = absurd e.1.1
  ends-4 made (b ∷ c ∷ d ∷ s) e = then (made b c d e.0 e.1.0 e.1.1.0) e.1.1.1

-- the line of the grammar that a first byte begins
data GrammarLine : ℕ → Type 0 where
  line_1 : {a : ℕ} → Between 0x00 0x7F a → GrammarLine a
  line_2 : {a : ℕ} → Between 0xC2 0xDF a → GrammarLine a
  line_e0 : GrammarLine 0xE0
  line_e1 : {a : ℕ} → Between 0xE1 0xEC a → GrammarLine a
  line_ed : GrammarLine 0xED
  line_ee : {a : ℕ} → Between 0xEE 0xEF a → GrammarLine a
  line_f0 : GrammarLine 0xF0
  line_f1 : {a : ℕ} → Between 0xF1 0xF3 a → GrammarLine a
  line_f4 : GrammarLine 0xF4
  line_none : {a : ℕ} → length_by a ≡ 0 → GrammarLine a

abbrev from-to : {lo hi a : ℕ} → lo ≤ a → a ≤ hi → Between lo hi a
from-to l h = record { low = l; high = h }

line_of : (a : ℕ) → GrammarLine a
line_of a =
    dite (dec_le a 0x7F) (λ h. line_1 (from-to (omega arith) h)) (λ n1.
    dite (dec_le a 0xC1) (λ h. line_none (rw (lt-leb a 0x7F (omega arith), le-leb a 0xC1))) (λ n2.
    dite (dec_le a 0xDF) (λ h. line_2 (from-to (omega arith) h)) (λ n3.
    dite (dec_le a 0xE0) (λ h. let e : 0xE0 ≡ a = omega arith in subst GrammarLine e line_e0) (λ n4.
    dite (dec_le a 0xEC) (λ h. line_e1 (from-to (omega arith) h)) (λ n5.
    dite (dec_le a 0xED) (λ h. let e : 0xED ≡ a = omega arith in subst GrammarLine e line_ed) (λ n6.
    dite (dec_le a 0xEF) (λ h. line_ee (from-to (omega arith) h)) (λ n7.
    dite (dec_le a 0xF0) (λ h. let e : 0xF0 ≡ a = omega arith in subst GrammarLine e line_f0) (λ n8.
    dite (dec_le a 0xF3) (λ h. line_f1 (from-to (omega arith) h)) (λ n9.
    dite (dec_le a 0xF4) (λ h. let e : 0xF4 ≡ a = omega arith in subst GrammarLine e line_f4) (λ n10.
    line_none
    (rw (lt-leb a 0x7F (omega arith), lt-leb a 0xC1 (omega arith), lt-leb a 0xDF (omega arith), lt-leb a 0xEF (omega arith), lt-leb a 0xF4 (omega arith)))))))))))))

-- what the state after a first byte asks
asked : {a n lo hi : ℕ} (s : List ℕ) → Leads a n lo hi → Completes (length_by a - 1) (second_low a) (second_high a) s → Completes n lo hi s
asked {a} {n} s l e = rw (l.by, l.from, l.to, less_one n) at e

completes-text : {a : ℕ} (s : List ℕ) → GrammarLine a → (length_by a ≡ 0 → ⊥) → Completes (length_by a - 1) (second_low a) (second_high a) s → Text (a ∷ s)
completes-text {a} s (line_1 w) z e = then (one_00 w) (asked s (leads-1 w) e)
completes-text {a} s (line_2 w) z e = ends-2 a (λ b t. two_c2 w t) s (asked s (leads-2 w) e)
completes-text s line_e0 z e = ends-3 0xE0 (λ b c w t. three_e0 w t) s e
completes-text {a} s (line_e1 w) z e = ends-3 a (λ b c t v. three_e1 w t v) s (asked s (leads-e1 w) e)
completes-text s line_ed z e = ends-3 0xED (λ b c w t. three_ed w t) s e
completes-text {a} s (line_ee w) z e = ends-3 a (λ b c t v. three_ee w t v) s (asked s (leads-ee w) e)
completes-text s line_f0 z e = ends-4 0xF0 (λ b c d w t v. four_f0 w t v) s e
completes-text {a} s (line_f1 w) z e = ends-4 a (λ b c d t v x. four_f1 w t v x) s (asked s (leads-f1 w) e)
completes-text s line_f4 z e = ends-4 0xF4 (λ b c d w t v. four_f4 w t v) s e
completes-text s (line_none n) z e = absurd (z n)

step-dead : (b : ℕ) → char_step dead b ≡ dead
step-dead zero = refl
step-dead (suc b) = rw (le-leb 1 (suc b) (omega arith), lt-leb (suc b) 0 (omega arith))

steps-dead : (s : List ℕ) → char_steps dead s ≡ dead
unfolding char_steps
steps-dead [] = refl
steps-dead (b ∷ s) = ap (λ (u : State). char_steps u s) (step-dead b) ∙ steps-dead s

module _ (s : List ℕ) (u v : State) (d : u ≡ v) (e : (char_steps u s).more ≡ 0) where
  accepted : (char_steps v s).more ≡ 0
  accepted = subst (λ (w : State). (char_steps w s).more ≡ 0) d e

dead-no : {A : Type 0} (s : List ℕ) (u : State) → u ≡ dead → (char_steps u s).more ≡ 0 → A
dead-no s u d e =
    let z : ◌≡◌ {A = ℕ} 1 0 = ap (λ (v : State). v.more) (sym (steps-dead s)) ∙ accepted s u dead d e in
    absurd (omega arith)

complete : (s : List ℕ) (m lo hi : ℕ) → (char_steps (state m lo hi) s).more ≡ 0 → Completes m lo hi s
unfolding char_steps
complete [] zero lo hi e = end
complete [] (suc m) lo hi e = absurd (omega arith)
complete (b ∷ s) zero lo hi e =
    let by : (t : Bool) → eqb (length_by b) 0 ≡ t → Text (b ∷ s) = λ t. elim t as (λ x. eqb (length_by b) 0 ≡ x → Text (b ∷ s)) [
      | true ↦ λ q. dead-no s (begun b) (rw q) e
      | false ↦ λ q.
          completes-text s (line_of b) (eqb-false (length_by b) 0 q)
          (complete s (length_by b - 1) (second_low b) (second_high b) (accepted s (begun b) _ (rw q) e))
    ] in
    by (eqb (length_by b) 0) refl
complete (b ∷ s) (suc m) lo hi e =
    let n = ne_eqb (suc m) 0 (omega arith) in
    let here = char_step (state (suc m) lo hi) b in
    let by : (t v : Bool) → leb lo b ≡ t → leb b hi ≡ v → Completes (suc m) lo hi (b ∷ s) = λ t v. elim t as (λ x. leb lo b ≡ x → leb b hi ≡ v → Completes (suc m) lo hi (b ∷ s)) [
      | false ↦ λ p q. dead-no s here (rw (n, p)) e
      | true ↦ elim v as (λ x. leb lo b ≡ true → leb b hi ≡ x → Completes (suc m) lo hi (b ∷ s)) [
        | false ↦ λ p q. dead-no s here (rw (n, p, q)) e
        | true ↦ λ p q.
            let w = from-to (leb-true lo b p) (leb-true b hi q) in
            (w, complete s m 0x80 0xBF (accepted s here (state m 0x80 0xBF) (step-on {m = m} w) e))
      ]
    ] in
    by (leb lo b) (leb b hi) refl refl

pub valid-text : (s : List ℕ) → (valid s ≡ true) ↔ Text s
unfolding valid
valid-text s = (λ e. complete s 0 0x80 0xBF (eqb-true (char_steps whole s).more 0 e), λ t. rw (text-steps t))
