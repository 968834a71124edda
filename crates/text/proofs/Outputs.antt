-- What is written to an output in parts is written as a whole (`puts_then`), and the part that falls inside is all that is
-- written (`stored-inside`).
use mathlib.Core.Path.{◌≡◌, refl, sym, ap, ◌∙◌}
use mathlib.Core.List.{List, [], ◌++◌}
use Prim.Native.Nat.{ℕ, ◌-◌, min}
use native.Mathlib.Decide.{dec_le}
use native.Mathlib.Omega.{arith}
use lib.ListN.{length, take, drop, length-replicate, length-drop}
use lib.Seq.{sets, take_all, length-take-le}
use borrow.Rule.Slice.PartMut.{put_mid}
use Rattle.std.proofs.lemmas.List.{take-replicate}
use Rattle.text.specs.Writing.{spaces}
use Rattle.text.specs.Outputs.{Puts}
use Rattle.text.specs.declared.output.Output.{Output}
use Rattle.text.proofs.Writing.{put_mid-sets, sets-out, sets-part, wrote-nil, wrote_then, wrote_as}

-- ---- the bytes that fall inside, stored at once

pub stored-inside :
    (s l ys : List ℕ) (at from inside k : ℕ) → from ≡ min at (length l) → inside ≡ min (length s) (length l - from)
    → k ≡ inside → ys ≡ take inside s → put_mid from k l ys ≡ sets l at s
stored-inside s l ys at from inside k f i e y =
    let many : length ys ≡ k = ap length y ∙ length-take-le inside s (omega arith) ∙ sym e in
    let part : put_mid from k l ys ≡ sets l from (take inside s) = put_mid-sets from k l ys many (omega arith) ∙ ap (sets l from) y in
    elim (dec_le at (length l)) [
      | yes le ↦
          let here : from ≡ at = omega arith in
          part ∙ ap (λ a. sets l a (take inside s)) here
          ∙ elim (dec_le (length s) inside) [
            | yes all ↦ ap (sets l at) (take_all inside s all)
            | no more ↦ sets-part s l at inside (omega arith) (omega arith)
          ]
      | no gt ↦ part ∙ sets-out (take inside s) l from (omega arith) ∙ sym (sets-out s l at (omega arith))
    ]

-- ---- writing in parts

pub puts_nil : {o : Output} → Puts o [] o
puts_nil {o} = record { wrote = wrote-nil o.at o.buffer.now o.near; lent = refl; kept = refl }

pub puts_then : {o o1 o2 : Output} {w v : List ℕ} → Puts o w o1 → Puts o1 v o2 → Puts o (w ++ v) o2
puts_then {o} {o1} {o2} {w} {v} p q = record { wrote = wrote_then o.few p.wrote q.wrote; lent = q.lent ∙ p.lent; kept = q.kept ∙ p.kept }

-- other names for the same
pub puts_as : {o o2 : Output} {w v : List ℕ} → w ≡ v → Puts o w o2 → Puts o v o2
puts_as e p = record { wrote = wrote_as e p.wrote; lent = p.lent; kept = p.kept }

-- so many spaces
pub spaces-inside :
    (n : ℕ) (l ys : List ℕ) (at from inside k : ℕ) → from ≡ min at (length l) → inside ≡ min n (length l - from)
    → k ≡ inside → ys ≡ spaces (length (take k (drop from l))) → put_mid from k l ys ≡ sets l at (spaces n)
spaces-inside n l ys at from inside k f i e y =
    let room : length (take k (drop from l)) ≡ inside = length-take-le k (drop from l) (simp length-drop (omega arith)) ∙ e in
    stored-inside (spaces n) l ys at from inside k f (i ∙ ap (λ m. min m (length l - from)) (sym (length-replicate n 32))) e
    (y ∙ ap spaces room ∙ sym (take-replicate {X = ℕ} inside n 32 (omega arith)))
