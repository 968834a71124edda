-- Trimming by steps at either end; what it leaves is a part of the text.
use mathlib.Core.Path.{◌≡◌, refl, sym, ap, ◌∙◌}
use mathlib.Core.Bool.{Bool, true, false, cond}
use mathlib.Core.List.{List, [], ◌∷◌, ◌++◌, reverse, reverse-append, reverse-reverse}
use Prim.Native.Nat.{ℕ, ◌-◌, ◌≤◌, ◌<◌}
use native.Mathlib.Omega.{arith}
use lib.ListN.{length, take, drop, length-append, length-drop}
use Rattle.text.proofs.Writing.{part-rest}
use Rattle.utf8.specs.Chars.{chars, concat, LastAt, is_white}
use Rattle.utf8.specs.Trim.{skip_white, trim_start, trim_end, trim}
use Rattle.utf8.proofs.Chars.{concat-chars, concat-append, FirstLen}

pub left_less : (t : List ℕ) (n : ℕ) → 1 ≤ n → n ≤ length t → length (take (length t - n) (drop n t)) < length t
left_less t n h k = rw (part-rest, length-drop) (omega arith)

-- a text whose first character has n bytes
module _ (t : List ℕ) (n : ℕ) (p : FirstLen t n) where
  pub trim_start-white : is_white (take n t) ≡ true → trim_start (drop n t) ≡ trim_start t
  unfolding trim_start skip_white
  trim_start-white e = rw (p.parts, e)

  pub trim_start-done : is_white (take n t) ≡ false → t ≡ trim_start t
  unfolding trim_start skip_white
  trim_start-done e = rw (p.parts, e, ← p.parts) (sym (concat-chars t))

-- a text whose last character begins at k
module _ (t : List ℕ) (k : ℕ) (p : LastAt t k) where
  pub trim_end-white : is_white (drop k t) ≡ true → trim_end (take k t) ≡ trim_end t
  unfolding trim_end skip_white
  trim_end-white e = rw (p.parts, reverse-append (chars (take k t)) (drop k t ∷ []), e)

  pub trim_end-done : is_white (drop k t) ≡ false → t ≡ trim_end t
  unfolding trim_end skip_white
  trim_end-done e =
      rw (p.parts, reverse-append (chars (take k t)) (drop k t ∷ []), e, ← reverse-append (chars (take k t)) (drop k t ∷ []), ← p.parts, reverse-reverse (chars t))
      (sym (concat-chars t))

-- no bytes
pub trim_start-none : (t : List ℕ) → length t ≤ 0 → t ≡ trim_start t
unfolding trim_start skip_white chars concat
trim_start-none [] h = refl
trim_start-none (b ∷ t) h = absurd (omega arith)

pub trim_end-none : (t : List ℕ) → length t ≤ 0 → t ≡ trim_end t
unfolding trim_end skip_white chars concat
trim_end-none [] h = refl
trim_end-none (b ∷ t) h = absurd (omega arith)

-- ---- what trimming keeps

-- what is trimmed off, and the rest
skip-split : (cs : List (List ℕ)) → (ds : List (List ℕ)) × (ds ++ skip_white cs ≡ cs)
unfolding skip_white
skip-split [] = ([], refl)
skip-split (c ∷ cs) =
    let by : (t : Bool) → is_white c ≡ t → (ds : List (List ℕ)) × (ds ++ cond (is_white c) (skip_white cs) (c ∷ cs) ≡ c ∷ cs) = λ t. elim t
    as (λ x. is_white c ≡ x → (ds : List (List ℕ)) × (ds ++ cond (is_white c) (skip_white cs) (c ∷ cs) ≡ c ∷ cs)) [
      | true ↦ λ e. let r = skip-split cs in (c ∷ r.0, rw e (ap (λ (l : List (List ℕ)). c ∷ l) r.1))
      | false ↦ λ e. ([], rw e)
    ] in
    by (is_white c) refl

pub trim_start-split : (s : List ℕ) → (w : List ℕ) × (w ++ trim_start s ≡ s)
unfolding trim_start
trim_start-split s =
    let r = skip-split (chars s) in
    (concat r.0, sym (concat-append r.0 (skip_white (chars s))) ∙ ap concat r.1 ∙ concat-chars s)

pub trim_end-split : (s : List ℕ) → (w : List ℕ) × (trim_end s ++ w ≡ s)
unfolding trim_end
trim_end-split s =
    let r = skip-split (reverse (chars s)) in
    let back = sym (reverse-append r.0 (skip_white (reverse (chars s)))) ∙ ap reverse r.1 ∙ reverse-reverse (chars s) in
    (concat (reverse r.0), sym (concat-append (reverse (skip_white (reverse (chars s)))) (reverse r.0)) ∙ ap concat back ∙ concat-chars s)

pub trim_start-length : (s : List ℕ) → length (trim_start s) ≤ length s
trim_start-length s = let r = trim_start-split s in omega (arith, simp length-append at (ap length r.1))

pub trim_end-length : (s : List ℕ) → length (trim_end s) ≤ length s
trim_end-length s = let r = trim_end-split s in omega (arith, simp length-append at (ap length r.1))

pub trim-length : (s : List ℕ) → length (trim s) ≤ length s
unfolding trim
trim-length s = omega (arith, trim_start-length s, trim_end-length (trim_start s))
