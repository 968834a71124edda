-- What is written in parts is written as a whole (`wrote_then`), and what falls outside changes nothing, so that writing
-- the part that falls inside is writing all (`sets-part`).
use mathlib.Core.Path.{◌≡◌, refl, sym, ap, subst, ◌∙◌}
use mathlib.Core.List.{List, [], ◌∷◌, ◌++◌, append_assoc}
use Prim.Native.Nat.{ℕ, suc, ◌+◌, ◌-◌, ◌≤◌, ◌<◌, min}
use native.Mathlib.Decide.{dec_le}
use native.Mathlib.Numerals.{add-one}
use native.Mathlib.Omega.{arith}
use lib.ListN.{length, take, drop, get_or, set, length-append, length-drop, take-append-drop}
use lib.Seq.{sets, length-sets, set_out, take-suc, take_all, length-take-le, drop-drop}
use borrow.Rule.Slice.PartMut.{put_mid}
use Rattle.std.specs.List.{copy_within}
use Rattle.std.proofs.lemmas.List.Edits.{sets-eq}
use Rattle.text.specs.Writing.{cap, Wrote}

-- ---- storing a run of bytes

pub sets-out : (vs l : List ℕ) (j : ℕ) → length l ≤ j → sets l j vs ≡ l
sets-out [] l j h = refl
sets-out (a ∷ vs) l j h = ap (λ m. sets m (suc j) vs) (set_out l j a h) ∙ sets-out vs l (suc j) (omega arith)

pub sets-append : (xs ys l : List ℕ) (i : ℕ) → sets l i (xs ++ ys) ≡ sets (sets l i xs) (i + length xs) ys
sets-append [] ys l i = ap (λ k. sets l k ys) (omega arith)
sets-append (a ∷ xs) ys l i =
    sets-append xs ys (set l i a) (suc i) ∙ ap (λ k. sets (sets (set l i a) (suc i) xs) k ys) (omega arith)

pub sets-cap : (vs l : List ℕ) (i : ℕ) → length l ≤ cap → sets l (min cap i) vs ≡ sets l i vs
sets-cap vs l i h =
    elim (dec_le i cap) [
      | yes le ↦ ap (λ k. sets l k vs) (omega arith)
      | no gt ↦ sets-out vs l (min cap i) (omega arith) ∙ sym (sets-out vs l i (omega arith))
    ]

pub sets-long : (out₀ out : List ℕ) (at : ℕ) (w : List ℕ) → out ≡ sets out₀ at w → length out ≡ length out₀
sets-long out₀ out at w e = ap length e ∙ length-sets out₀ at w

-- ---- writing

pub wrote-nil : (at : ℕ) (out : List ℕ) → at ≤ cap → Wrote at out [] at out
wrote-nil at out h = record { next = omega arith; over = refl }

pub wrote_then :
    {at : ℕ} {out w : List ℕ} {at₁ : ℕ} {out₁ v : List ℕ} {at₂ : ℕ} {out₂ : List ℕ} → length out ≤ cap → Wrote at out w at₁ out₁
    → Wrote at₁ out₁ v at₂ out₂ → Wrote at out (w ++ v) at₂ out₂
wrote_then {at} {out} {w} {at₁} {out₁} {v} {at₂} {out₂} h p q =
    record {
      next = let e = p.next in let e' = q.next in omega (arith, length-append w v);
      over =
          q.over
          ∙ ap (λ k. sets out₁ k v) p.next
          ∙ ap (λ m. sets m (min cap (at + length w)) v) p.over
          ∙ sets-cap v (sets out at w) (at + length w) (simp length-sets h)
          ∙ sym (sets-append w v out at);
    }

-- other names for the same
pub wrote_as : {at : ℕ} {out w v : List ℕ} {at' : ℕ} {out' : List ℕ} → w ≡ v → Wrote at out w at' out' → Wrote at out v at' out'
wrote_as {at} {out} {w} {v} {at'} {out'} e p = subst (λ x. Wrote at out x at' out') e p

pub wrote-long : {at : ℕ} {out w : List ℕ} {at' : ℕ} {out' : List ℕ} → Wrote at out w at' out' → length out' ≡ length out
wrote-long {at} {out} {w} {at'} {out'} p = sets-long out out' at w p.over

pub wrote-room : {at : ℕ} {out w : List ℕ} {at' : ℕ} {out' : List ℕ} → Wrote at out w at' out' → length out ≤ cap → length out' ≤ cap
wrote-room p h = subst (λ (n : ℕ). n ≤ cap) (sym (wrote-long p)) h

pub wrote-low : {at : ℕ} {out w : List ℕ} {at' : ℕ} {out' : List ℕ} → Wrote at out w at' out' → at' ≤ cap
wrote-low {at} {out} {w} {at'} {out'} p = let e = p.next in omega arith

-- what is taken of a text from k on to its end
pub part-rest : (s : List ℕ) (k : ℕ) → take (length s - k) (drop k s) ≡ drop k s
part-rest s k = take_all (length s - k) (drop k s) (simp length-drop (omega arith))

pub rest-length : (s : List ℕ) (k : ℕ) → length (take (length s - k) (drop k s)) ≡ length s - k
rest-length s k = ap length (part-rest s k) ∙ length-drop k s

-- ---- one byte more

pub take_more : (s : List ℕ) (i : ℕ) → i < length s → take (i + 1) s ≡ take i s ++ (get_or s i 0 ∷ [])
take_more s i h = ap (λ k. take k s) (add-one i) ∙ take-suc s i 0 h

-- ---- as far as they fall inside

pub sets-part : (s out : List ℕ) (at n : ℕ) → n ≤ length s → length out ≤ at + n → sets out at (take n s) ≡ sets out at s
sets-part s out at n h far =
    let l = length-take-le n s h in
    sym (sets-out (drop n s) (sets out at (take n s)) (at + length (take n s)) (omega (arith, length-sets out at (take n s))))
    ∙ sym (sets-append (take n s) (drop n s) out at)
    ∙ ap (sets out at) (take-append-drop n s)

-- ---- a part overwritten

-- a part of a buffer with other bytes in its place
pub put_mid-sets : (a k : ℕ) (l ys : List ℕ) → length ys ≡ k → a + k ≤ length l → put_mid a k l ys ≡ sets l a ys
put_mid-sets a k l ys e h =
    ap (λ r. take a l ++ (ys ++ r)) (drop-drop k a l ∙ ap (λ n. drop (a + n) l) (sym e))
    ∙ sym (append_assoc (take a l) ys (drop (a + length ys) l))
    ∙ sym (sets-eq ys l a (omega arith))

-- bytes copied within a buffer; the two parts may overlap
pub copied-sets : (l : List ℕ) (old new n : ℕ) → old + n ≤ length l → new + n ≤ length l → copy_within l old (old + n) new ≡ sets l new (take n (drop old l))
copied-sets l old new n h k =
    let m : old + n - old ≡ n = omega arith in
    let w : length (take n (drop old l)) ≡ n = length-take-le n (drop old l) (simp length-drop (omega arith)) in
    ap (λ i. take new l ++ take i (drop old l) ++ drop (new + i) l) m
    ∙ ap (λ i. take new l ++ take n (drop old l) ++ drop (new + i) l) (sym w)
    ∙ sym (sets-eq (take n (drop old l)) l new (omega arith))
