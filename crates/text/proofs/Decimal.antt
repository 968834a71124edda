-- The digits of a number come from the last on into an array of 20. At each turn the digits that the rest m has, in the
-- i places before, and those that stand after are the digits of the whole; m is short enough for these places.
use mathlib.Core.Path.{◌≡◌, sym, ap, subst, ◌∙◌}
use mathlib.Core.Bool.{cond}
use mathlib.Core.List.{List, [], ◌∷◌, ◌++◌, append_assoc, append-nil}
use Prim.Native.Nat.{ℕ, zero, suc, ◌+◌, ◌-◌, ◌/◌, ◌%◌, ◌^◌, ◌≤◌, ◌<◌}
use native.Mathlib.Nat.{pow-suc}
use native.Mathlib.Omega.{arith}
use borrow.Author.Tests.{lt-ltb, le-ltb}
use lib.Dec.{lit<}
use lib.ListN.{length, take, drop, set, length-set, length-drop}
use lib.Seq.{drop-cons, drop-set-lt, get_or-set_same, drop-length, take_all}
use Rattle.text.specs.Writing.{digits, decimal}

pub record DigitsLeft (n : ℕ) (d : List ℕ) (i m : ℕ) : Type 0 where
  pub long : length d ≡ 20
  pub some : 1 ≤ i
  pub room : i ≤ 20
  pub short : m < 10 ^ i
  pub are : decimal n ≡ digits i m ++ drop i d

pub digits-left-start : (n : ℕ) (d : List ℕ) → length d ≡ 20 → n < 18446744073709551616 → DigitsLeft n d 20 n
digits-left-start n d l h =
    record {
      long = l;
      some = lit< tt;
      room = omega arith;
      short = omega arith;
      are = sym (ap (λ r. digits 20 n ++ r) (ap (λ k. drop k d) (sym l) ∙ drop-length d) ∙ append-nil (digits 20 n));
    }

-- a digit stored at j stands before those after it
drop-stored : (d : List ℕ) (j x : ℕ) → j < length d → drop j (set d j x) ≡ x ∷ drop (suc j) d
drop-stored d j x h =
    drop-cons (set d j x) j 0 (simp length-set h)
    ∙ ap (λ y. y ∷ drop (suc j) (set d j x)) (get_or-set_same d j x 0 h)
    ∙ ap (λ r. x ∷ r) (drop-set-lt (suc j) d j x (omega arith))

digits_more : (j m : ℕ) → 10 ≤ m → digits (suc j) m ≡ digits j (m / 10) ++ ((48 + m % 10) ∷ [])
unfolding digits
digits_more j m h = ap (λ t. cond t ((48 + m) ∷ []) (digits j (m / 10) ++ ((48 + m % 10) ∷ []))) (le-ltb m 10 h)

digits_last : (j m : ℕ) → m < 10 → digits (suc j) m ≡ (48 + m) ∷ []
unfolding digits
digits_last j m h = ap (λ t. cond t ((48 + m) ∷ []) (digits j (m / 10) ++ ((48 + m % 10) ∷ []))) (lt-ltb m 10 h)

some_more : (j m : ℕ) → 10 ≤ m → m < 10 ^ suc j → 1 ≤ j
some_more zero m h l = absurd (omega arith)
some_more (suc j) m h l = omega arith

next : (n : ℕ) (d : List ℕ) (j m x : ℕ) → DigitsLeft n d (suc j) m → 10 ≤ m → x ≡ 48 + m % 10 → DigitsLeft n (set d j x) j (m / 10)
next n d j m x s h e =
    let p = pow-suc 10 j in
    let q = s.short in
    let r = s.room in
    let l = s.long in
    record {
      long = simp length-set l;
      some = some_more j m h q;
      room = omega arith;
      short = omega arith;
      are =
          s.are
          ∙ ap (λ k. k ++ drop (suc j) d) (digits_more j m h)
          ∙ append_assoc (digits j (m / 10)) ((48 + m % 10) ∷ []) (drop (suc j) d)
          ∙ ap (λ y. digits j (m / 10) ++ y ∷ drop (suc j) d) (sym e)
          ∙ ap (λ k. digits j (m / 10) ++ k) (sym (drop-stored d j x (omega arith)));
    }

last : (n : ℕ) (d : List ℕ) (j m x : ℕ) → DigitsLeft n d (suc j) m → m < 10 → x ≡ 48 + m → take (20 - j) (drop j (set d j x)) ≡ decimal n
last n d j m x s h e =
    let r = s.room in
    let l = s.long in
    take_all (20 - j) (drop j (set d j x)) (simp (length-drop, length-set) (omega arith))
    ∙ drop-stored d j x (omega arith)
    ∙ ap (λ y. y ∷ drop (suc j) d) e
    ∙ ap (λ k. k ++ drop (suc j) d) (sym (digits_last j m h))
    ∙ sym s.are

at_one : {n : ℕ} {d : List ℕ} {i m : ℕ} → DigitsLeft n d i m → DigitsLeft n d (suc (i - 1)) m
at_one {n} {d} {i} {m} s = let h = s.some in subst (λ k. DigitsLeft n d k m) (omega arith) s

pub digits-left-next :
    {n : ℕ} {d : List ℕ} {i m : ℕ} (x : ℕ) → DigitsLeft n d i m → 10 ≤ m → x ≡ m % 10 % 256 → DigitsLeft n (set d (i - 1) (48 + x)) (i - 1) (m / 10)
digits-left-next {n} {d} {i} {m} x s h e = next n d (i - 1) m (48 + x) (at_one s) h (omega arith)

pub digits-left-end :
    {n : ℕ} {d : List ℕ} {i m : ℕ} (x : ℕ) → DigitsLeft n d i m → m < 10 → x ≡ m % 256
    → take (20 - (i - 1)) (drop (i - 1) (set d (i - 1) (48 + x))) ≡ decimal n
digits-left-end {n} {d} {i} {m} x s h e = last n d (i - 1) m (48 + x) (at_one s) h (omega arith)
