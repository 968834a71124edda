-- Laws on the characters of a text: they make it up again, the first can be taken off, and where a text goes on with a byte
-- that continues none its two parts have their characters each.
use mathlib.Core.Path.{◌≡◌, refl, sym, ap, subst, ◌∙◌}
use mathlib.Core.Bool.{Bool, true, false, cond, not}
use mathlib.Core.List.{List, [], ◌∷◌, ◌++◌, append_assoc}
use Prim.Native.Nat.{ℕ, zero, suc, ◌+◌, ◌-◌, ◌≤◌, ◌<◌}
use native.Mathlib.Omega.{arith}
use lib.ListN.{length, take, drop, get_or, length-append, drop_of_length-le, take-append-drop}
use lib.Seq.{drop-cons}
use Rattle.std.proofs.Common.{Option, Some, None}
use Rattle.std.specs.List.{AllWithin, position, position_or_len}
use Rattle.std.specs.Option.{MatchOption, unwrap_or}
use Rattle.text.proofs.Compare.{by-test, found-or-length}
use Rattle.utf8.specs.Chars.{continues, goes_on, joined, chars, concat, first_char, char_len, LastAt}

concat-joined : (g : Bool) (b : ℕ) (cs : List (List ℕ)) → concat (joined g b cs) ≡ b ∷ concat cs
unfolding concat
concat-joined true b [] = refl
concat-joined true b (c ∷ cs) = refl
concat-joined false b cs = refl

pub concat-chars : (s : List ℕ) → concat (chars s) ≡ s
unfolding concat chars
concat-chars [] = refl
concat-chars (b ∷ s) = concat-joined (goes_on s) b (chars s) ∙ ap (λ (l : List ℕ). b ∷ l) (concat-chars s)

pub concat-append : (a b : List (List ℕ)) → concat (a ++ b) ≡ concat a ++ concat b
unfolding concat
concat-append [] b = refl
concat-append (c ∷ a) b = ap (λ (l : List ℕ). c ++ l) (concat-append a b) ∙ sym (append_assoc c (concat a) (concat b))

-- ---- the first character

first_on : (b : ℕ) (cs : List (List ℕ)) → length (first_char (joined true b cs)) ≡ suc (length (first_char cs))
first_on b [] = refl
first_on b (c ∷ cs) = refl

pub char_len-on : (b : ℕ) (s : List ℕ) → goes_on s ≡ true → char_len (b ∷ s) ≡ suc (char_len s)
unfolding chars
char_len-on b s g = rw g (first_on b (chars s))

pub char_len-alone : (b : ℕ) (s : List ℕ) → goes_on s ≡ false → char_len (b ∷ s) ≡ 1
unfolding chars
char_len-alone b s g = rw g

-- `chars` unrolls: the first character, and those of what follows it
pub chars-unroll : (b : ℕ) (s : List ℕ) → chars (b ∷ s) ≡ take (char_len (b ∷ s)) (b ∷ s) ∷ chars (drop (char_len (b ∷ s)) (b ∷ s))
unfolding chars
chars-unroll b [] = refl
chars-unroll b (c ∷ s) =
    let by : (g : Bool) → goes_on (c ∷ s) ≡ g → chars (b ∷ c ∷ s) ≡ take (char_len (b ∷ c ∷ s)) (b ∷ c ∷ s) ∷ chars
    (drop (char_len (b ∷ c ∷ s)) (b ∷ c ∷ s)) = λ g. elim g
    as (λ x. goes_on (c ∷ s) ≡ x → chars (b ∷ c ∷ s) ≡ take (char_len (b ∷ c ∷ s)) (b ∷ c ∷ s) ∷ chars (drop (char_len (b ∷ c ∷ s)) (b ∷ c ∷ s))) [
      | true ↦ λ e. rw (char_len-on b (c ∷ s) e, e) (ap (joined true b) (chars-unroll c s))
      | false ↦ λ e. rw (char_len-alone b (c ∷ s) e, e)
    ] in
    by (goes_on (c ∷ s)) refl

first-le : (cs : List (List ℕ)) → length (first_char cs) ≤ length (concat cs)
unfolding concat
first-le [] = omega arith
first-le (c ∷ cs) = simp length-append (omega arith)

pub char_len-le : (s : List ℕ) → char_len s ≤ length s
char_len-le s = rw concat-chars at (first-le (chars s))

-- how many bytes at the start continue a character
unfoldable pub tails : List ℕ → ℕ
tails [] = 0
tails (b ∷ s) = cond (continues b) (suc (tails s)) 0

pub char_len-tails : (b : ℕ) (s : List ℕ) → char_len (b ∷ s) ≡ suc (tails s)
unfolding chars tails
char_len-tails b [] = refl
char_len-tails b (c ∷ s) =
    let by : (g : Bool) → continues c ≡ g → char_len (b ∷ c ∷ s) ≡ suc (cond (continues c) (suc (tails s)) 0) = λ g. elim g
    as (λ x. continues c ≡ x → char_len (b ∷ c ∷ s) ≡ suc (cond (continues c) (suc (tails s)) 0)) [
      | true ↦ λ e. rw (char_len-on b (c ∷ s) e, e) (ap suc (char_len-tails c s))
      | false ↦ λ e. rw (char_len-alone b (c ∷ s) e, e)
    ] in
    by (continues c) refl

-- what a caller of `char_len` knows of a text that is not empty
pub record FirstLen (s : List ℕ) (n : ℕ) : Type 0 where
  pub some : 1 ≤ n
  pub within : n ≤ length s
  pub parts : chars s ≡ take n s ∷ chars (drop n s)

pub char_len-first : (s : List ℕ) → 0 < length s → FirstLen s (char_len s)
char_len-first [] h = absurd (omega arith)
char_len-first (b ∷ s) h =
    record { some = rw (char_len-tails b s) (omega arith); within = char_len-le (b ∷ s); parts = chars-unroll b s }

tails-prefix : (s : List ℕ) → position_or_len (λ b. not (continues b)) s ≡ tails s
unfolding tails
tails-prefix [] = refl
tails-prefix (b ∷ s) =
    by-test (continues b)
    (λ e. rw e (let h = tails-prefix s in omega arith))
    (λ e. rw e refl)

-- no character, and one and those that continue it
pub char_len-none : (s : List ℕ) → length s < 1 → 0 ≡ char_len s
unfolding chars
char_len-none [] h = refl
char_len-none (b ∷ s) h = absurd (omega arith)

pub char_len-found :
    (s : List ℕ) (n : ℕ) → 1 ≤ length s → n ≡ unwrap_or (position (λ b. not (continues b)) (drop 1 s)) (length (drop 1 s))
    → 1 + n ≡ char_len s
char_len-found [] n h e = absurd (omega arith)
char_len-found (b ∷ s) n h e =
    let f : n ≡ tails s = e ∙ found-or-length (λ b. not (continues b)) s ∙ tails-prefix s in
    let l = char_len-tails b s in
    omega arith

-- ---- characters of two texts

joined-append : (g : Bool) (b c : ℕ) (s : List ℕ) (cs : List (List ℕ)) → joined g b (chars (c ∷ s) ++ cs) ≡ joined g b (chars (c ∷ s)) ++ cs
unfolding chars
joined-append false b c s cs = refl
joined-append true b c s cs =
    let by : (h : Bool) (ds : List (List ℕ)) → joined true b (joined h c ds ++ cs) ≡ joined true b (joined h c ds) ++ cs = λ h. elim h
    as (λ x. (ds : List (List ℕ)) → joined true b (joined x c ds ++ cs) ≡ joined true b (joined x c ds) ++ cs) [
      | true ↦ λ ds. elim ds as (λ es. joined true b (joined true c es ++ cs) ≡ joined true b (joined true c es) ++ cs) [ [] ↦ refl | ◌∷◌ d es ↦ refl ]
      | false ↦ λ ds. refl
    ] in
    by (goes_on s) (chars s)

-- where the second begins with no byte that continues a character
pub chars-append : (a b : List ℕ) → goes_on b ≡ false → chars (a ++ b) ≡ chars a ++ chars b
unfolding chars
chars-append [] b g = refl
chars-append (x ∷ []) b g = rw g
chars-append (x ∷ y ∷ a) b g =
    ap (joined (continues y) x) (chars-append (y ∷ a) b g) ∙ joined-append (continues y) x y a (chars b)

-- ---- the last character

-- what stands from k on is one character, or the end of one
pub record OneFrom (s : List ℕ) (k : ℕ) : Type 0 where
  pub within : k < length s
  pub one : chars (drop k s) ≡ drop k s ∷ []

pub one-start : (s : List ℕ) → 0 < length s → OneFrom s (length s - 1)
unfolding chars
one-start s h =
    let l : length s - 1 < length s = omega arith in
    let e : drop (suc (length s - 1)) s ≡ [] = drop_of_length-le s {i = suc (length s - 1)} (omega arith) in
    record { within = l; one = rw (drop-cons s (length s - 1) 0, e) }

module _ (s : List ℕ) (k : ℕ) (w : OneFrom s k) where
  -- one byte more, which the byte after it continues
  pub one_on : 0 < k → continues (get_or s k 0) ≡ true → OneFrom s (k - 1)
  unfolding chars
  one_on z e =
      let h = w.within in
      let l : k - 1 < length s = omega arith in
      let next : suc (k - 1) ≡ k = omega arith in
      let g : goes_on (drop k s) ≡ true = rw (drop-cons s k 0) e in
      let cut : drop (k - 1) s ≡ get_or s (k - 1) 0 ∷ drop k s =
      drop-cons s (k - 1) 0 l ∙ ap (λ (n : ℕ). get_or s (k - 1) 0 ∷ drop n s) next in
      record { within = l; one = rw (cut, g, w.one) }

  pub one-stop : continues (get_or s k 0) ≡ false → LastAt s k
  one-stop e =
      let h = w.within in
      let g : goes_on (drop k s) ≡ false = rw (drop-cons s k 0) e in
      record {
        within = h;
        parts =
            ap chars (sym (take-append-drop k s)) ∙ chars-append (take k s) (drop k s) g
            ∙ ap (λ (l : List (List ℕ)). chars (take k s) ++ l) w.one;
      }

  pub one-all : k ≤ 0 → LastAt s k
  unfolding chars
  one-all h =
      let z : k ≡ 0 = omega arith in
      record { within = w.within; parts = rw z at w.one ∙ rw z }

-- each byte from i on continues a character
abbrev pub ContinuesFrom : List ℕ → ℕ → Type 0
ContinuesFrom s i = AllWithin (λ b. continues b ≡ true) s i (length s)

one-from : (s : List ℕ) (j : ℕ) → j < length s → ContinuesFrom s (length s - j) → OneFrom s (length s - 1 - j)
one-from s zero h c = subst (OneFrom s) (omega arith) (one-start s h)
one-from s (suc j) h c =
    let k : ℕ = length s - 1 - j in
    subst (OneFrom s) (omega arith)
    (one_on s k (one-from s j (omega arith) (λ i d lo hi. c i d (omega arith) hi)) (omega arith) (c k 0 (omega arith) (omega arith)))

-- the last byte that continues no character, or the first byte of all
pub last-found :
    (s : List ℕ) (r : Option ℕ) → 0 < length s
    → MatchOption r (ContinuesFrom s 0) (λ i. (i < length s) × (continues (get_or s i 0) ≡ false) × ContinuesFrom s (i + 1))
    → LastAt s (unwrap_or r 0)
last-found s None h c =
    one-all s 0 (subst (OneFrom s) (omega arith) (one-from s (length s - 1) (omega arith) (λ i d lo hi. c i d (omega arith) hi))) (omega arith)
last-found s (Some i) h c =
    let l = c.0 in
    one-stop s i (subst (OneFrom s) (omega arith) (one-from s (length s - 1 - i) (omega arith) (λ k d lo hi. c.2 k d (omega arith) hi))) c.1
