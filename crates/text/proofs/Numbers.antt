-- Numbers and their bytes are the same thing: each way gives the other back.
use mathlib.Core.Path.{◌≡◌, refl, sym, ap, subst, ◌∙◌}
use mathlib.Core.List.{List, [], ◌∷◌}
use Prim.Native.Nat.{ℕ, ◌+◌, ◌*◌, ◌/◌, ◌%◌, ◌≤◌, ◌<◌}
use native.Mathlib.Omega.{arith}
use native.Mathlib.Decide.{dec_lt}
use lib.ListN.{length, take, drop, get_or, length-take, length-drop, get_or-eq_default, drop_of_length-le}
use lib.Seq.{get_or-take, get_or-drop, drop-drop}
use Rattle.text.specs.Numbers.{Bytes, two, four, two_at, four_at}

-- the first eight, one by one
pub eight : (l : List ℕ) → 8 ≤ length l → l ≡ get_or l 0 0 ∷ get_or l 1 0 ∷ get_or l 2 0 ∷ get_or l 3 0 ∷ get_or l 4 0 ∷ get_or l 5 0 ∷ get_or l 6 0 ∷ get_or l 7 0 ∷ drop 8 l
eight [] h = absurd (omega arith)
eight (k ∷ []) h = absurd (omega arith)
eight (k ∷ m ∷ []) h = absurd (omega arith)
eight (k ∷ m ∷ y ∷ []) h = absurd (omega arith)
eight (k ∷ m ∷ y ∷ z ∷ []) h = absurd (omega arith)
eight (k ∷ m ∷ y ∷ z ∷ a ∷ []) h = absurd (omega arith)
eight (k ∷ m ∷ y ∷ z ∷ a ∷ b ∷ []) h = absurd (omega arith)
eight (k ∷ m ∷ y ∷ z ∷ a ∷ b ∷ c ∷ []) h = absurd (omega arith)
eight (k ∷ m ∷ y ∷ z ∷ a ∷ b ∷ c ∷ d ∷ l) h = refl

-- parts of bytes are bytes
pub bytes_take : (n : ℕ) (l : List ℕ) → Bytes l → Bytes (take n l)
bytes_take n l h i =
    elim (dec_lt i n) [
      | yes lt ↦ subst (λ x. x < 256) (sym (get_or-take n l i 0 lt)) (h i)
      | no ge ↦ subst (λ x. x < 256) (sym (get_or-eq_default (take n l) 0 {n = i} (let q : n ≤ i = omega arith in omega (arith, length-take n l)))) (omega arith)
    ]

pub bytes_drop : (n : ℕ) (l : List ℕ) → Bytes l → Bytes (drop n l)
bytes_drop n l h i = subst (λ x. x < 256) (sym (get_or-drop n l i 0)) (h (n + i))

-- ---- a number from its bytes

pub two-says : (n : ℕ) → n < 65536 → n % 256 + 256 * (n / 256 % 256) ≡ n
two-says n h = omega arith

pub four-says :
    (n : ℕ) → n < 4294967296 → n % 256 + 256 * (n / 256 % 256) + 65536 * (n / 256 / 256 % 256) + 16777216 * (n / 256 / 256 / 256 % 256) ≡ n
four-says n h = omega arith

pub four_at-four : (n : ℕ) (l : List ℕ) → n < 4294967296 → four_at 0 (four n l) ≡ n
four_at-four n l h = four-says n h

-- ---- the bytes of a number that was read

pub two-of : (a b : ℕ) (l : List ℕ) → a < 256 → b < 256 → two (a + 256 * b) l ≡ a ∷ b ∷ l
two-of a b l ha hb =
    let n = a + 256 * b in
    let q : n / 256 ≡ b = omega arith in
    let e₀ : n % 256 ≡ a = omega arith in
    let e₁ : n / 256 % 256 ≡ b = ap (λ x. x % 256) q ∙ omega arith in
    cc

pub four-of :
    (a b c d : ℕ) (l : List ℕ) → a < 256 → b < 256 → c < 256 → d < 256 → four (a + 256 * b + 65536 * c + 16777216 * d) l ≡ a ∷ b ∷ c ∷ d ∷ l
four-of a b c d l ha hb hc hd =
    let n = a + 256 * b + 65536 * c + 16777216 * d in
    let q₁ : n / 256 ≡ b + 256 * c + 65536 * d = omega arith in
    let q₂ : n / 256 / 256 ≡ c + 256 * d = ap (λ x. x / 256) q₁ ∙ omega arith in
    let q₃ : n / 256 / 256 / 256 ≡ d = ap (λ x. x / 256) q₂ ∙ omega arith in
    let e₀ : n % 256 ≡ a = omega arith in
    let e₁ : n / 256 % 256 ≡ b = ap (λ x. x % 256) q₁ ∙ omega arith in
    let e₂ : n / 256 / 256 % 256 ≡ c = ap (λ x. x % 256) q₂ ∙ omega arith in
    let e₃ : n / 256 / 256 / 256 % 256 ≡ d = ap (λ x. x % 256) q₃ ∙ omega arith in
    cc

first_two : (l : List ℕ) → 2 ≤ length l → l ≡ get_or l 0 0 ∷ get_or l 1 0 ∷ drop 2 l
first_two [] h = absurd (omega arith)
first_two (a ∷ []) h = absurd (omega arith)
first_two (a ∷ b ∷ l) h = refl

-- and so with four
pub four-four_at : (l : List ℕ) → Bytes l → 4 ≤ length l → l ≡ four (four_at 0 l) (drop 4 l)
four-four_at l by h =
    first_two l (omega arith)
    ∙ ap (λ r. get_or l 0 0 ∷ get_or l 1 0 ∷ r) (first_two (drop 2 l) (omega (arith, lib.ListN.length-drop 2 l)))
    ∙ ap (λ r. get_or l 0 0 ∷ get_or l 1 0 ∷ get_or (drop 2 l) 0 0 ∷ get_or (drop 2 l) 1 0 ∷ r) (drop-drop 2 2 l)
    ∙ ap (λ b. get_or l 0 0 ∷ get_or l 1 0 ∷ b ∷ get_or (drop 2 l) 1 0 ∷ drop 4 l) (get_or-drop 2 l 0 0)
    ∙ ap (λ b. get_or l 0 0 ∷ get_or l 1 0 ∷ get_or l 2 0 ∷ b ∷ drop 4 l) (get_or-drop 2 l 1 0)
    ∙ sym (four-of (get_or l 0 0) (get_or l 1 0) (get_or l 2 0) (get_or l 3 0) (drop 4 l) (by 0) (by 1) (by 2) (by 3))

-- ---- elsewhere in the bytes

-- what is read from i on is what is read at the start of what begins there
pub two_at-drop : (n i : ℕ) (l : List ℕ) → two_at i (drop n l) ≡ two_at (n + i) l
two_at-drop n i l = rw (get_or-drop n l i 0, get_or-drop n l (i + 1) 0) (ap (λ k. get_or l (n + i) 0 + 256 * get_or l k 0) (omega arith))

pub four_at-drop : (n i : ℕ) (l : List ℕ) → four_at i (drop n l) ≡ four_at (n + i) l
four_at-drop n i l =
    let g : (k : ℕ) → get_or (drop n l) (i + k) 0 ≡ get_or l (n + i + k) 0 = λ k. get_or-drop n l (i + k) 0 ∙ ap (λ j. get_or l j 0) (omega arith) in
    cc (get_or-drop n l i 0, g 1, g 2, g 3)

-- eight bytes are two numbers of four
pub eight-fours : (d : List ℕ) → Bytes d → length d ≡ 8 → d ≡ four (four_at 0 d) (four (four_at 4 d) [])
eight-fours d by l =
    four-four_at d by (omega arith)
    ∙ ap (four (four_at 0 d)) (four-four_at (drop 4 d) (bytes_drop 4 d by) (simp length-drop (omega arith)))
    ∙ ap (λ x. four (four_at 0 d) (four x (drop 4 (drop 4 d)))) (four_at-drop 4 0 d)
    ∙ ap (λ x. four (four_at 0 d) (four (four_at 4 d) x)) (drop-drop 4 4 d ∙ drop_of_length-le d {i = 8} (omega arith))
