-- Valid text by its characters: it is made of the RFC's characters, which are those of `chars`. Text of one-byte characters is
-- valid, and so are its parts.
use mathlib.Core.Path.{◌≡◌, refl, sym, ap, ◌∙◌}
use mathlib.Core.Bool.{Bool, true, false, ◌&&◌, and-false, and-eq-true_iff}
use mathlib.Core.List.{List, [], ◌∷◌, ◌++◌}
use Prim.Native.Nat.{ℕ, zero, suc, ◌+◌, ◌≤◌, ◌<◌, max}
use native.Mathlib.Omega.{arith}
use native.Mathlib.Decide.{dec_le}
use mathlib.Core.Logic.{dite}
use native.Mathlib.Numerals.{add-one}
use lib.Dec.{eqb, leb}
use borrow.Author.Tests.{le-leb, lt-leb, leb-true}
use lib.ListN.{length, take, drop, get_or, drop_of_length-le}
use lib.Seq.{drop-cons}
use Rattle.utf8.specs.declared.State.{State}
use Rattle.utf8.specs.Utf8.{Between, Tail, Char, Text, length_by, whole, char_steps, one_byte_each, valid}
use Rattle.utf8.specs.Utf8.Char.{one_00, two_c2, three_e0, three_e1, three_ed, three_ee, four_f0, four_f1, four_f4}
use Rattle.utf8.specs.Utf8.Text.{end, then}
use Rattle.utf8.specs.Chars.{continues, goes_on, chars, first_char, char_len, AllChar}
use Rattle.utf8.proofs.Steps.{steps-append}
use Rattle.utf8.proofs.Chars.{chars-append}
use Rattle.utf8.proofs.Grammar.{leads-1, leads-2, leads-e1, leads-ee, leads-f1, text-steps, valid-text}

-- ---- the RFC's characters are characters of `chars`

tail-on : {b : ℕ} → Tail b → continues b ≡ true
tail-on {b} t = rw (le-leb 0x80 b t.low, le-leb b 0xBF t.high)

-- the narrower bounds of a second byte
tail : {lo hi b : ℕ} → 0x80 ≤ lo → hi ≤ 0xBF → Between lo hi b → Tail b
tail l h w =
    let x = w.low in let y = w.high in
    record { low = omega arith; high = omega arith }

low-starts : {b : ℕ} → b ≤ 0x7F → continues b ≡ false
low-starts {b} h = rw (lt-leb 0x80 b (omega arith))

high-starts : {lo hi b : ℕ} → Between lo hi b → 0xC0 ≤ lo → continues b ≡ false
high-starts {lo} {hi} {b} w l = let x = w.low in rw (lt-leb b 0xBF (omega arith), and-false)

char-starts : {c : List ℕ} (s : List ℕ) → Char c → goes_on (c ++ s) ≡ false
char-starts s (one_00 w) = low-starts w.high
char-starts s (two_c2 w t) = high-starts w (omega arith)
char-starts s (three_e0 w t) = refl
char-starts s (three_e1 w t v) = high-starts w (omega arith)
char-starts s (three_ed w t) = refl
char-starts s (three_ee w t v) = high-starts w (omega arith)
char-starts s (four_f0 w t v) = refl
char-starts s (four_f1 w t v x) = high-starts w (omega arith)
char-starts s (four_f4 w t v) = refl

char-2 : {a b : ℕ} → Tail b → chars (a ∷ b ∷ []) ≡ (a ∷ b ∷ []) ∷ []
unfolding chars
char-2 t = rw (tail-on t)

char-3 : {a b c : ℕ} → Tail b → Tail c → chars (a ∷ b ∷ c ∷ []) ≡ (a ∷ b ∷ c ∷ []) ∷ []
unfolding chars
char-3 t v = rw (tail-on t, tail-on v)

char-4 : {a b c d : ℕ} → Tail b → Tail c → Tail d → chars (a ∷ b ∷ c ∷ d ∷ []) ≡ (a ∷ b ∷ c ∷ d ∷ []) ∷ []
unfolding chars
char-4 t v x = rw (tail-on t, tail-on v, tail-on x)

char-alone : {c : List ℕ} → Char c → chars c ≡ c ∷ []
unfolding chars
char-alone (one_00 w) = refl
char-alone (two_c2 w t) = char-2 t
char-alone (three_e0 w t) = char-3 (tail (omega arith) (omega arith) w) t
char-alone (three_e1 w t v) = char-3 t v
char-alone (three_ed w t) = char-3 (tail (omega arith) (omega arith) w) t
char-alone (three_ee w t v) = char-3 t v
char-alone (four_f0 w t v) = char-4 (tail (omega arith) (omega arith) w) t v
char-alone (four_f1 w t v x) = char-4 t v x
char-alone (four_f4 w t v) = char-4 (tail (omega arith) (omega arith) w) t v

char-length : {c : List ℕ} (s : List ℕ) → Char c → length c ≡ length_by (get_or (c ++ s) 0 0)
char-length s (one_00 w) = sym (leads-1 w).by
char-length s (two_c2 w t) = sym (leads-2 w).by
char-length s (three_e0 w t) = refl
char-length s (three_e1 w t v) = sym (leads-e1 w).by
char-length s (three_ed w t) = refl
char-length s (three_ee w t v) = sym (leads-ee w).by
char-length s (four_f0 w t v) = refl
char-length s (four_f1 w t v x) = sym (leads-f1 w).by
char-length s (four_f4 w t v) = refl

-- ---- valid text and its characters

text-starts : {s : List ℕ} → Text s → goes_on s ≡ false
text-starts end = refl
text-starts (then {c} {s} w t) = char-starts s w

chars-then : {c s : List ℕ} → Char c → Text s → chars (c ++ s) ≡ c ∷ chars s
chars-then {c} {s} w t = chars-append c s (text-starts t) ∙ ap (λ (l : List (List ℕ)). l ++ chars s) (char-alone w)

-- the characters of a text are the RFC's
pub chars-text : {s : List ℕ} → Text s → AllChar (chars s)
unfolding chars
chars-text end = tt
chars-text (then w t) = rw (chars-then w t) (w, chars-text t)

-- the first character of valid text has the length that its first byte says
text-first : {s : List ℕ} → Text s → 0 < length s → char_len s ≡ length_by (get_or s 0 0)
text-first end h = absurd (omega arith)
text-first (then {c} {s} w t) h = ap (λ (l : List (List ℕ)). length (first_char l)) (chars-then w t) ∙ char-length s w

pub char_len-valid : (s : List ℕ) → valid s ≡ true → 0 < length s → char_len s ≡ length_by (get_or s 0 0)
char_len-valid s e h = text-first ((valid-text s).0 e) h

-- ---- putting together

pub valid-append : (a b : List ℕ) → valid a ≡ true → valid (a ++ b) ≡ valid b
unfolding valid
valid-append a b e = ap (λ (u : State). eqb u.more 0) (steps-append whole a b ∙ ap (λ (u : State). char_steps u b) (text-steps ((valid-text a).0 e)))

-- a one-byte character in front
pub valid-one : (a : ℕ) (s : List ℕ) → a ≤ 0x7F → valid (a ∷ s) ≡ valid s
valid-one a s h = valid-append (a ∷ []) s ((valid-text (a ∷ [])).1 (then (one_00 (record { low = omega arith; high = h })) end))

-- ---- characters of one byte

pub one-valid : (s : List ℕ) → one_byte_each s ≡ true → valid s ≡ true
unfolding one_byte_each
one-valid [] e = (valid-text []).1 end
one-valid (b ∷ s) e = let w = (and-eq-true_iff (leb b 0x7F) (one_byte_each s)).0 e in valid-one b s (leb-true b 0x7F w.0) ∙ one-valid s w.1

pub one-take : (n : ℕ) (s : List ℕ) → one_byte_each s ≡ true → one_byte_each (take n s) ≡ true
unfolding one_byte_each
one-take zero s e = refl
one-take (suc n) [] e = refl
one-take (suc n) (b ∷ s) e = let w = (and-eq-true_iff (leb b 0x7F) (one_byte_each s)).0 e in rw w.0 (one-take n s w.1)

pub one-drop : (n : ℕ) (s : List ℕ) → one_byte_each s ≡ true → one_byte_each (drop n s) ≡ true
unfolding one_byte_each
one-drop zero s e = e
one-drop (suc n) [] e = refl
one-drop (suc n) (b ∷ s) e = one-drop n s ((and-eq-true_iff (leb b 0x7F) (one_byte_each s)).0 e).1

-- what is left, of one byte more and at the end
pub one-cons : (s : List ℕ) (i : ℕ) → i < length s → one_byte_each (drop i s) ≡ (leb (get_or s i 0) 0x7F && one_byte_each (drop (i + 1) s))
unfolding one_byte_each
one-cons s i h = rw (drop-cons s i 0, add-one)

pub one_end : (s : List ℕ) (i : ℕ) → length s ≤ i → one_byte_each (drop i s) ≡ true
unfolding one_byte_each
one_end s i h = rw (drop_of_length-le s h)

-- the greater of two bytes is one where both are
greater-one : (a b : ℕ) → leb (max a b) 0x7F ≡ (leb a 0x7F && leb b 0x7F)
greater-one a b = dite (dec_le a 0x7F)
    (λ h. rw (le-leb a 0x7F h) (dite (dec_le b 0x7F) (λ l. rw (le-leb b 0x7F l, le-leb (max a b) 0x7F (omega arith))) (λ l. rw (lt-leb b 0x7F (omega arith), lt-leb (max a b) 0x7F (omega arith)))))
    (λ h. rw (lt-leb a 0x7F (omega arith), lt-leb (max a b) 0x7F (omega arith)))

pub one-next : (s : List ℕ) (i m n : ℕ) → i < length s → n ≡ max m (get_or s i 0)
    → (leb m 0x7F && one_byte_each (drop i s)) ≡ (leb n 0x7F && one_byte_each (drop (i + 1) s))
one-next s i m n h e =
    ap (λ b. leb m 0x7F && b) (one-cons s i h) ∙ sym (and_assoc (leb m 0x7F) (leb (get_or s i 0) 0x7F) (one_byte_each (drop (i + 1) s)))
    ∙ ap (λ b. b && one_byte_each (drop (i + 1) s)) (sym (ap (λ k. leb k 0x7F) e ∙ greater-one m (get_or s i 0)))
  where
    and_assoc : (a b c : Bool) → ((a && b) && c) ≡ (a && (b && c))
    and_assoc true b c = refl
    and_assoc false b c = refl
