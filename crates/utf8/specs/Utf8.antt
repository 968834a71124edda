-- UTF-8 by RFC 3629: what a character is (section 4 of the RFC, "Syntax of UTF-8 Byte Sequences"), what valid text is, and
-- a test that goes byte by byte. `valid-text` (proofs/Grammar.antt) says that the test accepts just the valid texts.
use Rattle.std.specs.Prelude.{Bool, true, ◌&&◌, cond, ℕ, ◌-◌, ◌≤◌, List, [], ◌∷◌, ◌++◌, eqb, leb}
use Rattle.utf8.specs.declared.State.{State}

-- ---- the RFC's syntax

-- a byte from a to b
pub record Between (a b x : ℕ) : Type 0 where
  pub low : a ≤ x
  pub high : x ≤ b

-- UTF8-tail = %x80-BF
abbrev pub Tail : ℕ → Type 0
Tail x = Between 0x80 0xBF x

-- UTF8-char = UTF8-1 / UTF8-2 / UTF8-3 / UTF8-4, each line by line
pub data Char : List ℕ → Type 0 where
  one_00 : {a : ℕ} → Between 0x00 0x7F a → Char (a ∷ [])
  two_c2 : {a b : ℕ} → Between 0xC2 0xDF a → Tail b → Char (a ∷ b ∷ [])
  three_e0 : {b c : ℕ} → Between 0xA0 0xBF b → Tail c → Char (0xE0 ∷ b ∷ c ∷ [])
  three_e1 : {a b c : ℕ} → Between 0xE1 0xEC a → Tail b → Tail c → Char (a ∷ b ∷ c ∷ [])
  three_ed : {b c : ℕ} → Between 0x80 0x9F b → Tail c → Char (0xED ∷ b ∷ c ∷ [])
  three_ee : {a b c : ℕ} → Between 0xEE 0xEF a → Tail b → Tail c → Char (a ∷ b ∷ c ∷ [])
  four_f0 : {b c d : ℕ} → Between 0x90 0xBF b → Tail c → Tail d → Char (0xF0 ∷ b ∷ c ∷ d ∷ [])
  four_f1 : {a b c d : ℕ} → Between 0xF1 0xF3 a → Tail b → Tail c → Tail d → Char (a ∷ b ∷ c ∷ d ∷ [])
  four_f4 : {b c d : ℕ} → Between 0x80 0x8F b → Tail c → Tail d → Char (0xF4 ∷ b ∷ c ∷ d ∷ [])

-- UTF8-octets = *( UTF8-char )
pub data Text : List ℕ → Type 0 where
  end : Text []
  then : {c s : List ℕ} → Char c → Text s → Text (c ++ s)

-- ---- the test

-- the length of a character by its first byte; 0 is invalid
abbrev pub length_by : ℕ → ℕ
length_by b = cond (leb b 0x7F) 1 (cond (leb b 0xC1) 0 (cond (leb b 0xDF) 2 (cond (leb b 0xEF) 3 (cond (leb b 0xF4) 4 0))))

-- what the second byte lies between: E0 and F0 bar overlong forms, ED surrogates, F4 what is above 10FFFF
abbrev pub second_low : ℕ → ℕ
second_low b = cond (eqb b 0xE0) 0xA0 (cond (eqb b 0xF0) 0x90 0x80)

abbrev pub second_high : ℕ → ℕ
second_high b = cond (eqb b 0xED) 0x9F (cond (eqb b 0xF4) 0x8F 0xBF)

-- a place in a text: how many bytes of the character are to come, and what the next lies between
abbrev pub state : ℕ → ℕ → ℕ → State
state m a b = record { more = m; low = a; high = b }

-- so many bytes are to come, each any that continues a character
abbrev pub plain : ℕ → State
plain m = state m 0x80 0xBF

-- between two characters
abbrev pub whole : State
whole = plain 0

-- no byte leads on from here
abbrev pub dead : State
dead = state 1 1 0

-- after the first byte of a character
abbrev pub begun : ℕ → State
begun b = cond (eqb (length_by b) 0) dead (state (length_by b - 1) (second_low b) (second_high b))

-- after one byte more
abbrev pub char_step : State → ℕ → State
char_step u b = cond (eqb u.more 0) (begun b) (cond (leb u.low b && leb b u.high) (plain (u.more - 1)) dead)

unfoldable pub char_steps : State → List ℕ → State
char_steps u [] = u
char_steps u (b ∷ s) = char_steps (char_step u b) s

-- the bytes are whole characters
unfoldable pub valid : List ℕ → Bool
valid s = eqb (char_steps whole s).more 0

-- each character has one byte
unfoldable pub one_byte_each : List ℕ → Bool
one_byte_each [] = true
one_byte_each (b ∷ s) = leb b 0x7F && one_byte_each s
