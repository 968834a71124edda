-- The characters of a text. Each begins at a byte that continues no other; for valid text these are the characters of
-- RFC 3629 (`chars-text`, proofs/Texts.antt), and any bytes have characters in this sense. White_Space, a property of
-- Unicode, is the table of its code points.
use Rattle.std.specs.Prelude.{Bool, true, false, ◌&&◌, ◌||◌, cond, ◌≡◌, List, [], ◌∷◌, ◌++◌, map, ℕ, ◌+◌, ◌/◌, ◌%◌, ◌<◌, leb, ltb, length, take, drop}
use Rattle.text.specs.Compare.{same}
use Rattle.utf8.specs.Utf8.{Char}

-- the byte continues a character
abbrev pub continues : ℕ → Bool
continues b = leb 0x80 b && leb b 0xBF

-- the text goes on with a byte that continues a character
abbrev pub goes_on : List ℕ → Bool
goes_on [] = false
goes_on (b ∷ s) = continues b

-- the byte b before the first character, or as a character of its own
abbrev pub joined : Bool → ℕ → List (List ℕ) → List (List ℕ)
joined true b [] = (b ∷ []) ∷ []
joined true b (c ∷ cs) = (b ∷ c) ∷ cs
joined false b cs = (b ∷ []) ∷ cs

unfoldable pub chars : List ℕ → List (List ℕ)
chars [] = []
chars (b ∷ s) = joined (goes_on s) b (chars s)

-- the text of characters
unfoldable pub concat : List (List ℕ) → List ℕ
concat [] = []
concat (c ∷ cs) = c ++ concat cs

-- the first of some characters, no bytes where there is none
abbrev pub first_char : List (List ℕ) → List ℕ
first_char [] = []
first_char (c ∷ cs) = c

-- how many bytes the first character of a text has
abbrev pub char_len : List ℕ → ℕ
char_len s = length (first_char (chars s))

-- the last character of a text begins at k
pub record LastAt (s : List ℕ) (k : ℕ) : Type 0 where
  pub within : k < length s
  pub parts : chars s ≡ chars (take k s) ++ (drop k s ∷ [])

-- each is a character of the RFC
abbrev pub AllChar : List (List ℕ) → Type 0
AllChar [] = Unit
AllChar (c ∷ cs) = Char c × AllChar cs

-- ---- White_Space

-- Unicode's code points with the property: U+0009 to 000D, 0020, 0085, 00A0, 1680, 2000 to 200A, 2028, 2029, 202F, 205F, 3000
abbrev pub white_chars : List ℕ
white_chars =
    0x0009 ∷ 0x000A ∷ 0x000B ∷ 0x000C ∷ 0x000D ∷ 0x0020 ∷ 0x0085 ∷ 0x00A0 ∷ 0x1680
    ∷ 0x2000 ∷ 0x2001 ∷ 0x2002 ∷ 0x2003 ∷ 0x2004 ∷ 0x2005 ∷ 0x2006 ∷ 0x2007 ∷ 0x2008 ∷ 0x2009 ∷ 0x200A
    ∷ 0x2028 ∷ 0x2029 ∷ 0x202F ∷ 0x205F ∷ 0x3000 ∷ []

-- the bytes of a code point (the table of the RFC's section 3)
abbrev pub encode : ℕ → List ℕ
encode n =
    cond (ltb n 0x80) (n ∷ [])
    (cond (ltb n 0x800) ((0xC0 + n / 64) ∷ (0x80 + n % 64) ∷ [])
    (cond (ltb n 0x10000) ((0xE0 + n / 4096) ∷ (0x80 + n / 64 % 64) ∷ (0x80 + n % 64) ∷ [])
    ((0xF0 + n / 262144) ∷ (0x80 + n / 4096 % 64) ∷ (0x80 + n / 64 % 64) ∷ (0x80 + n % 64) ∷ [])))

-- the bytes are one of these texts
abbrev pub among : List (List ℕ) → List ℕ → Bool
among [] c = false
among (d ∷ ds) c = same c d || among ds c

-- the character is white space
abbrev pub is_white : List ℕ → Bool
is_white c = among (map encode white_chars) c
