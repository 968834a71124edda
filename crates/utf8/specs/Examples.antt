-- Worked examples, which antt computes: tables of bytes beside what the definitions say of them. The samples of RFC 3629's
-- section 7 stand first.
use Rattle.std.specs.Prelude.{◌≡◌, refl, Bool, true, false, ◌&&◌, List, [], ◌∷◌, map, ℕ, length}
use Rattle.text.specs.Ascii.{ascii}
use Rattle.text.specs.Compare.{same}
use Rattle.utf8.specs.Utf8.{length_by, char_steps, valid}
use Rattle.utf8.specs.Chars.{chars, concat, char_len, white_chars, encode, is_white}
use Rattle.utf8.specs.Trim.{skip_white, trim_start, trim_end, trim}

-- the test passes at each
abbrev every : {A : Type 0} → (A → Bool) → List A → Bool
every p [] = true
every p (x ∷ xs) = p x && every p xs

-- ---- the RFC's samples: code points and their bytes

pub record Sample : Type 0 where
  pub points : List ℕ
  pub bytes : List ℕ

abbrev sample : List ℕ → List ℕ → Sample
sample p b = record { points = p; bytes = b }

abbrev samples : List Sample
samples =
    -- A, not identical to, alpha, full stop
    sample (0x41 ∷ 0x2262 ∷ 0x391 ∷ 0x2E ∷ []) (0x41 ∷ 0xE2 ∷ 0x89 ∷ 0xA2 ∷ 0xCE ∷ 0x91 ∷ 0x2E ∷ [])
    -- hangugeo
    ∷ sample (0xD55C ∷ 0xAD6D ∷ 0xC5B4 ∷ []) (0xED ∷ 0x95 ∷ 0x9C ∷ 0xEA ∷ 0xB5 ∷ 0xAD ∷ 0xEC ∷ 0x96 ∷ 0xB4 ∷ [])
    -- nihongo
    ∷ sample (0x65E5 ∷ 0x672C ∷ 0x8A9E ∷ []) (0xE6 ∷ 0x97 ∷ 0xA5 ∷ 0xE6 ∷ 0x9C ∷ 0xAC ∷ 0xE8 ∷ 0xAA ∷ 0x9E ∷ [])
    -- the byte order mark, and the stump of a tree
    ∷ sample (0xFEFF ∷ 0x233B4 ∷ []) (0xEF ∷ 0xBB ∷ 0xBF ∷ 0xF0 ∷ 0xA3 ∷ 0x8E ∷ 0xB4 ∷ [])
    ∷ []

samples-valid : every (λ x. valid x.bytes) samples ≡ true
unfolding valid char_steps
samples-valid = refl

samples-chars : map (λ x. chars x.bytes) samples ≡ map (λ x. map encode x.points) samples
unfolding chars
samples-chars = refl

-- ---- lengths and validity

lengths :
    map length_by (0x00 ∷ 0x7F ∷ 0x80 ∷ 0xBF ∷ 0xC0 ∷ 0xC1 ∷ 0xC2 ∷ 0xDF ∷ 0xE0 ∷ 0xEF ∷ 0xF0 ∷ 0xF4 ∷ 0xF5 ∷ 0xFF ∷ [])
    ≡ 1 ∷ 1 ∷ 0 ∷ 0 ∷ 0 ∷ 0 ∷ 2 ∷ 2 ∷ 3 ∷ 3 ∷ 4 ∷ 4 ∷ 0 ∷ 0 ∷ []
lengths = refl

-- no bytes, and the first and last code points of each length, beside the surrogates, and of all
abbrev valids : List (List ℕ)
valids = [] ∷ map encode (0x0 ∷ 0x7F ∷ 0x80 ∷ 0x7FF ∷ 0x800 ∷ 0xD7FF ∷ 0xE000 ∷ 0xFFFF ∷ 0x10000 ∷ 0x10FFFF ∷ [])

are-valid : every valid valids ≡ true
unfolding valid char_steps
are-valid = refl

abbrev invalids : List (List ℕ)
invalids =
    -- overlong: U+0000 and 002F, 007F, 07FF and FFFF in too many bytes
    (0xC0 ∷ 0x80 ∷ [])
    ∷ (0xC0 ∷ 0xAF ∷ [])
    ∷ (0xC1 ∷ 0xBF ∷ [])
    ∷ (0xE0 ∷ 0x9F ∷ 0xBF ∷ [])
    ∷ (0xF0 ∷ 0x8F ∷ 0xBF ∷ 0xBF ∷ [])
    -- surrogates: the first, the last, and U+233B4 as a pair of them
    ∷ (0xED ∷ 0xA0 ∷ 0x80 ∷ [])
    ∷ (0xED ∷ 0xBF ∷ 0xBF ∷ [])
    ∷ (0xED ∷ 0xA1 ∷ 0x8C ∷ 0xED ∷ 0xBE ∷ 0xB4 ∷ [])
    -- above 10FFFF
    ∷ (0xF4 ∷ 0x90 ∷ 0x80 ∷ 0x80 ∷ [])
    ∷ (0xF5 ∷ 0x80 ∷ 0x80 ∷ 0x80 ∷ [])
    ∷ (0xFF ∷ [])
    -- cut, at the end and before another character
    ∷ (0x41 ∷ 0xC2 ∷ [])
    ∷ (0xE2 ∷ 0x89 ∷ [])
    ∷ (0xF0 ∷ 0xA3 ∷ 0x8E ∷ [])
    ∷ (0xE2 ∷ 0x89 ∷ 0x41 ∷ [])
    -- a byte that continues nothing
    ∷ (0x80 ∷ [])
    ∷ (0x41 ∷ 0xBF ∷ [])
    ∷ []

are-invalid : map valid invalids ≡ map (λ s. false) invalids
unfolding valid char_steps
are-invalid = refl

-- ---- characters

-- any bytes have characters: each goes on as long as bytes continue it
any-chars :
    map chars ([] ∷ (0x80 ∷ 0x81 ∷ 0x41 ∷ []) ∷ (0x41 ∷ 0xBF ∷ 0xC2 ∷ 0xE2 ∷ 0x89 ∷ 0xA2 ∷ 0xA2 ∷ []) ∷ [])
    ≡ []
    ∷ ((0x80 ∷ 0x81 ∷ []) ∷ (0x41 ∷ []) ∷ [])
    ∷ ((0x41 ∷ 0xBF ∷ []) ∷ (0xC2 ∷ []) ∷ (0xE2 ∷ 0x89 ∷ 0xA2 ∷ 0xA2 ∷ []) ∷ [])
    ∷ []
unfolding chars
any-chars = refl

first-lengths : map char_len ([] ∷ ascii "ab" ∷ encode 0xE9 ∷ encode 0x2262 ∷ encode 0x233B4 ∷ (0x80 ∷ 0x80 ∷ []) ∷ []) ≡ 0 ∷ 1 ∷ 2 ∷ 3 ∷ 4 ∷ 2 ∷ []
unfolding chars
first-lengths = refl

-- ---- White_Space

white-count : length white_chars ≡ 25
white-count = refl

are-white : every (λ n. is_white (encode n)) white_chars ≡ true
unfolding same
are-white = refl

-- the neighbours of the table's rows, and what is taken for white space at times: U+001C to 001F, 180E, 200B, 2060, FEFF
abbrev others : List ℕ
others =
    0x08 ∷ 0x0E ∷ 0x1C ∷ 0x1D ∷ 0x1E ∷ 0x1F ∷ 0x21 ∷ 0x84 ∷ 0x86 ∷ 0x9F ∷ 0xA1 ∷ 0x167F ∷ 0x1681 ∷ 0x180E ∷ 0x1FFF ∷ 0x200B
    ∷ 0x2027 ∷ 0x202A ∷ 0x202E ∷ 0x2030 ∷ 0x205E ∷ 0x2060 ∷ 0x2FFF ∷ 0x3001 ∷ 0xFEFF ∷ []

are-other : map (λ n. is_white (encode n)) others ≡ map (λ n. false) others
unfolding same
are-other = refl

-- a space in two bytes, half a character, and two characters are none
no-white : map is_white ([] ∷ (0xC0 ∷ 0xA0 ∷ []) ∷ (0xC2 ∷ []) ∷ (0x20 ∷ 0x20 ∷ []) ∷ []) ≡ false ∷ false ∷ false ∷ false ∷ []
unfolding same
no-white = refl

-- ---- trimming: a text, and it without the white space before it, after it, and both

pub record Trimmed : Type 0 where
  pub text : List ℕ
  pub start : List ℕ
  pub end : List ℕ
  pub both : List ℕ

abbrev trims : List ℕ → List ℕ → List ℕ → List ℕ → Trimmed
trims t s e b = record { text = t; start = s; end = e; both = b }

abbrev trimmed : List Trimmed
trimmed =
    trims [] [] [] []
    ∷ trims (ascii "a") (ascii "a") (ascii "a") (ascii "a")
    ∷ trims (ascii " a b ") (ascii "a b ") (ascii " a b") (ascii "a b")
    ∷ trims (ascii "\t\n a") (ascii "a") (ascii "\t\n a") (ascii "a")
    ∷ trims (ascii "   ") [] [] []
    -- U+3000, a, U+00A0
    ∷ trims (0xE3 ∷ 0x80 ∷ 0x80 ∷ 0x61 ∷ 0xC2 ∷ 0xA0 ∷ []) (0x61 ∷ 0xC2 ∷ 0xA0 ∷ []) (0xE3 ∷ 0x80 ∷ 0x80 ∷ 0x61 ∷ []) (0x61 ∷ [])
    -- the byte order mark is kept, U+2028 not
    ∷ trims (0xE2 ∷ 0x80 ∷ 0xA8 ∷ 0xEF ∷ 0xBB ∷ 0xBF ∷ []) (0xEF ∷ 0xBB ∷ 0xBF ∷ []) (0xE2 ∷ 0x80 ∷ 0xA8 ∷ 0xEF ∷ 0xBB ∷ 0xBF ∷ []) (0xEF ∷ 0xBB ∷ 0xBF ∷ [])
    -- a space that a byte continues is no white space, nor is half of U+2000
    ∷ trims (0x20 ∷ 0x80 ∷ 0x20 ∷ []) (0x20 ∷ 0x80 ∷ 0x20 ∷ []) (0x20 ∷ 0x80 ∷ []) (0x20 ∷ 0x80 ∷ [])
    ∷ trims (0x20 ∷ 0xE2 ∷ 0x80 ∷ []) (0xE2 ∷ 0x80 ∷ []) (0x20 ∷ 0xE2 ∷ 0x80 ∷ []) (0xE2 ∷ 0x80 ∷ [])
    ∷ []

trimmed-hold : every (λ x. same (trim_start x.text) x.start && (same (trim_end x.text) x.end && same (trim x.text) x.both)) trimmed ≡ true
unfolding trim trim_start trim_end skip_white chars concat same
trimmed-hold = refl
