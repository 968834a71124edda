-- Worked examples, which antt computes: a file and its rules, each way of breaking the layout, and look-ups.
use Rattle.std.specs.Prelude.{◌≡◌, refl, Bool, true, false, List, [], ◌∷◌, ◌++◌, map, ℕ, length, replicate}
use Rattle.std.proofs.Math.Option.Option.{none, some}
use Rattle.text.specs.Ascii.{ascii}
use Rattle.text.specs.Numbers.{two, four}
use Rattle.text.specs.Compare.{same, precedes}
use Rattle.utf8.specs.Utf8.{char_steps, valid}
use Rattle.mitex_spec.specs.Rules.{Rule, rule, get, get_cmd, get_env, written_name}
use Rattle.mitex_spec.specs.RuleFile.{rises_from, rule_row_fits, rules_in, rules_of, rows_of_rules, text_of_rules, file_of_rules}
use Rattle.mitex_spec.specs.Index.{firsts_below, has_rules}

-- ---- a file of four rules, the first with the empty name and an empty alias

abbrev four_rules : List Rule
four_rules =
    rule [] (some []) 2
    ∷ rule (ascii "alpha") none 0
    ∷ rule (ascii "matrix") (some (ascii "mat")) 5
    ∷ rule (ascii "sqrt") (some (ascii "mitexsqrt")) 1
    ∷ []

abbrev four_texts : List ℕ
four_texts = ascii "alphamatrixmatsqrtmitexsqrt"

abbrev rule_bytes : ℕ → ℕ → ℕ → ℕ → List ℕ
rule_bytes n m class pad = two n (two m (class ∷ 0 ∷ 0 ∷ pad ∷ []))

abbrev four_rules_file : List ℕ
four_rules_file = four_texts ++ (rule_bytes 0 0 2 0 ++ (rule_bytes 5 65535 0 0 ++ (rule_bytes 6 3 5 0 ++ (rule_bytes 4 9 1 0 ++ four 27 (four 4 [])))))

file-read : rules_of four_rules_file ≡ some four_rules
unfolding rules_of rules_in rule_row_fits rises_from valid char_steps precedes
file-read = refl

file-written : file_of_rules four_rules ≡ four_rules_file
unfolding file_of_rules text_of_rules rows_of_rules
file-written = refl

-- ---- what is accepted and what is refused

-- a text, its rows, and the trailer that they ask for
abbrev laid : List ℕ → ℕ → List ℕ → List ℕ
laid t n rows = t ++ (rows ++ four (length t) (four n []))

abbrev is_accepted : List ℕ → Bool
is_accepted l = has_rules (rules_of l)

abbrev good_files : List (List ℕ)
good_files =
    -- no rules
    laid [] 0 []
    -- classes 0 and 10
    ∷ laid (ascii "ab") 2 (rule_bytes 1 65535 0 0 ++ rule_bytes 1 65535 10 0)
    -- a name before its longer one
    ∷ laid (ascii "aab") 2 (rule_bytes 1 65535 0 0 ++ rule_bytes 2 65535 0 0)
    -- a character of two bytes as name and as alias
    ∷ laid (195 ∷ 169 ∷ 195 ∷ 169 ∷ []) 1 (rule_bytes 2 2 0 0)
    ∷ []

all-good : map is_accepted good_files ≡ true ∷ true ∷ true ∷ true ∷ []
unfolding rules_of rules_in rule_row_fits rises_from valid char_steps precedes
all-good = refl

abbrev bad_files : List (List ℕ)
bad_files =
    -- shorter than 8 bytes
    []
    ∷ replicate 7 0
    -- rows that would begin before the file, a count that would wrap, and a start past the end
    ∷ four 0 (four 1 [])
    ∷ four 8 (four 536870911 [])
    ∷ four 4294967288 (four 1 [])
    -- class 11, and a pad that is no zero
    ∷ laid (ascii "a") 1 (rule_bytes 1 65535 11 0)
    ∷ laid (ascii "a") 1 (rule_bytes 1 65535 0 1)
    -- equal names, and a name after its longer one
    ∷ laid (ascii "aa") 2 (rule_bytes 1 65535 0 0 ++ rule_bytes 1 65535 0 0)
    ∷ laid (ascii "aba") 2 (rule_bytes 2 65535 0 0 ++ rule_bytes 1 65535 0 0)
    -- texts that do not fill the area, that overrun it, an alias of 65,534 bytes that is not there
    ∷ laid (ascii "ab") 1 (rule_bytes 1 65535 0 0)
    ∷ laid (ascii "a") 1 (rule_bytes 1 1 0 0)
    ∷ laid (ascii "a") 1 (rule_bytes 1 65534 0 0)
    -- a cut character at a name's end whose rest begins the alias
    ∷ laid (195 ∷ 169 ∷ []) 1 (rule_bytes 1 1 0 0)
    ∷ []

all-bad : map is_accepted bad_files ≡ false ∷ false ∷ false ∷ false ∷ false ∷ false ∷ false ∷ false ∷ false ∷ false ∷ false ∷ false ∷ false ∷ []
unfolding rules_of rules_in rule_row_fits rises_from valid char_steps precedes
all-bad = refl

-- ---- look-ups

-- the empty name begins as if with 0, and all names with a byte lower than 256
firsts-counted : map (λ b. firsts_below b four_rules) (0 ∷ 1 ∷ 97 ∷ 98 ∷ 256 ∷ []) ≡ 0 ∷ 1 ∷ 1 ∷ 2 ∷ 4 ∷ []
unfolding firsts_below
firsts-counted = refl

-- a command is no environment, and the other way round; a name need not be text
commands :
    map (get_cmd four_rules) (ascii "sqrt" ∷ ascii "matrix" ∷ ascii "sqr" ∷ (128 ∷ []) ∷ [])
    ≡ some (rule (ascii "sqrt") (some (ascii "mitexsqrt")) 1) ∷ none ∷ none ∷ none ∷ []
unfolding get same
commands = refl

environments : map (get_env four_rules) (ascii "sqrt" ∷ ascii "matrix" ∷ []) ≡ none ∷ some (rule (ascii "matrix") (some (ascii "mat")) 5) ∷ []
unfolding get same
environments = refl

names-written : map (λ r. written_name r r.name) four_rules ≡ [] ∷ ascii "alpha" ∷ ascii "mat" ∷ ascii "mitexsqrt" ∷ []
names-written = refl
