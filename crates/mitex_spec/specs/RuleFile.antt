-- The rule file, a file of rows (crate text, specs/Trailer.antt) with a row for each rule: the length of the rule's name (2 bytes),
-- that of its alias (2; 65,535 is no alias), its class (1) and three zeros. Names and aliases fill the text area in the order of the
-- rows. `rules_of` reads a file, `file_of_rules` writes one; proofs/RuleFile.antt says that each undoes the other (`rules-file`,
-- `file-rules`).
use Rattle.std.specs.Prelude.{Bool, true, ◌&&◌, cond, ℕ, zero, suc, ◌+◌, List, [], ◌∷◌, ◌++◌, length, take, drop, get_or, eqb, leb, Option as Maybe, Some, None}
use Rattle.std.proofs.Math.Option.{Option}
use Rattle.std.proofs.Math.Option.Option.{none, some}
use Rattle.text.specs.Numbers.{two, four, two_at}
use Rattle.text.specs.Compare.{precedes}
use Rattle.text.specs.Trailer.{count_of, trailed, text_area, row_area, ahead}
use Rattle.utf8.specs.Utf8.{valid}
use Rattle.mitex_spec.specs.Rules.{Rule, rule}

-- ---- what the rules of a file are

-- a class is at most so large
abbrev pub class_most : ℕ
class_most = 10

abbrev pub valid_alias : Option (List ℕ) → Bool
valid_alias none = true
valid_alias (some alias) = valid alias

abbrev pub rule_fits : Rule → Bool
rule_fits r = leb r.class class_most && (valid r.name && valid_alias r.alias)

unfoldable pub all_fit : List Rule → Bool
all_fit [] = true
all_fit (r ∷ rs) = rule_fits r && all_fit rs

-- names rise strictly by bytes, here from a name on
unfoldable pub rises_from : List ℕ → List Rule → Bool
rises_from name [] = true
rises_from name (r ∷ rs) = precedes name r.name && rises_from r.name rs

-- the first follows none
abbrev pub may_follow : Option (List ℕ) → List ℕ → Bool
may_follow none name = true
may_follow (some last) name = precedes last name

abbrev pub rises : List Rule → Bool
rises [] = true
rises (r ∷ rs) = rises_from r.name rs

-- ---- reading

-- a row is the first of `rows`, and its texts are the first of `text`
abbrev pub no_alias : ℕ
no_alias = 65535

abbrev pub length_of_name : List ℕ → ℕ
length_of_name rows = two_at 0 rows

abbrev pub alias_length : List ℕ → ℕ
alias_length rows = cond (eqb (two_at 2 rows) no_alias) 0 (two_at 2 rows)

abbrev pub alias_size : List ℕ → Maybe ℕ
alias_size rows = cond (eqb (two_at 2 rows) no_alias) None (Some (two_at 2 rows))

-- the bytes of text that a row takes
abbrev pub rule_taken : List ℕ → ℕ
rule_taken rows = length_of_name rows + alias_length rows

abbrev pub alias_at : ℕ → List ℕ → Option (List ℕ)
alias_at m text = cond (eqb m no_alias) none (some (take m text))

abbrev pub rule_at : List ℕ → List ℕ → Rule
rule_at rows text = rule (take (length_of_name rows) text) (alias_at (two_at 2 rows) (drop (length_of_name rows) text)) (get_or rows 4 0)

-- the last three bytes are zeros
abbrev pub padded : List ℕ → Bool
padded rows = eqb (get_or rows 5 0) 0 && (eqb (get_or rows 6 0) 0 && eqb (get_or rows 7 0) 0)

-- so they are, the texts are there, and they make a rule
unfoldable pub rule_row_fits : List ℕ → List ℕ → Bool
rule_row_fits rows text = padded rows && (leb (rule_taken rows) (length text) && rule_fits (rule_at rows text))

-- as many rows as said, whose texts fill the text
unfoldable pub rules_in : ℕ → List ℕ → List ℕ → Option (List Rule)
rules_in zero rows [] = some []
rules_in zero rows (b ∷ text) = none
rules_in (suc n) rows text =
    cond (rule_row_fits rows text) (ahead (rule_at rows text) (rules_in n (drop 8 rows) (drop (rule_taken rows) text))) none

abbrev pub rising : Option (List Rule) → Option (List Rule)
rising none = none
rising (some rs) = cond (rises rs) (some rs) none

-- the rules of a file; none where it breaks its layout
unfoldable pub rules_of : List ℕ → Option (List Rule)
rules_of file = cond (trailed file) (rising (rules_in (count_of file) (row_area file) (text_area file))) none

-- ---- writing

abbrev pub number_of_alias : Option (List ℕ) → ℕ
number_of_alias none = no_alias
number_of_alias (some alias) = length alias

abbrev pub alias_text : Option (List ℕ) → List ℕ
alias_text none = []
alias_text (some alias) = alias

abbrev pub rule_text : Rule → List ℕ
rule_text r = r.name ++ alias_text r.alias

abbrev pub rule_row : Rule → List ℕ → List ℕ
rule_row r rows = two (length r.name) (two (number_of_alias r.alias) (r.class ∷ 0 ∷ 0 ∷ 0 ∷ rows))

unfoldable pub text_of_rules : List Rule → List ℕ
text_of_rules [] = []
text_of_rules (r ∷ rs) = rule_text r ++ text_of_rules rs

unfoldable pub rows_of_rules : List Rule → List ℕ
rows_of_rules [] = []
rows_of_rules (r ∷ rs) = rule_row r (rows_of_rules rs)

unfoldable pub file_of_rules : List Rule → List ℕ
file_of_rules rs = text_of_rules rs ++ (rows_of_rules rs ++ four (length (text_of_rules rs)) (four (length rs) []))
