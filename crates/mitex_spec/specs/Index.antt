-- The index of a rule file: for each rule where its name begins in the file, and after these the table of first bytes, which
-- says for each byte how many names begin with a lower one. A rule's row and its name are then found by the rule's number, and
-- a name by halving the rules whose names begin as it does.
use Rattle.std.specs.Prelude.{◌≡◌, Bool, true, false, cond, List, [], ◌∷◌, ℕ, zero, suc, ◌+◌, ◌*◌, ◌<◌, ltb, length, take, drop, get_or}
use Rattle.std.proofs.Math.Option.{Option}
use Rattle.std.proofs.Math.Option.Option.{none, some}
use Rattle.std.proofs.lemmas.List.Edits.{sets}
use Rattle.text.specs.Compare.{precedes}
use Rattle.text.specs.Trailer.{start_of}
use Rattle.mitex_spec.specs.Rules.{Rule, rule}
use Rattle.mitex_spec.specs.RuleFile.{rules_of, rule_text, rule_taken}

-- where the names of rules begin whose texts stand from `at` on
unfoldable pub offsets_from : ℕ → List Rule → List ℕ
offsets_from at [] = []
offsets_from at (r ∷ rs) = at ∷ offsets_from (at + length (rule_text r)) rs

-- the same by the rows
unfoldable pub starts_from : ℕ → ℕ → List ℕ → List ℕ
starts_from at zero rows = []
starts_from at (suc n) rows = at ∷ starts_from (at + rule_taken rows) n (drop 8 rows)

-- where the table begins, past the offsets of the at most 8,191 rules of a file, and where it ends
abbrev pub firsts_start : ℕ
firsts_start = 8192

abbrev pub index_size : ℕ
index_size = 8449

-- the first byte of a name, 0 for the empty name, and how many of the first names begin with a byte lower than b
abbrev pub first_byte : List ℕ → ℕ
first_byte name = get_or name 0 0

unfoldable pub firsts_below : ℕ → List Rule → ℕ
firsts_below b [] = 0
firsts_below b (r ∷ rs) = cond (ltb (first_byte r.name) b) (1 + firsts_below b rs) 0

-- this for n numbers from b on; the table has it for 0 to 256
unfoldable pub firsts_from : ℕ → ℕ → List Rule → List ℕ
firsts_from b zero rs = []
firsts_from b (suc n) rs = firsts_below b rs ∷ firsts_from (b + 1) n rs

abbrev pub firsts : List Rule → List ℕ
firsts rs = firsts_from 0 257 rs

-- whether there are rules, and what the check leaves in the index: what it had where there are none
abbrev pub has_rules : Option (List Rule) → Bool
has_rules none = false
has_rules (some rs) = true

abbrev pub indexed : Option (List Rule) → List ℕ → List ℕ
indexed none index = index
indexed (some rs) index = sets (sets index 0 (offsets_from 0 rs)) firsts_start (firsts rs)

-- what the check promises: its answer, and the index after it
pub record ChecksRules (file index : List ℕ) (ok : Bool) (index' : List ℕ) : Type 0 where
  pub answer : ok ≡ has_rules (rules_of file)
  pub fills : index' ≡ indexed (rules_of file) index

-- the row of a number, and the rows after it
abbrev pub rule_row_at : List ℕ → ℕ → List ℕ
rule_row_at file k = drop (start_of file + 8 * k) file

-- the rule of a number, and how many of the first names come before a name
abbrev pub rule_no : List Rule → ℕ → Rule
rule_no rs k = get_or rs k (rule [] none 0)

unfoldable pub rank_of : List Rule → List ℕ → ℕ
rank_of [] name = 0
rank_of (r ∷ rs) name = cond (precedes r.name name) (1 + rank_of rs name) 0

-- the file has these rules, and the index begins with their offsets: what it takes to find a rule by its number
pub record Numbered (file index : List ℕ) : Type 0 where
  pub rules : List Rule
  pub decodes : rules_of file ≡ some rules
  pub holds : take (length rules) index ≡ offsets_from 0 rules

pub record SomeRule (file index : List ℕ) (k : ℕ) : Type 0 where
  pub numbered : Numbered file index
  pub few : k < length numbered.rules

-- what a look-up asks, and the check establishes (`checked-rules`, proofs/Index.antt): the file has these rules, the index
-- begins with their offsets, and from `firsts_start` on it has the table
pub record Ready (file index : List ℕ) (rules : List Rule) : Type 0 where
  pub decodes : rules_of file ≡ some rules
  pub holds : take (length rules) index ≡ offsets_from 0 rules
  pub tabled : take 257 (drop firsts_start index) ≡ firsts rules

pub record SomeRules (file index : List ℕ) : Type 0 where
  pub rules : List Rule
  pub ready : Ready file index rules
