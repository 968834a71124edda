-- What a look-up answers: a rule by its class and its alias, which is a part of the rule file.
use Rattle.std.specs.Prelude.{◌≡◌, List, ℕ, Option as Maybe, Some, None}
use Rattle.std.specs.Borrow.{Bor}
use Rattle.std.proofs.Math.Option.{Option}
use Rattle.std.proofs.Math.Option.Option.{none, some}
use Rattle.text.specs.Slices.{PartOf}
use Rattle.mitex_spec.specs.Rules.{Rule, rule}
use Rattle.mitex_spec.specs.RuleFile.{rules_of}
use Rattle.mitex_spec.specs.declared.rules.Found.{Found}

-- the bytes that are lent, if there are some
abbrev pub lent : Maybe (Bor (List ℕ)) → Option (List ℕ)
lent None = none
lent (Some s) = some s.now

-- the alias of what was found
abbrev pub alias_of : Found → Option (List ℕ)
alias_of found = lent found.alias

-- the rule that was found for a name
abbrev pub rule_found : List ℕ → Found → Rule
rule_found name found = rule name (alias_of found) found.class

abbrev pub rule_of : List ℕ → Maybe Found → Option Rule
rule_of name None = none
rule_of name (Some found) = some (rule_found name found)

-- this was found: it is the rule that was to be found
abbrev pub Finds : List ℕ → Option Rule → Maybe Found → Type 0
Finds name answer found = rule_of name found ≡ answer

-- and so for the rules of the file
abbrev pub Answers : List ℕ → List ℕ → (List Rule → Option Rule) → Maybe Found → Type 0
Answers file name answer found = (rs : List Rule) → rules_of file ≡ some rs → Finds name (answer rs) found

-- the bytes that are lent, if there are some, are a part of the file
abbrev pub LentIn : List ℕ → Maybe (Bor (List ℕ)) → Type 0
LentIn file None = Unit {0}
LentIn file (Some s) = PartOf s.now file

-- the alias of what was found, if it has one, is a part of the file
abbrev pub AliasIn : List ℕ → Maybe Found → Type 0
AliasIn file None = Unit {0}
AliasIn file (Some found) = LentIn file found.alias
