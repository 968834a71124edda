-- The rules of a conversion: what `get_cmd` and `get_env` of mitex-spec answer.
use Rattle.std.specs.Prelude.{cond, ℕ, List, [], ◌∷◌, leb}
use Rattle.std.proofs.Math.Option.{Option}
use Rattle.std.proofs.Math.Option.Option.{none, some}
use Rattle.text.specs.Compare.{same}

-- Class 0 is a command with `Right` and `None`, 1 `Right` and `Greedy`, 2 any other command; 3 to 10 are environments in the
-- order of `ContextFeature`: None, IsMath, IsMatrix, IsCases, IsFigure, IsTable, IsItemize, IsEnumerate.
pub record Rule : Type 0 where
  pub name : List ℕ
  pub alias : Option (List ℕ)
  pub class : ℕ

abbrev pub rule : List ℕ → Option (List ℕ) → ℕ → Rule
rule n a k = record { name = n; alias = a; class = k }

-- the rule of a name
unfoldable pub get : List Rule → List ℕ → Option Rule
get [] name = none
get (r ∷ rs) name = cond (same r.name name) (some r) (get rs name)

-- a rule in the kind of a command, which has at most class 2, and in the kind of an environment
abbrev pub cmd_most : ℕ
cmd_most = 2

abbrev pub as_cmd : Option Rule → Option Rule
as_cmd none = none
as_cmd (some r) = cond (leb r.class cmd_most) (some r) none

abbrev pub as_env : Option Rule → Option Rule
as_env none = none
as_env (some r) = cond (leb r.class cmd_most) none (some r)

abbrev pub get_cmd : List Rule → List ℕ → Option Rule
get_cmd rs name = as_cmd (get rs name)

abbrev pub get_env : List Rule → List ℕ → Option Rule
get_env rs name = as_env (get rs name)

-- the written name is the alias, or the command's own name where there is none
abbrev pub alias_or : Option (List ℕ) → List ℕ → List ℕ
alias_or none name = name
alias_or (some alias) name = alias

abbrev pub written_name : Rule → List ℕ → List ℕ
written_name r name = alias_or r.alias name
