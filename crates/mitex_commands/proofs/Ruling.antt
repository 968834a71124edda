-- What a command comes to once its name and its rule are known.
use mathlib.Core.Path.{◌≡◌, sym, ap, ◌∙◌}
use mathlib.Core.Option.{Option}
use mathlib.Core.List.{List}
use Prim.Native.Nat.{ℕ}
use lib.ListN.{drop}
use Rattle.std.specs.Prelude.{Option as Maybe, Some, None}
use Rattle.mitex_spec.specs.Rules.{Rule, alias_or}
use Rattle.mitex_spec.specs.LookUp.{alias_of, rule_of}
use Rattle.mitex_spec.specs.declared.rules.Found.{Found}
use Rattle.mitex_syntax.specs.Tree.{Forest}
use Rattle.mitex_syntax.specs.Views.{cmd_name}
use Rattle.mitex_meaning.specs.Outcome.{Context, Carry, Conv}
use Rattle.mitex_meaning.specs.Outcome.Outcome.{refused}
use Rattle.mitex_meaning.specs.Commands.{typst_name, written_as, normal_by, command_of, command_by, command}
use Rattle.mitex_meaning.specs.declared.Command.{Command}

-- ---- by name

pub command-is :
    (conv : Conv) (x : Context) (f : Forest) (c : Carry) (name : List ℕ) (k : Command) → name ≡ drop 1 (cmd_name f) → command_of name ≡ k
    → command conv x f c ≡ command_by k name conv x f c
command-is conv x f c name k h e =
    ap (λ (s : List ℕ). command_by (command_of s) s conv x f c) (sym h) ∙ ap (λ (j : Command). command_by j name conv x f c) e

-- ---- by rule

module _ (o : Option Rule) (name : List ℕ) (conv : Conv) (x : Context) (f : Forest) (c : Carry) {r : Maybe Found} where
  pub normal-absent : rule_of name r ≡ o → r ≡ None → normal_by o name conv x f c ≡ refused 9 0
  normal-absent e h =
      ap (λ (p : Option Rule). normal_by p name conv x f c) (sym e) ∙ ap (λ (q : Maybe Found). normal_by (rule_of name q) name conv x f c) h

  pub normal-found :
      (found : Found) (w : List ℕ) → rule_of name r ≡ o → r ≡ Some found → w ≡ alias_or (alias_of found) name
      → normal_by o name conv x f c ≡ written_as found.class (typst_name x.mode name w) conv x f c
  normal-found found w e h i =
      ap (λ (p : Option Rule). normal_by p name conv x f c) (sym e)
      ∙ ap (λ (q : Maybe Found). normal_by (rule_of name q) name conv x f c) h
      ∙ ap (λ (s : List ℕ). written_as found.class (typst_name x.mode name s) conv x f c) (sym i)
