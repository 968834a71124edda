-- A file has one list of rules, so that what the ghost field of `Rules` says has one proof.
use Rattle.std.specs.Prelude.{◌≡◌, refl, ◌⊎◌, List, ℕ}
use Rattle.std.specs.Coded.{Coded, Coded-set, coded_ℕ, coded_list, coded×, coded⊎, code_by, prop_coded, Unit-prop}
use Rattle.std.proofs.Common.{sym, ◌∙◌, inl, inr}
use Rattle.std.proofs.Math.Option.{Option, some-injective}
use Rattle.std.proofs.Math.Option.Option.{none, some}
use mathlib.Core.HLevel.{is_prop→PathP}
use Rattle.mitex_spec.specs.Rules.{Rule, rule}
use Rattle.mitex_spec.specs.Index.{Ready, SomeRules}

module _ {A : Type 0} where
  abbrev cases : Option A → Unit {0} ⊎ A
  cases none = inl tt
  cases (some x) = inr x

  abbrev option : Unit {0} ⊎ A → Option A
  option (inl _) = none
  option (inr x) = some x

  option-cases : (o : Option A) → option (cases o) ≡ o
  option-cases none = refl
  option-cases (some x) = refl

  abbrev coded_option : Coded A → Coded (Option A)
  coded_option c = code_by (Unit {0} ⊎ A) (coded⊎ (prop_coded Unit-prop) c) cases option option-cases

abbrev coded_rule : Coded Rule
coded_rule =
    code_by (List ℕ × (Option (List ℕ) × ℕ)) (coded× (coded_list coded_ℕ) (coded× (coded_option (coded_list coded_ℕ)) coded_ℕ))
    (λ r. (r.name, (r.alias, r.class))) (λ p. rule p.0 p.1.0 p.1.1) (λ _. refl)

module _ {file index : List ℕ} where
  ready-unique : (rules : List Rule) → IsProp (Ready file index rules)
  ready-unique rules x y =
      λ i. record {
        decodes = Coded-set (coded_option (coded_list coded_rule)) _ _ x.decodes y.decodes i;
        holds = Coded-set (coded_list coded_ℕ) _ _ x.holds y.holds i;
        tabled = Coded-set (coded_list coded_ℕ) _ _ x.tabled y.tabled i;
      }

  pub some_rules-unique : IsProp (SomeRules file index)
  some_rules-unique x y =
      let e = some-injective _ _ (sym x.ready.decodes ∙ y.ready.decodes) in
      λ i. record { rules = e i; ready = is_prop→PathP (λ j. Ready file index (e j)) (λ j. ready-unique (e j)) x.ready y.ready i }
