-- Only the rule at the rank can have the name (`get-past`, `get-same`, `get_other`).
use mathlib.Core.Path.{◌≡◌, sym, ap, ◌∙◌}
use mathlib.Core.Option.Option.{some}
use Prim.Native.Nat.{ℕ, ◌<◌}
use native.Mathlib.Omega.{arith}
use Rattle.text.specs.Trailer.{count_of}
use Rattle.text.specs.Compare.{same}
use Rattle.text.proofs.Compare.{same-is, same_true}
use Rattle.mitex_spec.specs.Index.{SomeRule, SomeRules}
use Rattle.mitex_spec.specs.LookUp.{rule_found}
use Rattle.mitex_spec.proofs.RuleFile.{rules-tested}
use Rattle.mitex_spec.proofs.Index.{ready-numbered}
use Rattle.mitex_spec.proofs.LookUp.{rules-counted, get-past, get-same, get_other}
use Rattle.mitex_spec.proofs.rules.Rules.get.Goals.{else-k-count_of-via-then-k-count_of+else-eq, else-k-count_of-via-else-k-count_of}
use Rattle.mitex_spec.proofs.rules.Rules.get.Goals as goal

-- the rank is a rule's number
few : {file index : _} (s : SomeRules file index) → (n k : ℕ) → n ≡ count_of file → k < n → SomeRule file index k
few {file} s n k e h =
    let q = (rules-counted file s.rules s.ready.decodes).0 in
    record { numbered = ready-numbered s; few = omega arith }

pub count_of-requires : goal.count_of-requires
count_of-requires c = (rules-tested _ _ c.args.self.some.ready.decodes).long

pub name_at-requires : goal.name_at-requires
name_at-requires c = few c.args.self.some c.count_of.result c.rank-k.result c.count_of.ensures.0 c.if-k-count_of.true

pub rule_at-requires : goal.rule_at-requires
rule_at-requires c = few c.args.self.some c.count_of.result c.rank-k.result c.count_of.ensures.0 c.if-k-count_of.true

pub returns-then-eq-clause-answers : goal.returns-then-eq-clause-answers
returns-then-eq-clause-answers c =
    λ rs e.
    let d = rules-counted c.args.self.file.now rs e in
    let q = d.0 in
    let n = c.count_of.ensures.0 in
    let k = c.if-k-count_of.true in
    let t = ap (λ x. same x c.args.name.now) (sym (c.name_at.ensures rs e)) ∙ sym (c.eq.ensures ∙ same-is c.name_at.result.now c.args.name.now) ∙ c.if-eq.true in
    ap some (ap (λ x. rule_found x c.rule_at.result) (sym (same_true _ _ t)) ∙ c.rule_at.ensures.rule rs e)
    ∙ sym (get-same rs c.args.name.now c.rank-k.result d.1 (c.rank-k.ensures rs e) (omega arith) t)

pub returns-else-k-count_of-clause-answers : goal.returns-else-k-count_of-clause-answers
returns-else-k-count_of-clause-answers c =
    λ rs e.
    let d = rules-counted c.args.self.file.now rs e in
    let q = d.0 in
    let n = c.count_of.ensures.0 in
    sym
    (elim c.else-k-count_of.branch [
      | else-k-count_of-via-then-k-count_of+else-eq w ↦
          let k = w.if-k-count_of.true in
          let t = ap (λ x. same x c.args.name.now) (sym (w.name_at.ensures rs e)) ∙ sym (w.eq.ensures ∙ same-is w.name_at.result.now c.args.name.now) ∙ w.if-eq.false in
          get_other rs c.args.name.now c.rank-k.result d.1 (c.rank-k.ensures rs e) (omega arith) t
      | else-k-count_of-via-else-k-count_of w ↦
          let k = w.if-k-count_of.false in
          get-past rs c.args.name.now c.rank-k.result d.1 (c.rank-k.ensures rs e) (omega arith)
    ])
