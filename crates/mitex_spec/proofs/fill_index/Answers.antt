use mathlib.Core.Path.{◌∙◌, ap}
use native.Mathlib.Omega.{arith}
use lib.ListN.{length, length-append}
use Rattle.mitex_spec.proofs.Checking.{filled_next, filled-end}
use Rattle.mitex_spec.proofs.fill_index.Goals as goal

pub loop-k-preserved : goal.loop-k-preserved
loop-k-preserved c =
    let loop = c.loop-k in
    let turn = c.in-Some.ensures.steps in
    let count = turn.2 in
    let short = turn.0.1.1 ∙ loop.invariant.0 in
    let rows = ap length turn.0.1.0 ∙ length-append c.in-Some.row.now c.next.new.self.iter.rest.now in
    let small = loop.invariant.1 in
    let left = loop.invariant.2 in (
      turn.0.0 ∙ loop.invariant.0,
      (let t = c.rule_taken-at.ensures.1 in omega arith),
      omega arith,
      λ n e.
          filled_next (loop.invariant.3 n e) _ _ turn.0.1.0 short _ _ _ _ turn.1 count c.store.ensures c.rule_taken-at.ensures.0,
    )

pub returns : goal.returns
returns c =
    λ n e. filled-end (c.loop-k.invariant.3 n e) (let h = c.in-None.ensures.steps.0.1.0 in let q = c.loop-k.invariant.0 in omega arith)
