use native.Mathlib.Omega.{arith}
use Rattle.mitex_spec.proofs.Firsts.{tabled-next, tabled-end, firsts-most}
use Rattle.mitex_spec.proofs.Index.{rules-few}
use Rattle.mitex_spec.proofs.fill_firsts.Goals as goal

pub store-requires : goal.store-requires
store-requires c =
    let s = c.requires in
    let most = firsts-most c.loop-b.b s.rules in
    let n = rules-few c.args.file.now s.rules (λ i. omega (arith, c.type_inv.file i)) s.decodes in
    let q = c.firsts_below-k.ensures s.rules s.decodes in
    omega arith

pub loop-b-preserved : goal.loop-b-preserved
loop-b-preserved c =
    let found = c.firsts_below-k in
    λ rs e.
    let n = rules-few c.args.file.now rs (λ i. omega (arith, c.type_inv.file i)) e in
    tabled-next (c.loop-b.invariant rs e) _ found.result c.loop-b-test.true (omega arith) (found.ensures rs e) c.store.ensures

pub returns : goal.returns
returns c = λ rs e. tabled-end (c.loop-b.invariant rs e) c.loop-b-test.false
