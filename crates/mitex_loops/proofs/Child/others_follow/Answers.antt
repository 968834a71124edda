-- `mitex_loops::Child::others_follow` meets its contract: the element at i, of those that are left behind the child.
use mathlib.Core.Path.{sym}
use native.Mathlib.Omega.{arith}
use Rattle.mitex_loops.proofs.Others.{hop-start, hop-end, hops}
use Rattle.mitex_loops.proofs.Child.others_follow.Goals as goal

pub loop-i-init : goal.loop-i-init
loop-i-init c = (omega arith, λ f e. hop-start f e)

pub returns-then-behind-i-ne-CLAUSE_COMMAND_NAME : goal.returns-then-behind-i-ne-CLAUSE_COMMAND_NAME
returns-then-behind-i-ne-CLAUSE_COMMAND_NAME c =
    λ t f m.
    sym ((hops (c.loop-i.invariant.1 f m.others) c.loop-i-test.true c.requires.few).stops c.if-behind-i-ne-CLAUSE_COMMAND_NAME.true)

-- the element at i, of some elements that are spelt
pub extent-i-requires : goal.extent-i-requires
extent-i-requires c =
    let h = hops (c.loop-i.invariant.1 c.requires.others.forest c.requires.others.rows_are) c.loop-i-test.true c.requires.few in
    let z = h.inside in let y = h.some in omega arith

pub overflow_add-i : goal.overflow_add-i
overflow_add-i c =
    let h = hops (c.loop-i.invariant.1 c.requires.others.forest c.requires.others.rows_are) c.loop-i-test.true c.requires.few in
    let z = h.inside in let y = c.extent-i.ensures in let x = c.requires.few in omega arith

pub loop-i-preserved : goal.loop-i-preserved
loop-i-preserved c =
    let h = hops (c.loop-i.invariant.1 c.requires.others.forest c.requires.others.rows_are) c.loop-i-test.true c.requires.few in
    let z = h.inside in let y = c.extent-i.ensures in
    (omega arith, λ f e. rw c.extent-i.ensures ((hops (c.loop-i.invariant.1 f e) c.loop-i-test.true c.requires.few).over c.if-behind-i-ne-CLAUSE_COMMAND_NAME.false))

pub returns : goal.returns
returns c = λ t f m. sym (hop-end (c.loop-i.invariant.1 f m.others) c.loop-i-test.false)
