use Rattle.std.proofs.Common.{arith}
use Rattle.mitex_syntax.proofs.Trees.{all-begins}
use Rattle.mitex.proofs.Spelt.{spelt, elements-few}
use Rattle.mitex.proofs.elements.Elements.children.Goals as goal

pub invariant_of-result : goal.invariant_of-result
invariant_of-result c =
    let e = c.args.self in
    let s = spelt e in
    record { some = record { few = elements-few e; short = e.short; low = omega arith; begun = omega arith; forest = s.forest; begins = all-begins s.spells } }
