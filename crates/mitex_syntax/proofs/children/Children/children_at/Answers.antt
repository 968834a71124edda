-- `children_at`: the part that the element's rows are after its own, and its text, spell its children (`spot-forest`).
use Rattle.mitex_syntax.proofs.Places.{spot-forest}
use Rattle.mitex_syntax.proofs.children.Children.children_at.Goals as goal

pub invariant_of-result : goal.invariant_of-result
invariant_of-result c = let pre = c.args.self.some in record { some = spot-forest c.requires pre.few pre.short }
