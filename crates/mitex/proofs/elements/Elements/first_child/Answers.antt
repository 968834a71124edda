-- The first of some elements is the child that a loop is given.
use Rattle.std.proofs.Common.{arith, ap, sym, drop, take, List, ℕ, ◌-◌, ◌≡◌, ◌∙◌}
use lib.Seq.{get_or-take}
use Rattle.mitex.proofs.Walking.{drop-take}
use Rattle.mitex_loops.proofs.Acting.{child-is}
use Rattle.mitex.proofs.elements.Elements.first_child.Goals as goal

pub returns-clause-child : goal.returns-clause-child
returns-clause-child c =
    let l = c.args.self.rows.now in
    let n = c.args.span.rows in
    let whole = c.children.ensures in
    let inner = c.children_at.ensures in
    let less : c.args.span.text - 0 ≡ c.args.span.text = omega arith in
    λ t f sp so. child-is _ sp (sym (get_or-take n l 0 0 (omega (arith, c.requires.some))))
    (inner.rows ∙ ap (λ (r : List ℕ). take (n - 8) (drop 8 r)) whole.rows ∙ sym (drop-take 8 n l))
    (inner.text ∙ ap (take (c.args.span.text - 0)) whole.text ∙ ap (λ (m : ℕ). take m c.args.self.text.now) less)
    so
