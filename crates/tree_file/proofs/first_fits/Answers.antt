-- The kind decides whether a rule is on what stands first, and which (`first-unruled`, `first-sym`, `first_under`).
use native.Mathlib.Omega.{arith}
use mathlib.Core.Path.{◌≡◌, sym, ap, ◌∙◌}
use Prim.Native.Nat.{◌-◌}
use Rattle.mitex_syntax.specs.Tree.{Tree, Forest}
use Rattle.mitex_syntax.specs.Tree.Tree.{node}
use Rattle.mitex_syntax.specs.Tree.Forest.{more}
use Rattle.mitex_syntax.specs.Spells.{SpellsAll, Begins}
use lib.ListN.{take, drop, get_or, length-take, length-drop}
use Rattle.mitex_syntax.proofs.Places.{some-forest}
use Rattle.tree_file.specs.Parts.{first_fits}
use Rattle.tree_file.proofs.Scanning.{first-unruled, first-sym, first_under, given-scan-head}
use Rattle.tree_file.proofs.first_fits.Goals.{After-extent-end}
use Rattle.tree_file.proofs.first_fits.Goals as goal

-- the rows under a node that has rules
under : (c : After-extent-end) (t : Tree) (f : Forest) → SpellsAll (more t f) c.args.rows.now c.args.text.now
    → let k = get_or c.args.rows.now 0 0 in
    (g : Forest) × ((t ≡ node k g) × Begins g (take (c.extent-end.result - 8) (drop 8 c.args.rows.now)) c.args.text.now)
under c t f sp =
    let few = c.requires.few in
    first_under t f sp (omega arith) (sym c.is_ruled.ensures ∙ c.if-not-is_ruled.false) c.if-k-eq-TOKEN_COMMAND_SYM.false c.extent-end.result
    c.extent-end.ensures

pub returns-then-not-is_ruled : goal.returns-then-not-is_ruled
returns-then-not-is_ruled c = λ t f sp. first-unruled t f sp (sym c.is_ruled.ensures ∙ c.if-not-is_ruled.true)

pub returns-then-k-eq-TOKEN_COMMAND_SYM : goal.returns-then-k-eq-TOKEN_COMMAND_SYM
returns-then-k-eq-TOKEN_COMMAND_SYM c = λ t f sp. c.begins_slashed.ensures ∙ first-sym t f sp c.if-k-eq-TOKEN_COMMAND_SYM.true

pub slice_bounds-children-end : goal.slice_bounds-children-end
slice_bounds-children-end c = let x = given-scan-head c.requires in omega (arith, x.first.extent, x.first.inside, c.extent-end.ensures)

pub invariant_of-children : goal.invariant_of-children
invariant_of-children c =
    let p = c.requires in
    let few = p.few in
    let short = p.short in
    let x = given-scan-head p in
    let u = under (goal.at.invariant_of-children c).After-extent-end x.tree x.others x.exact in
    record { some = some-forest u.1.1 (simp (length-take, length-drop) (omega arith)) (omega arith) }

pub returns : goal.returns
returns c =
    λ t f sp.
    let u = under (goal.at.returns c).After-extent-end t f sp in
    c.node_fits.ensures u.0 u.1.1 ∙ sym (ap first_fits u.1.0)
