-- `mitex_loops::figure_act` meets its contract: begin and end first, then by the name.
use mathlib.Core.Path.{◌≡◌, sym, ap, ◌∙◌}
use mathlib.Core.Bool.{Bool, true, false}
use Prim.Native.Nat.{ℕ}
use native.Mathlib.Omega.{arith}
use Rattle.mitex_meaning.specs.Children.{is_ends}
use Rattle.mitex_loops.proofs.figure_act.Goals as goal
use Rattle.mitex_loops.proofs.figure_act.Goals.{then-is_ends, else-is_ends}

pub returns-then-is_named : goal.returns-then-is_named
returns-then-is_named c =
    λ t f m.
    let kind = sym (ap is_ends m.kind) ∙ sym c.is_ends.ensures in
    elim c.if-is_ends.branch [
      | then-is_ends w ↦ rw (kind ∙ w.if-is_ends.true)
      | else-is_ends w ↦ rw (kind ∙ w.if-is_ends.false, sym (w.is_named.ensures t f m) ∙ sym w.value-is ∙ c.if-is_named.true)
    ]

pub returns-else-is_named : goal.returns-else-is_named
returns-else-is_named c =
    λ t f m.
    let kind = sym (ap is_ends m.kind) ∙ sym c.is_ends.ensures in
    elim c.if-is_ends.branch [
      | then-is_ends w ↦ let z : ◌≡◌ {A = Bool} true false = sym w.if-is_ends.true ∙ sym w.value-is ∙ c.if-is_named.false in let y : ◌≡◌ {A = ℕ} 0 1 = cc in absurd (omega arith)
      | else-is_ends w ↦ rw (kind ∙ w.if-is_ends.false, sym (w.is_named.ensures t f m) ∙ sym w.value-is ∙ c.if-is_named.false)
    ]
