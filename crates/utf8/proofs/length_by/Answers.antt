-- The chart has the lengths of the rule (`chart-right`), so the entry at the byte's line and column is the byte's.
use mathlib.Core.Path.{sym, ap, ◌∙◌, subst}
use Prim.Native.Nat.{ℕ, ◌<◌}
use borrow.Author.Rules.{rules}
use Rattle.utf8.specs.Utf8.{length_by}
use Rattle.utf8.proofs.Chart.{chart-right}
use Rattle.utf8.proofs.length_by.Goals as goal

pub returns : goal.returns
returns c =
    let i = c.from-i in
    chart-right i.result (subst (λ (k : ℕ). k < 256) (sym i.ensures) (search rules)) ∙ ap length_by i.ensures
