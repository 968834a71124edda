-- No row breaks a rule exactly where the rules hold throughout.
use mathlib.Core.Path.{◌≡◌, refl, sym, ap, ◌∙◌}
use mathlib.Core.Bool.{Bool, true, false}
use mathlib.Core.Option.{Option}
use mathlib.Core.Option.Option.{none as nothing, some}
use Prim.Native.Nat.{ℕ, ◌+◌}
use lib.Dec.{T}
use Rattle.mitex_syntax.specs.Tree.{Tree, Forest, size}
use Rattle.mitex_syntax.specs.Tree.Tree.{token, node}
use Rattle.mitex_syntax.specs.Tree.Forest.{none, more}
use Rattle.tree_file.specs.Shape.{sym_fits, node_fits, or_else, unless, lowest, lowests, Shaped, ShapedAll}
use Rattle.tree_file.proofs.Grow.{no-some}

-- ---- no row breaks a rule

unless-none : (b : Bool) (row : ℕ) → unless b row ≡ nothing → T b
unless-none true row e = tt
unless-none false row e = absurd (no-some (sym e))

none-unless : (b : Bool) (row : ℕ) → T b → unless b row ≡ nothing
none-unless true row h = refl
none-unless false row h = absurd h

or-none : (a b : Option ℕ) → or_else a b ≡ nothing → (a ≡ nothing) × (b ≡ nothing)
or-none nothing b e = (refl, e)
or-none (some r) b e = absurd (no-some (sym e))

mutual
  unfolding lowest Shaped

  pub lowest-shaped : (up row : ℕ) (t : Tree) → lowest up row t ≡ nothing → Shaped up t
  lowest-shaped up row (token k s) e = unless-none (sym_fits up k s) row e
  lowest-shaped up row (node k f) e =
      let w = or-none (unless (node_fits k f) row) (lowests k (row + 1) f) e in
      (unless-none (node_fits k f) row w.0, lowests-shaped k (row + 1) f w.1)

  pub lowests-shaped : (up row : ℕ) (f : Forest) → lowests up row f ≡ nothing → ShapedAll up f
  lowests-shaped up row none e = tt
  lowests-shaped up row (more t f) e =
      let w = or-none (lowest up row t) (lowests up (row + size t) f) e in
      (lowest-shaped up row t w.0, lowests-shaped up (row + size t) f w.1)

mutual
  unfolding lowest Shaped

  pub shaped-lowest : (up row : ℕ) (t : Tree) → Shaped up t → lowest up row t ≡ nothing
  shaped-lowest up row (token k s) h = none-unless (sym_fits up k s) row h
  shaped-lowest up row (node k f) h =
      ap (λ o. or_else o (lowests k (row + 1) f)) (none-unless (node_fits k f) row h.0) ∙ shaped-lowests k (row + 1) f h.1

  pub shaped-lowests : (up row : ℕ) (f : Forest) → ShapedAll up f → lowests up row f ≡ nothing
  shaped-lowests up row none h = refl
  shaped-lowests up row (more t f) h =
      ap (λ o. or_else o (lowests up (row + size t) f)) (shaped-lowest up row t h.0) ∙ shaped-lowests up (row + size t) f h.1

-- ---- elements under a node

pub shaped-under : (up k : ℕ) (f : Forest) → Shaped up (node k f) → ShapedAll k f
unfolding Shaped
shaped-under up k f h = h.1
