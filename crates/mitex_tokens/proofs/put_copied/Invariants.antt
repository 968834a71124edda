-- The invariant: how far the loop has gone (`Copied`). The measure is the rows left.
use mathlib.Core.Path.{◌≡◌}
use Prim.Native.Nat.{◌-◌, ◌≤◌}
use lib.ListN.{length}
use Rattle.mitex_meaning.specs.Outcome.{Context}
use Rattle.mitex_meaning.specs.declared.LaTeXMode.TheVariants.{Text}
use Rattle.mitex_tokens.proofs.Copying.{Copied}
use Rattle.mitex_tokens.proofs.put_copied.Given as goal

abbrev pub invariant-loop-j : goal.invariant-loop-j
invariant-loop-j l = (8 ≤ l.i) × (l.i ≤ length l.rows) × ((x : Context) → x.mode ≡ Text → Copied x l.rows l.text l.i l.j)

abbrev pub decreases-loop-j : goal.decreases-loop-j
decreases-loop-j l = length l.rows - l.i
