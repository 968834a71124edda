-- A scan that has come here finds from here what it finds from its start (`Scans`); the measure is the rows left.
use mathlib.Core.List.{List}
use Prim.Native.Nat.{ℕ}
use lib.ListN.{length}
use Rattle.mitex_meaning.specs.Colors.{Rest}
use Rattle.mitex_colors.specs.Scanning.{Left, picks}
use Rattle.mitex_colors.proofs.Scans.{Scans}
use Rattle.mitex_colors.proofs.seek.Given as goal

abbrev pub invariant-loop-stop : goal.invariant-loop-stop
invariant-loop-stop l =
    (tail : List ℕ) (s : Rest) → Left l.elements.rows.now l.elements.text.now tail s.elements
    → Scans (picks l.stop) l.elements.rows.now l.elements.text.now tail s l.rest.rows.now l.rest.text.now

abbrev pub decreases-loop-stop : goal.decreases-loop-stop
decreases-loop-stop l = length l.rest.rows.now
