-- The loop's invariant (`CaptionRest`): the caption so far, joined with that of the children that are left, is that of all; the measure is
-- the rows left.
use Prim.Native.Nat.{◌-◌, ◌≤◌}
use lib.ListN.{length}
use Rattle.mitex_syntax.specs.Tree.{Forest}
use Rattle.mitex_syntax.specs.Spells.{Begins}
use Rattle.mitex_environments.proofs.Captioning.{CaptionRest}
use Rattle.mitex_environments.proofs.last_caption.Given as goal

abbrev pub invariant-loop-row : goal.invariant-loop-row
invariant-loop-row l =
    record {
      low : l.row ≤ length l.children.rows.now;
      begun : l.from ≤ length l.children.text.now;
      rest : (f : Forest) → Begins f l.children.rows.now l.children.text.now → CaptionRest f l.children.rows.now l.children.text.now l.last l.row l.from;
    }

abbrev pub decreases-loop-row : goal.decreases-loop-row
decreases-loop-row l = length l.children.rows.now - l.row
