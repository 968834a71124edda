-- `mitex_loops::table_act` meets its contract: begin and end first, then by whether a cell is open.
use mathlib.Core.Path.{sym, ap, ◌∙◌}
use Rattle.mitex_meaning.specs.Children.{is_ends}
use Rattle.mitex_loops.proofs.table_act.Goals as goal

pub returns-then-exterior : goal.returns-then-exterior
returns-then-exterior c =
    λ t f m.
    let ends = sym (ap is_ends m.kind) ∙ sym c.is_ends.ensures ∙ c.if-is_ends.false in
    rw (ends, c.if-exterior.true) (c.outside_act.ensures t f m)

pub returns-else-exterior : goal.returns-else-exterior
returns-else-exterior c =
    λ t f m.
    let ends = sym (ap is_ends m.kind) ∙ sym c.is_ends.ensures ∙ c.if-is_ends.false in
    rw (ends, c.if-exterior.false) (c.cell_act.ensures t f m)
