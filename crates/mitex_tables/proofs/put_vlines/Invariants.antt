-- The invariant: the lines among the letters passed are written, and n columns were (`LinesTo`).
use Rattle.mitex_tables.proofs.Letters.{LinesTo}
use Rattle.mitex_tables.proofs.put_vlines.Given as goal

abbrev pub invariant-loop-b : goal.invariant-loop-b
invariant-loop-b l = LinesTo l.initial.out l.letters l.b-index l.n l.out
