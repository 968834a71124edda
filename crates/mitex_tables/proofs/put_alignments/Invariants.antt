-- The invariant: what stands for the letters passed is written (`alignments-more`).
use Rattle.std.proofs.Common.{take}
use Rattle.text.specs.Outputs.{Puts}
use Rattle.mitex_meaning.specs.Tables.{alignments}
use Rattle.mitex_tables.proofs.put_alignments.Given as goal

abbrev pub invariant-loop-b : goal.invariant-loop-b
invariant-loop-b l = Puts l.initial.out (alignments (take l.b-index l.letters)) l.out
