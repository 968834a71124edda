-- The invariant: the ledger fits if the rows that are left do, from the length before them on.
use mathlib.Core.Path.{◌≡◌}
use Prim.Native.Nat.{◌*◌, ◌-◌, ◌≤◌}
use lib.ListN.{length, drop}
use Rattle.ledger.specs.Ledger.{row_size, all_rows_fit, fits}
use Rattle.ledger.proofs.ledger_fits.Given as goal

abbrev pub invariant-loop-i : goal.invariant-loop-i
invariant-loop-i l = (row_size * l.blocks ≤ length l.ledger) × (fits l.blocks l.kept l.ledger ≡ all_rows_fit (l.blocks - l.i) l.end l.kept (drop (row_size * l.i) l.ledger))
