-- The flag and then the label are taken over: a held label is short enough (`row_at-short`).
use native.Mathlib.Omega.{arith}
use mathlib.Core.Path.{ap}
use lib.ListN.{length}
use Rattle.mitex_meaning.specs.Keeping.{label_bytes}
use Rattle.ledger.proofs.Reading.{row_at-short}
use Rattle.ledger.proofs.row_carry.Goals as goal

pub with_label-requires : goal.with_label-requires
with_label-requires c =
    omega (arith, ap (λ a. length (label_bytes a)) c.in-Some.ensures, row_at-short c.args.i c.args.ledger.now c.requires.1)
