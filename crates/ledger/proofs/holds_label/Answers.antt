-- The label's bytes that count are compared whole.
use mathlib.Core.Path.{◌∙◌}
use lib.ListN.{take}
use Rattle.text.proofs.Compare.{same-is}
use Rattle.ledger.proofs.holds_label.Goals as goal

pub returns-then-converter : goal.returns-then-converter
returns-then-converter c =
    let k = c.args.converter in
    rw c.if-converter.true (c.eq.ensures ∙ same-is (take k.label_len k.label) c.args.s.now)
