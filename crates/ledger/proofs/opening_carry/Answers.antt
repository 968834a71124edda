-- A set flag is not the first one (`opening-flagged`); else the carries are the same where no label is held (`opening-is`).
use mathlib.Core.Path.{◌∙◌}
use borrow.Author.Tests.{not-true, not-false}
use Rattle.ledger.proofs.Carries.{opening-is, opening-flagged}
use Rattle.ledger.proofs.opening_carry.Goals as goal

pub returns-then-not-converter : goal.returns-then-not-converter
returns-then-not-converter c =
    let k = c.args.converter in
    opening-is k.skip_next_space k.label_held k.label_len k.label (not-true k.skip_next_space c.if-not-converter.true)

pub returns-else-not-converter : goal.returns-else-not-converter
returns-else-not-converter c =
    c.if-not-converter.false ∙ opening-flagged _ _ (not-false c.args.converter.skip_next_space c.if-not-converter.false)
