-- The tests are made in the definition's order.
use native.Mathlib.Omega.{arith}
use mathlib.Core.Path.{sym}
use Rattle.text.proofs.Trailer.{trailed-not, trailed-by}
use Rattle.text.proofs.trailed.Goals as goal

pub returns-then-file-lt8 : goal.returns-then-file-lt8
returns-then-file-lt8 c = sym (trailed-not c.args.file.now (λ w. omega (arith, w.long, c.if-file-lt8.true)))

pub returns-then-file-gt-FILE_MOST : goal.returns-then-file-gt-FILE_MOST
returns-then-file-gt-FILE_MOST c = sym (trailed-not c.args.file.now (λ w. omega (arith, w.short, c.if-file-gt-FILE_MOST.true)))

pub returns : goal.returns
returns c =
    trailed-by c.args.file.now _ _ c.if-file-lt8.false c.if-file-gt-FILE_MOST.false c.start_of.ensures.0 c.count_of.ensures.0
