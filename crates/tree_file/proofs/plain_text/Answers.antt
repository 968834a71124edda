-- A text of one byte has one-byte characters where that byte is one.
use mathlib.Core.Path.{sym, ap, ◌∙◌}
use mathlib.Core.Bool.{◌&&◌}
use native.Mathlib.Omega.{arith}
use lib.ListN.{drop, get_or}
use borrow.Author.Tests.{le-leb, ltb-true}
use Rattle.utf8.specs.Utf8.{one_byte_each}
use Rattle.utf8.proofs.Texts.{one-cons, one_end}
use Rattle.tree_file.proofs.plain_text.Goals as goal

pub returns-then-s-eq1 : goal.returns-then-s-eq1
returns-then-s-eq1 c =
    let s = c.args.s.now in
    let one = c.if-s-eq1.true in
    λ e.
    let low = ltb-true (get_or s 0 0) 128 (sym c.is_ascii.ensures ∙ e) in
    one-cons s 0 (omega arith) ∙ ap (λ b. b && one_byte_each (drop 1 s)) (le-leb (get_or s 0 0) 127 (omega arith)) ∙ one_end s 1 (omega arith)
