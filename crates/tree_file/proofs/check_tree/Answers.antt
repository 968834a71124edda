-- The trailer decides, then the areas that it points at.
use native.Mathlib.Omega.{arith}
use mathlib.Core.Path.{sym, ap, ◌∙◌}
use Rattle.std.specs.Prelude.{Err}
use lib.ListN.{length}
use Prim.Native.Nat.{◌-◌, ◌≤◌}
use Rattle.text.specs.Trailer.{count_of}
use Rattle.text.proofs.Trailer.{Trailed, trailed-says, start-inside, part-text, part-many}
use Rattle.tree_file.proofs.Answers.{check-not, check-is}
use Rattle.tree_file.proofs.check_tree.Goals.{After-start_of-start, Else-not-trailed}
use Rattle.tree_file.proofs.check_tree.Goals as goal

whole : (c : Else-not-trailed) → Trailed c.args.file.now
whole c = trailed-says c.args.file.now (sym c.trailed.ensures ∙ c.if-not-trailed.false)

inside : (c : After-start_of-start) → c.start_of-start.result ≤ length c.args.file.now - 8
inside c =
    start-inside c.args.file.now (trailed-says c.args.file.now (sym c.trailed.ensures ∙ c.if-not-trailed.false)) c.start_of-start.result c.start_of-start.ensures.0

pub returns-then-not-trailed : goal.returns-then-not-trailed
returns-then-not-trailed c = ap Err c.no_row.ensures ∙ check-not c.args.file.now (sym c.trailed.ensures ∙ c.if-not-trailed.true)

pub check_quickly-requires : goal.check_quickly-requires
check_quickly-requires c =
    let file = c.args.file.now in
    let w = whole (goal.at.check_quickly-requires c).Else-not-trailed in
    let rows = part-many file w c.start_of-start.result c.start_of-start.ensures.0 in
    let text = part-text file w c.start_of-start.result c.start_of-start.ensures.0 in
    let low = inside (goal.at.check_quickly-requires c).After-start_of-start in
    record { many = count_of file; so_many = rows; few = omega (arith, w.short, w.sum); short = omega (arith, w.short) }

pub returns : goal.returns
returns c =
    check-is c.args.file.now (whole (goal.at.returns c).Else-not-trailed) c.start_of-start.result c.start_of-start.ensures.0 c.check_quickly.result c.check_quickly.ensures
