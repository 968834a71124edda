-- The rows are lines, or not; then what is known of their nesting tells which part answers.
use native.Mathlib.Omega.{arith}
use mathlib.Core.Path.{◌≡◌, sym, ap, subst, ◌∙◌}
use Prim.Native.Nat.{ℕ, ◌*◌}
use lib.ListN.{length}
use Rattle.tree_file.specs.Layout.{grow}
use Rattle.tree_file.specs.Depth.{depth_most}
use Rattle.tree_file.specs.Parts.{Nested, answer_to}
use Rattle.std.specs.Prelude.{Result, Ok, Err, ⊤}
use Rattle.tree_file.specs.declared.Unnested.{Unnested}
use Rattle.tree_file.specs.declared.Unnested.TheVariants.{Broken, Deep}
use Rattle.tree_file.specs.Check.{refuses}
use Rattle.tree_file.proofs.Answers.{Lined, lined, answer-lines, grown}
use Rattle.tree_file.proofs.check_areas.Goals.{After-check_rows}
use Rattle.tree_file.proofs.check_areas.Goals as goal

-- the rows are lines
lined-here : (c : After-check_rows) (n : ℕ) → length c.args.rows.now ≡ 8 * n → Lined n c.args.rows.now c.args.text.now
lined-here c n e = lined n _ _ (λ i. omega (arith, c.type_inv.rows i)) e c.lines_fit.result (c.lines_fit.ensures n e) c.if-not-lines_fit.false

-- and nest, or not
nested : (c : After-check_rows) (x : Result ⊤ Unnested) → c.check_rows.result ≡ x → (n : ℕ) (e : length c.args.rows.now ≡ 8 * n)
    → Nested (grow (lined-here c n e).ls) depth_most x
nested c x told n e =
    let w = lined-here c n e in
    subst (Nested (grow w.ls) depth_most) told (c.check_rows.ensures w.ls w.read.rows_are w.read.fit)

pub check_deep-requires : goal.check_deep-requires
check_deep-requires c =
    let p = c.requires in
    let w = lined-here (goal.at.check_deep-requires c).After-check_rows p.many p.so_many in
    record { ls = w.ls; spelt = w.read.rows_are; fit = w.read.fit; few = p.few }

pub check_root-requires : goal.check_root-requires
check_root-requires c =
    let called = (goal.at.check_root-requires c).After-check_rows in
    let p = c.requires in
    let w = lined-here called p.many p.so_many in
    let v = nested called (Ok tt) c.in-Ok.is p.many p.so_many in
    record { forest = v.0; spells = grown w.ls v.0 w.read v.1.0; low = v.1.1; few = p.few; short = p.short }

pub returns-in-Err-Broken : goal.returns-in-Err-Broken
returns-in-Err-Broken c =
    let called = (goal.at.returns-in-Err-Broken c).After-check_rows in
    let told = c.in-Err-Broken.is ∙ ap Err c.in-Err-Broken.field-0-is in
    λ n e. ap Err c.no_row-in-Err-Broken.ensures ∙ answer-lines (lined-here called n e) (refuses 3 0) (sym (ap answer_to (nested called (Err Broken) told n e)))

pub returns-in-Err-Deep : goal.returns-in-Err-Deep
returns-in-Err-Deep c =
    let called = (goal.at.returns-in-Err-Deep c).After-check_rows in
    let told = c.in-Err-Deep.is ∙ ap Err c.in-Err-Deep.field-0-is in
    λ n e.
    let w = lined-here called n e in
    answer-lines w (Err c.check_deep.result) (c.check_deep.ensures w.ls w.read.rows_are w.read.fit (nested called (Err Deep) told n e))

pub returns-in-Ok : goal.returns-in-Ok
returns-in-Ok c =
    let called = (goal.at.returns-in-Ok c).After-check_rows in
    λ n e.
    let w = lined-here called n e in
    let v = nested called (Ok tt) c.in-Ok.is n e in
    answer-lines w c.check_root.result (c.check_root.ensures v.0 (grown w.ls v.0 w.read v.1.0) v.1.1 ∙ sym (ap answer_to v.1.0))
