-- The element that stands first (`ScanHead`): what the answer for it says of all.
use native.Mathlib.Omega.{arith}
use mathlib.Core.Path.{sym, subst}
use lib.ListN.{length-take}
use lib.Seq.{length-take-le}
use Rattle.tree_file.specs.Parts.{PassSays}
use Rattle.tree_file.proofs.Shapes.{handed-on}
use Rattle.tree_file.proofs.Scanning.{Spanned, scan-head, given-scan-head, scan-head-spans, pass-whole-rows, pass-whole-text, pass-whole-spells}
use Rattle.tree_file.proofs.Scanning.{pass-whole-rest, pass-whole-breaks, pass-whole-same}
use Rattle.tree_file.proofs.pass_whole.Goals.{After-span_at-s}
use Rattle.tree_file.proofs.pass_whole.Goals as goal

spanned : (c : After-span_at-s) → Spanned c.args.rows.now c.span_at-s.result.rows c.span_at-s.result.text
spanned c = let s = c.span_at-s.ensures in record { is_e = s.rows; is_n = s.text }

pub span_at-s-requires : goal.span_at-s-requires
span_at-s-requires c = let p = c.requires.0 in let few = p.few in let short = p.short in scan-head-spans (given-scan-head p) (omega arith) (omega arith)

pub slice_bounds-check_shape-end : goal.slice_bounds-check_shape-end
slice_bounds-check_shape-end c =
    let x = given-scan-head c.requires.0 in
    sym (length-take-le _ _ (omega (arith, x.first.inside, pass-whole-rows (spanned (goal.at.slice_bounds-check_shape-end c).After-span_at-s) x)))

pub slice_bounds-check_shape-end-2 : goal.slice_bounds-check_shape-end-2
slice_bounds-check_shape-end-2 c =
    let x = given-scan-head c.requires.0 in
    sym (length-take-le _ _ (omega (arith, x.first.fits, pass-whole-text (spanned (goal.at.slice_bounds-check_shape-end-2 c).After-span_at-s) x)))

pub check_shape-requires : goal.check_shape-requires
check_shape-requires c =
    let p = c.requires.0 in
    let few = p.few in
    let short = p.short in
    let low = c.requires.1 in
    let x = given-scan-head p in
    record {
      given = record { tree = x.tree; spells = pass-whole-spells (spanned (goal.at.check_shape-requires c).After-span_at-s) x };
      few = simp length-take (omega arith);
      short = simp length-take (omega arith);
      low = simp length-take (omega arith);
    }

pub returns-in_err-check_shape : goal.returns-in_err-check_shape
returns-in_err-check_shape c =
    let at = (goal.at.returns-in_err-check_shape c).After-span_at-s in
    let p = c.requires.0 in
    let a = c.args in
    let r = c.in_err-check_shape.field-0.0 in
    subst (PassSays a.rows.now a.text.now a.row) (sym (handed-on c.from_residual.result r c.from_residual.ensures.1))
    (λ f sp. pass-whole-breaks (spanned at) (scan-head f sp p.some p.few p.short) 0 a.row c.check_shape.result c.check_shape.ensures r c.in_err-check_shape.was)

pub returns : goal.returns
returns c =
    let at = (goal.at.returns c).After-span_at-s in
    let p = c.requires.0 in
    let x = given-scan-head p in
    let er = pass-whole-rows (spanned at) x in
    let et = pass-whole-text (spanned at) x in (
      omega (arith, x.some),
      omega (arith, x.first.inside),
      omega (arith, x.first.fits),
      λ f sp.
          let y = scan-head f sp p.some p.few p.short in
          record {
            forest = y.others;
            spells = pass-whole-rest (spanned at) y;
            same = pass-whole-same (spanned at) y 0 c.args.row c.check_shape.result c.check_shape.ensures c.in_ok-check_shape.was;
          },
    )
