-- What stands first breaks a rule itself, or what is left decides (`scan-head-breaks`, `scan-head-opened`).
use native.Mathlib.Omega.{arith}
use mathlib.Core.Path.{sym, ap, subst, ◌∙◌}
use mathlib.Core.Option.Option.{some}
use Rattle.tree_file.specs.Parts.{PassSays}
use Rattle.tree_file.proofs.Shapes.{handed-on, unless-breaks, unless-right}
use Rattle.tree_file.proofs.Scanning.{scan-head, given-scan-head, scan-head-breaks, scan-head-opened, scan-head-room}
use Rattle.tree_file.proofs.pass_row.Goals as goal

pub returns-in_err-unless : goal.returns-in_err-unless
returns-in_err-unless c =
    let p = c.requires.0 in
    let a = c.args in
    let fits = c.first_fits in
    let r = c.in_err-unless.field-0.0 in
    let q = unless-breaks fits.result a.row r c.unless.result c.unless.ensures c.in_err-unless.was in
    subst (PassSays a.rows.now a.text.now a.row) (sym (handed-on c.from_residual.result r c.from_residual.ensures.1))
    (λ f sp.
    let x = scan-head f sp p.some p.few p.short in
    scan-head-breaks x a.row fits.result (fits.ensures x.tree x.others x.exact) q.0 ∙ ap some q.1)

pub returns : goal.returns
returns c =
    let p = c.requires.0 in
    let few = p.few in
    let short = p.short in
    let fits = c.first_fits in
    let fine = unless-right fits.result c.args.row c.unless.result c.unless.ensures c.in_ok-unless.was in (
      omega arith,
      omega (arith, p.some),
      omega (arith, scan-head-room (given-scan-head p) (omega arith), c.token_len.ensures),
      λ f sp.
          let x = scan-head f sp p.some p.few p.short in
          scan-head-opened x (omega arith) _ (sym c.is_frame.ensures ∙ c.if-is_frame.false) fits.result (fits.ensures x.tree x.others x.exact)
          fine c.token_len.result c.token_len.ensures,
    )
