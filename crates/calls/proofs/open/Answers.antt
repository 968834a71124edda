-- `open`: a refusal of the tree file's check is that of the call (`begins-shut`); else the document is that of the files (`files-open`).
use mathlib.Core.Path.{refl, sym, ◌∙◌}
use native.Mathlib.Omega.{arith}
use lib.Seq.{length-take-le}
use Rattle.std.proofs.lemmas.Result.{err_from_is_err_and}
use Rattle.mitex_spec.proofs.Index.{checked-rules}
use Rattle.calls.proofs.Files.{mode-there, begins-shut, long, document, files-open}
use Rattle.calls.proofs.open.Goals as goal

pub returns-in_err-whole : goal.returns-in_err-whole
returns-in_err-whole c =
    let a = c.args in
    let r = checked-rules (λ i. omega (arith, c.type_inv.rules i)) (omega arith) c.check_rules.ensures c.if-not-check_rules.false in
    let p = err_from_is_err_and c.from_residual-in_err-whole.result c.from_residual-in_err-whole.ensures.1 in
    rw (p.1, p.2)
    (begins-shut a.mode a.rules.now a.tree.now (mode-there a.mode c.in_ok-mode.ensures.ok_part c.mode_of.ensures) r.ready.decodes
    (sym c.check_tree.ensures ∙ c.in_err-whole.was))

pub block_rows-requires : goal.block_rows-requires
block_rows-requires c =
    omega (arith, long c.args.tree.now (λ i. omega (arith, c.type_inv.tree i)) (sym c.check_tree.ensures ∙ c.in_ok-whole.was))

pub slice_bounds-result-end : goal.slice_bounds-result-end
slice_bounds-result-end c =
    sym
    (length-take-le _ _
    (omega (arith, long c.args.tree.now (λ i. omega (arith, c.type_inv.tree i)) (sym c.check_tree.ensures ∙ c.in_ok-whole.was))))

pub invariant_of-result : goal.invariant_of-result
invariant_of-result c =
    record { some = checked-rules (λ i. omega (arith, c.type_inv.rules i)) (omega arith) c.check_rules.ensures c.if-not-check_rules.false }

pub invariant_of-result-2 : goal.invariant_of-result-2
invariant_of-result-2 c =
    record {
      «open» =
          document c.args.tree.now (λ i. omega (arith, c.type_inv.tree i)) (sym c.check_tree.ensures ∙ c.in_ok-whole.was)
          c.block_rows.ensures refl refl
          (checked-rules (λ i. omega (arith, c.type_inv.rules i)) (omega arith) c.check_rules.ensures c.if-not-check_rules.false);
    }

pub returns : goal.returns
returns c =
    files-open c.args.tree.now (λ i. omega (arith, c.type_inv.tree i)) (sym c.check_tree.ensures ∙ c.in_ok-whole.was) _
    (mode-there c.args.mode c.in_ok-mode.ensures.ok_part c.mode_of.ensures) refl c.block_rows.ensures refl refl
