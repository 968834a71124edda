-- `carry_before`: the first carry before block 0, else that of the row before.
use mathlib.Core.Path.{◌≡◌, sym, ap, subst, ◌∙◌}
use mathlib.Core.List.{List}
use Prim.Native.Nat.{ℕ, suc, ◌≤◌}
use native.Mathlib.Omega.{arith}
use Rattle.mitex_meaning.specs.Outcome.{Carry}
use Rattle.mitex_meaning.specs.State.{new_of, Carried}
use Rattle.mitex_meaning.specs.declared.Converter.{Converter}
use Rattle.mitex_meaning.proofs.Holding.{opening-says, carry-says}
use Rattle.ledger.specs.Ledger.{RowFits, row_at, decode_rows}
use Rattle.ledger.proofs.Reading.{row_at-short}
use Rattle.edit_meaning.specs.Edit.{carry_before}
use Rattle.edit_meaning.proofs.Bytes.{carry_before-at}
use Rattle.passes.proofs.carry_before.Goals as goal

row_before : (k last n : ℕ) (l : List ℕ) → suc last ≡ k → k ≤ n → (row_at last l).carry ≡ carry_before k (decode_rows n l)
row_before k last n l e h = sym (carry_before-at n last l (omega arith)) ∙ ap (λ j. carry_before j (decode_rows n l)) e

-- one carry after the other
carried_on : {c c₁ r : Converter} {d e : Carry} → Carried c d c₁ → Carried c₁ e r → Carried c e r
carried_on a b =
    record {
      mode = b.mode ∙ a.mode;
      env = b.env ∙ a.env;
      indent = b.indent ∙ a.indent;
      carry = b.carry;
      short = λ h. b.short (a.short h);
    }

pub returns-in-Some : goal.returns-in-Some
returns-in-Some c n h =
    let last = c.in-Some.ensures in
    let l = c.args.ledger.now in
    let fits : RowFits c.in-Some.last l = subst (λ (i : ℕ). RowFits i l) (omega arith) (c.requires (omega arith)) in
    subst (λ (e : Carry). Carried (new_of c.args.mode) e c.row_carry.result) (row_before c.args.k c.in-Some.last n l (omega arith) h)
    (carried_on (opening-says c.opening-opening.ensures)
    (carry-says c.opening-opening.result _ (row_at-short c.in-Some.last l fits.1) c.row_carry.ensures))
