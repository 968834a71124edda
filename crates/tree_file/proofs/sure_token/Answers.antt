-- The first four bytes as a number say that the row is a token's, and its kind (`token-stands`). A kind that no rule is on, with
-- one-byte characters, asks no more; others are tested.
use native.Mathlib.Omega.{arith}
use mathlib.Core.Path.{◌≡◌, sym, ap, ◌∙◌}
use mathlib.Core.Bool.{true, false, true≢false}
use Rattle.std.specs.Prelude.{IfSome}
use lib.Dec.{eqb, leb}
use lib.ListN.{length, take, get_or}
use borrow.Author.Tests.{ne_eqb, le-leb}
use Rattle.utf8.specs.Utf8.{one_byte_each}
use Rattle.utf8.proofs.Texts.{one-take, one-valid}
use Rattle.mitex_syntax.specs.Syntax.{TokenCommandSym}
use Rattle.mitex_syntax.specs.Spells.{token_fits}
use Rattle.tree_file.specs.Shape.{sym_fits}
use Rattle.tree_file.specs.Parts.{TokenStands}
use Rattle.tree_file.proofs.Shapes.{by-test, first-part}
use Rattle.tree_file.proofs.Surveys.{token-stands}
use Rattle.tree_file.proofs.sure_token.Goals.{In_ok-s, then-token_fits, else-token_fits}
use Rattle.tree_file.proofs.sure_token.Goals as goal

-- the token's text is the first n bytes
text_is : (c : In_ok-s) → c.in_ok-s.s.now ≡ take c.read_u32-n.result c.args.text.now
text_is c = first-part c.args.text.now c.in_ok-s.s.now c.read_u32-n.result c.in_ok-s.ensures.lookup.0.2

-- a token stands there, where kind and text fit
stands :
    (c : In_ok-s) → let s = c.in_ok-s.s.now in
    token_fits (get_or c.args.rows.now 0 0) s ≡ true → sym_fits c.args.up (get_or c.args.rows.now 0 0) s ≡ true
    → TokenStands c.args.up c.args.rows.now c.args.text.now c.read_u32-n.result
stands c fits right =
    let k = get_or c.args.rows.now 0 0 in
    token-stands c.args.rows.now (λ i. omega (arith, c.type_inv.rows i)) c.requires.0 c.args.up _ c.read_u32-n.result
    (omega (arith, c.if-head-lt-TOKEN_HEAD.false)) (omega (arith, c.if-head.false)) c.read_u32-n.ensures.0 c.in_ok-s.ensures.lookup.0.1
    (sym (ap (token_fits k) (text_is c)) ∙ fits) (sym (ap (sym_fits c.args.up k) (text_is c)) ∙ right)

pub plain_text-requires : goal.plain_text-requires
plain_text-requires c =
    λ e. ap one_byte_each (text_is (goal.at.plain_text-requires c).In_ok-s) ∙ one-take c.read_u32-n.result c.args.text.now (c.requires.1 e)

pub returns-then-plain_text : goal.returns-then-plain_text
returns-then-plain_text c =
    let s = c.in_ok-s.s.now in
    let k = get_or c.args.rows.now 0 0 in
    let free = c.is_free.ensures c.if-is_free.true in
    let long = c.in_ok-s.ensures.lookup.0.3 in
    let some : leb 1 (length s) ≡ true = le-leb 1 (length s) (omega (arith, long, c.if-n-gt0.true)) in
    let other : eqb k TokenCommandSym ≡ false = ne_eqb k TokenCommandSym (λ q. omega (arith, free.1)) in
    stands (goal.at.returns-then-plain_text c).In_ok-s (rw (free.0, some, one-valid s (c.plain_text.ensures c.if-plain_text.true))) (rw other)

pub token_fits-requires : goal.token_fits-requires
token_fits-requires c =
    λ e. ap one_byte_each (text_is (goal.at.token_fits-requires c).In_ok-s) ∙ one-take c.read_u32-n.result c.args.text.now (c.requires.1 e)

pub returns : goal.returns
returns c =
    let a = c.args in
    by-test (λ r. IfSome r (λ n. TokenStands a.up a.rows.now a.text.now n)) c.if-token_fits.then_some _ c.then_some.result c.then_some.ensures
    (λ e. elim c.if-token_fits.branch [
      | then-token_fits w ↦
          stands (goal.at.returns c).In_ok-s (sym c.token_fits.ensures ∙ w.if-token_fits.true) (sym w.sym_fits.ensures ∙ sym w.then_some-is ∙ e)
      | else-token_fits w ↦ absurd (true≢false (sym e ∙ w.then_some-is ∙ w.if-token_fits.false))
    ]) tt
