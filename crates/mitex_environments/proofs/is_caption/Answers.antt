-- By the kind, and then by the name.
use mathlib.Core.Path.{◌∙◌, ap, sym}
use mathlib.Core.List.{List}
use Prim.Native.Nat.{ℕ}
use borrow.Author.Tests.{eq-eqb, ne_eqb}
use Rattle.text.specs.Compare.{same}
use Rattle.mitex_syntax.specs.Syntax.{ItemCmd}
use Rattle.mitex_syntax.specs.Tree.{kind_of}
use Rattle.mitex_syntax.specs.Views.{children_of}
use Rattle.mitex_meaning.specs.Texts.{caption_name}
use Rattle.mitex_environments.proofs.Captioning.{kind-in, taken-children}
use Rattle.mitex_environments.proofs.is_caption.Goals as goal

pub returns-then-children-child-eq-ITEM_CMD : goal.returns-then-children-child-eq-ITEM_CMD
returns-then-children-child-eq-ITEM_CMD c =
    let a = c.args in
    let pre = c.requires in
    let said = c.children_at.ensures in
    λ t sp.
    let cmd = eq-eqb (kind_of t) ItemCmd (sym (kind-in a.children.rows.now a.child sp pre.some_rows pre.end) ∙ c.if-children-child-eq-ITEM_CMD.true) in
    rw cmd
    (c.same.ensures
    ∙ ap (λ (n : List ℕ). same n caption_name) (c.name_tok.ensures (children_of t) (taken-children t pre sp said.rows said.text)))

pub returns-else-children-child-eq-ITEM_CMD : goal.returns-else-children-child-eq-ITEM_CMD
returns-else-children-child-eq-ITEM_CMD c =
    let a = c.args in
    let pre = c.requires in
    let h = c.if-children-child-eq-ITEM_CMD.false in
    λ t sp.
    let other = ne_eqb (kind_of t) ItemCmd (λ q. h (kind-in a.children.rows.now a.child sp pre.some_rows pre.end ∙ q)) in
    rw other (ne_eqb _ ItemCmd h)
