-- Rows and text spell elements side by side in one way only: so an `Elements` says which they are.
use mathlib.Core.Path.{◌≡◌, sym, ap, subst, ◌∙◌}
use mathlib.Core.List.{List, [], append-nil}
use mathlib.Core.Logic.{∥∥₁_elim}
use Prim.Native.Nat.{ℕ, ◌<◌}
use native.Mathlib.Omega.{arith}
use lib.ListN.{length}
use Rattle.std.specs.Coded.{Coded-set, coded_ℕ, coded_list}
use Rattle.text.specs.Writing.{cap}
use Rattle.mitex_syntax.specs.Tree.{Forest, rows_ofs, texts_of}
use Rattle.mitex_syntax.specs.Spells.{SpellsAll}
use Rattle.mitex_syntax.specs.Once.{forest-once, Sounds-prop}
use Rattle.mitex.specs.Walks.{Siblings}
use Rattle.mitex.specs.declared.elements.Elements.{Elements}
use Rattle.mitex_syntax.proofs.Trees.{length-rowss}

SpellsAll-prop : (f : Forest) (rows text : List ℕ) → IsProp (SpellsAll f rows text)
SpellsAll-prop f rows text a b =
    λ i. record {
      rows_are = Coded-set (coded_list coded_ℕ) rows (rows_ofs f) a.rows_are b.rows_are i;
      text_is = Coded-set (coded_list coded_ℕ) text (texts_of f) a.text_is b.text_is i;
      sound = Sounds-prop f a.sound b.sound i;
    }

same-forest : {f g : Forest} {rows text : List ℕ} → length rows < cap → length text < cap → SpellsAll f rows text → SpellsAll g rows text → f ≡ g
same-forest {f} {g} few short x y =
    let rx = ap length x.rows_are ∙ length-rowss f in
    let ry = ap length y.rows_are ∙ length-rowss g in
    let tx = ap length x.text_is in
    let ty = ap length y.text_is in
    (forest-once f g [] [] [] [] (omega arith) (omega arith) (omega arith) (omega arith) (omega arith)
    (append-nil (rows_ofs f) ∙ sym x.rows_are ∙ y.rows_are ∙ sym (append-nil (rows_ofs g)))
    (append-nil (texts_of f) ∙ sym x.text_is ∙ y.text_is ∙ sym (append-nil (texts_of g)))).0

Siblings-prop : {rows text : List ℕ} → length rows < cap → length text < cap → IsProp (Siblings rows text)
Siblings-prop {rows} {text} few short a b =
    subst (λ (h : Forest). (q : SpellsAll h rows text) → a ≡ record { forest = h; spells = q })
    (same-forest few short a.spells b.spells)
    (λ q. ap (λ (s : SpellsAll a.forest rows text). record { forest = a.forest; spells = s }) (SpellsAll-prop a.forest rows text a.spells q))
    b.spells

pub elements-few : (e : Elements) → length e.rows.now < cap
elements-few e = omega (arith, e.low)

pub spelt : (e : Elements) → Siblings e.rows.now e.text.now
spelt e = ∥∥₁_elim e.spelt (Siblings-prop (elements-few e) e.short) (λ s. s)
