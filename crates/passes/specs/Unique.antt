-- A document is open in one way only, so that what the ghost field of `OpenDocument` says has one proof.
use Rattle.std.specs.Prelude.{◌≡◌, ◌≤◌, [], List, ℕ, length}
use mathlib.Core.Path.{sym, ap, ◌∙◌}
use mathlib.Core.HLevel.{is_prop→PathP}
use mathlib.Core.List.{append-nil}
use native.Mathlib.Omega.{arith}
use Rattle.std.proofs.Props.{props}
use Rattle.mitex_spec.specs.Index.{SomeRules}
use Rattle.mitex_spec.specs.Unique.{some_rules-unique}
use Rattle.mitex_syntax.specs.Tree.{Forest, count, rows_ofs, texts_of}
use Rattle.mitex_syntax.specs.Spells.{SpellsAll}
use Rattle.mitex_syntax.specs.Once.{forest-once, length-rowss, Sounds-prop}
use Rattle.text.specs.Trailer.{file_most}
use Rattle.tree_file.specs.Layout.{blocks_most}
use Rattle.passes.specs.Passes.{Document}

spells-unique : {rows text : List ℕ} (f : Forest) → IsProp (SpellsAll f rows text)
spells-unique {rows} {text} f x y =
    let rows_prop : IsProp (rows ≡ rows_ofs f) = hlevel props in
    let text_prop : IsProp (text ≡ texts_of f) = hlevel props in
    λ i. record {
      rows_are = rows_prop x.rows_are y.rows_are i;
      text_is = text_prop x.text_is y.text_is i;
      sound = Sounds-prop f x.sound y.sound i;
    }

module _ {rules index rows text : List ℕ} {n : ℕ} where
  abbrev some_rules : Document rules index rows text n → SomeRules rules index
  some_rules x = record { rules = x.rs; ready = x.ready }

  same-blocks : (x y : Document rules index rows text n) → x.blocks ≡ y.blocks
  same-blocks x y =
      let rx = ap length x.spells.rows_are ∙ length-rowss x.blocks in
      let ry = ap length y.spells.rows_are ∙ length-rowss y.blocks in
      let tx = ap length x.spells.text_is in
      let ty = ap length y.spells.text_is in
      let few = x.few in
      let short = x.short in
      (forest-once x.blocks y.blocks [] [] [] [] (omega arith) (omega arith) (omega arith) (omega arith) (omega arith)
      (append-nil (rows_ofs x.blocks) ∙ sym x.spells.rows_are ∙ y.spells.rows_are ∙ sym (append-nil (rows_ofs y.blocks)))
      (append-nil (texts_of x.blocks) ∙ sym x.spells.text_is ∙ y.spells.text_is ∙ sym (append-nil (texts_of y.blocks)))).0

  pub document-unique : IsProp (Document rules index rows text n)
  document-unique x y =
      let r = some_rules-unique (some_rules x) (some_rules y) in
      let f = same-blocks x y in
      let count_prop : (g : Forest) → IsProp (count g ≡ n) = hlevel props in
      let most_prop : IsProp (n ≤ blocks_most) = hlevel props in
      let few_prop : IsProp (length rows ≤ file_most) = hlevel props in
      let short_prop : IsProp (length text ≤ file_most) = hlevel props in
      λ i. record {
        rs = (r i).rules;
        ready = (r i).ready;
        blocks = f i;
        spells = is_prop→PathP (λ j. SpellsAll (f j) rows text) (λ j. spells-unique (f j)) x.spells y.spells i;
        many = is_prop→PathP (λ j. count (f j) ≡ n) (λ j. count_prop (f j)) x.many y.many i;
        most = most_prop x.most y.most i;
        few = few_prop x.few y.few i;
        short = short_prop x.short y.short i;
      }
