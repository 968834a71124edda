-- The walk for shape over the children of a node: those passed break no rule, and what is left of them decides (`ShapeLoop`).
use mathlib.Core.Path.{◌≡◌, refl, sym, ap, subst, ◌∙◌}
use mathlib.Core.Bool.{true}
use mathlib.Core.List.{List}
use Prim.Native.Nat.{ℕ, ◌+◌, ◌*◌, ◌-◌, ◌/◌, ◌≤◌, ◌<◌}
use native.Mathlib.Omega.{arith}
use Rattle.std.specs.Prelude.{Result, Ok, Err, ⊤}
use lib.ListN.{length, take, drop, get_or, length-take}
use Rattle.text.proofs.Writing.{part-rest, rest-length}
use Rattle.mitex_syntax.specs.Tree.{Tree, Forest}
use Rattle.mitex_syntax.specs.Rows.{Spans}
use Rattle.mitex_syntax.specs.Views.{children_of}
use Rattle.mitex_syntax.specs.Spells.{Spells, SpellsAll}
use Rattle.mitex_syntax.proofs.Trees.{length-rowss, no-left, rows-some}
use Rattle.tree_file.specs.Shape.{node_fits, lowest, lowests}
use Rattle.tree_file.specs.Parts.{shape_of, Checkable}
use Rattle.tree_file.proofs.Shapes.{node-under, node-right}
use Rattle.tree_file.proofs.Scanning.{ScanHead, scan-head, scan-head-spans, Spanned, pass-whole-rows, pass-whole-text, pass-whole-spells, pass-whole-rest}
use Rattle.tree_file.proofs.Scanning.{pass-whole-breaks, pass-whole-same}

-- the children from l and s on are left, the first of them being row `at`
pub record ShapeWalk (t : Tree) (up row k : ℕ) (l s : List ℕ) (at : ℕ) : Type 0 where
  pub g : Forest
  pub spells : SpellsAll g l s
  pub same : lowest up row t ≡ lowests k at g

pub record ShapeLoop (rows text : List ℕ) (up row k : ℕ) (l s : List ℕ) (at : ℕ) : Type 0 where
  pub asked : Checkable rows text row
  pub past : row < at
  pub place : 8 * at + length l ≡ 8 * row + length rows
  pub begun : length s ≤ length text
  pub walk : (t : Tree) → Spells t rows text → ShapeWalk t up row k l s at

-- this is the answer for the element that the rows and the text spell
abbrev pub ShapeSays : Result ⊤ ℕ → List ℕ → List ℕ → ℕ → ℕ → Type 0
ShapeSays a rows text up row = (t : Tree) → Spells t rows text → a ≡ shape_of (lowest up row t)

pub shape-loop-start :
    {rows text : List ℕ} {up row : ℕ} → Checkable rows text row → (get_or rows 1 0 ≡ 1 → ⊥)
    → ((t : Tree) → Spells t rows text → node_fits (get_or rows 0 0) (children_of t) ≡ true)
    → ShapeLoop rows text up row (get_or rows 0 0) (take (length rows - 8) (drop 8 rows)) text (row + 1)
shape-loop-start {rows} {text} {up} {row} a mark fits =
    let h = rows-some a.given.spells in
    record {
      asked = a;
      past = omega arith;
      place = omega (arith, rest-length rows 8);
      begun = omega arith;
      walk = λ t sp. record {
        g = children_of t;
        spells = subst (λ r. SpellsAll (children_of t) r text) (sym (part-rest rows 8)) (node-under sp mark);
        same = node-right sp mark up row (node_fits (get_or rows 0 0) (children_of t)) refl (fits t sp);
      };
    }

module _ {rows text : List ℕ} {up row k : ℕ} {l s : List ℕ} {at : ℕ} (w : ShapeLoop rows text up row k l s at) where
  pub shape-loop-end : length l ≡ 0 → ShapeSays (Ok tt) rows text up row
  unfolding lowest
  shape-loop-end h t sp =
      let x = w.walk t sp in
      let e = no-left x.g x.spells.rows_are h in
      sym (ap shape_of (x.same ∙ ap (lowests k at) e))

  module _ (h : 0 < length l) where
    -- the child that stands first, of any tree that is spelt, and of the one that is given
    first_child : (t : Tree) (sp : Spells t rows text) → ScanHead (w.walk t sp).g l s
    first_child t sp =
        let x = w.walk t sp in
        let few = w.asked.few in
        let short = w.asked.short in
        let place = w.place in
        let past = w.past in
        let begun = w.begun in
        scan-head x.g x.spells (omega (arith, ap length x.spells.rows_are, length-rowss x.g)) (omega arith) (omega arith)

    here : ScanHead (w.walk w.asked.given.tree w.asked.given.spells).g l s
    here = first_child w.asked.given.tree w.asked.given.spells

    pub shape-loop-spans : Spans l 0
    shape-loop-spans =
        let few = w.asked.few in
        let short = w.asked.short in
        let place = w.place in
        let past = w.past in
        let begun = w.begun in
        scan-head-spans here (omega arith) (omega arith)

    module _ (e n : ℕ) (spanned : Spanned l e n) where
      pub child-some : 8 ≤ e
      child-some = omega (arith, pass-whole-rows spanned here, here.some)

      pub child-end : e ≤ length l
      child-end = omega (arith, pass-whole-rows spanned here, here.first.inside)

      pub child-stop : n ≤ length s
      child-stop = omega (arith, pass-whole-text spanned here, here.first.fits)

      pub child-asks : Checkable (take e l) (take n s) at
      child-asks =
          let few = w.asked.few in
          let short = w.asked.short in
          let low = w.asked.low in
          let place = w.place in
          let past = w.past in
          let begun = w.begun in
          let end = child-end in
          record {
            given = record { tree = here.tree; spells = pass-whole-spells spanned here };
            few = simp length-take (omega arith);
            short = simp length-take (omega arith);
            low = simp length-take (omega arith);
          }

      module _ (a : Result ⊤ ℕ) (says : ShapeSays a (take e l) (take n s) k at) where
        pub child-breaks : (r : ℕ) → a ≡ Err r → ShapeSays (Err r) rows text up row
        child-breaks r b t sp =
            let x = w.walk t sp in
            sym (ap shape_of (x.same ∙ pass-whole-breaks spanned (first_child t sp) k at a says r b))

        pub child-next : a ≡ Ok tt → ShapeLoop rows text up row k (take (length l - e) (drop e l)) (take (length s - n) (drop n s)) (at + e / 8)
        child-next b =
            let place = w.place in
            let past = w.past in
            let begun = w.begun in
            let end = child-end in
            let whole = pass-whole-rows spanned here in
            record {
              asked = w.asked;
              past = omega arith;
              place = omega (arith, rest-length l e);
              begun = omega (arith, rest-length s n);
              walk = λ t sp.
                  let x = w.walk t sp in
                  let y = first_child t sp in
                  record {
                    g = y.others;
                    spells = subst (λ r. SpellsAll y.others r (take (length s - n) (drop n s))) (sym (part-rest l e))
                        (subst (λ r. SpellsAll y.others (drop e l) r) (sym (part-rest s n)) (pass-whole-rest spanned y));
                    same = x.same ∙ pass-whole-same spanned y k at a says b;
                  };
            }
