-- What Convert and the changes begin with: `stand_at` may be called, the pass that stands before block k of a document is given all blocks that
-- are left (`blocks-begin`), and its walk is that of the document from block k on (`begins-as`).
use mathlib.Core.Path.{◌≡◌, ap, ◌∙◌}
use mathlib.Core.Bool.{Bool}
use mathlib.Core.List.{List}
use Prim.Native.Nat.{ℕ, ◌+◌, ◌≤◌}
use native.Mathlib.Omega.{arith}
use lib.ListN.{length, take, drop, length-drop}
use Rattle.text.specs.Writing.{cap}
use Rattle.mitex_syntax.specs.Tree.{size}
use Rattle.mitex_meaning.specs.Outcome.{Carry}
use Rattle.mitex_meaning.specs.State.{new_of, carry_of, Carried}
use Rattle.mitex_meaning.specs.declared.LaTeXMode.{LaTeXMode}
use Rattle.mitex_meaning.specs.declared.Converter.{Converter}
use Rattle.edit_meaning.specs.Walk.{rows_all}
use Rattle.manuscript.specs.Manuscript.{listed, blocks_in}
use Rattle.manuscript.proofs.Manuscript.{listed-count}
use Rattle.passes.specs.Passes.{Document, Outside, BlocksUpTo, SomeBlocks, Stood, row_no, converter_of, walk_by}
use Rattle.passes.specs.declared.Standing.{Standing}

module _ {rules index rows text : List ℕ} {n : ℕ} (w : Document rules index rows text n) where
  pub some-blocks : (k : ℕ) → k ≤ n → SomeBlocks rows k
  some-blocks k h =
      record {
        blocks = w.blocks;
        text = text;
        spells = w.spells;
        many = omega (arith, w.many);
        few = w.few;
        short = w.short;
      }

  -- the pass stands before block k, with a converter in the mode m and the carry d
  module _ {m : LaTeXMode} {d : Carry} {k at : ℕ} {c : Converter} {from : Standing} (st : Stood w.blocks rows text k at c from)
      (car : Carried (new_of m) d c) where
    pub outside : Outside from.converter
    outside =
        let e = st.gives in
        record {
          env = ap (λ x. x.env) e ∙ car.env;
          indent = ap (λ x. x.indent) e ∙ car.indent;
          label = omega (arith, ap (λ x. x.label_len) e, car.short (omega arith));
        }

    pub count_left : k ≤ n → k + length (listed st.left) ≡ n
    count_left h = omega (arith, ap length st.are, length-drop k (listed w.blocks), listed-count w.blocks, w.many)

    abbrev pub blocks-begin : at ≤ cap → k ≤ n → BlocksUpTo rules index rows text from n
    blocks-begin low h =
        record {
          given = record {
            rs = w.rs;
            ready = w.ready;
            blocks = st.left;
            spells = st.spells;
            low = st.low;
            begun = st.begun;
            few = w.few;
            short = w.short;
            place = omega (arith, st.next);
            outside = outside;
          };
          many = omega (arith, st.block, listed-count st.left, count_left h);
          few = w.most;
        }

    pub begins-carry : carry_of from.converter ≡ d
    begins-carry = ap carry_of st.gives ∙ car.carry

    pub begins-as :
        (low : at ≤ cap) (h : k ≤ n) (edits : Bool) (ds : List Carry)
        → walk_by (converter_of (blocks-begin low h).given) edits (carry_of from.converter) (row_no from) (listed st.left) ds
        ≡ walk_by (blocks_in m w.rs) edits d (1 + rows_all size (take k (listed w.blocks))) (drop k (listed w.blocks)) ds
    begins-as low h edits ds =
        let e = st.gives in
        let mode : from.converter.mode ≡ m = ap (λ x. x.mode) e ∙ car.mode in
        λ i. walk_by (blocks_in (mode i) w.rs) edits (begins-carry i) (st.row i) (st.are i) ds
