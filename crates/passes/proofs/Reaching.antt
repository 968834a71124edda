-- Blocks passed by their rows alone: the blocks from k on are spelt by the rows from byte i and the text from byte j on, in one forest
-- (`Reached`), and in whatever forest the rows spell (`Reaches`).
use mathlib.Core.Path.{◌≡◌, refl, sym, ap, subst, ◌∙◌}
use mathlib.Core.List.{List, [], ◌∷◌, ◌++◌}
use Prim.Native.Nat.{ℕ, ◌+◌, ◌≤◌, ◌<◌}
use native.Mathlib.Omega.{arith}
use lib.ListN.{length, take, drop, length-drop}
use lib.Seq.{drop-drop, take-add}
use Rattle.mitex_syntax.specs.Tree.{Tree, Forest, size, sizes, count}
use Rattle.mitex_syntax.specs.Tree.Forest.{none, more}
use Rattle.mitex_syntax.specs.Spells.{SpellsAll}
use Rattle.mitex_syntax.specs.Rows.{extent_of, token_sum, Spans}
use Rattle.mitex_syntax.proofs.Trees.{ElementAt, element, all-begins, spans, rows-e, text-n, past-exact, length-rowss, size-some, size-more}
use Rattle.text.specs.Trailer.{file_most}
use Rattle.mitex_meaning.specs.declared.Converter.{Converter}
use Rattle.edit_meaning.specs.Walk.{rows_all}
use Rattle.manuscript.specs.Manuscript.{listed}
use Rattle.manuscript.proofs.Manuscript.{listed-count}
use Rattle.passes.specs.Passes.{SomeBlocks, Reached, Reaches, StandsBefore}
use Rattle.passes.specs.declared.Standing.{Standing}

-- ---- counting blocks and their rows

-- each block has a row or more
pub count-sizes : (f : Forest) → count f ≤ sizes f
unfolding count
count-sizes none = omega arith
count-sizes (more t f) = omega (arith, count-sizes f, size-some t, size-more t f)

rows_all-append : (xs ys : List Tree) → rows_all size (xs ++ ys) ≡ rows_all size xs + rows_all size ys
rows_all-append [] ys = omega arith
rows_all-append (x ∷ xs) ys = omega (arith, rows_all-append xs ys)

-- ---- before block k of a forest

pub reached-start : {blocks : Forest} {rows text : List ℕ} → SpellsAll blocks rows text → Reached blocks rows text 0 0 0
reached-start {blocks} sp = record { left = blocks; are = refl; spells = sp; row = refl; low = omega arith; begun = omega arith }

-- there is a block at k
module _ {blocks : Forest} {rows text : List ℕ} {k i j : ℕ} (r : Reached blocks rows text k i j) (h : k < count blocks)
    (few : length rows ≤ file_most) (short : length text ≤ file_most) where
  pub reached-element : ElementAt r.left rows text i j
  reached-element =
      element (all-begins r.spells)
      (omega (
        arith,
        ap length r.spells.rows_are,
        length-drop i rows,
        length-rowss r.left,
        count-sizes r.left,
        listed-count r.left,
        ap length r.are,
        length-drop k (listed blocks),
        listed-count blocks,
      ))
      r.begun (omega arith) (omega arith)

  -- and after its e bytes of rows and n bytes of text is the next
  module _ (e n : ℕ) (is_e : e ≡ extent_of (drop i rows)) (is_n : n ≡ token_sum (take (extent_of (drop i rows)) (drop i rows))) where
    pub reached-next : Reached blocks rows text (k + 1) (i + e) (j + n)
    reached-next =
        let x = reached-element in
        let l = listed blocks in
        let is : drop k l ≡ x.tree ∷ listed x.others = sym r.are ∙ ap listed x.is in
        let firsts : take (k + 1) l ≡ take k l ++ (x.tree ∷ []) = take-add k 1 l ∙ ap (λ (m : List Tree). take k l ++ take 1 m) is in
        let re = rows-e x e n is_e is_n in
        record {
          left = x.others;
          are = sym (ap (drop 1) is) ∙ drop-drop 1 k l;
          spells = past-exact x e n is_e is_n r.spells;
          row = omega (arith, r.row, ap (rows_all size) firsts, rows_all-append (take k l) (x.tree ∷ []));
          low = omega (arith, x.end);
          begun = omega (arith, x.stop, text-n x e n is_e is_n);
        }

-- ---- the same of whatever forest of so many blocks the rows spell

-- with more blocks it holds all the more
pub reaches_more : {rows : List ℕ} {block block' k i j : ℕ} → block ≤ block' → Reaches rows block k i j → Reaches rows block' k i j
reaches_more h r blocks text sp many short = r blocks text sp (omega arith) short

-- where a pass stood
pub stood-reaches :
    {rows : List ℕ} {k at : ℕ} {c : Converter} {r : Standing} → StandsBefore rows k at c r → Reaches rows k k r.i r.j
stood-reaches s blocks text sp many short =
    let x = s blocks text sp many short in
    record { left = x.left; are = x.are; spells = x.spells; row = x.exact; low = x.low; begun = x.begun }

pub reaches-start : {rows : List ℕ} {block : ℕ} → Reaches rows block 0 0 0
reaches-start blocks text sp many short = reached-start sp

module _ {rows : List ℕ} {block k i j : ℕ} (g : SomeBlocks rows block) (r : Reaches rows block k i j) where
  -- of the one that is given
  given : Reached g.blocks rows g.text k i j
  given = r g.blocks g.text g.spells g.many g.short

  pub reaches-low : i ≤ file_most
  reaches-low = omega (arith, given.low, g.few)

  pub reaches-begun : j ≤ file_most
  reaches-begun = omega (arith, given.begun, g.short)

  module _ (h : k < block) where
    pub reaches-spans : Spans rows i
    reaches-spans =
        let few = g.few in
        let short = g.short in
        spans (reached-element given (omega (arith, g.many)) few short) (omega arith) (omega arith)

    pub reaches-next :
        {e n : ℕ} → e ≡ extent_of (drop i rows) → n ≡ token_sum (take (extent_of (drop i rows)) (drop i rows))
        → Reaches rows block (k + 1) (i + e) (j + n)
    reaches-next is_e is_n blocks text sp many short = reached-next (r blocks text sp many short) (omega arith) g.few short _ _ is_e is_n

-- after the last turn
pub reaches-stands :
    {rows : List ℕ} {block k at : ℕ} {c : Converter} {r : Standing} → Reaches rows block k r.i r.j → k ≡ block → r.block ≡ block
    → r.converter ≡ c → r.at ≡ at → StandsBefore rows block at c r
reaches-stands {rows} {block} {r = r} x e b c a blocks text sp many short =
    let y = subst (λ (m : ℕ). Reached blocks rows text m r.i r.j) e (x blocks text sp many short) in
    record {
      left = y.left;
      are = y.are;
      spells = y.spells;
      exact = y.row;
      row = omega (arith, y.row);
      low = y.low;
      begun = y.begun;
      block = b;
      gives = c;
      next = a;
    }
