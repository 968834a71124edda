-- Rows and text spell one element only (`spelt-one`). So two elements are the same exactly where their rows and their texts are
-- (`same-tree`), and blocks are compared as trees. The reason: rows and text are read as lines again, and lines grow to one forest.
use mathlib.Core.Path.{◌≡◌, refl, sym, ap, subst, ◌∙◌}
use mathlib.Core.Option.Option.{some}
use mathlib.Core.List.{List, [], append-nil}
use Prim.Native.Nat.{ℕ, ◌<◌}
use native.Mathlib.Omega.{arith}
use lib.ListN.{length}
use Rattle.text.specs.Writing.{cap}
use Rattle.mitex_syntax.specs.Tree.{Tree, Forest, rows_of, text_of}
use Rattle.mitex_syntax.specs.Tree.Forest.{none, more}
use Rattle.mitex_syntax.specs.Spells.{Sound, Spells, SpellsAll}
use Rattle.mitex_syntax.proofs.Trees.{length-rowss, spells-alone}
use Rattle.tree_file.specs.Layout.{lines, grow}
use Rattle.tree_file.specs.Parts.{bytes_of, LinesFit}
use Rattle.tree_file.proofs.Grow.{lines_ofs, grow-complete, length-liness}
use Rattle.tree_file.proofs.Rows.{lines-complete}
use Rattle.tree_file.proofs.Decode.{bytes-all, text-all, fits-forest}

module _ {rows text : List ℕ} (few : length rows < cap) (short : length text < cap) where
  read_again : (f : Forest) → SpellsAll f rows text → lines (length (lines_ofs f)) rows text ≡ some (lines_ofs f)
  unfolding LinesFit
  read_again f sp =
      let n = ap length sp.rows_are ∙ length-rowss f in
      let m = ap length sp.text_is in
      let fit : LinesFit (lines_ofs f)
      = subst LinesFit (append-nil (lines_ofs f)) (fits-forest f [] sp.sound (omega arith) (omega arith) tt) in
      ap (λ r. lines (length (lines_ofs f)) r text) (sp.rows_are ∙ sym (bytes-all f))
      ∙ ap (lines (length (lines_ofs f)) (bytes_of (lines_ofs f))) (sp.text_is ∙ sym (text-all f))
      ∙ lines-complete (lines_ofs f) fit

  spelt-once : (f g : Forest) → SpellsAll f rows text → SpellsAll g rows text → f ≡ g
  spelt-once f g p q =
      let n : length (lines_ofs f) ≡ length (lines_ofs g) =
      let x = ap length p.rows_are ∙ length-rowss f in
      let y = ap length q.rows_are ∙ length-rowss g in
      omega (arith, length-liness f, length-liness g) in
      let e : some (lines_ofs f) ≡ some (lines_ofs g) = sym (read_again f p) ∙ ap (λ k. lines k rows text) n ∙ read_again g q in
      let ls : lines_ofs f ≡ lines_ofs g = cc in
      let s : some f ≡ some g = sym (grow-complete f) ∙ ap grow ls ∙ grow-complete g in
      cc

  spelt-one : (t u : Tree) → Spells t rows text → Spells u rows text → t ≡ u
  spelt-one t u p q = let e = spelt-once (more t none) (more u none) (spells-alone p) (spells-alone q) in cc

pub same-tree :
    (t u : Tree) → Sound t → Sound u → length (rows_of t) < cap → length (text_of t) < cap → rows_of t ≡ rows_of u → text_of t ≡ text_of u
    → t ≡ u
same-tree t u st su few short r x =
    spelt-one few short t u (record { rows_are = refl; text_is = refl; sound = st }) (record { rows_are = r; text_is = x; sound = su })
