-- `lines` and `bytes_of` are each other's inverse: rows that are read one by one are the bytes of what was read, and the bytes of
-- rows that fit are read as these.
use mathlib.Core.Path.{◌≡◌, refl, sym, ap, subst, ◌∙◌}
use mathlib.Core.Bool.{Bool, true, false, ◌&&◌, cond, and-eq-true_iff}
use mathlib.Core.Option.Option.{some}
use mathlib.Core.List.{List, [], ◌∷◌, ◌++◌}
use Rattle.std.specs.Prelude.{Option as Maybe, Some, None}
use Prim.Native.Nat.{ℕ, zero, suc, ◌+◌, ◌*◌, ◌≤◌, ◌<◌}
use native.Mathlib.Omega.{arith}
use lib.Dec.{T, eqb, leb}
use borrow.Author.Tests.{le-leb, eqb-true, leb-true}
use lib.ListN.{length, take, drop, get_or, length-append, length-drop, take-append-drop, length-take}
use lib.Seq.{take-append_seam, drop-append_seam}
use Rattle.text.specs.Numbers.{Bytes, four, four_at}
use Rattle.text.specs.Writing.{cap}
use Rattle.text.proofs.Numbers.{eight, bytes_drop, four-says, four-of}
use Rattle.mitex_syntax.specs.Syntax.{is_node}
use Rattle.mitex_syntax.specs.Spells.{token_fits}
use Rattle.text.specs.Trailer.{ahead}
use Rattle.text.proofs.Trailer.{ahead-some}
use Rattle.tree_file.specs.Layout.{Line, lines, tree_row_at, row_ahead, taken_of}
use Rattle.tree_file.specs.Layout.Line.{token_line, node_line}
use Rattle.tree_file.specs.Parts.{bytes_of, texts_in, LinesFit}
use Rattle.tree_file.specs.declared.TreeRow.{TreeRow}
use Rattle.tree_file.specs.declared.TreeRow.TheVariants.{Token, Node}
use Rattle.tree_file.proofs.Grow.{no-some}

pub four_low : (a b c d : ℕ) → a < 256 → b < 256 → c < 256 → d < 256 → a + 256 * b + 65536 * c + 16777216 * d < cap
four_low a b c d ha hb hc hd = omega arith

-- what a row that is a token says
pub record IsToken (rows text : List ℕ) (m : ℕ) : Type 0 where
  pub mark : get_or rows 1 0 ≡ 1
  pub zero2 : get_or rows 2 0 ≡ 0
  pub zero3 : get_or rows 3 0 ≡ 0
  pub number : m ≡ four_at 4 rows
  pub room : m ≤ length text
  pub fits : T (token_fits (get_or rows 0 0) (take m text))

pub record IsNode (rows : List ℕ) (m : ℕ) : Type 0 where
  pub mark : get_or rows 1 0 ≡ 0
  pub zero2 : get_or rows 2 0 ≡ 0
  pub zero3 : get_or rows 3 0 ≡ 0
  pub number : m ≡ four_at 4 rows
  pub kind : T (is_node (get_or rows 0 0))

pub is_T : (a : Bool) → a ≡ true → T a
is_T a e = subst T (sym e) tt

pub T-is : (a : Bool) → T a → a ≡ true
T-is true h = refl
T-is false h = absurd h

abbrev pub RowSays : List ℕ → List ℕ → Maybe TreeRow → Type 0
RowSays rows text None = Unit {0}
RowSays rows text (Some (Token m)) = IsToken rows text m
RowSays rows text (Some (Node m)) = IsNode rows m

-- the four tests of a row
row-tests : (rows text : List ℕ) (z m f g : Bool)
    → eqb (get_or rows 2 0) 0 && eqb (get_or rows 3 0) 0 ≡ z
    → eqb (get_or rows 1 0) 1 ≡ m
    → leb (four_at 4 rows) (length text) && token_fits (get_or rows 0 0) (take (four_at 4 rows) text) ≡ f
    → eqb (get_or rows 1 0) 0 && is_node (get_or rows 0 0) ≡ g
    → RowSays rows text (cond z (cond m (cond f (Some (Token (four_at 4 rows))) None) (cond g (Some (Node (four_at 4 rows))) None)) None)
row-tests rows text false m f g ez em ef eg = tt
row-tests rows text true true false g ez em ef eg = tt
row-tests rows text true true true g ez em ef eg =
    let z = (and-eq-true_iff _ _).0 ez in let h = (and-eq-true_iff _ _).0 ef in
    record { mark = eqb-true _ _ em; zero2 = eqb-true _ _ z.0; zero3 = eqb-true _ _ z.1; number = refl; room = leb-true _ _ h.0; fits = is_T _ h.1 }
row-tests rows text true false f false ez em ef eg = tt
row-tests rows text true false f true ez em ef eg =
    let z = (and-eq-true_iff _ _).0 ez in let h = (and-eq-true_iff _ _).0 eg in
    record { mark = eqb-true _ _ h.0; zero2 = eqb-true _ _ z.0; zero3 = eqb-true _ _ z.1; number = refl; kind = is_T _ h.1 }

pub tree-row-says : (rows text : List ℕ) (r : Maybe TreeRow) → tree_row_at rows text ≡ r → RowSays rows text r
unfolding tree_row_at
tree-row-says rows text r e = subst (RowSays rows text) e (row-tests rows text _ _ _ _ refl refl refl refl)

-- what a list of lines was read from
pub record Read (rows text : List ℕ) (ls : List Line) : Type 0 where
  pub rows_are : rows ≡ bytes_of ls
  pub text_is : text ≡ texts_in ls
  pub fit : LinesFit ls

pub same_rows :
    (rows : List ℕ) (m n : ℕ) (r : List ℕ) → Bytes rows → 8 ≤ length rows → get_or rows 1 0 ≡ m → get_or rows 2 0 ≡ 0 → get_or rows 3 0 ≡ 0
    → n ≡ four_at 4 rows → drop 8 rows ≡ r
    → rows ≡ get_or rows 0 0 ∷ m ∷ 0 ∷ 0 ∷ four n r
same_rows rows m n r by h a b c d e =
    let f : four (four_at 4 rows) r ≡ get_or rows 4 0 ∷ get_or rows 5 0 ∷ get_or rows 6 0 ∷ get_or rows 7 0 ∷ r =
    four-of (get_or rows 4 0) (get_or rows 5 0) (get_or rows 6 0) (get_or rows 7 0) r (by 4) (by 5) (by 6) (by 7) in
    let g : four n r ≡ four (four_at 4 rows) r = ap (λ x. four x r) d in
    let q = eight rows h in
    q
    ∙ ap (λ x. get_or rows 0 0 ∷ x ∷ get_or rows 2 0 ∷ get_or rows 3 0 ∷ get_or rows 4 0 ∷ get_or rows 5 0 ∷ get_or rows 6 0 ∷ get_or rows 7 0 ∷ drop 8 rows) a
    ∙ ap (λ x. get_or rows 0 0 ∷ m ∷ x ∷ get_or rows 3 0 ∷ get_or rows 4 0 ∷ get_or rows 5 0 ∷ get_or rows 6 0 ∷ get_or rows 7 0 ∷ drop 8 rows) b
    ∙ ap (λ x. get_or rows 0 0 ∷ m ∷ 0 ∷ x ∷ get_or rows 4 0 ∷ get_or rows 5 0 ∷ get_or rows 6 0 ∷ get_or rows 7 0 ∷ drop 8 rows) c
    ∙ ap (λ x. get_or rows 0 0 ∷ m ∷ 0 ∷ 0 ∷ get_or rows 4 0 ∷ get_or rows 5 0 ∷ get_or rows 6 0 ∷ get_or rows 7 0 ∷ x) e
    ∙ ap (λ x. get_or rows 0 0 ∷ m ∷ 0 ∷ 0 ∷ x) (sym f ∙ sym g)

num-low : (rows : List ℕ) → Bytes rows → four_at 4 rows < cap
num-low rows by = four_low (get_or rows 4 0) (get_or rows 5 0) (get_or rows 6 0) (get_or rows 7 0) (by 4) (by 5) (by 6) (by 7)

lines-token :
    (rows text : List ℕ) (m : ℕ) (ms : List Line) → Bytes rows → 8 ≤ length rows → IsToken rows text m → Read (drop 8 rows) (drop m text) ms
    → Read rows text (token_line (get_or rows 0 0) (take m text) ∷ ms)
unfolding bytes_of texts_in LinesFit
lines-token rows text m ms by h i r =
    let lt : length (take m text) ≡ m = length-take m text ∙ (let q = i.room in omega arith) in
    record {
      rows_are = same_rows rows 1 (length (take m text)) (bytes_of ms) by h i.mark i.zero2 i.zero3 (lt ∙ i.number) r.rows_are;
      text_is = sym (take-append-drop m text) ∙ ap (λ x. take m text ++ x) r.text_is;
      fit = (i.fits, subst (λ x. x < cap) (sym (lt ∙ i.number)) (num-low rows by), r.fit);
    }

lines-node :
    (rows text : List ℕ) (m : ℕ) (ms : List Line) → Bytes rows → 8 ≤ length rows → IsNode rows m → Read (drop 8 rows) text ms
    → Read rows text (node_line (get_or rows 0 0) m ∷ ms)
unfolding bytes_of texts_in LinesFit
lines-node rows text m ms by h i r =
    record {
      rows_are = same_rows rows 0 m (bytes_of ms) by h i.mark i.zero2 i.zero3 i.number r.rows_are;
      text_is = r.text_is;
      fit = (i.kind, subst (λ x. x < cap) (sym i.number) (num-low rows by), r.fit);
    }

nil-rows : (rows text : List ℕ) (ls : List Line) → length rows ≡ 0 → lines 0 rows text ≡ some ls → Read rows text ls
unfolding lines bytes_of texts_in LinesFit
nil-rows [] [] [] h e = record { rows_are = refl; text_is = refl; fit = tt }
nil-rows [] [] (l ∷ ls) h e = absurd (let z : ◌≡◌ {A = ℕ} 0 1 = cc in omega arith)
nil-rows [] (b ∷ s) ls h e = absurd (no-some e)
nil-rows (r ∷ rows) text ls h e = absurd (omega arith)

rows-by : (n : ℕ) (rows text : List ℕ) (ls : List Line) → Bytes rows → 8 ≤ length rows
    → ((text : List ℕ) (ls : List Line) → lines n (drop 8 rows) text ≡ some ls → Read (drop 8 rows) text ls)
    → (r : Maybe TreeRow) → RowSays rows text r → row_ahead r rows text (lines n (drop 8 rows) (drop (taken_of r) text)) ≡ some ls → Read rows text ls
rows-by n rows text ls by h i None says e = absurd (no-some e)
rows-by n rows text ls by h i (Some (Token m)) says e =
    let w = ahead-some _ _ _ e in
    subst (Read rows text) w.1.1 (lines-token rows text m w.0 by h says (i (drop m text) w.0 w.1.0))
rows-by n rows text ls by h i (Some (Node m)) says e =
    let w = ahead-some _ _ _ e in
    subst (Read rows text) w.1.1 (lines-node rows text m w.0 by h says (i text w.0 w.1.0))

pub lines-sound : (n : ℕ) (rows text : List ℕ) (ls : List Line) → Bytes rows → length rows ≡ 8 * n → lines n rows text ≡ some ls → Read rows text ls
unfolding lines
lines-sound zero rows text ls by h e = nil-rows rows text ls (omega arith) e
lines-sound (suc n) rows text ls by h e =
    rows-by n rows text ls by (omega arith)
    (λ text ls. lines-sound n (drop 8 rows) text ls (bytes_drop 8 rows by) (length-drop 8 rows ∙ omega arith))
    (tree_row_at rows text) (tree-row-says rows text (tree_row_at rows text) refl) e

-- the other way
pub fits-drop : (l : Line) (ls : List Line) → LinesFit (l ∷ ls) → LinesFit ls
unfolding LinesFit
fits-drop (token_line k s) ls h = h.2
fits-drop (node_line k n) ls h = h.2

row-of-token : (k : ℕ) (s : List ℕ) (r text : List ℕ) → T (token_fits k s) → length s < cap → tree_row_at (k ∷ 1 ∷ 0 ∷ 0 ∷ four (length s) r) (s ++ text) ≡ Some (Token (length s))
unfolding tree_row_at
row-of-token k s r text h lo =
    let n = four-says (length s) lo in
    let l : leb (length s) (length (s ++ text)) ≡ true = le-leb (length s) (length (s ++ text)) (omega (arith, length-append s text)) in
    let t : token_fits k (take (length s) (s ++ text)) ≡ true = ap (token_fits k) (take-append_seam s text) ∙ T-is _ h in
    rw (n, l, t)

row-of-node : (k n : ℕ) (r text : List ℕ) → T (is_node k) → n < cap → tree_row_at (k ∷ 0 ∷ 0 ∷ 0 ∷ four n r) text ≡ Some (Node n)
unfolding tree_row_at
row-of-node k n r text h lo =
    let t : is_node k ≡ true = T-is _ h in
    rw (four-says n lo, t)

pub lines-complete : (ls : List Line) → LinesFit ls → lines (length ls) (bytes_of ls) (texts_in ls) ≡ some ls
unfolding lines bytes_of texts_in LinesFit
lines-complete [] h = refl
lines-complete (token_line k s ∷ ls) h =
    let rows = bytes_of (token_line k s ∷ ls) in let text = s ++ texts_in ls in
    ap (λ r. row_ahead r rows text (lines (length ls) (bytes_of ls) (drop (taken_of r) text))) (row-of-token k s (bytes_of ls) (texts_in ls) h.0 h.1)
    ∙ ap (λ x. ahead (token_line k x) (lines (length ls) (bytes_of ls) (drop (length s) text))) (take-append_seam s (texts_in ls))
    ∙ ap (λ x. ahead (token_line k s) (lines (length ls) (bytes_of ls) x)) (drop-append_seam s (texts_in ls))
    ∙ ap (ahead (token_line k s)) (lines-complete ls h.2)
lines-complete (node_line k n ∷ ls) h =
    let rows = bytes_of (node_line k n ∷ ls) in let text = texts_in ls in
    ap (λ r. row_ahead r rows text (lines (length ls) (bytes_of ls) (drop (taken_of r) text))) (row-of-node k n (bytes_of ls) text h.0 h.1)
    ∙ ap (ahead (node_line k n)) (lines-complete ls h.2)
