-- Rows read one by one: what is left of rows and text decides whether all are rows whose texts fill the text.
use mathlib.Core.Path.{◌≡◌, refl, sym, ap, subst, ◌∙◌}
use mathlib.Core.Bool.{false}
use Rattle.std.specs.Prelude.{Some, None}
use mathlib.Core.Option.{Option}
use mathlib.Core.Option.Option.{none as nothing, some}
use mathlib.Core.List.{List, [], ◌∷◌, ◌++◌}
use lib.Seq.{take_at, drop_at}
use Prim.Native.Nat.{ℕ, zero, suc, ◌*◌, ◌-◌, ◌≤◌, ◌<◌}
use native.Mathlib.Omega.{arith}
use lib.Dec.{eqb}
use Rattle.text.proofs.Writing.{part-rest}
use borrow.Author.Tests.{ne_eqb}
use lib.ListN.{length, take, drop, length-drop, length-append}
use Rattle.text.specs.Trailer.{ahead}
use Rattle.tree_file.specs.Layout.{Line, tree_row_at, row_taken, taken_of, row_ahead, lines}
use Rattle.tree_file.specs.Shape.{is_some}
use Rattle.tree_file.specs.declared.TreeRow.{TreeRow}
use Rattle.tree_file.specs.declared.TreeRow.TheVariants.{Token, Node}
use Rattle.text.proofs.Numbers.{eight}
use Rattle.tree_file.proofs.Rows.{RowSays, tree-row-says}

-- rows read one by one: what is left of them decides
pub record LinesLeft (n : ℕ) (rows text l t : List ℕ) : Type 0 where
  pub rest : ℕ
  pub so_many : length l ≡ 8 * rest
  pub same : is_some (lines n rows text) ≡ is_some (lines rest l t)

pub lines-left-start : (n : ℕ) (rows text : List ℕ) → length rows ≡ 8 * n → LinesLeft n rows text rows text
lines-left-start n rows text h = record { rest = n; so_many = h; same = refl }

is_some-ahead : (l : Line) (o : Option (List Line)) → is_some (ahead l o) ≡ is_some o
is_some-ahead l nothing = refl
is_some-ahead l (some ms) = refl

is_some-row_ahead : (r : TreeRow) (rows text : List ℕ) (o : Option (List Line)) → is_some (row_ahead (Some r) rows text o) ≡ is_some o
is_some-row_ahead (Token m) rows text o = is_some-ahead _ o
is_some-row_ahead (Node m) rows text o = is_some-ahead _ o

-- a row by its own bytes
pub row-alone : (l t : List ℕ) → 8 ≤ length l → tree_row_at (take 8 l) t ≡ tree_row_at l t
unfolding tree_row_at
row-alone l t h = let e = eight l h in ap (λ x. tree_row_at (take 8 x) t) e ∙ sym (ap (λ x. tree_row_at x t) e)

-- the row as a chunk of eight bytes that is cut off
pub chunk-whole : (l x m : List ℕ) → l ≡ x ++ m → length x ≡ 8 → 8 ≤ length l
chunk-whole l x m cut long = omega (arith, ap length cut, length-append x m)

pub chunk-past : (l x m : List ℕ) → l ≡ x ++ m → length x ≡ 8 → drop 8 l ≡ m
chunk-past l x m cut long = ap (drop 8) cut ∙ drop_at x m 8 long

pub chunk-row : (l x m : List ℕ) → l ≡ x ++ m → length x ≡ 8 → (t : List ℕ) → tree_row_at x t ≡ tree_row_at l t
chunk-row l x m cut long t =
    ap (λ y. tree_row_at y t) (sym (ap (take 8) cut ∙ take_at x m 8 long)) ∙ row-alone l t (chunk-whole l x m cut long)

pub lines-left-none : {n : ℕ} {rows text l t : List ℕ} → LinesLeft n rows text l t → 8 ≤ length l → tree_row_at l t ≡ None → false ≡ is_some (lines n rows text)
unfolding lines
lines-left-none {n} {rows} {text} {l} {t} w h b =
    let go : (m : ℕ) → length l ≡ 8 * m → is_some (lines m l t) ≡ false = elim [
      | zero ↦ λ e. absurd (omega arith)
      | suc k ↦ λ e. ap (λ r. is_some (row_ahead r l t (lines k (drop 8 l) (drop (taken_of r) t)))) b
    ] in
    sym (w.same ∙ go w.rest w.so_many)

pub lines-left-next : {n : ℕ} {rows text l t : List ℕ} → LinesLeft n rows text l t → 8 ≤ length l → (r : TreeRow) → tree_row_at l t ≡ Some r
    → (x : ℕ) → x ≡ row_taken r → LinesLeft n rows text (drop 8 l) (take (length t - x) (drop x t))
unfolding lines
lines-left-next {n} {rows} {text} {l} {t} w h r e x ex =
    let go : (m : ℕ) → length l ≡ 8 * m → is_some (lines n rows text) ≡ is_some (lines m l t) → LinesLeft n rows text (drop 8 l) (drop (row_taken r) t) = elim [
      | zero ↦ λ p q. absurd (omega arith)
      | suc k ↦ λ p q. record {
        rest = k;
        so_many = length-drop 8 l ∙ omega arith;
        same = q ∙ ap (λ v. is_some (row_ahead v l t (lines k (drop 8 l) (drop (taken_of v) t)))) e
            ∙ is_some-row_ahead r l t (lines k (drop 8 l) (drop (row_taken r) t));
      }
    ] in
    subst (λ y. LinesLeft n rows text (drop 8 l) y) (ap (λ z. drop z t) (sym ex) ∙ sym (part-rest t x)) (go w.rest w.so_many w.same)

pub lines-left-end : {n : ℕ} {rows text l t : List ℕ} → LinesLeft n rows text l t → length l < 8 → eqb (length t) 0 ≡ is_some (lines n rows text)
unfolding lines
lines-left-end {n} {rows} {text} {l} {t} w h =
    let nil : (t : List ℕ) → eqb (length t) 0 ≡ is_some (lines 0 l t) = elim
    [ [] ↦ refl | ◌∷◌ b s ↦ ne_eqb (length (b ∷ s)) 0 (λ (e : length (b ∷ s) ≡ 0). omega arith) ] in
    let z : w.rest ≡ 0 = let e = w.so_many in omega arith in
    nil t ∙ ap (λ m. is_some (lines m l t)) (sym z) ∙ sym w.same

-- a row takes no more text than there is
pub taken-room : (rows text : List ℕ) (r : TreeRow) → tree_row_at rows text ≡ Some r → row_taken r ≤ length text
taken-room rows text r e =
    let go : (r : TreeRow) → RowSays rows text (Some r) → row_taken r ≤ length text = elim [ Token m ↦ λ s. s.room | Node m ↦ λ s. omega arith ] in
    go r (tree-row-says rows text (Some r) e)
