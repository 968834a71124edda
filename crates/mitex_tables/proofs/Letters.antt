-- What the letters of a table say: as std counts and tests them, and one letter more, where each definition goes over `++`.
use mathlib.Core.Path.{◌≡◌, refl, sym, ap, ◌∙◌}
use mathlib.Core.Bool.{Bool, true, false, ◌&&◌, ◌||◌, cond}
use mathlib.Core.List.{List, [], ◌∷◌, ◌++◌, append-nil, append_assoc}
use Prim.Native.Nat.{ℕ, ◌+◌, ◌≤◌, ◌<◌}
use native.Mathlib.Omega.{arith}
use lib.ListN.{length, take, get_or}
use borrow.Author.Tests.{eqb-true, ne_eqb}
use Rattle.std.specs.List.{list_all, filter}
use Rattle.text.specs.Writing.{decimal}
use Rattle.text.proofs.Compare.{by-test}
use Rattle.text.proofs.Writing.{take_more}
use Rattle.text.specs.Outputs.{Puts}
use Rattle.text.proofs.Outputs.{puts_nil, puts_then, puts_as}
use Rattle.text.specs.declared.output.Output.{Output}
use Rattle.mitex_meaning.specs.Texts.{vline_begin, vline_end}
use Rattle.mitex_meaning.specs.Tables.{is_column, is_line, letters_fit, columns, alignment, alignments, vlines}

-- ---- tested and counted

pub letters-all : (s : List ℕ) → list_all (λ b. is_column b || is_line b) s ≡ letters_fit s
unfolding letters_fit
letters-all [] = refl
letters-all (b ∷ s) = ap (λ t. (is_column b || is_line b) && t) (letters-all s)

pub columns-filter : (s : List ℕ) → length (filter is_column s) ≡ columns s
unfolding columns
columns-filter [] = refl
columns-filter (b ∷ s) =
    by-test (is_column b)
    (λ e. rw e (omega (arith, columns-filter s)))
    (λ e. rw e (columns-filter s))

pub columns-most : (s : List ℕ) → columns s ≤ length s
unfolding columns
columns-most [] = omega arith
columns-most (b ∷ s) =
    by-test (is_column b)
    (λ e. rw e (omega (arith, columns-most s)))
    (λ e. rw e (omega (arith, columns-most s)))

-- ---- what one letter does: a column letter counts as one column more, and a line is written after the columns before it

abbrev pub counted : ℕ → ℕ → ℕ
counted n b = cond (is_column b) (n + 1) n

abbrev pub vline : ℕ → ℕ → List ℕ
vline n b = cond (is_line b) (vline_begin ++ (decimal n ++ vline_end)) []

-- ---- one letter and the others

columns-cons : (b : ℕ) (s : List ℕ) → columns (b ∷ s) ≡ counted 0 b + columns s
unfolding columns
columns-cons b s = go (is_column b) where
  go : (t : Bool) → cond t (1 + columns s) (columns s) ≡ cond t (0 + 1) 0 + columns s
  go true = omega arith
  go false = omega arith

counted-plus : (n b : ℕ) → counted n b ≡ n + counted 0 b
counted-plus n b = go (is_column b) where
  go : (t : Bool) → cond t (n + 1) n ≡ n + cond t (0 + 1) 0
  go true = omega arith
  go false = omega arith

column-no-line : (b : ℕ) → is_column b ≡ true → is_line b ≡ false
column-no-line b e =
    by-test (is_line b)
    (λ q. let z : ◌≡◌ {A = Bool} true false = sym e ∙ ap is_column (eqb-true b 124 q) in let y : ◌≡◌ {A = ℕ} 0 1 = cc in absurd (omega arith))
    (λ q. q)

vlines-cons : (n b : ℕ) (s : List ℕ) → vlines n (b ∷ s) ≡ vline n b ++ vlines (counted n b) s
unfolding vlines
vlines-cons n b s =
    by-test (is_line b)
    (λ e.
    let z : is_column b ≡ false = ap is_column (eqb-true b 124 e) in
    rw (e, z) (sym (append_assoc vline_begin (decimal n ++ vline_end) (vlines n s)
    ∙ ap (λ l. vline_begin ++ l) (append_assoc (decimal n) vline_end (vlines n s)))))
    (λ e. rw e)

-- ---- letters after letters

columns-append : (a b : List ℕ) → columns (a ++ b) ≡ columns a + columns b
unfolding columns
columns-append [] b = omega arith
columns-append (x ∷ a) b =
    let e = columns-cons x (a ++ b) in
    let e' = columns-cons x a in
    let h = columns-append a b in omega (arith, e, e', h)

alignments-append : (a b : List ℕ) → alignments (a ++ b) ≡ alignments a ++ alignments b
unfolding alignments
alignments-append [] b = refl
alignments-append (x ∷ a) b =
    ap (λ l. alignment x ++ l) (alignments-append a b) ∙ sym (append_assoc (alignment x) (alignments a) (alignments b))

vlines-append : (n : ℕ) (a b : List ℕ) → vlines n (a ++ b) ≡ vlines n a ++ vlines (n + columns a) b
unfolding vlines columns
vlines-append n [] b = ap (λ m. vlines m b) (omega arith)
vlines-append n (x ∷ a) b =
    let m : counted n x + columns a ≡ n + columns (x ∷ a) = omega (arith, counted-plus n x, columns-cons x a) in
    vlines-cons n x (a ++ b)
    ∙ ap (λ l. vline n x ++ l) (vlines-append (counted n x) a b ∙ ap (λ k. vlines (counted n x) a ++ vlines k b) m)
    ∙ sym (append_assoc (vline n x) (vlines (counted n x) a) (vlines (n + columns (x ∷ a)) b))
    ∙ ap (λ l. l ++ vlines (n + columns (x ∷ a)) b) (sym (vlines-cons n x a))

-- ---- from a place to the next

module _ (s : List ℕ) (i : ℕ) (h : i < length s) where
  columns-more : columns (take (i + 1) s) ≡ counted (columns (take i s)) (get_or s i 0)
  unfolding columns
  columns-more =
      let b = get_or s i 0 in
      let e = ap columns (take_more s i h) ∙ columns-append (take i s) (b ∷ []) in
      omega (arith, e, columns-cons b [], counted-plus (columns (take i s)) b)

  pub alignments-more : alignments (take (i + 1) s) ≡ alignments (take i s) ++ alignment (get_or s i 0)
  unfolding alignments
  alignments-more =
      let b = get_or s i 0 in
      ap alignments (take_more s i h)
      ∙ alignments-append (take i s) (b ∷ [])
      ∙ ap (λ l. alignments (take i s) ++ l) (append-nil (alignment b))

  vlines-more : vlines 0 (take (i + 1) s) ≡ vlines 0 (take i s) ++ vline (columns (take i s)) (get_or s i 0)
  unfolding vlines
  vlines-more =
      let b = get_or s i 0 in
      let n = columns (take i s) in
      ap (vlines 0) (take_more s i h)
      ∙ vlines-append 0 (take i s) (b ∷ [])
      ∙ ap (λ m. vlines 0 (take i s) ++ vlines m (b ∷ [])) (let z : 0 + n ≡ n = omega arith in z)
      ∙ ap (λ l. vlines 0 (take i s) ++ l) (vlines-cons n b [] ∙ append-nil (vline n b))

-- ---- the lines among the letters passed

-- of the first i letters n are columns, and the lines among them were written
pub record LinesTo (o : Output) (s : List ℕ) (i n : ℕ) (o' : Output) : Type 0 where
  pub few : n ≤ i
  pub counted : n ≡ columns (take i s)
  pub written : Puts o (vlines 0 (take i s)) o'

module _ {o o1 : Output} (s : List ℕ) (i : ℕ) {n : ℕ} (h : i < length s) (x : LinesTo o s i n o1) where
  one_more : {b k : ℕ} → get_or s i 0 ≡ b → counted n b ≡ k → k ≡ columns (take (i + 1) s)
  one_more {b} e q = sym q ∙ ap (counted n) (sym e) ∙ ap (λ m. counted m (get_or s i 0)) x.counted ∙ sym (columns-more s i h)

  with_line : {w : List ℕ} {o2 : Output} → w ≡ vline n (get_or s i 0) → Puts o1 w o2 → Puts o (vlines 0 (take (i + 1) s)) o2
  with_line e p =
      puts_as (ap (λ l. vlines 0 (take i s) ++ l) (e ∙ ap (λ m. vline m (get_or s i 0)) x.counted) ∙ sym (vlines-more s i h)) (puts_then x.written p)

  pub line-column : is_column (get_or s i 0) ≡ true → LinesTo o s (i + 1) (n + 1) o1
  line-column e =
      record {
        few = let z = x.few in omega arith;
        counted = one_more refl (ap (λ t. cond t (n + 1) n) e);
        written = with_line (sym (ap (λ t. cond t (vline_begin ++ (decimal n ++ vline_end)) []) (column-no-line (get_or s i 0) e))) puts_nil;
      }

  pub line-line : {o2 : Output} → is_column (get_or s i 0) ≡ false → get_or s i 0 ≡ 124 → Puts o1 (vline_begin ++ (decimal n ++ vline_end)) o2 → LinesTo o s (i + 1) n o2
  line-line e q p =
      record {
        few = let z = x.few in omega arith;
        counted = one_more refl (ap (λ t. cond t (n + 1) n) e);
        written = with_line (sym (ap (vline n) q)) p;
      }

  pub line-other : is_column (get_or s i 0) ≡ false → (get_or s i 0 ≡ 124 → ⊥) → LinesTo o s (i + 1) n o1
  line-other e q =
      record {
        few = let z = x.few in omega arith;
        counted = one_more refl (ap (λ t. cond t (n + 1) n) e);
        written = with_line (sym (ap (λ t. cond t (vline_begin ++ (decimal n ++ vline_end)) []) (ne_eqb (get_or s i 0) 124 q))) puts_nil;
      }
