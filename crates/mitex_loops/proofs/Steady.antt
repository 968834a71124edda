-- The loop over children on which another loop is steady: those passed (`RunTo`) and the one at the place where the code stands
-- (`Ahead`), by rows alone; what a walk has of such a run; and blank groups.
use mathlib.Core.Path.{◌≡◌, refl, sym, ap, subst, ◌∙◌}
use mathlib.Core.Bool.{Bool, true, false, ◌&&◌, and-true}
use mathlib.Core.List.{List, [], append-nil}
use Prim.Native.Nat.{ℕ, ◌+◌, ◌*◌, ◌-◌, ◌≤◌, ◌<◌}
use native.Mathlib.Omega.{arith}
use borrow.Author.Tests.{eqb-true}
use lib.Dec.{eqb}
use lib.ListN.{length, take, drop, get_or, length-append, length-drop}
use lib.Seq.{take_at, drop_at, drop-drop}
use Rattle.text.specs.Writing.{cap}
use Rattle.mitex_syntax.specs.Syntax.{is_node, TokenWhiteSpace, TokenLineBreak, TokenLBrace, TokenRBrace}
use Rattle.mitex_syntax.specs.Tree.{Tree, Forest, size, sizes, kind_of, rows_of, rows_ofs, text_of, texts_of}
use Rattle.mitex_syntax.specs.Tree.Forest.{none, more}
use Rattle.mitex_syntax.specs.Rows.{extent_of, token_sum, Spans}
use Rattle.mitex_syntax.specs.Spells.{SpellsAll, Begins}
use Rattle.mitex_syntax.specs.declared.Span.{Span}
use Rattle.mitex_syntax.proofs.Reading.{token_sum-nil}
use Rattle.mitex_syntax.proofs.Trees.{length-rows, length-rowss, token_sum-tree, extent-tree, size-some, left, part}
use Rattle.mitex_syntax.proofs.Seeking.{kind-here}
use Rattle.mitex_meaning.specs.Children.{is_blank}
use Rattle.mitex_meaning.specs.Runs.{beside, is_steady, all_steady, all_blank}
use Rattle.mitex_meaning.specs.declared.Loop.{Loop}
use Rattle.std.specs.Bool.{MatchBool}
use Rattle.mitex_loops.proofs.RowTests.{EachRow, SomeRow, all_kinds, kinds-all, kinds-not}
use Rattle.mitex_meaning.proofs.Runs.{one-so, beside-beside, sizes-beside, rows-beside, texts-beside, first-apart, others_apart, steady-beside}
use Rattle.mitex_loops.specs.Steady.{SteadyGiven, SteadyRun}

-- ---- a child ahead_of, by its rows

-- the element t is at k, and g behind it
pub record Ahead (rows : List ℕ) (k : ℕ) (t : Tree) (g : Forest) : Type 0 where
  pub spans : Spans rows k
  pub extent : extent_of (drop k rows) ≡ 8 * size t
  pub sum : token_sum (take (extent_of (drop k rows)) (drop k rows)) ≡ length (text_of t)
  pub kind : get_or rows k 0 ≡ kind_of t
  pub some : 1 ≤ size t
  pub inside : k + 8 * size t ≤ length rows
  pub behind : drop (k + 8 * size t) rows ≡ rows_ofs g

ahead_of :
    (rows : List ℕ) (k : ℕ) (t : Tree) (g : Forest) → drop k rows ≡ rows_ofs (more t g) → length rows < cap → length (text_of t) < cap
    → Ahead rows k t g
unfolding rows_of
ahead_of rows k t g e few short =
    let ld = length-drop k rows in
    let lr = length-rows t in
    let la = ap length e ∙ length-append (rows_of t) (rows_ofs g) in
    let s = size-some t in
    let x : extent_of (drop k rows) ≡ 8 * size t = ap extent_of e ∙ extent-tree t (rows_ofs g) (omega arith) in
    let own : take (extent_of (drop k rows)) (drop k rows) ≡ rows_of t
    = ap (λ (n : ℕ). take n (drop k rows)) x ∙ ap (take (8 * size t)) e ∙ take_at (rows_of t) (rows_ofs g) (8 * size t) lr in
    let n : token_sum (take (extent_of (drop k rows)) (drop k rows)) ≡ length (text_of t)
    = ap token_sum (own ∙ sym (append-nil (rows_of t))) ∙ token_sum-tree t [] short ∙ omega (arith, token_sum-nil) in
    record {
      spans = record { some = omega arith; inside = omega arith; few = few; short = omega arith };
      extent = x;
      sum = n;
      kind = kind-here rows k t (rows_ofs g) e;
      some = s;
      inside = omega arith;
      behind = sym (drop-drop (8 * size t) k rows) ∙ ap (drop (8 * size t)) e ∙ drop_at (rows_of t) (rows_ofs g) (8 * size t) lr;
    }

-- ---- the run up to k, of n bytes of text

abbrev pub RunTo : Loop → Forest → ℕ → ℕ → Type 0
RunTo l f k n = SteadyRun l f (record { rows = k; text = n })

pub run-start : (l : Loop) (f : Forest) → RunTo l f 0 0
unfolding beside all_steady size text_of
run-start l f = record { first = none; others = f; is = refl; steady = refl; rows_are = refl; text_is = refl }

-- the child at k, and how the run goes on over it
pub record Onward (l : Loop) (f : Forest) (rows : List ℕ) (k n : ℕ) : Type 0 where
  pub tree : Tree
  pub behind : Forest
  pub here : Ahead rows k tree behind
  pub fits : n + length (text_of tree) ≤ length (texts_of f)
  pub on :
      is_steady l (get_or rows k 0) ≡ true → (e m : ℕ) → e ≡ extent_of (drop k rows)
      → m ≡ token_sum (take (extent_of (drop k rows)) (drop k rows)) → RunTo l f (k + e) (n + m)

module _ {l : Loop} {f : Forest} {rows : List ℕ} {k n : ℕ} (e : rows ≡ rows_ofs f) (r : RunTo l f k n) where
  run-left : drop k rows ≡ rows_ofs r.others
  run-left =
      ap (drop k) (e ∙ ap rows_ofs r.is ∙ rows-beside r.first r.others)
      ∙ drop_at (rows_ofs r.first) (rows_ofs r.others) k (length-rowss r.first ∙ sym r.rows_are)

  pub run_on : k < length rows → length rows < cap → length (texts_of f) < cap → Onward l f rows k n
  unfolding beside all_steady size text_of
  run_on h few short =
      let ld = length-drop k rows in
      let x = left r.others run-left (omega arith) in
      let t = x.0 in
      let g = x.1.0 in
      let is : f ≡ beside r.first (more t g) = r.is ∙ ap (beside r.first) x.1.1 in
      let lt = ap length (ap texts_of is ∙ texts-beside r.first (more t g)) ∙ length-append (texts_of r.first) (texts_of (more t g)) in
      let lm = length-append (text_of t) (texts_of g) in
      let q = r.text_is in
      let p = r.rows_are in
      let a = ahead_of rows k t g (run-left ∙ ap rows_ofs x.1.1) few (omega arith) in
      record {
        tree = t;
        behind = g;
        here = a;
        fits = omega arith;
        on = λ s u m eu em. record {
          first = beside r.first (more t none);
          others = g;
          is = is ∙ sym (beside-beside r.first (more t none) g);
          steady =
              steady-beside l r.first (more t none) ∙ ap (λ (b : Bool). b && (is_steady l (kind_of t) && true)) r.steady
              ∙ and-true (is_steady l (kind_of t)) ∙ ap (is_steady l) (sym a.kind) ∙ s;
          rows_are = omega (arith, sizes-beside r.first (more t none), eu, a.extent);
          text_is =
              omega (
                arith,
                ap length (texts-beside r.first (more t none)),
                length-append (texts_of r.first) (texts_of (more t none)),
                length-append (text_of t) [],
                em,
                a.sum,
              );
        };
      }

-- ---- what a walk over elements has of a run: what reading it asks, and the bytes of its elements and of those behind them

module _ (rows text : List ℕ) (i j : ℕ) {f : Forest} (sp : SpellsAll f (drop i rows) (drop j text)) where
  pub texts-short : length text < cap → length (texts_of f) < cap
  texts-short short = omega (arith, ap length sp.text_is, length-drop j text)

  pub steady-given : length rows < cap → length text < cap → SteadyGiven (drop i rows)
  steady-given few short =
      record { few = omega (arith, length-drop i rows); forest = f; rows_are = sp.rows_are; short = texts-short short }

  module _ {l : Loop} {r : Span} (s : SteadyRun l f r) where
    apart : SpellsAll (beside s.first s.others) (drop i rows) (drop j text)
    apart = subst (λ (g : Forest). SpellsAll g (drop i rows) (drop j text)) s.is sp

    pub run-first : SpellsAll s.first (part rows i r.rows) (part text j r.text)
    run-first =
        let p : 8 * sizes s.first ≡ i + r.rows - i = omega (arith, s.rows_are) in
        let q : length (texts_of s.first) ≡ j + r.text - j = omega (arith, s.text_is) in
        subst (λ (m : ℕ). SpellsAll s.first (take m (drop i rows)) (part text j r.text)) p
        (subst (λ (m : ℕ). SpellsAll s.first (take (8 * sizes s.first) (drop i rows)) (take m (drop j text))) q
        (first-apart s.first s.others apart))

    pub run-others : SpellsAll s.others (drop (i + r.rows) rows) (drop (j + r.text) text)
    run-others =
        let p = drop-drop (8 * sizes s.first) i rows ∙ ap (λ (m : ℕ). drop (i + m) rows) (sym s.rows_are) in
        let q = drop-drop (length (texts_of s.first)) j text ∙ ap (λ (m : ℕ). drop (j + m) text) (sym s.text_is) in
        subst (λ (m : List ℕ). SpellsAll s.others m (drop (j + r.text) text)) p
        (subst (λ (m : List ℕ). SpellsAll s.others (drop (8 * sizes s.first) (drop i rows)) m) q
        (others_apart s.first s.others apart))

    pub run_end : i ≤ length rows → i + r.rows ≤ length rows
    run_end low =
        omega (
          arith,
          s.rows_are,
          length-drop i rows,
          ap length apart.rows_are,
          length-rowss (beside s.first s.others),
          sizes-beside s.first s.others,
        )

    pub run-stop : j ≤ length text → j + r.text ≤ length text
    run-stop begun =
        omega (
          arith,
          s.text_is,
          length-drop j text,
          ap length (apart.text_is ∙ texts-beside s.first s.others),
          length-append (texts_of s.first) (texts_of s.others),
        )

-- ---- blank groups

no_node : (k j : ℕ) → is_node j ≡ false → eqb k j ≡ true → is_node k ≡ false
no_node k j h e = ap is_node (eqb-true k j e) ∙ h

blank-no-node : (k : ℕ) → is_blank k ≡ true → is_node k ≡ false
blank-no-node k =
    one-so (eqb k TokenWhiteSpace) _ (no_node k TokenWhiteSpace refl)
    (one-so (eqb k TokenLineBreak) _ (no_node k TokenLineBreak refl)
    (one-so (eqb k TokenLBrace) _ (no_node k TokenLBrace refl) (no_node k TokenRBrace refl)))

-- a group is blank where every kind in it is
blank-kinds : (f : Forest) → all_kinds is_blank f ≡ all_blank f
unfolding all_kinds all_blank
blank-kinds none = refl
blank-kinds (more t f) = ap (λ (b : Bool). is_blank (kind_of t) && b) (blank-kinds f)

pub blank-answer :
    (r : Bool) (f : Forest) {rows text : List ℕ} → MatchBool r (EachRow is_blank true rows) (SomeRow is_blank false rows) → Begins f rows text
    → r ≡ all_blank f
blank-answer true f h sp = sym (sym (blank-kinds f) ∙ kinds-all is_blank blank-no-node f sp.rows_are sp.sound h)
blank-answer false f h sp = sym (sym (blank-kinds f) ∙ kinds-not is_blank blank-no-node f sp.rows_are sp.sound h)
