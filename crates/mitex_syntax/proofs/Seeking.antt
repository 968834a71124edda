-- Looking for a child: the test on an element's rows, and the loop over the children (`Seeks`): what is left spells the elements
-- from here on, and what is looked for among all is what is looked for among these.
use mathlib.Core.Path.{◌≡◌, refl, sym, ap, ◌∙◌}
use mathlib.Core.Bool.{Bool, true, false, ◌&&◌, not, cond}
use mathlib.Core.Option.{Option as Maybe}
use mathlib.Core.Option.Option.{none as nothing, some}
use mathlib.Core.List.{List, [], ◌++◌, append-nil}
use Prim.Native.Nat.{ℕ, ◌+◌, ◌*◌, ◌-◌, ◌≤◌, ◌<◌}
use native.Mathlib.Omega.{arith}
use Rattle.text.proofs.Compare.{by-test}
use borrow.Author.Tests.{eq-eqb, ne_eqb}
use lib.Dec.{eqb}
use lib.ListN.{length, take, drop, get_or, length-append, length-drop}
use lib.Seq.{get_or-drop, take_all}
use Rattle.text.specs.Writing.{cap}
use Rattle.mitex_syntax.specs.Syntax.{ClauseArgument}
use Rattle.mitex_syntax.specs.Tree.{Tree, Forest, size, sizes, rows_of, rows_ofs, kind_of}
use Rattle.mitex_syntax.specs.Tree.Tree.{token, node}
use Rattle.mitex_syntax.specs.Tree.Forest.{none, more}
use Rattle.mitex_syntax.specs.Rows.{extent_of, token_sum}
use Rattle.mitex_syntax.specs.Views.{first_by, offset_by, all_by, from_by, is_of, is_other, is_node_tree, is_argument_with, first_node, children_of, kind_in}
use Rattle.mitex_syntax.specs.Spells.{Begins}
use Rattle.std.specs.Prelude.{unwrap_or}
use Rattle.mitex_syntax.specs.Places.{FirstAt, kind_found}
use Rattle.mitex_syntax.proofs.Trees.{length-rows, size-some, size-more, no-left, get_or-here, ElementAt, element, rows-e, text-n, part-spells, past-begins}

-- what was found passes the test
pub first-picked : (p : Tree → Bool) (f : Forest) {t : Tree} → first_by p f ≡ some t → p t ≡ true
unfolding first_by
first-picked p none e = let z : ◌≡◌ {A = ℕ} 0 1 = cc in absurd (omega arith)
first-picked p (more u g) {t} e =
    by-test (p u)
    (λ h. let q : u ≡ t = cc in ap p (sym q) ∙ h)
    (λ h. first-picked p g (sym (ap (λ (b : Bool). cond b (some u) (first_by p g)) h) ∙ e))

-- ---- the first row of an element

pub kind-first : (t : Tree) (r : List ℕ) → get_or (rows_of t ++ r) 0 0 ≡ kind_of t
unfolding rows_of
kind-first (token k s) r = refl
kind-first (node k f) r = refl

pub mark-first : (t : Tree) (r : List ℕ) → not (eqb (get_or (rows_of t ++ r) 1 0) 1) ≡ is_node_tree t
unfolding rows_of
mark-first (token k s) r = refl
mark-first (node k f) r = refl

-- the same, where these rows begin at i
module _ (rows : List ℕ) (i : ℕ) (t : Tree) (r : List ℕ) (e : drop i rows ≡ rows_of t ++ r) where
  pub kind-here : get_or rows i 0 ≡ kind_of t
  kind-here = sym (get_or-here rows i) ∙ ap (λ (l : List ℕ). get_or l 0 0) e ∙ kind-first t r

  pub mark-here : {b : Bool} → eqb (get_or rows (i + 1) 0) 1 ≡ b → is_node_tree t ≡ not b
  mark-here {b} h =
      sym (ap not (sym h) ∙ ap (λ (n : ℕ). not (eqb n 1)) (sym (get_or-drop i rows 1 0) ∙ ap (λ (l : List ℕ). get_or l 1 0) e) ∙ mark-first t r)

pub size-token : (t : Tree) → is_node_tree t ≡ false → size t ≡ 1
unfolding size
size-token (token k s) e = refl
size-token (node k f) e = let z : ◌≡◌ {A = ℕ} 0 1 = cc in absurd (omega arith)

pub rows-children : (t : Tree) → drop 8 (rows_of t) ≡ rows_ofs (children_of t)
unfolding rows_of
rows-children (token k s) = refl
rows-children (node k f) = refl

-- where rows are left there is a whole one
pub rows-eight : (f : Forest) {l : List ℕ} → l ≡ rows_ofs f → 0 < length l → 8 ≤ length l
unfolding rows_of
rows-eight none e h = absurd (omega (arith, ap length e))
rows-eight (more t g) e h = omega (arith, ap length e ∙ length-append (rows_of t) (rows_ofs g), length-rows t, size-some t)

-- ---- whether an element is wanted

-- the kind as a number, 0 where there is none
pub kind-or-none : (o : Maybe Tree) → unwrap_or (kind_found o) 0 ≡ kind_in o
kind-or-none nothing = refl
kind-or-none (some t) = refl

module _ (t : Tree) (rows : List ℕ) (e : rows ≡ rows_of t) where
  pub element-eight : 8 ≤ length rows
  element-eight = omega (arith, ap length e, length-rows t, size-some t)

  pub wanted-kind : (k : ℕ) → eqb (get_or rows 0 0) k ≡ is_of k t
  wanted-kind k = ap (λ (n : ℕ). eqb n k) (kind-here rows 0 t [] (e ∙ sym (append-nil (rows_of t))))

  pub wanted-any-other : (k : ℕ) → not (eqb (get_or rows 0 0) k) ≡ is_other k t
  wanted-any-other k = ap not (wanted-kind k)

  pub children-rows : take (length rows - 8) (drop 8 rows) ≡ rows_ofs (children_of t)
  children-rows = take_all (length rows - 8) (drop 8 rows) (simp length-drop (omega arith)) ∙ ap (drop 8) e ∙ rows-children t

  pub wanted-argument : (k n : ℕ) → get_or rows 0 0 ≡ ClauseArgument → n ≡ kind_in (first_node (children_of t)) → eqb n k ≡ is_argument_with k t
  wanted-argument k n h q =
      ap (λ (m : ℕ). eqb m k) q
      ∙ ap (λ (b : Bool). b && eqb (kind_in (first_node (children_of t))) k) (sym (eq-eqb _ _ h) ∙ wanted-kind ClauseArgument)

  pub wanted-other : (k : ℕ) → (get_or rows 0 0 ≡ ClauseArgument → ⊥) → false ≡ is_argument_with k t
  wanted-other k h = ap (λ (b : Bool). b && eqb (kind_in (first_node (children_of t))) k) (sym (ne_eqb _ _ h) ∙ wanted-kind ClauseArgument)

-- ---- the loop over the children

pub record Seeks (p : Tree → Bool) (f : Forest) (rows text : List ℕ) (i₀ i j : ℕ) : Type 0 where
  pub forest : Forest
  pub begins : Begins forest (drop i rows) (drop j text)
  pub first : first_by p f ≡ first_by p forest
  pub all : all_by p f ≡ all_by p forest
  pub from : from_by p f ≡ from_by p forest
  pub row : i₀ + 8 * offset_by p f ≡ i + 8 * offset_by p forest
  pub fits : sizes forest ≤ sizes f

pub seek-start : (p : Tree → Bool) (f : Forest) (rows text : List ℕ) (i j : ℕ) → Begins f (drop i rows) (drop j text) → Seeks p f rows text i i j
seek-start p f rows text i j sp = record { forest = f; begins = sp; first = refl; all = refl; from = refl; row = refl; fits = omega arith }

module _ {p : Tree → Bool} {f : Forest} {rows text : List ℕ} {i₀ i j : ℕ} (s : Seeks p f rows text i₀ i j) where
  module _ (h : i < length rows) (hj : j ≤ length text) (few : length rows < cap) (short : length text < cap) where
    abbrev pub seek-element : ElementAt s.forest rows text i j
    seek-element = element s.begins h hj few short

    smaller : size seek-element.tree + sizes seek-element.others ≤ sizes f
    smaller = let x = seek-element in omega (arith, s.fits, ap sizes x.is, size-more x.tree x.others)

    module _ (e n : ℕ) (is_e : e ≡ extent_of (drop i rows)) (is_n : n ≡ token_sum (take (extent_of (drop i rows)) (drop i rows)))
        {b : Bool} (told : (t : Tree) → take (i + e - i) (drop i rows) ≡ rows_of t → b ≡ p t) where
      here : b ≡ p seek-element.tree
      here = told seek-element.tree (part-spells seek-element e n is_e is_n).rows_are

      pub seek_found : b ≡ true → FirstAt p f rows text i₀ i (i + e) j (j + n)
      unfolding first_by offset_by all_by from_by
      seek_found picked =
          let x = seek-element in
          let t = x.tree in
          let g = x.others in
          let pt : p t ≡ true = sym here ∙ picked in
          let re = rows-e x e n is_e is_n in
          let tn = text-n x e n is_e is_n in
          let z = x.end in
          let y = x.stop in
          let v = x.some in
          record {
            tree = t;
            is = s.first ∙ ap (first_by p) x.is ∙ ap (λ (c : Bool). cond c (some t) (first_by p g)) pt;
            row = sym (s.row ∙ ap (λ (q : Forest). i + 8 * offset_by p q) x.is ∙ ap (λ (c : Bool). i + 8 * cond c 0 (size t + offset_by p g)) pt ∙ omega arith);
            some_rows = omega arith;
            end = omega arith;
            some_text = omega arith;
            stop = omega arith;
            spells = part-spells x e n is_e is_n;
            fits = omega (arith, smaller);
            others = g;
            past = past-begins x e n is_e is_n;
            all = s.all ∙ ap (all_by p) x.is ∙ ap (λ (c : Bool). cond c (more t (all_by p g)) (all_by p g)) pt;
            from = s.from ∙ ap (from_by p) x.is ∙ ap (λ (c : Bool). cond c (more t g) (from_by p g)) pt;
          }

      pub seek-next : b ≡ false → Seeks p f rows text i₀ (i + e) (j + n)
      unfolding first_by offset_by all_by from_by
      seek-next passed =
          let x = seek-element in
          let t = x.tree in
          let g = x.others in
          let pt : p t ≡ false = sym here ∙ passed in
          let re = rows-e x e n is_e is_n in
          record {
            forest = g;
            begins = past-begins x e n is_e is_n;
            first = s.first ∙ ap (first_by p) x.is ∙ ap (λ (c : Bool). cond c (some t) (first_by p g)) pt;
            all = s.all ∙ ap (all_by p) x.is ∙ ap (λ (c : Bool). cond c (more t (all_by p g)) (all_by p g)) pt;
            from = s.from ∙ ap (from_by p) x.is ∙ ap (λ (c : Bool). cond c (more t g) (from_by p g)) pt;
            row = s.row ∙ ap (λ (q : Forest). i + 8 * offset_by p q) x.is ∙ ap (λ (c : Bool). i + 8 * cond c 0 (size t + offset_by p g)) pt ∙ omega arith;
            fits = omega (arith, smaller);
          }

  pub seek-none : length rows ≤ i → first_by p f ≡ nothing
  unfolding first_by
  seek-none h = s.first ∙ ap (first_by p) (no-left s.forest s.begins.rows_are (simp length-drop (omega arith)))
