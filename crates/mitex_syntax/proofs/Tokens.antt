-- The way down to the first token and to the last: the elements that are looked at have the same first, or last, token as all
-- (`Firsts`, `Lasts`), and a step goes into the first, or over or into the last, of them.
use mathlib.Core.Path.{◌≡◌, refl, sym, ap, subst, ◌∙◌}
use mathlib.Core.Bool.{Bool, true, false}
use mathlib.Core.Option.{Option as Maybe}
use mathlib.Core.Option.Option.{none as nothing, some}
use mathlib.Core.List.{List, ◌++◌, append_assoc}
use Prim.Native.Nat.{ℕ, zero, suc, ◌+◌, ◌*◌, ◌-◌, ◌≤◌, ◌<◌}
use native.Mathlib.Omega.{arith}
use borrow.Author.Tests.{eq-eqb, ne_eqb, ltb-true, ltb-false}
use lib.Dec.{eqb, ltb}
use lib.ListN.{length, take, drop, get_or, length-drop}
use lib.Seq.{take_at, take_all}
use Rattle.text.specs.Compare.{same}
use Rattle.text.specs.Writing.{cap}
use Rattle.mitex_syntax.specs.Tree.{Tree, Forest, size, sizes, rows_of, rows_ofs, text_of, texts_of, kind_of}
use Rattle.mitex_syntax.specs.Tree.Tree.{token, node}
use Rattle.mitex_syntax.specs.Tree.Forest.{none, more}
use Rattle.std.specs.Prelude.{Option, None, Some, unwrap_or}
use Rattle.mitex_syntax.specs.Rows.{num_of, extent_of, Spans}
use Rattle.mitex_syntax.specs.Views.{is_node_tree, children_of, kind_in, text_in, first_token, first_tokens, last_token, last_tokens, is_token_of}
use Rattle.mitex_syntax.specs.Spells.{Sound, Begins}
use Rattle.mitex_syntax.specs.Places.{kind_found, TokenIs, LastHop}
use Rattle.mitex_syntax.specs.declared.Token.{Token}
use Rattle.mitex_syntax.specs.declared.Span.{Span}
use Rattle.mitex_syntax.proofs.Deciding.{and-then}
use Rattle.text.proofs.Numbers.{four-says}
use Rattle.mitex_syntax.proofs.Trees.{length-rowss, size-some, left, no-left, First, first-spelt, ElementAt, element, rows-e, text-n, past-begins, spans}
use Rattle.mitex_syntax.proofs.Seeking.{kind-here, mark-here, size-token, rows-eight, kind-or-none}

-- ---- the first row of an element

-- its number
pub token-number : (t : Tree) (r : List ℕ) → is_node_tree t ≡ false → length (text_of t) < cap → num_of (rows_of t ++ r) ≡ length (text_of t)
unfolding rows_of text_of
token-number (token k s) r e h = four-says (length s) h
token-number (node k f) r e h = let z : ◌≡◌ {A = ℕ} 0 1 = cc in absurd (omega arith)

pub node-number : (t : Tree) (r : List ℕ) → is_node_tree t ≡ true → size t < cap → num_of (rows_of t ++ r) ≡ sizes (children_of t)
unfolding rows_of size
node-number (token k s) r e h = let z : ◌≡◌ {A = ℕ} 0 1 = cc in absurd (omega arith)
node-number (node k f) r e h = four-says (sizes f) (omega arith)

node-size : (t : Tree) → is_node_tree t ≡ true → size t ≡ 1 + sizes (children_of t)
unfolding size
node-size (token k s) e = let z : ◌≡◌ {A = ℕ} 0 1 = cc in absurd (omega arith)
node-size (node k f) e = refl

-- into a node: its children begin at its second row
pub into :
    (t : Tree) {g : Forest} {rows text : List ℕ} → Begins (more t g) rows text → is_node_tree t ≡ true
    → Begins (children_of t) (take (8 * sizes (children_of t)) (drop 8 rows)) text
unfolding rows_of text_of Sound
into (token k s) {g} sp e = let z : ◌≡◌ {A = ℕ} 0 1 = cc in absurd (omega arith)
into (node k f) {g} sp e =
    record {
      rows_are = ap (λ (l : List ℕ). take (8 * sizes f) (drop 8 l)) sp.rows_are ∙ take_at (rows_ofs f) (rows_ofs g) (8 * sizes f) (length-rowss f);
      rest = texts_of g ++ sp.rest;
      text_is = sp.text_is ∙ append_assoc (texts_of f) (texts_of g) sp.rest;
      sound = sp.sound.0.1;
    }

-- ---- a token, or none

-- a count that is not 0
pub some-left : (n : ℕ) → false ≡ eqb n 0 → 0 < n
some-left zero e = let z : ◌≡◌ {A = ℕ} 0 1 = cc in absurd (omega arith)
some-left (suc n) e = omega arith

pub none-left : (n : ℕ) → true ≡ eqb n 0 → n ≡ 0
none-left zero e = refl
none-left (suc n) e =
    let h : eqb (suc n) 0 ≡ false = ne_eqb (suc n) 0 (λ q. absurd (omega (arith, q))) in
    let z : ◌≡◌ {A = ℕ} 0 1 = cc in absurd (omega arith)

pub token-none : {o : Maybe Tree} → o ≡ nothing → TokenIs o None
token-none e = record { kind = ap kind_found (sym e); text_is = ap text_in (sym e) }

token-some : {o : Maybe Tree} (t : Tree) (r : Token) → o ≡ some t → r.kind ≡ kind_of t → r.text.now ≡ text_of t → TokenIs o (Some r)
token-some t r e k s = record { kind = ap Some k ∙ ap kind_found (sym e); text_is = s ∙ ap text_in (sym e) }

-- ---- the first token

pub record Firsts (f : Forest) (rows text : List ℕ) : Type 0 where
  pub forest : Forest
  pub begins : Begins forest rows text
  pub still : first_tokens f ≡ first_tokens forest

pub first-start : (f : Forest) (rows text : List ℕ) → Begins f rows text → Firsts f rows text
first-start f rows text sp = record { forest = f; begins = sp; still = refl }

first-of-token : (t : Tree) → is_node_tree t ≡ false → first_token t ≡ some t
unfolding first_token
first-of-token (token k s) e = refl
first-of-token (node k f) e = let z : ◌≡◌ {A = ℕ} 0 1 = cc in absurd (omega arith)

first-of-node : (t : Tree) → is_node_tree t ≡ true → first_token t ≡ first_tokens (children_of t)
unfolding first_token
first-of-node (token k s) e = let z : ◌≡◌ {A = ℕ} 0 1 = cc in absurd (omega arith)
first-of-node (node k f) e = refl

module _ {f : Forest} {l text : List ℕ} (w : Firsts f l text) where
  pub first-eight : 0 < length l → 8 ≤ length l
  first-eight h = rows-eight w.forest w.begins.rows_are h

  module _ (h : 0 < length l) (few : length l < cap) (short : length text < cap) (n : ℕ) (is_n : n ≡ num_of l) where
    first-here : (t : Tree) × ((g : Forest) × (w.forest ≡ more t g))
    first-here = left w.forest w.begins.rows_are h

    abbrev tree : Tree
    tree = first-here.0

    abbrev others : Forest
    others = first-here.1.0

    begins-here : Begins (more tree others) l text
    begins-here = subst (λ (g : Forest). Begins g l text) first-here.1.1 w.begins

    first-is : First tree others l text
    first-is = first-spelt begins-here few short

    rows-here : l ≡ rows_of tree ++ rows_ofs others
    unfolding rows_of
    rows-here = begins-here.rows_are

    still-here : first_tokens f ≡ first_token tree
    unfolding first_token
    still-here = w.still ∙ ap first_tokens first-here.1.1

    module _ (m : get_or l 1 0 ≡ 1) where
      no-node : is_node_tree tree ≡ false
      no-node = mark-here l 0 tree (rows_ofs others) rows-here (eq-eqb _ 1 m)

      whole-text : n ≡ length (text_of tree)
      whole-text = let fits = first-is.fits in is_n ∙ ap num_of rows-here ∙ token-number tree (rows_ofs others) no-node (omega arith)

      pub first-inside : n ≤ length text
      first-inside = let fits = first-is.fits in let e = whole-text in omega arith

      pub first_found : (r : Token) → r.kind ≡ get_or l 0 0 → r.text.now ≡ take n text → TokenIs (first_tokens f) (Some r)
      first_found r ek et =
          token-some tree r (still-here ∙ first-of-token tree no-node) (ek ∙ kind-here l 0 tree (rows_ofs others) rows-here)
          (et ∙ ap (λ (m : ℕ). take m text) whole-text ∙ first-is.first.text_is)

    pub first-into : (get_or l 1 0 ≡ 1 → ⊥) → (8 + 8 * n ≤ length l) × Firsts f (take (8 + 8 * n - 8) (drop 8 l)) text
    first-into m =
        let fi = first-is in
        let b : is_node_tree tree ≡ true = mark-here l 0 tree (rows_ofs others) rows-here (ne_eqb _ 1 m) in
        let sz = node-size tree b in
        let ins = fi.inside in
        let e : n ≡ sizes (children_of tree) = is_n ∙ ap num_of rows-here ∙ node-number tree (rows_ofs others) b (omega arith) in
        let q : 8 * sizes (children_of tree) ≡ 8 + 8 * n - 8 = omega arith in (
          omega arith,
          record {
            forest = children_of tree;
            begins = subst (λ (x : ℕ). Begins (children_of tree) (take x (drop 8 l)) text) q (into tree begins-here b);
            still = still-here ∙ first-of-node tree b;
          },
        )

  pub first-none : length l ≡ 0 → first_tokens f ≡ nothing
  unfolding first_token
  first-none h = w.still ∙ ap first_tokens (no-left w.forest w.begins.rows_are h)

sizes-none : (f : Forest) → sizes f ≡ 0 → f ≡ none
unfolding size
sizes-none none e = refl
sizes-none (more t f) e = absurd (omega (arith, size-some t))

-- ---- the last token

pub record Lasts (f : Forest) (rows text : List ℕ) : Type 0 where
  pub forest : Forest
  pub begins : Begins forest rows text
  pub still : last_tokens f ≡ last_tokens forest

-- what holds after a step of s
pub record LastSteps (f : Forest) (rows text : List ℕ) (s : Span) : Type 0 where
  pub end : s.rows ≤ length rows
  pub some : 8 ≤ s.rows
  pub stop : s.text ≤ length text
  pub lasts : Lasts f (drop s.rows rows) (drop s.text text)

pub last-start : (f : Forest) (rows text : List ℕ) → Begins f rows text → Lasts f rows text
last-start f rows text sp = record { forest = f; begins = sp; still = refl }

last-of-token : (t : Tree) → is_node_tree t ≡ false → last_token t ≡ some t
unfolding last_token
last-of-token (token k s) e = refl
last-of-token (node k f) e = let z : ◌≡◌ {A = ℕ} 0 1 = cc in absurd (omega arith)

last-of-node : (t : Tree) → is_node_tree t ≡ true → last_token t ≡ last_tokens (children_of t)
unfolding last_token
last-of-node (token k s) e = let z : ◌≡◌ {A = ℕ} 0 1 = cc in absurd (omega arith)
last-of-node (node k f) e = refl

last-alone : (t : Tree) (g : Forest) → g ≡ none → last_tokens (more t g) ≡ last_token t
unfolding last_token
last-alone t g e = ap (λ (x : Forest). last_tokens (more t x)) e

last-over : (t u : Tree) (g h : Forest) → g ≡ more u h → last_tokens (more t g) ≡ last_tokens g
unfolding last_token
last-over t u g h e = ap (λ (x : Forest). last_tokens (more t x)) e ∙ sym (ap last_tokens e)

module _ {f : Forest} {rows text : List ℕ} (w : Lasts f rows text) where
  module _ (h : 0 < length rows) (few : length rows < cap) (short : length text < cap) where
    abbrev pub last-element : ElementAt w.forest rows text 0 0
    last-element = element w.begins h (omega arith) few short

    still-last : last_tokens f ≡ last_tokens (more last-element.tree last-element.others)
    still-last = w.still ∙ ap last_tokens last-element.is

    begins-last : Begins (more last-element.tree last-element.others) rows text
    begins-last = subst (λ (g : Forest). Begins g rows text) last-element.is w.begins

    rows_last : rows ≡ rows_of last-element.tree ++ rows_ofs last-element.others
    unfolding rows_of
    rows_last = begins-last.rows_are

    -- what reading its size asks
    pub last-spans : Spans rows 0
    last-spans = spans last-element few short

    -- nothing is left after the last
    alone : 8 * size last-element.tree ≡ length rows → last-element.others ≡ none
    alone q = no-left last-element.others last-element.first.others.rows_are (simp length-drop (omega arith))

    -- a row that stands last
    module _ (q : length rows ≡ 8) where
      single : size last-element.tree ≡ 1
      single = let z = last-element.end in let y = last-element.some in omega arith

      module _ (n : ℕ) (is_n : n ≡ num_of rows) (m : get_or rows 1 0 ≡ 1) where
        bare : is_node_tree last-element.tree ≡ false
        bare = mark-here rows 0 last-element.tree (rows_ofs last-element.others) rows_last (eq-eqb _ 1 m)

        last-text : n ≡ length (text_of last-element.tree)
        last-text =
            let stop = last-element.stop in
            is_n ∙ ap num_of rows_last ∙ token-number last-element.tree (rows_ofs last-element.others) bare (omega arith)

        pub last-inside : n ≤ length text
        last-inside = let stop = last-element.stop in let e = last-text in omega arith

        pub last_found : (r : Token) → r.kind ≡ get_or rows 0 0 → r.text.now ≡ take n text → TokenIs (last_tokens f) (Some r)
        last_found r ek et =
            let x = last-element in
            let one = single in
            token-some x.tree r (still-last ∙ last-alone x.tree x.others (alone (omega arith)) ∙ last-of-token x.tree bare)
            (ek ∙ kind-here rows 0 x.tree (rows_ofs x.others) rows_last) (et ∙ ap (λ (m : ℕ). take m text) last-text ∙ x.first.first.text_is)

      pub last-bare : (get_or rows 1 0 ≡ 1 → ⊥) → last_tokens f ≡ nothing
      unfolding last_token
      last-bare m =
          let x = last-element in
          let one = single in
          let b : is_node_tree x.tree ≡ true = mark-here rows 0 x.tree (rows_ofs x.others) rows_last (ne_eqb _ 1 m) in
          let sz = node-size x.tree b in
          still-last ∙ last-alone x.tree x.others (alone (omega arith)) ∙ last-of-node x.tree b
          ∙ ap last_tokens (sizes-none (children_of x.tree) (omega arith))

    module _ (s : Span) (hop : LastHop rows 0 s) where
      -- over an element that is not the last
      over : extent_of rows < length rows → LastSteps f rows text s
      over lt =
          let x = last-element in
          let is_e = hop.over_rows (omega arith) in
          let is_n = hop.over_text (omega arith) in
          let re = rows-e x s.rows s.text is_e is_n in
          let tn = text-n x s.rows s.text is_e is_n in
          let p : Begins x.others (drop s.rows rows) (drop s.text text) =
          subst (λ (n : ℕ). Begins x.others (drop n rows) (drop s.text text)) (omega arith)
          (subst (λ (n : ℕ). Begins x.others (drop (0 + s.rows) rows) (drop n text)) (omega arith) (past-begins x s.rows s.text is_e is_n)) in
          let end = x.end in
          let stop = x.stop in
          let b = x.some in
          let ext = x.first.extent in
          let y = left x.others p.rows_are (simp length-drop (omega arith)) in
          record {
            end = omega arith;
            some = omega arith;
            stop = omega arith;
            lasts = record { forest = x.others; begins = p; still = still-last ∙ last-over x.tree y.0 x.others y.1.0 y.1.1 };
          }

      -- into a node that is
      inside : extent_of rows ≡ length rows → is_node_tree last-element.tree ≡ true → LastSteps f rows text s
      inside eq b =
          let x = last-element in
          let e₈ : s.rows ≡ 8 = hop.into_rows (omega arith) in
          let e₀ : s.text ≡ 0 = hop.into_text (omega arith) in
          let end = x.end in
          let ext = x.first.extent in
          let sz = node-size x.tree b in
          let er : take (8 * sizes (children_of x.tree)) (drop 8 rows) ≡ drop s.rows rows =
          take_all (8 * sizes (children_of x.tree)) (drop 8 rows) (simp length-drop (omega arith)) ∙ ap (λ (n : ℕ). drop n rows) (sym e₈) in
          let et : text ≡ drop s.text text = ap (λ (n : ℕ). drop n text) (sym e₀) in
          record {
            end = omega arith;
            some = omega arith;
            stop = omega arith;
            lasts = record {
              forest = children_of x.tree;
              begins = subst (λ (R : List ℕ). Begins (children_of x.tree) R (drop s.text text)) er
                  (subst (λ (T : List ℕ). Begins (children_of x.tree) (take (8 * sizes (children_of x.tree)) (drop 8 rows)) T) et
                  (into x.tree begins-last b));
              still = still-last ∙ last-alone x.tree x.others (alone (omega arith)) ∙ last-of-node x.tree b;
            };
          }

      pub last-next : 8 < length rows → LastSteps f rows text s
      last-next gt = by (ltb (extent_of rows) (length rows)) refl
        where
          node-here : extent_of rows ≡ length rows → (b : Bool) → is_node_tree last-element.tree ≡ b → b ≡ true
          node-here eq true e = refl
          node-here eq false e = absurd (let y = last-element.first.extent in omega (arith, size-token last-element.tree e))

          by : (b : Bool) → ltb (extent_of rows) (length rows) ≡ b → LastSteps f rows text s
          by true e = over (ltb-true _ _ e)
          by false e =
              let eq : extent_of rows ≡ length rows = let z = last-element.end in let y = last-element.first.extent in
              omega (arith, ltb-false (extent_of rows) (length rows) e) in
              inside eq (node-here eq _ refl)

  pub last_none : length rows < 8 → last_tokens f ≡ nothing
  unfolding last_token
  last_none h =
      w.still ∙ ap last_tokens (no-left w.forest w.begins.rows_are (omega (arith, ap length w.begins.rows_are ∙ length-rowss w.forest)))

-- ---- a token that is tested

module _ {o : Maybe Tree} {r : Token} (m : TokenIs o (Some r)) (k : ℕ) (s : List ℕ) where
  kind-is : r.kind ≡ kind_in o
  kind-is = ap (λ (k : Option ℕ). unwrap_or k 0) m.kind ∙ kind-or-none o

  pub token-same : r.kind ≡ k → {b : Bool} → b ≡ same r.text.now s → b ≡ is_token_of k s o
  token-same e q =
      and-then (eqb (kind_in o) k) (same (text_in o) s) refl (eq-eqb (kind_in o) k (sym kind-is ∙ e)) (q ∙ ap (λ (l : List ℕ). same l s) m.text_is)
