-- Rows and trees: what the rows of an element say, and how the rows and the text of elements side by side split at the one that
-- begins at row byte i and text byte j (`ElementAt`). The terms are those that code over parts has in its goals.
use mathlib.Core.Path.{◌≡◌, refl, sym, ap, subst, ◌∙◌}
use mathlib.Core.Bool.{Bool, false, ◌&&◌}
use mathlib.Core.List.{List, [], ◌++◌, append_assoc, append-nil}
use Prim.Native.Nat.{ℕ, ◌+◌, ◌*◌, ◌-◌, ◌≤◌, ◌<◌}
use native.Mathlib.Omega.{arith}
use lib.Dec.{T, leb}
use lib.ListN.{length, take, drop, get_or, length-append, length-drop}
use lib.Seq.{take_at, drop_at, drop-drop, get_or-drop, get_or-take, length-take-le}
use Rattle.text.specs.Writing.{cap}
use Rattle.text.proofs.Numbers.{four-says}
use Rattle.text.proofs.Writing.{part-rest}
use Rattle.utf8.specs.Utf8.{valid}
use Rattle.mitex_syntax.specs.Syntax.{is_token, is_node}
use Rattle.mitex_syntax.specs.Tree.{Tree, Forest, size, sizes, rows_of, rows_ofs, text_of, texts_of, kind_of}
use Rattle.mitex_syntax.specs.Tree.Tree.{token, node}
use Rattle.mitex_syntax.specs.Tree.Forest.{none, more}
use Rattle.mitex_syntax.specs.Rows.{extent_of, token_sum, Spans}
use Rattle.mitex_syntax.specs.Views.{children_of}
use Rattle.mitex_syntax.specs.Spells.{Sound, Spells, SpellsAll, Begins, SomeTree}
use Rattle.mitex_syntax.proofs.Reading.{token_sum-nil}
pub use Rattle.mitex_syntax.specs.Once.{length-rows, length-rowss, size-some}

-- ---- the rows of a tree

mutual
  unfolding rows_of text_of token_sum

  pub token_sum-tree : (t : Tree) (r : List ℕ) → length (text_of t) < cap → token_sum (rows_of t ++ r) ≡ length (text_of t) + token_sum r
  token_sum-tree (token k s) r h = ap (λ (n : ℕ). n + token_sum r) (four-says (length s) h)
  token_sum-tree (node k f) r h = omega (arith, token_sum-forest f r h)

  pub token_sum-forest : (f : Forest) (r : List ℕ) → length (texts_of f) < cap → token_sum (rows_ofs f ++ r) ≡ length (texts_of f) + token_sum r
  token_sum-forest none r h = omega arith
  token_sum-forest (more t f) r h =
      ap token_sum (append_assoc (rows_of t) (rows_ofs f) r)
      ∙ omega (
        arith,
        token_sum-tree t (rows_ofs f ++ r) (omega (arith, length-append (text_of t) (texts_of f))),
        token_sum-forest f r
            (omega (arith, length-append (text_of t) (texts_of f))),
        length-append (text_of t) (texts_of f),
      )

pub extent-tree : (t : Tree) (r : List ℕ) → size t < cap → extent_of (rows_of t ++ r) ≡ 8 * size t
unfolding rows_of size
extent-tree (token k s) r h = refl
extent-tree (node k f) r h = omega (arith, four-says (sizes f) (omega arith))

-- ---- sizes

pub size-node : (k : ℕ) (f : Forest) → size (node k f) ≡ 1 + sizes f
unfolding size
size-node k f = refl

pub size-more : (t : Tree) (f : Forest) → sizes (more t f) ≡ size t + sizes f
unfolding size
size-more t f = refl

pub size-children : (t : Tree) → 1 + sizes (children_of t) ≤ size t
unfolding size
size-children (token k s) = omega arith
size-children (node k f) = omega arith

pub rows-some : {t : Tree} {rows text : List ℕ} → Spells t rows text → 8 ≤ length rows
rows-some {t} {rows} {text} sp = omega (arith, ap length sp.rows_are, length-rows t, size-some t)

-- ---- from one way of spelling to another

-- one element alone is elements side by side
pub spells-alone : {t : Tree} {rows text : List ℕ} → Spells t rows text → SpellsAll (more t none) rows text
unfolding rows_of text_of Sound
spells-alone {t} sp =
    record {
      rows_are = sp.rows_are ∙ sym (append-nil (rows_of t));
      text_is = sp.text_is ∙ sym (append-nil (text_of t));
      sound = (sp.sound, tt);
    }

-- what is spelt exactly is begun with
pub all-begins : {f : Forest} {rows text : List ℕ} → SpellsAll f rows text → Begins f rows text
all-begins {f} sp = record { rows_are = sp.rows_are; rest = []; text_is = sp.text_is ∙ sym (append-nil (texts_of f)); sound = sp.sound }

-- the children of a node begin at its second row
pub spells-under : {k : ℕ} {f : Forest} {rows text : List ℕ} → Spells (node k f) rows text → SpellsAll f (drop 8 rows) text
unfolding rows_of text_of Sound
spells-under sp = record { rows_are = ap (drop 8) sp.rows_are; text_is = sp.text_is; sound = sp.sound.1 }

-- and those of any element, a token having none
pub children-begin : (t : Tree) {rows text : List ℕ} → Spells t rows text → Begins (children_of t) (drop 8 rows) text
unfolding rows_of text_of Sound
children-begin (token k s) {rows} {text} sp = record { rows_are = ap (drop 8) sp.rows_are; rest = text; text_is = refl; sound = tt }
children-begin (node k f) sp = all-begins (spells-under sp)

-- the same of the part that code takes from the second row on
pub children-part : (t : Tree) {rows text : List ℕ} → Spells t rows text → Begins (children_of t) (take (length rows - 8) (drop 8 rows)) text
children-part t {rows} {text} sp = subst (λ (l : List ℕ). Begins (children_of t) l text) (sym (part-rest rows 8)) (children-begin t sp)

-- ---- the first element of a forest

pub record First (t : Tree) (f : Forest) (rows text : List ℕ) : Type 0 where
  pub extent : extent_of rows ≡ 8 * size t
  pub inside : 8 * size t ≤ length rows
  pub sum : token_sum (take (8 * size t) rows) ≡ length (text_of t)
  pub fits : length (text_of t) ≤ length text
  pub first : Spells t (take (8 * size t) rows) (take (length (text_of t)) text)
  pub others : Begins f (drop (8 * size t) rows) (drop (length (text_of t)) text)

pub first-spelt :
    {t : Tree} {f : Forest} {rows text : List ℕ} → Begins (more t f) rows text → length rows < cap → length text < cap → First t f rows text
unfolding rows_of text_of Sound
first-spelt {t} {f} {rows} {text} sp few short =
    let lr = length-rows t in
    let er : rows ≡ rows_of t ++ rows_ofs f = sp.rows_are in
    let et : text ≡ text_of t ++ (texts_of f ++ sp.rest) = sp.text_is ∙ append_assoc (text_of t) (texts_of f) sp.rest in
    let la = ap length er ∙ length-append (rows_of t) (rows_ofs f) in
    let lt = ap length et ∙ length-append (text_of t) (texts_of f ++ sp.rest) in
    let e : take (8 * size t) rows ≡ rows_of t = ap (take (8 * size t)) er ∙ take_at (rows_of t) (rows_ofs f) (8 * size t) lr in
    record {
      extent = ap extent_of er ∙ extent-tree t (rows_ofs f) (omega arith);
      inside = omega arith;
      sum = ap token_sum (e ∙ sym (append-nil (rows_of t))) ∙ token_sum-tree t [] (omega arith) ∙ omega (arith, token_sum-nil);
      fits = omega arith;
      first = record {
        rows_are = e;
        text_is = ap (take (length (text_of t))) et ∙ take_at (text_of t) (texts_of f ++ sp.rest) (length (text_of t)) refl;
        sound = sp.sound.0;
      };
      others = record {
        rows_are = ap (drop (8 * size t)) er ∙ drop_at (rows_of t) (rows_ofs f) (8 * size t) lr;
        rest = sp.rest;
        text_is = ap (drop (length (text_of t))) et ∙ drop_at (text_of t) (texts_of f ++ sp.rest) (length (text_of t)) refl;
        sound = sp.sound.1;
      };
    }

-- the same where all is spelt exactly
pub others-exact :
    {t : Tree} {f : Forest} {rows text : List ℕ} → SpellsAll (more t f) rows text
    → SpellsAll f (drop (8 * size t) rows) (drop (length (text_of t)) text)
unfolding rows_of text_of Sound
others-exact {t} {f} sp =
    record {
      rows_are = ap (drop (8 * size t)) sp.rows_are ∙ drop_at (rows_of t) (rows_ofs f) (8 * size t) (length-rows t);
      text_is = ap (drop (length (text_of t))) sp.text_is ∙ drop_at (text_of t) (texts_of f) (length (text_of t)) refl;
      sound = sp.sound.1;
    }

-- where rows are left there is an element
pub left : (f : Forest) {rows : List ℕ} → rows ≡ rows_ofs f → 0 < length rows → (t : Tree) × ((g : Forest) × (f ≡ more t g))
unfolding rows_of
left none e h = absurd (omega (arith, ap length e))
left (more t g) e h = (t, (g, refl))

-- where none are left there is none
pub no-left : (f : Forest) {rows : List ℕ} → rows ≡ rows_ofs f → length rows ≡ 0 → f ≡ none
unfolding size
no-left none e h = refl
no-left (more t g) e h = absurd (omega (arith, ap length e, length-rowss (more t g), size-some t))

-- ---- what the bytes of its first row say of an element

pub kind-spelt : (t : Tree) {rows text : List ℕ} → Spells t rows text → get_or rows 0 0 ≡ kind_of t
unfolding rows_of
kind-spelt (token k s) sp = ap (λ (l : List ℕ). get_or l 0 0) sp.rows_are
kind-spelt (node k f) sp = ap (λ (l : List ℕ). get_or l 0 0) sp.rows_are

-- the second byte tells a token from a node
pub token-spelt : (t : Tree) {rows text : List ℕ} → Spells t rows text → get_or rows 1 0 ≡ 1 → t ≡ token (kind_of t) text
unfolding rows_of text_of
token-spelt (token k s) sp e = ap (token k) (sym sp.text_is)
token-spelt (node k f) sp e = absurd (omega (arith, e, ap (λ (l : List ℕ). get_or l 1 0) sp.rows_are))

pub node-spelt : (t : Tree) {rows text : List ℕ} → Spells t rows text → (get_or rows 1 0 ≡ 1 → ⊥) → t ≡ node (kind_of t) (children_of t)
unfolding rows_of
node-spelt (token k s) sp e = absurd (e (ap (λ (l : List ℕ). get_or l 1 0) sp.rows_are))
node-spelt (node k f) sp e = refl

-- an element whose first byte is the kind of no token is a node
pub as-node : (t : Tree) {rows text : List ℕ} (k : ℕ) → Spells t rows text → get_or rows 0 0 ≡ k → is_token k ≡ false → (f : Forest) × (t ≡ node k f)
unfolding Sound
as-node (token j s) k sp e h =
    let b : is_token j ≡ false = ap is_token (sym (kind-spelt (token j s) sp) ∙ e) ∙ h in
    absurd (subst (λ (x : Bool). T (x && (leb 1 (length s) && valid s))) b sp.sound)
as-node (node j f) k sp e h = (f, ap (λ (n : ℕ). node n f) (sym (kind-spelt (node j f) sp) ∙ e))

-- and one whose first byte is the kind of no node is a token, whose text is the text
pub as-token : (t : Tree) {rows text : List ℕ} → Spells t rows text → is_node (get_or rows 0 0) ≡ false → t ≡ token (get_or rows 0 0) text
unfolding Sound text_of
as-token (token j s) {rows} {text} sp h = ap (λ (n : ℕ). token n s) (sym (kind-spelt (token j s) sp)) ∙ ap (token (get_or rows 0 0)) (sym sp.text_is)
as-token (node j f) sp h = absurd (subst T (ap is_node (sym (kind-spelt (node j f) sp)) ∙ h) sp.sound.0)

pub get_or-here : (rows : List ℕ) (i : ℕ) → get_or (drop i rows) 0 0 ≡ get_or rows i 0
get_or-here rows i = get_or-drop i rows 0 0 ∙ ap (λ (n : ℕ). get_or rows n 0) (let z : i + 0 ≡ i = omega arith in z)

-- ---- the element at i, whose text begins at j

pub record ElementAt (forest : Forest) (rows text : List ℕ) (i j : ℕ) : Type 0 where
  pub tree : Tree
  pub others : Forest
  pub is : forest ≡ more tree others
  pub first : First tree others (drop i rows) (drop j text)
  pub end : i + 8 * size tree ≤ length rows
  pub stop : j + length (text_of tree) ≤ length text
  pub some : 1 ≤ size tree

pub element :
    {forest : Forest} {rows text : List ℕ} {i j : ℕ} → Begins forest (drop i rows) (drop j text) → i < length rows → j ≤ length text
    → length rows < cap → length text < cap → ElementAt forest rows text i j
element {forest} {rows} {text} {i} {j} sp h hj few short =
    let lr = length-drop i rows in
    let lt = length-drop j text in
    let x = left forest sp.rows_are (omega arith) in
    let t = x.0 in
    let g = x.1.0 in
    let e : forest ≡ more t g = x.1.1 in
    let fr : First t g (drop i rows) (drop j text) = first-spelt (subst (λ (y : Forest). Begins y (drop i rows) (drop j text)) e sp)
    (omega arith) (omega arith) in
    record { tree = t; others = g; is = e; first = fr; end = let z = fr.inside in omega arith; stop = let z = fr.fits in omega arith; some = size-some t }

module _ {forest : Forest} {rows text : List ℕ} {i j : ℕ} (x : ElementAt forest rows text i j) where
  -- what reading its size asks
  pub spans : length rows < cap → length text < cap → Spans rows i
  spans few short =
      let e = x.first.extent in
      let b = x.some in
      let z = x.end in
      let y = x.stop in
      record {
        some = omega arith;
        inside = omega arith;
        few = few;
        short = subst (λ (n : ℕ). n < cap) (sym (ap (λ (m : ℕ). token_sum (take m (drop i rows))) e ∙ x.first.sum)) (omega arith);
      }

  -- its bytes in the whole
  byte_at : (n : ℕ) → n < 8 → get_or (take (8 * size x.tree) (drop i rows)) n 0 ≡ get_or (drop i rows) n 0
  byte_at n h = let b = x.some in get_or-take (8 * size x.tree) (drop i rows) n 0 (omega arith)

  pub kind_at : get_or rows i 0 ≡ kind_of x.tree
  kind_at = sym (get_or-here rows i) ∙ sym (byte_at 0 (omega arith)) ∙ kind-spelt x.tree x.first.first

  -- the code has its bytes as e and n
  module _ (e n : ℕ) (is_e : e ≡ extent_of (drop i rows)) (is_n : n ≡ token_sum (take (extent_of (drop i rows)) (drop i rows))) where
    pub rows-e : e ≡ 8 * size x.tree
    rows-e = is_e ∙ x.first.extent

    pub text-n : n ≡ length (text_of x.tree)
    text-n = is_n ∙ ap (λ (m : ℕ). token_sum (take m (drop i rows))) x.first.extent ∙ x.first.sum

    pub part-spells : Spells x.tree (take (i + e - i) (drop i rows)) (take (j + n - j) (drop j text))
    part-spells =
        let p : 8 * size x.tree ≡ i + e - i = let z = rows-e in omega arith in
        let q : length (text_of x.tree) ≡ j + n - j = let z = text-n in omega arith in
        subst (λ (m : ℕ). Spells x.tree (take m (drop i rows)) (take (j + n - j) (drop j text))) p
        (subst (λ (m : ℕ). Spells x.tree (take (8 * size x.tree) (drop i rows)) (take m (drop j text))) q x.first.first)

    pub part_length : length (take (i + e - i) (drop i rows)) ≡ e
    part_length =
        let p : i + e - i ≡ e = omega arith in
        let z = rows-e in
        let y = x.first.inside in
        ap (λ (m : ℕ). length (take m (drop i rows))) p ∙ length-take-le e (drop i rows) (omega arith)

    pub part-short : length (take (j + n - j) (drop j text)) ≡ n
    part-short =
        let p : j + n - j ≡ n = omega arith in
        let z = text-n in
        let y = x.first.fits in
        ap (λ (m : ℕ). length (take m (drop j text))) p ∙ length-take-le n (drop j text) (omega arith)

    rows-past : drop (8 * size x.tree) (drop i rows) ≡ drop (i + e) rows
    rows-past = drop-drop (8 * size x.tree) i rows ∙ ap (λ (m : ℕ). drop (i + m) rows) (sym rows-e)

    text-past : drop (length (text_of x.tree)) (drop j text) ≡ drop (j + n) text
    text-past = drop-drop (length (text_of x.tree)) j text ∙ ap (λ (m : ℕ). drop (j + m) text) (sym text-n)

    -- the elements after it
    pub past-begins : Begins x.others (drop (i + e) rows) (drop (j + n) text)
    past-begins =
        subst (λ (l : List ℕ). Begins x.others l (drop (j + n) text)) rows-past
        (subst (λ (s : List ℕ). Begins x.others (drop (8 * size x.tree) (drop i rows)) s) text-past x.first.others)

    -- where all was spelt exactly they are so
    pub past-exact : SpellsAll forest (drop i rows) (drop j text) → SpellsAll x.others (drop (i + e) rows) (drop (j + n) text)
    past-exact sp =
        subst (λ (l : List ℕ). SpellsAll x.others l (drop (j + n) text)) rows-past
        (subst (λ (s : List ℕ). SpellsAll x.others (drop (8 * size x.tree) (drop i rows)) s) text-past
        (others-exact (subst (λ (f : Forest). SpellsAll f (drop i rows) (drop j text)) x.is sp)))

-- ---- a child, as code has it that takes the part of e bytes of rows and n bytes of text

abbrev pub part : List ℕ → ℕ → ℕ → List ℕ
part l i e = take (i + e - i) (drop i l)

pub record ChildPart (rows text : List ℕ) (i j e n : ℕ) : Type 0 where
  pub end : i + e ≤ length rows
  pub stop : j + n ≤ length text
  pub some : 8 ≤ e
  pub given : SomeTree (part rows i e) (part text j n)
  pub rows_long : length (part rows i e) ≡ e
  pub text_long : length (part text j n) ≡ n

pub child-part :
    {forest : Forest} {rows text : List ℕ} {i j : ℕ} → ElementAt forest rows text i j → (e n : ℕ) → e ≡ extent_of (drop i rows)
    → n ≡ token_sum (take (extent_of (drop i rows)) (drop i rows)) → ChildPart rows text i j e n
child-part x e n is_e is_n =
    let re = rows-e x e n is_e is_n in
    let tn = text-n x e n is_e is_n in
    let z = x.end in
    let y = x.stop in
    let b = x.some in
    record {
      end = omega arith;
      stop = omega arith;
      some = omega arith;
      given = record { tree = x.tree; spells = part-spells x e n is_e is_n };
      rows_long = part_length x e n is_e is_n;
      text_long = part-short x e n is_e is_n;
    }
