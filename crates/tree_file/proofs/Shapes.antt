-- Shape rules read from the rows: what a text begins with, a ClauseLR's first child, and the walk over the children of a node,
-- of which what is left decides.
use mathlib.Core.Path.{◌≡◌, refl, sym, ap, subst, ◌∙◌}
use mathlib.Core.Bool.{Bool, true, false, ◌&&◌, not, true≢false}
use mathlib.Core.Option.{Option}
use mathlib.Core.Option.Option.{none as nothing, some}
use mathlib.Core.List.{List, [], ◌∷◌, ◌++◌, append_assoc}
use Rattle.std.specs.Prelude.{Option as Maybe, Some, None, Result, Ok, Err, ⊤}
use Rattle.std.specs.Bool.{then_some}
use Rattle.std.specs.List.{slice_range}
use Rattle.std.specs.Result.{IsErrAnd}
use Prim.Native.Nat.{ℕ, ◌+◌, ◌-◌, ◌≤◌, ◌<◌}
use native.Mathlib.Omega.{arith}
use lib.Dec.{T, eqb, leb, leb→le}
use borrow.Author.Tests.{ne_eqb}
use lib.ListN.{length, take, drop, get_or, length-append, get_or-append}
use Rattle.utf8.specs.Utf8.{valid}
use Rattle.mitex_syntax.specs.Syntax.{is_token}
use Rattle.mitex_syntax.specs.Tree.{Tree, Forest, rows_of, rows_ofs, text_of, texts_of}
use Rattle.mitex_syntax.specs.Tree.Tree.{token, node}
use Rattle.mitex_syntax.specs.Tree.Forest.{none, more}
use Rattle.mitex_syntax.specs.Views.{children_of}
use Rattle.mitex_syntax.specs.Spells.{token_fits, Sound, Spells, SpellsAll, Begins, SomeForest}
use Rattle.mitex_syntax.proofs.Trees.{length-rows, size-some}
use Rattle.mitex_syntax.proofs.Trees.{kind-spelt, token-spelt, node-spelt, spells-under}
use Rattle.mitex_syntax.proofs.Places.{some-children}
use Rattle.tree_file.specs.Shape.{slashed, backslash, sym_fits, lr_fits, node_fits, unless, or_else, lowest, lowests}
use Rattle.tree_file.specs.Parts.{shape_of, Checkable}

-- what code says by a test: that a list is empty, or not, and a number where the test holds
pub some-left : (l : List ℕ) (b : Bool) → b ≡ eqb (length l) 0 → b ≡ false → 0 < length l
some-left [] b e h = absurd (true≢false (sym e ∙ h))
some-left (x ∷ l) b e h = omega arith

pub none-left : (l : List ℕ) (b : Bool) → b ≡ eqb (length l) 0 → b ≡ true → length l ≡ 0
none-left [] b e h = refl
none-left (x ∷ l) b e h = absurd (true≢false (sym h ∙ e ∙ ne_eqb (length (x ∷ l)) 0 (λ (q : length (x ∷ l) ≡ 0). omega arith)))

pub not-true : (b : Bool) → not b ≡ true → b ≡ false
not-true true h = sym h
not-true false h = refl

pub by-test : (Q : Maybe ℕ → Type 0) (b : Bool) (n : ℕ) (r : Maybe ℕ) → r ≡ then_some b n → (b ≡ true → Q (Some n)) → Q None → Q r
by-test Q true n r e h k = subst Q (sym e) (h refl)
by-test Q false n r e h k = subst Q (sym e) k

-- the first bytes of a text, as a part of it
pub first-part : (text s : List ℕ) (n : ℕ) → s ≡ slice_range text 0 n → s ≡ take n text
first-part text s n e = e ∙ ap (λ m. take m text) (let z : n - 0 ≡ n = omega arith in z)

-- what `?` hands on
pub handed-on : {A E : Type 0} (r : Result A E) (e : E) → IsErrAnd r (λ x. x ≡ e) → r ≡ Err e
handed-on (Ok a) e h = absurd h
handed-on (Err x) e h = ap Err h

-- what the walk's answer says
pub shape-breaks : (o : Option ℕ) (r : ℕ) → shape_of o ≡ Err r → o ≡ some r
shape-breaks nothing r e = absurd (let z : ◌≡◌ {A = ℕ} 0 1 = cc in omega arith)
shape-breaks (some x) r e = cc

pub shape-right : (o : Option ℕ) → shape_of o ≡ Ok tt → o ≡ nothing
shape-right nothing e = refl
shape-right (some x) e = absurd (let z : ◌≡◌ {A = ℕ} 0 1 = cc in omega arith)

-- a token's text has a byte or more
pub token-some : (k : ℕ) (s : List ℕ) → T (token_fits k s) → 1 ≤ length s
token-some k s h = go (is_token k) (leb 1 (length s)) refl h
  where
    go : (a b : Bool) → leb 1 (length s) ≡ b → T (a && (b && valid s)) → 1 ≤ length s
    go false b e t = absurd t
    go true false e t = absurd t
    go true true e t = leb→le 1 (length s) (subst T (sym e) tt)

pub lr-none : (f : Forest) (rows text : List ℕ) → Begins f rows text → length rows < 8 → false ≡ lr_fits f
unfolding rows_of
lr-none none rows text sp h = refl
lr-none (more t u) rows text sp h =
    absurd (omega (arith, ap length sp.rows_are, length-append (rows_of t) (rows_ofs u), length-rows t, size-some t))

pub lr-node : (f : Forest) (rows text : List ℕ) → Begins f rows text → (get_or rows 1 0 ≡ 1 → ⊥) → false ≡ lr_fits f
unfolding rows_of
lr-node none rows text sp h = refl
lr-node (more (token m s) u) rows text sp h = absurd (h (ap (λ x. get_or x 1 0) sp.rows_are))
lr-node (more (node m c) u) rows text sp h = refl

pub lr-token : (f : Forest) (rows text : List ℕ) → Begins f rows text → get_or rows 1 0 ≡ 1 → slashed text ≡ lr_fits f
unfolding rows_of text_of Sound
lr-token none rows text sp mark = absurd (let z : ◌≡◌ {A = ℕ} 0 1 = sym (ap (λ x. get_or x 1 0) sp.rows_are) ∙ mark in omega arith)
lr-token (more (token m s) u) rows text sp mark =
    let long = token-some m s sp.sound.0 in
    ap slashed (sp.text_is ∙ append_assoc s (texts_of u) sp.rest)
    ∙ ap (λ b. eqb b backslash) (get_or-append s (texts_of u ++ sp.rest) 0 0 long)
lr-token (more (node m c) u) rows text sp mark =
    absurd (let z : ◌≡◌ {A = ℕ} 0 1 = sym (ap (λ x. get_or x 1 0) sp.rows_are) ∙ mark in omega arith)

-- ---- an element by its own row

-- a token is right where its text is
pub shape-token : (t : Tree) (up row : ℕ) (rows text : List ℕ) → Spells t rows text → get_or rows 1 0 ≡ 1
    → (b : Bool) → b ≡ sym_fits up (get_or rows 0 0) text → (s : Result ⊤ ℕ) → s ≡ shape_of (unless b row) → s ≡ shape_of (lowest up row t)
unfolding lowest
shape-token t up row rows text sp mark b e s p =
    p ∙ ap (λ x. shape_of (unless x row)) (e ∙ ap (λ k. sym_fits up k text) (kind-spelt t sp)) ∙ ap (λ u. shape_of (lowest up row u)) (sym (token-spelt t sp mark))

pub unless-breaks : (b : Bool) (row r : ℕ) (s : Result ⊤ ℕ) → s ≡ shape_of (unless b row) → s ≡ Err r → (b ≡ false) × (row ≡ r)
unless-breaks true row r s e h = absurd (let z : shape_of nothing ≡ Err r = sym e ∙ h in let y : ◌≡◌ {A = ℕ} 0 1 = cc in omega arith)
unless-breaks false row r s e h = (refl, cc)

pub unless-right : (b : Bool) (row : ℕ) (s : Result ⊤ ℕ) → s ≡ shape_of (unless b row) → s ≡ Ok tt → b ≡ true
unless-right true row s e h = refl
unless-right false row s e h = absurd (let z : shape_of (some row) ≡ Ok tt = sym e ∙ h in let y : ◌≡◌ {A = ℕ} 0 1 = cc in omega arith)

module _ {t : Tree} {rows text : List ℕ} (sp : Spells t rows text) (mark : get_or rows 1 0 ≡ 1 → ⊥) where
  as-node : t ≡ node (get_or rows 0 0) (children_of t)
  as-node = node-spelt t sp mark ∙ ap (λ k. node k (children_of t)) (sym (kind-spelt t sp))

  -- the children of a node
  pub node-under : SpellsAll (children_of t) (drop 8 rows) text
  node-under = spells-under (subst (λ u. Spells u rows text) as-node sp)

  pub node-lowest : (up row : ℕ) → lowest up row t ≡ or_else (unless (node_fits (get_or rows 0 0) (children_of t)) row) (lowests (get_or rows 0 0) (row + 1) (children_of t))
  unfolding lowest
  node-lowest up row = ap (lowest up row) as-node

  pub node-breaks : (up row : ℕ) (b : Bool) → b ≡ node_fits (get_or rows 0 0) (children_of t) → b ≡ false → Err row ≡ shape_of (lowest up row t)
  node-breaks up row b e h =
      let x : node_fits (get_or rows 0 0) (children_of t) ≡ false = sym e ∙ h in
      sym (ap shape_of (node-lowest up row ∙ ap (λ y. or_else (unless y row) (lowests (get_or rows 0 0) (row + 1) (children_of t))) x))

  pub node-right : (up row : ℕ) (b : Bool) → b ≡ node_fits (get_or rows 0 0) (children_of t) → b ≡ true → lowest up row t ≡ lowests (get_or rows 0 0) (row + 1) (children_of t)
  node-right up row b e h =
      let x : node_fits (get_or rows 0 0) (children_of t) ≡ true = sym e ∙ h in
      node-lowest up row ∙ ap (λ y. or_else (unless y row) (lowests (get_or rows 0 0) (row + 1) (children_of t))) x

-- the children of the element that is given
pub asked-forest : {rows text : List ℕ} {row : ℕ} → Checkable rows text row → SomeForest (take (length rows - 8) (drop 8 rows)) text 0 0
asked-forest a =
    let few = a.few in
    let short = a.short in
    some-children a.given.tree a.given.spells (omega arith) (omega arith)
