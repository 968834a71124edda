-- From the parts of the check to its answer: rows that are lines, lines that grow, a root over its blocks, its depth and its shape.
use mathlib.Core.Path.{◌≡◌, refl, sym, ap, subst, ◌∙◌}
use mathlib.Core.Bool.{Bool, true, false, ◌&&◌, cond, true≢false}
use mathlib.Core.Option.{Option}
use mathlib.Core.Option.Option.{none as nothing, some}
use mathlib.Core.List.{List, [], append-nil}
use Rattle.std.specs.Prelude.{Option as Maybe, Some, None, Result, Ok, Err, ⊤}
use Rattle.std.specs.Option.{is_some as is_found, ok_or}
use Rattle.std.specs.Result.{IsErrAnd, result_ok}
use Prim.Native.Nat.{ℕ, ◌*◌, ◌-◌, ◌/◌, ◌≤◌, ◌<◌}
use native.Mathlib.Omega.{arith}
use lib.Dec.{eqb, leb}
use borrow.Author.Tests.{le-leb, lt-leb}
use lib.ListN.{length, take, drop}
use Rattle.text.specs.Numbers.{Bytes}
use Rattle.mitex_syntax.specs.Syntax.{ScopeRoot}
use Rattle.mitex_syntax.specs.Tree.{Tree, Forest, size, rows_of, rows_ofs, text_of, count}
use Rattle.mitex_syntax.specs.Tree.Tree.{token, node}
use Rattle.mitex_syntax.specs.Tree.Forest.{none, more}
use Rattle.mitex_syntax.specs.Spells.{Sound, Spells, SpellsAll}
use Rattle.mitex_syntax.proofs.Trees.{length-rows}
use Rattle.text.specs.Trailer.{start_of, count_of, trailed, row_area}
use Rattle.text.proofs.Trailer.{Trailed, part-rows, part-many}
use Rattle.tree_file.specs.Layout.{blocks_most, Line, lines, grow, grows, root}
use Rattle.tree_file.specs.Depth.{depth, depths, depth_most}
use Rattle.tree_file.specs.Shape.{is_some, lowest}
use Rattle.tree_file.specs.Check.{blocks_of, by_depth, by_shape, check_tree, Checked, refuses, accepted_as, checked_answer}
use Rattle.tree_file.specs.Check.Verdict.{refused}
use Rattle.tree_file.specs.Parts.{bytes_of, texts_in, LinesFit, root_blocks, shape_of, answer_to}
use Rattle.refusals.specs.declared.Refusal.{Refusal}
use Rattle.tree_file.proofs.Grow.{grow-sound, lines_ofs}
use Rattle.tree_file.proofs.Rows.{Read, lines-sound}
use Rattle.tree_file.proofs.Decode.{decode-by, decode-not, bytes-all, text-all, sound-forest}
use Rattle.tree_file.proofs.Shapes.{handed-on, shape-breaks, shape-right}

pub is-some : {A : Type 0} (o : Option A) (b : Bool) → b ≡ is_some o → b ≡ true → (a : A) × (o ≡ some a)
is-some nothing b e h = absurd (true≢false (sym h ∙ e))
is-some (some a) b e h = (a, refl)

is_none : {A : Type 0} (o : Option A) (b : Bool) → b ≡ is_some o → b ≡ false → o ≡ nothing
is_none nothing b e h = refl
is_none (some a) b e h = absurd (true≢false (sym e ∙ h))

-- the same of what code finds
pub found : (r : Maybe ℕ) (b : Bool) → b ≡ is_found r → b ≡ true → (n : ℕ) × (r ≡ Some n)
found None b e h = absurd (true≢false (sym h ∙ e))
found (Some n) b e h = (n, refl)

pub not-found : (r : Maybe ℕ) (b : Bool) → b ≡ is_found r → b ≡ false → r ≡ None
not-found None b e h = refl
not-found (Some n) b e h = absurd (true≢false (sym e ∙ h))

-- code that finds no blocks refuses
pub refused-so :
    {A : Type 0} (r : Maybe ℕ) (e x : Refusal) (a : Result ℕ Refusal) (z : Result A Refusal) → a ≡ ok_or r e → r ≡ result_ok a → a ≡ Err x
    → IsErrAnd z (λ y. y ≡ x) → (r ≡ None) × (z ≡ Err e)
refused-so None e x a z p q h k = (refl, handed-on z x k ∙ ap Err (let s : Err x ≡ Err e = sym h ∙ p in cc))
refused-so (Some n) e x a z p q h k = absurd (let s : Ok n ≡ Err x = sym p ∙ h in let y : ◌≡◌ {A = ℕ} 0 1 = cc in omega arith)

-- ---- rows that are lines

pub record Lined (n : ℕ) (rows text : List ℕ) : Type 0 where
  pub ls : List Line
  pub are : lines n rows text ≡ some ls
  pub read : Read rows text ls

pub lined : (n : ℕ) (rows text : List ℕ) → Bytes rows → length rows ≡ 8 * n → (b : Bool) → b ≡ is_some (lines n rows text) → b ≡ true → Lined n rows text
lined n rows text by h b e t =
    let w = is-some (lines n rows text) b e t in
    record { ls = w.0; are = w.1; read = lines-sound n rows text w.0 by h w.1 }

pub unlined : (n : ℕ) (rows text : List ℕ) (b : Bool) → b ≡ is_some (lines n rows text) → b ≡ false → refuses 3 0 ≡ answer_to (grows (lines n rows text))
unlined n rows text b e f = sym (ap (λ o. answer_to (grows o)) (is_none (lines n rows text) b e f))

-- the answer for lines
pub answer-lines : {n : ℕ} {rows text : List ℕ} → (w : Lined n rows text) (r : Checked) → r ≡ answer_to (grow w.ls) → r ≡ answer_to (grows (lines n rows text))
answer-lines w r e = e ∙ sym (ap (λ o. answer_to (grows o)) w.are)

pub answer-broken : (o : Option Forest) (b : Bool) → b ≡ is_some o → b ≡ false → refuses 3 0 ≡ answer_to o
answer-broken o b e f = sym (ap answer_to (is_none o b e f))

-- ---- lines that grow

pub grown : (ls : List Line) (f : Forest) {rows text : List ℕ} → Read rows text ls → grow ls ≡ some f → SpellsAll f rows text
grown ls f r e =
    let s = grow-sound ls f e in
    record {
      rows_are = r.rows_are ∙ ap bytes_of s ∙ bytes-all f;
      text_is = r.text_is ∙ ap texts_in s ∙ text-all f;
      sound = (sound-forest f [] (subst LinesFit (s ∙ sym (append-nil (lines_ofs f))) r.fit)).0;
    }

pub grown-rows : (ls : List Line) (f : Forest) {rows : List ℕ} → rows ≡ bytes_of ls → grow ls ≡ some f → rows ≡ rows_ofs f
grown-rows ls f p e = p ∙ ap bytes_of (grow-sound ls f e) ∙ bytes-all f

-- ---- a root over its blocks

blocks-no : {A : Type 0} (b : ℕ) → None ≡ Some b → A
blocks-no b e = absurd (let z : ◌≡◌ {A = ℕ} 0 1 = cc in omega arith)

abbrev is_root : ℕ → Forest → Bool
is_root k c = eqb k ScopeRoot && leb (count c) blocks_most

root-both : (k : ℕ) (c : Forest) (x : Bool) (b : ℕ) → is_root k c ≡ x → cond x (Some (count c)) None ≡ Some b
    → (root (some (more (node k c) none)) ≡ some (node k c)) × (b ≡ count c)
root-both k c true b e q = (ap (λ x. cond x (some (node k c)) nothing) e, cc)
root-both k c false b e q = blocks-no b q

-- the forest is one tree, the root
pub record Rooted-as (f : Forest) (b : ℕ) : Type 0 where
  pub tree : Tree
  pub is : f ≡ more tree none
  pub root_is : root (some f) ≡ some tree
  pub blocks : b ≡ count (blocks_of tree)

pub blocks_are : (f : Forest) (r : Maybe ℕ) (b : ℕ) → r ≡ root_blocks f → r ≡ Some b → Rooted-as f b
blocks_are none r b e h = blocks-no b (sym e ∙ h)
blocks_are (more t (more u g)) r b e h = blocks-no b (sym e ∙ h)
blocks_are (more (token k s) none) r b e h = blocks-no b (sym e ∙ h)
blocks_are (more (node k c) none) r b e h =
    let w = root-both k c (is_root k c) b refl (sym e ∙ h) in
    record { tree = node k c; is = refl; root_is = w.0; blocks = w.1 }

root-neither : (k : ℕ) (c : Forest) (x : Bool) → is_root k c ≡ x → cond x (Some (count c)) None ≡ None → root (some (more (node k c) none)) ≡ nothing
root-neither k c true e q = blocks-no (count c) (sym q)
root-neither k c false e q = ap (λ x. cond x (some (node k c)) nothing) e

blocks-amiss : (f : Forest) → root_blocks f ≡ None → root (some f) ≡ nothing
blocks-amiss none e = refl
blocks-amiss (more t (more u g)) e = refl
blocks-amiss (more (token k s) none) e = refl
blocks-amiss (more (node k c) none) e = root-neither k c (is_root k c) refl e

pub answer-amiss : (f : Forest) (r : Maybe ℕ) → r ≡ root_blocks f → r ≡ None → refuses 3 0 ≡ answer_to (some f)
answer-amiss f r e h = sym (ap (λ o. checked_answer (by_depth o)) (blocks-amiss f (sym e ∙ h)))

module _ {f : Forest} {b : ℕ} (a : Rooted-as f b) where
  answer-some : answer_to (some f) ≡ checked_answer (by_depth (some a.tree))
  answer-some = ap (λ o. checked_answer (by_depth o)) a.root_is

  pub answer-deep : depth_most < depths f → refuses 4 0 ≡ answer_to (some f)
  unfolding depth
  answer-deep d =
      let t = a.tree in
      let x = lt-leb (depth t) depth_most (omega (arith, ap depths a.is)) in
      sym (answer-some ∙ ap (λ y. checked_answer (cond y (by_shape t (lowest 0 0 t)) (refused 4 0))) x)

  answer-shallow : depths f ≤ depth_most → answer_to (some f) ≡ checked_answer (by_shape a.tree (lowest 0 0 a.tree))
  unfolding depth
  answer-shallow d =
      let t = a.tree in
      let x = le-leb (depth t) depth_most (omega (arith, ap depths a.is)) in
      answer-some ∙ ap (λ y. checked_answer (cond y (by_shape t (lowest 0 0 t)) (refused 4 0))) x

  -- the rows and the text are those of the root
  pub root-spells : {rows text : List ℕ} → SpellsAll f rows text → Spells a.tree rows text
  unfolding rows_of text_of Sound
  root-spells {rows} {text} all =
      let sp = subst (λ h. SpellsAll h rows text) a.is all in
      record {
        rows_are = sp.rows_are ∙ append-nil (rows_of a.tree);
        text_is = sp.text_is ∙ append-nil (text_of a.tree);
        sound = sp.sound.0;
      }

  module _ (d : depths f ≤ depth_most) (s : Result ⊤ ℕ) (e : s ≡ shape_of (lowest 0 0 a.tree)) where
    pub answer-breaks : (x : ℕ) → s ≡ Err x → refuses 5 x ≡ answer_to (some f)
    answer-breaks x h = sym (answer-shallow d ∙ ap (λ o. checked_answer (by_shape a.tree o)) (shape-breaks (lowest 0 0 a.tree) x (sym e ∙ h)))

    pub answer-whole : {rows text : List ℕ} → SpellsAll f rows text → s ≡ Ok tt → accepted_as (length text) (length rows / 8) b ≡ answer_to (some f)
    answer-whole {rows} {text} all h =
        let t = a.tree in
        let sp = root-spells all in
        let lt : length text ≡ length (text_of t) = ap length sp.text_is in
        let lr : length rows / 8 ≡ size t = ap (λ y. y / 8) (ap length sp.rows_are ∙ length-rows t) ∙ omega arith in
        ap (λ y. accepted_as y (length rows / 8) b) lt ∙ ap (λ y. accepted_as (length (text_of t)) y b) lr ∙ ap (accepted_as (length (text_of t)) (size t)) a.blocks
        ∙ sym (answer-shallow d ∙ ap (λ o. checked_answer (by_shape t o)) (shape-right (lowest 0 0 t) (sym e ∙ h)))

-- ---- the trailer

pub check-not : (b : List ℕ) → trailed b ≡ false → refuses 3 0 ≡ checked_answer (check_tree b)
unfolding check_tree
check-not b h = sym (ap (λ o. checked_answer (by_depth o)) (decode-not b h))

-- the parts that are handed on
pub check-is :
    (b : List ℕ) (w : Trailed b) (s : ℕ) → s ≡ start_of b → (r : Checked)
    → ((n : ℕ) → length (take (length b - 8 - s) (drop s b)) ≡ 8 * n → r ≡ answer_to (grows (lines n (take (length b - 8 - s) (drop s b)) (take s b))))
    → r ≡ checked_answer (check_tree b)
unfolding check_tree
check-is b w s e r f =
    f (count_of b) (part-many b w s e)
    ∙ ap (λ k. answer_to (grows (lines (count_of b) k (take s b)))) (part-rows b w s e)
    ∙ ap (λ k. answer_to (grows (lines (count_of b) (row_area b) (take k b)))) e
    ∙ sym (ap (λ o. checked_answer (by_depth o)) (decode-by b w))
