-- What an answer of the check says of the file, for the layers above: an accepted file is that of one tree, whose rows and text
-- are the parts that the answer names, and whose blocks are spelt by the rows after the first.
use mathlib.Core.Path.{◌≡◌, refl, sym, ap, subst, ◌∙◌}
use mathlib.Core.Bool.{Bool, true, false, cond}
use mathlib.Core.Option.{Option}
use mathlib.Core.Option.Option.{none as nothing, some}
use mathlib.Core.List.{List}
use Prim.Native.Nat.{ℕ, ◌+◌, ◌*◌, ◌-◌, ◌≤◌, ◌<◌}
use native.Mathlib.Omega.{arith}
use lib.Dec.{leb}
use borrow.Author.Tests.{leb-true, le-leb, lt-leb}
use lib.ListN.{length, take, drop, length-drop}
use lib.Seq.{drop-drop, take-add, drop_at, length-take-le}
use Rattle.text.specs.Numbers.{Bytes}
use Rattle.mitex_syntax.specs.Syntax.{ScopeRoot}
use Rattle.mitex_syntax.specs.Tree.{Tree, size, text_of, count}
use Rattle.mitex_syntax.specs.Tree.Tree.{token, node}
use Rattle.mitex_syntax.specs.Spells.{Spells, SpellsAll}
use Rattle.mitex_syntax.proofs.Trees.{size-node, spells-under}
use Rattle.text.specs.Trailer.{file_most, start_of}
use Rattle.tree_file.specs.Layout.{blocks_most, decode, Laid, Rooted}
use Rattle.tree_file.specs.Depth.{depth, depth_most}
use Rattle.tree_file.specs.Shape.{lowest, Shaped, ShapedAll}
use Rattle.tree_file.specs.Check.{Verdict, by_depth, by_shape, check_tree, blocks_of, accepted_as, checked_answer}
use Rattle.tree_file.specs.Check.Verdict.{refused, accepted}
use Rattle.refusals.specs.Refusals.{refusal_number, reason_of}
use Rattle.tree_file.specs.declared.Whole.{Whole}
use Rattle.tree_file.proofs.Decode.{decoded, decode-sound, decode-complete}
use Rattle.tree_file.proofs.Shaped.{lowest-shaped, shaped-lowest, shaped-under}

-- ---- a file that is accepted

-- the file's bytes up to the rows are the tree's text, and those after it its rows
pub record Accepted (b : List ℕ) (t : Tree) : Type 0 where
  pub laid : Laid t b
  pub spells : Spells t (take (8 * size t) (drop (length (text_of t)) b)) (take (length (text_of t)) b)
  pub whole : length (text_of t) + 8 * size t + 8 ≡ length b
  pub shallow : depth t ≤ depth_most
  pub shaped : Shaped 0 t

no-verdict : {A : Type 0} {n r : ℕ} {t : Tree} → refused n r ≡ accepted t → A
no-verdict e = absurd (let z : ◌≡◌ {A = ℕ} 0 1 = cc in omega arith)

accepted-by : (b : List ℕ) → Bytes b → (t u : Tree) → decode b ≡ some u → (d : Bool) → leb (depth u) depth_most ≡ d → (o : Option ℕ) → lowest 0 0 u ≡ o
    → cond d (by_shape u o) (refused 4 0) ≡ accepted t → Accepted b t
accepted-by b by t u e false p o q w = no-verdict w
accepted-by b by t u e true p (some r) q w = no-verdict w
accepted-by b by t u e true p nothing q w =
    let is : u ≡ t = cc in
    let d = decoded b by u e in
    let sp : Spells u (take (8 * size u) (drop (length (text_of u)) b)) (take (length (text_of u)) b) =
    subst (λ n. Spells u (take (8 * size u) (drop n b)) (take n b)) d.start
    (subst (λ n. Spells u (take (8 * n) (drop (start_of b) b)) (take (start_of b) b)) d.rows d.spells) in
    subst (Accepted b) is (record {
      laid = decode-sound b by u e;
      spells = sp;
      whole = let s = d.trailer.sum in let x = d.start in let y = d.rows in omega arith;
      shallow = leb-true (depth u) depth_most p;
      shaped = lowest-shaped 0 0 u q;
    })

pub accepted-says : (b : List ℕ) → Bytes b → (t : Tree) → check_tree b ≡ accepted t → Accepted b t
unfolding check_tree
accepted-says b by t e =
    let go : (o : Option Tree) → decode b ≡ o → by_depth o ≡ accepted t → Accepted b t = elim [
      | nothing ↦ λ p q. no-verdict q
      | some u ↦ λ p q. accepted-by b by t u p (leb (depth u) depth_most) refl (lowest 0 0 u) refl q
    ] in
    go (decode b) refl e

-- and every such file is accepted
pub accepts-laid : (b : List ℕ) (t : Tree) → Laid t b → depth t ≤ depth_most → Shaped 0 t → check_tree b ≡ accepted t
unfolding check_tree
accepts-laid b t l d s =
    ap by_depth (decode-complete b t l) ∙ ap (λ x. cond x (by_shape t (lowest 0 0 t)) (refused 4 0)) (le-leb (depth t) depth_most d)
    ∙ ap (by_shape t) (shaped-lowest 0 0 t s)

-- ---- a file that is refused

three-apart : (t : Tree) (d : Bool) (o : Option ℕ) → cond d (by_shape t o) (refused 4 0) ≡ refused 3 0 → ⊥
three-apart t false o e = let z : ◌≡◌ {A = ℕ} 3 4 = cc in omega arith
three-apart t true nothing e = let z : ◌≡◌ {A = ℕ} 0 1 = cc in omega arith
three-apart t true (some r) e = let z : ◌≡◌ {A = ℕ} 3 5 = cc in omega arith

-- 3 says that the file is that of no tree within the limits
pub refused-3 : (b : List ℕ) → check_tree b ≡ refused 3 0 → (t : Tree) → Laid t b → ⊥
unfolding check_tree
refused-3 b e t l = three-apart t (leb (depth t) depth_most) (lowest 0 0 t) (sym (ap by_depth (decode-complete b t l)) ∙ e)

pub refuses-3 : (b : List ℕ) → Bytes b → ((t : Tree) → Laid t b → ⊥) → check_tree b ≡ refused 3 0
unfolding check_tree
refuses-3 b by h =
    let go : (o : Option Tree) → decode b ≡ o → by_depth o ≡ refused 3 0 = elim
    [ nothing ↦ λ p. refl | some t ↦ λ p. absurd (h t (decode-sound b by t p)) ] in
    go (decode b) refl

-- 4 that it is, and that a row lies too deep
pub refuses-4 : (b : List ℕ) (t : Tree) → Laid t b → depth_most < depth t → check_tree b ≡ refused 4 0
unfolding check_tree
refuses-4 b t l d = ap by_depth (decode-complete b t l) ∙ ap (λ x. cond x (by_shape t (lowest 0 0 t)) (refused 4 0)) (lt-leb (depth t) depth_most d)

-- 5 names the lowest row that breaks a rule
pub refuses-5 : (b : List ℕ) (t : Tree) (r : ℕ) → Laid t b → depth t ≤ depth_most → lowest 0 0 t ≡ some r → check_tree b ≡ refused 5 r
unfolding check_tree
refuses-5 b t r l d s =
    ap by_depth (decode-complete b t l) ∙ ap (λ x. cond x (by_shape t (lowest 0 0 t)) (refused 4 0)) (le-leb (depth t) depth_most d) ∙ ap (by_shape t) s

-- a refusal is one of these three
numbers-shape : (t : Tree) (o : Option ℕ) {n r : ℕ} → by_shape t o ≡ refused n r → refusal_number (reason_of n) ≡ n
numbers-shape t nothing e = no-verdict (sym e)
numbers-shape t (some x) {n} e = let z : 5 ≡ n = cc in ap (λ m. refusal_number (reason_of m)) (sym z) ∙ z

numbers-depth : (t : Tree) (d : Bool) {n r : ℕ} → cond d (by_shape t (lowest 0 0 t)) (refused 4 0) ≡ refused n r → refusal_number (reason_of n) ≡ n
numbers-depth t true e = numbers-shape t (lowest 0 0 t) e
numbers-depth t false {n} e = let z : 4 ≡ n = cc in ap (λ m. refusal_number (reason_of m)) (sym z) ∙ z

pub refused-number : (b : List ℕ) (n r : ℕ) → check_tree b ≡ refused n r → refusal_number (reason_of n) ≡ n
unfolding check_tree
refused-number b n r e = go (decode b) e
  where
    go : (o : Option Tree) → by_depth o ≡ refused n r → refusal_number (reason_of n) ≡ n
    go nothing q = let z : 3 ≡ n = cc in ap (λ m. refusal_number (reason_of m)) (sym z) ∙ z
    go (some t) q = numbers-depth t (leb (depth t) depth_most) q

-- ---- from the code's answer

-- an answer `accepts` is about a tree that is accepted
pub record Answered (b : List ℕ) (start rows blocks : ℕ) : Type 0 where
  pub tree : Tree
  pub is : check_tree b ≡ accepted tree
  pub start_is : start ≡ length (text_of tree)
  pub rows_are : rows ≡ size tree
  pub blocks_are : blocks ≡ count (blocks_of tree)

pub answered : (b : List ℕ) (start rows blocks : ℕ) → checked_answer (check_tree b) ≡ accepted_as start rows blocks → Answered b start rows blocks
answered b start rows blocks e = go (check_tree b) refl e
  where
    go : (v : Verdict) → check_tree b ≡ v → checked_answer v ≡ accepted_as start rows blocks → Answered b start rows blocks
    go (refused n r) p q = absurd (let z : ◌≡◌ {A = ℕ} 0 1 = cc in omega arith)
    go (accepted t) p q =
        let w : ◌≡◌ {A = Whole} (record { start = start; rows = rows; blocks = blocks })
        (record { start = length (text_of t); rows = size t; blocks = count (blocks_of t) }) = cc in
        record {
          tree = t;
          is = p;
          start_is = ap (λ (x : Whole). x.start) w;
          rows_are = ap (λ (x : Whole). x.rows) w;
          blocks_are = ap (λ (x : Whole). x.blocks) w;
        }

-- ---- the blocks

-- the parts that a caller hands on: the text area, and the rows after the root's, which end where the trailer begins
pub record BlocksSpelt (b : List ℕ) (t : Tree) (start end : ℕ) : Type 0 where
  pub root_is : t ≡ node ScopeRoot (blocks_of t)
  pub few : count (blocks_of t) ≤ blocks_most
  pub spells : SpellsAll (blocks_of t) (take (end - (start + 8)) (drop (start + 8) b)) (take start b)
  pub shaped : ShapedAll ScopeRoot (blocks_of t)
  pub low : start + 8 ≤ end
  pub inside : end + 8 ≡ length b
  pub short : length b ≤ file_most

rooted-node : (t : Tree) → Rooted t → (t ≡ node ScopeRoot (blocks_of t)) × (count (blocks_of t) ≤ blocks_most)
rooted-node (token k s) h = absurd h
rooted-node (node k f) h = (ap (λ n. node n f) h.0, h.1)

past-root : (l : List ℕ) (m : ℕ) → 8 + m ≤ length l → drop 8 (take (8 + m) l) ≡ take m (drop 8 l)
past-root l m h = ap (drop 8) (take-add 8 m l) ∙ drop_at (take 8 l) (take m (drop 8 l)) 8 (length-take-le 8 l (omega arith))

pub accepted-blocks : (b : List ℕ) (t : Tree) → Accepted b t → (start end : ℕ) → start ≡ length (text_of t) → end ≡ start + 8 * size t → BlocksSpelt b t start end
accepted-blocks b t a start end s e =
    let w = rooted-node t a.laid.rooted in
    let f = blocks_of t in
    let n = ap size w.0 ∙ size-node ScopeRoot f in
    let sum = a.whole in
    let sp : Spells t (take (8 * size t) (drop start b)) (take start b) =
    subst (λ k. Spells t (take (8 * size t) (drop k b)) (take k b)) (sym s) a.spells in
    let all : SpellsAll f (drop 8 (take (8 * size t) (drop start b))) (take start b) =
    spells-under (subst (λ u. Spells u (take (8 * size t) (drop start b)) (take start b)) w.0 sp) in
    let m : 8 * size t ≡ 8 + (end - (start + 8)) = omega arith in
    let long : 8 + (end - (start + 8)) ≤ length (drop start b) = omega (arith, length-drop start b) in
    let rows : drop 8 (take (8 * size t) (drop start b)) ≡ take (end - (start + 8)) (drop (start + 8) b) =
    ap (λ k. drop 8 (take k (drop start b))) m ∙ past-root (drop start b) (end - (start + 8)) long ∙ ap (take (end - (start + 8))) (drop-drop 8 start b) in
    record {
      root_is = w.0;
      few = w.1;
      spells = subst (λ r. SpellsAll f r (take start b)) rows all;
      shaped = shaped-under 0 ScopeRoot f (subst (Shaped 0) w.0 a.shaped);
      low = omega arith;
      inside = omega arith;
      short = a.laid.short;
    }

-- the same from the code's answer, with the end that the caller takes
pub answer-blocks :
    (b : List ℕ) → Bytes b → (start rows blocks : ℕ) (w : Answered b start rows blocks) → (end : ℕ) → end + 8 ≡ length b
    → BlocksSpelt b w.tree start end
answer-blocks b by start rows blocks w end e =
    let a = accepted-says b by w.tree w.is in
    let sum = a.whole in
    let s = w.start_is in
    accepted-blocks b w.tree a start end s (omega arith)
