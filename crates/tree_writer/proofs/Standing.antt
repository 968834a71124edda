-- A writer and its buffer stand for the accepted steps: each accepted step leads from what they stand for to the next.
use mathlib.Core.Path.{◌≡◌, refl, sym, ap, subst, ◌∙◌}
use mathlib.Core.Bool.{Bool, true, false, ◌&&◌, cond, and-eq-true_iff}
use mathlib.Core.List.{List, [], ◌∷◌, ◌++◌, append-nil, append_assoc}
use Prim.Native.Nat.{ℕ, ◌+◌, ◌-◌, ◌≤◌}
use native.Mathlib.Omega.{arith}
use lib.Dec.{T, eqb, leb}
use borrow.Author.Tests.{eqb-true, eq-eqb, ne_eqb}
use lib.ListN.{length, take, length-append}
use lib.Seq.{sets, length-sets}
use Rattle.text.specs.Numbers.{four}
use Rattle.text.specs.Trailer.{file_most}
use Rattle.mitex_syntax.specs.Syntax.{ScopeRoot, is_node}
use Rattle.mitex_syntax.specs.Tree.{Tree, Forest, size, sizes, rows_of, rows_ofs, text_of, texts_of, count, file_of}
use Rattle.mitex_syntax.specs.Tree.Tree.{token, node}
use Rattle.mitex_syntax.specs.Tree.Forest.{none}
use Rattle.mitex_syntax.specs.Spells.{token_fits, Sound, Sounds}
use Rattle.mitex_syntax.proofs.Trees.{length-rows}
use Rattle.tree_file.specs.Layout.{blocks_most}
use Rattle.tree_file.specs.Depth.{depth, depths, depth_most}
use Rattle.tree_file.proofs.Rows.{is_T}
use Rattle.tree_writer.specs.Steps.{Step, opens_node, adds_token, closes_node, finishes, walk_of_tree, walk_of_forest}
use Rattle.tree_writer.specs.SoFar.{size_with, blocks_with, with_step, step_answer}
use Rattle.tree_writer.specs.Writers.{new_writer, so_far, possible, same_room}
use Rattle.tree_writer.specs.Buffers.{row_place, back_number, back_number_at, back_row, buffer_after, writer_after}
use Rattle.tree_writer.specs.declared.Writer.{Writer}
use Rattle.tree_writer.proofs.Tests.{fails-holds}
use Rattle.tree_writer.proofs.OpenNodes.{snoc, walks_snoc, rows_snoc, texts-snoc, sizes-snoc, count-snoc, depths-snoc, sounds-snoc}
use Rattle.tree_writer.proofs.OpenNodes.{OpenNodes, no_node, under, open_steps, open_text, open_count, open_depth, innermost, open_rows}
use Rattle.tree_writer.proofs.OpenNodes.{root_forest, open_blocks, RootIs, SoundNodes, open_writer, closed_writer, writer-same, length-open_rows}
use Rattle.tree_writer.proofs.Holding.{HoldsRows, holds-none, holds_text, holds_row, holds-number, holds_read, holds-filed}
use Rattle.tree_writer.proofs.Accepting.{StepAccepted, step-says, kept-open, kept-token}
use Rattle.tree_writer.proofs.Possible.{possible-open, possible-closed, possible-new}

-- ---- writers by their numbers

pub next-blocks : (r : OpenNodes) (k : ℕ) → blocks_with (open_depth r) (open_blocks r) ≡ open_blocks (under r k none)
unfolding count
next-blocks no_node k = refl
next-blocks (under no_node l f) k = refl
next-blocks (under (under o l f) m g) k =
    ap (λ b. cond b (count (root_forest (under o l f)) + 1 + 1) (count (root_forest (under o l f)) + 1)) (ne_eqb (open_depth o + 1 + 1) 1 (λ e. omega arith))

pub after-opens : (r : OpenNodes) (k x : ℕ) (b : List ℕ) → writer_after (open_writer r x) b (opens_node k) ≡ open_writer (under r k none) (length b)
unfolding writer_after with_step sizes texts_of
after-opens r k x b = writer-same refl (omega arith) (ap length (sym (append-nil (open_text r)))) (next-blocks r k) refl refl refl

pub added-blocks : (o : OpenNodes) (k : ℕ) (f : Forest) (u : Tree)
    → blocks_with (open_depth (under o k f)) (open_blocks (under o k f)) ≡ open_blocks (under o k (snoc f u))
added-blocks no_node k f u = sym (count-snoc f u)
added-blocks (under o l g) k f u =
    ap (λ b. cond b (open_blocks (under (under o l g) k f) + 1) (open_blocks (under (under o l g) k f))) (ne_eqb (open_depth o + 1 + 1) 1 (λ e. omega arith))

pub text-added : (o : OpenNodes) (k : ℕ) (f : Forest) (u : Tree) → open_text (under o k (snoc f u)) ≡ open_text (under o k f) ++ text_of u
text-added o k f u = ap (λ x. open_text o ++ x) (texts-snoc f u) ∙ sym (append_assoc (open_text o) (texts_of f) (text_of u))

rows-added : (o : OpenNodes) (k : ℕ) (f : Forest) (u : Tree) → open_rows (under o k (snoc f u)) ≡ open_rows (under o k f) ++ rows_of u
rows-added o k f u =
    ap (λ x. open_rows o ++ (k ∷ 0 ∷ 0 ∷ 0 ∷ four (innermost o) x)) (rows_snoc f u)
    ∙ sym (append_assoc (open_rows o) (k ∷ 0 ∷ 0 ∷ 0 ∷ four (innermost o) (rows_ofs f)) (rows_of u))

pub after-adds : (o : OpenNodes) (k : ℕ) (f : Forest) (j : ℕ) (s : List ℕ) (x : ℕ) (b : List ℕ)
    → writer_after (open_writer (under o k f) x) b (adds_token j s) ≡ open_writer (under o k (snoc f (token j s))) (length b)
unfolding writer_after with_step size text_of
after-adds o k f j s x b =
    writer-same refl (omega (arith, sizes-snoc f (token j s)))
    (sym (ap length (text-added o k f (token j s)) ∙ length-append (open_text (under o k f)) s)) (added-blocks o k f (token j s)) refl refl refl

closed-blocks : (o : OpenNodes) (k : ℕ) (f : Forest) (j : ℕ) (g : Forest) (u : Tree)
    → open_blocks (under (under o k f) j g) ≡ open_blocks (under o k (snoc f u))
closed-blocks no_node k f j g u = sym (count-snoc f u)
closed-blocks (under o l h) k f j g u = refl

-- the row of the node around an open one, read back from its row
inner-row : (o : OpenNodes) → innermost o ≤ open_count o
inner-row no_node = omega arith
inner-row (under o k f) = omega arith

inner-read : (o : OpenNodes) (k : ℕ) (f : Forest) (b : List ℕ) → size_with (length (open_text (under o k f))) (open_count (under o k f)) ≤ file_most
    → HoldsRows (open_rows (under o k f)) (open_text (under o k f)) b → back_number_at b (row_place b (open_count o)) ≡ innermost o
inner-read o k f b z h =
    holds_read (open_rows o) (rows_ofs f) (open_text (under o k f)) b k (innermost o) (row_place b (open_count o)) h
    (omega (arith, length-open_rows o)) (omega (arith, inner-row o))

pub after-closes : (o : OpenNodes) (k : ℕ) (f : Forest) (j : ℕ) (g : Forest) (x : ℕ) (b : List ℕ)
    → size_with (length (open_text (under (under o k f) j g))) (open_count (under (under o k f) j g)) ≤ file_most
    → HoldsRows (open_rows (under (under o k f) j g)) (open_text (under (under o k f) j g)) b
    → writer_after (open_writer (under (under o k f) j g) x) b closes_node ≡ open_writer (under o k (snoc f (node j g))) (length b)
unfolding writer_after with_step size text_of
after-closes o k f j g x b z h =
    writer-same refl (omega (arith, sizes-snoc f (node j g))) (ap length (sym (text-added o k f (node j g))))
    (closed-blocks o k f j g (node j g)) (omega arith) (inner-read (under o k f) j g b z h) refl

pub after-root : (k : ℕ) (f : Forest) (x : ℕ) (b : List ℕ) → size_with (length (open_text (under no_node k f))) (open_count (under no_node k f)) ≤ file_most
    → HoldsRows (open_rows (under no_node k f)) (open_text (under no_node k f)) b
    → writer_after (open_writer (under no_node k f) x) b closes_node ≡ closed_writer false f (length b)
unfolding writer_after with_step
after-root k f x b z h = writer-same refl (omega arith) refl refl refl (inner-read no_node k f b z h) refl

pub after_finish : (f : Forest) (x : ℕ) (b : List ℕ) → writer_after (closed_writer false f x) b finishes ≡ closed_writer true f (length b)
unfolding writer_after with_step
after_finish f x b = refl

-- ---- what is stood for

abbrev pub root_of : Forest → Tree
root_of f = node ScopeRoot f

-- open nodes within the limits
pub record KeptNodes (room : ℕ) (o : OpenNodes) (k : ℕ) (f : Forest) : Type 0 where
  pub sound : SoundNodes (under o k f)
  pub small : size_with (length (open_text (under o k f))) (open_count (under o k f)) ≤ file_most
  pub fits : size_with (length (open_text (under o k f))) (open_count (under o k f)) ≤ room
  pub few : open_blocks (under o k f) ≤ blocks_most

-- the root closed over elements within the limits
pub record WholeRoot (room : ℕ) (f : Forest) : Type 0 where
  pub sounds : Sounds f
  pub low : 1 + depths f ≤ depth_most
  pub small : size_with (length (texts_of f)) (1 + sizes f) ≤ file_most
  pub fits : size_with (length (texts_of f)) (1 + sizes f) ≤ room
  pub few : count f ≤ blocks_most

pub data WriterStands (room : ℕ) (so : List Step) (w : Writer) (b : List ℕ) : Type 0 where
  no_step_yet : so ≡ [] → w ≡ new_writer → WriterStands room so w b
  open_yet :
      (o : OpenNodes) (k : ℕ) (f : Forest) → KeptNodes room o k f → so ≡ open_steps (under o k f) → w ≡ open_writer (under o k f) room
      → HoldsRows (open_rows (under o k f)) (open_text (under o k f)) b → WriterStands room so w b
  root_yet :
      (f : Forest) → WholeRoot room f → so ≡ walk_of_tree (root_of f) → w ≡ closed_writer false f room → HoldsRows (rows_of (root_of f)) (texts_of f) b
      → WriterStands room so w b
  file_yet :
      (f : Forest) → WholeRoot room f → so ≡ walk_of_tree (root_of f) ++ (finishes ∷ []) → w ≡ closed_writer true f room
      → take (size_with (length (texts_of f)) (1 + sizes f)) b ≡ file_of (root_of f) → WriterStands room so w b

-- such a writer is one that steps can have left, and asks for its buffer
pub stands-possible : (room : ℕ) (so : List Step) (w : Writer) (b : List ℕ) → WriterStands room so w b → possible w ≡ true
stands-possible room so w b (no_step_yet p q) = ap possible q ∙ possible-new
stands-possible room so w b (open_yet o k f l p q h) = ap possible q ∙ possible-open o k f room l.sound l.small l.fits l.few
stands-possible room so w b (root_yet f l p q h) = ap possible q ∙ possible-closed false f room l.small l.fits l.few
stands-possible room so w b (file_yet f l p q h) = ap possible q ∙ possible-closed true f room l.small l.fits l.few

pub room-same : (w v : Writer) (b : List ℕ) → w ≡ v → length b ≡ v.room → same_room w b ≡ true
room-same w v b q e =
    ap (λ x. cond (eqb x.rows 0) true (eqb (length b) x.room)) q
    ∙ ap (λ x. cond (eqb v.rows 0) true x) (eq-eqb (length b) v.room e) ∙ either (eqb v.rows 0)
  where
    either : (t : Bool) → cond t true true ≡ true
    either true = refl
    either false = refl

pub stands-room : (room : ℕ) (so : List Step) (w : Writer) (b : List ℕ) → WriterStands room so w b → length b ≡ room → same_room w b ≡ true
stands-room room so w b (no_step_yet p q) e = ap (λ x. same_room x b) q
stands-room room so w b (open_yet o k f l p q h) e = room-same w (open_writer (under o k f) room) b q e
stands-room room so w b (root_yet f l p q h) e = room-same w (closed_writer false f room) b q e
stands-room room so w b (file_yet f l p q h) e = room-same w (closed_writer true f room) b q e

-- ---- an accepted step leads on

steps-opens : (r : OpenNodes) (k : ℕ) → open_steps r ++ (opens_node k ∷ []) ≡ open_steps (under r k none)
unfolding walk_of_forest
steps-opens r k = refl

steps-added : (o : OpenNodes) (k : ℕ) (f : Forest) (u : Tree) → open_steps (under o k f) ++ walk_of_tree u ≡ open_steps (under o k (snoc f u))
steps-added o k f u =
    append_assoc (open_steps o) (opens_node k ∷ walk_of_forest f) (walk_of_tree u) ∙ ap (λ x. open_steps o ++ (opens_node k ∷ x)) (sym (walks_snoc f u))

steps-closes : (o : OpenNodes) (j : ℕ) (g : Forest) → open_steps (under o j g) ++ (closes_node ∷ []) ≡ open_steps o ++ walk_of_tree (node j g)
unfolding walk_of_tree
steps-closes o j g = append_assoc (open_steps o) (opens_node j ∷ walk_of_forest g) (closes_node ∷ [])

pub sound-opens : (r : OpenNodes) (k : ℕ) → SoundNodes r → T (is_node k) → open_depth r + 1 ≤ depth_most → RootIs r k → SoundNodes (under r k none)
unfolding Sounds depths
sound-opens r k g n d i = (g, (n, (tt, (omega arith, i))))

pub sound-added : (o : OpenNodes) (k : ℕ) (f : Forest) (u : Tree) → SoundNodes (under o k f) → Sound u → open_depth o + 1 + depth u ≤ depth_most
    → SoundNodes (under o k (snoc f u))
sound-added o k f u g s d =
    (g.0, (g.1.0, (sounds-snoc f u g.1.1.0 s, (omega (arith, depths-snoc f u, g.1.1.1.0), g.1.1.1.1))))

-- the bytes of each step, on what was held
pub holds-opens : (r : OpenNodes) (k x : ℕ) (b : List ℕ) → HoldsRows (open_rows r) (open_text r) b
    → size_with (length (open_text (under r k none))) (open_count (under r k none)) ≤ length b
    → HoldsRows (open_rows (under r k none)) (open_text (under r k none)) (buffer_after (open_writer r x) b (opens_node k))
unfolding buffer_after rows_ofs texts_of sizes
holds-opens r k x b h l =
    let n = append-nil (open_text r) in
    let e = ap length n in
    let v = back_row k 0 (innermost r) in
    subst (λ t. HoldsRows (open_rows (under r k none)) t (sets b (row_place b (open_count r)) v)) (sym n)
    (holds_row (open_rows r) (open_text r) b (k ∷ 0 ∷ 0 ∷ 0 ∷ four (innermost r) []) v (row_place b (open_count r)) h refl refl
    (omega (arith, length-open_rows r)) (omega (arith, length-open_rows r, e)))

pub holds-adds : (o : OpenNodes) (k : ℕ) (f : Forest) (j : ℕ) (s : List ℕ) (x : ℕ) (b : List ℕ) → HoldsRows (open_rows (under o k f)) (open_text (under o k f)) b
    → size_with (length (open_text (under o k (snoc f (token j s))))) (open_count (under o k (snoc f (token j s)))) ≤ length b
    → HoldsRows (open_rows (under o k (snoc f (token j s)))) (open_text (under o k (snoc f (token j s))))
    (buffer_after (open_writer (under o k f) x) b (adds_token j s))
unfolding buffer_after rows_of text_of size
holds-adds o k f j s x b h l =
    let r = under o k f in
    let u = token j s in
    let t = length (open_text r) in
    let la = ap length (text-added o k f u) ∙ length-append (open_text r) s in
    let ls = sizes-snoc f u in
    let lr = length-open_rows r in
    let lb = length-sets b t s in
    let y = holds_text (open_rows r) (open_text r) b s h (omega arith) in
    let v = back_row j 1 (length s) in
    let c = sets (sets b t s) (row_place b (open_count r)) v in
    subst (λ x. HoldsRows x (open_text (under o k (snoc f u))) c) (sym (rows-added o k f u))
    (subst (λ y. HoldsRows (open_rows r ++ rows_of u) y c) (sym (text-added o k f u))
    (holds_row (open_rows r) (open_text r ++ s) (sets b t s) (rows_of u) v (row_place b (open_count r)) y refl refl (omega arith)
    (omega (arith, length-append (open_text r) s))))

pub holds-closes : (o : OpenNodes) (j : ℕ) (g : Forest) (x : ℕ) (b : List ℕ) → HoldsRows (open_rows (under o j g)) (open_text (under o j g)) b
    → HoldsRows (open_rows o ++ rows_of (node j g)) (open_text o ++ text_of (node j g)) (buffer_after (open_writer (under o j g) x) b closes_node)
unfolding buffer_after rows_of text_of
holds-closes o j g x b h =
    let w = open_writer (under o j g) x in
    let p = row_place b (open_count o) in
    let m : w.rows - 1 - w.inner ≡ sizes g = omega arith in
    subst (HoldsRows (open_rows o ++ rows_of (node j g)) (open_text o ++ texts_of g)) (ap (λ n. sets b p (back_number n)) (sym m))
    (holds-number (open_rows o) (rows_ofs g) (open_text (under o j g)) b j (innermost o) (sizes g) p h (omega (arith, length-open_rows o)))

pub holds-shut : (o : OpenNodes) (k : ℕ) (f : Forest) (j : ℕ) (g : Forest) (x : ℕ) (b : List ℕ)
    → HoldsRows (open_rows (under (under o k f) j g)) (open_text (under (under o k f) j g)) b
    → HoldsRows (open_rows (under o k (snoc f (node j g)))) (open_text (under o k (snoc f (node j g))))
    (buffer_after (open_writer (under (under o k f) j g) x) b closes_node)
holds-shut o k f j g x b h =
    let r = under o k f in
    let u = node j g in
    let c = buffer_after (open_writer (under r j g) x) b closes_node in
    subst (λ x. HoldsRows x (open_text (under o k (snoc f u))) c) (sym (rows-added o k f u))
    (subst (λ y. HoldsRows (open_rows r ++ rows_of u) y c) (sym (text-added o k f u)) (holds-closes r j g x b h))

pub finished-file : (f : Forest) (x : ℕ) (b : List ℕ) → HoldsRows (rows_of (root_of f)) (texts_of f) b
    → take (size_with (length (texts_of f)) (1 + sizes f)) (buffer_after (closed_writer false f x) b finishes) ≡ file_of (root_of f)
unfolding buffer_after file_of text_of size
finished-file f x b h = holds-filed (rows_of (root_of f)) (texts_of f) b (1 + sizes f) h (length-rows (root_of f))

-- ---- case by case

from-none : (b : List ℕ) (k : ℕ) → StepAccepted (length b) (so_far new_writer) (opens_node k)
    → WriterStands (length b) (opens_node k ∷ []) (writer_after new_writer b (opens_node k)) (buffer_after new_writer b (opens_node k))
unfolding sizes texts_of walk_of_forest count
from-none b k a =
    let p = (and-eq-true_iff (is_node k) (eqb k ScopeRoot)).0 a.placed in
    let l = kept-open (length b) (so_far new_writer) k a in
    let z = l.fits in
    open_yet no_node k none
    (record {
      sound = sound-opens no_node k tt (is_T (is_node k) p.0) (omega arith) (eqb-true k ScopeRoot p.1);
      small = omega arith;
      fits = omega arith;
      few = omega arith;
    }) refl (after-opens no_node k 0 b) (holds-opens no_node k 0 b (holds-none b (omega arith)) (omega arith))

module _ (o : OpenNodes) (k : ℕ) (f : Forest) (b : List ℕ) (c : KeptNodes (length b) o k f)
    (h : HoldsRows (open_rows (under o k f)) (open_text (under o k f)) b) where
  abbrev Here : Writer
  Here = open_writer (under o k f) (length b)

  from-opens : (j : ℕ) → StepAccepted (length b) (so_far Here) (opens_node j)
      → WriterStands (length b) (open_steps (under o k f) ++ (opens_node j ∷ [])) (writer_after Here b (opens_node j)) (buffer_after Here b (opens_node j))
  unfolding sizes texts_of
  from-opens j a =
      let r = under o k f in
      let p = (and-eq-true_iff (is_node j) (cond (eqb Here.depth 0) (eqb Here.rows 0 && eqb j ScopeRoot) true)).0 a.placed in
      let l = kept-open (length b) (so_far Here) j a in
      let n = ap length (append-nil (open_text r)) in
      let bl = next-blocks r j in
      open_yet r j none
      (record {
        sound = sound-opens r j c.sound (is_T (is_node j) p.0) l.low tt;
        small = omega (arith, l.small);
        fits = omega (arith, l.fits);
        few = omega (arith, l.few);
      }) (steps-opens r j) (after-opens r j (length b) b) (holds-opens r j (length b) b h (omega (arith, l.fits)))

  from-adds : (j : ℕ) (s : List ℕ) → StepAccepted (length b) (so_far Here) (adds_token j s)
      → WriterStands (length b) (open_steps (under o k f) ++ (adds_token j s ∷ [])) (writer_after Here b (adds_token j s)) (buffer_after Here b (adds_token j s))
  unfolding size text_of Sound depth walk_of_tree
  from-adds j s a =
      let r = under o k f in
      let u = token j s in
      let p = (and-eq-true_iff (token_fits j s) (leb 1 Here.depth)).0 a.placed in
      let l = kept-token (length b) (so_far Here) j s a in
      let lt = ap length (text-added o k f u) ∙ length-append (open_text r) s in
      let ls = sizes-snoc f u in
      let bl = added-blocks o k f u in
      open_yet o k (snoc f u)
      (record {
        sound = sound-added o k f u c.sound (is_T (token_fits j s) p.0) (omega (arith, l.low));
        small = omega (arith, l.small);
        fits = omega (arith, l.fits);
        few = omega (arith, l.few);
      }) (steps-added o k f u) (after-adds o k f j s (length b) b) (holds-adds o k f j s (length b) b h (omega (arith, l.fits)))

-- a node under another
from-closes : (o : OpenNodes) (k : ℕ) (f : Forest) (j : ℕ) (g : Forest) (b : List ℕ) → KeptNodes (length b) (under o k f) j g
    → HoldsRows (open_rows (under (under o k f) j g)) (open_text (under (under o k f) j g)) b
    → WriterStands (length b) (open_steps (under (under o k f) j g) ++ (closes_node ∷ []))
    (writer_after (open_writer (under (under o k f) j g) (length b)) b closes_node)
    (buffer_after (open_writer (under (under o k f) j g) (length b)) b closes_node)
unfolding size text_of Sound depth
from-closes o k f j g b c h =
    let r = under o k f in
    let u = node j g in
    let w = c.sound in
    let d = w.1.1.1.0 in
    let z = c.small in
    let y = c.fits in
    let few = c.few in
    let lt = ap length (text-added o k f u) in
    let ls = sizes-snoc f u in
    let bl = closed-blocks o k f j g u in
    open_yet o k (snoc f u)
    (record {
      sound = sound-added o k f u w.0 (w.1.0, w.1.1.0) (omega arith);
      small = omega arith;
      fits = omega arith;
      few = omega arith;
    }) (steps-closes r j g ∙ steps-added o k f u) (after-closes o k f j g (length b) b z h) (holds-shut o k f j g (length b) b h)

from-root : (k : ℕ) (f : Forest) (b : List ℕ) → KeptNodes (length b) no_node k f → HoldsRows (open_rows (under no_node k f)) (open_text (under no_node k f)) b
    → WriterStands (length b) (open_steps (under no_node k f) ++ (closes_node ∷ [])) (writer_after (open_writer (under no_node k f) (length b)) b closes_node)
    (buffer_after (open_writer (under no_node k f) (length b)) b closes_node)
unfolding text_of
from-root k f b c h =
    let w = c.sound in
    let e : k ≡ ScopeRoot = w.1.1.1.1 in
    let d = w.1.1.1.0 in
    let z = c.small in
    let y = c.fits in
    root_yet f (record { sounds = w.1.1.0; low = omega arith; small = omega arith; fits = omega arith; few = c.few })
    (steps-closes no_node k f ∙ ap (λ n. walk_of_tree (node n f)) e) (after-root k f (length b) b z h)
    (subst (λ n. HoldsRows (rows_of (node n f)) (texts_of f) (buffer_after (open_writer (under no_node k f) (length b)) b closes_node)) e
    (holds-closes no_node k f (length b) b h))

from-finish : (f : Forest) (b : List ℕ) → WholeRoot (length b) f → HoldsRows (rows_of (root_of f)) (texts_of f) b
    → WriterStands (length b) (walk_of_tree (root_of f) ++ (finishes ∷ [])) (writer_after (closed_writer false f (length b)) b finishes)
    (buffer_after (closed_writer false f (length b)) b finishes)
from-finish f b w h = file_yet f w refl (after_finish f (length b) b) (finished-file f (length b) b h)

-- ---- any accepted step

step-open : (o : OpenNodes) (k : ℕ) (f : Forest) (b : List ℕ) (s : Step) → KeptNodes (length b) o k f
    → HoldsRows (open_rows (under o k f)) (open_text (under o k f)) b
    → StepAccepted (length b) (so_far (open_writer (under o k f) (length b))) s
    → WriterStands (length b) (open_steps (under o k f) ++ (s ∷ [])) (writer_after (open_writer (under o k f) (length b)) b s)
    (buffer_after (open_writer (under o k f) (length b)) b s)
step-open o k f b (opens_node j) c h a = from-opens o k f b c h j a
step-open o k f b (adds_token j s) c h a = from-adds o k f b c h j s a
step-open no_node k f b closes_node c h a = from-root k f b c h
step-open (under o l i) k f b closes_node c h a = from-closes o l i k f b c h
step-open o k f b finishes c h a =
    let r = under o k f in
    let p = ((and-eq-true_iff (leb 1 (open_count r)) (eqb (open_depth r) 0)).0 a.placed).1 in
    absurd (let q = eqb-true (open_depth r) 0 p in omega arith)

step-root : (f : Forest) (b : List ℕ) (s : Step) → WholeRoot (length b) f → HoldsRows (rows_of (root_of f)) (texts_of f) b
    → StepAccepted (length b) (so_far (closed_writer false f (length b))) s
    → WriterStands (length b) (walk_of_tree (root_of f) ++ (s ∷ [])) (writer_after (closed_writer false f (length b)) b s)
    (buffer_after (closed_writer false f (length b)) b s)
step-root f b (opens_node j) w h a =
    let p = ((and-eq-true_iff (is_node j) (eqb (1 + sizes f) 0 && eqb j ScopeRoot)).0 a.placed).1 in
    let q = eqb-true (1 + sizes f) 0 ((and-eq-true_iff (eqb (1 + sizes f) 0) (eqb j ScopeRoot)).0 p).0 in
    absurd (omega arith)
step-root f b (adds_token j s) w h a = fails-holds refl ((and-eq-true_iff (token_fits j s) false).0 a.placed).1
step-root f b closes_node w h a = fails-holds refl a.placed
step-root f b finishes w h a = from-finish f b w h

step-none : (b : List ℕ) (s : Step) → StepAccepted (length b) (so_far new_writer) s
    → WriterStands (length b) (s ∷ []) (writer_after new_writer b s) (buffer_after new_writer b s)
step-none b (opens_node k) a = from-none b k a
step-none b (adds_token j s) a = fails-holds refl ((and-eq-true_iff (token_fits j s) false).0 a.placed).1
step-none b closes_node a = fails-holds refl a.placed
step-none b finishes a = fails-holds refl a.placed

step-on : {so so' : List Step} {w w' : Writer} (b : List ℕ) (s : Step) → so ≡ so' → w ≡ w'
    → (StepAccepted (length b) (so_far w') s → WriterStands (length b) (so' ++ (s ∷ [])) (writer_after w' b s) (buffer_after w' b s))
    → StepAccepted (length b) (so_far w) s → WriterStands (length b) (so ++ (s ∷ [])) (writer_after w b s) (buffer_after w b s)
step-on {so} {so'} {w} {w'} b s p q h =
    subst (λ l. StepAccepted (length b) (so_far w) s → WriterStands (length b) (l ++ (s ∷ [])) (writer_after w b s) (buffer_after w b s)) (sym p)
    (subst (λ v. StepAccepted (length b) (so_far v) s → WriterStands (length b) (so' ++ (s ∷ [])) (writer_after v b s) (buffer_after v b s)) (sym q) h)

step-accepted : (so : List Step) (w : Writer) (b : List ℕ) (s : Step) → WriterStands (length b) so w b → StepAccepted (length b) (so_far w) s
    → WriterStands (length b) (so ++ (s ∷ [])) (writer_after w b s) (buffer_after w b s)
step-accepted so w b s (no_step_yet p q) = step-on b s p q (step-none b s)
step-accepted so w b s (open_yet o k f c p q h) = step-on b s p q (step-open o k f b s c h)
step-accepted so w b s (root_yet f c p q h) = step-on b s p q (step-root f b s c h)
step-accepted so w b s (file_yet f c p q h) = λ a. fails-holds a.unfinished (ap (λ x. x.finished) q)

pub step-stands : (so : List Step) (w : Writer) (b : List ℕ) (s : Step) → WriterStands (length b) so w b → step_answer (length b) (so_far w) s ≡ 0
    → WriterStands (length b) (so ++ (s ∷ [])) (writer_after w b s) (buffer_after w b s)
step-stands so w b s h e = step-accepted so w b s h (step-says (length b) (so_far w) s e)
