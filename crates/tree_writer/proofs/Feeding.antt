-- Open nodes within the limits, fed in step by step, are accepted throughout: so is the walk of a tree, and its file comes out.
use mathlib.Core.Path.{◌≡◌, refl, sym, ap, subst, ◌∙◌}
use mathlib.Core.Bool.{Bool, true, false, ◌&&◌, cond}
use mathlib.Core.Option.Option.{some}
use mathlib.Core.List.{List, [], ◌∷◌, ◌++◌, append_assoc, append-nil}
use Prim.Native.Nat.{ℕ, ◌+◌, ◌≤◌}
use native.Mathlib.Omega.{arith}
use lib.Dec.{T, eqb}
use borrow.Author.Tests.{ne_eqb, le-leb}
use lib.ListN.{length, replicate, length-append, replicate-append-replicate}
use lib.Seq.{take_all}
use Rattle.text.specs.Numbers.{Bytes}
use Rattle.text.specs.Trailer.{file_most}
use Rattle.mitex_syntax.specs.Syntax.{ScopeRoot, is_node}
use Rattle.mitex_syntax.specs.Tree.{Tree, Forest, size, sizes, rows_of, text_of, texts_of, count, file_of}
use Rattle.mitex_syntax.specs.Tree.Tree.{token, node}
use Rattle.mitex_syntax.specs.Tree.Forest.{none, more}
use Rattle.mitex_syntax.specs.Spells.{token_fits, Sound, Sounds}
use Rattle.tree_file.specs.Layout.{blocks_most, decode, Laid, Rooted}
use Rattle.tree_file.specs.Depth.{depth, depths, depth_most}
use Rattle.tree_file.proofs.Rows.{T-is}
use Rattle.tree_file.proofs.Decode.{decode-sound}
use Rattle.tree_writer.specs.Steps.{Step, opens_node, adds_token, closes_node, finishes, walk_of_tree, walk_of_forest}
use Rattle.tree_writer.specs.SoFar.{size_with, blocks_with, is_in_place, step_limit, step_answer}
use Rattle.tree_writer.specs.Writers.{new_writer, so_far, possible, same_room, answer_step}
use Rattle.tree_writer.specs.Buffers.{buffer_after, writer_after, StepResult}
use Rattle.tree_writer.specs.Runs.{StepRun, run_from, run_steps, ComesOut}
use Rattle.tree_writer.specs.declared.Writer.{Writer}
use Rattle.tree_writer.proofs.Tests.{two-hold}
use Rattle.tree_writer.proofs.OpenNodes.{snoc, sizes-snoc, OpenNodes, no_node, under, open_steps, open_text, open_count, open_depth, open_rows}
use Rattle.tree_writer.proofs.OpenNodes.{open_blocks, SoundNodes, open_writer, closed_writer}
use Rattle.tree_writer.proofs.Holding.{HoldsRows, holds-none}
use Rattle.tree_writer.proofs.Accepting.{limits-none, step-when, answer-possible, step-done}
use Rattle.tree_writer.proofs.Possible.{possible-open, possible-closed, possible-new}
use Rattle.tree_writer.proofs.Standing.{next-blocks, added-blocks, text-added, after-opens, after-adds, after-closes, after-root, after_finish}
use Rattle.tree_writer.proofs.Standing.{sound-opens, sound-added, holds-opens, holds-adds, holds-closes, holds-shut, finished-file}
use Rattle.tree_writer.proofs.Standing.{KeptNodes, WholeRoot, root_of, room-same}
use Rattle.tree_writer.proofs.Answering.{length-buffer_after}
use Rattle.tree_writer.proofs.Finishing.{length-file}

-- ---- runs that are accepted

-- n steps accepted before a run
abbrev accepted_ahead : ℕ → StepRun → StepRun
accepted_ahead n r = record { answers = replicate n 0 ++ r.answers; writer = r.writer; buffer = r.buffer }

ahead-ahead : (n m : ℕ) (r : StepRun) → accepted_ahead n (accepted_ahead m r) ≡ accepted_ahead (n + m) r
ahead-ahead n m r =
    ap (λ l. record { answers = l; writer = r.writer; buffer = r.buffer })
    (sym (append_assoc (replicate n 0) (replicate m 0) r.answers) ∙ ap (λ l. l ++ r.answers) (replicate-append-replicate n m 0))

abbrev answer_ahead : ℕ → StepRun → StepRun
answer_ahead n r = record { answers = n ∷ r.answers; writer = r.writer; buffer = r.buffer }

run-one : (w v : Writer) (b : List ℕ) (s : Step) (ss : List Step) → answer_step w b s ≡ 0 → writer_after w b s ≡ v
    → run_from w b (s ∷ ss) ≡ accepted_ahead 1 (run_from v (buffer_after w b s) ss)
unfolding run_from
run-one w v b s ss e q =
    ap (λ (x : StepResult). answer_ahead x.number (run_from x.writer x.buffer ss)) (step-done w b s e)
    ∙ ap (λ x. accepted_ahead 1 (run_from x (buffer_after w b s) ss)) q

accept : (w : Writer) (b : List ℕ) (s : Step) (room : ℕ) → possible w ≡ true → same_room w b ≡ true → length b ≡ room → w.finished ≡ false
    → is_in_place (so_far w) s ≡ true → step_limit room (so_far w) s ≡ 0 → answer_step w b s ≡ 0
accept w b s room p r l f i e =
    answer-possible w b s p r ∙ ap (λ n. step_answer n (so_far w) s) l ∙ step-when room (so_far w) s f i e

-- ---- what is still to come

-- how many blocks n elements under open nodes are
abbrev blocks_under : OpenNodes → ℕ → ℕ
blocks_under no_node n = n
blocks_under (under o k f) n = 0

-- open nodes in a buffer, with text, rows and blocks still to come that all have room, and no row of them too deep
record CanFeed (room : ℕ) (o : OpenNodes) (k : ℕ) (f : Forest) (b : List ℕ) (text rows blocks deep : ℕ) : Type 0 where
  pub long : length b ≡ room
  pub sound : SoundNodes (under o k f)
  pub holds : HoldsRows (open_rows (under o k f)) (open_text (under o k f)) b
  pub small : size_with (length (open_text (under o k f)) + text) (open_count (under o k f) + rows) ≤ file_most
  pub fits : size_with (length (open_text (under o k f)) + text) (open_count (under o k f) + rows) ≤ room
  pub few : open_blocks (under o k f) + blocks ≤ blocks_most
  pub low : open_depth (under o k f) + deep ≤ depth_most

-- steps that are all accepted and lead from a writer and its buffer to open nodes
record FedBy (room : ℕ) (w : Writer) (b : List ℕ) (steps : List Step) (r : OpenNodes) : Type 0 where
  pub buffer : List ℕ
  pub long : length buffer ≡ room
  pub sound : SoundNodes r
  pub holds : HoldsRows (open_rows r) (open_text r) buffer
  pub runs : (ss : List Step) → run_from w b (steps ++ ss) ≡ accepted_ahead (length steps) (run_from (open_writer r room) buffer ss)

fed_then : (room : ℕ) (w : Writer) (b : List ℕ) (x y : List Step) (r r' : OpenNodes) → (p : FedBy room w b x r)
    → FedBy room (open_writer r room) p.buffer y r' → FedBy room w b (x ++ y) r'
fed_then room w b x y r r' p q =
    record {
      buffer = q.buffer;
      long = q.long;
      sound = q.sound;
      holds = q.holds;
      runs = λ ss.
          ap (run_from w b) (append_assoc x y ss) ∙ p.runs (y ++ ss) ∙ ap (accepted_ahead (length x)) (q.runs ss)
          ∙ ahead-ahead (length x) (length y) (run_from (open_writer r' room) q.buffer ss)
          ∙ ap (λ n. accepted_ahead n (run_from (open_writer r' room) q.buffer ss)) (sym (length-append x y));
    }

-- ---- one step

accept-open : (room : ℕ) (o : OpenNodes) (k : ℕ) (f : Forest) (b : List ℕ) (s : Step) → KeptNodes room o k f → length b ≡ room
    → is_in_place (so_far (open_writer (under o k f) room)) s ≡ true → step_limit room (so_far (open_writer (under o k f) room)) s ≡ 0
    → answer_step (open_writer (under o k f) room) b s ≡ 0
accept-open room o k f b s c l i e =
    let v = open_writer (under o k f) room in
    accept v b s room (possible-open o k f room c.sound c.small c.fits c.few) (room-same v v b refl l) l refl i e

still : {room : ℕ} {o : OpenNodes} {k : ℕ} {f : Forest} {b : List ℕ} {t n m d : ℕ} → CanFeed room o k f b t n m d → KeptNodes room o k f
still c =
    let x = c.small in
    let y = c.fits in
    let z = c.few in
    record { sound = c.sound; small = omega arith; fits = omega arith; few = omega arith }

blocks-token : (o : OpenNodes) (k : ℕ) (f : Forest) (u : Tree) → open_blocks (under o k f) + blocks_under o 1 ≤ blocks_most
    → blocks_with (open_depth (under o k f)) (open_blocks (under o k f)) ≤ blocks_most
blocks-token no_node k f u h = h
blocks-token (under o l g) k f u h = omega (arith, added-blocks (under o l g) k f u)

module _ (room : ℕ) (o : OpenNodes) (k : ℕ) (f : Forest) (b : List ℕ) where
  fed-none : length b ≡ room → SoundNodes (under o k f) → HoldsRows (open_rows (under o k f)) (open_text (under o k f)) b
      → FedBy room (open_writer (under o k f) room) b [] (under o k f)
  fed-none l g h = record { buffer = b; long = l; sound = g; holds = h; runs = λ ss. refl }

  fed-token : (j : ℕ) (s : List ℕ) → T (token_fits j s) → CanFeed room o k f b (length s) 1 (blocks_under o 1) 1
      → FedBy room (open_writer (under o k f) room) b (adds_token j s ∷ []) (under o k (snoc f (token j s)))
  unfolding size text_of Sound depth
  fed-token j s h c =
      let r = under o k f in
      let v = open_writer r room in
      let u = token j s in
      let x = c.small in
      let y = c.fits in
      let d = c.low in
      let l = c.long in
      let lt = ap length (text-added o k f u) ∙ length-append (open_text r) s in
      let ls = sizes-snoc f u in
      let e =
      accept-open room o k f b (adds_token j s) (still c) l (two-hold (T-is (token_fits j s) h) (le-leb 1 (open_depth r) (omega arith)))
      (limits-none room (size_with (v.text + length s) (v.rows + 1)) (blocks_with v.depth v.blocks) (v.depth + 1) (omega arith)
      (blocks-token o k f u c.few) (omega arith) (omega arith)) in
      record {
        buffer = buffer_after v b (adds_token j s);
        long = length-buffer_after v b (adds_token j s) ∙ l;
        sound = sound-added o k f u c.sound h (omega arith);
        holds = holds-adds o k f j s room b c.holds (omega arith);
        runs = λ ss.
            run-one v (open_writer (under o k (snoc f u)) room) b (adds_token j s) ss e (after-adds o k f j s room b ∙ ap (open_writer (under o k (snoc f u))) l);
      }

-- a node opened: the root, or one under others
fed-opens : (room : ℕ) (r : OpenNodes) (x : ℕ) (b : List ℕ) (k : ℕ) → answer_step (open_writer r x) b (opens_node k) ≡ 0 → length b ≡ room
    → SoundNodes (under r k none) → HoldsRows (open_rows r) (open_text r) b
    → size_with (length (open_text (under r k none))) (open_count (under r k none)) ≤ room
    → FedBy room (open_writer r x) b (opens_node k ∷ []) (under r k none)
fed-opens room r x b k e l g h z =
    let v = open_writer r x in
    record {
      buffer = buffer_after v b (opens_node k);
      long = length-buffer_after v b (opens_node k) ∙ l;
      sound = g;
      holds = holds-opens r k x b h (omega arith);
      runs = λ ss. run-one v (open_writer (under r k none) room) b (opens_node k) ss e (after-opens r k x b ∙ ap (open_writer (under r k none)) l);
    }

fed-root : (room : ℕ) (b : List ℕ) (k : ℕ) → k ≡ ScopeRoot → length b ≡ room → 16 ≤ room → FedBy room new_writer b (opens_node k ∷ []) (under no_node k none)
unfolding sizes texts_of
fed-root room b k q l z =
    subst (λ k. FedBy room new_writer b (opens_node k ∷ []) (under no_node k none)) (sym q)
    (fed-opens room no_node 0 b ScopeRoot
    (accept new_writer b (opens_node ScopeRoot) room possible-new refl l refl refl (limits-none room 16 0 1 (omega arith) (omega arith) (omega arith) z)) l
    (sound-opens no_node ScopeRoot tt tt (omega arith) refl) (holds-none b (omega arith)) (omega arith))

blocks-opens : (o : OpenNodes) (k : ℕ) (f : Forest) (j : ℕ) (g : Forest) → open_blocks (under o k f) + blocks_under o 1 ≤ blocks_most
    → open_blocks (under (under o k f) j g) ≤ blocks_most
blocks-opens no_node k f j g h = h
blocks-opens (under o l i) k f j g h = omega arith

fed-node : (room : ℕ) (o : OpenNodes) (k : ℕ) (f : Forest) (b : List ℕ) (j n t d : ℕ) → T (is_node j) → CanFeed room o k f b t (1 + n) (blocks_under o 1) (1 + d)
    → FedBy room (open_writer (under o k f) room) b (opens_node j ∷ []) (under (under o k f) j none)
unfolding sizes texts_of
fed-node room o k f b j n t d h c =
    let r = under o k f in
    let v = open_writer r room in
    let lt = ap length (append-nil (open_text r)) in
    let x = c.small in
    let y = c.fits in
    let z = c.low in
    let few = blocks-opens o k f j none c.few in
    fed-opens room r room b j
    (accept-open room o k f b (opens_node j) (still c) c.long
    (two-hold (T-is (is_node j) h) (ap (λ t. cond t (eqb v.rows 0 && eqb j ScopeRoot) true) (ne_eqb (open_depth r) 0 (λ z. omega arith))))
    (limits-none room (size_with (v.text + 0) (v.rows + 1)) (blocks_with v.depth v.blocks) (v.depth + 1) (omega arith)
    (omega (arith, next-blocks r j)) (omega arith) (omega arith))) c.long
    (sound-opens r j c.sound h (omega arith) tt) c.holds (omega arith)

-- what can still be fed under the node
can-under : (room : ℕ) (o : OpenNodes) (k : ℕ) (f : Forest) (b : List ℕ) (j n t d : ℕ) → CanFeed room o k f b t (1 + n) (blocks_under o 1) (1 + d)
    → (p : FedBy room (open_writer (under o k f) room) b (opens_node j ∷ []) (under (under o k f) j none))
    → CanFeed room (under o k f) j none p.buffer t n 0 d
unfolding sizes texts_of
can-under room o k f b j n t d c p =
    let lt = ap length (append-nil (open_text (under o k f))) in
    let x = c.small in
    let y = c.fits in
    let z = c.low in
    let few = blocks-opens o k f j none c.few in
    record { long = p.long; sound = p.sound; holds = p.holds; small = omega arith; fits = omega arith; few = omega arith; low = omega arith }

-- a node closed
fed-close : (room : ℕ) (o : OpenNodes) (k : ℕ) (f : Forest) (j : ℕ) (g : Forest) (b : List ℕ) → KeptNodes room (under o k f) j g → length b ≡ room
    → HoldsRows (open_rows (under (under o k f) j g)) (open_text (under (under o k f) j g)) b
    → FedBy room (open_writer (under (under o k f) j g) room) b (closes_node ∷ []) (under o k (snoc f (node j g)))
unfolding Sound depth
fed-close room o k f j g b c l h =
    let r = under o k f in
    let v = open_writer (under r j g) room in
    let u = node j g in
    let w = c.sound in
    let d = w.1.1.1.0 in
    let e = accept-open room r j g b closes_node c l (le-leb 1 v.depth (omega arith)) refl in
    record {
      buffer = buffer_after v b closes_node;
      long = length-buffer_after v b closes_node ∙ l;
      sound = sound-added o k f u w.0 (w.1.0, w.1.1.0) (omega arith);
      holds = holds-shut o k f j g room b h;
      runs = λ ss.
          run-one v (open_writer (under o k (snoc f u)) room) b closes_node ss e
          (after-closes o k f j g room b c.small h ∙ ap (open_writer (under o k (snoc f u))) l);
    }

-- ---- elements one after the other

abbrev appended : Forest → Forest → Forest
appended h none = h
appended h (more t g) = appended (snoc h t) g

abbrev joined : Forest → Forest → Forest
joined none g = g
joined (more t f) g = more t (joined f g)

joined-none : (f : Forest) → joined f none ≡ f
joined-none none = refl
joined-none (more t f) = ap (more t) (joined-none f)

joined_snoc : (f : Forest) (t : Tree) (g : Forest) → joined (snoc f t) g ≡ joined f (more t g)
unfolding snoc
joined_snoc none t g = refl
joined_snoc (more u f) t g = ap (more u) (joined_snoc f t g)

appended-joined : (g h : Forest) → appended h g ≡ joined h g
appended-joined none h = sym (joined-none h)
appended-joined (more t g) h = appended-joined g (snoc h t) ∙ joined_snoc h t g

appended-none : (g : Forest) → appended none g ≡ g
appended-none g = appended-joined g none

blocks-first : (o : OpenNodes) (k : ℕ) (f : Forest) (n : ℕ) → open_blocks (under o k f) + blocks_under o (1 + n) ≤ blocks_most
    → open_blocks (under o k f) + blocks_under o 1 ≤ blocks_most
blocks-first no_node k f n h = omega arith
blocks-first (under o l g) k f n h = h

blocks-then : (o : OpenNodes) (k : ℕ) (f : Forest) (t : Tree) (n : ℕ) → open_blocks (under o k f) + blocks_under o (1 + n) ≤ blocks_most
    → open_blocks (under o k (snoc f t)) + blocks_under o n ≤ blocks_most
blocks-then no_node k f t n h = omega (arith, added-blocks no_node k f t)
blocks-then (under o l g) k f t n h = h

module _ (room : ℕ) where
  abbrev FeedsTree : Tree → Type 0
  FeedsTree t =
      (o : OpenNodes) (k : ℕ) (f : Forest) (b : List ℕ) → CanFeed room o k f b (length (text_of t)) (size t) (blocks_under o 1) (depth t)
      → FedBy room (open_writer (under o k f) room) b (walk_of_tree t) (under o k (snoc f t))

  abbrev FeedsForest : Forest → Type 0
  FeedsForest g =
      (o : OpenNodes) (k : ℕ) (f : Forest) (b : List ℕ) → CanFeed room o k f b (length (texts_of g)) (sizes g) (blocks_under o (count g)) (depths g)
      → FedBy room (open_writer (under o k f) room) b (walk_of_forest g) (under o k (appended f g))

  -- all that lies under a node
  fed-under : (g : Forest) → FeedsForest g → (o : OpenNodes) (k : ℕ) (f : Forest) (b : List ℕ) (j : ℕ) → T (is_node j)
      → CanFeed room o k f b (length (texts_of g)) (1 + sizes g) (blocks_under o 1) (1 + depths g)
      → FedBy room (open_writer (under o k f) room) b (opens_node j ∷ walk_of_forest g) (under (under o k f) j g)
  fed-under g feeds o k f b j h c =
      let r = under o k f in
      let p = fed-node room o k f b j (sizes g) (length (texts_of g)) (depths g) h c in
      let q = feeds r j none p.buffer (can-under room o k f b j (sizes g) (length (texts_of g)) (depths g) c p) in
      fed_then room (open_writer r room) b (opens_node j ∷ []) (walk_of_forest g) (under r j none) (under r j g) p
      (subst (λ x. FedBy room (open_writer (under r j none) room) p.buffer (walk_of_forest g) (under r j x)) (appended-none g) q)

  feeds-node : (j : ℕ) (g : Forest) → T (is_node j) → FeedsForest g → FeedsTree (node j g)
  unfolding text_of size depth walk_of_tree
  feeds-node j g h feeds o k f b c =
      let r = under o k f in
      let p = fed-under g feeds o k f b j h c in
      let lt = length-append (open_text r) (texts_of g) in
      let x = c.small in
      let y = c.fits in
      fed_then room (open_writer r room) b (opens_node j ∷ walk_of_forest g) (closes_node ∷ []) (under r j g) (under o k (snoc f (node j g))) p
      (fed-close room o k f j g p.buffer
      (record { sound = p.sound; small = omega arith; fits = omega arith; few = blocks-opens o k f j g c.few }) p.long p.holds)

  feeds-more : (t : Tree) (g : Forest) → FeedsTree t → FeedsForest g → FeedsForest (more t g)
  unfolding texts_of sizes count depths walk_of_forest
  feeds-more t g one rest o k f b c =
      let la = length-append (text_of t) (texts_of g) in
      let x = c.small in
      let y = c.fits in
      let d = c.low in
      let p = one o k f b
      (record {
        long = c.long;
        sound = c.sound;
        holds = c.holds;
        small = omega arith;
        fits = omega arith;
        few = blocks-first o k f (count g) c.few;
        low = omega arith;
      }) in
      let lt = ap length (text-added o k f t) ∙ length-append (open_text (under o k f)) (text_of t) in
      let ls = sizes-snoc f t in
      fed_then room (open_writer (under o k f) room) b (walk_of_tree t) (walk_of_forest g) (under o k (snoc f t)) (under o k (appended (snoc f t) g)) p
      (rest o k (snoc f t) p.buffer
      (record {
        long = p.long;
        sound = p.sound;
        holds = p.holds;
        small = omega arith;
        fits = omega arith;
        few = blocks-then o k f t (count g) c.few;
        low = omega arith;
      }))

  mutual
    unfolding Sound text_of size depth walk_of_tree

    feeds-tree : (t : Tree) → Sound t → FeedsTree t
    feeds-tree (token j s) h o k f b c = fed-token room o k f b j s h c
    feeds-tree (node j g) h o k f b c = feeds-node j g h.0 (λ o' k' f' b' c'. feeds-forest g h.1 o' k' f' b' c') o k f b c

    feeds-forest : (g : Forest) → Sounds g → FeedsForest g
    feeds-forest none h o k f b c = fed-none room o k f b c.long c.sound c.holds
    feeds-forest (more t g) h o k f b c =
        feeds-more t g (λ o' k' f' b' c'. feeds-tree t h.0 o' k' f' b' c') (λ o' k' f' b' c'. feeds-forest g h.1 o' k' f' b' c') o k f b c

-- ---- all open nodes, from the empty start

blocks-outer : (o : OpenNodes) (l : ℕ) (g : Forest) (k : ℕ) (f : Forest) → open_blocks (under (under o l g) k f) ≤ blocks_most
    → open_blocks (under o l g) + blocks_under o 1 ≤ blocks_most
blocks-outer no_node l g k f h = h
blocks-outer (under o m i) l g k f h = omega arith

fed-blocks : (k : ℕ) (f : Forest) (b : List ℕ) → KeptNodes (length b) no_node k f
    → FedBy (length b) new_writer b (open_steps (under no_node k f)) (under no_node k f)
unfolding sizes texts_of count
fed-blocks k f b c =
    let room = length b in
    let w = c.sound in
    let x = c.small in
    let y = c.fits in
    let d = w.1.1.1.0 in
    let few = c.few in
    let p = fed-root room b k w.1.1.1.1 refl (omega arith) in
    let q =
    feeds-forest room f w.1.1.0 no_node k none p.buffer
    (record { long = p.long; sound = p.sound; holds = p.holds; small = omega arith; fits = omega arith; few = omega arith; low = omega arith }) in
    fed_then room new_writer b (opens_node k ∷ []) (walk_of_forest f) (under no_node k none) (under no_node k f) p
    (subst (λ x. FedBy room (open_writer (under no_node k none) room) p.buffer (walk_of_forest f) (under no_node k x)) (appended-none f) q)

kept-outer : (room : ℕ) (o : OpenNodes) (l : ℕ) (g : Forest) (k : ℕ) (f : Forest) → KeptNodes room (under o l g) k f → KeptNodes room o l g
kept-outer room o l g k f c =
    let x = c.small in
    let y = c.fits in
    let z = blocks-outer o l g k f c.few in
    let lt = length-append (open_text (under o l g)) (texts_of f) in
    record { sound = c.sound.0; small = omega arith; fits = omega arith; few = omega arith }

fed-deeper : (o : OpenNodes) (l : ℕ) (g : Forest) (k : ℕ) (f : Forest) (b : List ℕ) → KeptNodes (length b) (under o l g) k f
    → FedBy (length b) new_writer b (open_steps (under o l g)) (under o l g)
    → FedBy (length b) new_writer b (open_steps (under (under o l g) k f)) (under (under o l g) k f)
fed-deeper o l g k f b c p =
    let room = length b in
    let r = under o l g in
    let w = c.sound in
    let x = c.small in
    let y = c.fits in
    let d = w.1.1.1.0 in
    let lt = length-append (open_text r) (texts_of f) in
    fed_then room new_writer b (open_steps r) (opens_node k ∷ walk_of_forest f) r (under r k f) p
    (fed-under room f (feeds-forest room f w.1.1.0) o l g p.buffer k w.1.0
    (record {
      long = p.long;
      sound = p.sound;
      holds = p.holds;
      small = omega arith;
      fits = omega arith;
      few = blocks-outer o l g k f c.few;
      low = omega arith;
    }))

fed-open : (o : OpenNodes) (k : ℕ) (f : Forest) (b : List ℕ) → KeptNodes (length b) o k f
    → FedBy (length b) new_writer b (open_steps (under o k f)) (under o k f)
fed-open no_node k f b c = fed-blocks k f b c
fed-open (under o l g) k f b c = fed-deeper o l g k f b c (fed-open o l g b (kept-outer (length b) o l g k f c))

pub feed-open : (o : OpenNodes) (k : ℕ) (f : Forest) (b : List ℕ) → SoundNodes (under o k f)
    → size_with (length (open_text (under o k f))) (open_count (under o k f)) ≤ file_most
    → size_with (length (open_text (under o k f))) (open_count (under o k f)) ≤ length b → open_blocks (under o k f) ≤ blocks_most
    → (run_steps b (open_steps (under o k f))).writer ≡ open_writer (under o k f) (length b)
unfolding run_from
feed-open o k f b s z r few =
    let c = fed-open o k f b (record { sound = s; small = z; fits = r; few = few }) in
    ap (λ l. (run_steps b l).writer) (sym (append-nil (open_steps (under o k f)))) ∙ ap (λ (x : StepRun). x.writer) (c.runs [])

-- ---- the root closed, and finished

module _ (f : Forest) (b : List ℕ) (c : WholeRoot (length b) f) where
  kept-root : KeptNodes (length b) no_node ScopeRoot f
  kept-root =
      let x = c.small in
      let y = c.fits in
      let d = c.low in
      record { sound = (tt, (tt, (c.sounds, (omega arith, refl)))); small = omega arith; fits = omega arith; few = c.few }

  opened : FedBy (length b) new_writer b (opens_node ScopeRoot ∷ walk_of_forest f) (under no_node ScopeRoot f)
  opened = fed-open no_node ScopeRoot f b kept-root

  -- the buffer after the close
  abbrev root_buffer : List ℕ
  root_buffer = buffer_after (open_writer (under no_node ScopeRoot f) (length b)) opened.buffer closes_node

  long-closed : length root_buffer ≡ length b
  long-closed = length-buffer_after (open_writer (under no_node ScopeRoot f) (length b)) opened.buffer closes_node ∙ opened.long

  held-closed : HoldsRows (rows_of (root_of f)) (texts_of f) root_buffer
  unfolding text_of
  held-closed = holds-closes no_node ScopeRoot f (length b) opened.buffer opened.holds

  close-runs : (ss : List Step) → run_from (open_writer (under no_node ScopeRoot f) (length b)) opened.buffer (closes_node ∷ ss)
      ≡ accepted_ahead 1 (run_from (closed_writer false f (length b)) root_buffer ss)
  close-runs ss =
      let v = open_writer (under no_node ScopeRoot f) (length b) in
      let l = opened.long in
      run-one v (closed_writer false f (length b)) opened.buffer closes_node ss
      (accept-open (length b) no_node ScopeRoot f opened.buffer closes_node kept-root l refl refl)
      (after-root ScopeRoot f (length b) opened.buffer kept-root.small opened.holds ∙ ap (closed_writer false f) l)

  root-runs : (ss : List Step) → run_steps b (walk_of_tree (root_of f) ++ ss)
      ≡ accepted_ahead (length (walk_of_tree (root_of f))) (run_from (closed_writer false f (length b)) root_buffer ss)
  unfolding walk_of_tree
  root-runs ss =
      let m = length (opens_node ScopeRoot ∷ walk_of_forest f) in
      let r = run_from (closed_writer false f (length b)) root_buffer ss in
      let n : m + 1 ≡ length (walk_of_tree (root_of f)) = omega (arith, length-append (walk_of_forest f) (closes_node ∷ [])) in
      ap (λ l. run_steps b (opens_node ScopeRoot ∷ l)) (append_assoc (walk_of_forest f) (closes_node ∷ []) ss)
      ∙ opened.runs (closes_node ∷ ss) ∙ ap (accepted_ahead m) (close-runs ss) ∙ ahead-ahead m 1 r ∙ ap (λ k. accepted_ahead k r) n

  -- the buffer after the finish
  abbrev file_buffer : List ℕ
  file_buffer = buffer_after (closed_writer false f (length b)) root_buffer finishes

  finish-runs : run_from (closed_writer false f (length b)) root_buffer (finishes ∷ [])
      ≡ record { answers = 0 ∷ []; writer = closed_writer true f (length b); buffer = file_buffer }
  unfolding run_from
  finish-runs =
      let v = closed_writer false f (length b) in
      let l = long-closed in
      run-one v (closed_writer true f (length b)) root_buffer finishes []
      (accept v root_buffer finishes (length b) (possible-closed false f (length b) c.small c.fits c.few) (room-same v v root_buffer refl l) l refl
      (two-hold (le-leb 1 (1 + sizes f) (omega arith)) refl) refl) (after_finish f (length b) root_buffer ∙ ap (closed_writer true f) l)

  whole-runs : run_steps b (walk_of_tree (root_of f) ++ (finishes ∷ []))
      ≡ record { answers = replicate (length (walk_of_tree (root_of f)) + 1) 0; writer = closed_writer true f (length b); buffer = file_buffer }
  whole-runs =
      let n = length (walk_of_tree (root_of f)) in
      root-runs (finishes ∷ []) ∙ ap (accepted_ahead n) finish-runs
      ∙ ap (λ l. record { answers = l; writer = closed_writer true f (length b); buffer = file_buffer }) (replicate-append-replicate n 1 0)

  file-out : length b ≡ length (file_of (root_of f)) → file_buffer ≡ file_of (root_of f)
  file-out e =
      let n = size_with (length (texts_of f)) (1 + sizes f) in
      let l = length-buffer_after (closed_writer false f (length b)) root_buffer finishes in
      sym (take_all n file_buffer (omega (arith, l, long-closed, e, length-file f))) ∙ finished-file f (length b) root_buffer held-closed

pub feed-closed : (f : Forest) (b : List ℕ) → Sounds f → 1 + depths f ≤ depth_most → size_with (length (texts_of f)) (1 + sizes f) ≤ file_most
    → size_with (length (texts_of f)) (1 + sizes f) ≤ length b → count f ≤ blocks_most
    → (run_steps b (walk_of_tree (root_of f))).writer ≡ closed_writer false f (length b)
unfolding run_from
feed-closed f b s d z r few =
    let c : WholeRoot (length b) f = record { sounds = s; low = d; small = z; fits = r; few = few } in
    ap (λ l. (run_steps b l).writer) (sym (append-nil (walk_of_tree (root_of f)))) ∙ ap (λ (x : StepRun). x.writer) (root-runs f b c [])

pub feed-finished : (f : Forest) (b : List ℕ) → Sounds f → 1 + depths f ≤ depth_most → size_with (length (texts_of f)) (1 + sizes f) ≤ file_most
    → size_with (length (texts_of f)) (1 + sizes f) ≤ length b → count f ≤ blocks_most
    → (run_steps b (walk_of_tree (root_of f) ++ (finishes ∷ []))).writer ≡ closed_writer true f (length b)
feed-finished f b s d z r few =
    ap (λ (x : StepRun). x.writer) (whole-runs f b (record { sounds = s; low = d; small = z; fits = r; few = few }))

-- ---- every file that passes 3 and 4

of-root : (file b : List ℕ) (f : Forest) → count f ≤ blocks_most → depth (root_of f) ≤ depth_most → length b ≡ length file → Laid (root_of f) file
    → ComesOut file b (root_of f)
unfolding depth Sound
of-root file b f few low e l =
    let z = ap length l.bytes ∙ length-file f in
    let s = l.short in
    let c : WholeRoot (length b) f = record { sounds = l.sound.1; low = low; small = omega arith; fits = omega arith; few = few } in
    let w = whole-runs f b c in
    record {
      answers = ap (λ (x : StepRun). x.answers) w;
      bytes = ap (λ (x : StepRun). x.buffer) w ∙ file-out f b c (e ∙ ap length l.bytes) ∙ sym l.bytes;
    }

laid_out : (file b : List ℕ) (t : Tree) → Laid t file → Rooted t → depth t ≤ depth_most → length b ≡ length file → ComesOut file b t
laid_out file b (token k s) l r d e = absurd r
laid_out file b (node k f) l r d e =
    subst (λ n. Laid (node n f) file → ComesOut file b (node n f)) (sym r.0)
    (of-root file b f r.1 (subst (λ n. depth (node n f) ≤ depth_most) r.0 d) e) l

pub file-comes-out :
    (file : List ℕ) → Bytes file → (t : Tree) → decode file ≡ some t → depth t ≤ depth_most → (b : List ℕ) → length b ≡ length file → ComesOut file b t
file-comes-out file by t e d b l = let w = decode-sound file by t e in laid_out file b t w w.rooted d l
