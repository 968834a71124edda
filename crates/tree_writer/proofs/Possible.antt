-- The test of writers: a writer that steps have left passes it, since its numbers are those of open nodes or of the closed root; and what
-- the test says of a writer that passes.
use mathlib.Core.Path.{◌≡◌, refl, sym, ap, ◌∙◌}
use mathlib.Core.Bool.{Bool, true, false, ◌&&◌, cond, and-eq-true_iff}
use Prim.Native.Nat.{ℕ, ◌+◌, ◌-◌, ◌≤◌, ◌<◌}
use native.Mathlib.Omega.{arith}
use native.Mathlib.Decide.{dec_le, ℕ_discrete}
use lib.Dec.{eqb, leb, ltb}
use borrow.Author.Tests.{eq-eqb, ne_eqb, eqb-true, le-leb, lt-leb, leb-true, lt-ltb, ltb-true}
use lib.ListN.{length, length-append}
use Rattle.text.specs.Trailer.{file_most}
use Rattle.mitex_syntax.specs.Tree.{Forest, sizes, texts_of, count}
use Rattle.mitex_syntax.specs.Tree.Tree.{token, node}
use Rattle.mitex_syntax.specs.Tree.Forest.{none, more}
use Rattle.mitex_syntax.proofs.Trees.{size-some}
use Rattle.tree_file.specs.Layout.{blocks_most}
use Rattle.tree_file.specs.Depth.{depth, depths, depth_most}
use Rattle.tree_writer.specs.SoFar.{size_with}
use Rattle.tree_writer.specs.Writers.{new_writer, is_new, within_limits, text_fits, can_be, at_root}
use Rattle.tree_writer.specs.Writers.{block_stands, deepest_fits, in_block, opened_fits, finished_fits, possible}
use Rattle.tree_writer.specs.declared.Writer.{Writer}
use Rattle.tree_writer.proofs.Accepting.{LimitsKept}
use Rattle.tree_writer.proofs.Tests.{two-hold, new-says, within-says}
use Rattle.tree_writer.proofs.OpenNodes.{OpenNodes, no_node, under, open_text, open_count, open_depth}
use Rattle.tree_writer.proofs.OpenNodes.{root_forest, open_blocks, SoundNodes, open_writer, closed_writer, writer-same}

-- ---- tests in a row

three-hold : {a b c : Bool} → a ≡ true → b ≡ true → c ≡ true → a && (b && c) ≡ true
three-hold p q r = two-hold p (two-hold q r)

four-hold : {a b c d : Bool} → a ≡ true → b ≡ true → c ≡ true → d ≡ true → a && (b && (c && d)) ≡ true
four-hold p q r s = two-hold p (three-hold q r s)

-- where there is a row, the tests but the first decide
possible-rows : (w : Writer) → 1 ≤ w.rows → within_limits w ≡ true → text_fits w ≡ true → opened_fits w ≡ true → finished_fits w ≡ true
    → possible w ≡ true
unfolding possible
possible-rows w h l t o f =
    ap (λ x. cond x (is_new w) (within_limits w && (text_fits w && (opened_fits w && finished_fits w)))) (ne_eqb w.rows 0 (λ e. omega arith))
    ∙ four-hold l t o f

limits-hold : (w : Writer) → size_with w.text w.rows ≤ file_most → size_with w.text w.rows ≤ w.room → w.blocks ≤ blocks_most
    → w.depth ≤ depth_most → within_limits w ≡ true
limits-hold w s r b d =
    four-hold (le-leb (size_with w.text w.rows) file_most s) (le-leb (size_with w.text w.rows) w.room r)
    (le-leb w.blocks blocks_most b) (le-leb w.depth depth_most d)

-- ---- text

text-holds : (w : Writer) → (1 ≤ w.text → (1 < w.rows) × (w.depth < w.rows)) → text_fits w ≡ true
text-holds w h =
    let tests = ltb 1 w.rows && ltb w.depth w.rows in
    elim (ℕ_discrete w.text 0) [
      | yes p ↦ ap (λ b. cond b true tests) (eq-eqb w.text 0 p)
      | no p ↦
          let g = h (omega arith) in
          ap (λ b. cond b true tests) (ne_eqb w.text 0 p) ∙ two-hold (lt-ltb 1 w.rows g.0) (lt-ltb w.depth w.rows g.1)
    ]

texts-rows : (f : Forest) → 1 ≤ length (texts_of f) → 1 ≤ sizes f
unfolding texts_of sizes
texts-rows none h = absurd (omega arith)
texts-rows (more t f) h = omega (arith, size-some t)

depth-rows : (o : OpenNodes) → open_depth o ≤ open_count o
depth-rows no_node = omega arith
depth-rows (under o k f) = omega (arith, depth-rows o)

text-rows : (o : OpenNodes) → 1 ≤ length (open_text o) → open_depth o < open_count o
text-rows no_node h = absurd (omega arith)
text-rows (under o k f) h =
    elim (dec_le 1 (length (texts_of f))) [
      | yes p ↦ omega (arith, texts-rows f p, depth-rows o)
      | no p ↦ omega (arith, text-rows o (omega (arith, length-append (open_text o) (texts_of f))))
    ]

-- ---- blocks and rows

count-sizes : (f : Forest) → (count f ≤ sizes f) × (count f ≡ 0 → sizes f ≡ 0)
unfolding count sizes
count-sizes none = (omega arith, λ e. refl)
count-sizes (more t f) = (omega (arith, (count-sizes f).0, size-some t), λ e. absurd (omega arith))

can-be : (c n : ℕ) → c ≤ n → (c ≡ 0 → n ≡ 0) → can_be c n ≡ true
can-be c n h z =
    two-hold (le-leb c n h)
    (elim (ℕ_discrete c 0) [
      | yes p ↦ ap (λ b. cond b (eqb n 0) true) (eq-eqb c 0 p) ∙ eq-eqb n 0 (z p)
      | no p ↦ ap (λ b. cond b (eqb n 0) true) (ne_eqb c 0 p)
    ])

forest-can : (f : Forest) (n : ℕ) → n ≡ sizes f → can_be (count f) n ≡ true
forest-can f n e =
    let w = count-sizes f in
    can-be (count f) n (omega (arith, w.0)) (λ z. e ∙ w.1 z)

-- the closed blocks and the open nodes are rows
root-rows : (o : OpenNodes) (k : ℕ) (f : Forest) → count (root_forest (under o k f)) + open_depth (under o k f) ≤ open_count (under o k f)
root-rows no_node k f = omega (arith, (count-sizes f).0)
root-rows (under o j h) k f = omega (arith, root-rows o j h)

no-depth : (f : Forest) → depths f ≤ 0 → sizes f ≡ 0
unfolding depths sizes depth
no-depth none h = refl
no-depth (more (token k s) f) h = absurd (omega arith)
no-depth (more (node k g) f) h = absurd (omega arith)

-- ---- the tests of open nodes, by numbers

at-root-holds : (w : Writer) → w.depth ≤ 1 → w.inner ≡ 0 → can_be w.blocks (w.rows - 1) ≡ true → opened_fits w ≡ true
at-root-holds w d i c =
    ap (λ x. cond x (at_root w) (in_block w)) (le-leb w.depth 1 d) ∙ two-hold (eq-eqb w.inner 0 i) c

deepest-holds : (w : Writer) → (w.depth ≡ depth_most → w.rows ≡ w.inner + 1) → deepest_fits w ≡ true
deepest-holds w h =
    elim (ℕ_discrete w.depth depth_most) [
      | yes p ↦ ap (λ b. cond b (eqb w.rows (w.inner + 1)) true) (eq-eqb w.depth depth_most p) ∙ eq-eqb w.rows (w.inner + 1) (h p)
      | no p ↦ ap (λ b. cond b (eqb w.rows (w.inner + 1)) true) (ne_eqb w.depth depth_most p)
    ]

in-block-holds : (w : Writer) → 2 ≤ w.depth → 1 ≤ w.blocks → w.inner < w.rows → block_stands w ≡ true
    → (w.depth ≡ depth_most → w.rows ≡ w.inner + 1) → opened_fits w ≡ true
in-block-holds w d b i s h =
    ap (λ x. cond x (at_root w) (in_block w)) (lt-leb w.depth 1 (omega arith))
    ∙ four-hold (le-leb 1 w.blocks b) (lt-ltb w.inner w.rows i) s (deepest-holds w h)

block-holds : (w : Writer) → w.blocks + (w.depth - 2) ≤ w.inner → (w.depth ≡ 2 → w.blocks ≡ 1 → w.inner ≡ 1) → block_stands w ≡ true
block-holds w h one =
    two-hold (le-leb (w.blocks + (w.depth - 2)) w.inner h)
    (elim (ℕ_discrete w.depth 2) [
      | yes p ↦ ap (λ x. cond (x && eqb w.blocks 1) (eqb w.inner 1) true) (eq-eqb w.depth 2 p)
          ∙ elim (ℕ_discrete w.blocks 1) [
            | yes q ↦ ap (λ x. cond x (eqb w.inner 1) true) (eq-eqb w.blocks 1 q) ∙ eq-eqb w.inner 1 (one p q)
            | no q ↦ ap (λ x. cond x (eqb w.inner 1) true) (ne_eqb w.blocks 1 q)
          ]
      | no p ↦ ap (λ x. cond (x && eqb w.blocks 1) (eqb w.inner 1) true) (ne_eqb w.depth 2 p)
    ])

-- the first block is row 1
first_block : (o : OpenNodes) (j : ℕ) (h : Forest) → open_depth (under o j h) + 1 ≡ 2 → count (root_forest (under o j h)) + 1 ≡ 1
    → open_count (under o j h) ≡ 1
first_block no_node j h d c = omega (arith, (count-sizes h).1 (omega arith))
first_block (under o i g) j h d c = absurd (omega arith)

opened-open : (o : OpenNodes) (k : ℕ) (f : Forest) (room : ℕ) → SoundNodes (under o k f) → opened_fits (open_writer (under o k f) room) ≡ true
opened-open no_node k f room s =
    let w = open_writer (under no_node k f) room in
    at-root-holds w (omega arith) refl (forest-can f (w.rows - 1) (omega arith))
opened-open (under o j h) k f room s =
    let w = open_writer (under (under o j h) k f) room in
    in-block-holds w (omega arith) (omega arith) (omega arith) (block-holds w (omega (arith, root-rows o j h)) (first_block o j h))
    (λ e. omega (arith, no-depth f (omega (arith, s.1.1.1.0))))

-- ---- the three

pub possible-new : possible new_writer ≡ true
unfolding possible
possible-new = refl

pub possible-open : (o : OpenNodes) (k : ℕ) (f : Forest) (room : ℕ) → SoundNodes (under o k f)
    → size_with (length (open_text (under o k f))) (open_count (under o k f)) ≤ file_most
    → size_with (length (open_text (under o k f))) (open_count (under o k f)) ≤ room → open_blocks (under o k f) ≤ blocks_most
    → possible (open_writer (under o k f) room) ≡ true
possible-open o k f room s small fits few =
    let w = open_writer (under o k f) room in
    possible-rows w (omega arith) (limits-hold w small fits few (omega (arith, s.1.1.1.0)))
    (text-holds w (λ h. (omega (arith, text-rows (under o k f) h), text-rows (under o k f) h)))
    (opened-open o k f room s) refl

pub possible-closed : (b : Bool) (f : Forest) (room : ℕ) → size_with (length (texts_of f)) (1 + sizes f) ≤ file_most
    → size_with (length (texts_of f)) (1 + sizes f) ≤ room → count f ≤ blocks_most → possible (closed_writer b f room) ≡ true
possible-closed b f room small fits few =
    let w = closed_writer b f room in
    possible-rows w (omega arith) (limits-hold w small fits few (omega arith)) (text-holds w (λ h. (omega (arith, texts-rows f h), omega arith)))
    (at-root-holds w (omega arith) refl (forest-can f (w.rows - 1) (omega arith))) (root-closed b)
  where
    root-closed : (b : Bool) → cond b (eqb 0 0) true ≡ true
    root-closed true = refl
    root-closed false = refl

-- ---- what the test says

-- at most the root is open, or a block is
pub data OpenedAs (w : Writer) : Type 0 where
  opened_at_root : w.depth ≤ 1 → w.inner ≡ 0 → w.blocks ≤ w.rows - 1 → (w.blocks ≡ 0 → w.rows - 1 ≡ 0) → OpenedAs w
  opened_in_block :
      2 ≤ w.depth → 1 ≤ w.blocks → w.inner < w.rows → w.blocks + (w.depth - 2) ≤ w.inner → (w.depth ≡ 2 → w.blocks ≡ 1 → w.inner ≡ 1)
      → (w.depth ≡ depth_most → w.rows ≡ w.inner + 1) → OpenedAs w

pub record PossibleRows (w : Writer) : Type 0 where
  pub within : LimitsKept w.room (size_with w.text w.rows) w.blocks w.depth
  pub worded : 1 ≤ w.text → (1 < w.rows) × (w.depth < w.rows)
  pub opened : OpenedAs w
  pub ended : w.finished ≡ true → w.depth ≡ 0

-- a test that is asked where the first holds
asked : {a b : Bool} → a ≡ true → cond a b true ≡ true → b ≡ true
asked {a} {b} p e = sym (ap (λ x. cond x b true) p) ∙ e

text_says : (w : Writer) → text_fits w ≡ true → 1 ≤ w.text → (1 < w.rows) × (w.depth < w.rows)
text_says w e h =
    let tests = ltb 1 w.rows && ltb w.depth w.rows in
    let both = (and-eq-true_iff (ltb 1 w.rows) (ltb w.depth w.rows)).0
    (sym (ap (λ b. cond b true tests) (ne_eqb w.text 0 (λ z. omega arith))) ∙ e) in
    (ltb-true 1 w.rows both.0, ltb-true w.depth w.rows both.1)

root-says : (w : Writer) → w.depth ≤ 1 → at_root w ≡ true → OpenedAs w
root-says w d e =
    let a = (and-eq-true_iff (eqb w.inner 0) (can_be w.blocks (w.rows - 1))).0 e in
    let c = (and-eq-true_iff (leb w.blocks (w.rows - 1)) (cond (eqb w.blocks 0) (eqb (w.rows - 1) 0) true)).0 a.1 in
    opened_at_root d (eqb-true w.inner 0 a.0) (leb-true w.blocks (w.rows - 1) c.0)
    (λ z. eqb-true (w.rows - 1) 0 (asked (eq-eqb w.blocks 0 z) c.1))

block-says : (w : Writer) → 2 ≤ w.depth → in_block w ≡ true → OpenedAs w
block-says w d e =
    let a = (and-eq-true_iff (leb 1 w.blocks) (ltb w.inner w.rows && (block_stands w && deepest_fits w))).0 e in
    let b = (and-eq-true_iff (ltb w.inner w.rows) (block_stands w && deepest_fits w)).0 a.1 in
    let c = (and-eq-true_iff (block_stands w) (deepest_fits w)).0 b.1 in
    let first = eqb w.depth 2 && eqb w.blocks 1 in
    let s = (and-eq-true_iff (leb (w.blocks + (w.depth - 2)) w.inner) (cond first (eqb w.inner 1) true)).0 c.0 in
    opened_in_block d (leb-true 1 w.blocks a.0) (ltb-true w.inner w.rows b.0) (leb-true (w.blocks + (w.depth - 2)) w.inner s.0)
    (λ p q. eqb-true w.inner 1 (asked (two-hold (eq-eqb w.depth 2 p) (eq-eqb w.blocks 1 q)) s.1))
    (λ p. eqb-true w.rows (w.inner + 1) (asked (eq-eqb w.depth depth_most p) c.1))

opened-says : (w : Writer) → opened_fits w ≡ true → OpenedAs w
opened-says w e =
    elim (dec_le w.depth 1) [
      | yes d ↦ root-says w d (sym (ap (λ x. cond x (at_root w) (in_block w)) (le-leb w.depth 1 d)) ∙ e)
      | no d ↦ block-says w (omega arith) (sym (ap (λ x. cond x (at_root w) (in_block w)) (lt-leb w.depth 1 (omega arith))) ∙ e)
    ]

pub possible-says : (w : Writer) → possible w ≡ true → 1 ≤ w.rows → PossibleRows w
unfolding possible
possible-says w e h =
    let tests = within_limits w && (text_fits w && (opened_fits w && finished_fits w)) in
    let a = (and-eq-true_iff (within_limits w) (text_fits w && (opened_fits w && finished_fits w))).0
    (sym (ap (λ x. cond x (is_new w) tests) (ne_eqb w.rows 0 (λ z. omega arith))) ∙ e) in
    let b = (and-eq-true_iff (text_fits w) (opened_fits w && finished_fits w)).0 a.1 in
    let c = (and-eq-true_iff (opened_fits w) (finished_fits w)).0 b.1 in
    record {
      within = within-says w a.0;
      worded = text_says w b.0;
      opened = opened-says w c.0;
      ended = λ f. eqb-true w.depth 0 (asked f c.1);
    }

-- a writer with no rows is new
pub possible-none : (w : Writer) → possible w ≡ true → w.rows ≡ 0 → w ≡ new_writer
unfolding possible
possible-none w e z =
    let tests = within_limits w && (text_fits w && (opened_fits w && finished_fits w)) in
    let n = new-says w (sym (ap (λ x. cond x (is_new w) tests) (eq-eqb w.rows 0 z)) ∙ e) in
    writer-same n.unfinished z n.text n.blocks n.depth n.inner n.room
