-- Every writer that passes the test is left by some steps: from its numbers open nodes are built that have them, of groups alone but for
-- one word with all the text.
use mathlib.Core.Path.{◌≡◌, refl, sym, ap, subst, ◌∙◌}
use mathlib.Core.Bool.{Bool, true, false, ◌&&◌}
use mathlib.Core.List.{List, [], ◌∷◌, ◌++◌}
use Prim.Native.Nat.{ℕ, zero, suc, ◌+◌, ◌-◌, ◌≤◌, ◌<◌, max}
use native.Mathlib.Omega.{arith}
use native.Mathlib.Decide.{dec_le, ℕ_discrete}
use lib.Dec.{T, eqb}
use borrow.Author.Tests.{le-leb}
use lib.ListN.{length, replicate, length-append, length-replicate}
use Rattle.utf8.specs.Utf8.{char_steps, valid, whole}
use Rattle.mitex_syntax.specs.Syntax.{ScopeRoot, ItemCurly, TokenWord}
use Rattle.mitex_syntax.specs.Tree.{Tree, Forest, size, sizes, text_of, texts_of, count}
use Rattle.mitex_syntax.specs.Tree.Tree.{token, node}
use Rattle.mitex_syntax.specs.Tree.Forest.{none, more}
use Rattle.mitex_syntax.specs.Spells.{token_fits, Sound, Sounds}
use Rattle.tree_file.proofs.Rows.{is_T}
use Rattle.tree_file.specs.Depth.{depth, depths, depth_most}
use Rattle.tree_writer.specs.Steps.{finishes, walk_of_tree}
use Rattle.tree_writer.specs.SoFar.{size_with}
use Rattle.tree_writer.specs.Writers.{possible}
use Rattle.tree_writer.specs.Runs.{run_from, LeftBySteps}
use Rattle.tree_writer.specs.declared.Writer.{Writer}
use Rattle.tree_writer.proofs.OpenNodes.{OpenNodes, no_node, under, open_steps, open_text, open_count, open_depth}
use Rattle.tree_writer.proofs.OpenNodes.{root_forest, open_blocks, RootIs, SoundNodes, open_writer, closed_writer, writer-same}
use Rattle.tree_writer.proofs.Possible.{PossibleRows, OpenedAs, opened_at_root, opened_in_block, possible-says, possible-none}
use Rattle.tree_writer.proofs.Standing.{WholeRoot, root_of}
use Rattle.tree_writer.proofs.Feeding.{feed-open, feed-closed, feed-finished}

-- ---- groups side by side and in each other

data Groups : Type 0 where
  no_groups : Groups
  put : Groups → Groups → Groups

abbrev rows_in : Groups → ℕ
rows_in no_groups = 0
rows_in (put g s) = 1 + rows_in g + rows_in s

abbrev wide_in : Groups → ℕ
wide_in no_groups = 0
wide_in (put g s) = 1 + wide_in s

abbrev deep_in : Groups → ℕ
deep_in no_groups = 0
deep_in (put g s) = max (1 + deep_in g) (deep_in s)

-- n side by side
abbrev line : ℕ → Groups
line zero = no_groups
line (suc n) = put no_groups (line n)

-- n rows as c blocks: the first has the rows that the others leave
abbrev blocks_by : ℕ → ℕ → Groups
blocks_by zero n = no_groups
blocks_by (suc c) n = put (line (n - suc c)) (line c)

line-rows : (n : ℕ) → (rows_in (line n) ≡ n) × ((wide_in (line n) ≡ n) × (deep_in (line n) ≤ 1))
line-rows zero = (refl, (refl, omega arith))
line-rows (suc n) =
    let w = line-rows n in
    (omega (arith, w.0), (omega (arith, w.1.0), omega (arith, w.1.1)))

blocks-rows : (c n : ℕ) → c ≤ n → (c ≡ 0 → n ≡ 0) → (rows_in (blocks_by c n) ≡ n) × ((wide_in (blocks_by c n) ≡ c) × (deep_in (blocks_by c n) ≤ 2))
blocks-rows zero n h z = (sym (z refl), (refl, omega arith))
blocks-rows (suc c) n h z =
    let v = line-rows (n - suc c) in
    let w = line-rows c in
    (omega (arith, v.0, w.0), (omega (arith, w.1.0), omega (arith, v.1.1, w.1.1)))

-- ---- as elements, the first that is empty as a word of t bytes

abbrev word : ℕ → Tree
word t = token TokenWord (replicate t 97)

unfoldable bare : Groups → Forest
bare no_groups = none
bare (put g s) = more (node ItemCurly (bare g)) (bare s)

unfoldable worded : Groups → ℕ → Forest
worded no_groups t = none
worded (put no_groups s) t = more (word t) (bare s)
worded (put (put g h) s) t = more (node ItemCurly (worded (put g h) t)) (bare s)

abbrev filled : Groups → ℕ → Forest
filled s zero = bare s
filled s (suc t) = worded s (suc t)

-- how much of t bytes they take
abbrev given : Groups → ℕ → ℕ
given no_groups t = 0
given (put g s) t = t

record Fills (s : Groups) (t : ℕ) (f : Forest) : Type 0 where
  counted : count f ≡ wide_in s
  sized : sizes f ≡ rows_in s
  deep : depths f ≡ deep_in s
  sounds : Sounds f
  texted : length (texts_of f) ≡ given s t

-- the letter a, so often, is UTF-8
letters : (n : ℕ) → char_steps whole (replicate n 97) ≡ whole
unfolding char_steps
letters zero = refl
letters (suc n) = letters n

word_sound : (t : ℕ) → T (token_fits TokenWord (replicate (suc t) 97))
unfolding valid
word_sound t =
    let e : token_fits TokenWord (replicate (suc t) 97) ≡ true =
    ap (λ b. b && eqb (char_steps whole (replicate (suc t) 97)).more 0)
    (le-leb 1 (length (replicate (suc t) 97)) (omega (arith, length-replicate {A = ℕ} (suc t) 97)))
    ∙ ap (λ u. eqb u.more 0) (letters (suc t)) in
    is_T (token_fits TokenWord (replicate (suc t) 97)) e

given-none : (s : Groups) → given s 0 ≡ 0
given-none no_groups = refl
given-none (put g s) = refl

bare-fills : (s : Groups) → Fills s 0 (bare s)
unfolding bare count sizes size depths depth Sounds Sound texts_of text_of
bare-fills no_groups = record { counted = refl; sized = refl; deep = refl; sounds = tt; texted = refl }
bare-fills (put g s) =
    let p = bare-fills g in
    let q = bare-fills s in
    record {
      counted = ap (λ x. 1 + x) q.counted;
      sized = omega (arith, p.sized, q.sized);
      deep = omega (arith, p.deep, q.deep);
      sounds = ((tt, p.sounds), q.sounds);
      texted = length-append (texts_of (bare g)) (texts_of (bare s)) ∙ omega (arith, p.texted, q.texted, given-none g, given-none s);
    }

-- a node more before elements without text
more-fills : (g s : Groups) (t : ℕ) (f : Forest) → Fills g t f → 1 ≤ rows_in g → Fills (put g s) t (more (node ItemCurly f) (bare s))
unfolding count sizes size depths depth Sounds Sound texts_of text_of
more-fills no_groups s t f p h = absurd (omega arith)
more-fills (put g i) s t f p h =
    let q = bare-fills s in
    record {
      counted = ap (λ x. 1 + x) q.counted;
      sized = omega (arith, p.sized, q.sized);
      deep = omega (arith, p.deep, q.deep);
      sounds = ((tt, p.sounds), q.sounds);
      texted = length-append (texts_of f) (texts_of (bare s)) ∙ omega (arith, p.texted, q.texted, given-none s);
    }

word-fills : (s : Groups) (t : ℕ) → Fills (put no_groups s) (suc t) (more (word (suc t)) (bare s))
unfolding count sizes size depths depth Sounds Sound texts_of text_of
word-fills s t =
    let q = bare-fills s in
    record {
      counted = ap (λ x. 1 + x) q.counted;
      sized = omega (arith, q.sized);
      deep = omega (arith, q.deep);
      sounds = (word_sound t, q.sounds);
      texted = length-append (replicate (suc t) 97) (texts_of (bare s)) ∙ omega (arith, length-replicate {A = ℕ} (suc t) 97, q.texted, given-none s);
    }

worded-fills : (s : Groups) (t : ℕ) → Fills s (suc t) (worded s (suc t))
unfolding worded count sizes depths Sounds texts_of
worded-fills no_groups t = record { counted = refl; sized = refl; deep = refl; sounds = tt; texted = refl }
worded-fills (put no_groups s) t = word-fills s t
worded-fills (put (put g h) s) t = more-fills (put g h) s (suc t) (worded (put g h) (suc t)) (worded-fills (put g h) t) (omega arith)

fills : (s : Groups) (t : ℕ) → Fills s t (filled s t)
fills s zero = bare-fills s
fills s (suc t) = worded-fills s t

-- ---- the text goes to the first of three that are there

texts-three : (a b c : Groups) (t : ℕ) → (1 ≤ t → 1 ≤ rows_in a + rows_in b + rows_in c)
    → given a t + given b (t - given a t) + given c (t - given a t - given b (t - given a t)) ≡ t
texts-three (put a x) b c t h =
    let e : t - t ≡ 0 = omega arith in
    let p : given b (t - t) ≡ 0 = ap (given b) e ∙ given-none b in
    let q : given c (t - t - given b (t - t)) ≡ 0 = ap (given c) (omega arith) ∙ given-none c in
    omega arith
texts-three no_groups (put b x) c t h =
    let q : given c (t - 0 - (t - 0)) ≡ 0 = ap (given c) (omega arith) ∙ given-none c in
    omega arith
texts-three no_groups no_groups (put c x) t h = omega arith
texts-three no_groups no_groups no_groups t h =
    elim (dec_le 1 t) [
      | yes p ↦ absurd (omega (arith, h p))
      | no p ↦ omega arith
    ]

-- ---- empty groups open in each other

unfoldable chain : ℕ → OpenNodes → OpenNodes
chain zero o = o
chain (suc n) o = under (chain n o) ItemCurly none

root-under : (o : OpenNodes) (k : ℕ) (f : Forest) → 1 ≤ open_depth o → root_forest (under o k f) ≡ root_forest o
root-under no_node k f h = absurd (omega arith)
root-under (under o j g) k f h = refl

blocks-under : (o : OpenNodes) (k : ℕ) (f : Forest) → 1 ≤ open_depth o → open_blocks (under o k f) ≡ count (root_forest o) + 1
blocks-under no_node k f h = absurd (omega arith)
blocks-under (under o j g) k f h = refl

record Chained (n : ℕ) (o : OpenNodes) (r : OpenNodes) : Type 0 where
  counted : open_count r ≡ open_count o + n
  deep : open_depth r ≡ open_depth o + n
  root : root_forest r ≡ root_forest o
  texted : length (open_text r) ≡ length (open_text o)
  sound : SoundNodes r

root_is : (o : OpenNodes) (k : ℕ) → 1 ≤ open_depth o → RootIs o k
root_is no_node k h = absurd (omega arith)
root_is (under o j g) k h = tt

chained : (n : ℕ) (o : OpenNodes) → 1 ≤ open_depth o → open_depth o + n ≤ depth_most → SoundNodes o → Chained n o (chain n o)
unfolding chain sizes texts_of depths Sounds
chained zero o h d s = record { counted = omega arith; deep = omega arith; root = refl; texted = refl; sound = s }
chained (suc n) o h d s =
    let p = chained n o h (omega arith) s in
    let e = p.deep in
    let r = chain n o in
    record {
      counted = omega (arith, p.counted);
      deep = omega (arith, p.deep);
      root = root-under r ItemCurly none (omega arith) ∙ p.root;
      texted = length-append (open_text r) [] ∙ omega (arith, p.texted);
      sound = (p.sound, (tt, (tt, (omega arith, root_is r ItemCurly (omega arith)))));
    }

-- ---- the open nodes of a writer

record HasNodes (w : Writer) : Type 0 where
  pub outer : OpenNodes
  pub kind : ℕ
  pub closed : Forest
  pub sound : SoundNodes (under outer kind closed)
  pub writer : open_writer (under outer kind closed) w.room ≡ w

still_open : (w : Writer) → PossibleRows w → 1 ≤ w.depth → false ≡ w.finished
still_open w p h = unfinished w.finished refl
  where
    unfinished : (b : Bool) → w.finished ≡ b → false ≡ w.finished
    unfinished true e = absurd (omega (arith, p.ended e))
    unfinished false e = sym e

-- only the root is open
nodes-root : (w : Writer) → PossibleRows w → w.depth ≡ 1 → w.inner ≡ 0 → 1 ≤ w.rows
    → w.blocks ≤ w.rows - 1 → (w.blocks ≡ 0 → w.rows - 1 ≡ 0) → HasNodes w
nodes-root w p d i r b z =
    let s = blocks_by w.blocks (w.rows - 1) in
    let f = filled s w.text in
    let k = blocks-rows w.blocks (w.rows - 1) b z in
    let q = fills s w.text in
    let t = texts-three s no_groups no_groups w.text (λ h. let x = p.worded h in omega (arith, k.0)) in
    record {
      outer = no_node;
      kind = ScopeRoot;
      closed = f;
      sound = (tt, (tt, (q.sounds, (omega (arith, q.deep, k.1.1), refl))));
      writer = writer-same (still_open w p (omega arith)) (omega (arith, q.sized, k.0)) (omega (arith, q.texted))
          (q.counted ∙ k.1.0) (sym d) (sym i) refl;
    }

-- the innermost open node is a block
nodes-block : (w : Writer) → PossibleRows w → w.depth ≡ 2 → 1 ≤ w.blocks → w.inner < w.rows
    → w.blocks ≤ w.inner → (w.blocks ≡ 1 → w.inner ≡ 1) → HasNodes w
nodes-block w p d b i l one =
    let s = blocks_by (w.blocks - 1) (w.inner - 1) in
    let c = line (w.rows - 1 - w.inner) in
    let k = blocks-rows (w.blocks - 1) (w.inner - 1) (omega arith) (λ z. let e = one (omega arith) in omega arith) in
    let m = line-rows (w.rows - 1 - w.inner) in
    let q = fills s w.text in
    let u = w.text - given s w.text in
    let v = fills c u in
    let t = texts-three s c no_groups w.text (λ h. let x = p.worded h in omega (arith, k.0, m.0)) in
    let outer = under no_node ScopeRoot (filled s w.text) in
    record {
      outer = outer;
      kind = ItemCurly;
      closed = filled c u;
      sound = ((tt, (tt, (q.sounds, (omega (arith, q.deep, k.1.1), refl)))), (tt, (v.sounds, (omega (arith, v.deep, m.1.1), tt))));
      writer = writer-same (still_open w p (omega arith)) (omega (arith, q.sized, k.0, v.sized, m.0))
          (length-append (texts_of (filled s w.text)) (texts_of (filled c u)) ∙ omega (arith, q.texted, v.texted))
          (omega (arith, q.counted, k.1.0)) (sym d) (omega (arith, q.sized, k.0)) refl;
    }

-- it is deeper
nodes-deep : (w : Writer) → PossibleRows w → 3 ≤ w.depth → 1 ≤ w.blocks → w.inner < w.rows → w.blocks + (w.depth - 2) ≤ w.inner
    → (w.depth ≡ depth_most → w.rows ≡ w.inner + 1) → HasNodes w
nodes-deep w p d b i l deepest =
    let a = line (w.blocks - 1) in
    let x = line (w.inner - (w.blocks + (w.depth - 2))) in
    let c = line (w.rows - 1 - w.inner) in
    let ra = line-rows (w.blocks - 1) in
    let rx = line-rows (w.inner - (w.blocks + (w.depth - 2))) in
    let rc = line-rows (w.rows - 1 - w.inner) in
    let t = w.text in
    let tx = t - given a t in
    let tc = tx - given x tx in
    let fa = fills a t in
    let fx = fills x tx in
    let fc = fills c tc in
    let all = texts-three a x c t (λ h. let y = p.worded h in omega (arith, ra.0, rx.0, rc.0)) in
    let root = under no_node ScopeRoot (filled a t) in
    let block = under root ItemCurly (filled x tx) in
    let low = p.within.low in
    let sb : SoundNodes block =
    ((tt, (tt, (fa.sounds, (omega (arith, fa.deep, ra.1.1), refl)))), (tt, (fx.sounds, (omega (arith, fx.deep, rx.1.1), tt)))) in
    let h = chained (w.depth - 3) block (omega arith) (omega arith) sb in
    let outer = chain (w.depth - 3) block in
    let e = h.deep in
    let under_none : w.depth ≡ depth_most → deep_in c ≡ 0 =
    λ z. ap (λ n. deep_in (line n)) (let n : w.rows - 1 - w.inner ≡ 0 = omega (arith, deepest z) in n) in
    let deep-enough =
    low-enough w.depth (deep_in c) (depths (filled c tc)) (open_depth outer) fc.deep rc.1.1 low (omega arith) under_none in
    let before = length-append (texts_of (filled a t)) (texts_of (filled x tx)) in
    record {
      outer = outer;
      kind = ItemCurly;
      closed = filled c tc;
      sound = (h.sound, (tt, (fc.sounds, (deep-enough, root_is outer ItemCurly (omega arith)))));
      writer = writer-same (still_open w p (omega arith)) (omega (arith, h.counted, fa.sized, ra.0, fx.sized, rx.0, fc.sized, rc.0))
          (length-append (open_text outer) (texts_of (filled c tc)) ∙ omega (arith, h.texted, before, fa.texted, fx.texted, fc.texted))
          (blocks-under outer ItemCurly (filled c tc) (omega arith) ∙ ap (λ f. count f + 1) h.root ∙ omega (arith, fa.counted, ra.1.0)) (omega arith)
          (omega (arith, h.counted, fa.sized, ra.0, fx.sized, rx.0)) refl;
    }
  where
    low-enough : (d n m o : ℕ) → m ≡ n → n ≤ 1 → d ≤ depth_most → o + 1 ≡ d → (d ≡ depth_most → n ≡ 0) → o + 1 + m ≤ depth_most
    low-enough d n m o e h l s z =
        elim (ℕ_discrete d depth_most) [
          | yes y ↦ omega (arith, z y)
          | no y ↦ omega arith
        ]

-- ---- the steps that lead there

blank : ℕ → List ℕ
blank n = replicate n 0

length-blank : (n : ℕ) → length (blank n) ≡ n
unfolding blank
length-blank n = length-replicate {A = ℕ} n 0

of-nodes : (w : Writer) → PossibleRows w → HasNodes w → LeftBySteps w
of-nodes w p h =
    let r = under h.outer h.kind h.closed in
    let e = h.writer in
    let l = length-blank w.room in
    let z : size_with (length (open_text r)) (open_count r) ≡ size_with w.text w.rows = ap (λ (v : Writer). size_with v.text v.rows) e in
    let c : open_blocks r ≡ w.blocks = ap (λ (v : Writer). v.blocks) e in
    let small = p.within.small in
    let fits = p.within.fits in
    let few = p.within.few in
    record {
      buffer = blank w.room;
      steps = open_steps r;
      left = feed-open h.outer h.kind h.closed (blank w.room) h.sound (omega arith) (omega arith) (omega arith)
          ∙ ap (open_writer r) l ∙ e;
    }

-- the root is closed, and the file finished or not
closed-steps : (w : Writer) (end : Bool) (f : Forest) → WholeRoot (length (blank w.room)) f → closed_writer end f w.room ≡ w → LeftBySteps w
closed-steps w true f c e =
    record {
      buffer = blank w.room;
      steps = walk_of_tree (root_of f) ++ (finishes ∷ []);
      left = feed-finished f (blank w.room) c.sounds c.low c.small c.fits c.few ∙ ap (closed_writer true f) (length-blank w.room) ∙ e;
    }
closed-steps w false f c e =
    record {
      buffer = blank w.room;
      steps = walk_of_tree (root_of f);
      left = feed-closed f (blank w.room) c.sounds c.low c.small c.fits c.few ∙ ap (closed_writer false f) (length-blank w.room) ∙ e;
    }

of-root : (w : Writer) → PossibleRows w → w.depth ≡ 0 → w.inner ≡ 0 → 1 ≤ w.rows
    → w.blocks ≤ w.rows - 1 → (w.blocks ≡ 0 → w.rows - 1 ≡ 0) → LeftBySteps w
of-root w p d i r b n =
    let s = blocks_by w.blocks (w.rows - 1) in
    let f = filled s w.text in
    let k = blocks-rows w.blocks (w.rows - 1) b n in
    let q = fills s w.text in
    let t = texts-three s no_groups no_groups w.text (λ h. let x = p.worded h in omega (arith, k.0)) in
    let e : closed_writer w.finished f w.room ≡ w =
    writer-same refl (omega (arith, q.sized, k.0)) (omega (arith, q.texted)) (q.counted ∙ k.1.0) (sym d) (sym i) refl in
    let l = length-blank w.room in
    let z : size_with (length (texts_of f)) (1 + sizes f) ≡ size_with w.text w.rows = ap (λ (v : Writer). size_with v.text v.rows) e in
    let c : count f ≡ w.blocks = ap (λ (v : Writer). v.blocks) e in
    let small = p.within.small in
    let fits = p.within.fits in
    let few = p.within.few in
    closed-steps w w.finished f
    (record { sounds = q.sounds; low = omega (arith, q.deep, k.1.1); small = omega arith; fits = omega arith; few = omega arith }) e

of-opened : (w : Writer) → PossibleRows w → 1 ≤ w.rows → OpenedAs w → LeftBySteps w
of-opened w p r (opened_at_root d i b z) =
    elim (dec_le 1 w.depth) [
      | yes h ↦ of-nodes w p (nodes-root w p (omega arith) i r b z)
      | no h ↦ of-root w p (omega arith) i r b z
    ]
of-opened w p r (opened_in_block d b i l one deepest) =
    elim (dec_le 3 w.depth) [
      | yes h ↦ of-nodes w p (nodes-deep w p h b i l deepest)
      | no h ↦
          let e : w.depth ≡ 2 = omega arith in
          of-nodes w p (nodes-block w p e b i (omega arith) (one e))
    ]

pub left-by-steps : (w : Writer) → possible w ≡ true → LeftBySteps w
unfolding run_from
left-by-steps w e =
    elim (dec_le 1 w.rows) [
      | yes h ↦ let p = possible-says w e h in of-opened w p h p.opened
      | no h ↦ record { buffer = []; steps = []; left = sym (possible-none w e (omega arith)) }
    ]
