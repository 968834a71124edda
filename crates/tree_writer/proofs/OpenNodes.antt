-- What a writer stands for: nodes that are open, each with the elements closed under it so far; or the root, closed.
use mathlib.Core.Path.{◌≡◌, refl, sym, ap, ◌∙◌}
use mathlib.Core.Bool.{Bool, false}
use mathlib.Core.List.{List, [], ◌∷◌, ◌++◌, append-nil, append_assoc}
use Prim.Native.Nat.{ℕ, ◌+◌, ◌*◌, ◌≤◌, max}
use native.Mathlib.Omega.{arith}
use lib.Dec.{T}
use lib.ListN.{length, length-append}
use Rattle.text.specs.Numbers.{four}
use Rattle.mitex_syntax.specs.Syntax.{ScopeRoot, is_node}
use Rattle.mitex_syntax.specs.Tree.{Tree, Forest, size, sizes, rows_of, rows_ofs, text_of, texts_of, count}
use Rattle.mitex_syntax.specs.Tree.Forest.{none, more}
use Rattle.mitex_syntax.specs.Spells.{Sound, Sounds}
use Rattle.mitex_syntax.proofs.Trees.{length-rowss}
use Rattle.tree_file.specs.Depth.{depth, depths, depth_most}
use Rattle.tree_writer.specs.Steps.{Step, opens_node, walk_of_tree, walk_of_forest}
use Rattle.tree_writer.specs.declared.Writer.{Writer}

-- ---- an element after others

unfoldable pub snoc : Forest → Tree → Forest
snoc none u = more u none
snoc (more t f) u = more t (snoc f u)

pub walks_snoc : (f : Forest) (u : Tree) → walk_of_forest (snoc f u) ≡ walk_of_forest f ++ walk_of_tree u
unfolding snoc walk_of_forest
walks_snoc none u = append-nil (walk_of_tree u)
walks_snoc (more t f) u = ap (λ l. walk_of_tree t ++ l) (walks_snoc f u) ∙ sym (append_assoc (walk_of_tree t) (walk_of_forest f) (walk_of_tree u))

pub rows_snoc : (f : Forest) (u : Tree) → rows_ofs (snoc f u) ≡ rows_ofs f ++ rows_of u
unfolding snoc rows_ofs
rows_snoc none u = append-nil (rows_of u)
rows_snoc (more t f) u = ap (λ l. rows_of t ++ l) (rows_snoc f u) ∙ sym (append_assoc (rows_of t) (rows_ofs f) (rows_of u))

pub texts-snoc : (f : Forest) (u : Tree) → texts_of (snoc f u) ≡ texts_of f ++ text_of u
unfolding snoc texts_of
texts-snoc none u = append-nil (text_of u)
texts-snoc (more t f) u = ap (λ l. text_of t ++ l) (texts-snoc f u) ∙ sym (append_assoc (text_of t) (texts_of f) (text_of u))

pub sizes-snoc : (f : Forest) (u : Tree) → sizes (snoc f u) ≡ sizes f + size u
unfolding snoc sizes
sizes-snoc none u = omega arith
sizes-snoc (more t f) u = omega (arith, sizes-snoc f u)

pub count-snoc : (f : Forest) (u : Tree) → count (snoc f u) ≡ count f + 1
unfolding snoc count
count-snoc none u = refl
count-snoc (more t f) u = omega (arith, count-snoc f u)

pub depths-snoc : (f : Forest) (u : Tree) → depths (snoc f u) ≡ max (depths f) (depth u)
unfolding snoc depths
depths-snoc none u = omega arith
depths-snoc (more t f) u = omega (arith, depths-snoc f u)

pub sounds-snoc : (f : Forest) (u : Tree) → Sounds f → Sound u → Sounds (snoc f u)
unfolding snoc Sounds
sounds-snoc none u h g = (g, tt)
sounds-snoc (more t f) u h g = (h.0, sounds-snoc f u h.1 g)

-- ---- open nodes, the innermost last

pub data OpenNodes : Type 0 where
  no_node : OpenNodes
  under : OpenNodes → ℕ → Forest → OpenNodes

-- the steps that lead there
abbrev pub open_steps : OpenNodes → List Step
open_steps no_node = []
open_steps (under o k f) = open_steps o ++ (opens_node k ∷ walk_of_forest f)

abbrev pub open_text : OpenNodes → List ℕ
open_text no_node = []
open_text (under o k f) = open_text o ++ texts_of f

abbrev pub open_count : OpenNodes → ℕ
open_count no_node = 0
open_count (under o k f) = open_count o + (1 + sizes f)

abbrev pub open_depth : OpenNodes → ℕ
open_depth no_node = 0
open_depth (under o k f) = open_depth o + 1

-- the row of the innermost
abbrev pub innermost : OpenNodes → ℕ
innermost no_node = 0
innermost (under o k f) = open_count o

-- their rows: the number of an open node's is the row of the node around it
abbrev pub open_rows : OpenNodes → List ℕ
open_rows no_node = []
open_rows (under o k f) = open_rows o ++ (k ∷ 0 ∷ 0 ∷ 0 ∷ four (innermost o) (rows_ofs f))

-- the elements closed right under the root
abbrev pub root_forest : OpenNodes → Forest
root_forest no_node = none
root_forest (under no_node k f) = f
root_forest (under (under o k f) l g) = root_forest (under o k f)

abbrev pub open_blocks : OpenNodes → ℕ
open_blocks no_node = 0
open_blocks (under no_node k f) = count f
open_blocks (under (under o k f) l g) = count (root_forest (under o k f)) + 1

abbrev pub RootIs : OpenNodes → ℕ → Type 0
RootIs no_node k = k ≡ ScopeRoot
RootIs (under o l f) k = Unit {0}

-- each is one of its kind, and no row lies too deep
abbrev pub SoundNodes : OpenNodes → Type 0
SoundNodes no_node = Unit {0}
SoundNodes (under o k f) =
    SoundNodes o × (T (is_node k) × (Sounds f × ((open_depth o + 1 + depths f ≤ depth_most) × RootIs o k)))

-- ---- the writer, in a buffer of `room` bytes

abbrev pub open_writer : OpenNodes → ℕ → Writer
open_writer r room =
    record {
      finished = false;
      rows = open_count r;
      text = length (open_text r);
      blocks = open_blocks r;
      depth = open_depth r;
      inner = innermost r;
      room = room;
    }

-- the root closed, and then finished
abbrev pub closed_writer : Bool → Forest → ℕ → Writer
closed_writer b f room =
    record {
      finished = b;
      rows = 1 + sizes f;
      text = length (texts_of f);
      blocks = count f;
      depth = 0;
      inner = 0;
      room = room;
    }

pub length-open_rows : (r : OpenNodes) → length (open_rows r) ≡ 8 * open_count r
length-open_rows no_node = refl
length-open_rows (under o k f) =
    length-append (open_rows o) (k ∷ 0 ∷ 0 ∷ 0 ∷ four (innermost o) (rows_ofs f)) ∙ omega (arith, length-open_rows o, length-rowss f)

-- writers of the same numbers are the same
pub writer-same :
    {v w : Writer} → v.finished ≡ w.finished → v.rows ≡ w.rows → v.text ≡ w.text → v.blocks ≡ w.blocks → v.depth ≡ w.depth
    → v.inner ≡ w.inner → v.room ≡ w.room → v ≡ w
writer-same {v} {w} a b c d e f g =
    ap (λ x. record { finished = x; rows = v.rows; text = v.text; blocks = v.blocks; depth = v.depth; inner = v.inner; room = v.room }) a
    ∙ ap (λ x. record { finished = w.finished; rows = x; text = v.text; blocks = v.blocks; depth = v.depth; inner = v.inner; room = v.room }) b
    ∙ ap (λ x. record { finished = w.finished; rows = w.rows; text = x; blocks = v.blocks; depth = v.depth; inner = v.inner; room = v.room }) c
    ∙ ap (λ x. record { finished = w.finished; rows = w.rows; text = w.text; blocks = x; depth = v.depth; inner = v.inner; room = v.room }) d
    ∙ ap (λ x. record { finished = w.finished; rows = w.rows; text = w.text; blocks = w.blocks; depth = x; inner = v.inner; room = v.room }) e
    ∙ ap (λ x. record { finished = w.finished; rows = w.rows; text = w.text; blocks = w.blocks; depth = w.depth; inner = x; room = v.room }) f
    ∙ ap (λ x. record { finished = w.finished; rows = w.rows; text = w.text; blocks = w.blocks; depth = w.depth; inner = w.inner; room = x }) g
