-- The layout of a tree file (refusal 3): the trailer (crate text, specs/Trailer.antt), the rows one by one while their token texts
-- fill the text area, the nesting of the rows, and the root over its blocks. `decode` gives the tree of a file that is laid out right; `decode-sound`
-- and `decode-complete` (proofs/Decode.antt) say that these are the files of trees within the limits, and no others.
use Rattle.std.specs.Prelude.{◌&&◌, cond, ◌≡◌, ℕ, zero, suc, ◌-◌, ◌≤◌, List, [], ◌∷◌, length, get_or, take, drop, eqb, leb, Option as Maybe, Some, None}
use Rattle.std.proofs.Math.Option.{Option}
use Rattle.std.proofs.Math.Option.Option.{none as nothing, some}
use Rattle.text.specs.Numbers.{four_at}
use Rattle.text.specs.Trailer.{file_most, count_of, trailed, text_area, row_area, ahead}
use Rattle.mitex_syntax.specs.Syntax.{ScopeRoot, is_node}
use Rattle.mitex_syntax.specs.Tree.{Tree, Forest, size, count, file_of}
use Rattle.mitex_syntax.specs.Tree.Tree.{token, node}
use Rattle.mitex_syntax.specs.Tree.Forest.{none, more}
use Rattle.mitex_syntax.specs.Spells.{token_fits, Sound}
use Rattle.tree_file.specs.declared.TreeRow.{TreeRow}
use Rattle.tree_file.specs.declared.TreeRow.TheVariants.{Token, Node}

-- the blocks are at most 512
abbrev pub blocks_most : ℕ
blocks_most = 512

-- ---- the rows

-- the row that stands first, where `text` is left: a token with its text length
abbrev pub token_row : List ℕ → List ℕ → Maybe TreeRow
token_row rows text =
    cond (leb (four_at 4 rows) (length text) && token_fits (get_or rows 0 0) (take (four_at 4 rows) text)) (Some (Token (four_at 4 rows))) None

-- or a node with how many rows lie under it
abbrev pub node_row : List ℕ → Maybe TreeRow
node_row rows = cond (eqb (get_or rows 1 0) 0 && is_node (get_or rows 0 0)) (Some (Node (four_at 4 rows))) None

-- kind, 0 node or 1 token, two zero bytes, then the number
unfoldable pub tree_row_at : List ℕ → List ℕ → Maybe TreeRow
tree_row_at rows text =
    cond (eqb (get_or rows 2 0) 0 && eqb (get_or rows 3 0) 0) (cond (eqb (get_or rows 1 0) 1) (token_row rows text) (node_row rows)) None

-- a row that was read: a token with its text, or a node with how many rows lie under it
pub data Line : Type 0 where
  token_line : ℕ → List ℕ → Line
  node_line : ℕ → ℕ → Line

-- the bytes of text that a row takes
abbrev pub row_taken : TreeRow → ℕ
row_taken (Token m) = m
row_taken (Node m) = 0

abbrev pub taken_of : Maybe TreeRow → ℕ
taken_of None = 0
taken_of (Some r) = row_taken r

-- a row before those that come after it
abbrev pub row_ahead : Maybe TreeRow → List ℕ → List ℕ → Option (List Line) → Option (List Line)
row_ahead None rows text o = nothing
row_ahead (Some (Token m)) rows text o = ahead (token_line (get_or rows 0 0) (take m text)) o
row_ahead (Some (Node m)) rows text o = ahead (node_line (get_or rows 0 0) m) o

-- as many rows as said, whose token texts fill the text in order
unfoldable pub lines : ℕ → List ℕ → List ℕ → Option (List Line)
lines zero rows [] = some []
lines zero rows (b ∷ s) = nothing
lines (suc n) rows text = row_ahead (tree_row_at rows text) rows text (lines n (drop 8 rows) (drop (taken_of (tree_row_at rows text)) text))

-- ---- rows in preorder: a child's rows end no later than its parent's

pub data Cut : Type 0 where
  cut : Forest → Forest → Cut

abbrev pub cut_with : Tree → Option Cut → Option Cut
cut_with t nothing = nothing
cut_with t (some (cut g h)) = some (cut (more t g) h)

-- the first trees, which have n rows together, and the others
unfoldable pub split : ℕ → Forest → Option Cut
split n none = cond (eqb n 0) (some (cut none none)) nothing
split n (more t f) =
    cond (eqb n 0) (some (cut none (more t f))) (cond (leb (size t) n) (cut_with t (split (n - size t) f)) nothing)

abbrev pub tree_ahead : Tree → Option Forest → Option Forest
tree_ahead t nothing = nothing
tree_ahead t (some f) = some (more t f)

abbrev pub closed : ℕ → Option Cut → Option Forest
closed k nothing = nothing
closed k (some (cut g h)) = some (more (node k g) h)

abbrev pub splits : ℕ → Option Forest → Option Cut
splits n nothing = nothing
splits n (some f) = split n f

-- the trees of rows: those under a node are whole trees
unfoldable pub grow : List Line → Option Forest
grow [] = some none
grow (token_line k s ∷ ls) = tree_ahead (token k s) (grow ls)
grow (node_line k n ∷ ls) = closed k (splits n (grow ls))

abbrev pub grows : Option (List Line) → Option Forest
grows nothing = nothing
grows (some ls) = grow ls

-- ---- the root

-- row 0 is a ScopeRoot over all other rows; its direct children are the blocks
abbrev pub root : Option Forest → Option Tree
root nothing = nothing
root (some none) = nothing
root (some (more t (more u f))) = nothing
root (some (more (token k s) none)) = nothing
root (some (more (node k f) none)) = cond (eqb k ScopeRoot && leb (count f) blocks_most) (some (node k f)) nothing

-- the tree of a file that is laid out right
unfoldable pub decode : List ℕ → Option Tree
decode b = cond (trailed b) (root (grows (lines (count_of b) (row_area b) (text_area b)))) nothing

-- ---- the same, declared

abbrev pub Rooted : Tree → Type 0
Rooted (token k s) = ⊥
Rooted (node k f) = (k ≡ ScopeRoot) × (count f ≤ blocks_most)

-- the file is that of a tree within the limits
pub record Laid (t : Tree) (b : List ℕ) : Type 0 where
  pub bytes : b ≡ file_of t
  pub short : length b ≤ file_most
  pub sound : Sound t
  pub rooted : Rooted t
