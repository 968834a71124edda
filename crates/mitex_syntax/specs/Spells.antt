-- When parts of a tree file spell a tree. The parts go down as slices: the rows of an element and its text, each starting in
-- the middle of the file.
use Rattle.std.specs.Prelude.{Bool, ◌&&◌, ◌≡◌, ℕ, ◌≤◌, ◌<◌, List, ◌++◌, length, drop, T, leb}
use Rattle.text.specs.Writing.{cap}
use Rattle.utf8.specs.Utf8.{valid}
use Rattle.mitex_syntax.specs.Syntax.{is_token, is_node}
use Rattle.mitex_syntax.specs.Tree.{Tree, Forest, rows_of, rows_ofs, text_of, texts_of}
use Rattle.mitex_syntax.specs.Tree.Tree.{token, node}
use Rattle.mitex_syntax.specs.Tree.Forest.{none, more}

-- what a token is: its kind is a token's, and its text has a byte or more and is UTF-8
abbrev pub token_fits : ℕ → List ℕ → Bool
token_fits k s = is_token k && (leb 1 (length s) && valid s)

-- each token and each node is one of its kind
unfoldable mutual
  pub Sound : Tree → Type 0
  Sound (token k s) = T (token_fits k s)
  Sound (node k f) = T (is_node k) × Sounds f

  pub Sounds : Forest → Type 0
  Sounds none = Unit {0}
  Sounds (more t f) = Sound t × Sounds f

-- the rows and the text are those of an element
pub record Spells (t : Tree) (rows text : List ℕ) : Type 0 where
  pub rows_are : rows ≡ rows_of t
  pub text_is : text ≡ text_of t
  pub sound : Sound t

-- the rows and the text are those of elements side by side
pub record SpellsAll (f : Forest) (rows text : List ℕ) : Type 0 where
  pub rows_are : rows ≡ rows_ofs f
  pub text_is : text ≡ texts_of f
  pub sound : Sounds f

-- the rows are those of elements side by side, and the text begins with theirs
pub record Begins (f : Forest) (rows text : List ℕ) : Type 0 where
  pub rows_are : rows ≡ rows_ofs f
  pub rest : List ℕ
  pub text_is : text ≡ texts_of f ++ rest
  pub sound : Sounds f

-- some element is spelt
pub record SomeTree (rows text : List ℕ) : Type 0 where
  pub tree : Tree
  pub spells : Spells tree rows text

-- the rows are those of some elements side by side, and of some element
pub record SomeRows (rows : List ℕ) : Type 0 where
  pub forest : Forest
  pub rows_are : rows ≡ rows_ofs forest

pub record SomeElement (rows : List ℕ) : Type 0 where
  pub tree : Tree
  pub rows_are : rows ≡ rows_of tree

-- some elements side by side are, from row byte i and text byte j on, in bytes that are few enough to be counted
pub record SomeForest (rows text : List ℕ) (i j : ℕ) : Type 0 where
  pub few : length rows < cap
  pub short : length text < cap
  pub low : i ≤ length rows
  pub begun : j ≤ length text
  pub forest : Forest
  pub begins : Begins forest (drop i rows) (drop j text)
