-- Trees, and the bytes that spell them: rows in preorder, the texts of the tokens one after the other, and the whole file.
use Rattle.std.specs.Prelude.{ℕ, ◌+◌, List, [], ◌∷◌, ◌++◌, length}
use Rattle.text.specs.Numbers.{four}

mutual
  pub data Tree : Type 0 where
    token : ℕ → List ℕ → Tree
    node : ℕ → Forest → Tree

  pub data Forest : Type 0 where
    none : Forest
    more : Tree → Forest → Forest

abbrev pub kind_of : Tree → ℕ
kind_of (token k s) = k
kind_of (node k f) = k

-- rows of an element and those under it
unfoldable mutual
  pub size : Tree → ℕ
  size (token k s) = 1
  size (node k f) = 1 + sizes f

  pub sizes : Forest → ℕ
  sizes none = 0
  sizes (more t f) = size t + sizes f

-- the rows: kind, 0 node or 1 token, two zero bytes, then a token's text length, or how many rows lie under a node
unfoldable mutual
  pub rows_of : Tree → List ℕ
  rows_of (token k s) = k ∷ 1 ∷ 0 ∷ 0 ∷ four (length s) []
  rows_of (node k f) = k ∷ 0 ∷ 0 ∷ 0 ∷ four (sizes f) (rows_ofs f)

  pub rows_ofs : Forest → List ℕ
  rows_ofs none = []
  rows_ofs (more t f) = rows_of t ++ rows_ofs f

-- the texts of the tokens
unfoldable mutual
  pub text_of : Tree → List ℕ
  text_of (token k s) = s
  text_of (node k f) = texts_of f

  pub texts_of : Forest → List ℕ
  texts_of none = []
  texts_of (more t f) = text_of t ++ texts_of f

-- a tree file: text area, rows, and the trailer that points back
unfoldable pub file_of : Tree → List ℕ
file_of t = text_of t ++ (rows_of t ++ four (length (text_of t)) (four (size t) []))

-- how many trees stand side by side
unfoldable pub count : Forest → ℕ
count none = 0
count (more t f) = 1 + count f
