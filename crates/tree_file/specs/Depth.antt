-- How deep a tree goes (refusal 4).
use Rattle.std.specs.Prelude.{ℕ, ◌+◌, max}
use Rattle.mitex_syntax.specs.Tree.{Tree, Forest}
use Rattle.mitex_syntax.specs.Tree.Tree.{token, node}
use Rattle.mitex_syntax.specs.Tree.Forest.{none, more}

-- no row lies deeper
abbrev pub depth_most : ℕ
depth_most = 64

-- the depth of a tree's deepest row, its root being depth 1
unfoldable mutual
  pub depth : Tree → ℕ
  depth (token k s) = 1
  depth (node k f) = 1 + depths f

  pub depths : Forest → ℕ
  depths none = 0
  depths (more t f) = max (depth t) (depths f)
