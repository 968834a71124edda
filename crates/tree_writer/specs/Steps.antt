-- The steps of writing a tree file: open a node of a kind, add a token with text, close the node, finish. And the walk of a tree: its
-- nodes, tokens and closes, in order.
use Rattle.std.specs.Prelude.{List, [], ◌∷◌, ◌++◌, ℕ}
use Rattle.mitex_syntax.specs.Tree.{Tree, Forest}
use Rattle.mitex_syntax.specs.Tree.Tree.{token, node}
use Rattle.mitex_syntax.specs.Tree.Forest.{none, more}

pub data Step : Type 0 where
  opens_node : ℕ → Step
  adds_token : ℕ → List ℕ → Step
  closes_node : Step
  finishes : Step

unfoldable mutual
  pub walk_of_tree : Tree → List Step
  walk_of_tree (token k s) = adds_token k s ∷ []
  walk_of_tree (node k f) = opens_node k ∷ (walk_of_forest f ++ (closes_node ∷ []))

  pub walk_of_forest : Forest → List Step
  walk_of_forest none = []
  walk_of_forest (more t f) = walk_of_tree t ++ walk_of_forest f
