-- A table whose last `\\` was left out, and the same table with it.
use Rattle.std.specs.Prelude.{Bool, List, ℕ}
use Rattle.mitex_syntax.specs.Syntax.{ItemNewLine}
use Rattle.mitex_syntax.specs.Tree.{Forest}
use Rattle.mitex_syntax.specs.Tree.Tree.{token}
use Rattle.mitex_syntax.specs.Tree.Forest.{none, more}
use Rattle.mitex_meaning.specs.Children.{act_of, next_exterior}
use Rattle.mitex_meaning.specs.declared.Loop.TheVariants.{Table}

-- whether a table is outside a cell after these children; `exterior` says whether it was before them
unfoldable pub ends_outside : Bool → Forest → Bool
ends_outside exterior none = exterior
ends_outside exterior (more t f) = ends_outside (next_exterior exterior (act_of (Table exterior) t f)) f

-- these children, and after them a `\\` with any text
unfoldable pub with_new_line : List ℕ → Forest → Forest
with_new_line s none = more (token ItemNewLine s) none
with_new_line s (more t f) = more t (with_new_line s f)
