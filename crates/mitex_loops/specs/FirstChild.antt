-- The first child, if there is one, and those behind it.
use Rattle.std.specs.Prelude.{◌≡◌, List, [], ℕ, ◌*◌, length, drop}
use Rattle.mitex_syntax.specs.Tree.{Forest, size, text_of}
use Rattle.mitex_syntax.specs.Tree.Forest.{none, more}
use Rattle.mitex_syntax.specs.Spells.{SpellsAll}
use Rattle.mitex_syntax.specs.declared.Span.{Span}
use Rattle.mitex_meaning.specs.Parts.{between}

abbrev pub first_only : Forest → Forest
first_only none = none
first_only (more t f) = more t none

abbrev pub behind_first : Forest → Forest
behind_first none = none
behind_first (more t f) = f

abbrev pub first_size : Forest → ℕ
first_size none = 0
first_size (more t f) = size t

-- the name of `\left` or `\right`, the first child without its backslash
abbrev pub lr_name : Forest → List ℕ
lr_name none = []
lr_name (more t f) = drop 1 (text_of t)

-- as the code has them, by the bytes of the first
pub record FirstApart (f : Forest) (rows text : List ℕ) (s : Span) : Type 0 where
  pub size_is : s.rows ≡ 8 * first_size f
  pub first : SpellsAll (first_only f) (between 0 s.rows rows) (between 0 s.text text)
  pub behind : SpellsAll (behind_first f) (between s.rows (length rows) rows) (between s.text (length text) text)
