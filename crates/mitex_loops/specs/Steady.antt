-- Children at the front of some on which a loop is steady, as the code counts them: by the bytes of their rows and of their text.
use Rattle.std.specs.Prelude.{◌≡◌, true, ℕ, ◌*◌, ◌<◌, List, length}
use Rattle.text.specs.Writing.{cap}
use Rattle.mitex_syntax.specs.Tree.{Forest, sizes, rows_ofs, texts_of}
use Rattle.mitex_syntax.specs.declared.Span.{Span}
use Rattle.mitex_meaning.specs.Runs.{beside, all_steady}
use Rattle.mitex_meaning.specs.declared.Loop.{Loop}

-- these are the rows of some elements, and rows and text are few enough to be counted
pub record SteadyGiven (rows : List ℕ) : Type 0 where
  pub few : length rows < cap
  pub forest : Forest
  pub rows_are : rows ≡ rows_ofs forest
  pub short : length (texts_of forest) < cap

-- some elements at the front of f, none perhaps, on which the loop is steady have so many bytes; that there are no more is not said
pub record SteadyRun (l : Loop) (f : Forest) (r : Span) : Type 0 where
  pub first : Forest
  pub others : Forest
  pub is : f ≡ beside first others
  pub steady : all_steady l first ≡ true
  pub rows_are : r.rows ≡ 8 * sizes first
  pub text_is : r.text ≡ length (texts_of first)
