-- Scans over the children of a node: what is left of them, from one on, is again elements, whose rows and text are the last of all. What
-- they mean is a `Rest`.
use Rattle.std.specs.Prelude.{◌≡◌, Bool, not, List, ◌++◌, ℕ, ◌+◌, ◌*◌, ◌≤◌, eqb, length}
use Rattle.mitex_syntax.specs.Syntax.{is_trivia}
use Rattle.mitex_syntax.specs.Tree.{Tree, Forest, sizes, rows_ofs, text_of, texts_of}
use Rattle.mitex_syntax.specs.Tree.Forest.{more}
use Rattle.mitex_syntax.specs.Views.{before_by, is_of, is_solid}
use Rattle.mitex_syntax.specs.Spells.{Sounds}
use Rattle.mitex_meaning.specs.Colors.{Rest, seek, past_first}
use Rattle.mitex_colors.specs.declared.Stop.{Stop}
use Rattle.mitex_colors.specs.declared.Stop.TheVariants.{Solid, Kind}

-- what a scan stops at, by the kind of an element and as a test of elements
abbrev pub stops_at : Stop → ℕ → Bool
stops_at Solid kind = not (is_trivia kind)
stops_at (Kind k) kind = eqb kind k

abbrev pub picks : Stop → Tree → Bool
picks Solid = is_solid
picks (Kind k) = is_of k

-- the rows are those of these elements, and the text is theirs and a tail
pub record Left (rows text tail : List ℕ) (f : Forest) : Type 0 where
  pub rows_are : rows ≡ rows_ofs f
  pub text_is : text ≡ texts_of f ++ tail
  pub sound : Sounds f

-- from r, with these rows and this text, a scan has gone on to s, over the first of them; the last are left
pub record ScanMoved (rows text tail : List ℕ) (r s : Rest) (over_rows over_text rows' text' : List ℕ) : Type 0 where
  pub there : Left rows' text' tail s.elements
  pub rows_are : rows ≡ over_rows ++ rows'
  pub text_is : text ≡ over_text ++ text'
  pub row : 8 * r.rows + length over_rows ≡ 8 * s.rows
  pub fits : sizes s.elements ≤ sizes r.elements

-- to the first element that a test picks
pub record Sought (p : Tree → Bool) (rows text tail : List ℕ) (r : Rest) (rows' text' : List ℕ) : Type 0 where
  pub over_rows : List ℕ
  pub over_text : List ℕ
  pub moved : ScanMoved rows text tail r (seek p r) over_rows over_text rows' text'
  pub before : texts_of (before_by p r.elements) ≡ over_text

-- past the first element, if there is one
pub record FirstPassed (rows text tail : List ℕ) (r : Rest) (rows' text' : List ℕ) : Type 0 where
  pub over_rows : List ℕ
  pub over_text : List ℕ
  pub moved : ScanMoved rows text tail r (past_first r) over_rows over_text rows' text'
  pub over : (t : Tree) (f : Forest) → r.elements ≡ more t f → text_of t ≡ over_text
