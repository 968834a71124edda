-- Captions as parts of a figure's rows and text: what a child has for a caption, and what an answer shows of one; and the texts around the
-- one that a figure has.
use Rattle.std.specs.Prelude.{◌≡◌, Bool, true, false, cond, List, [], ◌++◌, ℕ, ◌+◌, ◌*◌, ◌≤◌, Option, Some, None, Result, Ok, Err}
use Rattle.mitex_syntax.specs.Syntax.{ClauseArgument}
use Rattle.mitex_syntax.specs.Tree.{Tree, size}
use Rattle.mitex_syntax.specs.Views.{first_of, children_of}
use Rattle.mitex_syntax.specs.Spells.{Spells}
use Rattle.mitex_syntax.specs.declared.Spot.{Spot}
use Rattle.mitex_meaning.specs.Texts.{body_begin, caption_begin, caption_end}
use Rattle.mitex_meaning.specs.Environments.{Caption, is_caption, caption_from_row}
use Rattle.mitex_meaning.specs.Environments.Caption.{absent, bare, caption}
use Rattle.mitex_meaning.specs.Parts.{part_rows, part_text, LiesIn}

-- the caption that a child is, o rows below the figure
abbrev pub child_caption : ℕ → Tree → Caption
child_caption o t = cond (is_caption t) (caption_from_row o t (first_of ClauseArgument (children_of t))) absent

-- the place is that of the argument of a caption of at most n rows
pub record ArgumentAt (w : Caption) (n : ℕ) (rows text : List ℕ) (p : Spot) : Type 0 where
  pub tree : Tree
  pub below : ℕ
  pub is : w ≡ caption (1 + below) tree
  pub spells : Spells tree (part_rows p rows) (part_text p text)
  pub inside : LiesIn rows text p
  pub row : p.row ≡ 8 * below
  pub fits : size tree ≤ n

pub data Shows (w : Caption) (n : ℕ) (rows text : List ℕ) : Result (Option Spot) ℕ → Type 0 where
  shows_none : w ≡ absent → Shows w n rows text (Ok None)
  shows_bare : {below : ℕ} → w ≡ bare (1 + below) → Shows w n rows text (Err below)
  shows_at : {p : Spot} → ArgumentAt w n rows text p → Shows w n rows text (Ok (Some p))

-- a caption that is there
abbrev pub caption_there : Result Spot ℕ → Result (Option Spot) ℕ
caption_there (Ok p) = Ok (Some p)
caption_there (Err below) = Err below

-- ---- the caption of a figure

-- what stands before it
abbrev pub caption_text : Bool → List ℕ
caption_text true = caption_begin
caption_text false = []

-- what stands behind it, up to the body
abbrev pub caption_close : Bool → List ℕ
caption_close true = caption_end ++ body_begin
caption_close false = body_begin
