-- Where the parts of a node's children stand that its arm walks over. Rows and text are those of the children; places in them are
-- counted in bytes, and a row has 8.
use Rattle.std.specs.Prelude.{◌≡◌, Bool, true, false, List, ℕ, ◌+◌, ◌*◌, ◌-◌, ◌/◌, ◌≤◌, ◌<◌, length, take, drop, Option, Some, None, Result, Ok, Err}
use Rattle.std.proofs.Math.Option.Option.{some}
use Rattle.mitex_syntax.specs.Syntax.{ItemBegin}
use Rattle.mitex_syntax.specs.Tree.{Tree, Forest, size, sizes}
use Rattle.mitex_syntax.specs.Tree.Tree.{node}
use Rattle.mitex_syntax.specs.Views.{first_by, offset_by, offset_of, begin_of}
use Rattle.mitex_syntax.specs.Spells.{Spells, SpellsAll}
use Rattle.mitex_meaning.specs.Outcome.{Carry, Outcome, shift}
use Rattle.mitex_meaning.specs.Outcome.Outcome.{refused}
use Rattle.mitex_meaning.specs.Children.{each}
use Rattle.mitex_meaning.specs.Commands.{is_argument, greedy_in}
use Rattle.mitex_meaning.specs.Environments.{last_caption}
use Rattle.mitex_meaning.specs.Environments.Caption.{absent, bare, caption}
use Rattle.mitex_syntax.specs.declared.Spot.{Spot}
use Rattle.mitex_meaning.specs.declared.Loop.{Loop}

-- the bytes from a up to b
abbrev pub between : ℕ → ℕ → List ℕ → List ℕ
between a b l = take (b - a) (drop a l)

-- the rows and the text at a place, and the rows of the children of the element there
abbrev pub part_rows : Spot → List ℕ → List ℕ
part_rows p rows = between p.row p.end rows

abbrev pub part_text : Spot → List ℕ → List ℕ
part_text p text = between p.from p.to text

abbrev pub inner_rows : Spot → List ℕ → List ℕ
inner_rows p rows = between (p.row + 8) p.end rows

pub record LiesIn (rows text : List ℕ) (p : Spot) : Type 0 where
  pub low : p.row ≤ p.end
  pub high : p.end ≤ length rows
  pub begun : p.from ≤ p.to
  pub stop : p.to ≤ length text

-- the node that a Greedy command takes
pub record GreedyStands (f : Forest) (rows text : List ℕ) (p : Spot) : Type 0 where
  pub kind : ℕ
  pub forest : Forest
  pub is : first_by is_argument f ≡ some (node kind forest)
  pub spells : SpellsAll forest (inner_rows p rows) (part_text p text)
  pub inside : LiesIn rows text p
  pub row : p.row ≡ 8 * offset_by is_argument f
  pub some_rows : p.row + 8 ≤ p.end
  pub fits : sizes forest < sizes f

pub data GreedyFound (f : Forest) (rows text : List ℕ) : Option Spot → Type 0 where
  no_greedy :
      ((conv : Tree → Carry → Outcome) (o : ℕ) (c : Carry) → greedy_in conv o (first_by is_argument f) c ≡ refused 12 0)
      → GreedyFound f rows text None
  greedy_at : {p : Spot} → GreedyStands f rows text p → GreedyFound f rows text (Some p)

-- the argument of a figure's last caption
pub record CaptionStands (f : Forest) (rows text : List ℕ) (p : Spot) : Type 0 where
  pub tree : Tree
  pub below : ℕ
  pub is : last_caption 1 f ≡ caption (1 + below) tree
  pub spells : Spells tree (part_rows p rows) (part_text p text)
  pub inside : LiesIn rows text p
  pub row : p.row ≡ 8 * below
  pub fits : size tree ≤ sizes f

-- or, as a refusal, how many rows below the first child a caption without one stands
pub data CaptionFound (f : Forest) (rows text : List ℕ) : Result (Option Spot) ℕ → Type 0 where
  no_caption : last_caption 1 f ≡ absent → CaptionFound f rows text (Ok None)
  bare_caption : {below : ℕ} → last_caption 1 f ≡ bare (1 + below) → CaptionFound f rows text (Err below)
  caption_at : {p : Spot} → CaptionStands f rows text p → CaptionFound f rows text (Ok (Some p))

-- the children of an environment's first ItemBegin, which stand in these rows and this text, from row byte i of its children on; and how
-- a loop over them counts its rows
pub record BeginFound (f : Forest) (i : ℕ) (rows text : List ℕ) : Type 0 where
  pub spells : SpellsAll (begin_of f) rows text
  pub row :
      (conv : Tree → Carry → Outcome) (l : Loop) (c : Carry) → shift (1 + offset_of ItemBegin f) (each conv 1 l (begin_of f) c) ≡ shift (1 + i / 8) (each conv 0 l (begin_of f) c)
  pub fits : sizes (begin_of f) ≤ sizes f
