-- What the views promise of a place: where a child stands among the children of a node, and where a token's text does. Rows and
-- text are those of the children; places in them are counted in bytes.
use Rattle.std.specs.Prelude.{Bool, ◌≡◌, ℕ, ◌+◌, ◌*◌, ◌-◌, ◌≤◌, ◌<◌, List, [], length, take, drop, Option, None, Some}
use Rattle.std.proofs.Math.Option.{Option as Maybe}
use Rattle.std.proofs.Math.Option.Option.{none as nothing, some}
use Rattle.text.specs.Slices.{PartOf}
use Rattle.mitex_syntax.specs.Tree.{Tree, Forest, size, sizes, kind_of}
use Rattle.mitex_syntax.specs.Tree.Forest.{more}
use Rattle.mitex_syntax.specs.Rows.{extent_of, token_sum}
use Rattle.mitex_syntax.specs.Views.{first_by, offset_by, all_by, from_by, is_of, is_other, is_argument_with, text_in}
use Rattle.mitex_syntax.specs.Spells.{Spells, Begins, SomeTree}
use Rattle.mitex_syntax.specs.declared.Spot.{Spot}
use Rattle.mitex_syntax.specs.declared.Wanted.{Wanted}
use Rattle.mitex_syntax.specs.declared.Wanted.TheVariants.{Kind, ArgumentWith, Other}
use Rattle.mitex_syntax.specs.declared.Token.{Token}
use Rattle.mitex_syntax.specs.declared.Span.{Span}

-- ---- a child

-- the test that a wish stands for
abbrev pub is_wanted : Wanted → Tree → Bool
is_wanted (Kind k) = is_of k
is_wanted (ArgumentWith k) = is_argument_with k
is_wanted (Other k) = is_other k

-- of the elements f, which begin at row byte i, the first that the test picks has the rows from a to b and the text from c to d,
-- and the others after it begin where it ends
pub record FirstAt (p : Tree → Bool) (f : Forest) (rows text : List ℕ) (i a b c d : ℕ) : Type 0 where
  pub tree : Tree
  pub is : first_by p f ≡ some tree
  pub row : a ≡ i + 8 * offset_by p f
  pub some_rows : a + 8 ≤ b
  pub end : b ≤ length rows
  pub some_text : c ≤ d
  pub stop : d ≤ length text
  pub spells : Spells tree (take (b - a) (drop a rows)) (take (d - c) (drop c text))
  pub fits : size tree ≤ sizes f
  pub others : Forest
  pub past : Begins others (drop b rows) (drop d text)
  pub all : all_by p f ≡ more tree (all_by p others)
  pub from : from_by p f ≡ more tree others

-- the place is that of the first such element
pub data Placed (p : Tree → Bool) (f : Forest) (rows text : List ℕ) (i : ℕ) : Option Spot → Type 0 where
  missing : first_by p f ≡ nothing → Placed p f rows text i None
  there : {s : Spot} → FirstAt p f rows text i s.row s.end s.from s.to → Placed p f rows text i (Some s)

-- the place is the right one for all elements that the rows and the text spell from row byte i and text byte j on
abbrev pub FindsSpot : (Tree → Bool) → List ℕ → List ℕ → ℕ → ℕ → Option Spot → Type 0
FindsSpot p rows text i j r = (f : Forest) → Begins f (drop i rows) (drop j text) → Placed p f rows text i r

-- the text at a place; none where nothing was found
abbrev pub part_at : Option Spot → List ℕ → List ℕ
part_at None text = []
part_at (Some s) text = take (s.to - s.from) (drop s.from text)

abbrev pub InText : List ℕ → Option Spot → Type 0
InText text None = Unit {0}
InText text (Some s) = (s.from ≤ s.to) × (s.to ≤ length text)

-- an element stands at the place, or at that which was found
pub record SpotIn (rows text : List ℕ) (s : Spot) : Type 0 where
  pub some_rows : s.row + 8 ≤ s.end
  pub end : s.end ≤ length rows
  pub some_text : s.from ≤ s.to
  pub stop : s.to ≤ length text
  pub element : SomeTree (take (s.end - s.row) (drop s.row rows)) (take (s.to - s.from) (drop s.from text))

abbrev pub FoundIn : List ℕ → List ℕ → Option Spot → Type 0
FoundIn rows text None = Unit {0}
FoundIn rows text (Some s) = SpotIn rows text s

-- ---- a token

-- the kind of an element that may be there
abbrev pub kind_found : Maybe Tree → Option ℕ
kind_found nothing = None
kind_found (some t) = Some (kind_of t)

-- kind and text of a token that may be there; no text where there is none
abbrev pub kind_told : Option Token → Option ℕ
kind_told None = None
kind_told (Some r) = Some r.kind

abbrev pub text_told : Option Token → List ℕ
text_told None = []
text_told (Some r) = r.text.now

-- the token is there where there is one, with its kind and its text
pub record TokenIs (o : Maybe Tree) (r : Option Token) : Type 0 where
  pub kind : kind_told r ≡ kind_found o
  pub text_is : text_told r ≡ text_in o

-- the token, if there is one, has a part of the text
abbrev pub TokenIn : List ℕ → Option Token → Type 0
TokenIn text None = Unit {0}
TokenIn text (Some r) = PartOf r.text.now text

-- the way to the last token: over an element that is not the last, and into one that is
pub record LastHop (rows : List ℕ) (i : ℕ) (r : Span) : Type 0 where
  pub over_rows : i + extent_of (drop i rows) < length rows → r.rows ≡ extent_of (drop i rows)
  pub over_text : i + extent_of (drop i rows) < length rows → r.text ≡ token_sum (take (extent_of (drop i rows)) (drop i rows))
  pub into_rows : i + extent_of (drop i rows) ≡ length rows → r.rows ≡ 8
  pub into_text : i + extent_of (drop i rows) ≡ length rows → r.text ≡ 0
