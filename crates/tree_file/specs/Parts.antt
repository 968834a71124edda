-- What the parts of the check promise, each of what it is handed.
use Rattle.std.specs.Prelude.{◌≡◌, Bool, true, ◌&&◌, ◌||◌, cond, ℕ, suc, ◌+◌, ◌*◌, ◌/◌, ◌≤◌, ◌<◌, List, [], ◌∷◌, ◌++◌, length, take, drop, get_or, T, eqb, leb, Option as Maybe, Some, None, Result, Ok, Err, ⊤}
use Rattle.std.specs.Option.{is_some}
use Rattle.std.proofs.Math.Option.{Option}
use Rattle.std.proofs.Math.Option.Option.{none as nothing, some}
use Rattle.text.specs.Numbers.{four, four_at}
use Rattle.text.specs.Writing.{cap}
use Rattle.text.specs.Trailer.{file_most}
use Rattle.utf8.specs.Utf8.{one_byte_each}
use Rattle.mitex_syntax.specs.Syntax.{ClauseLR, ScopeRoot, ItemBegin, ItemEnd, TokenCommandSym, ItemEnv, is_node}
use Rattle.mitex_syntax.specs.Tree.{Tree, Forest, rows_of, rows_ofs, texts_of, count}
use Rattle.mitex_syntax.specs.Tree.Tree.{token, node}
use Rattle.mitex_syntax.specs.Tree.Forest.{none, more}
use Rattle.mitex_syntax.specs.Spells.{token_fits, SpellsAll, Begins, SomeTree}
use Rattle.mitex_syntax.specs.declared.Span.{Span}
use Rattle.mitex_syntax.specs.declared.Spot.{Spot}
use Rattle.tree_file.specs.Layout.{blocks_most, Line, root}
use Rattle.tree_file.specs.Layout.Line.{token_line, node_line}
use Rattle.tree_file.specs.Depth.{depths, depth_most}
use Rattle.tree_file.specs.Shape.{sym_fits, node_fits, lowests, ShapedAll}
use Rattle.tree_file.specs.Check.{Checked, by_depth, checked_answer}
use Rattle.tree_file.specs.declared.Unnested.{Unnested}
use Rattle.tree_file.specs.declared.Unnested.TheVariants.{Broken, Deep}

-- ---- rows that were read

-- their bytes, and the text of their tokens
unfoldable pub bytes_of : List Line → List ℕ
bytes_of [] = []
bytes_of (token_line k s ∷ ls) = k ∷ 1 ∷ 0 ∷ 0 ∷ four (length s) (bytes_of ls)
bytes_of (node_line k n ∷ ls) = k ∷ 0 ∷ 0 ∷ 0 ∷ four n (bytes_of ls)

unfoldable pub texts_in : List Line → List ℕ
texts_in [] = []
texts_in (token_line k s ∷ ls) = s ++ texts_in ls
texts_in (node_line k n ∷ ls) = texts_in ls

-- each is one of its kind, and its number fits four bytes
unfoldable pub LinesFit : List Line → Type 0
LinesFit [] = Unit {0}
LinesFit (token_line k s ∷ ls) = T (token_fits k s) × (length s < cap) × LinesFit ls
LinesFit (node_line k n ∷ ls) = T (is_node k) × (n < cap) × LinesFit ls

-- the rows under the row that stands first
abbrev pub under_of : List ℕ → ℕ
under_of rows = cond (eqb (get_or rows 1 0) 1) 0 (four_at 4 rows)

-- ---- answers

-- rows nest no deeper than `left`, or deeper, or not at all
abbrev pub Nested : Option Forest → ℕ → Result ⊤ Unnested → Type 0
Nested o left (Err Broken) = o ≡ nothing
Nested o left (Err Deep) = (f : Forest) → o ≡ some f → suc left ≤ depths f
Nested o left (Ok u) = (f : Forest) × ((o ≡ some f) × (depths f ≤ left))

-- a root that is one, and how many blocks it has
abbrev pub root_blocks : Forest → Maybe ℕ
root_blocks none = None
root_blocks (more t (more u f)) = None
root_blocks (more (token k s) none) = None
root_blocks (more (node k f) none) = cond (eqb k ScopeRoot && leb (count f) blocks_most) (Some (count f)) None

-- something was found
abbrev pub is_there : Maybe Spot → Bool
is_there r = is_some r

-- whether a row breaks a rule
abbrev pub shape_of : Option ℕ → Result ⊤ ℕ
shape_of nothing = Ok tt
shape_of (some row) = Err row

-- ---- the scan for shape

-- the kind exempts the names directly under it
abbrev pub is_frame : ℕ → Bool
is_frame k = eqb k ItemBegin || eqb k ItemEnd

-- a rule is on elements of this kind
abbrev pub is_ruled : ℕ → Bool
is_ruled k = eqb k ClauseLR || (leb TokenCommandSym k && leb k ItemEnv)

-- an element's own row breaks no rule, where what is above exempts nothing
abbrev pub first_fits : Tree → Bool
first_fits (token k s) = sym_fits 0 k s
first_fits (node k f) = node_fits k f

-- rows and text are those of elements whose lowest row that breaks a rule, from `next` on, is that of f from `row` on
pub record LowestFrom (f : Forest) (row next : ℕ) (rows text : List ℕ) : Type 0 where
  pub forest : Forest
  pub spells : SpellsAll forest rows text
  pub same : lowests 0 row f ≡ lowests 0 next forest

-- what stands first breaks a rule, or so many bytes of rows and of text on what is left decides
abbrev pub PassSays : List ℕ → List ℕ → ℕ → Result Span ℕ → Type 0
PassSays rows text row (Err r) = (f : Forest) → SpellsAll f rows text → lowests 0 row f ≡ some r
PassSays rows text row (Ok s) =
    (8 ≤ s.rows) × (s.rows ≤ length rows) × (s.text ≤ length text)
    × ((f : Forest) → SpellsAll f rows text → LowestFrom f row (row + s.rows / 8) (drop s.rows rows) (drop s.text text))

-- the answer for the trees that the rows of a file grow to
abbrev pub answer_to : Option Forest → Checked
answer_to o = checked_answer (by_depth (root o))

-- ---- the survey

-- a token stands first, whose text is the first n bytes, and it keeps its shape rule under a node of the kind `up`
pub record TokenStands (up : ℕ) (rows text : List ℕ) (n : ℕ) : Type 0 where
  pub room : n ≤ length text
  pub rows_are : rows ≡ rows_of (token (get_or rows 0 0) (take n text)) ++ drop 8 rows
  pub fits : T (token_fits (get_or rows 0 0) (take n text))
  pub right : T (sym_fits up (get_or rows 0 0) (take n text))

-- a node stands first; its rows, where they are all there, end at byte e
pub record NodeStands (rows : List ℕ) (e : ℕ) : Type 0 where
  pub under : ℕ
  pub end : e ≡ 8 + 8 * under
  pub rows_are : rows ≡ get_or rows 0 0 ∷ 0 ∷ 0 ∷ 0 ∷ four under (drop 8 rows)
  pub kind : T (is_node (get_or rows 0 0))

-- the rows are those of elements side by side, no deeper than `left`, and they keep the shape rules under a node of the kind `up`; the
-- text begins with theirs, of n bytes
pub record Surveyed (up left : ℕ) (rows text : List ℕ) (n : ℕ) : Type 0 where
  pub forest : Forest
  pub begins : Begins forest rows text
  pub long : n ≡ length (texts_of forest)
  pub low : depths forest ≤ left
  pub shaped : ShapedAll up forest

-- an answer that is not sure says nothing
abbrev pub SurveySays : ℕ → ℕ → List ℕ → List ℕ → Maybe ℕ → Type 0
SurveySays up left rows text None = Unit {0}
SurveySays up left rows text (Some n) = Surveyed up left rows text n

-- ---- what is asked

-- the rows are those of some lines
pub record SomeLines (rows : List ℕ) : Type 0 where
  pub ls : List Line
  pub spelt : rows ≡ bytes_of ls
  pub fit : LinesFit ls
  pub few : length rows ≤ file_most

-- the rows are those of some trees
pub record FewRows (rows : List ℕ) : Type 0 where
  pub forest : Forest
  pub spelt : rows ≡ rows_ofs forest
  pub few : length rows ≤ file_most

-- and the text is theirs
pub record SomeTrees (rows text : List ℕ) : Type 0 where
  pub forest : Forest
  pub spells : SpellsAll forest rows text
  pub low : depths forest ≤ depth_most
  pub few : length rows ≤ file_most
  pub short : length text ≤ file_most

-- the areas of a file within the limits
pub record Areas (rows text : List ℕ) : Type 0 where
  pub many : ℕ
  pub so_many : length rows ≡ 8 * many
  pub few : length rows ≤ file_most
  pub short : length text ≤ file_most

-- elements side by side are spelt, one or more, in bytes within the limits
pub record Scannable (rows text : List ℕ) : Type 0 where
  pub forest : Forest
  pub spells : SpellsAll forest rows text
  pub some : 8 ≤ length rows
  pub few : length rows ≤ file_most
  pub short : length text ≤ file_most

-- an element is spelt, in bytes within the limits, and its first row has the number `row`
pub record Checkable (rows text : List ℕ) (row : ℕ) : Type 0 where
  pub given : SomeTree rows text
  pub few : length rows ≤ file_most
  pub short : length text ≤ file_most
  pub low : row + length rows ≤ 2 * file_most

-- bytes within the limits, and where `plain` is said, the characters of the text have one byte each
pub record Surveyable (rows text : List ℕ) (plain : Bool) : Type 0 where
  pub few : length rows ≤ file_most
  pub short : length text ≤ file_most
  pub one_each : plain ≡ true → one_byte_each text ≡ true
