-- What the passes over the blocks are given, and what they promise. A promise is made for whatever the pass may have been given: for
-- every list of rules that the rule file has, and every forest that the rows and the text spell.
use Rattle.std.specs.Prelude.{◌≡◌, Bool, true, false, List, [], ◌∷◌, ℕ, zero, suc, ◌+◌, ◌-◌, ◌*◌, ◌/◌, ◌≤◌, ◌<◌, min, length, take, drop, Result, Ok, Err}
use Rattle.std.proofs.lemmas.List.Edits.{sets}
use Rattle.refusals.specs.Refusals.{refusal_number}
use Rattle.text.specs.Writing.{cap}
use Rattle.mitex_spec.specs.Rules.{Rule}
use Rattle.mitex_spec.specs.Index.{Ready}
use Rattle.mitex_syntax.specs.Tree.{Tree, Forest, size, count}
use Rattle.mitex_syntax.specs.Tree.Forest.{more}
use Rattle.mitex_syntax.specs.Spells.{SpellsAll}
use Rattle.text.specs.Trailer.{file_most}
use Rattle.tree_file.specs.Layout.{blocks_most}
use Rattle.mitex_meaning.specs.Outcome.{Carry, label_most}
use Rattle.mitex_meaning.specs.Outcome.Outcome.{done}
use Rattle.mitex_meaning.specs.Conversion.{start_carry}
use Rattle.mitex_meaning.specs.State.{new_of, carry_of, Carried}
use Rattle.mitex_meaning.specs.Contract.{place_of, Agrees, went_with, walked_by}
use Rattle.refusals.specs.declared.Refusal.{Refusal}
use Rattle.mitex_meaning.specs.declared.LaTeXEnv.TheVariants.{None}
use Rattle.mitex_meaning.specs.declared.LaTeXMode.{LaTeXMode}
use Rattle.mitex_meaning.specs.declared.Converter.{Converter}
use Rattle.mitex_meaning.specs.Contract.{Walked}
use Rattle.ledger.specs.Ledger.{Row, row_size, same_carry, decode_rows, encode_rows, Piece, written, rows_from}
use Rattle.edit_meaning.specs.Walk.{Walk, rows_all, walk, walk_until}
use Rattle.edit_meaning.specs.Walk.Walk.{stopped, pieces}
use Rattle.edit_meaning.specs.Walk.{BlockConverter}
use Rattle.edit_meaning.specs.Edit.{end_before, carry_before, row_carries}
use Rattle.manuscript.specs.Manuscript.{listed, block, blocks_in}
use Rattle.passes.specs.declared.Standing.{Standing}

-- ---- what is given

-- a document past the checks: its rules, and its blocks, spelt by the rows after the root's
pub record Document (rules index rows text : List ℕ) (n : ℕ) : Type 0 where
  pub rs : List Rule
  pub ready : Ready rules index rs
  pub blocks : Forest
  pub spells : SpellsAll blocks rows text
  pub many : count blocks ≡ n
  pub most : n ≤ blocks_most
  pub few : length rows ≤ file_most
  pub short : length text ≤ file_most

-- a converter outside of all environments, whose label has room
pub record Outside (c : Converter) : Type 0 where
  pub env : c.env ≡ None
  pub indent : c.indent ≡ 0
  pub label : c.label_len ≤ label_most

-- a pass goes on from here: the file has rules, and the blocks that are left are spelt after the bytes of those before
pub record BlocksGiven (rules index rows text : List ℕ) (s : Standing) : Type 0 where
  pub rs : List Rule
  pub ready : Ready rules index rs
  pub blocks : Forest
  pub spells : SpellsAll blocks (drop s.i rows) (drop s.j text)
  pub low : s.i ≤ length rows
  pub begun : s.j ≤ length text
  pub few : length rows ≤ file_most
  pub short : length text ≤ file_most
  pub place : s.at ≤ cap
  pub outside : Outside s.converter

-- and the blocks that are left are all up to block n
pub record BlocksUpTo (rules index rows text : List ℕ) (s : Standing) (n : ℕ) : Type 0 where
  pub given : BlocksGiven rules index rows text s
  pub many : s.block + count given.blocks ≡ n
  pub few : n ≤ blocks_most

-- the first row of the next block
abbrev pub row_no : Standing → ℕ
row_no s = 1 + s.i / 8

-- the converter of blocks
abbrev pub converter_of : {rules index rows text : List ℕ} {s : Standing} → BlocksGiven rules index rows text s → BlockConverter
converter_of {s = s} w = blocks_in s.converter.mode w.rs

-- pieces of the first of some blocks, from a carry on
pub data FirstPieces (𝓒 : BlockConverter) : Carry → List 𝓒.Block → List Piece → Type 0 where
  none_yet : {c : Carry} {bs : List 𝓒.Block} → FirstPieces 𝓒 c bs []
  one_more :
      {c c' : Carry} {b : 𝓒.Block} {bs : List 𝓒.Block} {t : List ℕ} {ps : List Piece} → 𝓒.convert c b ≡ done c' t
      → FirstPieces 𝓒 c' bs ps → FirstPieces 𝓒 c (b ∷ bs) (record { text = t; after = c' } ∷ ps)

-- the blocks up to block `to` give pieces, whose text ends where a row can say so, and there are rows for them
pub record Pieced (rules index rows text : List ℕ) (s : Standing) (to : ℕ) (ledger : List ℕ) : Type 0 where
  pub given : BlocksGiven rules index rows text s
  pub ps : List Piece
  pub gives : FirstPieces (converter_of given) (carry_of s.converter) (listed given.blocks) ps
  pub many : s.block + length ps ≡ to
  pub end : s.at + length (written ps) < cap
  pub room : row_size * to ≤ length ledger
  pub few : to ≤ blocks_most

-- the rows are those of so many blocks or more
pub record SomeBlocks (rows : List ℕ) (block : ℕ) : Type 0 where
  pub blocks : Forest
  pub text : List ℕ
  pub spells : SpellsAll blocks rows text
  pub many : block ≤ count blocks
  pub few : length rows ≤ file_most
  pub short : length text ≤ file_most

-- before block k of some blocks: those from it on are spelt by the rows from byte i and the text from byte j on
pub record Reached (blocks : Forest) (rows text : List ℕ) (k i j : ℕ) : Type 0 where
  pub left : Forest
  pub are : listed left ≡ drop k (listed blocks)
  pub spells : SpellsAll left (drop i rows) (drop j text)
  pub row : i ≡ 8 * rows_all size (take k (listed blocks))
  pub low : i ≤ length rows
  pub begun : j ≤ length text

-- the same of whatever forest of so many blocks the rows spell
abbrev pub Reaches : (rows : List ℕ) (block k i j : ℕ) → Type 0
Reaches rows block k i j =
    (blocks : Forest) (text : List ℕ) → SpellsAll blocks rows text → block ≤ count blocks → length text ≤ file_most
    → Reached blocks rows text k i j

-- ---- what is promised

-- where a block begins, and the converter that it begins with, in a ledger of n rows or more
abbrev pub EndsBefore : (ledger : List ℕ) (k : ℕ) (r : ℕ) → Type 0
EndsBefore ledger k r = (n : ℕ) → k ≤ n → r ≡ end_before k (decode_rows n ledger)

abbrev pub CarriesBefore : (ledger : List ℕ) (k : ℕ) (m : LaTeXMode) (r : Converter) → Type 0
CarriesBefore ledger k m r = (n : ℕ) → k ≤ n → Carried (new_of m) (carry_before k (decode_rows n ledger)) r

-- what a pass answered for a block, as the answer of a walk
abbrev pub walked_to : Standing → Result Standing Refusal → Walked
walked_to s (Ok r) = went_with r.converter r.at
walked_to s (Err e) = walked_by s.converter s.at (Err e)

-- a pass stands after the next block, t, and g are left
pub record Past (rows text : List ℕ) (s : Standing) (t : Tree) (g : Forest) (r : Standing) : Type 0 where
  pub counted : r.block ≡ s.block + 1
  pub row : row_no r ≡ row_no s + size t
  pub spells : SpellsAll g (drop r.i rows) (drop r.j text)
  pub low : r.i ≤ length rows
  pub begun : r.j ≤ length text

-- of a pass that was not refused
abbrev pub IsPast : (rows text : List ℕ) (s : Standing) (t : Tree) (g : Forest) → Result Standing Refusal → Type 0
IsPast rows text s t g (Ok r) = Past rows text s t g r
IsPast rows text s t g (Err e) = Unit {0}

-- a block was passed or refused: t, and g are left
pub record Stepped (rules index rows text : List ℕ) (s : Standing) (rs : List Rule) (t : Tree) (g : Forest) (out : List ℕ)
    (r : Result Standing Refusal) (out' : List ℕ) : Type 0 where
  pub past : IsPast rows text s t g r
  pub agrees :
      Agrees (walked_to s r) (place_of s.converter) (row_no s) s.at out out' (block s.converter.mode rs (carry_of s.converter) t)

abbrev pub Steps :
    (rules index rows text : List ℕ) (s : Standing) (out : List ℕ) (r : Result Standing Refusal) (out' : List ℕ) → Type 0
Steps rules index rows text s out r out' =
    (w : BlocksGiven rules index rows text s) (t : Tree) (g : Forest) → w.blocks ≡ more t g
    → Stepped rules index rows text s w.rs t g out r out'

-- the pass stands before block k
pub record Stood (blocks : Forest) (rows text : List ℕ) (k at : ℕ) (c : Converter) (r : Standing) : Type 0 where
  pub left : Forest
  pub are : listed left ≡ drop k (listed blocks)
  pub spells : SpellsAll left (drop r.i rows) (drop r.j text)
  pub exact : r.i ≡ 8 * rows_all size (take k (listed blocks))
  pub row : row_no r ≡ 1 + rows_all size (take k (listed blocks))
  pub low : r.i ≤ length rows
  pub begun : r.j ≤ length text
  pub block : r.block ≡ k
  pub gives : r.converter ≡ c
  pub next : r.at ≡ at

abbrev pub StandsBefore : (rows : List ℕ) (k at : ℕ) (c : Converter) (r : Standing) → Type 0
StandsBefore rows k at c r =
    (blocks : Forest) (text : List ℕ) → SpellsAll blocks rows text → k ≤ count blocks → length text ≤ file_most
    → Stood blocks rows text k at c r

-- the carries before the kept blocks from j on: a document's first, and those of the rows
abbrev pub carries_on : ℕ → List Row → List Carry
carries_on zero rows = start_carry ∷ row_carries rows
carries_on (suc j) rows = row_carries (drop j rows)

-- the kept block, of `was`, that has as many after it as block i of n
abbrev pub kept_block : ℕ → ℕ → ℕ → ℕ
kept_block i n was = i + was - n

-- whether the carry at a standing is the one before kept block j, in a ledger of j rows or more
abbrev pub MeetsBefore : (j : ℕ) (s : Standing) (kept : List ℕ) (r : Bool) → Type 0
MeetsBefore j s kept r =
    (n : ℕ) → j ≤ n → r ≡ same_carry (carry_of s.converter) (carry_before j (decode_rows n kept))

-- all blocks, or no further than the kept carry
abbrev pub walk_by : (𝓒 : BlockConverter) → Bool → Carry → ℕ → List 𝓒.Block → List Carry → Walk
walk_by 𝓒 false c r bs ds = walk 𝓒 c r bs
walk_by 𝓒 true c r bs ds = walk_until 𝓒 c r bs ds

-- a measuring pass came to a walk: it was refused as the walk was; or it stands after the walk's pieces
pub data Came (from : Standing) : Result Standing Refusal → Walk → Type 0 where
  came_stopped : {e : Refusal} {n i : ℕ} → refusal_number e.reason ≡ n → e.row ≡ i → Came from (Err e) (stopped n i)
  came_through :
      {r : Standing} {ps : List Piece} → r.block ≡ from.block + length ps → r.at ≡ min cap (from.at + length (written ps))
      → Came from (Ok r) (pieces ps)

-- after each block the carry is compared with the one before the kept block that has as many after it
abbrev pub Measures :
    (rules index rows text : List ℕ) (from : Standing) (n was : ℕ) (edits : Bool) (kept : List ℕ) (r : Result Standing Refusal)
    → Type 0
Measures rules index rows text from n was edits kept r =
    (w : BlocksUpTo rules index rows text from n)
    → Came from r
    (walk_by (converter_of w.given) edits (carry_of from.converter) (row_no from) (listed w.given.blocks)
    (carries_on (kept_block (suc from.block) n was) (decode_rows was kept)))

-- a writing pass: the text of the pieces and their rows
pub record WrotePieces (ps : List Piece) (from : Standing) (out ledger out' ledger' : List ℕ) : Type 0 where
  pub text : out' ≡ sets out from.at (written ps)
  pub rows : ledger' ≡ sets ledger (row_size * from.block) (encode_rows (rows_from from.at ps))

abbrev pub Writes : (rules index rows text : List ℕ) (from : Standing) (to : ℕ) (out ledger out' ledger' : List ℕ) → Type 0
Writes rules index rows text from to out ledger out' ledger' =
    (w : Pieced rules index rows text from to ledger) → WrotePieces w.ps from out ledger out' ledger'
