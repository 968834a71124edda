-- A plan of several stretches, and what the functions that make it and carry it out are given and promise: a note for each stretch, and
-- after the last stretch one whose block is the count of blocks.
use Rattle.std.specs.Prelude.{◌≡◌, true, List, [], ◌∷◌, ℕ, ◌+◌, ◌*◌, ◌-◌, ◌≤◌, ◌<◌, min, length, take, drop, set, Result, Ok, Err}
use Rattle.std.proofs.lemmas.List.Edits.{sets}
use Rattle.refusals.specs.Refusals.{refusal_number}
use Rattle.refusals.specs.declared.Refusal.{Refusal}
use Rattle.text.specs.Writing.{cap}
use Rattle.tree_file.specs.Layout.{blocks_most}
use Rattle.mitex_meaning.specs.declared.LaTeXMode.{LaTeXMode}
use Rattle.ledger.specs.Ledger.{Row, row_size, decode_rows, encode_rows, fits, Piece, written, rows_from}
use Rattle.edit_meaning.specs.Walk.Walk.{stopped, pieces}
use Rattle.edit_meaning.specs.Edit.{end_before, carry_before, again}
use Rattle.edit_meaning.specs.Changes.{Stretch, block_after, come_count, Remade, each_from, text_from, ledger_from}
use Rattle.edit_meaning.specs.Changes.Remade.{halted, remade}
use Rattle.manuscript.specs.Manuscript.{listed, blocks_in}
use Rattle.passes.specs.Passes.{Document, FirstPieces, Reached, Reaches}
use Rattle.stretches.specs.declared.Note.{Note}
use Rattle.stretches.specs.declared.Planned.{Planned}

-- ---- stretches one after the other

-- the block at which the first of some stretches begins; the count of blocks where there is none
abbrev pub next_block : ℕ → List Stretch → ℕ
next_block n [] = n
next_block n (s ∷ ss) = s.block

-- the first block after some stretches that begin at block `from` or later
abbrev pub after_all : ℕ → List Stretch → ℕ
after_all from [] = from
after_all from (s ∷ ss) = after_all (block_after s) ss

-- where its text begins in the new text, when that of block `from` begins at `at`
abbrev pub place_after : List Row → ℕ → ℕ → List Stretch → ℕ
place_after rows at from [] = at
place_after rows at from (s ∷ ss) =
    place_after rows (at + (end_before s.block rows - end_before from rows) + length (written s.come)) (block_after s) ss

-- the new text from the first stretch on
abbrev pub rest_text : ℕ → List Row → List Stretch → List ℕ → List ℕ
rest_text kept rows [] text = []
rest_text kept rows (s ∷ ss) text = text_from kept rows s ss text

-- the new rows from the first stretch on, whose text now begins at `at`
abbrev pub rest_rows : ℕ → List Row → ℕ → List Stretch → List ℕ → List ℕ
rest_rows n rows at [] ledger = []
rest_rows n rows at (s ∷ ss) ledger = ledger_from n rows at s ss ledger

-- ---- a plan

abbrev pub plan_size : ℕ
plan_size = blocks_most + 1

-- a ledger that fits n blocks and some text
pub record LedgerFits (n : ℕ) (ledger : List ℕ) : Type 0 where
  pub kept : ℕ
  pub fitting : fits n kept ledger ≡ true

module _ {rules index rows text : List ℕ} {n : ℕ} (w : Document rules index rows text n) (m : LaTeXMode) (ledger : List ℕ) where
  -- A stretch that begins at block `from` or later, and its note: the pieces of as many blocks as it takes the place of, converted from the
  -- kept carry on. The note says its first block, the first block after it, the bytes of its text, and where its first block's rows and
  -- text begin.
  pub record Noted (from : ℕ) (s : Stretch) (note : Note) : Type 0 where
    pub later : from ≤ s.block
    pub gone : s.gone ≡ length s.come
    pub some : 0 < length s.come
    pub within : block_after s ≤ n
    pub are :
        FirstPieces (blocks_in m w.rs) (carry_before s.block (decode_rows n ledger)) (drop s.block (listed w.blocks)) s.come
    pub block : note.block ≡ s.block
    pub after : note.after ≡ block_after s
    pub size : note.size ≡ min cap (length (written s.come))
    pub reached : Reached w.blocks rows text s.block note.i note.j

  -- the plan of stretches that begin at block `from` or later
  pub data LaidOut : ℕ → List Stretch → List Note → Type 0 where
    laid_end : {from : ℕ} {note : Note} {plan : List Note} → from ≤ n → note.block ≡ n → LaidOut from [] (note ∷ plan)
    laid_more :
        {from : ℕ} {s : Stretch} {ss : List Stretch} {note : Note} {plan : List Note} → Noted from s note → LaidOut (block_after s) ss plan
        → LaidOut from (s ∷ ss) (note ∷ plan)

  -- ---- what the measuring comes to

  -- A refusal; or the plan of the stretches, how many blocks they have, the first block after them, and where its text begins: the last
  -- as far as a row can say it.
  pub data PlanComes (plan : List Note) : Result Planned Refusal → Remade → Type 0 where
    plan_halted : {e : Refusal} {number row : ℕ} → refusal_number e.reason ≡ number → e.row ≡ row → PlanComes plan (Err e) (halted number row)
    plan_made :
        {r : Planned} {ss : List Stretch} → LaidOut 0 ss plan → r.block ≡ after_all 0 ss → r.count ≡ come_count ss
        → r.at ≤ 2 * cap * blocks_most → min cap r.at ≡ min cap (place_after (decode_rows n ledger) 0 0 ss)
        → PlanComes plan (Ok r) (remade ss)

  -- the stretch from block k on, put after those of a plan s
  pub record NextNoted (s : Planned) (k : ℕ) (qs : List Piece) (r : Planned) (plan plan' : List Note) : Type 0 where
    pub some : 0 < length qs
    pub within : k + length qs ≤ n
    pub are : FirstPieces (blocks_in m w.rs) (carry_before k (decode_rows n ledger)) (drop k (listed w.blocks)) qs
    pub stretches : r.stretches ≡ s.stretches + 1
    pub count : r.count ≡ s.count + length qs
    pub block : r.block ≡ k + length qs
    pub at :
        r.at
        ≡ s.at + (end_before k (decode_rows n ledger) - end_before s.block (decode_rows n ledger)) + min cap (length (written qs))
    pub near : end_before k (decode_rows n ledger) < cap
    pub from : r.from ≡ k
    pub reaches : Reaches rows k k r.i r.j
    pub noted :
        plan' ≡ set plan s.stretches (record { block = k; after = r.block; size = min cap (length (written qs)); i = r.i; j = r.j })

  -- a named block: it was converted already; or its conversion is refused, there or later; or there is one stretch more
  pub data StretchComes (s : Planned) (k : ℕ) (plan : List Note) : Result Planned Refusal → List Note → Type 0 where
    passed_over : {plan' : List Note} → k < s.block → plan' ≡ plan → StretchComes s k plan (Ok s) plan'
    refused_there :
        {e : Refusal} {plan' : List Note} {number row : ℕ} → s.block ≤ k
        → again (blocks_in m w.rs) (listed w.blocks) k (decode_rows n ledger) ≡ stopped number row → refusal_number e.reason ≡ number
        → e.row ≡ row → StretchComes s k plan (Err e) plan'
    noted_there :
        {r : Planned} {plan' : List Note} {qs : List Piece} → s.block ≤ k
        → again (blocks_in m w.rs) (listed w.blocks) k (decode_rows n ledger) ≡ pieces qs → NextNoted s k qs r plan plan'
        → StretchComes s k plan (Ok r) plan'

-- what is known of a plan while it is made
pub record PlanStands (rows : List ℕ) (n : ℕ) (s : Planned) : Type 0 where
  pub reaches : Reaches rows s.from s.from s.i s.j
  pub started : s.from ≤ s.block
  pub within : s.block ≤ n
  pub few : s.stretches ≤ s.block
  pub counted : s.count ≤ s.block
  pub low : s.at ≤ 2 * cap * s.stretches

abbrev pub PlansStretch :
    (rules index rows text ledger : List ℕ) (m : LaTeXMode) (n : ℕ) (s : Planned) (k : ℕ) (plan : List Note)
    (r : Result Planned Refusal) (plan' : List Note) → Type 0
PlansStretch rules index rows text ledger m n s k plan r plan' =
    (w : Document rules index rows text n) → StretchComes w m ledger s k plan r plan'

abbrev pub PlansStretches :
    (rules index rows text ledger : List ℕ) (m : LaTeXMode) (n : ℕ) (named : List ℕ) (r : Result Planned Refusal)
    (plan : List Note) → Type 0
PlansStretches rules index rows text ledger m n named r plan =
    (w : Document rules index rows text n)
    → PlanComes w m ledger plan r (each_from (blocks_in m w.rs) (listed w.blocks) (decode_rows n ledger) 0 named)

-- ---- the exchange

-- A stretch may be written by its note, its text from `at` up to `now`: the rows before it are those of the kept ledger.
pub record Writable (rules index rows text : List ℕ) (m : LaTeXMode) (n : ℕ) (note : Note) (at now : ℕ) (out ledger : List ℕ) : Type 0 where
  pub document : Document rules index rows text n
  pub kept : List ℕ
  pub fitting : LedgerFits n kept
  pub from : ℕ
  pub s : Stretch
  pub noted : Noted document m kept from s note
  pub same : take (row_size * s.block) ledger ≡ take (row_size * s.block) kept
  pub long : length ledger ≡ length kept
  pub ends : now ≡ at + length (written s.come)
  pub small : now < cap
  pub inside : now ≤ length out

-- its text and its rows were written
pub record WroteStretch (s : Stretch) (at : ℕ) (out ledger out' ledger' : List ℕ) : Type 0 where
  pub text : out' ≡ sets out at (written s.come)
  pub rows : ledger' ≡ sets ledger (row_size * s.block) (encode_rows (rows_from at s.come))

abbrev pub WritesStretch :
    (rules index rows text : List ℕ) (m : LaTeXMode) (n : ℕ) (note : Note) (at now : ℕ) (out ledger out' ledger' : List ℕ) → Type 0
WritesStretch rules index rows text m n note at now out ledger out' ledger' =
    (w : Writable rules index rows text m n note at now out ledger) → WroteStretch w.s at out ledger out' ledger'

-- The stretches of a plan may take the place of the kept blocks, the first of them from `at` on: the buffers are as they were kept from
-- there on, and the text has room for all.
pub record Exchangeable (rules index rows text : List ℕ) (m : LaTeXMode) (n : ℕ) (plan : List Note) (at : ℕ) (out ledger : List ℕ) : Type 0 where
  pub document : Document rules index rows text n
  pub kept : ℕ
  pub fitting : fits n kept ledger ≡ true
  pub inside : kept ≤ length out
  pub from : ℕ
  pub ss : List Stretch
  pub laid : LaidOut document m ledger from ss plan
  pub room : at + length (rest_text kept (decode_rows n ledger) ss out) ≤ length out
  pub small : at + length (rest_text kept (decode_rows n ledger) ss out) < cap

-- they did
pub record Exchanged (n kept at : ℕ) (ss : List Stretch) (out ledger out' ledger' : List ℕ) : Type 0 where
  pub text : out' ≡ sets out at (rest_text kept (decode_rows n ledger) ss out)
  pub rows : ledger' ≡ sets ledger (row_size * next_block n ss) (rest_rows n (decode_rows n ledger) at ss ledger)

abbrev pub Exchanges :
    (rules index rows text : List ℕ) (m : LaTeXMode) (n : ℕ) (plan : List Note) (at : ℕ) (out ledger out' ledger' : List ℕ) → Type 0
Exchanges rules index rows text m n plan at out ledger out' ledger' =
    (w : Exchangeable rules index rows text m n plan at out ledger) → Exchanged n w.kept at w.ss out ledger out' ledger'
