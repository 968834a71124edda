-- What Convert and the changes answer, and what their parts are given and promise.
use Rattle.std.specs.Prelude.{◌≡◌, true, ◌&&◌, cond, List, [], ◌∷◌, ℕ, suc, ◌+◌, ◌*◌, ◌-◌, ◌≤◌, ◌<◌, min, length, take, drop, ltb, Result, Ok, Err}
use Rattle.std.proofs.Math.Option.Option.{some}
use Rattle.refusals.specs.Refusals.{refusal_number}
use Rattle.refusals.specs.declared.Refusal.{Refusal}
use Rattle.text.specs.Writing.{cap}
use Rattle.mitex_spec.specs.RuleFile.{rules_of}
use Rattle.mitex_syntax.specs.Tree.{Tree}
use Rattle.tree_file.specs.Layout.{blocks_most}
use Rattle.tree_file.specs.Check.{check_tree, blocks_of}
use Rattle.tree_file.specs.Check.Verdict.{accepted}
use Rattle.mitex_meaning.specs.State.{carry_of}
use Rattle.mitex_meaning.specs.Conversion.{start_carry}
use Rattle.ledger.specs.Ledger.{row_size, decode_rows, encode_rows, fits, same_carry, Piece, written, rows_from}
use Rattle.edit_meaning.specs.Walk.{walk, walk_until}
use Rattle.edit_meaning.specs.Walk.Walk.{pieces}
use Rattle.edit_meaning.specs.Walk.CheckedFile.{bad, good}
use Rattle.edit_meaning.specs.Edit.{Answer, settle, end_before, carry_before}
use Rattle.edit_meaning.specs.Edit.Answer.{refused, converted, edited}
use Rattle.edit_meaning.specs.Calls.{Gives}
use Rattle.edit_meaning.specs.Changes.{Kind, Stretch, come_count, text_over, ledger_over, front_over, exchange, change_checked}
use Rattle.edit_meaning.specs.Changes.Kind.{replace, put_in, take_out}
use Rattle.manuscript.specs.Manuscript.{mode_of, listed, manuscript, blocks_in}
use Rattle.passes.specs.Passes.{BlocksGiven, BlocksUpTo, Pieced, FirstPieces, row_no, converter_of, WrotePieces, carries_on, kept_block, Came}
use Rattle.passes.specs.declared.open.OpenDocument.{OpenDocument}
use Rattle.passes.specs.declared.Standing.{Standing}
use Rattle.stretches.specs.Plans.{after_all, place_after, LaidOut}
use Rattle.stretches.specs.declared.Note.{Note}
use Rattle.stretches.specs.declared.Planned.{Planned}
use Rattle.calls.specs.declared.Converted.{Converted}
use Rattle.calls.specs.declared.Edited.{Edited}
use Rattle.calls.specs.declared.Way.{Way}
use Rattle.calls.specs.declared.Way.TheVariants.{Replace, PutIn, TakeOut}

-- ---- answers

abbrev pub answer_of_convert : Result Converted Refusal → Answer
answer_of_convert (Err e) = refused (refusal_number e.reason) e.row
answer_of_convert (Ok r) = converted r.length r.blocks

abbrev pub answer_of_edit : Result Edited Refusal → Answer
answer_of_edit (Err e) = refused (refusal_number e.reason) e.row
answer_of_edit (Ok r) = edited r.length r.growth r.count

-- ---- the files

-- the document that is open is the one of the files: its mode, its rules, and the blocks of its tree
pub record FilesOpen (mode : ℕ) (rules tree : List ℕ) (d : OpenDocument) : Type 0 where
  pub in_mode : mode_of mode ≡ some d.mode
  pub decodes : rules_of rules ≡ some d.open.rs
  pub root : Tree
  pub checked : check_tree tree ≡ accepted root
  pub blocks : d.open.blocks ≡ blocks_of root

-- what a call begins with: a refusal of the checks, or open files
abbrev pub CallBegins : (mode : ℕ) (rules tree : List ℕ) → Result OpenDocument Refusal → Type 0
CallBegins mode rules tree (Err e) = (manuscript mode rules).check tree ≡ bad (refusal_number e.reason) e.row
CallBegins mode rules tree (Ok d) = FilesOpen mode rules tree d

-- the rows after the root's, in a tree file whose rows start there
abbrev pub block_rows : ℕ → List ℕ → List ℕ
block_rows start tree = take (length tree - 8 - (start + 8)) (drop (start + 8) tree)

-- ---- Convert

-- the pieces of a document's blocks, and a draft of them: their text, where it is no longer than the draft, and their rows
pub record Draft (d : OpenDocument) (from : Standing) (draft draft_rows out ledger : List ℕ) : Type 0 where
  pub pieced : Pieced d.content.rules.file.now d.content.rules.index.now d.content.rows.now d.content.text.now from d.blocks ledger
  pub first : from.at ≡ 0
  pub begins : from.block ≡ 0
  pub long : length out ≡ length (written pieced.ps)
  pub holds : length out ≤ length draft → take (length out) draft ≡ written pieced.ps
  pub room : row_size * d.blocks ≤ length draft_rows
  pub holds_rows : take (row_size * d.blocks) draft_rows ≡ encode_rows (rows_from 0 pieced.ps)

abbrev pub Delivers : (d : OpenDocument) (from : Standing) (draft draft_rows out ledger out' ledger' : List ℕ) → Type 0
Delivers d from draft draft_rows out ledger out' ledger' =
    (w : Draft d from draft draft_rows out ledger) → WrotePieces w.pieced.ps from out ledger out' ledger'

abbrev pub ConvertsBlocks : (d : OpenDocument) (out ledger : List ℕ) (r : Result Converted Refusal) (out' ledger' : List ℕ) → Type 0
ConvertsBlocks d out ledger r out' ledger' =
    Gives (settle (walk (blocks_in d.mode d.open.rs) start_carry 1 (listed d.open.blocks)) out ledger) (answer_of_convert r) out' ledger'

-- ---- a change of one block

abbrev pub kind_by : Way → ℕ → Kind
kind_by Replace k = replace k
kind_by PutIn k = put_in k
kind_by TakeOut k = take_out k

-- The blocks of a document from a standing on were measured up to another, where there were `was` blocks: their pieces, and a ledger of the
-- kept blocks that fits the kept text.
pub record Measured (d : OpenDocument) (was kept : ℕ) (from m : Standing) (out ledger : List ℕ) : Type 0 where
  pub given : BlocksGiven d.content.rules.file.now d.content.rules.index.now d.content.rows.now d.content.text.now from
  pub qs : List Piece
  pub are : FirstPieces (converter_of given) (carry_of from.converter) (listed given.blocks) qs
  pub many : m.block ≡ from.block + length qs
  pub end : m.at ≡ min cap (from.at + length (written qs))
  pub begins : from.at ≡ end_before from.block (decode_rows was ledger)
  pub within : m.block ≤ d.blocks
  pub near : d.blocks ≤ m.block + was
  pub later : from.block ≤ kept_block m.block d.blocks was
  pub most : d.blocks ≤ blocks_most
  pub old_most : was ≤ blocks_most + 1
  pub fitting : fits was kept ledger ≡ true
  pub inside : kept ≤ length out

-- where the kept text of the blocks measured ends
abbrev pub old_end : ℕ → ℕ → Standing → List ℕ → ℕ
old_end was n m ledger = end_before (kept_block m.block n was) (decode_rows was ledger)

-- both buffers have room: q is the first kept block after those measured, `old` where it begins
pub record Roomy (was n kept : ℕ) (m : Standing) (q old : ℕ) (out ledger : List ℕ) : Type 0 where
  pub starts : q ≡ kept_block m.block n was
  pub ends : old ≡ old_end was n m ledger
  pub text : m.at + (kept - old) ≤ length out
  pub small : m.at + (kept - old) < cap
  pub rows : row_size * n ≤ length ledger

-- the blocks measured in the place of the kept ones
abbrev pub stretch_of : ℕ → ℕ → Standing → Standing → List Piece → Stretch
stretch_of was n from m qs = record { block = from.block; gone = kept_block m.block n was - from.block; come = qs }

-- both buffers overwritten, where they have room
pub record Overwrote (was n kept : ℕ) (from m : Standing) (qs : List Piece) (out ledger out' ledger' : List ℕ) : Type 0 where
  pub text :
      out'
      ≡ front_over (text_over kept (decode_rows was ledger) (stretch_of was n from m qs ∷ []) out) (m.at + (kept - old_end was n m ledger))
      kept out
  pub rows :
      ledger'
      ≡ front_over (ledger_over was (decode_rows was ledger) (stretch_of was n from m qs ∷ []) ledger) (row_size * n) (row_size * was) ledger

abbrev pub Overwrites : (d : OpenDocument) (was kept : ℕ) (from m : Standing) (out ledger out' ledger' : List ℕ) → Type 0
Overwrites d was kept from m out ledger out' ledger' =
    (w : Measured d was kept from m out ledger) → Overwrote was d.blocks kept from m w.qs out ledger out' ledger'

abbrev pub Splices :
    (d : OpenDocument) (was kept : ℕ) (from m : Standing) (out ledger : List ℕ) (r : Result Edited Refusal) (out' ledger' : List ℕ) → Type 0
Splices d was kept from m out ledger r out' ledger' =
    (w : Measured d was kept from m out ledger)
    → Gives (exchange was kept (decode_rows was ledger) (stretch_of was d.blocks from m w.qs ∷ []) out ledger) (answer_of_edit r) out' ledger'

-- the measuring pass of a change: where a block was taken out, nothing is converted if the carry before it is that of its kept row
abbrev pub MeasuresAgain : (d : OpenDocument) (from : Standing) (was : ℕ) (kept : List ℕ) (r : Result Standing Refusal) → Type 0
MeasuresAgain d from was kept r =
    (w : BlocksUpTo d.content.rules.file.now d.content.rules.index.now d.content.rows.now d.content.text.now from d.blocks)
    → Came from r
    (cond (ltb d.blocks was && same_carry (carry_of from.converter) (carry_before (suc from.block) (decode_rows was kept))) (pieces [])
    (walk_until (converter_of w.given) (carry_of from.converter) (row_no from) (listed w.given.blocks)
    (carries_on (kept_block (suc from.block) d.blocks was) (decode_rows was kept))))

-- a change over a document's blocks
abbrev pub ChangesBlocks :
    (d : OpenDocument) (kind : Kind) (kept : ℕ) (out ledger : List ℕ) (r : Result Edited Refusal) (out' ledger' : List ℕ) → Type 0
ChangesBlocks d kind kept out ledger r out' ledger' =
    Gives (change_checked (blocks_in d.mode d.open.rs) (good (listed d.open.blocks)) kind kept out ledger) (answer_of_edit r) out' ledger'

-- ---- several blocks replaced together

-- The stretches of the named blocks were planned: with them the text has so many bytes before what is kept after the last, as far as a
-- row can say it. The ledger of the kept blocks fits the kept text.
pub record PlanMade (d : OpenDocument) (kept : ℕ) (plan : List Note) (p : Planned) (out ledger : List ℕ) : Type 0 where
  pub ss : List Stretch
  pub laid : LaidOut d.open d.mode ledger 0 ss plan
  pub block : p.block ≡ after_all 0 ss
  pub count : p.count ≡ come_count ss
  pub low : p.at ≤ 2 * cap * blocks_most
  pub placed : min cap p.at ≡ min cap (place_after (decode_rows d.blocks ledger) 0 0 ss)
  pub fitting : fits d.blocks kept ledger ≡ true
  pub inside : kept ≤ length out

abbrev pub ExchangesPlanned :
    (d : OpenDocument) (kept : ℕ) (plan : List Note) (p : Planned) (out ledger : List ℕ) (r : Result Edited Refusal) (out' ledger' : List ℕ) → Type 0
ExchangesPlanned d kept plan p out ledger r out' ledger' =
    (w : PlanMade d kept plan p out ledger)
    → Gives (exchange d.blocks kept (decode_rows d.blocks ledger) w.ss out ledger) (answer_of_edit r) out' ledger'
