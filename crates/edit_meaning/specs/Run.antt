-- A run of edits, and what demand 3 claims of it: over every list of edits, refused ones included, that starts from the text and
-- ledger of an accepted conversion. `Allowed` and `Holds` are what it starts from, `Demand3` is the claim; the theorem is
-- `run-demanded`, in proofs/Demand.antt.
use Rattle.std.specs.Prelude.{◌≡◌, Bool, false, not, cond, List, [], ◌∷◌, ℕ, suc, ◌+◌, ◌*◌, ◌<◌, pos, ◌-ℤ◌, length, take, drop, ltb}
use Rattle.mitex_meaning.specs.Outcome.{Carry}
use Rattle.ledger.specs.Ledger.{row_size, decode_rows, Piece, written}
use Rattle.edit_meaning.specs.Walk.{CheckedFile, BlockConverter, Walk, carries, count_to}
use Rattle.edit_meaning.specs.Walk.CheckedFile.{bad, good}
use Rattle.edit_meaning.specs.Walk.Walk.{stopped, pieces}
use Rattle.edit_meaning.specs.Edit.{Answer, Result, end_before, conversion, convert_document, edit}
use Rattle.edit_meaning.specs.Edit.Answer.{refused, converted, edited}

pub record Edit : Type 0 where
  pub tree : List ℕ
  pub block : ℕ

-- what the calls so far have left: the two buffers, and the last accepted length
pub record Kept : Type 0 where
  pub text : List ℕ
  pub ledger : List ℕ
  pub size : ℕ

abbrev pub size_after : Answer → ℕ → ℕ
size_after (refused n i) old = old
size_after (converted len n) old = len
size_after (edited len g n) old = len

abbrev pub leaves : Result → ℕ → Kept
leaves r old = record { text = r.text; ledger = r.ledger; size = size_after r.answer old }

-- ---- the run: each edit gets what the call before it left

pub record Run : Type 0 where
  pub answers : List Answer
  pub left : Kept

module _ (𝓒 : BlockConverter) where
  abbrev pub call_edit : Kept → Edit → Result
  call_edit s e = edit 𝓒 e.tree e.block s.size s.text s.ledger

  unfoldable pub run : Kept → List Edit → Run
  run s [] = record { answers = []; left = s }
  run s (e ∷ es) =
      let r : Result = call_edit s e in
      let rest : Run = run (leaves r s.size) es in
      record { answers = r.answer ∷ rest.answers; left = rest.left }

-- ---- the reference: each tree converted from its start, in buffers t and l as long

-- the answers, and the last accepted document
pub record Reference : Type 0 where
  pub answers : List Answer
  pub last : List ℕ

-- past 1 to 5, the named block does not exist
abbrev pub lacks : {Block : Type 0} → CheckedFile Block → ℕ → Bool
lacks (bad n i) k = false
lacks (good bs) k = not (ltb k (length bs))

abbrev pub pieces_of : Walk → List Piece
pieces_of (stopped n i) = []
pieces_of (pieces ps) = ps

-- what a change answers where Convert answers so: the same refusal; or the same length, the growth since the document before, and
-- a count
abbrev pub edit_answer : Answer → ℕ → ℕ → Answer
edit_answer (refused n i) old count = refused n i
edit_answer (converted len n) old count = edited len (pos len -ℤ pos old) count
edit_answer (edited len g n) old count = refused 0 0

-- the document after a change: its tree where it is accepted
abbrev pub document_after : Answer → List ℕ → List ℕ → List ℕ
document_after (refused n i) old new = old
document_after (converted len n) old new = new
document_after (edited len g n) old new = new

module _ (𝓒 : BlockConverter) where
  open 𝓒 use {Block, check}

  -- the text length of a document, and what its blocks from k on carry
  abbrev pub length_of : List ℕ → ℕ
  length_of tree = length (written (pieces_of (conversion 𝓒 tree)))

  abbrev pub carries_from : ℕ → List ℕ → List Carry
  carries_from k tree = drop k (carries (pieces_of (conversion 𝓒 tree)))

  module _ (t l : List ℕ) where
    -- An edit's answer, told by conversions from the start alone. 6 exactly when, past 1 to 5, the named block does not exist;
    -- else a refusal exactly as converting its tree is refused; else that conversion's length, the growth since the document
    -- before, and the blocks from the named one to the first after which both documents' conversions carry the same, or to the last.
    unfoldable pub demanded : List ℕ → Edit → Answer
    demanded old e =
        cond (lacks (check e.tree) e.block) (refused 6 0)
        (edit_answer (convert_document 𝓒 e.tree t l).answer (length_of old)
        (count_to (carries_from e.block e.tree) (carries_from e.block old)))

    abbrev pub document_next : List ℕ → Edit → List ℕ
    document_next old e = document_after (demanded old e) old e.tree

    unfoldable pub reference : List ℕ → List Edit → Reference
    reference old [] = record { answers = []; last = old }
    reference old (e ∷ es) =
        let rest : Reference = reference (document_next old e) es in
        record { answers = demanded old e ∷ rest.answers; last = rest.last }

-- ---- what a run starts from

-- as many blocks, and the same ones but the one named
pub record OnlyAt {Block : Type 0} (k : ℕ) (bs bs' : List Block) : Type 0 where
  pub count : length bs' ≡ length bs
  pub before : take k bs' ≡ take k bs
  pub after : drop (suc k) bs' ≡ drop (suc k) bs

module _ (𝓒 : BlockConverter) (t l : List ℕ) where
  open 𝓒 use {Block, check}

  -- an edit's tree beside the document that it meets; one that fails 1 to 5, or lacks the block, may be any
  abbrev pub Permitted : List ℕ → Edit → Type 0
  Permitted old e =
      (bs bs' : List Block) → check old ≡ good bs → check e.tree ≡ good bs' → e.block < length bs' → OnlyAt e.block bs bs'

  unfoldable pub Allowed : List ℕ → List Edit → Type 0
  Allowed old [] = Unit {0}
  Allowed old (e ∷ es) = Permitted old e × Allowed (document_next 𝓒 t l old e) es

  -- The buffers hold a document: converting it in buffers t and l is accepted (`accepted`), with the kept length; the text up to
  -- that length (`text`) and the rows of its blocks (`rows`) are those that the conversion leaves, other bytes being any; and the
  -- buffers are as long as t and l (`text_size`, `ledger_size`).
  pub record Holds (tree : List ℕ) (s : Kept) : Type 0 where
    pub blocks : ℕ
    pub accepted : (convert_document 𝓒 tree t l).answer ≡ converted s.size blocks
    pub text : take s.size s.text ≡ take s.size (convert_document 𝓒 tree t l).text
    pub rows : take (row_size * blocks) s.ledger ≡ take (row_size * blocks) (convert_document 𝓒 tree t l).ledger
    pub text_size : length s.text ≡ length t
    pub ledger_size : length s.ledger ≡ length l

-- ---- the claim

-- after the blocks converted again stands the text from before, moved: from the end of their last row on, in the old ledger and
-- in the new
abbrev pub tail_moved : Answer → ℕ → Kept → Kept → Type 0
tail_moved (refused m i) k old new = Unit {0}
tail_moved (converted len m) k old new = Unit {0}
tail_moved (edited len g n) k old new =
    drop (end_before (k + n) (decode_rows (k + n) new.ledger)) (take new.size new.text)
    ≡ drop (end_before (k + n) (decode_rows (k + n) old.ledger)) (take old.size old.text)

module _ (𝓒 : BlockConverter) where
  unfoldable pub TailsMoved : Kept → List Edit → Type 0
  TailsMoved s [] = Unit {0}
  TailsMoved s (e ∷ es) =
      let r : Result = call_edit 𝓒 s e in
      tail_moved r.answer e.block s (leaves r s.size) × TailsMoved (leaves r s.size) es

  -- Every edit's answer is the one that conversions from the start demand (`answers`); afterwards the buffers hold the last accepted
  -- document (`holds`); and after each accepted edit what follows the blocks converted again is the text from before, moved (`moved`).
  pub record Demand3 (t l tree : List ℕ) (s : Kept) (es : List Edit) : Type 0 where
    pub answers : (run 𝓒 s es).answers ≡ (reference 𝓒 t l tree es).answers
    pub holds : Holds 𝓒 t l (reference 𝓒 t l tree es).last (run 𝓒 s es).left
    pub moved : TailsMoved s es
