-- Changes under one rule: a block replaced (Edit), put in or taken out, or several blocks replaced together. A change comes to STRETCHES:
-- from a block on, some kept blocks give way to the pieces of blocks converted again; what stands after them is moved. A change of one
-- block comes to one stretch: in a replacement as many blocks go as come (Edit is this change: `edit-change`), in an insertion one less,
-- in a removal one more. Several blocks replaced together come to stretches like that of Edit, one after the other; a list of one is Edit
-- (`one-replaced`).
use Rattle.std.specs.Prelude.{◌≡◌, ◌≢◌, ◌⊎◌, ◌↔◌, Bool, true, false, ◌&&◌, ◌||◌, not, cond, List, [], ◌∷◌, ◌++◌, ℕ, suc, ◌+◌, ◌*◌, ◌-◌, ◌<◌, max, pos, ◌-ℤ◌, length, take, drop, get_or, replicate, eqb, leb, ltb}
use Rattle.mitex_meaning.specs.Outcome.{Carry}
use Rattle.mitex_meaning.specs.Conversion.{start_carry}
use Rattle.mitex_meaning.specs.Parts.{between}
use Rattle.ledger.specs.Ledger.{Row, row_size, encode_rows, decode_rows, fits, move_rows, same_carry, Piece, written, rows_from}
use Rattle.edit_meaning.specs.Walk.{CheckedFile, BlockConverter, Walk, walk_until, rows_all, count_to, FirstSame}
use Rattle.edit_meaning.specs.Walk.CheckedFile.{bad, good}
use Rattle.edit_meaning.specs.Walk.Walk.{stopped, pieces}
use Rattle.edit_meaning.specs.Edit.{Answer, Result, unchanged, room_for_text, end_before, carry_before, row_carries, again, convert_document}
use Rattle.edit_meaning.specs.Edit.Answer.{refused, converted, edited}
use Rattle.edit_meaning.specs.Run.{Kept, Run, Reference, leaves, edit_answer, document_after, length_of, carries_from, OnlyAt, Holds}

-- ---- the kinds

-- block k replaced, a block put in before position k, block k taken out, the blocks ks replaced together
pub data Kind : Type 0 where
  replace : ℕ → Kind
  put_in : ℕ → Kind
  take_out : ℕ → Kind
  replace_all : List ℕ → Kind

-- the new tree file, and what was done to the one before
pub record Change : Type 0 where
  pub tree : List ℕ
  pub kind : Kind

-- numbers that rise strictly, the first of them at least `least`, and stay below n
abbrev pub rise_below : ℕ → ℕ → List ℕ → Bool
rise_below least n [] = true
rise_below least n (k ∷ ks) = leb least k && (ltb k n && rise_below (suc k) n ks)

abbrev pub some_named : List ℕ → Bool
some_named [] = false
some_named (k ∷ ks) = true

-- What is named can be changed: it is there, and of several to be replaced there is one at least and their numbers rise strictly. That is
-- told by the count n of the NEW tree's blocks alone. A block is put in before a position up to the old count, n - 1, so a tree with no
-- block has none to put in; one is taken out of n + 1.
abbrev pub named_there : Kind → ℕ → Bool
named_there (replace k) n = ltb k n
named_there (put_in k) n = ltb k n
named_there (take_out k) n = ltb k (suc n)
named_there (replace_all ks) n = some_named ks && rise_below 0 n ks

-- how many blocks the document before had
abbrev pub old_count : Kind → ℕ → ℕ
old_count (replace k) n = n
old_count (put_in k) n = n - 1
old_count (take_out k) n = suc n
old_count (replace_all ks) n = n

-- no refusal 6: what is named can be changed, the kept length is within the text buffer (that this counts as at most `text_most` bytes comes
-- to the same: `change_fits-counted`), the ledger fits the blocks that there were; for `replace` it is `edit_fits`
unfoldable pub change_fits : Kind → ℕ → ℕ → List ℕ → List ℕ → Bool
change_fits k n kept text ledger = named_there k n && (leb kept (length text) && fits (old_count k n) kept ledger)

-- ---- stretches

-- from block `block` on, `gone` kept blocks give way to the pieces of blocks converted again
pub record Stretch : Type 0 where
  pub block : ℕ
  pub gone : ℕ
  pub come : List Piece

-- the first kept block after it
abbrev pub block_after : Stretch → ℕ
block_after s = s.block + s.gone

abbrev pub come_count : List Stretch → ℕ
come_count [] = 0
come_count (s ∷ ss) = length s.come + come_count ss

abbrev pub gone_count : List Stretch → ℕ
gone_count [] = 0
gone_count (s ∷ ss) = s.gone + gone_count ss

-- a change stopped with a number at a row, or came to stretches, the first of them first
pub data Remade : Type 0 where
  halted : ℕ → ℕ → Remade
  remade : List Stretch → Remade

-- the block or the position that a change of one block names. Of several it is the first, but no definition asks for that.
abbrev pub named_block : Kind → ℕ
named_block (replace k) = k
named_block (put_in k) = k
named_block (take_out k) = k
named_block (replace_all []) = 0
named_block (replace_all (k ∷ ks)) = k

-- what a change of one block comes to: from the named place on the blocks converted again take the place of as many kept ones as there
-- were of them before
abbrev pub stretch : Kind → Walk → Remade
stretch k (stopped n i) = halted n i
stretch k (pieces qs) = remade (record { block = named_block k; gone = old_count k (length qs); come = qs } ∷ [])

-- a stretch before others
abbrev pub before_rest : Stretch → Remade → Remade
before_rest s (halted n i) = halted n i
before_rest s (remade ss) = remade (s ∷ ss)

-- From block k on the blocks converted again take the place of as many kept ones. After them comes what `rest` gives: the stretches of what
-- is named from the block after them on.
abbrev pub stretch_then : ℕ → Walk → (ℕ → Remade) → Remade
stretch_then k (stopped n i) rest = halted n i
stretch_then k (pieces qs) rest = before_rest (record { block = k; gone = length qs; come = qs }) (rest (k + length qs))

module _ (𝓒 : BlockConverter) where
  open 𝓒 use {Block, rows as rows_of}

  module _ (bs : List Block) (rows : List Row) where
    -- the row of block k of the new tree
    abbrev pub first_row : ℕ → ℕ
    first_row k = 1 + rows_all rows_of (take k bs)

    -- The block put in, and those after it: when it is converted the carry is first compared with the one that stood before the position.
    unfoldable pub putting_in : ℕ → Walk
    putting_in k =
        walk_until 𝓒 (carry_before k rows) (first_row k) (drop k bs) (carry_before k rows ∷ row_carries (drop k rows))

    -- The blocks after the one taken out: first the carry before it is compared with its kept row, and nothing is converted where they
    -- are the same.
    abbrev pub without_first : Carry → ℕ → List Block → List Carry → Walk
    without_first c r xs [] = pieces []
    without_first c r xs (d ∷ ds) = cond (same_carry c d) (pieces []) (walk_until 𝓒 c r xs ds)

    unfoldable pub taking_out : ℕ → Walk
    taking_out k = without_first (carry_before k rows) (first_row k) (drop k bs) (row_carries (drop k rows))

    -- From each named block, with the carry of the kept row before it, until the carry is that of the kept row, or to the last block; then
    -- from the next named block not converted yet. `from` is the first block after the stretch before: a named block below it is converted
    -- already.
    unfoldable pub each_from : ℕ → List ℕ → Remade
    each_from from [] = remade []
    each_from from (k ∷ ks) =
        cond (ltb k from) (each_from from ks) (stretch_then k (again 𝓒 bs k rows) (λ next. each_from next ks))

    unfoldable pub remake : Kind → Remade
    remake (replace k) = stretch (replace k) (again 𝓒 bs k rows)
    remake (put_in k) = stretch (put_in k) (putting_in k)
    remake (take_out k) = stretch (take_out k) (taking_out k)
    remake (replace_all ks) = each_from 0 ks

-- ---- what is written

-- the text from a stretch on: its pieces', and the kept text up to the next stretch, or up to its end
abbrev pub text_from : ℕ → List Row → Stretch → List Stretch → List ℕ → List ℕ
text_from kept rows s [] text = written s.come ++ between (end_before (block_after s) rows) kept text
text_from kept rows s (s₂ ∷ ss) text =
    written s.come
    ++ between (end_before (block_after s) rows) (end_before s₂.block rows) text
    ++ text_from kept rows s₂ ss text

-- the kept text with its stretches exchanged
abbrev pub text_over : ℕ → List Row → List Stretch → List ℕ → List ℕ
text_over kept rows [] text = take kept text
text_over kept rows (s ∷ ss) text = take (end_before s.block rows) text ++ text_from kept rows s ss text

-- the rows from a stretch on, whose text now begins at `at`: its pieces', and the kept ones up to the next stretch, or up to the last of
-- n, which change only in length
abbrev pub ledger_from : ℕ → List Row → ℕ → Stretch → List Stretch → List ℕ → List ℕ
ledger_from n rows at s [] ledger =
    encode_rows (rows_from at s.come)
    ++ move_rows (n - block_after s) (end_before (block_after s) rows) (at + length (written s.come))
    (drop (row_size * block_after s) ledger)
ledger_from n rows at s (s₂ ∷ ss) ledger =
    let now : ℕ = at + length (written s.come) in
    encode_rows (rows_from at s.come)
    ++ move_rows (s₂.block - block_after s) (end_before (block_after s) rows) now (drop (row_size * block_after s) ledger)
    ++ ledger_from n rows (now + (end_before s₂.block rows - end_before (block_after s) rows)) s₂ ss ledger

abbrev pub ledger_over : ℕ → List Row → List Stretch → List ℕ → List ℕ
ledger_over n rows [] ledger = take (row_size * n) ledger
ledger_over n rows (s ∷ ss) ledger =
    take (row_size * s.block) ledger ++ ledger_from n rows (end_before s.block rows) s ss ledger

-- `size` new bytes at the front of a buffer, zeros up to where the old ones ended, and after both what stood there
unfoldable pub front_over : List ℕ → ℕ → ℕ → List ℕ → List ℕ
front_over new size was l = new ++ replicate (was - size) 0 ++ drop (max was size) l

-- n kept blocks, whose stretches are exchanged where both buffers have room
unfoldable pub exchange : ℕ → ℕ → List Row → List Stretch → List ℕ → List ℕ → Result
exchange n kept rows ss text ledger =
    let new : List ℕ = text_over kept rows ss text in
    let many : ℕ = (n + come_count ss) - gone_count ss in
    cond (room_for_text (length new) (length text) && leb (row_size * many) (length ledger))
    (record {
      answer = edited (length new) (pos (length new) -ℤ pos kept) (come_count ss);
      text = front_over new (length new) kept text;
      ledger = front_over (ledger_over n rows ss ledger) (row_size * many) (row_size * n) ledger;
    })
    (unchanged 15 0 text ledger)

abbrev pub exchange_or : ℕ → ℕ → List Row → Remade → List ℕ → List ℕ → Result
exchange_or n kept rows (halted m i) text ledger = unchanged m i text ledger
exchange_or n kept rows (remade ss) text ledger = exchange n kept rows ss text ledger

module _ (𝓒 : BlockConverter) where
  open 𝓒 use {Block, check}

  abbrev pub change_checked : CheckedFile Block → Kind → ℕ → List ℕ → List ℕ → Result
  change_checked (bad n i) k kept text ledger = unchanged n i text ledger
  change_checked (good bs) k kept text ledger =
      let n : ℕ = old_count k (length bs) in
      let rows : List Row = decode_rows n ledger in
      cond (change_fits k (length bs) kept text ledger)
      (exchange_or n kept rows (remake 𝓒 bs rows k) text ledger)
      (unchanged 6 0 text ledger)

  unfoldable pub change : List ℕ → Kind → ℕ → List ℕ → List ℕ → Result
  change tree k kept text ledger = change_checked (check tree) k kept text ledger

-- ---- a run of changes: each gets what the call before it left

module _ (𝓒 : BlockConverter) where
  abbrev pub call_change : Kept → Change → Result
  call_change s e = change 𝓒 e.tree e.kind s.size s.text s.ledger

  unfoldable pub run_changes : Kept → List Change → Run
  run_changes s [] = record { answers = []; left = s }
  run_changes s (e ∷ es) =
      let r : Result = call_change s e in
      let rest : Run = run_changes (leaves r s.size) es in
      record { answers = r.answer ∷ rest.answers; left = rest.left }

-- ---- the reference: each tree converted from its start, in buffers t and l as long

-- past 1 to 5, what is named cannot be changed
abbrev pub lacks_named : {Block : Type 0} → CheckedFile Block → Kind → Bool
lacks_named (bad n i) k = false
lacks_named (good bs) k = not (named_there k (length bs))

-- the last of some carries, or c where there is none
abbrev pub last_of : Carry → List Carry → Carry
last_of c [] = c
last_of c (d ∷ ds) = last_of d ds

-- the carry before block k, by what the blocks carry
abbrev pub carry_at : ℕ → List Carry → Carry
carry_at k cs = last_of start_carry (take k cs)

-- to the first block after which both carry the same, none where they do from the start
abbrev pub count_from : Carry → List Carry → List Carry → ℕ
count_from c cs [] = 0
count_from c cs (d ∷ ds) = cond (same_carry c d) 0 (count_to cs ds)

-- whether block i is among those named
abbrev pub is_among : ℕ → List ℕ → Bool
is_among i [] = false
is_among i (k ∷ ks) = eqb i k || is_among i ks

-- The blocks that are named, and those that begin with another carry than they did. c is the carry before block i and cs what the blocks
-- from i on carry, in the new document; d and ds are those of the old one.
abbrev pub count_each : ℕ → List ℕ → Carry → Carry → List Carry → List Carry → ℕ
count_each i ks c d [] ds = 0
count_each i ks c d (c' ∷ cs) [] = 0
count_each i ks c d (c' ∷ cs) (d' ∷ ds) = cond (is_among i ks || not (same_carry c d)) 1 0 + count_each (suc i) ks c' d' cs ds

-- how many blocks are converted again, told by the two documents' conversions: cs new, ds old
abbrev pub count_by : Kind → List Carry → List Carry → ℕ
count_by (replace k) cs ds = count_to (drop k cs) (drop k ds)
count_by (put_in k) cs ds = count_to (drop k cs) (carry_at k ds ∷ drop k ds)
count_by (take_out k) cs ds = count_from (carry_at k ds) (drop k cs) (drop k ds)
count_by (replace_all ks) cs ds = count_each 0 ks start_carry start_carry cs ds

-- n blocks of a document are converted again, and they are just those that are named or begin with another carry than they did (cs new, ds
-- old). A stretch begins at a named block and goes on just as long as the next block begins with another carry than it did, so this is the
-- count of all stretches.
pub record JustThose (ks : List ℕ) (cs ds : List Carry) (n : ℕ) : Type 0 where
  pub blocks : List ℕ
  pub many : length blocks ≡ n
  pub rising : rise_below 0 (length cs) blocks ≡ true
  pub are :
      (i : ℕ) → i < length cs → (is_among i blocks ≡ true) ↔ ((is_among i ks ≡ true) ⊎ (carry_at i cs ≢ carry_at i ds))

-- The same count in words, n blocks (`count_by-first`): as `FirstSame` has it, of what is compared. A removal counts none where the carry
-- before the block is its row's. Of several that are replaced, it counts them and those that begin with another carry.
abbrev pub FirstSameBy : Kind → List Carry → List Carry → ℕ → Type 0
FirstSameBy (replace k) cs ds n = FirstSame (drop k cs) (drop k ds) n
FirstSameBy (put_in k) cs ds n = FirstSame (drop k cs) (carry_at k ds ∷ drop k ds) n
FirstSameBy (take_out k) cs ds n =
    (carry_at k ds ≡ get_or ds k start_carry → n ≡ 0)
    × (carry_at k ds ≢ get_or ds k start_carry → FirstSame (drop k cs) (drop (suc k) ds) n)
FirstSameBy (replace_all ks) cs ds n = JustThose ks cs ds n

-- bs' is bs with one block more, which stands at k
pub record OneMore {Block : Type 0} (k : ℕ) (bs bs' : List Block) : Type 0 where
  pub count : length bs' ≡ suc (length bs)
  pub front : take k bs' ≡ take k bs
  pub back : drop (suc k) bs' ≡ drop k bs

-- as many blocks, and the same ones but those named (`others`): `take 1 (drop i bs)` is block i of bs, if there is one
pub record OnlyNamed {Block : Type 0} (ks : List ℕ) (bs bs' : List Block) : Type 0 where
  pub count : length bs' ≡ length bs
  pub others : (i : ℕ) → is_among i ks ≡ false → take 1 (drop i bs') ≡ take 1 (drop i bs)

-- the old document's blocks beside the new one's
abbrev pub BlocksBeside : {Block : Type 0} → Kind → List Block → List Block → Type 0
BlocksBeside (replace k) bs bs' = OnlyAt k bs bs'
BlocksBeside (put_in k) bs bs' = OneMore k bs bs'
BlocksBeside (take_out k) bs bs' = OneMore k bs' bs
BlocksBeside (replace_all ks) bs bs' = OnlyNamed ks bs bs'

module _ (𝓒 : BlockConverter) (t l : List ℕ) where
  open 𝓒 use {Block, check}

  -- A change's answer, told by conversions from the start alone: 6 exactly when, past 1 to 5, what it names cannot be changed; else as
  -- converting its tree is answered, with the growth since the document before and the count of blocks.
  unfoldable pub demanded_change : List ℕ → Change → Answer
  demanded_change old e =
      cond (lacks_named (check e.tree) e.kind) (refused 6 0)
      (edit_answer (convert_document 𝓒 e.tree t l).answer (length_of 𝓒 old)
      (count_by e.kind (carries_from 𝓒 0 e.tree) (carries_from 𝓒 0 old)))

  abbrev pub document_changed : List ℕ → Change → List ℕ
  document_changed old e = document_after (demanded_change old e) old e.tree

  unfoldable pub reference_changes : List ℕ → List Change → Reference
  reference_changes old [] = record { answers = []; last = old }
  reference_changes old (e ∷ es) =
      let rest : Reference = reference_changes (document_changed old e) es in
      record { answers = demanded_change old e ∷ rest.answers; last = rest.last }

  -- a change's tree beside the document that it meets; one that fails 1 to 5, or in which what is named cannot be changed, may be any
  abbrev pub PermittedChange : List ℕ → Change → Type 0
  PermittedChange old e =
      (bs bs' : List Block) → check old ≡ good bs → check e.tree ≡ good bs' → named_there e.kind (length bs') ≡ true
      → BlocksBeside e.kind bs bs'

  unfoldable pub AllowedChanges : List ℕ → List Change → Type 0
  AllowedChanges old [] = Unit {0}
  AllowedChanges old (e ∷ es) = PermittedChange old e × AllowedChanges (document_changed old e) es

-- ---- the claim

-- the text from block j on
abbrev pub text_from_block : ℕ → Kept → List ℕ
text_from_block j s = drop (end_before j (decode_rows j s.ledger)) (take s.size s.text)

-- a change of one block: after the n blocks converted again, from the named place on, stands the text from before, moved
abbrev pub moved_after : Kind → ℕ → Kept → Kept → Type 0
moved_after k n old new = text_from_block (named_block k + n) new ≡ text_from_block (named_block k + old_count k n) old

-- the text of block i, and the carry that it begins with
abbrev pub text_of_block : ℕ → Kept → List ℕ
text_of_block i s =
    let rows : List Row = decode_rows (suc i) s.ledger in between (end_before i rows) (end_before (suc i) rows) s.text

abbrev pub carry_of_block : ℕ → Kept → Carry
carry_of_block i s = carry_before i (decode_rows i s.ledger)

-- What was not converted again is the text from before, moved. A change of one block goes by the count n: it is the text after the n blocks
-- converted again. Several blocks replaced go by m, how many blocks the document has: it is the text of each block that is not named and
-- begins with the carry that it began with. These are exactly the blocks outside those that `JustThose` names.
abbrev pub moved_by : Kind → ℕ → ℕ → Kept → Kept → Type 0
moved_by (replace k) n m old new = moved_after (replace k) n old new
moved_by (put_in k) n m old new = moved_after (put_in k) n old new
moved_by (take_out k) n m old new = moved_after (take_out k) n old new
moved_by (replace_all ks) n m old new =
    (i : ℕ) → i < m → is_among i ks ≡ false → carry_of_block i new ≡ carry_of_block i old → text_of_block i new ≡ text_of_block i old

-- the count of a tree's blocks
abbrev pub block_count : {Block : Type 0} → CheckedFile Block → ℕ
block_count (bad n i) = 0
block_count (good bs) = length bs

abbrev pub change_moved : Answer → Kind → ℕ → Kept → Kept → Type 0
change_moved (refused n i) k m old new = Unit {0}
change_moved (converted len n) k m old new = Unit {0}
change_moved (edited len g n) k m old new = moved_by k n m old new

module _ (𝓒 : BlockConverter) where
  unfoldable pub ChangesMoved : Kept → List Change → Type 0
  ChangesMoved s [] = Unit {0}
  ChangesMoved s (e ∷ es) =
      let r : Result = call_change 𝓒 s e in
      change_moved r.answer e.kind (block_count (𝓒.check e.tree)) s (leaves r s.size) × ChangesMoved (leaves r s.size) es

  -- Demand 3 over edits, insertions, removals and replacements of several blocks in any order; the fields are those of `Demand3`. The
  -- theorem is `demand-changes`, in proofs/DemandChanges.antt.
  pub record DemandChanges (t l tree : List ℕ) (s : Kept) (es : List Change) : Type 0 where
    pub answers : (run_changes 𝓒 s es).answers ≡ (reference_changes 𝓒 t l tree es).answers
    pub holds : Holds 𝓒 t l (reference_changes 𝓒 t l tree es).last (run_changes 𝓒 s es).left
    pub moved : ChangesMoved s es
