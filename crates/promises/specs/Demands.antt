-- The three demands on the product, each as one type; proofs/Demands.antt has a term of each (`demand-1`, `demand-2`, `demand-3`). They
-- speak of calls that meet their contracts. The contract of `calls::convert` is `Converts (manuscript mode rules) tree text ledger a text'
-- ledger'`: a is its answer, text and ledger are the buffers as lent, text' and ledger' as left. That of `calls::edit` is `Edits`. Those of
-- `calls::insert`, `calls::remove` and `calls::replace_all` are `Alters`, with the changes `put_in position`, `take_out block` and
-- `replace_all blocks`; Edit's says the same as `Alters` with `replace block`. None asks anything of its caller. `manuscript mode rules` is
-- the product in one mode with one rule file: refusals 1 to 5, and the conversion of a block. That every call ends is proved by the checker,
-- of each function.
use Rattle.std.specs.Prelude.{◌≡◌, ◌↔◌, Bool, true, false, ◌&&◌, List, [], ◌∷◌, ℕ, ◌*◌, ◌≤◌, ◌<◌, ℤ, length, take, drop, leb}
use Rattle.std.proofs.Math.Option.Option.{some}
use Rattle.text.specs.Numbers.{Bytes}
use Rattle.text.specs.Writing.{cap}
use Rattle.mitex_spec.specs.Rules.{Rule}
use Rattle.mitex_spec.specs.RuleFile.{rules_of}
use Rattle.mitex_syntax.specs.Tree.{Tree, size, count, rows_of, text_of}
use Rattle.mitex_syntax.specs.Spells.{Sound}
use Rattle.tree_file.specs.Check.{check_tree, blocks_of}
use Rattle.tree_file.specs.Check.Verdict.{accepted}
use Rattle.mitex_meaning.specs.Outcome.{Outcome}
use Rattle.mitex_meaning.specs.Outcome.Outcome.{done, refused as declined}
use Rattle.mitex_meaning.specs.Conversion.{convert, start_context, new_carry}
use Rattle.mitex_meaning.specs.declared.LaTeXMode.{LaTeXMode}
use Rattle.ledger.specs.Ledger.{row_size}
use Rattle.edit_meaning.specs.Walk.{FirstSame}
use Rattle.edit_meaning.specs.Walk.CheckedFile.{bad, good}
use Rattle.edit_meaning.specs.Edit.{Answer, room_for_text, at_front}
use Rattle.edit_meaning.specs.Edit.Answer.{refused, converted, edited}
use Rattle.edit_meaning.specs.Run.{Edit, Kept, size_after, lacks, carries_from, demanded, reference, Permitted, Allowed, Holds}
use Rattle.edit_meaning.specs.Calls.{Converts, Edits, Runs, Untouched, Demanded}
use Rattle.edit_meaning.specs.Changes.{Kind, Change, named_there, lacks_named, FirstSameBy, OnlyNamed, demanded_change, reference_changes}
use Rattle.edit_meaning.specs.Changes.{PermittedChange, AllowedChanges}
use Rattle.edit_meaning.specs.Changes.Kind.{replace, replace_all}
use Rattle.edit_meaning.specs.ChangeCalls.{AsConverted, Alters, RunsChanges, DemandedChanges}
use Rattle.edit_meaning.specs.Singly.{AllAccepted, AsSingly, Singly}
use Rattle.edit_meaning.specs.Numbers.{Fifteen, ConvertNumber, OfConvert, OfEdit}
use Rattle.manuscript.specs.Manuscript.{mode_of, manuscript}

-- ---- Demand 1

-- Any caller, any input: a call answers with a result of its own kind or with a refusal, whose number is from 1 to 15 and in Convert not
-- 6, and a refusal changes no lent byte.
pub record AnyCaller : Type 0 where
  pub converts :
      (mode : ℕ) (rules tree text ledger : List ℕ) (a : Answer) (text' ledger' : List ℕ)
      → Converts (manuscript mode rules) tree text ledger a text' ledger'
      → OfConvert ConvertNumber a × Untouched a text ledger text' ledger'
  pub edits :
      (mode : ℕ) (rules tree : List ℕ) (block kept : ℕ) (text ledger : List ℕ) (a : Answer) (text' ledger' : List ℕ)
      → Edits (manuscript mode rules) tree block kept text ledger a text' ledger'
      → OfEdit Fifteen a × Untouched a text ledger text' ledger'
  -- an insertion, a removal, a replacement of several blocks, or of one
  pub alters :
      (mode : ℕ) (rules tree : List ℕ) (k : Kind) (kept : ℕ) (text ledger : List ℕ) (a : Answer) (text' ledger' : List ℕ)
      → Alters (manuscript mode rules) tree k kept text ledger a text' ledger'
      → OfEdit Fifteen a × Untouched a text ledger text' ledger'

-- ---- Demand 2

-- What stands for the reference, `Converter::convert` on `Converter::new(mode)`: the meaning of the root element (crate `mitex_meaning`),
-- written after the Rust arm by arm, from the state of a new converter. It has numbers and rows where the Rust has errors and panics, and
-- 14. That it is the Rust's is read and compared (docs/DIFFERENCES.md), not proved; that the product follows it is proved. d is any
-- number of levels that is enough, one for each row.
abbrev pub root_outcome : (d : ℕ) → LaTeXMode → List Rule → Tree → Outcome
root_outcome d m rs t = convert d (start_context rs m) t new_carry

-- whether both buffers have room for a text and the rows of so many blocks
abbrev pub has_room : (w : List ℕ) (blocks : ℕ) (text ledger : List ℕ) → Bool
has_room w blocks text ledger = room_for_text (length w) (length text) && leb (row_size * blocks) (length ledger)

-- where there is room the text stands at the front of its buffer, other bytes as they were, and the ledger is changed in its block rows
-- alone; else 15, and no byte changed
abbrev pub Delivered : (room : Bool) (w : List ℕ) (blocks : ℕ) (text ledger : List ℕ) (a : Answer) (text' ledger' : List ℕ) → Type 0
Delivered true w blocks text ledger a text' ledger' =
    (a ≡ converted (length w) blocks) × (text' ≡ at_front w text) × (drop (row_size * blocks) ledger' ≡ drop (row_size * blocks) ledger)
Delivered false w blocks text ledger a text' ledger' = (a ≡ refused 15 0) × (text' ≡ text) × (ledger' ≡ ledger)

-- An answer and the buffers beside the reference. Where that refuses (7 to 14): the same number and row, and no byte changed. Where it is
-- done: its text, to the byte, with its length and the count of blocks; or 15.
abbrev pub AsReference : Outcome → (blocks : ℕ) (text ledger : List ℕ) (a : Answer) (text' ledger' : List ℕ) → Type 0
AsReference (declined n row) blocks text ledger a text' ledger' = (a ≡ refused n row) × (text' ≡ text) × (ledger' ≡ ledger)
AsReference (done c w) blocks text ledger a text' ledger' =
    Delivered (has_room w blocks text ledger) w blocks text ledger a text' ledger'

-- A conversion follows the reference on every input past refusals 1 to 5 (`past`): where the mode is 0 or 1 and stands for m, the rule
-- file has its layout and holds the rules rs, and the tree file, which is bytes, is accepted as the tree t. Where one of 1 to 5 holds, the
-- first of them is the answer (`before`).
pub record FollowsReference : Type 0 where
  pub before :
      (mode : ℕ) (rules tree : List ℕ) (n row : ℕ) → (manuscript mode rules).check tree ≡ bad n row
      → (text ledger : List ℕ) (a : Answer) (text' ledger' : List ℕ) → Converts (manuscript mode rules) tree text ledger a text' ledger'
      → (a ≡ refused n row) × (1 ≤ n) × (n ≤ 5)
  pub past :
      (mode : ℕ) (rules tree : List ℕ) → Bytes tree → (m : LaTeXMode) (rs : List Rule) (t : Tree) → mode_of mode ≡ some m
      → rules_of rules ≡ some rs → check_tree tree ≡ accepted t → (text ledger : List ℕ) (a : Answer) (text' ledger' : List ℕ)
      → Converts (manuscript mode rules) tree text ledger a text' ledger' → (d : ℕ) → size t ≤ d
      → AsReference (root_outcome d m rs t) (count (blocks_of t)) text ledger a text' ledger'

-- ---- Demand 3

-- After every list of changes, which are edits, insertions, removals and replacements of several blocks in any order, refused ones included,
-- text and ledger are those of converting the last accepted document from its start.
pub record EveryList : Type 0 where
  -- Convert accepted a document; then a change was called for each of a list, each time with what the call before left (`RunsChanges`), and
  -- each new tree is the document that it meets with the named block replaced, with one block more at the named position, without the named
  -- block, or with none but the named blocks replaced (`AllowedChanges`). Then the answers are those that conversions from the start demand,
  -- and the buffers hold the text and the block rows of the last accepted document.
  pub list :
      (mode : ℕ) (rules tree text ledger : List ℕ) (kept blocks : ℕ) (text' ledger' : List ℕ)
      → Converts (manuscript mode rules) tree text ledger (converted kept blocks) text' ledger' → (es : List Change)
      → AllowedChanges (manuscript mode rules) text ledger tree es → (said : List Answer) (kept'' : ℕ) (text'' ledger'' : List ℕ)
      → RunsChanges (manuscript mode rules) kept text' ledger' es said kept'' text'' ledger''
      → (said ≡ (reference_changes (manuscript mode rules) text ledger tree es).answers)
      × Holds (manuscript mode rules) text ledger (reference_changes (manuscript mode rules) text ledger tree es).last
      (record { text = text''; ledger = ledger''; size = kept'' })
  -- A run may start from any buffers that hold the text and the block rows of an accepted Convert, other bytes being any.
  pub starts :
      (mode : ℕ) (rules tree text ledger : List ℕ) (kept blocks : ℕ) (text' ledger' : List ℕ)
      → Converts (manuscript mode rules) tree text ledger (converted kept blocks) text' ledger' → (text₁ ledger₁ : List ℕ)
      → take kept text₁ ≡ take kept text' → take (row_size * blocks) ledger₁ ≡ take (row_size * blocks) ledger'
      → Holds (manuscript mode rules) text₁ ledger₁ tree (record { text = text₁; ledger = ledger₁; size = kept })
  -- And then the same holds, and after each accepted change what follows the blocks converted again is the kept text, moved; or, where
  -- several were replaced, the text of every block that was not converted (`ChangesMoved`).
  pub runs :
      (mode : ℕ) (rules : List ℕ) (kept : ℕ) (text ledger : List ℕ) (es : List Change) (said : List Answer) (kept' : ℕ)
      (text' ledger' : List ℕ)
      → RunsChanges (manuscript mode rules) kept text ledger es said kept' text' ledger'
      → DemandedChanges (manuscript mode rules) kept text ledger es said kept' text' ledger'
  -- One change of what can be changed, beside a call of Convert on its tree: its text and ledger, or its refusal past 6, are those of this
  -- conversion from the start (`AsConverted`).
  pub afresh :
      (mode : ℕ) (rules t l old : List ℕ) (kept : ℕ) (text ledger : List ℕ)
      → Holds (manuscript mode rules) t l old (record { text = text; ledger = ledger; size = kept }) → (e : Change)
      → PermittedChange (manuscript mode rules) t l old e → lacks_named ((manuscript mode rules).check e.tree) e.kind ≡ false
      → (a : Answer) (text' ledger' : List ℕ) → Alters (manuscript mode rules) e.tree e.kind kept text ledger a text' ledger'
      → (b : Answer) (text'' ledger'' : List ℕ) → Converts (manuscript mode rules) e.tree t l b text'' ledger''
      → AsConverted b text'' ledger'' kept text ledger a text' ledger'
  -- One call that replaces several blocks, beside calls of Edit that replace them one by one, each after those before it in the list. The new
  -- document differs from the old one only in the blocks named, and the documents between have the new content of the first few of these
  -- (`Singly`). Where the numbers are no 6 and the calls of Edit were all accepted, so was the one call, and both left the same text and the
  -- same block rows, with growths of the same sum (`AsSingly`).
  pub singly :
      (mode : ℕ) (rules t l old new : List ℕ) (bs bs' : List Tree) (ks : List ℕ) (es : List Edit) (kept : ℕ) (text ledger : List ℕ)
      → Holds (manuscript mode rules) t l old (record { text = text; ledger = ledger; size = kept })
      → (manuscript mode rules).check old ≡ good bs → (manuscript mode rules).check new ≡ good bs'
      → named_there (replace_all ks) (length bs') ≡ true → OnlyNamed ks bs bs' → Singly (manuscript mode rules) bs' bs ks es
      → (a : Answer) (text' ledger' : List ℕ) → Alters (manuscript mode rules) new (replace_all ks) kept text ledger a text' ledger'
      → (said : List Answer) (kept'' : ℕ) (text'' ledger'' : List ℕ) → Runs (manuscript mode rules) kept text ledger es said kept'' text'' ledger''
      → AllAccepted said
      → AsSingly (length bs') a (record { text = text'; ledger = ledger'; size = size_after a kept }) said
      (record { text = text''; ledger = ledger''; size = kept'' })
  -- `AllowedChanges` compares blocks as trees. That is to compare rows and token texts: where these are the same, so are the trees.
  pub blocks :
      (t u : Tree) → Sound t → Sound u → length (rows_of t) < cap → length (text_of t) < cap → rows_of t ≡ rows_of u → text_of t ≡ text_of u
      → t ≡ u
  -- 6 is demanded exactly where, past 1 to 5, what is named cannot be changed (`named_there`), told by the new tree's count of blocks: a
  -- block or a position is not there; or, of several blocks to be replaced, one is not there, there are none, or their numbers do not rise
  -- strictly.
  pub six :
      (mode : ℕ) (rules t l old : List ℕ) (e : Change)
      → (demanded_change (manuscript mode rules) t l old e ≡ refused 6 0)
      ↔ (lacks_named ((manuscript mode rules).check e.tree) e.kind ≡ true)
  -- The count of an accepted change of one block goes from the named place to the first block after which both documents' conversions carry
  -- the same, or to the last (`FirstSameBy`). What is carried after a block is compared with what the old document carries after the same
  -- block, or after the one that it replaced; after a block put in, with what was carried before the position. A removal counts none where
  -- the old document carries the same before the block taken out and after it. Of several blocks that are replaced the count is of these,
  -- and of all that begin with another carry than they did.
  pub counts :
      (mode : ℕ) (rules t l old : List ℕ) (s : Kept) → Holds (manuscript mode rules) t l old s → (e : Change)
      → PermittedChange (manuscript mode rules) t l old e → (len : ℕ) (growth : ℤ) (n : ℕ)
      → demanded_change (manuscript mode rules) t l old e ≡ edited len growth n
      → FirstSameBy e.kind (carries_from (manuscript mode rules) 0 e.tree) (carries_from (manuscript mode rules) 0 old) n
  -- A call of Edit is one that changes `replace block`, so calls of Edit may stand in a run of changes.
  pub edits :
      (mode : ℕ) (rules tree : List ℕ) (block kept : ℕ) (text ledger : List ℕ) (a : Answer) (text' ledger' : List ℕ)
      → Edits (manuscript mode rules) tree block kept text ledger a text' ledger'
      → Alters (manuscript mode rules) tree (replace block) kept text ledger a text' ledger'
  -- A list of one is an edit: a call that replaces several blocks, where one is named, answers and leaves what a call of Edit does.
  pub one :
      (mode : ℕ) (rules tree : List ℕ) (block kept : ℕ) (text ledger : List ℕ) (a : Answer) (text' ledger' : List ℕ)
      → Edits (manuscript mode rules) tree block kept text ledger a text' ledger'
      ↔ Alters (manuscript mode rules) tree (replace_all (block ∷ [])) kept text ledger a text' ledger'
  -- `list` of edits alone. Convert accepted a document; then Edit was called for each of a list, each time with what the call before left
  -- (`Runs`), and each edit changes no block but the one that it names (`Allowed`). Then the answers are those that conversions from the
  -- start demand, and the buffers hold the text and the block rows of the last accepted document.
  pub edits_list :
      (mode : ℕ) (rules tree text ledger : List ℕ) (kept blocks : ℕ) (text' ledger' : List ℕ)
      → Converts (manuscript mode rules) tree text ledger (converted kept blocks) text' ledger' → (es : List Edit)
      → Allowed (manuscript mode rules) text ledger tree es → (said : List Answer) (kept'' : ℕ) (text'' ledger'' : List ℕ)
      → Runs (manuscript mode rules) kept text' ledger' es said kept'' text'' ledger''
      → (said ≡ (reference (manuscript mode rules) text ledger tree es).answers)
      × Holds (manuscript mode rules) text ledger (reference (manuscript mode rules) text ledger tree es).last
      (record { text = text''; ledger = ledger''; size = kept'' })
  -- `runs`, `six` and `counts` of edits alone.
  pub edits_runs :
      (mode : ℕ) (rules : List ℕ) (kept : ℕ) (text ledger : List ℕ) (es : List Edit) (said : List Answer) (kept' : ℕ) (text' ledger' : List ℕ)
      → Runs (manuscript mode rules) kept text ledger es said kept' text' ledger'
      → Demanded (manuscript mode rules) kept text ledger es said kept' text' ledger'
  pub edits_six :
      (mode : ℕ) (rules t l old : List ℕ) (e : Edit)
      → (demanded (manuscript mode rules) t l old e ≡ refused 6 0)
      ↔ (lacks ((manuscript mode rules).check e.tree) e.block ≡ true)
  pub edits_counts :
      (mode : ℕ) (rules t l old : List ℕ) (s : Kept) → Holds (manuscript mode rules) t l old s → (e : Edit)
      → Permitted (manuscript mode rules) t l old e → (len : ℕ) (growth : ℤ) (n : ℕ)
      → demanded (manuscript mode rules) t l old e ≡ edited len growth n
      → FirstSame (carries_from (manuscript mode rules) e.block e.tree) (carries_from (manuscript mode rules) e.block old) n
