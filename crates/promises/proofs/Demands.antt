-- The demands, proved: each is a theorem over any converter of blocks (crate `edit_meaning`) that holds of this product's, since it keeps
-- labels short and its refusals have their numbers (crate `manuscript`). Demand 2 is `document-root`, read through `settle`.
use mathlib.Core.Path.{◌≡◌, refl, sym, ap, subst, ◌∙◌}
use mathlib.Core.Bool.{Bool, true, false}
use mathlib.Core.List.{List}
use mathlib.Core.Option.Option.{some}
use Prim.Native.Nat.{ℕ, ◌*◌, ◌≤◌}
use native.Mathlib.Omega.{arith}
use lib.ListN.{length, drop}
use lib.Seq.{drop-append_seam}
use Rattle.text.specs.Numbers.{Bytes}
use Rattle.mitex_spec.specs.Rules.{Rule}
use Rattle.mitex_spec.specs.RuleFile.{rules_of}
use Rattle.mitex_syntax.specs.Tree.{Tree, size, count}
use Rattle.tree_file.specs.Check.{check_tree, blocks_of}
use Rattle.tree_file.specs.Check.Verdict.{accepted}
use Rattle.tree_file.proofs.Same.{same-tree}
use Rattle.mitex_meaning.specs.Conversion.{levels, new_carry, start_carry}
use Rattle.mitex_meaning.specs.declared.LaTeXMode.{LaTeXMode}
use Rattle.mitex_meaning.proofs.Levels.{convert-level}
use Rattle.ledger.specs.Ledger.{row_size, encode_rows, Piece, written, rows_from}
use Rattle.edit_meaning.specs.Walk.{Walk, walk}
use Rattle.edit_meaning.specs.Walk.CheckedFile.{bad}
use Rattle.edit_meaning.specs.Walk.Walk.{stopped, pieces}
use Rattle.edit_meaning.specs.Edit.{Answer, Result, text_most, room, at_front, settle, from_check, conversion, convert_document, edit}
use Rattle.edit_meaning.specs.Edit.Answer.{refused}
use Rattle.edit_meaning.specs.Calls.{Gives, Converts, Untouched}
use Rattle.edit_meaning.specs.Changes.{change}
use Rattle.edit_meaning.specs.Numbers.{Fifteen, ConvertNumber, OfConvert, OfEdit}
use Rattle.edit_meaning.proofs.Walks.{WalkedBlocks, walk-walked, walked-length}
use Rattle.edit_meaning.proofs.Holding.{room_says, rows-length, walked-encodable}
use Rattle.edit_meaning.proofs.Untouched.{convert-untouched, change-untouched, edit-untouched}
use Rattle.edit_meaning.proofs.Begin.{converts-holds, converts-starts}
use Rattle.edit_meaning.proofs.Calls.{runs-demanded}
use Rattle.edit_meaning.proofs.ChangeCalls.{edits-alter, edits-one, alters-converted, alters-demanded, converted-demanded}
use Rattle.edit_meaning.proofs.Singly.{alters-singly}
use Rattle.edit_meaning.proofs.Six.{demanded-change-six, demanded-six}
use Rattle.edit_meaning.proofs.Counting.{demanded-change-counts, demanded-counts}
use Rattle.manuscript.specs.Manuscript.{mode_of, listed, manuscript, blocks_in, together}
use Rattle.manuscript.proofs.Manuscript.{listed-count, opened-as, numbered, keeps-short}
use Rattle.manuscript.proofs.Root.{enough, document-root}
use Rattle.manuscript.proofs.Answers.{convert-answers, change-answers, edit-answers}
use Rattle.promises.specs.Demands.{AnyCaller, root_outcome, Delivered, AsReference, FollowsReference, EveryList}

-- ---- demand 1

-- what holds of the definition's result holds of a call that gave it
given : (Q : Answer → Type 0) (r : Result) (a : Answer) (text ledger text' ledger' : List ℕ) → Gives r a text' ledger' → Q r.answer
    → Untouched r.answer text ledger r.text r.ledger → Q a × Untouched a text ledger text' ledger'
given Q r a text ledger text' ledger' g q u =
    let left : Untouched a text ledger r.text r.ledger
    = subst (λ x. Untouched x text ledger r.text r.ledger) (sym g.answer) u in
    let bytes : Untouched a text ledger text' r.ledger = subst (λ x. Untouched a text ledger x r.ledger) (sym g.bytes) left in
    (subst Q (sym g.answer) q, subst (λ x. Untouched a text ledger text' x) (sym g.rows) bytes)

pub demand-1 : AnyCaller
demand-1 =
    record {
      converts = λ mode rules tree text ledger a text' ledger' c.
          given (OfConvert ConvertNumber) (convert_document (manuscript mode rules) tree text ledger) a text ledger text' ledger' c.gives
          (convert-answers mode rules tree text ledger) (convert-untouched text ledger (manuscript mode rules) tree);
      edits = λ mode rules tree block kept text ledger a text' ledger' c.
          given (OfEdit Fifteen) (edit (manuscript mode rules) tree block kept text ledger) a text ledger text' ledger' c.gives
          (edit-answers mode rules tree block kept text ledger) (edit-untouched text ledger (manuscript mode rules) tree block kept);
      alters = λ mode rules tree k kept text ledger a text' ledger' c.
          given (OfEdit Fifteen) (change (manuscript mode rules) tree k kept text ledger) a text ledger text' ledger' c.gives
          (change-answers mode rules tree k kept text ledger) (change-untouched text ledger (manuscript mode rules) tree k kept);
    }

-- ---- demand 2

module _ (text ledger : List ℕ) (blocks : ℕ) where
  -- what `settle` makes of a walk, told by the outcome that its pieces come to together
  settled-pieces :
      (ps : List Piece) → (length (written ps) ≤ text_most → length (encode_rows (rows_from 0 ps)) ≡ row_size * length ps) → (b : Bool)
      → room (length text) (length ledger) ps ≡ b
      → Delivered b (written ps) (length ps) text ledger (settle (pieces ps) text ledger).answer (settle (pieces ps) text ledger).text
      (settle (pieces ps) text ledger).ledger
  unfolding settle
  settled-pieces ps rows false r = (rw r, rw r, rw r)
  settled-pieces ps rows true r =
      let fit = room_says (length text) (length ledger) ps r in
      let n = rows (omega arith) in
      (rw r, rw r, rw r (kept-after (encode_rows (rows_from 0 ps)) ledger n))
    where
      kept-after : {k : ℕ} (new l : List ℕ) → length new ≡ k → drop k (at_front new l) ≡ drop k l
      kept-after {k} new l e = ap (λ n. drop n (at_front new l)) (sym e) ∙ drop-append_seam new (drop (length new) l) ∙ ap (λ n. drop n l) e

  settled :
      (w : Walk) → ((ps : List Piece) → w ≡ pieces ps → length ps ≡ blocks)
      → ((ps : List Piece) → w ≡ pieces ps → length (written ps) ≤ text_most → length (encode_rows (rows_from 0 ps)) ≡ row_size * length ps)
      → AsReference (together start_carry w) blocks text ledger (settle w text ledger).answer (settle w text ledger).text
      (settle w text ledger).ledger
  unfolding settle room
  settled (stopped n i) many rows = (refl, refl, refl)
  settled (pieces ps) many rows =
      subst
      (λ n. AsReference (together start_carry (pieces ps)) n text ledger (settle (pieces ps) text ledger).answer
      (settle (pieces ps) text ledger).text (settle (pieces ps) text ledger).ledger)
      (many ps refl) (settled-pieces ps (rows ps refl) (room (length text) (length ledger) ps) refl)

-- where a check refuses, so does Convert
shut :
    (mode : ℕ) (rules tree : List ℕ) (n row : ℕ) → (manuscript mode rules).check tree ≡ bad n row → (text ledger : List ℕ)
    → (convert_document (manuscript mode rules) tree text ledger).answer ≡ refused n row
unfolding convert_document conversion settle
shut mode rules tree n row e text ledger = ap (λ x. (settle (from_check (manuscript mode rules) x) text ledger).answer) e

module _ (mode : ℕ) (rules tree : List ℕ) (bytes : Bytes tree) (m : LaTeXMode) (rs : List Rule) (t : Tree) (in_mode : mode_of mode ≡ some m)
    (in-rules : rules_of rules ≡ some rs) (is : check_tree tree ≡ accepted t) where
  -- the blocks one after the other
  abbrev blocks-walk : Walk
  blocks-walk = walk (blocks_in m rs) start_carry 1 (listed (blocks_of t))

  opened : (text ledger : List ℕ) → convert_document (manuscript mode rules) tree text ledger ≡ settle blocks-walk text ledger
  unfolding convert_document conversion
  opened text ledger = opened-as mode rules tree in_mode in-rules is (λ 𝓒 v. settle (from_check 𝓒 v) text ledger)

  walked : (ps : List Piece) → blocks-walk ≡ pieces ps → WalkedBlocks (blocks_in m rs) start_carry (listed (blocks_of t)) ps
  walked ps e = walk-walked (blocks_in m rs) (listed (blocks_of t)) start_carry 1 ps e

  follows :
      (text ledger : List ℕ) (d : ℕ) → size t ≤ d
      → AsReference (root_outcome d m rs t) (count (blocks_of t)) text ledger (settle blocks-walk text ledger).answer
      (settle blocks-walk text ledger).text (settle blocks-walk text ledger).ledger
  follows text ledger d h =
      let n : ℕ = count (blocks_of t) in
      let r : Result = settle blocks-walk text ledger in
      let root : together start_carry blocks-walk ≡ root_outcome d m rs t
      = document-root tree bytes t is (some m) (some rs) ∙ convert-level levels d _ t new_carry (enough tree bytes t is) h in
      subst (λ o. AsReference o n text ledger r.answer r.text r.ledger) root
      (settled text ledger n blocks-walk
      (λ ps e. sym (walked-length (blocks_in m rs) (walked ps e)) ∙ listed-count (blocks_of t))
      (λ ps e small. rows-length ps (walked-encodable (blocks_in m rs) (keeps-short (some m) (some rs)) (walked ps e) small)))

  -- told of a call
  as_called :
      (text ledger : List ℕ) (a : Answer) (text' ledger' : List ℕ) → Converts (manuscript mode rules) tree text ledger a text' ledger'
      → (d : ℕ) → size t ≤ d → AsReference (root_outcome d m rs t) (count (blocks_of t)) text ledger a text' ledger'
  as_called text ledger a text' ledger' c d h =
      let g : Gives (settle blocks-walk text ledger) a text' ledger' = subst (λ r. Gives r a text' ledger') (opened text ledger) c.gives in
      let is-so : record { answer = a; text = text'; ledger = ledger' } ≡ settle blocks-walk text ledger
      = λ i. record { answer = g.answer i; text = g.bytes i; ledger = g.rows i } in
      subst
      (λ (r : Result). AsReference (root_outcome d m rs t) (count (blocks_of t)) text ledger r.answer r.text r.ledger)
      (sym is-so) (follows text ledger d h)

pub demand-2 : FollowsReference
demand-2 =
    record {
      before = λ mode rules tree n row e text ledger a text' ledger' c.
          let h = (numbered (mode_of mode) (rules_of rules)).checked tree n row e in
          (c.gives.answer ∙ shut mode rules tree n row e text ledger, h.0, h.1);
      past = λ mode rules tree bytes m rs t in_mode in-rules is. as_called mode rules tree bytes m rs t in_mode in-rules is;
    }

-- ---- demand 3

pub demand-3 : EveryList
demand-3 =
    record {
      list = λ mode rules tree text ledger kept blocks text' ledger' c es al said kept'' text'' ledger'' r.
          let d = converted-demanded (manuscript mode rules) (keeps-short (mode_of mode) (rules_of rules)) tree text ledger kept blocks c r al in
          (d.0, d.1);
      starts = λ mode rules tree text ledger kept blocks text' ledger' c text₁ ledger₁ same_text same_rows.
          converts-starts (manuscript mode rules) (keeps-short (mode_of mode) (rules_of rules)) tree text ledger kept blocks c text₁ ledger₁
          same_text same_rows;
      runs = λ mode rules kept text ledger es said kept' text' ledger' r.
          alters-demanded (manuscript mode rules) (keeps-short (mode_of mode) (rules_of rules)) r;
      afresh = λ mode rules t l old kept text ledger ho e may has a text' ledger' al b text'' ledger'' co.
          alters-converted (manuscript mode rules) (keeps-short (mode_of mode) (rules_of rules)) ho may has al co;
      singly = λ mode rules t l old new bs bs' ks es kept text ledger ho c c' named only si a text' ledger' al said kept'' text'' ledger'' ru acs.
          alters-singly (manuscript mode rules) (keeps-short (mode_of mode) (rules_of rules)) t l ho c c' named only si al ru acs;
      blocks = same-tree;
      six = λ mode rules t l old e. demanded-change-six (manuscript mode rules) (numbered (mode_of mode) (rules_of rules)) t l old e;
      counts = λ mode rules t l old s ho e p.
          demanded-change-counts (manuscript mode rules) (keeps-short (mode_of mode) (rules_of rules)) t l old s ho e p;
      edits = λ mode rules tree block kept text ledger a text' ledger' c. edits-alter c;
      one = λ mode rules tree block kept text ledger a text' ledger'. edits-one;
      edits_list = λ mode rules tree text ledger kept blocks text' ledger' c es al said kept'' text'' ledger'' r.
          let ks = keeps-short (mode_of mode) (rules_of rules) in
          let d = runs-demanded (manuscript mode rules) ks r text ledger tree
          (converts-holds (manuscript mode rules) ks tree text ledger kept blocks c) al in
          (d.0, d.1);
      edits_runs = λ mode rules kept text ledger es said kept' text' ledger' r.
          runs-demanded (manuscript mode rules) (keeps-short (mode_of mode) (rules_of rules)) r;
      edits_six = λ mode rules t l old e. demanded-six (manuscript mode rules) (numbered (mode_of mode) (rules_of rules)) t l old e;
      edits_counts = λ mode rules t l old s ho e p.
          demanded-counts (manuscript mode rules) (keeps-short (mode_of mode) (rules_of rules)) t l old s ho e p;
    }
