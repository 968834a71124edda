-- Changes that come to the same blocks leave the same text and the same rows, and grow the text by the same (`same-document`): what buffers
-- hold is told by the document's blocks (`same_kept`), and growths add up to what the length has moved, over any list (`growths-add`).
-- Blocks replaced one by one are such a list, whose trees follow each other (`singly-linked`), so where it is accepted it comes to the new
-- document (`linked-comes`), and so does the one call (`all-is-singly`).
use mathlib.Core.Path.{◌≡◌, refl, sym, ap, ap₂, subst, subst₂, ◌∙◌}
use mathlib.Core.Logic.{◌≢◌}
use mathlib.Core.Bool.{Bool, true, false, ◌&&◌, not, cond}
use mathlib.Core.List.{List, [], ◌∷◌, ◌++◌}
use Prim.Native.Nat.{ℕ, zero, suc, ◌+◌, ◌*◌, ◌-◌}
use native.Mathlib.Omega.{arith}
use lib.IntN.{ℤ, pos, neg_ℤ, ◌+ℤ◌, ◌-ℤ◌, +ℤ_assoc, +ℤ_comm, +ℤ_invl, +ℤ_invr, +ℤ_idl, +ℤ_idr}
use lib.ListN.{length, take, drop}
use lib.Seq.{take-append_seam, take_at, take-length}
use lib.Dec.{eqb, leb}
use borrow.Author.Tests.{eqb-true, eqb-false}
use Rattle.mitex_meaning.specs.Conversion.{start_carry}
use Rattle.ledger.specs.Ledger.{Row, row_size, encode_rows, decode_rows, Piece, written, rows_from}
use Rattle.edit_meaning.specs.Walk.{CheckedFile, BlockConverter, KeepsShort}
use Rattle.edit_meaning.specs.Walk.CheckedFile.{bad, good}
use Rattle.edit_meaning.specs.Walk.Walk.{pieces}
use Rattle.edit_meaning.specs.Edit.{Answer, Result, unchanged, room_for_text, settle, from_check, conversion, convert_document}
use Rattle.edit_meaning.specs.Edit.Answer.{refused, converted, edited}
use Rattle.edit_meaning.specs.Run.{Edit, Kept, Run, size_after, leaves, run, edit_answer, length_of, document_after, OnlyAt, Holds}
use Rattle.edit_meaning.specs.Calls.{Runs}
use Rattle.edit_meaning.specs.Changes.{Kind, Change, named_there, old_count, change_fits, come_count, gone_count, Remade, remake}
use Rattle.edit_meaning.specs.Changes.{text_over, ledger_over, front_over, exchange, exchange_or, change_checked, change, call_change, run_changes}
use Rattle.edit_meaning.specs.Changes.{lacks_named, is_among, OnlyNamed, BlocksBeside, demanded_change, document_changed, reference_changes}
use Rattle.edit_meaning.specs.Changes.{PermittedChange, AllowedChanges}
use Rattle.edit_meaning.specs.Changes.Kind.{replace, replace_all}
use Rattle.edit_meaning.specs.Changes.Remade.{halted, remade}
use Rattle.edit_meaning.specs.ChangeCalls.{Alters}
use Rattle.edit_meaning.specs.Singly.{growth_of, growths, AcceptedAnswer, AllAccepted, SameKept, AsSingly, with_block, Singly}
use Rattle.edit_meaning.specs.Singly.{AllIsSingly, SameDocument}
use Rattle.edit_meaning.specs.Singly.Singly.{all_done, one_then}
use Rattle.edit_meaning.proofs.Walks.{WalkedBlocks, walked-walk, walked-length}
use Rattle.edit_meaning.proofs.Named.{among-others, same-front}
use Rattle.edit_meaning.proofs.Holding.{holding, rows-length, StandsIn, stands-encodable, HoldsPieces, holds-pieces}
use Rattle.edit_meaning.proofs.Changes.{as_changes, run-same}
use Rattle.edit_meaning.proofs.DemandChanges.{Changed, changed, changed-holds, demand-changes}
use Rattle.edit_meaning.proofs.Calls.{runs-are}

-- ---- growths

telescope : (a b c : ℤ) → (b -ℤ a) +ℤ (c -ℤ b) ≡ c -ℤ a
telescope a b c =
    +ℤ_comm (b -ℤ a) (c -ℤ b)
    ∙ +ℤ_assoc c (neg_ℤ b) (b -ℤ a)
    ∙ ap (λ x. c +ℤ x) (sym (+ℤ_assoc (neg_ℤ b) b (neg_ℤ a)) ∙ ap (λ x. x +ℤ neg_ℤ a) (+ℤ_invl b) ∙ +ℤ_idl (neg_ℤ a))

-- an answer tells by how much the length has moved
abbrev Tells : Answer → ℕ → Type 0
Tells a old = growth_of a ≡ pos (size_after a old) -ℤ pos old

refused-tells : (n i old : ℕ) → Tells (refused n i) old
refused-tells n i old = sym (+ℤ_invr (pos old))

either-tells : (b : Bool) (x y : Result) (old : ℕ) → Tells x.answer old → Tells y.answer old → Tells (cond b x y).answer old
either-tells true x y old p q = p
either-tells false x y old p q = q

exchange-tells :
    (n kept : ℕ) (rows : List Row) (x : Remade) (text ledger : List ℕ) → Tells (exchange_or n kept rows x text ledger).answer kept
unfolding exchange
exchange-tells n kept rows (halted m i) text ledger = refused-tells m i kept
exchange-tells n kept rows (remade ss) text ledger =
    let new : List ℕ = text_over kept rows ss text in
    let many : ℕ = n + come_count ss - gone_count ss in
    either-tells (room_for_text (length new) (length text) && leb (row_size * many) (length ledger))
    (record {
      answer = edited (length new) (pos (length new) -ℤ pos kept) (come_count ss);
      text = front_over new (length new) kept text;
      ledger = front_over (ledger_over n rows ss ledger) (row_size * many) (row_size * n) ledger;
    })
    (unchanged 15 0 text ledger) kept refl (refused-tells 15 0 kept)

module _ (𝓒 : BlockConverter) where
  open 𝓒 use {Block, check}

  checked-tells :
      (x : CheckedFile Block) (k : Kind) (kept : ℕ) (text ledger : List ℕ) → Tells (change_checked 𝓒 x k kept text ledger).answer kept
  checked-tells (bad n i) k kept text ledger = refused-tells n i kept
  checked-tells (good bs) k kept text ledger =
      let n : ℕ = old_count k (length bs) in
      let x : Remade = remake 𝓒 bs (decode_rows n ledger) k in
      either-tells (change_fits k (length bs) kept text ledger) (exchange_or n kept (decode_rows n ledger) x text ledger)
      (unchanged 6 0 text ledger) kept (exchange-tells n kept (decode_rows n ledger) x text ledger) (refused-tells 6 0 kept)

  change-tells : (s : Kept) (e : Change) → Tells (call_change 𝓒 s e).answer s.size
  unfolding change
  change-tells s e = checked-tells (check e.tree) e.kind s.size s.text s.ledger

  -- over any list, from any buffers
  pub growths-add :
      (es : List Change) (s : Kept) → growths (run_changes 𝓒 s es).answers ≡ pos (run_changes 𝓒 s es).left.size -ℤ pos s.size
  unfolding run_changes
  growths-add [] s = sym (+ℤ_invr (pos s.size))
  growths-add (e ∷ es) s =
      let s' : Kept = leaves (call_change 𝓒 s e) s.size in
      ap₂ (λ x y. x +ℤ y) (change-tells s e) (growths-add es s')
      ∙ telescope (pos s.size) (pos s'.size) (pos (run_changes 𝓒 s' es).left.size)

accepted-document : (a : Answer) (old new : List ℕ) → AcceptedAnswer a → document_after a old new ≡ new
accepted-document (refused n i) old new h = absurd h
accepted-document (converted len n) old new h = refl
accepted-document (edited len g n) old new h = refl

accepted-by :
    (b : Bool) (a : Answer) (old count : ℕ) {len blocks : ℕ} → b ≡ false → a ≡ converted len blocks
    → AcceptedAnswer (cond b (refused 6 0) (edit_answer a old count))
accepted-by b a old count f e = rw (f, e) tt

-- ---- blocks given one by one

module _ {Block : Type 0} where
  with-only : (k : ℕ) (bs bs' : List Block) → length bs' ≡ length bs → OnlyAt k bs (with_block k bs bs')
  with-only k bs bs' n = record { count = count k bs bs' n; before = before k bs bs' n; after = after k bs bs' n }
    where
      count : (k : ℕ) (bs bs' : List Block) → length bs' ≡ length bs → length (with_block k bs bs') ≡ length bs
      count zero [] [] n = refl
      count (suc k) [] [] n = refl
      count k [] (b' ∷ bs') n = absurd (omega arith)
      count k (b ∷ bs) [] n = absurd (omega arith)
      count zero (b ∷ bs) (b' ∷ bs') n = refl
      count (suc k) (b ∷ bs) (b' ∷ bs') n = ap suc (count k bs bs' (omega arith))

      before : (k : ℕ) (bs bs' : List Block) → length bs' ≡ length bs → take k (with_block k bs bs') ≡ take k bs
      before zero bs bs' n = refl
      before (suc k) [] [] n = refl
      before (suc k) [] (b' ∷ bs') n = absurd (omega arith)
      before (suc k) (b ∷ bs) [] n = absurd (omega arith)
      before (suc k) (b ∷ bs) (b' ∷ bs') n = ap (λ l. b ∷ l) (before k bs bs' (omega arith))

      after : (k : ℕ) (bs bs' : List Block) → length bs' ≡ length bs → drop (suc k) (with_block k bs bs') ≡ drop (suc k) bs
      after zero [] [] n = refl
      after (suc k) [] [] n = refl
      after k [] (b' ∷ bs') n = absurd (omega arith)
      after k (b ∷ bs) [] n = absurd (omega arith)
      after zero (b ∷ bs) (b' ∷ bs') n = refl
      after (suc k) (b ∷ bs) (b' ∷ bs') n = after k bs bs' (omega arith)

  -- block k is now that of bs', and the others are as they were
  with_at : (k : ℕ) (bs bs' : List Block) → length bs' ≡ length bs → take 1 (drop k bs') ≡ take 1 (drop k (with_block k bs bs'))
  with_at zero [] [] n = refl
  with_at (suc k) [] [] n = refl
  with_at k [] (b' ∷ bs') n = absurd (omega arith)
  with_at k (b ∷ bs) [] n = absurd (omega arith)
  with_at zero (b ∷ bs) (b' ∷ bs') n = refl
  with_at (suc k) (b ∷ bs) (b' ∷ bs') n = with_at k bs bs' (omega arith)

  with-others :
      (k i : ℕ) (bs bs' : List Block) → length bs' ≡ length bs → i ≢ k → take 1 (drop i bs) ≡ take 1 (drop i (with_block k bs bs'))
  with-others zero i [] [] n h = refl
  with-others (suc k) i [] [] n h = refl
  with-others k i [] (b' ∷ bs') n h = absurd (omega arith)
  with-others k i (b ∷ bs) [] n h = absurd (omega arith)
  with-others zero zero (b ∷ bs) (b' ∷ bs') n h = absurd (h refl)
  with-others zero (suc i) (b ∷ bs) (b' ∷ bs') n h = refl
  with-others (suc k) zero (b ∷ bs) (b' ∷ bs') n h = refl
  with-others (suc k) (suc i) (b ∷ bs) (b' ∷ bs') n h = with-others k i bs bs' (omega arith) (λ e. h (ap suc e))

  -- so one named block less is to be given
  only-rest : (k : ℕ) (ks : List ℕ) (bs bs' : List Block) → OnlyNamed (k ∷ ks) bs bs' → OnlyNamed ks (with_block k bs bs') bs'
  only-rest k ks bs bs' only =
      record {
        count = only.count ∙ sym (with-only k bs bs' only.count).count;
        others = λ i e. go i e (eqb i k) refl;
      }
    where
      go :
          (i : ℕ) → is_among i ks ≡ false → (b : Bool) → eqb i k ≡ b
          → take 1 (drop i bs') ≡ take 1 (drop i (with_block k bs bs'))
      go i e true q =
          subst (λ j. take 1 (drop j bs') ≡ take 1 (drop j (with_block k bs bs'))) (sym (eqb-true i k q)) (with_at k bs bs' only.count)
      go i e false q =
          only.others i (among-others i k ks (eqb-false i k q) ∙ e) ∙ with-others k i bs bs' only.count (eqb-false i k q)

  -- and where none is, the blocks are those of bs'
  only_none : (bs bs' : List Block) → OnlyNamed [] bs bs' → bs ≡ bs'
  only_none bs bs' only =
      sym (take-length bs)
      ∙ same-front (length bs) bs bs' (sym only.count) (λ i h. sym (only.others i refl))
      ∙ ap (λ n. take n bs') (sym only.count)
      ∙ take-length bs'

-- ---- what buffers hold is told by the blocks

module _ (𝓒 : BlockConverter) (keeps-short : KeepsShort 𝓒) (t l : List ℕ) where
  open 𝓒 use {Block, check}

  same-pieces : {bs : List Block} {ps qs : List Piece} → WalkedBlocks 𝓒 start_carry bs ps → WalkedBlocks 𝓒 start_carry bs qs → ps ≡ qs
  same-pieces {bs} {ps} {qs} w v =
      let e : pieces ps ≡ pieces qs = sym (walked-walk 𝓒 w 1) ∙ walked-walk 𝓒 v 1 in cc

  held_rows :
      {tree : List ℕ} {ps : List Piece} {rest l₂ : List ℕ} (st : StandsIn 𝓒 keeps-short t l tree ps rest l₂) (bs : List Block)
      → check tree ≡ good bs → take (row_size * length bs) (encode_rows (rows_from 0 ps) ++ l₂) ≡ encode_rows (rows_from 0 ps)
  held_rows {tree} {ps} {rest} {l₂} st bs c =
      let q : st.blocks ≡ bs = cc st.checked in
      let n : length bs ≡ length ps = ap length (sym q) ∙ walked-length 𝓒 st.along in
      take_at (encode_rows (rows_from 0 ps)) l₂ (row_size * length bs)
      (rows-length ps (stands-encodable 𝓒 keeps-short t l st) ∙ ap (λ i. row_size * i) (sym n))

  pub same_kept :
      (x y : List ℕ) (s s' : Kept) (bs : List Block) → check x ≡ good bs → check y ≡ good bs → Holds 𝓒 t l x s → Holds 𝓒 t l y s'
      → SameKept (length bs) s s'
  same_kept x y s s' bs c c' ho ho' =
      let f : HoldsPieces 𝓒 keeps-short t l x s = holds-pieces 𝓒 keeps-short t l x s ho in
      let f' : HoldsPieces 𝓒 keeps-short t l y s' = holds-pieces 𝓒 keeps-short t l y s' ho' in
      let q : f.stands.blocks ≡ f'.stands.blocks = cc (f.stands.checked, f'.stands.checked) in
      let p : f.ps ≡ f'.ps = same-pieces f.stands.along (rw q f'.stands.along) in
      let size : ℕ = length (written f.ps) in
      let text : take size (written f.ps ++ f.rest) ≡ take size (written f'.ps ++ f'.rest)
      = take-append_seam (written f.ps) f.rest ∙ rw p (sym (take-append_seam (written f'.ps) f'.rest)) in
      let same : SameKept (length bs) (holding f.ps f.rest f.l₂) (holding f'.ps f'.rest f'.l₂)
      = record {
        size = ap (λ ps. length (written ps)) p;
        text = text;
        rows = held_rows f.stands bs c ∙ ap (λ ps. encode_rows (rows_from 0 ps)) p ∙ sym (held_rows f'.stands bs c');
      } in
      subst (λ x. SameKept (length bs) x s') (sym f.is)
      (subst (λ y. SameKept (length bs) (holding f.ps f.rest f.l₂) y) (sym f'.is) same)

  pub same-document : SameDocument 𝓒 t l
  same-document tree s bs ho es es' al al' c c' =
      let d = demand-changes 𝓒 keeps-short t l tree s ho es al in
      let d' = demand-changes 𝓒 keeps-short t l tree s ho es' al' in
      let k : SameKept (length bs) (run_changes 𝓒 s es).left (run_changes 𝓒 s es').left
      = same_kept (reference_changes 𝓒 t l tree es).last (reference_changes 𝓒 t l tree es').last (run_changes 𝓒 s es).left
      (run_changes 𝓒 s es').left bs c c' d.holds d'.holds in
      (k, growths-add 𝓒 es s ∙ ap (λ n. pos n -ℤ pos s.size) k.size ∙ sym (growths-add 𝓒 es' s))

  -- ---- changes whose trees follow each other

  abbrev Linked : List ℕ → List Change → Type 0
  Linked old [] = Unit {0}
  Linked old (e ∷ es) = PermittedChange 𝓒 t l old e × Linked e.tree es

  abbrev last_tree : List ℕ → List Change → List ℕ
  last_tree old [] = old
  last_tree old (e ∷ es) = last_tree e.tree es

  linked-comes :
      (es : List Change) (tree : List ℕ) (s : Kept) → Holds 𝓒 t l tree s → Linked tree es → AllAccepted (run_changes 𝓒 s es).answers
      → AllowedChanges 𝓒 t l tree es × ((reference_changes 𝓒 t l tree es).last ≡ last_tree tree es)
  unfolding run_changes reference_changes AllowedChanges
  linked-comes [] tree s ho li ac = (tt, refl)
  linked-comes (e ∷ es) tree s ho li ac =
      let one : Changed 𝓒 keeps-short t l tree s e = changed 𝓒 keeps-short t l tree s ho e li.0 in
      let next : document_changed 𝓒 t l tree e ≡ e.tree
      = accepted-document (demanded_change 𝓒 t l tree e) tree e.tree (subst AcceptedAnswer one.answer ac.0) in
      let s' : Kept = leaves (call_change 𝓒 s e) s.size in
      let more : AllowedChanges 𝓒 t l e.tree es × ((reference_changes 𝓒 t l e.tree es).last ≡ last_tree e.tree es)
      = linked-comes es e.tree s' (rw next at (changed-holds 𝓒 keeps-short t l tree s e one)) li.1 ac.1 in
      ((li.0, rw next more.0), ap (λ x. (reference_changes 𝓒 t l x es).last) next ∙ more.1)

  linked-same :
      (tree : List ℕ) (s : Kept) (bs : List Block) → Holds 𝓒 t l tree s → (es es' : List Change) → Linked tree es → Linked tree es'
      → AllAccepted (run_changes 𝓒 s es).answers → AllAccepted (run_changes 𝓒 s es').answers → check (last_tree tree es) ≡ good bs
      → check (last_tree tree es') ≡ good bs
      → SameKept (length bs) (run_changes 𝓒 s es).left (run_changes 𝓒 s es').left
      × (growths (run_changes 𝓒 s es).answers ≡ growths (run_changes 𝓒 s es').answers)
  linked-same tree s bs ho es es' li li' ac ac' c c' =
      let a = linked-comes es tree s ho li ac in
      let a' = linked-comes es' tree s ho li' ac' in
      same-document tree s bs ho es es' a.0 a'.0 (ap check a.1 ∙ c) (ap check a'.1 ∙ c')

  -- what a change is permitted by: the blocks of both trees
  permitted-by :
      (old : List ℕ) (bs : List Block) (e : Change) (bs' : List Block) → check old ≡ good bs → check e.tree ≡ good bs'
      → BlocksBeside e.kind bs bs' → PermittedChange 𝓒 t l old e
  permitted-by old bs e bs' c c' b bs₀ bs₁ d d' n =
      let p : bs ≡ bs₀ = cc in
      let q : bs' ≡ bs₁ = cc in
      subst (λ x. BlocksBeside e.kind bs₀ x) q (subst (λ x. BlocksBeside e.kind x bs') p b)

  -- ---- blocks replaced one by one

  singly-linked :
      {bs' bs : List Block} {ks : List ℕ} {es : List Edit} → Singly 𝓒 bs' bs ks es → OnlyNamed ks bs bs' → (old : List ℕ)
      → check old ≡ good bs → Linked old (as_changes es) × (check (last_tree old (as_changes es)) ≡ good bs')
  singly-linked {bs'} {bs} all_done only old c = (tt, c ∙ ap good (only_none bs bs' only))
  singly-linked {bs'} {bs} (one_then {k = k} {ks} {tree} {es} c₂ si) only old c =
      let more = singly-linked si (only-rest k ks bs bs' only) tree c₂ in
      let e : Change = record { tree = tree; kind = replace k } in
      ((permitted-by old bs e (with_block k bs bs') c c₂ (with-only k bs bs' only.count), more.0), more.1)

  -- a change to the blocks of a document that is held is accepted
  change-accepted :
      (old new last : List ℕ) (s s' : Kept) (bs' : List Block) (k : Kind) → Holds 𝓒 t l old s → Holds 𝓒 t l last s' → check last ≡ good bs'
      → check new ≡ good bs' → named_there k (length bs') ≡ true → PermittedChange 𝓒 t l old (record { tree = new; kind = k })
      → AcceptedAnswer (call_change 𝓒 s (record { tree = new; kind = k })).answer
  unfolding demanded_change convert_document conversion
  change-accepted old new last s s' bs' k ho ho' c c' h p =
      let e : Change = record { tree = new; kind = k } in
      let one : Changed 𝓒 keeps-short t l old s e = changed 𝓒 keeps-short t l old s ho e p in
      let same : (convert_document 𝓒 new t l).answer ≡ converted s'.size ho'.blocks
      = ap (λ x. (settle (from_check 𝓒 x) t l).answer) (c' ∙ sym c) ∙ ho'.accepted in
      let has : lacks_named (check new) k ≡ false = ap (λ x. lacks_named x k) c' ∙ ap not h in
      subst AcceptedAnswer (sym one.answer) (accepted-by (lacks_named (check new) k) _ (length_of 𝓒 old) _ has same)

  pub all-is-singly : AllIsSingly 𝓒 t l
  unfolding run_changes
  all-is-singly old new s bs bs' ks es ho c c' named only si acs =
      let all : Change = record { tree = new; kind = replace_all ks } in
      let may : PermittedChange 𝓒 t l old all = permitted-by old bs all bs' c c' only in
      let li = singly-linked si only old c in
      let acs' : AllAccepted (run_changes 𝓒 s (as_changes es)).answers
      = subst (λ (r : Run). AllAccepted r.answers) (run-same 𝓒 es s) acs in
      let co = linked-comes (as_changes es) old s ho li.0 acs' in
      let ho' : Holds 𝓒 t l (last_tree old (as_changes es)) (run_changes 𝓒 s (as_changes es)).left
      = subst (λ x. Holds 𝓒 t l x (run_changes 𝓒 s (as_changes es)).left) co.1
      (demand-changes 𝓒 keeps-short t l old s ho (as_changes es) co.0).holds in
      let ac : AcceptedAnswer (call_change 𝓒 s all).answer
      = change-accepted old new (last_tree old (as_changes es)) s _ bs' (replace_all ks) ho ho' li.1 c' named may in
      let r = linked-same old s bs' ho (all ∷ []) (as_changes es) (may, tt) li.0 (ac, tt) acs' c' li.1 in
      let one_by_one : run_changes 𝓒 s (as_changes es) ≡ run 𝓒 s es = sym (run-same 𝓒 es s) in
      record {
        accepted = ac;
        kept = subst (λ (x : Run). SameKept (length bs') (leaves (call_change 𝓒 s all) s.size) x.left) one_by_one r.0;
        growth =
            sym (+ℤ_idr (growth_of (call_change 𝓒 s all).answer)) ∙ r.1 ∙ ap (λ (x : Run). growths x.answers) one_by_one;
      }

  -- told of calls
  pub alters-singly :
      {old new : List ℕ} {bs bs' : List Block} {ks : List ℕ} {es : List Edit} {kept kept'' : ℕ}
      {text ledger text' ledger' text'' ledger'' : List ℕ} {a : Answer} {said : List Answer}
      → Holds 𝓒 t l old (record { text = text; ledger = ledger; size = kept }) → check old ≡ good bs → check new ≡ good bs'
      → named_there (replace_all ks) (length bs') ≡ true → OnlyNamed ks bs bs' → Singly 𝓒 bs' bs ks es
      → Alters 𝓒 new (replace_all ks) kept text ledger a text' ledger' → Runs 𝓒 kept text ledger es said kept'' text'' ledger''
      → AllAccepted said
      → AsSingly (length bs') a (record { text = text'; ledger = ledger'; size = size_after a kept }) said
      (record { text = text''; ledger = ledger''; size = kept'' })
  alters-singly {old} {new} {bs} {bs'} {ks} {es} {kept} {kept''} {text} {ledger} {text'} {ledger'} {text''} {ledger''} {a} {said}
      ho c c' named only si al ru acs =
      let s : Kept = record { text = text; ledger = ledger; size = kept } in
      let s'' : Kept = record { text = text''; ledger = ledger''; size = kept'' } in
      let g = al.gives in
      let r : Result = call_change 𝓒 s (record { tree = new; kind = replace_all ks }) in
      let left : leaves r kept ≡ record { text = text'; ledger = ledger'; size = size_after a kept }
      = λ i. record { text = sym g.bytes i; ledger = sym g.rows i; size = size_after (sym g.answer i) kept } in
      let u = runs-are ru in
      let so : AsSingly (length bs') r.answer (leaves r kept) (run 𝓒 s es).answers (run 𝓒 s es).left
      = all-is-singly old new s bs bs' ks es ho c c' named only si (subst AllAccepted u.0 acs) in
      subst₂ (λ (x : Answer) (y : Kept). AsSingly (length bs') x y said s'') (sym g.answer) left
      (subst₂ (λ (x : List Answer) (y : Kept). AsSingly (length bs') r.answer (leaves r kept) x y) (sym u.0) (sym u.1) so)
