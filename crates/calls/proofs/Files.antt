-- What the checks of the files leave is what a call begins with: a refusal of theirs (`begins-shut`), or the document of the files
-- (`files-open`). The refusal is that of the call (`converts-shut`, `alters-shut`); else the call is about the document's blocks
-- (`opened-converts`, `opened-changes`).
use mathlib.Core.Path.{◌≡◌, refl, sym, ap, subst, ◌∙◌}
use mathlib.Core.Option.Option.{none as nothing, some}
use mathlib.Core.List.{List}
use Prim.Native.Nat.{ℕ, ◌+◌, ◌-◌, ◌≤◌}
use native.Mathlib.Omega.{arith}
use lib.ListN.{length, take, drop, length-take, length-drop}
use Rattle.std.specs.Prelude.{Option as Maybe, Some, MatchOption, Result as Reply, Ok, Err}
use Rattle.text.specs.Numbers.{Bytes}
use Rattle.mitex_spec.specs.Rules.{Rule}
use Rattle.mitex_spec.specs.RuleFile.{rules_of}
use Rattle.mitex_spec.specs.Index.{SomeRules}
use Rattle.mitex_syntax.specs.Spells.{SpellsAll}
use Rattle.mitex_syntax.proofs.Trees.{size-some}
use Rattle.refusals.specs.Refusals.{refusal_number, reason_of}
use Rattle.refusals.specs.declared.Refusal.{Refusal}
use Rattle.tree_file.specs.Check.{Verdict, check_tree, blocks_of, checked_answer}
use Rattle.tree_file.specs.Check.Verdict.{refused as unfit, accepted}
use Rattle.tree_file.specs.declared.Whole.{Whole}
use Rattle.tree_file.proofs.Bridge.{Answered, answered, accepted-says, refused-number, answer-blocks}
use Rattle.mitex_meaning.specs.declared.LaTeXMode.{LaTeXMode}
use Rattle.edit_meaning.specs.Walk.{BlockConverter, CheckedFile}
use Rattle.edit_meaning.specs.Walk.CheckedFile.{bad, good}
use Rattle.edit_meaning.specs.Edit.{Result, settle, from_check, conversion, convert_document}
use Rattle.edit_meaning.specs.Edit.Answer.{refused}
use Rattle.edit_meaning.specs.Calls.{Gives, Converts}
use Rattle.edit_meaning.specs.Changes.{Kind, change_checked, change}
use Rattle.edit_meaning.specs.ChangeCalls.{Alters}
use Rattle.manuscript.specs.Manuscript.{mode_of, listed, by_tree, by_rules, by_mode, manuscript, blocks_in}
use Rattle.manuscript.proofs.Manuscript.{opened-as}
use Rattle.passes.specs.Passes.{Document}
use Rattle.passes.specs.Unique.{document-unique}
use Rattle.passes.specs.declared.open.OpenDocument.{OpenDocument}
use Rattle.calls.specs.declared.Converted.{Converted}
use Rattle.calls.specs.declared.Edited.{Edited}
use Rattle.calls.specs.Calls.{answer_of_convert, answer_of_edit, FilesOpen, block_rows, ConvertsBlocks, ChangesBlocks}

-- ---- the mode that the code found

pub mode-there :
    (mode : ℕ) {o : Maybe LaTeXMode} {m : LaTeXMode} → o ≡ Some m
    → MatchOption o (mode_of mode ≡ nothing) (λ x. mode_of mode ≡ some x) → mode_of mode ≡ some m
mode-there mode e h = subst (λ o. MatchOption o (mode_of mode ≡ nothing) (λ x. mode_of mode ≡ some x)) e h

-- ---- refused by the tree file's check

shut-tree :
    (tree : List ℕ) (v : Verdict) {e : Refusal} → check_tree tree ≡ v → checked_answer v ≡ Err e → by_tree v ≡ bad (refusal_number e.reason) e.row
shut-tree tree (unfit k r) {e} is f =
    let reason : reason_of k ≡ e.reason = cc in
    let row : r ≡ e.row = cc in
    ap (λ x. bad x r) (sym (refused-number tree k r is) ∙ ap refusal_number reason) ∙ ap (bad (refusal_number e.reason)) row
shut-tree tree (accepted t) is f = let z : ◌≡◌ {A = ℕ} 0 1 = cc in absurd (omega arith)

pub begins-shut :
    (mode : ℕ) (file tree : List ℕ) {m : LaTeXMode} {rs : List Rule} {e : Refusal} → mode_of mode ≡ some m → rules_of file ≡ some rs
    → checked_answer (check_tree tree) ≡ Err e → (manuscript mode file).check tree ≡ bad (refusal_number e.reason) e.row
begins-shut mode file tree {m} {rs} in_mode decodes f =
    ap (λ x. by_mode x (rules_of file) tree) in_mode
    ∙ ap (λ x. by_rules x tree) decodes
    ∙ shut-tree tree (check_tree tree) refl f

-- ---- a tree file that was accepted

module _ (tree : List ℕ) (bytes : Bytes tree) {whole : Whole} (is : checked_answer (check_tree tree) ≡ Ok whole) where
  abbrev tree-answered : Answered tree whole.start whole.rows whole.blocks
  tree-answered = answered tree whole.start whole.rows whole.blocks is

  -- the file has a root's row and a trailer after its text
  pub long : whole.start + 16 ≤ length tree
  long =
      let a = accepted-says tree bytes tree-answered.tree tree-answered.is in
      omega (arith, a.whole, tree-answered.start_is, size-some tree-answered.tree)

  pub trailer : length tree - 8 + 8 ≡ length tree
  trailer = omega (arith, long)

  module _ {rows text : List ℕ} {n : ℕ} (rows_are : rows ≡ block_rows whole.start tree)
      (text_is : text ≡ take whole.start tree) (count_is : n ≡ whole.blocks) where
    -- the document: the rows after the root's, and the text
    abbrev pub document : {file index : List ℕ} → SomeRules file index → Document file index rows text n
    document r =
        let b = answer-blocks tree bytes whole.start whole.rows whole.blocks tree-answered (length tree - 8) trailer in
        record {
          rs = r.rules;
          ready = r.ready;
          blocks = blocks_of tree-answered.tree;
          spells =
              subst (λ x. SpellsAll (blocks_of tree-answered.tree) rows x) (sym text_is)
              (subst (λ x. SpellsAll (blocks_of tree-answered.tree) x (take whole.start tree)) (sym rows_are) b.spells);
          many = sym tree-answered.blocks_are ∙ sym count_is;
          most = omega (arith, b.few, tree-answered.blocks_are);
          few = omega (arith, b.short, ap length rows_are, length-take (length tree - 8 - (whole.start + 8)) (drop (whole.start + 8) tree), length-drop (whole.start + 8) tree);
          short = omega (arith, b.short, ap length text_is, length-take whole.start tree);
        }

  -- whatever document has these rows and this text, with the rules of the file, is that of the files
  pub files-open :
      {mode : ℕ} {file : List ℕ} (d : OpenDocument) → mode_of mode ≡ some d.mode → d.content.rules.file.now ≡ file
      → d.content.rows.now ≡ block_rows whole.start tree → d.content.text.now ≡ take whole.start tree
      → d.blocks ≡ whole.blocks → FilesOpen mode file tree d
  files-open d in_mode file_is rows_are text_is count_is =
      let w = d.open in
      record {
        in_mode = in_mode;
        decodes = subst (λ (f : List ℕ). rules_of f ≡ some w.rs) file_is w.ready.decodes;
        root = tree-answered.tree;
        checked = tree-answered.is;
        blocks =
            ap (λ x. x.blocks)
            (document-unique w (document rows_are text_is count_is (record { rules = w.rs; ready = w.ready })));
      }

-- ---- a call over open files

module _ {mode : ℕ} {file tree : List ℕ} {d : OpenDocument} (o : FilesOpen mode file tree d) where
  -- a call over the checked tree is one over the blocks
  opened-call :
      (call : (𝓒 : BlockConverter) → CheckedFile 𝓒.Block → Result)
      → call (manuscript mode file) ((manuscript mode file).check tree) ≡ call (blocks_in d.mode d.open.rs) (good (listed d.open.blocks))
  opened-call call =
      opened-as mode file tree o.in_mode o.decodes o.checked call
      ∙ ap (λ f. call (blocks_in d.mode d.open.rs) (good (listed f))) (sym o.blocks)

  pub opened-converts :
      (r : Reply Converted Refusal) {out ledger out' ledger' : List ℕ} → ConvertsBlocks d out ledger r out' ledger'
      → Converts (manuscript mode file) tree out ledger (answer_of_convert r) out' ledger'
  unfolding convert_document conversion
  opened-converts r {out} {ledger} {out'} {ledger'} g =
      record {
        gives =
            subst (λ (x : Result). Gives x (answer_of_convert r) out' ledger')
            (sym (opened-call (λ 𝓒 v. settle (from_check 𝓒 v) out ledger))) g;
      }

  pub opened-changes :
      (r : Reply Edited Refusal) (kind : Kind) {kept : ℕ} {out ledger out' ledger' : List ℕ} → ChangesBlocks d kind kept out ledger r out' ledger'
      → Alters (manuscript mode file) tree kind kept out ledger (answer_of_edit r) out' ledger'
  unfolding change
  opened-changes r kind {kept} {out} {ledger} {out'} {ledger'} g =
      record {
        gives =
            subst (λ (x : Result). Gives x (answer_of_edit r) out' ledger')
            (sym (opened-call (λ 𝓒 v. change_checked 𝓒 v kind kept out ledger))) g;
      }

-- ---- refused by the checks

module _ (mode : ℕ) (file tree : List ℕ) {n row : ℕ} (shut : (manuscript mode file).check tree ≡ bad n row) where
  pub converts-shut : {out ledger : List ℕ} → Converts (manuscript mode file) tree out ledger (refused n row) out ledger
  unfolding convert_document conversion settle
  converts-shut {out} {ledger} =
      record {
        gives =
            subst (λ (x : Result). Gives x (refused n row) out ledger)
            (sym (ap (λ x. settle (from_check (manuscript mode file) x) out ledger) shut))
            (record { answer = refl; bytes = refl; rows = refl });
      }

  pub alters-shut : {k : Kind} {kept : ℕ} {out ledger : List ℕ} → Alters (manuscript mode file) tree k kept out ledger (refused n row) out ledger
  unfolding change
  alters-shut {k} {kept} {out} {ledger} =
      record {
        gives =
            subst (λ (x : Result). Gives x (refused n row) out ledger)
            (sym (ap (λ x. change_checked (manuscript mode file) x k kept out ledger) shut))
            (record { answer = refl; bytes = refl; rows = refl });
      }
