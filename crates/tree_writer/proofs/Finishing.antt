-- Every finished file passes 3 and 4, and its walk is the accepted steps.
use mathlib.Core.Path.{◌≡◌, refl, sym, ap, ◌∙◌}
use mathlib.Core.Bool.{true, false, cond}
use mathlib.Core.Option.Option.{some}
use mathlib.Core.List.{List, [], ◌++◌}
use Prim.Native.Nat.{ℕ, ◌+◌, ◌≤◌}
use native.Mathlib.Omega.{arith}
use lib.ListN.{length, take, length-append}
use borrow.Author.Tests.{le-leb}
use Rattle.text.specs.Numbers.{four}
use Rattle.mitex_syntax.specs.Syntax.{ScopeRoot}
use Rattle.mitex_syntax.specs.Tree.{Tree, Forest, size, sizes, rows_of, text_of, texts_of, file_of}
use Rattle.mitex_syntax.specs.Spells.{Sound}
use Rattle.mitex_syntax.proofs.Trees.{length-rows, size-node}
use Rattle.tree_file.specs.Layout.{decode, Laid}
use Rattle.tree_file.specs.Depth.{depth, depth_most}
use Rattle.tree_file.specs.Shape.{lowest}
use Rattle.tree_file.specs.Check.{refused, too_deep, by_shape, by_depth, check_tree}
use Rattle.tree_file.proofs.Decode.{decode-complete}
use Rattle.tree_writer.specs.Steps.{Step}
use Rattle.tree_writer.specs.SoFar.{size_with}
use Rattle.tree_writer.specs.Runs.{run_steps, accepted_of, FinishedRight}
use Rattle.tree_writer.specs.declared.Writer.{Writer}
use Rattle.tree_writer.proofs.Tests.{fails-holds}
use Rattle.tree_writer.proofs.Standing.{WriterStands, no_step_yet, open_yet, root_yet, file_yet, WholeRoot, root_of}
use Rattle.tree_writer.proofs.Answering.{follows-steps}

pub length-file : (f : Forest) → length (file_of (root_of f)) ≡ size_with (length (texts_of f)) (1 + sizes f)
unfolding file_of text_of
length-file f =
    let t = root_of f in
    let tr = four (length (text_of t)) (four (size t) []) in
    length-append (text_of t) (rows_of t ++ tr) ∙ omega (arith, length-append (rows_of t) tr, length-rows t, size-node ScopeRoot f)

whole-laid : (room : ℕ) (f : Forest) → WholeRoot room f → Laid (root_of f) (file_of (root_of f))
unfolding Sound
whole-laid room f w = record { bytes = refl; short = let s = w.small in omega (arith, length-file f); sound = (tt, w.sounds); rooted = (refl, w.few) }

-- what decodes to a tree within the depth is refused by its shape alone
to-shape : (file : List ℕ) (t : Tree) → decode file ≡ some t → depth t ≤ depth_most → check_tree file ≡ by_shape t (lowest 0 0 t)
unfolding check_tree
to-shape file t e d = ap by_depth e ∙ ap (λ b. cond b (by_shape t (lowest 0 0 t)) (refused too_deep 0)) (le-leb (depth t) depth_most d)

not-finished : {A : Type 0} {w v : Writer} → w ≡ v → v.finished ≡ false → w.finished ≡ true → A
not-finished e p q = fails-holds p (ap (λ x. x.finished) (sym e) ∙ q)

of-stands : (b : List ℕ) (ss : List Step) → WriterStands (length b) (accepted_of (length b) ss) (run_steps b ss).writer (run_steps b ss).buffer
    → (run_steps b ss).writer.finished ≡ true → FinishedRight b ss
unfolding depth
of-stands b ss (no_step_yet p q) h = not-finished q refl h
of-stands b ss (open_yet o k f c p q x) h = not-finished q refl h
of-stands b ss (root_yet f w p q x) h = not-finished q refl h
of-stands b ss (file_yet f w p q x) h =
    let laid = whole-laid (length b) f w in
    let decodes = decode-complete (file_of (root_of f)) (root_of f) laid in
    record {
      tree = root_of f;
      file = ap (λ v. take (size_with v.text v.rows) (run_steps b ss).buffer) q ∙ x;
      long = length-file f ∙ sym (ap (λ v. size_with v.text v.rows) q);
      laid = laid;
      decodes = decodes;
      shallow = w.low;
      passes = to-shape (file_of (root_of f)) (root_of f) decodes w.low;
      walked = p;
    }

pub finished-right : (b : List ℕ) (ss : List Step) → (run_steps b ss).writer.finished ≡ true → FinishedRight b ss
finished-right b ss h = of-stands b ss (follows-steps b ss).follows.stands h
