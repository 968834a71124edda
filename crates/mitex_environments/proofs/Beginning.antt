-- The children of the first ItemBegin: it is a node, so its rows past the first and its text spell them exactly.
use mathlib.Core.Path.{◌≡◌, refl, sym, ap, subst, ◌∙◌}
use mathlib.Core.Bool.{false}
use mathlib.Core.Option.Option.{none as nothing}
use mathlib.Core.List.{List, []}
use Prim.Native.Nat.{ℕ, ◌+◌, ◌≤◌}
use native.Mathlib.Omega.{arith}
use Rattle.mitex_syntax.proofs.Seeking.{first-picked}
use borrow.Author.Tests.{eqb-true}
use Rattle.mitex_syntax.specs.Syntax.{ItemBegin, is_token}
use Rattle.mitex_syntax.specs.Tree.{Tree, Forest, sizes, size, rows_of, text_of, kind_of}
use Rattle.mitex_syntax.specs.Tree.Tree.{token, node}
use Rattle.mitex_syntax.specs.Tree.Forest.{none}
use Rattle.mitex_syntax.specs.Views.{first_by, offset_of, is_of, children_of, children_in, begin_of}
use Rattle.mitex_syntax.specs.Spells.{Sound, Spells, SpellsAll, Begins, SomeForest}
use Rattle.mitex_syntax.specs.Places.{FirstAt}
use Rattle.mitex_syntax.proofs.Trees.{kind-spelt, as-node, size-children}
use Rattle.mitex_syntax.proofs.Places.{found-children, children-found}
use Rattle.mitex_meaning.specs.Outcome.{shift}
use Rattle.mitex_meaning.specs.Children.{each}
use Rattle.mitex_meaning.specs.Parts.{between, BeginFound}
use Rattle.mitex_meaning.proofs.Outcomes.{shift-shift}
use Rattle.mitex_meaning.proofs.Loops.{each-from-zero, each_none}

-- what the children of a node begin with, they are
node-exact : (t : Tree) {k : ℕ} {g : Forest} {l v m : List ℕ} → Spells t l v → Begins (children_of t) m v → t ≡ node k g → SpellsAll (children_of t) m v
unfolding text_of Sound
node-exact (token j s) sp w e = let z : ◌≡◌ {A = ℕ} 0 1 = cc in absurd (omega arith)
node-exact (node j h) sp w e = record { rows_are = w.rows_are; text_is = sp.text_is; sound = sp.sound.1 }

module _ (k : ℕ) {f : Forest} {rows text : List ℕ} {i a b c d : ℕ} (s : FirstAt (is_of k) f rows text i a b c d) where
  -- a child of a kind that no token has is a node, and its children are spelt exactly
  pub found-exact : is_token k ≡ false → SpellsAll (children_of s.tree) (between (a + 8) b rows) (between c d text)
  found-exact h =
      let sp = s.spells in
      let kind = kind-spelt s.tree sp ∙ eqb-true (kind_of s.tree) k (first-picked (is_of k) f s.is) in
      node-exact s.tree sp (found-children s) (as-node s.tree k sp kind h).1

module _ {f : Forest} where
  pub begin-found :
      {rows text : List ℕ} {a b c d : ℕ} {r v : List ℕ} → FirstAt (is_of ItemBegin) f rows text 0 a b c d → r ≡ between (a + 8) b rows → v ≡ between c d text
      → BeginFound f (a + 8) r v
  begin-found {rows} {text} {a} {b} {c} {d} {r} {v} s er ev =
      let g = children_of s.tree in
      let is : begin_of f ≡ g = children-found s in
      let row = s.row in
      record {
        spells =
            subst (λ (x : Forest). SpellsAll x r v) (sym is)
            (subst (λ (R : List ℕ). SpellsAll g R v) (sym er)
            (subst (λ (T : List ℕ). SpellsAll g (between (a + 8) b rows) T) (sym ev) (found-exact ItemBegin s refl)));
        row = λ conv l c'.
            ap (shift (1 + offset_of ItemBegin f)) (each-from-zero conv 1 l (begin_of f) c')
            ∙ shift-shift (1 + offset_of ItemBegin f) 1 (each conv 0 l (begin_of f) c')
            ∙ ap (λ (n : ℕ). shift n (each conv 0 l (begin_of f) c')) (omega arith);
        fits = omega (arith, ap sizes is, size-children s.tree, s.fits);
      }

  -- where there is none nothing is walked over
  pub begin-none : first_by (is_of ItemBegin) f ≡ nothing → BeginFound f 0 [] []
  unfolding rows_of text_of Sound size
  begin-none h =
      let is : begin_of f ≡ none = ap children_in h in
      record {
        spells = subst (λ (x : Forest). SpellsAll x [] []) (sym is) (record { rows_are = refl; text_is = refl; sound = tt });
        row = λ conv l c.
            subst (λ (x : Forest). shift (1 + offset_of ItemBegin f) (each conv 1 l x c) ≡ shift 1 (each conv 0 l x c)) (sym is)
            (ap (shift (1 + offset_of ItemBegin f)) (each_none conv 1 l c) ∙ sym (ap (shift 1) (each_none conv 0 l c)));
        fits = subst (λ (x : Forest). sizes x ≤ sizes f) (sym is) (omega arith);
      }

-- nothing is some elements
pub none-spelt : SomeForest [] [] 0 0
unfolding rows_of text_of Sound
none-spelt =
    record {
      few = omega arith;
      short = omega arith;
      low = omega arith;
      begun = omega arith;
      forest = none;
      begins = record { rows_are = refl; rest = []; text_is = refl; sound = tt };
    }
