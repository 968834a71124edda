-- Tests in a row, and what a writer is that passes them.
use mathlib.Core.Path.{◌≡◌, sym, ap, ◌∙◌}
use mathlib.Core.Bool.{Bool, true, false, ◌&&◌, and-eq-true_iff}
use Prim.Native.Nat.{ℕ}
use native.Mathlib.Omega.{arith}
use borrow.Author.Tests.{leb-true, eqb-true, not-true}
use Rattle.tree_writer.specs.SoFar.{size_with}
use Rattle.tree_writer.specs.Writers.{is_new, within_limits}
use Rattle.tree_writer.specs.declared.Writer.{Writer}
use Rattle.tree_writer.proofs.Accepting.{LimitsKept}

pub two-hold : {a b : Bool} → a ≡ true → b ≡ true → a && b ≡ true
two-hold {a} {b} p q = ap (λ x. x && b) p ∙ q

-- a test that fails does not hold
pub fails-holds : {A : Type 0} {b : Bool} → b ≡ false → b ≡ true → A
fails-holds {A} {b} p q = absurd (let r : false ≡ true = sym p ∙ q in let z : ◌≡◌ {A = ℕ} 0 1 = cc in omega arith)

-- ---- a writer that has written nothing yet

pub record New (w : Writer) : Type 0 where
  pub unfinished : w.finished ≡ false
  pub text : w.text ≡ 0
  pub blocks : w.blocks ≡ 0
  pub depth : w.depth ≡ 0
  pub inner : w.inner ≡ 0
  pub room : w.room ≡ 0

pub new-says : (w : Writer) → is_new w ≡ true → New w
new-says w e =
    let a = (and-eq-true_iff _ _).0 e in
    let b = (and-eq-true_iff _ _).0 a.1 in
    let c = (and-eq-true_iff _ _).0 b.1 in
    let d = (and-eq-true_iff _ _).0 c.1 in
    let f = (and-eq-true_iff _ _).0 d.1 in
    record {
      unfinished = not-true _ a.0;
      text = eqb-true _ _ b.0;
      blocks = eqb-true _ _ c.0;
      depth = eqb-true _ _ d.0;
      inner = eqb-true _ _ f.0;
      room = eqb-true _ _ f.1;
    }

-- ---- the limits

pub within-says : (w : Writer) → within_limits w ≡ true → LimitsKept w.room (size_with w.text w.rows) w.blocks w.depth
within-says w e =
    let a = (and-eq-true_iff _ _).0 e in
    let b = (and-eq-true_iff _ _).0 a.1 in
    let c = (and-eq-true_iff _ _).0 b.1 in
    record {
      small = leb-true _ _ a.0;
      few = leb-true _ _ c.0;
      low = leb-true _ _ c.1;
      fits = leb-true _ _ b.0;
    }
