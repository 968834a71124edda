-- Rows that spell a forest: counting its trees, and whether it is one root over its blocks.
use mathlib.Core.Path.{◌≡◌, sym, ap, ◌∙◌, refl}
use mathlib.Core.List.{List, append-nil}
use Rattle.std.specs.Prelude.{Some, None}
use Rattle.std.specs.Bool.{then_some}
use Prim.Native.Nat.{ℕ, ◌+◌, ◌*◌, ◌-◌, ◌≤◌, ◌<◌}
use native.Mathlib.Omega.{arith}
use Rattle.text.proofs.Writing.{part-rest}
use mathlib.Core.Bool.{Bool, true, false, cond}
use lib.Dec.{leb}
use borrow.Author.Tests.{eq-eqb, ne_eqb}
use lib.ListN.{length, take, drop, get_or, length-append}
use lib.Seq.{drop_at}
use Rattle.mitex_syntax.specs.Syntax.{ScopeRoot}
use Rattle.mitex_syntax.specs.Tree.{Tree, Forest, size, rows_of, rows_ofs, count}
use Rattle.mitex_syntax.specs.Tree.Tree.{token, node}
use Rattle.mitex_syntax.specs.Tree.Forest.{none, more}
use Rattle.mitex_syntax.specs.Rows.{extent_of}
use Rattle.mitex_syntax.proofs.Trees.{length-rows, size-some, extent-tree}
use Rattle.text.specs.Trailer.{file_most}
use Rattle.tree_file.specs.Layout.{blocks_most}
use Rattle.tree_file.specs.Parts.{root_blocks}

-- ---- counting

-- m trees were passed, and the rest are those of a forest
pub record Trees (f : Forest) (rest : List ℕ) (m : ℕ) : Type 0 where
  pub g : Forest
  pub spelt : rest ≡ rows_ofs g
  pub same : count f ≡ m + count g

pub trees-start : (f : Forest) (rows : List ℕ) → rows ≡ rows_ofs f → Trees f rows 0
trees-start f rows e = record { g = f; spelt = e; same = omega arith }

-- the tree at which the count stands
pub record Tree-at (f : Forest) (rest : List ℕ) (m end : ℕ) : Type 0 where
  pub some : 8 ≤ end
  pub inside : end ≤ length rest
  pub next : Trees f (take (length rest - end) (drop end rest)) (m + 1)

pub trees-at : {f : Forest} {rest : List ℕ} {m : ℕ} → Trees f rest m → 8 ≤ length rest → length rest ≤ file_most
    → (end : ℕ) → end ≡ extent_of rest → Tree-at f rest m end
unfolding count rows_of
trees-at {f} {rest} {m} w h lo end e =
    let go : (g : Forest) → rest ≡ rows_ofs g → count f ≡ m + count g → Tree-at f rest m end = elim [
      | none ↦ λ p q. absurd (omega (arith, ap length p))
      | more t u ↦ λ p q.
          let long = ap length p ∙ length-append (rows_of t) (rows_ofs u) in
          let rows = length-rows t in
          let some = size-some t in
          let is : end ≡ 8 * size t = e ∙ ap extent_of p ∙ extent-tree t (rows_ofs u) (omega arith) in
          record {
            some = omega arith;
            inside = omega arith;
            next = record {
              g = u;
              spelt = part-rest rest end ∙ ap (drop end) p ∙ drop_at (rows_of t) (rows_ofs u) end (omega arith);
              same = q ∙ omega arith;
            };
          }
    ] in
    go w.g w.spelt w.same

pub trees-end : {f : Forest} {rest : List ℕ} {m : ℕ} → Trees f rest m → length rest < 8 → m ≡ count f
unfolding count rows_of
trees-end {f} {rest} {m} w h =
    let go : (g : Forest) → rest ≡ rows_ofs g → count f ≡ m + count g → m ≡ count f = elim [
      | none ↦ λ p q. omega arith
      | more t u ↦ λ p q. absurd (omega (arith, ap length p ∙ length-append (rows_of t) (rows_ofs u), length-rows t, size-some t))
    ] in
    go w.g w.spelt w.same

absurd-mark : {A : Type 0} → ◌≡◌ {A = ℕ} 0 1 → A
absurd-mark e = absurd (omega arith)

-- ---- the root

pub root_none : (f : Forest) (l : List ℕ) → l ≡ rows_ofs f → length l < 8 → None ≡ root_blocks f
unfolding rows_of
root_none none l e h = refl
root_none (more t u) l e h = absurd (omega (arith, ap length e ∙ length-append (rows_of t) (rows_ofs u), length-rows t, size-some t))

pub root-token : (f : Forest) (l : List ℕ) → l ≡ rows_ofs f → 8 ≤ length l → get_or l 1 0 ≡ 1 → None ≡ root_blocks f
unfolding rows_of
root-token none l e h mk = refl
root-token (more t (more u g)) l e h mk = refl
root-token (more (token k s) none) l e h mk = refl
root-token (more (node k c) none) l e h mk = absurd-mark (sym (ap (λ x. get_or x 1 0) e) ∙ mk)

pub root-kind : (f : Forest) (l : List ℕ) → l ≡ rows_ofs f → 8 ≤ length l → (get_or l 0 0 ≡ ScopeRoot → ⊥) → None ≡ root_blocks f
unfolding rows_of
root-kind none l e h ne = refl
root-kind (more t (more u g)) l e h ne = refl
root-kind (more (token k s) none) l e h ne = refl
root-kind (more (node k c) none) l e h ne = let x = ne_eqb k ScopeRoot (λ q. ne (ap (λ x. get_or x 0 0) e ∙ q)) in rw x

more-long : (u : Tree) (g : Forest) → 8 ≤ length (rows_ofs (more u g))
unfolding rows_of
more-long u g = omega (arith, length-append (rows_of u) (rows_ofs g), length-rows u, size-some u)

-- the root's rows end where all end
root-extent : (k : ℕ) (c u : Forest) (l : List ℕ) → l ≡ rows_ofs (more (node k c) u) → length l ≤ file_most
    → length l ≡ extent_of l + length (rows_ofs u)
unfolding rows_of
root-extent k c u l e lo =
    let long = ap length e ∙ length-append (rows_of (node k c)) (rows_ofs u) in
    let rows = length-rows (node k c) in
    long ∙ omega (arith, ap extent_of e ∙ extent-tree (node k c) (rows_ofs u) (omega arith))

pub root-short : (f : Forest) (l : List ℕ) → l ≡ rows_ofs f → 8 ≤ length l → length l ≤ file_most → (get_or l 1 0 ≡ 1 → ⊥)
    → (end : ℕ) → end ≡ extent_of l → (length l ≡ end → ⊥) → None ≡ root_blocks f
unfolding rows_of
root-short none l e h lo mk n d ne = refl
root-short (more t (more u g)) l e h lo mk n d ne = refl
root-short (more (token k s) none) l e h lo mk n d ne = refl
root-short (more (node k c) none) l e h lo mk n d ne = absurd (ne (root-extent k c none l e lo ∙ omega arith))

-- a root over all other rows: its blocks are counted
pub record Root (f : Forest) (l : List ℕ) : Type 0 where
  pub blocks : Forest
  pub spelt : take (length l - 8) (drop 8 l) ≡ rows_ofs blocks
  pub are : (m : ℕ) → m ≡ count blocks → then_some (leb m blocks_most) m ≡ root_blocks f

some-by : (b : Bool) (m : ℕ) → then_some b m ≡ cond b (Some m) None
some-by true m = refl
some-by false m = refl

pub root-of : (f : Forest) (l : List ℕ) → l ≡ rows_ofs f → 8 ≤ length l → length l ≤ file_most → get_or l 0 0 ≡ ScopeRoot → (get_or l 1 0 ≡ 1 → ⊥)
    → (end : ℕ) → end ≡ extent_of l → length l ≡ end → Root f l
unfolding rows_of
root-of none l e h lo kd mk n d q = absurd (omega (arith, ap length e))
root-of (more (token k s) u) l e h lo kd mk n d q = absurd (mk (ap (λ x. get_or x 1 0) e))
root-of (more (node k c) (more u g)) l e h lo kd mk n d q = absurd (omega (arith, more-long u g, root-extent k c (more u g) l e lo))
root-of (more (node k c) none) l e h lo kd mk n d q =
    let x = eq-eqb k ScopeRoot (sym (ap (λ x. get_or x 0 0) e) ∙ kd) in
    record {
      blocks = c;
      spelt = part-rest l 8 ∙ ap (drop 8) e ∙ append-nil (rows_ofs c);
      are = λ m p. ap (λ v. then_some (leb v blocks_most) v) p ∙ some-by (leb (count c) blocks_most) (count c) ∙ sym (rw x);
    }
