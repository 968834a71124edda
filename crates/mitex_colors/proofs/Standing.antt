-- The children of an element that was found: where they stand, and what a Greedy command makes of them.
use mathlib.Core.Path.{◌≡◌, sym, ap, subst, ◌∙◌}
use mathlib.Core.Bool.{Bool, false}
use mathlib.Core.Option.{Option as Maybe}
use mathlib.Core.Option.Option.{none as nothing, some}
use mathlib.Core.List.{List}
use Prim.Native.Nat.{ℕ, ◌+◌, ◌-◌, ◌<◌}
use native.Mathlib.Omega.{arith}
use lib.ListN.{take, drop, get_or}
use lib.Seq.{drop-drop, get_or-drop, get_or-take}
use Rattle.std.specs.Prelude.{Some, None}
use Rattle.std.proofs.lemmas.List.{drop-take}
use Rattle.mitex_syntax.proofs.Seeking.{first-picked}
use borrow.Author.Tests.{eqb-true}
use Rattle.mitex_syntax.specs.Syntax.{is_token}
use Rattle.mitex_syntax.specs.Tree.{Tree, Forest, size, sizes, kind_of}
use Rattle.mitex_syntax.specs.Tree.Tree.{node}
use Rattle.mitex_syntax.specs.Views.{first_by, is_of, children_of}
use Rattle.mitex_syntax.specs.Spells.{Spells, SpellsAll}
use Rattle.mitex_syntax.specs.Places.{FirstAt}
use Rattle.mitex_syntax.specs.declared.Spot.{Spot}
use Rattle.mitex_syntax.proofs.Trees.{kind-spelt, token-spelt, node-spelt, as-node, spells-under, size-node}
use Rattle.mitex_meaning.specs.Commands.{is_argument, greedy_in}
use Rattle.mitex_meaning.specs.Parts.{between, GreedyFound}
use Rattle.mitex_meaning.specs.Parts.GreedyFound.{no_greedy, greedy_at}

module _ {p : Tree → Bool} {f : Forest} {rows text : List ℕ} {a b c d : ℕ} (s : FirstAt p f rows text 0 a b c d) where
  -- the second byte of its rows
  mark-there : get_or (between a b rows) 1 0 ≡ get_or rows (a + 1) 0
  mark-there = let h = s.some_rows in get_or-take (b - a) (drop a rows) 1 0 (omega arith) ∙ get_or-drop a rows 1 0

  -- the children of a node
  pub children-there : {k : ℕ} {g : Forest} → s.tree ≡ node k g → SpellsAll g (between (a + 8) b rows) (between c d text)
  children-there {k} {g} e =
      let some = s.some_rows in
      let n : b - a ≡ 8 + (b - (a + 8)) = omega arith in
      subst (λ (l : List ℕ). SpellsAll g l (between c d text))
      (ap (λ (m : ℕ). drop 8 (take m (drop a rows))) n ∙ drop-take 8 (b - (a + 8)) (drop a rows) ∙ ap (take (b - (a + 8))) (drop-drop 8 a rows))
      (spells-under (subst (λ (t : Tree). Spells t (between a b rows) (between c d text)) e s.spells))

  pub smaller : {k : ℕ} {g : Forest} → s.tree ≡ node k g → sizes g < sizes f
  smaller {k} {g} e = omega (arith, s.fits, ap size e, size-node k g)

-- what is of a kind that no token has is a node
pub node-there :
    {k : ℕ} {f : Forest} {rows text : List ℕ} {a b c d : ℕ} (s : FirstAt (is_of k) f rows text 0 a b c d) → is_token k ≡ false
    → (g : Forest) × (s.tree ≡ node k g)
node-there {k} {f} s h =
    as-node s.tree k s.spells (kind-spelt s.tree s.spells ∙ eqb-true _ k (first-picked (is_of k) f s.is)) h

-- ---- the Greedy argument

pub greedy-missing : {f : Forest} {rows text : List ℕ} → first_by is_argument f ≡ nothing → GreedyFound f rows text None
greedy-missing e = no_greedy (λ conv o c. ap (λ (x : Maybe Tree). greedy_in conv o x c) e)

module _ {f : Forest} {rows text : List ℕ} {p : Spot} (s : FirstAt is_argument f rows text 0 p.row p.end p.from p.to) where
  pub greedy-token : get_or rows (p.row + 1) 0 ≡ 1 → GreedyFound f rows text None
  greedy-token h =
      let e = token-spelt s.tree s.spells (mark-there s ∙ h) in
      no_greedy (λ conv o c. ap (λ (x : Maybe Tree). greedy_in conv o x c) (s.is ∙ ap some e))

  pub greedy-node : (get_or rows (p.row + 1) 0 ≡ 1 → ⊥) → GreedyFound f rows text (Some p)
  greedy-node h =
      let e : s.tree ≡ node (kind_of s.tree) (children_of s.tree) = node-spelt s.tree s.spells (λ q. h (sym (mark-there s) ∙ q)) in
      let some_rows = s.some_rows in
      greedy_at
      (record {
        kind = kind_of s.tree;
        forest = children_of s.tree;
        is = s.is ∙ ap some e;
        spells = children-there s e;
        inside = record { low = omega arith; high = s.end; begun = s.some_text; stop = s.stop };
        row = let r = s.row in omega arith;
        some_rows = some_rows;
        fits = smaller s e;
      })
