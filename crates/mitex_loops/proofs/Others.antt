-- The elements that follow a child, by their rows: each is hopped over by its extent, and what is asked of all of them is asked of
-- those that are left (`Hopped`).
use mathlib.Core.Path.{◌≡◌, refl, sym, ap, ◌∙◌}
use mathlib.Core.Bool.{Bool, true, false, ◌||◌, not}
use mathlib.Core.List.{List}
use Prim.Native.Nat.{ℕ, ◌+◌, ◌*◌, ◌≤◌, ◌<◌}
use native.Mathlib.Omega.{arith}
use borrow.Author.Tests.{eq-eqb, ne_eqb}
use lib.ListN.{length, drop, get_or, length-append, length-drop}
use lib.Dec.{eqb}
use lib.Seq.{drop_at, drop-drop, get_or-drop}
use Rattle.text.specs.Writing.{cap}
use Rattle.mitex_syntax.specs.Syntax.{ClauseCommandName}
use Rattle.mitex_syntax.specs.Tree.{Tree, Forest, size, kind_of, rows_of, rows_ofs}
use Rattle.mitex_syntax.specs.Tree.Forest.{none, more}
use Rattle.mitex_syntax.specs.Rows.{extent_of}
use Rattle.mitex_syntax.proofs.Trees.{length-rows, extent-tree, size-some, no-left}
use Rattle.mitex_syntax.proofs.Seeking.{kind-first}
use Rattle.mitex_meaning.specs.Children.{follows, others_follow}

-- ---- whether a child follows

pub follows-by : (f : Forest) {rows : List ℕ} → rows ≡ rows_ofs f → not (eqb (length rows) 0) ≡ follows f
unfolding rows_of
follows-by none e = ap (λ (l : List ℕ). not (eqb (length l) 0)) e
follows-by (more t f) {rows} e =
    rw (ne_eqb (length rows) 0 (λ z. absurd (omega (arith, ap length e, length-append (rows_of t) (rows_ofs f), length-rows t, size-some t))))

-- ---- whether one follows that is no command name

-- of the elements f the rest is left from row byte i on, and the answer for f is the answer for the rest
pub record Hopped (behind : List ℕ) (i : ℕ) (f : Forest) : Type 0 where
  pub rest : Forest
  pub rows_are : drop i behind ≡ rows_ofs rest
  pub same_answer : others_follow f ≡ others_follow rest

-- the element at i
record Next (rows : List ℕ) (rest : Forest) : Type 0 where
  tree : Tree
  others : Forest
  is : rest ≡ more tree others
  extent : extent_of rows ≡ 8 * size tree
  inside : 8 * size tree ≤ length rows
  kind : get_or rows 0 0 ≡ kind_of tree
  behind : drop (8 * size tree) rows ≡ rows_ofs others

next : (rest : Forest) {rows : List ℕ} → rows ≡ rows_ofs rest → 0 < length rows → length rows < cap → Next rows rest
unfolding rows_of
next none e h few = absurd (omega (arith, ap length e))
next (more t f) {rows} e h few =
    let l = ap length e ∙ length-append (rows_of t) (rows_ofs f) in
    let lr = length-rows t in
    record {
      tree = t;
      others = f;
      is = refl;
      extent = ap extent_of e ∙ extent-tree t (rows_ofs f) (omega arith);
      inside = omega arith;
      kind = ap (λ (r : List ℕ). get_or r 0 0) e ∙ kind-first t (rows_ofs f);
      behind = ap (drop (8 * size t)) e ∙ drop_at (rows_of t) (rows_ofs f) (8 * size t) lr;
    }

-- what the loop needs of the element at i
pub record Hops (behind : List ℕ) (i : ℕ) (f : Forest) : Type 0 where
  pub some : 8 ≤ extent_of (drop i behind)
  pub inside : i + extent_of (drop i behind) ≤ length behind
  pub over : get_or behind i 0 ≡ ClauseCommandName → Hopped behind (i + extent_of (drop i behind)) f
  pub stops : (get_or behind i 0 ≡ ClauseCommandName → ⊥) → others_follow f ≡ true

pub hop-start : {behind : List ℕ} (f : Forest) → behind ≡ rows_ofs f → Hopped behind 0 f
hop-start f e = record { rest = f; rows_are = e; same_answer = refl }

module _ {behind : List ℕ} {i : ℕ} {f : Forest} where
  pub hop-end : Hopped behind i f → length behind ≤ i → others_follow f ≡ false
  unfolding others_follow
  hop-end h l = h.same_answer ∙ ap others_follow (no-left h.rest h.rows_are (simp length-drop (omega arith)))

  pub hops : Hopped behind i f → i < length behind → length behind < cap → Hops behind i f
  unfolding others_follow
  hops h l few =
      let ld = length-drop i behind in
      let n = next h.rest h.rows_are (omega arith) (omega arith) in
      let s = size-some n.tree in
      let e = n.extent in
      let m = n.inside in
      let z : i + 0 ≡ i = omega arith in
      let k : get_or behind i 0 ≡ kind_of n.tree = ap (λ (j : ℕ). get_or behind j 0) (sym z) ∙ sym (get_or-drop i behind 0 0) ∙ n.kind in
      let answer : others_follow f ≡ not (eqb (kind_of n.tree) ClauseCommandName) || others_follow n.others
      = h.same_answer ∙ ap others_follow n.is in
      record {
        some = omega arith;
        inside = omega arith;
        over = λ q. record {
          rest = n.others;
          rows_are = ap (λ (j : ℕ). drop (i + j) behind) e ∙ sym (drop-drop (8 * size n.tree) i behind) ∙ n.behind;
          same_answer = answer ∙ ap (λ (b : Bool). not b || others_follow n.others) (eq-eqb (kind_of n.tree) ClauseCommandName (sym k ∙ q));
        };
        stops = λ q. answer ∙ ap (λ (b : Bool). not b || others_follow n.others) (ne_eqb (kind_of n.tree) ClauseCommandName (λ p. q (k ∙ p)));
      }
