-- What a loop does with a child, how it goes on, and that its rows are counted from where its first child stands.
use mathlib.Core.Path.{◌≡◌, refl, sym, ap, ◌∙◌}
use mathlib.Core.Bool.{true, false}
use mathlib.Core.List.{◌++◌}
use Prim.Native.Nat.{ℕ, ◌+◌}
use native.Mathlib.Nat.{add_assoc, add-zero}
use Rattle.mitex_syntax.specs.Tree.{Tree, Forest, size, kind_of, text_of}
use Rattle.mitex_syntax.specs.Tree.Forest.{none, more}
use Rattle.mitex_meaning.specs.Outcome.{Carry, Outcome, after, and_then, closing, shift}
use Rattle.mitex_meaning.specs.Outcome.Outcome.{refused, done}
use Rattle.mitex_meaning.specs.Children.{act_of, before, converts, behind, next_loop, loop_end, turn, each}
use Rattle.mitex_meaning.specs.declared.Loop.{Loop}
use Rattle.mitex_meaning.specs.declared.Act.{Act}
use Rattle.mitex_meaning.proofs.Outcomes.{shift-after}

onward :
    (a o : ℕ) (p : Outcome) (k l : Carry → Outcome) → ((c : Carry) → k c ≡ shift a (l c))
    → and_then (shift (a + o) p) k ≡ shift a (and_then (shift o p) l)
onward a o (refused n r) k l e = rw add_assoc
onward a o (done c w) k l e = ap (after w) (e c) ∙ sym (shift-after a w (l c))

module _ (conv : Tree → Carry → Outcome) where
  -- ---- one child

  pub turn-converts :
      (a : Act) (t : Tree) (c : Carry) → converts a ≡ true → turn conv a t c ≡ after (before a (text_of t)) (closing (behind a) (conv t c))
  unfolding turn
  turn-converts a t c e = rw e

  pub turn-passes : (a : Act) (t : Tree) (c : Carry) → converts a ≡ false → turn conv a t c ≡ done c (before a (text_of t) ++ behind a)
  unfolding turn
  turn-passes a t c e = rw e

  -- ---- the loop

  pub each_none : (o : ℕ) (l : Loop) (c : Carry) → each conv o l none c ≡ done c (loop_end l)
  unfolding each
  each_none o l c = refl

  pub each_more :
      (o : ℕ) (l : Loop) (t : Tree) (f : Forest) (c : Carry) → each conv o l (more t f) c
      ≡ and_then (shift o (turn conv (act_of l t f) t c)) (each conv (o + size t) (next_loop l (kind_of t) (act_of l t f)) f)
  unfolding each
  each_more o l t f c = refl

  -- children that stand a rows further down
  pub each-shift : (a o : ℕ) (l : Loop) (f : Forest) (c : Carry) → each conv (a + o) l f c ≡ shift a (each conv o l f c)
  unfolding each
  each-shift a o l none c = refl
  each-shift a o l (more t f) c =
      onward a o (turn conv (act_of l t f) t c) (each conv (a + o + size t) (next_loop l (kind_of t) (act_of l t f)) f)
      (each conv (o + size t) (next_loop l (kind_of t) (act_of l t f)) f)
      (λ c'. rw add_assoc (each-shift a (o + size t) (next_loop l (kind_of t) (act_of l t f)) f c'))

  pub each-from-zero : (o : ℕ) (l : Loop) (f : Forest) (c : Carry) → each conv o l f c ≡ shift o (each conv 0 l f c)
  each-from-zero o l f c = ap (λ (p : ℕ). each conv p l f c) (sym (add-zero o)) ∙ each-shift o 0 l f c
