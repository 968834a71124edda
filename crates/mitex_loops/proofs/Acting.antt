-- What a child is, as code has it that holds its rows and its text; and how the number of the next named argument grows.
use mathlib.Core.Path.{◌≡◌, sym, subst, ◌∙◌}
use mathlib.Core.Bool.{Bool, true, false, cond}
use mathlib.Core.List.{List}
use Prim.Native.Nat.{ℕ, ◌+◌, ◌≤◌}
use native.Mathlib.Omega.{arith}
use lib.Dec.{eqb}
use lib.ListN.{drop, get_or}
use Rattle.mitex_syntax.specs.Syntax.{ClauseArgument}
use Rattle.mitex_syntax.specs.Tree.{Tree, Forest, rows_ofs}
use Rattle.mitex_syntax.specs.Views.{children_of}
use Rattle.mitex_syntax.specs.Spells.{Spells, Begins}
use Rattle.mitex_syntax.proofs.Trees.{kind-spelt, children-begin}
use Rattle.mitex_meaning.specs.Children.{next_loop}
use Rattle.mitex_meaning.specs.declared.Act.{Act}
use Rattle.mitex_meaning.specs.declared.Loop.{Loop}
use Rattle.mitex_meaning.specs.declared.Loop.TheVariants.{Plain, Curly, Spaced, Attached, Greedy, Separated, Bracketed, Dollars, Arguments, Named, Inside, Figure, Table}
use Rattle.mitex_loops.specs.declared.Child.{Child}
use Rattle.mitex_loops.specs.Given.{ChildIs, number_of}

-- the child with these rows and this text, and the others behind it
pub child-is :
    {t : Tree} {f : Forest} {rows text : List ℕ} (c : Child) → Spells t rows text → c.kind ≡ get_or rows 0 0
    → c.inner.rows.now ≡ drop 8 rows → c.inner.text.now ≡ text → c.behind.now ≡ rows_ofs f → ChildIs t f c
child-is {t} {f} {rows} {text} c sp k r x o =
    record {
      kind = k ∙ kind-spelt t sp;
      inside =
          subst (λ (l : List ℕ). Begins (children_of t) l c.inner.text.now) (sym r)
          (subst (Begins (children_of t) (drop 8 rows)) (sym x) (children-begin t sp));
      text_is = x ∙ sp.text_is;
      others = o;
    }

number_by : (b : Bool) (n : ℕ) → number_of (cond b (Named (n + 1)) (Named n)) ≤ n + 1
number_by true n = omega arith
number_by false n = omega arith

-- the number of the next argument grows by at most one with each child
pub number-next : (l : Loop) (k : ℕ) (a : Act) → number_of (next_loop l k a) ≤ number_of l + 1
number-next Plain k a = omega arith
number-next (Curly blank) k a = omega arith
number-next Spaced k a = omega arith
number-next (Attached s) k a = omega arith
number-next Greedy k a = omega arith
number-next Separated k a = omega arith
number-next Bracketed k a = omega arith
number-next Dollars k a = omega arith
number-next (Arguments dollars) k a = omega arith
number-next (Named n) k a = number_by (eqb k ClauseArgument) n
number-next Inside k a = omega arith
number-next Figure k a = omega arith
number-next (Table exterior) k a = omega arith
