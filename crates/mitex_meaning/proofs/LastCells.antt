-- A table that ends in an open cell comes to what the same table with a `\\` at its end comes to, however its children are converted.
use mathlib.Core.Path.{◌≡◌, refl, ap, ◌∙◌}
use mathlib.Core.Bool.{Bool, true, false, cond}
use mathlib.Core.List.{List}
use mathlib.Core.Option.{Option}
use mathlib.Core.Option.Option.{none as nothing, some}
use Prim.Native.Nat.{ℕ, ◌+◌}
use native.Mathlib.Omega.{arith}
use Rattle.mitex_syntax.specs.Syntax.{ClauseArgument, ItemBegin}
use Rattle.mitex_syntax.specs.Tree.{Tree, Forest, size}
use Rattle.mitex_syntax.specs.Tree.Forest.{none, more}
use Rattle.mitex_syntax.specs.Views.{is_of, first_by, first_of, begin_of, children_in}
use Rattle.mitex_meaning.specs.Outcome.{Context, Carry, Outcome, Conv, and_then, shift, in_env}
use Rattle.mitex_meaning.specs.Outcome.Outcome.{refused, done}
use Rattle.mitex_meaning.specs.Children.{act_of, next_exterior, turn, each}
use Rattle.mitex_meaning.specs.Environments.{table_by, table_env}
use Rattle.mitex_meaning.specs.LastCells.{ends_outside, with_new_line}
use Rattle.mitex_meaning.specs.declared.LaTeXEnv.TheVariants.{Table as TableEnv}
use Rattle.mitex_meaning.specs.declared.Loop.TheVariants.{Table}

-- where two go on alike, so do they after the same outcome
alike : (p : Outcome) {k l : Carry → Outcome} → ((c : Carry) → k c ≡ l c) → and_then p k ≡ and_then p l
alike (refused n r) e = refl
alike (done c w) e = rw (e c)

-- the loop over the children
cells :
    (conv : Tree → Carry → Outcome) (s : List ℕ) (o : ℕ) (exterior : Bool) (f : Forest) (c : Carry) → ends_outside exterior f ≡ false
    → each conv o (Table exterior) (with_new_line s f) c ≡ each conv o (Table exterior) f c
unfolding ends_outside with_new_line each turn
cells conv s o true none c e = let z : ◌≡◌ {A = ℕ} 0 1 = cc in absurd (omega arith)
cells conv s o false none c e = refl
cells conv s o exterior (more t f) c e =
    alike (shift o (turn conv (act_of (Table exterior) t f) t c))
    (λ c'. cells conv s (o + size t) (next_exterior exterior (act_of (Table exterior) t f)) f c' e)

-- its columns are those of the same `\begin`
first-begin : (s : List ℕ) (f : Forest) → first_of ItemBegin (with_new_line s f) ≡ first_of ItemBegin f
unfolding first_by with_new_line
first-begin s none = refl
first-begin s (more t f) = ap (λ (o : Option Tree). cond (is_of ItemBegin t) (some t) o) (first-begin s f)

-- with the same argument of that `\begin`
one-table :
    (w s : List ℕ) (conv : Conv) (x : Context) (f : Forest) (c : Carry) → ends_outside true f ≡ false → (a : Option Tree)
    → table_by w a conv x (with_new_line s f) c ≡ table_by w a conv x f c
one-table w s conv x f c e nothing = refl
one-table w s conv x f c e (some t) = rw (cells (conv (in_env TableEnv x)) s 1 true f c e)

pub new-line-left-out :
    (w s : List ℕ) (conv : Conv) (x : Context) (f : Forest) (c : Carry) → ends_outside true f ≡ false
    → table_env w conv x (with_new_line s f) c ≡ table_env w conv x f c
new-line-left-out w s conv x f c e =
    ap (λ (b : Option Tree). table_by w (first_of ClauseArgument (children_in b)) conv x (with_new_line s f) c) (first-begin s f)
    ∙ one-table w s conv x f c e (first_of ClauseArgument (begin_of f))
