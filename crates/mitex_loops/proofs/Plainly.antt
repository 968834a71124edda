-- Laws of a loop that writes nothing around a child, and of where a curly group stands.
use mathlib.Core.Path.{◌≡◌, refl, sym, ap, ◌∙◌}
use mathlib.Core.List.{[]}
use Prim.Native.Nat.{◌+◌}
use Rattle.mitex_syntax.specs.Tree.{Tree, size}
use Rattle.mitex_syntax.specs.Tree.Forest.{none, more}
use Rattle.mitex_meaning.specs.Outcome.{Carry, Outcome, after, and_then, closing, shift, step_of}
use Rattle.mitex_meaning.specs.Outcome.Outcome.{done}
use Rattle.mitex_meaning.specs.Children.{each}
use Rattle.mitex_meaning.specs.Groups.{group_env}
use Rattle.mitex_meaning.specs.declared.LaTeXEnv.{LaTeXEnv}
use Rattle.mitex_meaning.specs.declared.LaTeXEnv.TheVariants.{None, Figure, Itemize, Enumerate, Matrix, Cases, SubStack, MathCurlyGroup}
use Rattle.mitex_meaning.specs.declared.LaTeXEnv.TheVariants.{Math as MathEnv, Table as TableEnv}
use Rattle.mitex_meaning.specs.declared.Loop.TheVariants.{Plain}
use Rattle.mitex_meaning.specs.declared.Act.TheVariants.{Convert}
use Rattle.mitex_meaning.proofs.Outcomes.{after-nil, and_then-same, and_then-done, closing-nil, shift_zero}
use Rattle.mitex_meaning.proofs.Loops.{turn-converts, each_none, each_more}

-- no text before and none behind
pub nothing-around : (o : Outcome) → o ≡ after [] (closing [] o)
nothing-around o = sym (after-nil (closing [] o) ∙ closing-nil o)

-- one element in a plain loop is that element
pub each-one : (conv : Tree → Carry → Outcome) (t : Tree) (k : Carry) → each conv 0 Plain (more t none) k ≡ conv t k
each-one conv t k =
    each_more conv 0 Plain t none k
    ∙ ap (λ (o : Outcome). and_then (shift 0 o) (each conv (0 + size t) Plain none)) (turn-converts conv Convert t k refl ∙ sym (nothing-around (conv t k)))
    ∙ ap (λ (o : Outcome). and_then o (each conv (0 + size t) Plain none)) (shift_zero (conv t k))
    ∙ and_then-same (conv t k) (each conv (0 + size t) Plain none) (λ c. done c []) (λ c. each_none conv (0 + size t) Plain c)
    ∙ and_then-done (conv t k)

-- a curly group is not further in
pub group-step : (v : LaTeXEnv) → step_of (group_env v) ≡ 0
group-step None = refl
group-step Figure = refl
group-step TableEnv = refl
group-step Itemize = refl
group-step Enumerate = refl
group-step MathEnv = refl
group-step Matrix = refl
group-step Cases = refl
group-step SubStack = refl
group-step MathCurlyGroup = refl
