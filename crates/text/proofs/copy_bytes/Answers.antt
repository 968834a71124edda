use native.Mathlib.Omega.{arith}
use mathlib.Core.Path.{refl, sym, ap, ◌∙◌}
use mathlib.Core.List.{List, [], ◌∷◌, ◌++◌}
use Prim.Native.Nat.{ℕ}
use lib.ListN.{get_or, length-set}
use lib.Seq.{take_all}
use Rattle.std.proofs.lemmas.List.{take_more_set}
use Rattle.text.proofs.Writing.{take_more}
use Rattle.text.proofs.copy_bytes.Goals as goal

pub loop-i-init : goal.loop-i-init
loop-i-init c = (omega arith, c.requires, refl)

pub loop-i-preserved : goal.loop-i-preserved
loop-i-preserved c =
    let loop = c.loop-i in
    let s = c.args.s.now in
    let here = loop.invariant.2 in (
      omega arith,
      simp length-set loop.invariant.1,
      take_more_set loop.to loop.i (get_or s loop.i 0) (omega (arith, loop.invariant.1))
          ∙ ap (λ (l : List ℕ). l ++ (get_or s loop.i 0 ∷ [])) here ∙ sym (take_more s loop.i c.loop-i-test.true),
    )

pub returns : goal.returns
returns c =
    let loop = c.loop-i in
    sym (take_all loop.i loop.to (omega (arith, loop.invariant.1, c.loop-i-test.false))) ∙ loop.invariant.2
    ∙ take_all loop.i c.args.s.now c.loop-i-test.false
