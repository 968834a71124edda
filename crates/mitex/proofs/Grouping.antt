-- Laws of the arms of groups and tables: what each comes to, as a text, elements in a place, and a text. And laws of elements that were
-- walked in another place or further down.
use mathlib.Core.Path.{◌≡◌, sym, ap, subst, ◌∙◌}
use mathlib.Core.Bool.{Bool, true, false, cond}
use mathlib.Core.List.{List, []}
use Prim.Native.Nat.{ℕ, ◌+◌, ◌*◌, ◌/◌}
use native.Mathlib.Omega.{arith}
use Rattle.text.specs.Compare.{same}
use Rattle.mitex_syntax.specs.Tree.{Forest, size}
use Rattle.mitex_syntax.specs.Tree.Forest.{none, more}
use Rattle.mitex_syntax.specs.Views.{is_valid, is_inline}
use Rattle.mitex_meaning.specs.Outcome.{Context, Carry, Outcome, Conv, after, closing, shift, in_mode, in_env}
use Rattle.mitex_meaning.specs.Outcome.Outcome.{refused}
use Rattle.mitex_meaning.specs.Texts.{formula_begin, formula_end, blank_group}
use Rattle.mitex_meaning.specs.Contract.{Place, Agrees}
use Rattle.mitex_meaning.specs.Children.{each}
use Rattle.mitex_meaning.specs.Groups.{formula, group_env, curly_in, curly_group, lr_begin, lr_end, clause_lr}
use Rattle.mitex_meaning.specs.Runs.{all_blank}
use Rattle.mitex_meaning.specs.declared.LaTeXMode.{LaTeXMode}
use Rattle.mitex_meaning.specs.declared.LaTeXMode.TheVariants.{Math}
use Rattle.mitex_meaning.specs.declared.LaTeXEnv.{LaTeXEnv}
use Rattle.mitex_meaning.specs.declared.Loop.TheVariants.{Plain, Curly, Spaced}
use Rattle.mitex_meaning.specs.Contract.{Walked}
use Rattle.mitex_meaning.proofs.Agreeing.{agrees-shift}
use Rattle.mitex_meaning.proofs.Loops.{each_none, each-shift}
use Rattle.mitex_meaning.proofs.Runs.{curly-blank}
use Rattle.mitex_loops.specs.FirstChild.{behind_first, first_size, lr_name}

-- ---- what was walked

-- elements that stand n rows further down, by the bytes of those rows
pub agrees-further :
    {a : Walked} {x : Place} {at : ℕ} {out out' : List ℕ} {o : Outcome} (row : ℕ) {i : ℕ} (n : ℕ) → i ≡ 8 * n
    → Agrees a x (row + i / 8) at out out' o → Agrees a x row at out out' (shift n o)
agrees-further {a} {x} {at} {out} {out'} {o} row {i} n e m =
    let z : row + i / 8 ≡ row + n = omega arith in
    agrees-shift n (subst (λ (r : ℕ). Agrees a x r at out out' o) z m)

-- ---- formulas

pub formula-bad : (conv : Conv) (x : Context) (f : Forest) (c : Carry) → is_valid f ≡ false → formula conv x f c ≡ refused 8 0
formula-bad conv x f c e = rw e

pub formula-good :
    (conv : Conv) (x : Context) (f : Forest) (c : Carry) (inline : Bool) → is_valid f ≡ true → inline ≡ is_inline f
    → formula conv x f c ≡ after (formula_begin x.mode inline) (closing (formula_end x.mode inline) (each (conv (in_mode Math x)) 1 Plain f c))
formula-good conv x f c inline e i =
    let in-math = each (conv (in_mode Math x)) 1 Plain f c in
    ap
    (λ (b : Bool). cond b (after (formula_begin x.mode (is_inline f)) (closing (formula_end x.mode (is_inline f)) in-math)) (refused 8 0)) e
    ∙ ap (λ (b : Bool). after (formula_begin x.mode b) (closing (formula_end x.mode b) in-math)) (sym i)

-- ---- curly groups

-- in Math the children stand in the environment v, and a mark follows if all of them are blank
pub curly-math :
    (conv : Conv) (x : Context) (f : Forest) (c : Carry) (v : LaTeXEnv) (blank : Bool) → x.mode ≡ Math → v ≡ group_env x.env
    → blank ≡ all_blank f
    → curly_group conv x f c ≡ closing (cond blank blank_group []) (each (conv (in_env v x)) 1 Plain f c)
curly-math conv x f c v blank e g b =
    ap (λ (m : LaTeXMode). curly_in m conv x f c) e
    ∙ ap (λ (u : LaTeXEnv). each (conv (in_env u x)) 1 (Curly true) f c) (sym g)
    ∙ curly-blank (conv (in_env v x)) 1 f c
    ∙ ap (λ (d : Bool). closing (cond d blank_group []) (each (conv (in_env v x)) 1 Plain f c)) (sym b)

-- ---- `\left` and `\right`

lr-is :
    (conv : Conv) (x : Context) (f : Forest) (c : Carry) → clause_lr conv x f c
    ≡ after (lr_begin (lr_name f)) (closing (lr_end (lr_name f)) (shift (first_size f) (each (conv x) 1 Spaced (behind_first f) c)))
unfolding clause_lr same
lr-is conv x none c = sym (ap (λ (o : Outcome). after (lr_begin []) (closing (lr_end []) (shift 0 o))) (each_none (conv x) 1 Spaced c))
lr-is conv x (more t f) c =
    let z : 1 + size t ≡ size t + 1 = omega arith in
    ap (λ (o : Outcome). after (lr_begin (lr_name (more t f))) (closing (lr_end (lr_name (more t f))) o))
    (ap (λ (n : ℕ). each (conv x) n Spaced f c) z ∙ each-shift (conv x) (size t) 1 Spaced f c)

-- by the name that was read
pub lr-named :
    (conv : Conv) (x : Context) (f : Forest) (c : Carry) (name : List ℕ) → name ≡ lr_name f
    → clause_lr conv x f c ≡ after (lr_begin name) (closing (lr_end name) (shift (first_size f) (each (conv x) 1 Spaced (behind_first f) c)))
lr-named conv x f c name e =
    lr-is conv x f c
    ∙ ap (λ (w : List ℕ). after (lr_begin w) (closing (lr_end w) (shift (first_size f) (each (conv x) 1 Spaced (behind_first f) c)))) (sym e)
