-- Laws of the arms of commands: what a command comes to once its name and its rule are known.
use mathlib.Core.Path.{◌≡◌, refl, sym, ap, subst, ◌∙◌}
use mathlib.Core.Bool.{Bool, true, false, cond}
use mathlib.Core.Option.{Option}
use mathlib.Core.List.{List, ◌++◌}
use Prim.Native.Nat.{ℕ}
use native.Mathlib.Nat.{add-zero}
use Rattle.text.specs.Compare.{same}
use Rattle.std.specs.Prelude.{Option as Maybe, Some, None}
use lib.ListN.{drop}
use Rattle.mitex_spec.specs.Rules.{Rule, alias_or}
use Rattle.mitex_spec.specs.LookUp.{alias_of, rule_of}
use Rattle.mitex_spec.specs.declared.rules.Found.{Found}
use Rattle.mitex_syntax.specs.Views.{cmd_name}
use Rattle.mitex_meaning.specs.declared.Command.{Command}
use Rattle.mitex_meaning.specs.Outcome.Outcome.{refused}
use Rattle.mitex_syntax.specs.Tree.{Forest}
use Rattle.mitex_meaning.specs.Outcome.{Context, Carry, Conv, after, in_env}
use Rattle.mitex_meaning.specs.Texts.{left_paren, left_bracket, substack_name}
use Rattle.mitex_meaning.specs.Colors.{color_alias, body_loop, arguments_loop}
use Rattle.mitex_meaning.specs.Commands.{arguments_of, arguments_by, stack_env, written_as, typst_name, normal_by, command_of, command_by, command}
use Rattle.mitex_meaning.specs.declared.LaTeXMode.{LaTeXMode}
use Rattle.mitex_meaning.specs.declared.LaTeXMode.TheVariants.{Text, Math}
use Rattle.mitex_commands.specs.Leaves.{stack_in}
use Rattle.mitex_meaning.specs.declared.LaTeXEnv.{LaTeXEnv}
use Rattle.mitex_meaning.specs.declared.LaTeXEnv.TheVariants.{SubStack}
use Rattle.mitex_meaning.specs.declared.Arguments.{Arguments}
use Rattle.mitex_meaning.specs.declared.Converter.{Converter}
use Rattle.mitex_meaning.specs.Contract.{Walked}
use Rattle.mitex_colors.specs.declared.ColorModel.{ColorModel}
use Rattle.mitex_meaning.specs.declared.Loop.{Loop}
use Rattle.mitex.specs.Walks.{Colors}
use Rattle.mitex_loops.specs.Given.{number_of}

-- ---- by name

pub command-is :
    (conv : Conv) (x : Context) (f : Forest) (c : Carry) (name : List ℕ) (k : Command) → name ≡ drop 1 (cmd_name f) → command_of name ≡ k
    → command conv x f c ≡ command_by k name conv x f c
command-is conv x f c name k h e =
    ap (λ (s : List ℕ). command_by (command_of s) s conv x f c) (sym h) ∙ ap (λ (j : Command). command_by j name conv x f c) e

-- ---- by rule

pub normal-absent :
    (o : Option Rule) (name : List ℕ) (conv : Conv) (x : Context) (f : Forest) (c : Carry) {found : Maybe Found} → rule_of name found ≡ o
    → found ≡ None → normal_by o name conv x f c ≡ refused 9 0
normal-absent o name conv x f c e h = ap (λ (p : Option Rule). normal_by p name conv x f c) (sym e ∙ ap (rule_of name) h)

pub normal-found :
    (o : Option Rule) (name : List ℕ) (conv : Conv) (x : Context) (f : Forest) (c : Carry) {found : Maybe Found} (r : Found) (w : List ℕ)
    → rule_of name found ≡ o → found ≡ Some r → w ≡ alias_or (alias_of r) name
    → normal_by o name conv x f c ≡ written_as r.class (typst_name x.mode name w) conv x f c
normal-found o name conv x f c r w e h i =
    ap (λ (p : Option Rule). normal_by p name conv x f c) (sym e ∙ ap (rule_of name) h)
    ∙ ap (λ (s : List ℕ). written_as r.class (typst_name x.mode name s) conv x f c) (sym i)

-- by how a command takes its arguments, in a stack or not
pub normal-written :
    (k : ℕ) (w : List ℕ) (conv : Conv) (x : Context) (f : Forest) (c : Carry) (how : Arguments) (b : Bool) → how ≡ arguments_of k x.mode w
    → b ≡ same w substack_name → written_as k w conv x f c ≡ after w (arguments_by how conv (cond b (in_env SubStack x) x) f c)
normal-written k w conv x f c how b h i =
    ap (λ (a : Arguments). after w (arguments_by a conv (stack_env w x) f c)) (sym h)
    ∙ ap (λ (y : Bool). after w (arguments_by how conv (cond y (in_env SubStack x) x) f c)) (sym i)

-- in the place that the code has: a stack is not further in
pub stacked :
    (x : Context) (b : Bool) {v : LaTeXEnv} → v ≡ stack_in x.env b
    → cond b (in_env SubStack x) x ≡ record { rules = x.rules; mode = x.mode; env = v; indent = x.indent }
stacked x true e = λ i. record { rules = x.rules; mode = x.mode; env = sym e i; indent = add-zero x.indent i }
stacked x false e = λ i. record { rules = x.rules; mode = x.mode; env = sym e i; indent = x.indent }

-- ---- colours

pub color-head :
    {o p : Option Rule} {s t : List ℕ} → o ≡ p → t ≡ s
    → color_alias o ++ (left_paren ++ (s ++ left_bracket)) ≡ color_alias p ++ (left_paren ++ (t ++ left_bracket))
color-head {o} {p} {s} {t} e h =
    ap (λ (q : Option Rule). color_alias q ++ (left_paren ++ (s ++ left_bracket))) e
    ∙ ap (λ (r : List ℕ). color_alias p ++ (left_paren ++ (r ++ left_bracket))) (sym h)

pub body-number : (m : LaTeXMode) → number_of (body_loop m) ≡ 0
body-number Text = refl
body-number Math = refl

pub arguments-number : (m : LaTeXMode) → number_of (arguments_loop m) ≡ 0
arguments-number Text = refl
arguments-number Math = refl

pub colors-how :
    {rules index rows text : List ℕ} {row : ℕ} (c : Converter) {at : ℕ} {out : List ℕ} {a : Walked} {out' : List ℕ} (name : List ℕ) (p : ColorModel)
    {l l' : Loop} → l ≡ l' → Colors rules index rows text row c at out a out' name p l → Colors rules index rows text row c at out a out' name p l'
colors-how {rules} {index} {rows} {text} {row} c {at} {out} {a} {out'} name p e m =
    subst (Colors rules index rows text row c at out a out' name p) e m
