-- Groups: children alone, formulas, curly groups, `\left` and `\right`, attachments.
use Rattle.std.specs.Prelude.{true, cond, List, [], ℕ, ◌+◌, drop}
use Rattle.text.specs.Compare.{same}
use Rattle.mitex_syntax.specs.Tree.{size, text_of}
use Rattle.mitex_syntax.specs.Tree.Forest.{none, more}
use Rattle.mitex_syntax.specs.Views.{is_valid, is_inline}
use Rattle.mitex_meaning.specs.Outcome.{Arm, after, closing, in_mode, in_env}
use Rattle.mitex_meaning.specs.Outcome.Outcome.{refused, done}
use Rattle.mitex_meaning.specs.Texts.{right_paren, formula_begin, formula_end, lr_open, left_name, right_name}
use Rattle.mitex_meaning.specs.Children.{each}
use Rattle.mitex_meaning.specs.declared.LaTeXMode.{LaTeXMode}
use Rattle.mitex_meaning.specs.declared.LaTeXMode.TheVariants.{Text, Math}
use Rattle.mitex_meaning.specs.declared.LaTeXEnv.{LaTeXEnv}
use Rattle.mitex_meaning.specs.declared.LaTeXEnv.TheVariants.{None, Figure, Table, Itemize, Enumerate, Matrix, Cases, SubStack, MathCurlyGroup}
use Rattle.mitex_meaning.specs.declared.LaTeXEnv.TheVariants.{Math as MathEnv}
use Rattle.mitex_meaning.specs.declared.Loop.{Loop}
use Rattle.mitex_meaning.specs.declared.Loop.TheVariants.{Plain, Curly, Spaced, Attached}
use Rattle.mitex_meaning.specs.declared.Attach.TheVariants.{Bare}

-- ItemLR, ClauseArgument, ScopeRoot, ItemText, ItemBracket, ItemParen: each child
abbrev pub children : Arm
children conv x f c = each (conv x) 1 Plain f c

-- a formula like `$x$` or `$$x$$`; its ends are its first and its last token
abbrev pub formula : Arm
formula conv x f c =
    cond (is_valid f)
    (after (formula_begin x.mode (is_inline f))
    (closing (formula_end x.mode (is_inline f)) (each (conv (in_mode Math x)) 1 Plain f c)))
    (refused 8 0)

-- the environment in a curly group in Math: one of its own, but for `\substack{abc \\ bcd}`
abbrev pub group_env : LaTeXEnv → LaTeXEnv
group_env None = MathCurlyGroup
group_env Figure = MathCurlyGroup
group_env Table = MathCurlyGroup
group_env Itemize = MathCurlyGroup
group_env Enumerate = MathCurlyGroup
group_env MathEnv = MathCurlyGroup
group_env Matrix = MathCurlyGroup
group_env Cases = MathCurlyGroup
group_env SubStack = SubStack
group_env MathCurlyGroup = MathCurlyGroup

-- a curly group like `{abc}`; only in Math a blank one is marked
abbrev pub curly_in : LaTeXMode → Arm
curly_in Text conv x f c = each (conv x) 1 Plain f c
curly_in Math conv x f c = each (conv (in_env (group_env x.env) x)) 1 (Curly true) f c

abbrev pub curly_group : Arm
curly_group conv x f c = curly_in x.mode conv x f c

abbrev pub lr_begin : List ℕ → List ℕ
lr_begin name = cond (same name left_name) lr_open []

abbrev pub lr_end : List ℕ → List ℕ
lr_end name = cond (same name right_name) right_paren []

-- `\left` and `\right`: the first child is the name
unfoldable pub clause_lr : Arm
clause_lr conv x none c = done c []
clause_lr conv x (more t f) c =
    after (lr_begin (drop 1 (text_of t))) (closing (lr_end (drop 1 (text_of t))) (each (conv x) (1 + size t) Spaced f c))

abbrev pub attach_loop : LaTeXMode → Loop
attach_loop Text = Plain
attach_loop Math = Attached Bare

-- an attachment like `x_1^2`
abbrev pub attach_component : Arm
attach_component conv x f c = each (conv x) 1 (attach_loop x.mode) f c
