-- Commands, by their name without the backslash: `\item`, `\label`, `\includegraphics`, `\array`, the colours, and all others by
-- their rule.
use Rattle.std.specs.Prelude.{Bool, cond, List, [], ◌++◌, ℕ, ◌+◌, ◌-◌, length, drop, eqb, leb}
use Rattle.std.proofs.Math.Option.{Option}
use Rattle.std.proofs.Math.Option.Option.{none as nothing, some}
use Rattle.text.specs.Compare.{same, starts_with}
use Rattle.text.specs.Writing.{spaces}
use Rattle.utf8.specs.Trim.{trim}
use Rattle.mitex_spec.specs.Rules.{Rule, get_cmd, written_name}
use Rattle.mitex_syntax.specs.Syntax.{ClauseArgument, ClauseCommandName}
use Rattle.mitex_syntax.specs.Tree.{Tree, Forest}
use Rattle.mitex_syntax.specs.Tree.Tree.{token, node}
use Rattle.mitex_syntax.specs.Views.{first_by, offset_by, is_other, cmd_name, first_of, offset_of, text_in, children_in, inner}
use Rattle.mitex_meaning.specs.Outcome.{Context, Carry, Outcome, Arm, after, closing, shift, in_mode, in_env, labelled, label_most}
use Rattle.mitex_meaning.specs.Outcome.Label.{held}
use Rattle.mitex_meaning.specs.Outcome.Outcome.{refused, done}
use Rattle.mitex_meaning.specs.Texts.{left_paren, right_paren, hash, space, semicolon, line_feed, itemize_mark, enumerate_mark, strong}
use Rattle.mitex_meaning.specs.Texts.{emph, label_mark, item_name, label_name, image_name, array_name, color_name, textcolor_name}
use Rattle.mitex_meaning.specs.Texts.{colorbox_name, textbf_name, textit_name, substack_name}
use Rattle.mitex_meaning.specs.Children.{each}
use Rattle.mitex_meaning.specs.Images.{image}
use Rattle.mitex_meaning.specs.Colors.{with_model, greedy_model, argument_model, color_alias, body_loop, arguments_loop}
use Rattle.mitex_meaning.specs.declared.LaTeXMode.{LaTeXMode}
use Rattle.mitex_meaning.specs.declared.LaTeXMode.TheVariants.{Text, Math}
use Rattle.mitex_meaning.specs.declared.LaTeXEnv.{LaTeXEnv}
use Rattle.mitex_meaning.specs.declared.LaTeXEnv.TheVariants.{None, Figure, Table, Itemize, Enumerate, Matrix, Cases, SubStack, MathCurlyGroup}
use Rattle.mitex_meaning.specs.declared.LaTeXEnv.TheVariants.{Math as MathEnv}
use Rattle.mitex_meaning.specs.declared.Loop.TheVariants.{Greedy, Separated, Bracketed}
use Rattle.mitex_meaning.specs.declared.Command.{Command}
use Rattle.mitex_meaning.specs.declared.Command.TheVariants.{Item, Label, IncludeGraphics, Array, Color, ColorArguments, Normal}
use Rattle.mitex_meaning.specs.declared.Arguments.{Arguments}
use Rattle.mitex_meaning.specs.declared.Arguments.TheVariants.{NoArguments, GreedyArgument, MathArguments, TextArguments}

-- ---- `\item`

abbrev pub item_text : ℕ → List ℕ → List ℕ
item_text indent mark = line_feed ++ (spaces (indent - 2) ++ mark)

abbrev pub item_in : LaTeXEnv → ℕ → Carry → Outcome
item_in None n c = refused 11 0
item_in Figure n c = refused 11 0
item_in Table n c = refused 11 0
item_in Itemize n c = done c (item_text n itemize_mark)
item_in Enumerate n c = done c (item_text n enumerate_mark)
item_in MathEnv n c = refused 11 0
item_in Matrix n c = refused 11 0
item_in Cases n c = refused 11 0
item_in SubStack n c = refused 11 0
item_in MathCurlyGroup n c = refused 11 0

-- ---- `\label`

-- written at once in Text, and nothing in Math
abbrev pub label_now : LaTeXMode → List ℕ → Carry → Outcome
label_now Text s c = done c (label_mark s)
label_now Math s c = done c []

-- replaces the held label
abbrev pub label_held : List ℕ → Carry → Outcome
label_held s c = cond (leb (length s) label_most) (done (labelled (held s) c) []) (refused 14 0)

abbrev pub label_in : LaTeXEnv → LaTeXMode → List ℕ → Carry → Outcome
label_in None m s c = label_now m s c
label_in Figure m s c = label_held s c
label_in Table m s c = label_held s c
label_in Itemize m s c = label_now m s c
label_in Enumerate m s c = label_now m s c
label_in MathEnv m s c = label_held s c
label_in Matrix m s c = label_held s c
label_in Cases m s c = label_held s c
label_in SubStack m s c = label_held s c
label_in MathCurlyGroup m s c = label_held s c

-- the first argument's text without its ends, trimmed
abbrev pub label_text : Forest → List ℕ
label_text f = trim (inner (text_in (first_of ClauseArgument f)))

-- ---- colours

-- `\color` looks into its first argument
abbrev pub color : List ℕ → Arm
color name conv x f c =
    with_model conv x (color_alias (get_cmd x.rules name)) (body_loop x.mode)
    (greedy_model (2 + offset_of ClauseArgument f) (children_in (first_of ClauseArgument f))) c

-- `\textcolor` and `\colorbox` look at their arguments
abbrev pub color_arguments : List ℕ → Arm
color_arguments name conv x f c =
    with_model conv x (color_alias (get_cmd x.rules name)) (arguments_loop x.mode) (argument_model 1 f) c

-- ---- all others

-- as an ItemCmd in Text `textbf` and `textit` become `#strong` and `#emph`
abbrev pub typst_name : LaTeXMode → List ℕ → List ℕ → List ℕ
typst_name Text name written =
    cond (same name textbf_name) strong (cond (same name textit_name) emph written)
typst_name Math name written = written

-- class 1: the first child that is no command name must be a node; its children are converted, not itself
abbrev pub greedy_in : (Tree → Carry → Outcome) → ℕ → Option Tree → Carry → Outcome
greedy_in conv o nothing c = refused 12 0
greedy_in conv o (some (token k s)) c = refused 12 0
greedy_in conv o (some (node k g)) c = after left_paren (closing right_paren (shift o (each conv 1 Greedy g c)))

abbrev pub is_argument : Tree → Bool
is_argument t = is_other ClauseCommandName t

abbrev pub greedy_argument : Arm
greedy_argument conv x f c = greedy_in (conv x) (1 + offset_by is_argument f) (first_by is_argument f) c

-- class 2 in Math: as a function
abbrev pub math_arguments : Arm
math_arguments conv x f c = after left_paren (closing right_paren (each (conv x) 1 Separated f c))

-- class 2 otherwise: each argument as content, in Text
abbrev pub text_arguments : Arm
text_arguments conv x f c = closing semicolon (each (conv (in_mode Text x)) 1 Bracketed f c)

-- by class, mode and written name: class 0 has no arguments, class 1 a Greedy one; a name that begins with `#` takes content in Math too
abbrev pub other_arguments : LaTeXMode → List ℕ → Arguments
other_arguments Text w = TextArguments
other_arguments Math w = cond (starts_with w hash) TextArguments MathArguments

abbrev pub arguments_of : ℕ → LaTeXMode → List ℕ → Arguments
arguments_of k m w = cond (eqb k 0) NoArguments (cond (eqb k 1) GreedyArgument (other_arguments m w))

abbrev pub arguments_by : Arguments → Arm
arguments_by NoArguments conv x f c = done c space
arguments_by GreedyArgument conv x f c = greedy_argument conv x f c
arguments_by MathArguments conv x f c = math_arguments conv x f c
arguments_by TextArguments conv x f c = text_arguments conv x f c

-- `\substack{abc \\ bcd}` goes by the written name
abbrev pub stack_env : List ℕ → Context → Context
stack_env w x = cond (same w substack_name) (in_env SubStack x) x

abbrev pub written_as : ℕ → List ℕ → Arm
written_as k w conv x f c = after w (arguments_by (arguments_of k x.mode w) conv (stack_env w x) f c)

abbrev pub normal_by : Option Rule → List ℕ → Arm
normal_by nothing name conv x f c = refused 9 0
normal_by (some r) name conv x f c = written_as r.class (typst_name x.mode name (written_name r name)) conv x f c

abbrev pub normal_command : List ℕ → Arm
normal_command name conv x f c = normal_by (get_cmd x.rules name) name conv x f c

-- ---- by name

abbrev pub command_of : List ℕ → Command
command_of name =
    cond (same name item_name) Item
    (cond (same name label_name) Label
    (cond (same name image_name) IncludeGraphics
    (cond (same name array_name) Array
    (cond (same name color_name) Color
    (cond (same name textcolor_name) ColorArguments
    (cond (same name colorbox_name) ColorArguments
    Normal))))))

abbrev pub command_by : Command → List ℕ → Arm
command_by Item name conv x f c = item_in x.env x.indent c
command_by Label name conv x f c = label_in x.env x.mode (label_text f) c
command_by IncludeGraphics name conv x f c = done c (image f)
command_by Array name conv x f c = done c []
command_by Color name conv x f c = color name conv x f c
command_by ColorArguments name conv x f c = color_arguments name conv x f c
command_by Normal name conv x f c = normal_command name conv x f c

abbrev pub command_named : List ℕ → Arm
command_named name conv x f c = command_by (command_of name) name conv x f c

abbrev pub command : Arm
command conv x f c = command_named (drop 1 (cmd_name f)) conv x f c
