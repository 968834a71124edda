-- What every conversion keeps: one law for each way to compose outcomes, one for each arm over any meaning of the level below,
-- then one induction on the levels.
use mathlib.Core.Path.{◌≡◌, refl, subst}
use mathlib.Core.Bool.{Bool, true, false, ◌||◌, cond}
use mathlib.Core.Option.{Option}
use mathlib.Core.Option.Option.{none as nothing, some}
use mathlib.Core.List.{List, ◌++◌}
use Prim.Native.Nat.{ℕ, zero, suc, ◌+◌}
use native.Mathlib.Omega.{arith}
use borrow.Author.Tests.{leb-true}
use lib.ListN.{length, drop}
use lib.Dec.{T, eqb, leb}
use Rattle.utf8.specs.Trim.{trim}
use Rattle.mitex_spec.specs.Rules.{Rule, get_cmd, get_env, written_name}
use Rattle.mitex_syntax.specs.Syntax.{TokenError, ClauseArgument, ClauseCommandName, TokenWhiteSpace, TokenLineBreak, TokenCommandSym}
use Rattle.mitex_syntax.specs.Tree.{Tree, Forest, size, kind_of, text_of}
use Rattle.mitex_syntax.specs.Tree.Tree.{token, node}
use Rattle.mitex_syntax.specs.Tree.Forest.{none, more}
use Rattle.mitex_syntax.specs.Views.{cmd_name, first_of, offset_of, children_in, env_name, begin_of, inner, is_valid, first_by, good_ends}
use Rattle.mitex_meaning.specs.Outcome.{Context, Carry, Outcome, Conv, Arm, after, and_then, closing, shift, flagged, labelled, label_most}
use Rattle.mitex_meaning.specs.Outcome.Label.{unheld}
use Rattle.mitex_meaning.specs.Outcome.Outcome.{refused, done}
use Rattle.mitex_meaning.specs.Tokens.{white_space, symbol_by, token_out}
use Rattle.mitex_meaning.specs.Children.{act_of, next_loop, before, behind, converts, turn, each}
use Rattle.mitex_meaning.specs.Groups.{children, formula, curly_in, curly_group, clause_lr, attach_component}
use Rattle.mitex_meaning.specs.Colors.{Model, greedy_model, argument_model, colored, with_model, color_alias, body_loop, arguments_loop}
use Rattle.mitex_meaning.specs.Commands.{item_in, label_now, label_held, label_in, typst_name, is_argument, greedy_in, arguments_of, arguments_by, stack_env, written_as, normal_by, command_of, command_by}
use Rattle.mitex_meaning.specs.Tables.{letters_fit, table_head}
use Rattle.mitex_meaning.specs.Texts.{left_paren, color_end, body_begin, caption_begin, hash}
use Rattle.mitex_meaning.specs.Environments.{Caption, absent, bare, caption, last_caption, math_env, captioned, table_by, take_label, env_of, plain_env, env_body, is_list, env_by}
use Rattle.mitex_meaning.specs.Conversion.{element_of, arm_by, step, convert}
use Rattle.mitex_meaning.specs.Keeping.{Short, is_walk_number, KeptOutcome, Keeps}
use Rattle.mitex_meaning.specs.Keeping.KeptOutcome.{kept_refused, kept_done}
use Rattle.mitex_meaning.specs.declared.LaTeXMode.{LaTeXMode}
use Rattle.mitex_meaning.specs.declared.LaTeXMode.TheVariants.{Text, Math}
use Rattle.mitex_meaning.specs.declared.LaTeXEnv.{LaTeXEnv}
use Rattle.mitex_meaning.specs.declared.LaTeXEnv.TheVariants.{None, Itemize, Enumerate, Matrix, Cases, SubStack, MathCurlyGroup}
use Rattle.mitex_meaning.specs.declared.LaTeXEnv.TheVariants.{Math as MathEnv, Figure as FigureEnv, Table as TableEnv}
use Rattle.mitex_meaning.specs.declared.Loop.{Loop}
use Rattle.mitex_meaning.specs.declared.Act.{Act}
use Rattle.mitex_meaning.specs.declared.Command.{Command}
use Rattle.mitex_meaning.specs.declared.Command.TheVariants.{Item, Label, IncludeGraphics, Array, Color, ColorArguments, Normal}
use Rattle.mitex_meaning.specs.declared.Arguments.{Arguments}
use Rattle.mitex_meaning.specs.declared.Arguments.TheVariants.{NoArguments, GreedyArgument, MathArguments, TextArguments}
use Rattle.mitex_meaning.specs.declared.Element.{Element}
use Rattle.mitex_meaning.specs.declared.Element.TheVariants.{Children, Formula, CurlyGroup, ClauseLr, AttachComponent, Silent, Environment, TypstCode, Unexpected, Token}
use Rattle.mitex_meaning.specs.declared.Element.TheVariants.{Command as ACommand}

-- ---- how outcomes compose

kept-after : {S : Type 0} (w : List ℕ) {p : Outcome} → KeptOutcome S p → KeptOutcome S (after w p)
kept-after w (kept_refused t) = kept_refused t
kept-after w (kept_done h) = kept_done h

kept-closing : {S : Type 0} (w : List ℕ) {p : Outcome} → KeptOutcome S p → KeptOutcome S (closing w p)
kept-closing w (kept_refused t) = kept_refused t
kept-closing w (kept_done h) = kept_done h

kept-shift : {S : Type 0} (o : ℕ) {p : Outcome} → KeptOutcome S p → KeptOutcome S (shift o p)
kept-shift o (kept_refused t) = kept_refused t
kept-shift o (kept_done h) = kept_done h

kept_from : {S S' : Type 0} {p : Outcome} → (S → S') → KeptOutcome S' p → KeptOutcome S p
kept_from g (kept_refused t) = kept_refused t
kept_from g (kept_done h) = kept_done (λ s. h (g s))

kept-and_then : {S : Type 0} {p : Outcome} (k : Carry → Outcome) → KeptOutcome S p → Keeps k → KeptOutcome S (and_then p k)
kept-and_then k (kept_refused t) g = kept_refused t
kept-and_then k (kept_done {c} {w} h) g = kept-after w (kept_from h (g c))

kept-cond : {S : Type 0} (b : Bool) {p q : Outcome} → (b ≡ true → KeptOutcome S p) → KeptOutcome S q → KeptOutcome S (cond b p q)
kept-cond true h g = h refl
kept-cond false h g = g

-- a text before and one after
kept-between : {S : Type 0} (w v : List ℕ) {p : Outcome} → KeptOutcome S p → KeptOutcome S (after w (closing v p))
kept-between w v h = kept-after w (kept-closing v h)

-- ---- loops

module _ (conv : Tree → Carry → Outcome) (keeps : (t : Tree) → Keeps (conv t)) where
  keeps-turn : (a : Act) (t : Tree) → Keeps (turn conv a t)
  unfolding turn
  keeps-turn a t c =
      kept-between (before a (text_of t)) (behind a) (kept-cond (converts a) (λ e. keeps t c) (kept_done (λ s. s)))

  keeps-each : (o : ℕ) (l : Loop) (f : Forest) → Keeps (each conv o l f)
  unfolding each
  keeps-each o l none c = kept_done (λ s. s)
  keeps-each o l (more t f) c =
      kept-and_then (each conv (o + size t) (next_loop l (kind_of t) (act_of l t f)) f) (kept-shift o (keeps-turn (act_of l t f) t c))
      (keeps-each (o + size t) (next_loop l (kind_of t) (act_of l t f)) f)

  keeps-greedy : (o : ℕ) (t : Option Tree) → Keeps (greedy_in conv o t)
  keeps-greedy o nothing c = kept_refused tt
  keeps-greedy o (some (token k s)) c = kept_refused tt
  keeps-greedy o (some (node k g)) c = kept-between left_paren _ (kept-shift o (keeps-each 1 _ g c))

-- ---- tokens

keeps-white-space : (b : Bool) (s : List ℕ) → Keeps (white_space b s)
keeps-white-space true s c = kept_done (λ h. h)
keeps-white-space false s c = kept_done (λ h. h)

keeps-symbol : (name : List ℕ) (r : Option Rule) → Keeps (symbol_by name r)
keeps-symbol name nothing c = kept_refused tt
keeps-symbol name (some r) c = kept_done (λ h. h)

keeps-token : (x : Context) (k : ℕ) (s : List ℕ) → Keeps (token_out x k s)
unfolding token_out
keeps-token x k s c =
    kept-cond (eqb k TokenWhiteSpace) (λ e. keeps-white-space c.flag s c)
    (kept-cond (eqb k TokenLineBreak) (λ e. kept_done (λ h. h))
    (kept-cond (eqb k TokenError || eqb k ClauseCommandName) (λ e. kept_refused tt)
    (kept-cond (eqb k TokenCommandSym) (λ e. keeps-symbol (drop 1 s) (get_cmd x.rules (drop 1 s)) (flagged false c)) (kept_done (λ h. h)))))

-- ---- the arms, over any meaning of the level below

abbrev KeepsConv : Conv → Type 0
KeepsConv conv = (x : Context) (t : Tree) → Keeps (conv x t)

abbrev KeepsArm : Arm → Type 0
KeepsArm arm = (conv : Conv) → KeepsConv conv → (x : Context) (f : Forest) → Keeps (arm conv x f)

keeps-children : KeepsArm children
keeps-children conv h x f = keeps-each (conv x) (h x) 1 _ f

keeps-formula : KeepsArm formula
keeps-formula conv h x f c = kept-cond (is_valid f) (λ e. kept-between _ _ (keeps-each (conv _) (h _) 1 _ f c)) (kept_refused tt)

keeps-curly-in : (m : LaTeXMode) → KeepsArm (curly_in m)
keeps-curly-in Text conv h x f = keeps-each (conv _) (h _) 1 _ f
keeps-curly-in Math conv h x f = keeps-each (conv _) (h _) 1 _ f

keeps-curly : KeepsArm curly_group
keeps-curly conv h x f = keeps-curly-in x.mode conv h x f

keeps-lr : KeepsArm clause_lr
unfolding clause_lr
keeps-lr conv h x none c = kept_done (λ s. s)
keeps-lr conv h x (more t f) c = kept-between _ _ (keeps-each (conv x) (h x) (1 + size t) _ f c)

keeps-attach : KeepsArm attach_component
keeps-attach conv h x f = keeps-each (conv x) (h x) 1 _ f

-- ---- commands

keeps-item : (e : LaTeXEnv) (n : ℕ) → Keeps (item_in e n)
keeps-item None n c = kept_refused tt
keeps-item FigureEnv n c = kept_refused tt
keeps-item TableEnv n c = kept_refused tt
keeps-item Itemize n c = kept_done (λ s. s)
keeps-item Enumerate n c = kept_done (λ s. s)
keeps-item MathEnv n c = kept_refused tt
keeps-item Matrix n c = kept_refused tt
keeps-item Cases n c = kept_refused tt
keeps-item SubStack n c = kept_refused tt
keeps-item MathCurlyGroup n c = kept_refused tt

keeps-now : (m : LaTeXMode) (s : List ℕ) → Keeps (label_now m s)
keeps-now Text s c = kept_done (λ h. h)
keeps-now Math s c = kept_done (λ h. h)

-- only here a label comes in, and it is measured
keeps-held : (s : List ℕ) → Keeps (label_held s)
keeps-held s c = kept-cond (leb (length s) label_most) (λ e. kept_done (λ h. leb-true (length s) label_most e)) (kept_refused tt)

keeps-label : (e : LaTeXEnv) (m : LaTeXMode) (s : List ℕ) → Keeps (label_in e m s)
keeps-label None m s = keeps-now m s
keeps-label FigureEnv m s = keeps-held s
keeps-label TableEnv m s = keeps-held s
keeps-label Itemize m s = keeps-now m s
keeps-label Enumerate m s = keeps-now m s
keeps-label MathEnv m s = keeps-held s
keeps-label Matrix m s = keeps-held s
keeps-label Cases m s = keeps-held s
keeps-label SubStack m s = keeps-held s
keeps-label MathCurlyGroup m s = keeps-held s

module _ (conv : Conv) (h : KeepsConv conv) (x : Context) where
  keeps-colored : (l : Loop) (o : ℕ) (f : Forest) → Keeps (colored conv x l o f)
  keeps-colored l o none c = kept_done (λ s. s)
  keeps-colored l o (more t f) c =
      kept-and_then _ (kept-shift o (h _ t c)) (λ c'. kept-between color_end _ (keeps-each (conv x) (h x) (o + size t) l f c'))

  keeps-model : (name : List ℕ) (l : Loop) (m : Model) → Keeps (with_model conv x name l m)
  keeps-model name l m c = kept-after _ (keeps-colored l m.behind.rows m.behind.elements c)

  keeps-arguments : (a : Arguments) (f : Forest) → Keeps (arguments_by a conv x f)
  keeps-arguments NoArguments f c = kept_done (λ s. s)
  keeps-arguments GreedyArgument f c = keeps-greedy (conv x) (h x) _ (first_by is_argument f) c
  keeps-arguments MathArguments f c = kept-between left_paren _ (keeps-each (conv x) (h x) 1 _ f c)
  keeps-arguments TextArguments f c = kept-closing _ (keeps-each (conv _) (h _) 1 _ f c)

keeps-written : (k : ℕ) (w : List ℕ) → KeepsArm (written_as k w)
keeps-written k w conv h x f c = kept-after w (keeps-arguments conv h (stack_env w x) (arguments_of k x.mode w) f c)

keeps-normal : (r : Option Rule) (name : List ℕ) → KeepsArm (normal_by r name)
keeps-normal nothing name conv h x f c = kept_refused tt
keeps-normal (some r) name conv h x f c =
    keeps-written r.class (typst_name x.mode name (written_name r name)) conv h x f c

keeps-command : (k : Command) (name : List ℕ) → KeepsArm (command_by k name)
keeps-command Item name conv h x f c = keeps-item x.env x.indent c
keeps-command Label name conv h x f c = keeps-label x.env x.mode _ c
keeps-command IncludeGraphics name conv h x f c = kept_done (λ s. s)
keeps-command Array name conv h x f c = kept_done (λ s. s)
keeps-command Color name conv h x f c =
    keeps-model conv h x (color_alias (get_cmd x.rules name)) (body_loop x.mode)
    (greedy_model (2 + offset_of ClauseArgument f) (children_in (first_of ClauseArgument f))) c
keeps-command ColorArguments name conv h x f c =
    keeps-model conv h x (color_alias (get_cmd x.rules name)) (arguments_loop x.mode) (argument_model 1 f) c
keeps-command Normal name conv h x f c = keeps-normal (get_cmd x.rules name) name conv h x f c

-- ---- environments

keeps-take : {S : Type 0} (list : Bool) (m : LaTeXMode) {p : Outcome} → KeptOutcome S p → KeptOutcome S (take_label list m p)
keeps-take list m (kept_refused t) = kept_refused t
keeps-take true m (kept_done {c} h) = kept_done {c = c} h
keeps-take false Text (kept_done {c} h) = kept_done {c = labelled unheld c} (λ s. omega arith)
keeps-take false Math (kept_done {c} h) = kept_done {c = c} h

module _ (conv : Conv) (h : KeepsConv conv) (x : Context) (f : Forest) where
  keeps-math : (e : LaTeXEnv) (w : List ℕ) → Keeps (math_env e w conv x f)
  keeps-math e w c =
      kept-between _ _
      (kept-and_then _ (kept-shift _ (keeps-each (conv _) (h _) 1 _ (begin_of f) c)) (λ c'. keeps-each (conv _) (h _) 1 _ f c'))

  keeps-figure : (t : Caption) → Keeps (captioned t conv x f)
  keeps-figure absent c = kept-between body_begin _ (keeps-each (conv x) (h x) 1 _ f c)
  keeps-figure (bare o) c = kept_refused tt
  keeps-figure (caption o t) c =
      kept-after caption_begin
      (kept-and_then _ (kept-closing _ (kept-shift o (h x t c))) (λ c'. kept-between body_begin _ (keeps-each (conv x) (h x) 1 _ f c')))

  keeps-table : (w : List ℕ) (t : Option Tree) → Keeps (table_by w t conv x f)
  keeps-table w nothing c = kept_refused tt
  keeps-table w (some t) c =
      kept-cond (good_ends (text_of t))
      (λ e. kept-cond (letters_fit (trim (inner (text_of t)))) (λ e'. kept-after (hash ++ (w ++ (left_paren ++ table_head (trim (inner (text_of t)))))) (keeps-each (conv _) (h _) 1 _ f c)) (kept_refused tt))
      (kept_refused tt)

keeps-plain : (e : LaTeXEnv) (w : List ℕ) → KeepsArm (plain_env e w)
keeps-plain e w conv h x f c = kept-between _ _ (keeps-each (conv _) (h _) 1 _ f c)

keeps-body : (e : LaTeXEnv) (w : List ℕ) → KeepsArm (env_body e w)
keeps-body None w conv h x f c = keeps-plain None w conv h x f c
keeps-body FigureEnv w conv h x f c = kept-after (hash ++ (w ++ left_paren)) (keeps-figure conv h _ f (last_caption 1 f) c)
keeps-body TableEnv w conv h x f c = keeps-table conv h x f w (first_of ClauseArgument (begin_of f)) c
keeps-body Itemize w conv h x f c = keeps-plain Itemize w conv h x f c
keeps-body Enumerate w conv h x f c = keeps-plain Enumerate w conv h x f c
keeps-body MathEnv w conv h x f c = keeps-math conv h x f _ w c
keeps-body Matrix w conv h x f c = keeps-math conv h x f _ w c
keeps-body Cases w conv h x f c = keeps-math conv h x f _ w c
keeps-body SubStack w conv h x f c = keeps-math conv h x f _ w c
keeps-body MathCurlyGroup w conv h x f c = keeps-math conv h x f _ w c

keeps-env : (r : Option Rule) (name : List ℕ) → KeepsArm (env_by r name)
keeps-env nothing name conv h x f c = kept_refused tt
keeps-env (some r) name conv h x f c =
    keeps-take (is_list (env_of r.class)) x.mode (keeps-body (env_of r.class) (written_name r name) conv h x f c)

-- ---- every kind of node

keeps-arm : (e : Element) → KeepsArm (arm_by e)
keeps-arm Unexpected conv h x f c = kept_refused tt
keeps-arm Children conv h x f c = keeps-children conv h x f c
keeps-arm Formula conv h x f c = keeps-formula conv h x f c
keeps-arm CurlyGroup conv h x f c = keeps-curly conv h x f c
keeps-arm ClauseLr conv h x f c = keeps-lr conv h x f c
keeps-arm AttachComponent conv h x f c = keeps-attach conv h x f c
keeps-arm Silent conv h x f c = kept_done (λ s. s)
keeps-arm ACommand conv h x f c = keeps-command (command_of (drop 1 (cmd_name f))) (drop 1 (cmd_name f)) conv h x f c
keeps-arm Environment conv h x f c = keeps-env (get_env x.rules (trim (env_name f))) (trim (env_name f)) conv h x f c
keeps-arm TypstCode conv h x f c = kept_done (λ s. s)
keeps-arm Token conv h x f c = kept_refused tt

-- ---- every level

of-done : {S : Type 0} {c : Carry} {w : List ℕ} → KeptOutcome S (done c w) → S → Short c
of-done (kept_done h) = h

of-refused : {S : Type 0} {n r : ℕ} → KeptOutcome S (refused n r) → T (is_walk_number n)
of-refused (kept_refused t) = t

pub keeps : (d : ℕ) (x : Context) (t : Tree) → Keeps (convert d x t)
unfolding convert step
keeps zero x t c = kept_refused tt
keeps (suc d) x (token k s) c = keeps-token x k s c
keeps (suc d) x (node k f) c = keeps-arm (element_of k) (convert d) (keeps d) x f (flagged false c)

-- an accepted element leaves a label that can be held, if it began with one
pub keeps-short : (d : ℕ) (x : Context) (t : Tree) (c c' : Carry) (w : List ℕ) → convert d x t c ≡ done c' w → Short c → Short c'
keeps-short d x t c c' w e = of-done (subst (KeptOutcome (Short c)) e (keeps d x t c))

-- a refusal has one of the numbers 7 to 14
pub keeps-number : (d : ℕ) (x : Context) (t : Tree) (c : Carry) (n r : ℕ) → convert d x t c ≡ refused n r → T (is_walk_number n)
keeps-number d x t c n r e = of-refused (subst (KeptOutcome (Short c)) e (keeps d x t c))
