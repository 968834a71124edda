-- More levels change nothing: an element of n rows means the same at every level from n on. One law for each arm over two
-- meanings of the level below that agree on what is small enough, then one induction on the levels.
use mathlib.Core.Path.{◌≡◌, refl, ap, ◌∙◌}
use mathlib.Core.Bool.{Bool, false, cond}
use mathlib.Core.Option.{Option}
use mathlib.Core.Option.Option.{none as nothing, some}
use mathlib.Core.List.{List, [], ◌++◌}
use Prim.Native.Nat.{ℕ, zero, suc, ◌+◌, ◌≤◌}
use native.Mathlib.Omega.{arith}
use lib.ListN.{drop}
use Rattle.utf8.specs.Trim.{trim}
use Rattle.mitex_spec.specs.Rules.{Rule, get_cmd, get_env, written_name}
use Rattle.mitex_syntax.specs.Syntax.{ClauseArgument, ItemBegin}
use Rattle.mitex_syntax.specs.Tree.{Tree, Forest, size, sizes, kind_of, text_of}
use Rattle.mitex_syntax.specs.Tree.Tree.{token, node}
use Rattle.mitex_syntax.specs.Tree.Forest.{none, more}
use Rattle.mitex_syntax.specs.Views.{cmd_name, first_of, offset_of, children_in, env_name, begin_of, inner, is_valid, first_by, good_ends}
use Rattle.mitex_syntax.proofs.Trees.{size-some, size-node, size-more}
use Rattle.mitex_meaning.specs.Outcome.{Context, Carry, Outcome, Conv, Arm, after, and_then, closing, shift, in_mode, in_env, flagged}
use Rattle.mitex_meaning.specs.Outcome.Outcome.{refused, done}
use Rattle.mitex_meaning.specs.Children.{act_of, next_loop, before, behind, converts, turn, each}
use Rattle.mitex_meaning.specs.Groups.{group_env, curly_in, clause_lr}
use Rattle.mitex_meaning.specs.Colors.{Model, greedy_model, argument_model, colored, with_model, color_alias, body_loop, arguments_loop}
use Rattle.mitex_meaning.specs.Commands.{is_argument, greedy_in, typst_name, arguments_of, arguments_by, stack_env, normal_by, command_of, command_by}
use Rattle.mitex_meaning.specs.Tables.{letters_fit, table_head}
use Rattle.mitex_meaning.specs.Texts.{left_paren, color_end, body_begin, caption_begin, hash}
use Rattle.mitex_meaning.specs.Environments.{env_begin, Caption, absent, bare, caption, last_caption, math_env, captioned, table_by, is_list, take_label, env_of, env_body, env_by}
use Rattle.mitex_meaning.specs.Conversion.{element_of, arm_by, step, convert}
use Rattle.mitex_meaning.specs.declared.LaTeXMode.{LaTeXMode}
use Rattle.mitex_meaning.specs.declared.LaTeXMode.TheVariants.{Text, Math}
use Rattle.mitex_meaning.specs.declared.LaTeXEnv.{LaTeXEnv}
use Rattle.mitex_meaning.specs.declared.LaTeXEnv.TheVariants.{None, Itemize, Enumerate, Matrix, Cases, SubStack, MathCurlyGroup}
use Rattle.mitex_meaning.specs.declared.LaTeXEnv.TheVariants.{Math as MathEnv, Figure as FigureEnv, Table as TableEnv}
use Rattle.mitex_meaning.specs.declared.Loop.{Loop}
use Rattle.mitex_meaning.specs.declared.Loop.TheVariants.{Greedy}
use Rattle.mitex_meaning.specs.declared.Act.{Act}
use Rattle.mitex_meaning.specs.declared.Command.{Command}
use Rattle.mitex_meaning.specs.declared.Command.TheVariants.{Item, Label, IncludeGraphics, Array, Color, ColorArguments, Normal}
use Rattle.mitex_meaning.specs.declared.Arguments.{Arguments}
use Rattle.mitex_meaning.specs.declared.Arguments.TheVariants.{NoArguments, GreedyArgument, MathArguments, TextArguments}
use Rattle.mitex_meaning.specs.declared.Element.{Element}
use Rattle.mitex_meaning.specs.declared.Element.TheVariants.{Children, Formula, CurlyGroup, ClauseLr, AttachComponent, Silent, Environment, TypstCode, Unexpected, Token}
use Rattle.mitex_meaning.specs.declared.Element.TheVariants.{Command as ACommand}
use Rattle.mitex_meaning.proofs.Outcomes.{and_then-same}
use Rattle.mitex_meaning.proofs.Sizes.{Captions, captions-more, children_in-size, greedy_model-size, argument_model-size, last_caption-size, Small, small-more, first_by-size}

-- ---- two meanings of elements that agree up to n rows

abbrev Same : ℕ → (Tree → Carry → Outcome) → (Tree → Carry → Outcome) → Type 0
Same n p q = (t : Tree) (c : Carry) → size t ≤ n → p t c ≡ q t c

same_then : (p q : Outcome) (k l : Carry → Outcome) → p ≡ q → ((c : Carry) → k c ≡ l c) → and_then p k ≡ and_then q l
same_then p q k l e h = ap (λ (r : Outcome). and_then r k) e ∙ and_then-same q k l h

between : (w v : List ℕ) {p q : Outcome} → p ≡ q → after w (closing v p) ≡ after w (closing v q)
between w v e = ap (λ (r : Outcome). after w (closing v r)) e

if-holds : (b : Bool) {p q : Outcome} (r : Outcome) → p ≡ q → cond b p r ≡ cond b q r
if-holds b r e = ap (λ (o : Outcome). cond b o r) e

module _ (n : ℕ) (p q : Tree → Carry → Outcome) (agree : Same n p q) where
  same_turn : (a : Act) (t : Tree) (c : Carry) → size t ≤ n → turn p a t c ≡ turn q a t c
  unfolding turn
  same_turn a t c h = ap (λ (r : Outcome). after (before a (text_of t)) (closing (behind a) (cond (converts a) r (done c [])))) (agree t c h)

  pub same-each : (o : ℕ) (l : Loop) (f : Forest) (c : Carry) → sizes f ≤ n → each p o l f c ≡ each q o l f c
  unfolding each
  same-each o l none c h = refl
  same-each o l (more t f) c h =
      let e = size-more t f in
      same_then (shift o (turn p (act_of l t f) t c)) (shift o (turn q (act_of l t f) t c))
      (each p (o + size t) (next_loop l (kind_of t) (act_of l t f)) f) (each q (o + size t) (next_loop l (kind_of t) (act_of l t f)) f)
      (ap (shift o) (same_turn (act_of l t f) t c (omega arith)))
      (λ c'. same-each (o + size t) (next_loop l (kind_of t) (act_of l t f)) f c' (omega arith))

  same-greedy : (o : ℕ) (t : Option Tree) (c : Carry) → Small n t → greedy_in p o t c ≡ greedy_in q o t c
  same-greedy o nothing c h = refl
  same-greedy o (some (token k s)) c h = refl
  same-greedy o (some (node k g)) c h = between left_paren _ (ap (shift o) (same-each 1 Greedy g c (omega (arith, size-node k g))))

-- ---- the arms

module _ (n : ℕ) (conv conv' : Conv) (agree : (x : Context) → Same n (conv x) (conv' x)) where
  -- the loop over the children, in any context
  loops : (x : Context) (o : ℕ) (l : Loop) (f : Forest) (c : Carry) → sizes f ≤ n → each (conv x) o l f c ≡ each (conv' x) o l f c
  loops x = same-each n (conv x) (conv' x) (agree x)

  abbrev SameArm : Arm → Type 0
  SameArm arm = (x : Context) (f : Forest) (c : Carry) → sizes f ≤ n → arm conv x f c ≡ arm conv' x f c

  same-curly : (m : LaTeXMode) → SameArm (curly_in m)
  same-curly Text x f c h = loops x 1 _ f c h
  same-curly Math x f c h = loops (in_env (group_env x.env) x) 1 _ f c h

  same-lr : SameArm clause_lr
  unfolding clause_lr
  same-lr x none c h = refl
  same-lr x (more t f) c h = between _ _ (loops x _ _ f c (omega (arith, size-more t f)))

  -- ---- commands

  same-colored : (x : Context) (l : Loop) (o : ℕ) (f : Forest) (c : Carry) → sizes f ≤ n → colored conv x l o f c ≡ colored conv' x l o f c
  same-colored x l o none c h = refl
  same-colored x l o (more t f) c h =
      let e = size-more t f in
      same_then _ _ _ _ (ap (shift o) (agree (in_mode Text x) t c (omega arith)))
      (λ c'. between color_end _ (loops x (o + size t) l f c' (omega arith)))

  same-model :
      (x : Context) (name : List ℕ) (l : Loop) (m : Model) (c : Carry) → sizes m.behind.elements ≤ n
      → with_model conv x name l m c ≡ with_model conv' x name l m c
  same-model x name l m c h = ap (after _) (same-colored x l m.behind.rows m.behind.elements c h)

  same-arguments : (a : Arguments) → SameArm (arguments_by a)
  same-arguments NoArguments x f c h = refl
  same-arguments GreedyArgument x f c h =
      same-greedy n (conv x) (conv' x) (agree x) _ (first_by is_argument f) c (small-more (sizes f) (first_by is_argument f) h (first_by-size is_argument f))
  same-arguments MathArguments x f c h = between left_paren _ (loops x 1 _ f c h)
  same-arguments TextArguments x f c h = ap (closing _) (loops (in_mode Text x) 1 _ f c h)

  same-normal : (r : Option Rule) (name : List ℕ) → SameArm (normal_by r name)
  same-normal nothing name x f c h = refl
  same-normal (some r) name x f c h =
      let w = typst_name x.mode name (written_name r name) in
      ap (after w) (same-arguments (arguments_of r.class x.mode w) (stack_env w x) f c h)

  same-command : (k : Command) (name : List ℕ) → SameArm (command_by k name)
  same-command Item name x f c h = refl
  same-command Label name x f c h = refl
  same-command IncludeGraphics name x f c h = refl
  same-command Array name x f c h = refl
  same-command Color name x f c h =
      let g = children_in (first_of ClauseArgument f) in
      same-model x (color_alias (get_cmd x.rules name)) (body_loop x.mode) (greedy_model (2 + offset_of ClauseArgument f) g) c
      (omega (arith, children_in-size ClauseArgument f, greedy_model-size (2 + offset_of ClauseArgument f) g))
  same-command ColorArguments name x f c h =
      same-model x (color_alias (get_cmd x.rules name)) (arguments_loop x.mode) (argument_model 1 f) c (omega (arith, argument_model-size 1 f))
  same-command Normal name x f c h = same-normal (get_cmd x.rules name) name x f c h

  -- ---- environments

  same-math : (e : LaTeXEnv) (w : List ℕ) → SameArm (math_env e w)
  same-math e w x f c h =
      between _ _
      (same_then _ _ _ _ (ap (shift _) (loops (in_env e (in_mode Math x)) 1 _ (begin_of f) c (omega (arith, children_in-size ItemBegin f))))
      (λ c'. loops (in_env e (in_mode Math x)) 1 _ f c' h))

  same-figure : (t : Caption) → Captions n t → SameArm (captioned t)
  same-figure absent s x f c h = between body_begin _ (loops x 1 _ f c h)
  same-figure (bare o) s x f c h = refl
  same-figure (caption o t) s x f c h =
      ap (after caption_begin)
      (same_then _ _ _ _ (ap (closing _) (ap (shift o) (agree x t c s)))
      (λ c'. between body_begin _ (loops x 1 _ f c' h)))

  same-table : (w : List ℕ) (t : Option Tree) → SameArm (table_by w t)
  same-table w nothing x f c h = refl
  same-table w (some t) x f c h =
      if-holds (good_ends (text_of t)) (refused 12 0)
      (if-holds (letters_fit (trim (inner (text_of t)))) (refused 13 0) (ap (after (hash ++ (w ++ (left_paren ++ table_head (trim (inner (text_of t))))))) (loops (in_env TableEnv x) 1 _ f c h)))

  same_body : (e : LaTeXEnv) (w : List ℕ) → SameArm (env_body e w)
  same_body None w x f c h = between (env_begin None w) _ (loops (in_env None x) 1 _ f c h)
  same_body FigureEnv w x f c h =
      ap (after (hash ++ (w ++ left_paren)))
      (same-figure (last_caption 1 f) (captions-more (sizes f) (last_caption 1 f) h (last_caption-size 1 f)) (in_env FigureEnv x) f c h)
  same_body TableEnv w x f c h = same-table w (first_of ClauseArgument (begin_of f)) x f c h
  same_body Itemize w x f c h = between (env_begin Itemize w) _ (loops (in_env Itemize x) 1 _ f c h)
  same_body Enumerate w x f c h = between (env_begin Enumerate w) _ (loops (in_env Enumerate x) 1 _ f c h)
  same_body MathEnv w x f c h = same-math MathEnv w x f c h
  same_body Matrix w x f c h = same-math Matrix w x f c h
  same_body Cases w x f c h = same-math Cases w x f c h
  same_body SubStack w x f c h = same-math SubStack w x f c h
  same_body MathCurlyGroup w x f c h = same-math MathCurlyGroup w x f c h

  same-env : (r : Option Rule) (name : List ℕ) → SameArm (env_by r name)
  same-env nothing name x f c h = refl
  same-env (some r) name x f c h = ap (take_label (is_list (env_of r.class)) x.mode) (same_body (env_of r.class) (written_name r name) x f c h)

  same_arm : (e : Element) → SameArm (arm_by e)
  same_arm Unexpected x f c h = refl
  same_arm Children x f c h = loops x 1 _ f c h
  same_arm Formula x f c h =
      if-holds (is_valid f) (refused 8 0) (between _ _ (loops (in_mode Math x) 1 _ f c h))
  same_arm CurlyGroup x f c h = same-curly x.mode x f c h
  same_arm ClauseLr x f c h = same-lr x f c h
  same_arm AttachComponent x f c h = loops x 1 _ f c h
  same_arm Silent x f c h = refl
  same_arm ACommand x f c h = same-command (command_of (drop 1 (cmd_name f))) (drop 1 (cmd_name f)) x f c h
  same_arm Environment x f c h = same-env (get_env x.rules (trim (env_name f))) (trim (env_name f)) x f c h
  same_arm TypstCode x f c h = refl
  same_arm Token x f c h = refl

-- ---- every level

pub convert-level : (d e : ℕ) (x : Context) (t : Tree) (c : Carry) → size t ≤ d → size t ≤ e → convert d x t c ≡ convert e x t c
unfolding convert step
convert-level zero e x t c h g = absurd (omega (arith, size-some t))
convert-level (suc d) zero x t c h g = absurd (omega (arith, size-some t))
convert-level (suc d) (suc e) x (token k s) c h g = refl
convert-level (suc d) (suc e) x (node k f) c h g =
    same_arm (sizes f) (convert d) (convert e)
    (λ y u b w. convert-level d e y u b (omega (arith, size-node k f)) (omega (arith, size-node k f))) (element_of k) x f (flagged false c) (omega arith)
