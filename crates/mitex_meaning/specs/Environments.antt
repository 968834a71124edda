-- Environments: lists, environments for Math, normal ones, figures and tables.
use Rattle.std.specs.Prelude.{Bool, true, false, ◌&&◌, cond, List, [], ◌++◌, ℕ, ◌+◌, eqb}
use Rattle.std.proofs.Math.Option.{Option}
use Rattle.std.proofs.Math.Option.Option.{none as nothing, some}
use Rattle.text.specs.Compare.{same}
use Rattle.utf8.specs.Trim.{trim}
use Rattle.mitex_spec.specs.Rules.{Rule, get_env, written_name}
use Rattle.mitex_syntax.specs.Syntax.{ClauseArgument, ItemBegin, ItemCmd}
use Rattle.mitex_syntax.specs.Tree.{Tree, Forest, size, kind_of, text_of}
use Rattle.mitex_syntax.specs.Tree.Forest.{none, more}
use Rattle.mitex_syntax.specs.Views.{children_of, cmd_name, first_of, offset_of, env_name, begin_of, inner, good_ends}
use Rattle.mitex_meaning.specs.Outcome.{Context, Label, Carry, Outcome, Arm, after, and_then, closing, shift, in_mode, in_env, labelled}
use Rattle.mitex_meaning.specs.Outcome.Label.{unheld, held}
use Rattle.mitex_meaning.specs.Outcome.Outcome.{refused, done}
use Rattle.mitex_meaning.specs.Texts.{left_paren, right_paren, left_bracket, hash, body_begin, block_end}
use Rattle.mitex_meaning.specs.Texts.{dollar_begin, dollar_end, label_mark, caption_begin, caption_end, caption_name}
use Rattle.mitex_meaning.specs.Children.{each}
use Rattle.mitex_meaning.specs.Tables.{letters_fit, table_head}
use Rattle.mitex_meaning.specs.declared.LaTeXMode.{LaTeXMode}
use Rattle.mitex_meaning.specs.declared.LaTeXMode.TheVariants.{Text, Math}
use Rattle.mitex_meaning.specs.declared.LaTeXEnv.{LaTeXEnv}
use Rattle.mitex_meaning.specs.declared.LaTeXEnv.TheVariants.{None, Matrix, Cases, Itemize, Enumerate, SubStack, MathCurlyGroup}
use Rattle.mitex_meaning.specs.declared.LaTeXEnv.TheVariants.{Math as MathEnv, Figure as FigureEnv, Table as TableEnv}
use Rattle.mitex_meaning.specs.declared.Loop.TheVariants.{Named, Inside, Figure, Table}

-- ---- lists and normal environments: a list writes no text of its own

abbrev pub env_begin : LaTeXEnv → List ℕ → List ℕ
env_begin None w = hash ++ (w ++ left_bracket)
env_begin FigureEnv w = []
env_begin TableEnv w = []
env_begin Itemize w = []
env_begin Enumerate w = []
env_begin MathEnv w = []
env_begin Matrix w = []
env_begin Cases w = []
env_begin SubStack w = []
env_begin MathCurlyGroup w = []

abbrev pub env_end : LaTeXEnv → List ℕ
env_end None = block_end
env_end FigureEnv = []
env_end TableEnv = []
env_end Itemize = []
env_end Enumerate = []
env_end MathEnv = []
env_end Matrix = []
env_end Cases = []
env_end SubStack = []
env_end MathCurlyGroup = []

abbrev pub plain_env : LaTeXEnv → List ℕ → Arm
plain_env e w conv x f c = after (env_begin e w) (closing (env_end e) (each (conv (in_env e x)) 1 Inside f c))

-- ---- environments for Math are functions like `mat(a, b; c, d)`; their arguments are converted inside them

abbrev pub in_math : LaTeXEnv → Context → Context
in_math e x = in_env e (in_mode Math x)

abbrev pub math_env : LaTeXEnv → List ℕ → Arm
math_env e w conv x f c =
    after (dollar_begin x.mode ++ (w ++ left_paren))
    (closing (right_paren ++ dollar_end x.mode)
    (and_then (shift (1 + offset_of ItemBegin f) (each (conv (in_math e x)) 1 (Named 0) (begin_of f) c))
    (λ c'. each (conv (in_math e x)) 1 Inside f c')))

-- ---- figures

abbrev pub is_caption : Tree → Bool
is_caption t = eqb (kind_of t) ItemCmd && same (cmd_name (children_of t)) caption_name

-- a caption's first argument, and how many rows below the figure it stands
pub data Caption : Type 0 where
  absent : Caption
  bare : ℕ → Caption
  caption : ℕ → Tree → Caption

abbrev pub caption_from_row : ℕ → Tree → Option Tree → Caption
caption_from_row o t nothing = bare o
caption_from_row o t (some a) = caption (o + 1 + offset_of ClauseArgument (children_of t)) a

-- of two captions the later wins, but one without an argument is refused first
abbrev pub or_later : Caption → Caption → Caption
or_later absent l = l
or_later (bare o) l = bare o
or_later (caption o t) absent = caption o t
or_later (caption o t) (bare p) = bare p
or_later (caption o t) (caption p u) = caption p u

unfoldable pub last_caption : ℕ → Forest → Caption
last_caption o none = absent
last_caption o (more t f) =
    or_later (cond (is_caption t) (caption_from_row o t (first_of ClauseArgument (children_of t))) absent) (last_caption (o + size t) f)

-- the caption, then the children
abbrev pub figure_body : Arm
figure_body conv x f c = after body_begin (closing block_end (each (conv x) 1 Figure f c))

abbrev pub captioned : Caption → Arm
captioned absent conv x f c = figure_body conv x f c
captioned (bare o) conv x f c = refused 12 o
captioned (caption o t) conv x f c =
    after caption_begin (and_then (closing caption_end (shift o (conv x t c))) (figure_body conv x f))

abbrev pub figure_env : List ℕ → Arm
figure_env w conv x f c =
    after (hash ++ (w ++ left_paren)) (captioned (last_caption 1 f) conv (in_env FigureEnv x) f c)

-- ---- tables

abbrev pub table_with : List ℕ → List ℕ → Arm
table_with w letters conv x f c =
    cond (letters_fit letters)
    (after (hash ++ (w ++ (left_paren ++ table_head letters))) (each (conv (in_env TableEnv x)) 1 (Table true) f c))
    (refused 13 0)

-- the first argument, its ends cut, trimmed
abbrev pub table_by : List ℕ → Option Tree → Arm
table_by w nothing conv x f c = refused 12 0
table_by w (some t) conv x f c = cond (good_ends (text_of t)) (table_with w (trim (inner (text_of t))) conv x f c) (refused 12 0)

abbrev pub table_env : List ℕ → Arm
table_env w conv x f c = table_by w (first_of ClauseArgument (begin_of f)) conv x f c

-- ---- the held label: an environment other than a list that ends in Text writes and drops it

abbrev pub held_text : Label → List ℕ
held_text unheld = []
held_text (held s) = label_mark s

abbrev pub is_list : LaTeXEnv → Bool
is_list None = false
is_list FigureEnv = false
is_list TableEnv = false
is_list Itemize = true
is_list Enumerate = true
is_list MathEnv = false
is_list Matrix = false
is_list Cases = false
is_list SubStack = false
is_list MathCurlyGroup = false

-- what is written of it, and what is carried on
abbrev pub taken : Bool → LaTeXMode → Label → List ℕ
taken true m l = []
taken false Text l = held_text l
taken false Math l = []

abbrev pub dropped : Bool → LaTeXMode → Carry → Carry
dropped true m c = c
dropped false Text c = labelled unheld c
dropped false Math c = c

abbrev pub take_label : Bool → LaTeXMode → Outcome → Outcome
take_label list m (refused n r) = refused n r
take_label list m (done c w) = done (dropped list m c) (w ++ taken list m c.label)

-- ---- by class, in the order of `ContextFeature`: from 3 on None, IsMath, IsMatrix, IsCases, IsFigure, IsTable, IsItemize, IsEnumerate

abbrev pub env_of : ℕ → LaTeXEnv
env_of k =
    cond (eqb k 4) MathEnv
    (cond (eqb k 5) Matrix
    (cond (eqb k 6) Cases
    (cond (eqb k 7) FigureEnv
    (cond (eqb k 8) TableEnv
    (cond (eqb k 9) Itemize
    (cond (eqb k 10) Enumerate
    None))))))

abbrev pub env_body : LaTeXEnv → List ℕ → Arm
env_body None w conv x f c = plain_env None w conv x f c
env_body FigureEnv w conv x f c = figure_env w conv x f c
env_body TableEnv w conv x f c = table_env w conv x f c
env_body Itemize w conv x f c = plain_env Itemize w conv x f c
env_body Enumerate w conv x f c = plain_env Enumerate w conv x f c
env_body MathEnv w conv x f c = math_env MathEnv w conv x f c
env_body Matrix w conv x f c = math_env Matrix w conv x f c
env_body Cases w conv x f c = math_env Cases w conv x f c
env_body SubStack w conv x f c = math_env SubStack w conv x f c
env_body MathCurlyGroup w conv x f c = math_env MathCurlyGroup w conv x f c

abbrev pub env_with : LaTeXEnv → List ℕ → Arm
env_with e w conv x f c = take_label (is_list e) x.mode (env_body e w conv x f c)

abbrev pub env_by : Option Rule → List ℕ → Arm
env_by nothing name conv x f c = refused 10 0
env_by (some r) name conv x f c = env_with (env_of r.class) (written_name r name) conv x f c

-- the name is looked up and written trimmed
abbrev pub environment_named : List ℕ → Arm
environment_named name conv x f c = env_by (get_env x.rules name) name conv x f c

abbrev pub environment : Arm
environment conv x f c = environment_named (trim (env_name f)) conv x f c
