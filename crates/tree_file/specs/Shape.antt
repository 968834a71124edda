-- The tree-shape rules (refusal 5), one definition a rule. `lowest` is the lowest row that breaks one: a rule on a command, an
-- environment or a ClauseLR is broken by its own row. `Shaped` says that no row does.
use Rattle.std.specs.Prelude.{Bool, true, false, ◌&&◌, ◌||◌, not, cond, ℕ, ◌+◌, List, get_or, T, eqb}
use Rattle.std.proofs.Math.Option.{Option}
use Rattle.std.proofs.Math.Option.Option.{none as nothing, some}
use Rattle.text.specs.Ascii.{ascii}
use Rattle.text.specs.Compare.{same}
use Rattle.mitex_syntax.specs.Syntax.{ClauseArgument, ItemBracket, ItemCurly, ClauseLR, ItemBegin, ItemEnd, TokenCommandSym, ItemCmd, ItemEnv}
use Rattle.mitex_syntax.specs.Tree.{Tree, Forest, size, text_of}
use Rattle.mitex_syntax.specs.Tree.Tree.{token, node}
use Rattle.mitex_syntax.specs.Tree.Forest.{none, more}
use Rattle.mitex_syntax.specs.Views.{first_of, kind_in, text_in, cmd_name, begin_of, first_tokens, argument_with, good_ends}

abbrev pub backslash : ℕ
backslash = 92

-- the text begins with a backslash
abbrev pub slashed : List ℕ → Bool
slashed s = eqb (get_or s 0 0) backslash

-- the commands whose arguments have rules
abbrev pub label_command : List ℕ
label_command = ascii "\\label"

abbrev pub includegraphics_command : List ℕ
includegraphics_command = ascii "\\includegraphics"

abbrev pub color_command : List ℕ
color_command = ascii "\\color"

-- ---- the rules

-- an ItemCmd has a direct ClauseCommandName; that text begins with a backslash
abbrev pub name_fits : Forest → Bool
name_fits f = slashed (cmd_name f)

-- and so does a TokenCommandSym not directly under ItemBegin or ItemEnd; `up` is the kind above
abbrev pub sym_fits : ℕ → ℕ → List ℕ → Bool
sym_fits up k s = cond (eqb k TokenCommandSym) (eqb up ItemBegin || (eqb up ItemEnd || slashed s)) true

-- a ClauseLR's first child is a token that begins with one
abbrev pub lr_fits : Forest → Bool
lr_fits none = false
lr_fits (more (token k s) f) = slashed s
lr_fits (more (node k g) f) = false

-- an ItemEnv has a direct ItemBegin, and the first token of the first such is a TokenCommandSym
abbrev pub env_fits : Forest → Bool
env_fits f = eqb (kind_in (first_tokens (begin_of f))) TokenCommandSym

-- `\label` has an argument, whose text has good ends
abbrev pub label_fits : Forest → Bool
label_fits f = good_ends (text_in (first_of ClauseArgument f))

abbrev pub is_some : {A : Type 0} → Option A → Bool
is_some nothing = false
is_some (some a) = true

-- no argument is without a child node; the kind of what is not there is 0
abbrev pub all_nodes : Forest → Bool
all_nodes f = not (is_some (argument_with 0 f))

abbrev pub ends_in : Option Tree → Bool
ends_in nothing = true
ends_in (some t) = good_ends (text_of t)

-- each argument of `\includegraphics` has a child node, and one has ItemCurly as its first; the first ItemCurly and the first
-- ItemBracket argument have good ends
abbrev pub image_fits : Forest → Bool
image_fits f =
    all_nodes f && (good_ends (text_in (argument_with ItemCurly f)) && ends_in (argument_with ItemBracket f))

-- `\color` has an argument
abbrev pub color_fits : Forest → Bool
color_fits f = is_some (first_of ClauseArgument f)

abbrev pub arguments_fit : List ℕ → Forest → Bool
arguments_fit name f =
    cond (same name label_command) (label_fits f)
    (cond (same name includegraphics_command) (image_fits f) (cond (same name color_command) (color_fits f) true))

abbrev pub cmd_fits : Forest → Bool
cmd_fits f = name_fits f && arguments_fit (cmd_name f) f

abbrev pub node_fits : ℕ → Forest → Bool
node_fits k f = cond (eqb k ClauseLR) (lr_fits f) (cond (eqb k ItemCmd) (cmd_fits f) (cond (eqb k ItemEnv) (env_fits f) true))

-- ---- the whole tree

abbrev pub or_else : Option ℕ → Option ℕ → Option ℕ
or_else nothing b = b
or_else (some r) b = some r

abbrev pub unless : Bool → ℕ → Option ℕ
unless true r = nothing
unless false r = some r

-- the lowest row that breaks a rule, where the first row has the number `row`, and `up` is the kind of the node above
unfoldable mutual
  pub lowest : ℕ → ℕ → Tree → Option ℕ
  lowest up row (token k s) = unless (sym_fits up k s) row
  lowest up row (node k f) = or_else (unless (node_fits k f) row) (lowests k (row + 1) f)

  pub lowests : ℕ → ℕ → Forest → Option ℕ
  lowests up row none = nothing
  lowests up row (more t f) = or_else (lowest up row t) (lowests up (row + size t) f)

-- the rules hold throughout
unfoldable mutual
  pub Shaped : ℕ → Tree → Type 0
  Shaped up (token k s) = T (sym_fits up k s)
  Shaped up (node k f) = T (node_fits k f) × ShapedAll k f

  pub ShapedAll : ℕ → Forest → Type 0
  ShapedAll up none = Unit {0}
  ShapedAll up (more t f) = Shaped up t × ShapedAll up f
