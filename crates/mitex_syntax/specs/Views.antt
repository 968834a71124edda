-- The typed views of syntax.rs on trees: `CmdItem`, `EnvItem`, `FormulaItem` and what they find among the children of a node.
use Rattle.std.specs.Prelude.{Bool, true, false, ◌&&◌, ◌||◌, not, cond, ℕ, ◌+◌, ◌-◌, List, [], length, take, drop, get_or, eqb, leb}
use Rattle.std.proofs.Math.Option.{Option}
use Rattle.std.proofs.Math.Option.Option.{none as nothing, some}
use Rattle.text.specs.Ascii.{ascii}
use Rattle.text.specs.Compare.{same}
use Rattle.mitex_syntax.specs.Syntax.{ClauseArgument, ClauseCommandName, ItemBegin, TokenDollar, TokenBeginMath, TokenEndMath, is_trivia}
use Rattle.mitex_syntax.specs.Tree.{Tree, Forest, size, kind_of, text_of}
use Rattle.mitex_syntax.specs.Tree.Tree.{token, node}
use Rattle.mitex_syntax.specs.Tree.Forest.{none, more}

-- ---- children that a test picks

-- the first such child, how many rows stand before it among the children, and all such children
unfoldable pub first_by : (Tree → Bool) → Forest → Option Tree
first_by p none = nothing
first_by p (more t f) = cond (p t) (some t) (first_by p f)

unfoldable pub offset_by : (Tree → Bool) → Forest → ℕ
offset_by p none = 0
offset_by p (more t f) = cond (p t) 0 (size t + offset_by p f)

unfoldable pub all_by : (Tree → Bool) → Forest → Forest
all_by p none = none
all_by p (more t f) = cond (p t) (more t (all_by p f)) (all_by p f)

-- the elements before the first such child, and those from it on
unfoldable pub before_by : (Tree → Bool) → Forest → Forest
before_by p none = none
before_by p (more t f) = cond (p t) none (more t (before_by p f))

unfoldable pub from_by : (Tree → Bool) → Forest → Forest
from_by p none = none
from_by p (more t f) = cond (p t) (more t f) (from_by p f)

-- of a kind, of any other, and no trivia
abbrev pub is_of : ℕ → Tree → Bool
is_of k t = eqb (kind_of t) k

abbrev pub is_other : ℕ → Tree → Bool
is_other k t = not (is_of k t)

abbrev pub is_solid : Tree → Bool
is_solid t = not (is_trivia (kind_of t))

abbrev pub first_of : ℕ → Forest → Option Tree
first_of k f = first_by (is_of k) f

abbrev pub offset_of : ℕ → Forest → ℕ
offset_of k f = offset_by (is_of k) f

-- a node
abbrev pub is_node_tree : Tree → Bool
is_node_tree (token k s) = false
is_node_tree (node k f) = true

abbrev pub first_node : Forest → Option Tree
first_node f = first_by is_node_tree f

-- ---- what was found

-- the children of an element; a token has none
abbrev pub children_of : Tree → Forest
children_of (token k s) = none
children_of (node k f) = f

-- kind, text and children of what was found; where nothing was, no kind, no text and no children
abbrev pub kind_in : Option Tree → ℕ
kind_in nothing = 0
kind_in (some t) = kind_of t

abbrev pub text_in : Option Tree → List ℕ
text_in nothing = []
text_in (some t) = text_of t

abbrev pub children_in : Option Tree → Forest
children_in nothing = none
children_in (some t) = children_of t

-- ---- commands and environments

-- `CmdItem::name_tok`: the text of the first ClauseCommandName
abbrev pub cmd_name : Forest → List ℕ
cmd_name f = text_in (first_of ClauseCommandName f)

-- `arguments`: the direct children that are a ClauseArgument
abbrev pub arguments : Forest → Forest
arguments f = all_by (is_of ClauseArgument) f

-- `EnvItem::begin`: the children of the first ItemBegin; an environment's arguments are among these
abbrev pub begin_of : Forest → Forest
begin_of f = children_in (first_of ItemBegin f)

-- the first token, following first children only, and the last, following last children only
unfoldable mutual
  pub first_token : Tree → Option Tree
  first_token (token k s) = some (token k s)
  first_token (node k f) = first_tokens f

  pub first_tokens : Forest → Option Tree
  first_tokens none = nothing
  first_tokens (more t f) = first_token t

unfoldable mutual
  pub last_token : Tree → Option Tree
  last_token (token k s) = some (token k s)
  last_token (node k f) = last_tokens f

  pub last_tokens : Forest → Option Tree
  last_tokens none = nothing
  last_tokens (more t none) = last_token t
  last_tokens (more t (more u f)) = last_tokens (more u f)

-- `EnvItem::name_tok`: the text of the first token of the first ItemBegin
abbrev pub env_name : Forest → List ℕ
env_name f = text_in (first_tokens (begin_of f))

-- the first argument whose first child node is of the kind
abbrev pub is_argument_with : ℕ → Tree → Bool
is_argument_with k t = is_of ClauseArgument t && eqb (kind_in (first_node (children_of t))) k

abbrev pub argument_with : ℕ → Forest → Option Tree
argument_with k f = first_by (is_argument_with k) f

-- ---- formulas

-- a token of this kind with this text
abbrev pub is_token_of : ℕ → List ℕ → Option Tree → Bool
is_token_of k s o = eqb (kind_in o) k && same (text_in o) s

-- `FormulaItem::is_inline`
abbrev pub is_inline : Forest → Bool
is_inline f = is_token_of TokenDollar (ascii "$") (first_tokens f) || is_token_of TokenBeginMath (ascii "\\(") (first_tokens f)

-- `FormulaItem::is_valid`: the formula ends as it began
abbrev pub is_pair : ℕ → List ℕ → ℕ → List ℕ → Forest → Bool
is_pair k s m e f = is_token_of k s (first_tokens f) && is_token_of m e (last_tokens f)

abbrev pub dollar_ends : Forest → Bool
dollar_ends f = is_pair TokenDollar (ascii "$") TokenDollar (ascii "$") f || is_pair TokenDollar (ascii "$$") TokenDollar (ascii "$$") f

abbrev pub math_ends : Forest → Bool
math_ends f =
    is_pair TokenBeginMath (ascii "\\(") TokenEndMath (ascii "\\)") f || is_pair TokenBeginMath (ascii "\\[") TokenEndMath (ascii "\\]") f

abbrev pub is_valid : Forest → Bool
is_valid f = dollar_ends f || math_ends f

-- ---- a text between two ends

-- a text without its first and its last byte
abbrev pub inner : List ℕ → List ℕ
inner s = take (length s - 2) (drop 1 s)

-- one-byte characters are at most this
abbrev pub one_byte : ℕ
one_byte = 127

-- the text has 2 bytes or more, both ends one-byte characters
abbrev pub good_ends : List ℕ → Bool
good_ends s = leb 2 (length s) && (leb (get_or s 0 0) one_byte && leb (get_or s (length s - 1) 0) one_byte)
