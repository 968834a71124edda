-- Worked examples of the views on small trees: names and arguments that stand in unusual places, tokens that are found below
-- first and last children, the ends of formulas, and the bytes of rows.
use Rattle.std.specs.Prelude.{◌≡◌, refl, true, false, List, [], ◌∷◌, ◌++◌, ℕ}
use Rattle.std.proofs.Math.Option.Option.{none as nothing, some}
use Rattle.text.specs.Ascii.{ascii}
use Rattle.text.specs.Compare.{same}
use Rattle.utf8.specs.Utf8.{valid, char_steps}
use Rattle.mitex_syntax.specs.Syntax.{ClauseArgument, ItemText, ItemBracket, ItemCurly, ClauseCommandName, ItemBegin, TokenWord, TokenLBrace, TokenRBrace}
use Rattle.mitex_syntax.specs.Syntax.{TokenDollar, TokenBeginMath, TokenEndMath, TokenCommandSym, TokenError, ItemNewLine, is_token, is_node, is_trivia}
use Rattle.mitex_syntax.specs.Tree.{Tree, Forest, size, rows_of, text_of}
use Rattle.mitex_syntax.specs.Tree.Tree.{token, node}
use Rattle.mitex_syntax.specs.Tree.Forest.{none, more}
use Rattle.mitex_syntax.specs.Rows.{extent_of, token_sum}
use Rattle.mitex_syntax.specs.Views.{first_by, offset_by, all_by, first_of, offset_of, first_node, text_in, kind_in, cmd_name, arguments}
use Rattle.mitex_syntax.specs.Views.{argument_with, env_name, first_token, first_tokens, last_token, last_tokens, is_inline, is_valid, inner}
use Rattle.mitex_syntax.specs.Spells.{Sound, Begins}

letter : Tree
letter = token TokenWord (ascii "a")

curly_of : Tree → Tree
curly_of t = node ItemCurly (more (token TokenLBrace (ascii "{")) (more t (more (token TokenRBrace (ascii "}")) none)))

argument_of : Tree → Tree
argument_of t = node ClauseArgument (more t none)

name_token : List ℕ → Tree
name_token s = token ClauseCommandName s

dollar_token : List ℕ → Tree
dollar_token s = token TokenDollar s

-- ---- commands

-- `\frac` with an argument before its name, which stands five rows below the first child
frac : Forest
frac = more (argument_of (curly_of letter)) (more (name_token (ascii "\\frac")) (more (argument_of letter) none))

frac-views :
    (cmd_name frac ≡ ascii "\\frac") × (offset_of ClauseCommandName frac ≡ 5) × (arguments frac ≡ more (argument_of (curly_of letter)) (more (argument_of letter) none))
    × (text_in (first_of ClauseArgument frac) ≡ ascii "{a}")
unfolding frac argument_of curly_of letter name_token first_by offset_by all_by text_of size
frac-views = (refl, refl, refl, refl)

-- of two names the first counts, and where there is none the name is empty
two-names : (cmd_name (more (name_token (ascii "\\a")) (more (name_token (ascii "\\b")) none)) ≡ ascii "\\a") × (cmd_name (more letter none) ≡ [])
unfolding name_token letter first_by text_of
two-names = (refl, refl)

-- the first argument with a brace, though the first argument of all has tokens only; none has a bracket
two_arguments : Forest
two_arguments = more (argument_of letter) (more (argument_of (curly_of letter)) none)

two-arguments-views :
    (text_in (argument_with ItemCurly two_arguments) ≡ ascii "{a}") × (argument_with ItemBracket two_arguments ≡ nothing)
    × (kind_in (first_node (more letter (more (curly_of letter) none))) ≡ ItemCurly) × (first_node (more letter none) ≡ nothing)
unfolding two_arguments argument_of curly_of letter first_by text_of
two-arguments-views = (refl, refl, refl, refl)

-- the ends of a text are cut whatever they are, also inside a character; a text of one byte has nothing between its ends
inner-views : (inner (ascii "<x>") ≡ ascii "x") × (inner (123 ∷ 195 ∷ 169 ∷ []) ≡ 195 ∷ []) × (inner (ascii "x") ≡ [])
inner-views = (refl, refl, refl)

-- ---- environments

-- a name below first children keeps its backslash; an empty node as first child hides it
symbol_token : List ℕ → Tree
symbol_token s = token TokenCommandSym s

begun_by : Forest → Forest
begun_by f = more letter (more (node ItemBegin f) (more (node ItemBegin (more (symbol_token (ascii "late")) none)) none))

env-names :
    (env_name (begun_by (more (node ItemText (more (symbol_token (ascii "\\foo")) none)) none)) ≡ ascii "\\foo")
    × (env_name (begun_by (more (node ItemText none) (more (symbol_token (ascii "quote")) none))) ≡ []) × (env_name none ≡ [])
unfolding begun_by symbol_token letter first_by text_of first_token
env-names = (refl, refl, refl)

-- ---- tokens and formulas

-- the first token is found below first children only, the last below last children only
tokens :
    (first_tokens (more (node ItemText (more (name_token (ascii "\\left")) none)) (more letter none)) ≡ some (name_token (ascii "\\left")))
    × (first_tokens (more (node ItemText none) (more letter none)) ≡ nothing)
    × (last_tokens (more letter (more (curly_of letter) none)) ≡ some (token TokenRBrace (ascii "}")))
    × (last_tokens (more letter (more (node ItemText none) none)) ≡ nothing)
unfolding curly_of letter name_token first_token last_token
tokens = (refl, refl, refl, refl)

-- `$a$`; `$$` below a first and a last child; `$` and `$$`; an empty node first; `\(a\)`; `\(a\]`
with_ends : Tree → Tree → Forest
with_ends a b = more a (more letter (more b none))

nested : Tree → Tree
nested t = node ItemText (more t none)

formulas :
    (is_valid (with_ends (dollar_token (ascii "$")) (dollar_token (ascii "$"))) ≡ true) × (is_inline (with_ends (dollar_token (ascii "$")) (dollar_token (ascii "$"))) ≡ true)
    × (is_valid (with_ends (nested (dollar_token (ascii "$$"))) (nested (dollar_token (ascii "$$")))) ≡ true)
    × (is_inline (with_ends (nested (dollar_token (ascii "$$"))) (nested (dollar_token (ascii "$$")))) ≡ false)
    × (is_valid (with_ends (dollar_token (ascii "$")) (dollar_token (ascii "$$"))) ≡ false)
    × (is_valid (more (node ItemText none) (more (dollar_token (ascii "$")) (more (dollar_token (ascii "$")) none))) ≡ false)
    × (is_valid (with_ends (token TokenBeginMath (ascii "\\(")) (token TokenEndMath (ascii "\\)"))) ≡ true)
    × (is_inline (with_ends (token TokenBeginMath (ascii "\\(")) (token TokenEndMath (ascii "\\)"))) ≡ true)
    × (is_valid (with_ends (token TokenBeginMath (ascii "\\(")) (token TokenEndMath (ascii "\\]"))) ≡ false)
    × (is_valid none ≡ false)
unfolding with_ends nested dollar_token letter same first_token last_token text_of
formulas = (refl, refl, refl, refl, refl, refl, refl, refl, refl, refl)

-- ---- rows

-- a group of three tokens: its own row says three, each token's its length
curly-rows :
    rows_of (curly_of letter)
    ≡ (9 ∷ 0 ∷ 0 ∷ 0 ∷ 3 ∷ 0 ∷ 0 ∷ 0 ∷ []) ++ ((16 ∷ 1 ∷ 0 ∷ 0 ∷ 1 ∷ 0 ∷ 0 ∷ 0 ∷ []) ++ ((15 ∷ 1 ∷ 0 ∷ 0 ∷ 1 ∷ 0 ∷ 0 ∷ 0 ∷ []) ++ (17 ∷ 1 ∷ 0 ∷ 0 ∷ 1 ∷ 0 ∷ 0 ∷ 0 ∷ [])))
unfolding curly_of letter rows_of size
curly-rows = refl

curly-says : (extent_of (rows_of (curly_of letter)) ≡ 32) × (token_sum (rows_of (curly_of letter)) ≡ 3) × (text_of (curly_of letter) ≡ ascii "{a}")
unfolding curly_of letter rows_of size token_sum text_of
curly-says = (refl, refl, refl)

-- the rows of two elements, and a text that begins with theirs and goes on
begins-here : Begins (more letter (more (curly_of letter) none)) (rows_of letter ++ rows_of (curly_of letter)) (ascii "a{a}, more")
unfolding curly_of letter rows_of size text_of Sound valid char_steps
begins-here = record { rows_are = refl; rest = ascii ", more"; text_is = refl; sound = (tt, ((tt, (tt, (tt, (tt, tt)))), tt)) }

-- kinds: an ItemNewLine is a token and trivia, a TokenError token or node, 0 and 46 are none
kinds :
    (is_token ItemNewLine ≡ true) × (is_trivia ItemNewLine ≡ true) × (is_node ItemNewLine ≡ false) × (is_token TokenError ≡ true)
    × (is_node TokenError ≡ true) × (is_node 0 ≡ false) × (is_node 46 ≡ false)
kinds = (refl, refl, refl, refl, refl, refl, refl)
