-- How the tables of worked conversions are written: trees by short names, and the test that a table holds. An example's own rules
-- stand before the usual ones; the first rule of a name counts.
use Rattle.std.specs.Prelude.{Bool, true, false, ◌&&◌, List, [], ◌∷◌, ◌++◌, ℕ, zero, suc, eqb}
use Rattle.std.proofs.Math.Option.{Option}
use Rattle.std.proofs.Math.Option.Option.{none as nothing, some}
use Prim.Native.String.{String}
use Rattle.text.specs.Ascii.{ascii}
use Rattle.text.specs.Compare.{same, starts_with, ends_with}
use Rattle.text.specs.Writing.{digits}
use Rattle.utf8.specs.Chars.{chars, concat}
use Rattle.utf8.specs.Trim.{skip_white, trim_start, trim_end, trim}
use Rattle.mitex_spec.specs.Rules.{Rule, get}
use Rattle.mitex_syntax.specs.Syntax.{ClauseArgument, ScopeRoot, ItemBracket, ItemCurly, ClauseCommandName, ItemBegin, ItemEnd, TokenWord}
use Rattle.mitex_syntax.specs.Syntax.{TokenLBrace, TokenRBrace, TokenDollar, TokenComment, TokenWhiteSpace, TokenLineBreak, TokenLBracket}
use Rattle.mitex_syntax.specs.Syntax.{TokenRBracket, TokenAmpersand, ItemNewLine, TokenCommandSym, ItemCmd, ItemEnv}
use Rattle.mitex_syntax.specs.Tree.{Tree, Forest, size, text_of}
use Rattle.mitex_syntax.specs.Tree.Tree.{token, node}
use Rattle.mitex_syntax.specs.Tree.Forest.{none, more}
use Rattle.mitex_syntax.specs.Views.{first_by, offset_by, before_by, from_by, first_token, last_token}
use Rattle.mitex_meaning.specs.Outcome.{Outcome}
use Rattle.mitex_meaning.specs.Outcome.Outcome.{refused, done}
use Rattle.mitex_meaning.specs.Tokens.{spaced, token_out}
use Rattle.mitex_meaning.specs.Children.{others_follow, turn, each}
use Rattle.mitex_meaning.specs.Groups.{clause_lr}
use Rattle.mitex_meaning.specs.Images.{cut_at, stripped, options_text}
use Rattle.mitex_meaning.specs.Tables.{letters_fit, columns, alignments, vlines}
use Rattle.mitex_meaning.specs.Environments.{last_caption}
use Rattle.mitex_meaning.specs.Conversion.{step, convert, levels, start_context, new_carry}
use Rattle.mitex_meaning.specs.declared.LaTeXMode.{LaTeXMode}

-- ---- trees

abbrev pub these : List Tree → Forest
these [] = none
these (t ∷ ts) = more t (these ts)

abbrev pub over : ℕ → List Tree → Tree
over k ts = node k (these ts)

abbrev pub tok : ℕ → String → Tree
tok k s = token k (ascii s)

-- a text over and over
abbrev pub times : ℕ → List ℕ → List ℕ
times zero s = []
times (suc n) s = s ++ times n s

abbrev pub tok_word : String → Tree
tok_word s = tok TokenWord s

abbrev pub tok_name : String → Tree
tok_name s = tok ClauseCommandName s

abbrev pub tok_sym : String → Tree
tok_sym s = tok TokenCommandSym s

abbrev pub tok_space : Tree
tok_space = tok TokenWhiteSpace " "

abbrev pub tok_break : Tree
tok_break = tok TokenLineBreak "\n"

abbrev pub tok_new_line : Tree
tok_new_line = tok ItemNewLine "\\\\"

abbrev pub tok_comment : Tree
tok_comment = tok TokenComment "%"

abbrev pub tok_ampersand : Tree
tok_ampersand = tok TokenAmpersand "&"

abbrev pub tok_dollar : Tree
tok_dollar = tok TokenDollar "$"

abbrev pub curly : List Tree → Tree
curly ts = over ItemCurly (tok TokenLBrace "{" ∷ (ts ++ (tok TokenRBrace "}" ∷ [])))

abbrev pub bracket : List Tree → Tree
bracket ts = over ItemBracket (tok TokenLBracket "[" ∷ (ts ++ (tok TokenRBracket "]" ∷ [])))

-- arguments: as they stand, in braces and in brackets
abbrev pub arg : List Tree → Tree
arg ts = over ClauseArgument ts

abbrev pub braced : List Tree → Tree
braced ts = arg (curly ts ∷ [])

abbrev pub bracketed : List Tree → Tree
bracketed ts = arg (bracket ts ∷ [])

abbrev pub cmd_node : String → List Tree → Tree
cmd_node s ts = over ItemCmd (tok_name s ∷ ts)

-- an environment with its arguments and what stands in it
abbrev pub env_node : String → List Tree → List Tree → Tree
env_node s args ts = over ItemEnv (over ItemBegin (tok_sym s ∷ args) ∷ (ts ++ (over ItemEnd (tok_sym s ∷ []) ∷ [])))

-- ---- rules

-- name, class and alias
abbrev pub rule_by : List ℕ → ℕ → Option (List ℕ) → Rule
rule_by s k a = record { name = s; alias = a; class = k }

abbrev pub rule_for : String → ℕ → Rule
rule_for s k = rule_by (ascii s) k nothing

abbrev pub rule_as : String → ℕ → String → Rule
rule_as s k a = rule_by (ascii s) k (some (ascii a))

abbrev pub few_rules : List Rule
few_rules = rule_for "quote" 3 ∷ rule_as "tabular" 8 "table" ∷ []

abbrev pub usual : List Rule
usual =
    rule_for "alpha" 0
    ∷ rule_for "cases" 6
    ∷ rule_as "color" 1 "mycolor"
    ∷ rule_for "enumerate" 10
    ∷ rule_as "equation" 4 "aligned"
    ∷ rule_for "figure" 7
    ∷ rule_for "frac" 2
    ∷ rule_for "itemize" 9
    ∷ rule_as "matrix" 5 "mat"
    ∷ rule_as "mbox" 2 "#textmath"
    ∷ rule_for "quote" 3
    ∷ rule_as "rm" 1 "upright"
    ∷ rule_for "substack" 2
    ∷ rule_as "tabular" 8 "table"
    ∷ rule_as "textbf" 2 "bold"
    ∷ []

-- ---- examples

-- what is to come out: the text that is written, or the number and the row of a refusal
pub data Expected : Type 0 where
  text : List ℕ → Expected
  refusal : ℕ → ℕ → Expected

abbrev pub writes : String → Expected
writes s = text (ascii s)

abbrev pub as_expected : Outcome → Expected → Bool
as_expected (refused n r) (refusal m s) = eqb n m && eqb r s
as_expected (refused n r) (text w) = false
as_expected (done c w) (refusal n r) = false
as_expected (done c w) (text v) = same w v

pub record Example : Type 0 where
  pub rules : List Rule
  pub mode : LaTeXMode
  pub blocks : List Tree
  pub expects : Expected

abbrev pub example : List Rule → LaTeXMode → List Tree → Expected → Example
example rs m ts a = record { rules = rs; mode = m; blocks = ts; expects = a }

-- the root, converted from the state of `Converter::new`
abbrev pub holds : Example → Bool
holds c = as_expected (convert levels (start_context c.rules c.mode) (over ScopeRoot c.blocks) new_carry) c.expects

-- whoever unfolds this unfolds all that a conversion computes by
unfoldable pub hold : List Example → Bool
unfolding convert step each turn token_out spaced clause_lr cut_at stripped options_text others_follow letters_fit columns alignments vlines last_caption size
    text_of first_by offset_by before_by from_by first_token last_token get same starts_with ends_with digits chars concat skip_white trim_start trim_end trim
hold [] = true
hold (c ∷ cs) = holds c && hold cs
