-- The loops of the converter over children, in one: each loop says what it does with a child (`act_of`), an act says what is
-- written before and after the child and whether the child is converted, and the loop goes on in its next state.
use Rattle.std.specs.Prelude.{Bool, true, false, ◌&&◌, ◌||◌, not, cond, List, [], ◌++◌, ℕ, ◌+◌, drop, eqb}
use Rattle.text.specs.Compare.{same}
use Rattle.text.specs.Writing.{decimal}
use Rattle.mitex_syntax.specs.Syntax.{ClauseArgument, ClauseCommandName, ItemCurly, ItemBegin, ItemEnd, ItemCmd, TokenWord, TokenLBrace, TokenRBrace}
use Rattle.mitex_syntax.specs.Syntax.{TokenWhiteSpace, TokenLineBreak, TokenCaret, TokenUnderscore, TokenAmpersand, ItemNewLine}
use Rattle.mitex_syntax.specs.Tree.{Tree, Forest, size, kind_of, text_of}
use Rattle.mitex_syntax.specs.Tree.Forest.{none, more}
use Rattle.mitex_syntax.specs.Views.{children_of, cmd_name}
use Rattle.mitex_meaning.specs.Outcome.{Carry, Outcome, after, and_then, closing, shift}
use Rattle.mitex_meaning.specs.Outcome.Outcome.{done}
use Rattle.mitex_meaning.specs.Texts.{left_paren, right_paren, left_bracket, right_bracket, dollar, space, comma, colon_space, argument_end}
use Rattle.mitex_meaning.specs.Texts.{blank_group, no_base, named_arg, thin_rule, thick_rule, empty_cell, last_empty_cell, last_cell_end}
use Rattle.mitex_meaning.specs.Texts.{table_end, dot, caption_name, centering_name, hline_name, toprule_name, midrule_name, bottomrule_name}
use Rattle.mitex_meaning.specs.declared.Attach.{Attach}
use Rattle.mitex_meaning.specs.declared.Attach.TheVariants.{Bare, Based, Split}
use Rattle.mitex_meaning.specs.declared.Loop.{Loop}
use Rattle.mitex_meaning.specs.declared.Loop.TheVariants.{Plain, Curly, Spaced, Attached, Greedy, Separated, Bracketed, Dollars, Arguments, Named, Inside, Figure, Table}
use Rattle.mitex_meaning.specs.declared.Act.{Act}
use Rattle.mitex_meaning.specs.declared.Act.TheVariants.{Skip, Convert, ThenSpace, Space, ThenComma, InBrackets, InDollars, SplitBare}
use Rattle.mitex_meaning.specs.declared.Act.TheVariants.{SplitBased, Name, Empty, EmptyLast, ThinRule, ThickRule, Open, Close, CloseLast}

-- ---- what a loop looks at

-- white space, a line break or a brace: leaves a curly group blank
abbrev pub is_blank : ℕ → Bool
is_blank k = eqb k TokenWhiteSpace || (eqb k TokenLineBreak || (eqb k TokenLBrace || eqb k TokenRBrace))

-- the lone dot of `\left.`
abbrev pub is_dot : ℕ → List ℕ → Bool
is_dot k s = eqb k TokenWord && same s dot

-- the underscore or caret that splits an attachment
abbrev pub is_split : ℕ → Bool
is_split k = eqb k TokenUnderscore || eqb k TokenCaret

abbrev pub is_ends : ℕ → Bool
is_ends k = eqb k ItemBegin || eqb k ItemEnd

-- a child follows
abbrev pub follows : Forest → Bool
follows none = false
follows (more t f) = true

-- a child follows that is no command name
unfoldable pub others_follow : Forest → Bool
others_follow none = false
others_follow (more t f) = not (eqb (kind_of t) ClauseCommandName) || others_follow f

-- a command that a figure takes for itself
abbrev pub is_named : Tree → Bool
is_named t =
    eqb (kind_of t) ItemCmd && (same (cmd_name (children_of t)) caption_name || same (cmd_name (children_of t)) centering_name)

-- ---- what a loop does with a child

abbrev pub attach_act : Attach → Bool → Act
attach_act Bare true = SplitBare
attach_act Bare false = Convert
attach_act Based true = SplitBased
attach_act Based false = Convert
attach_act Split s = Convert

-- the rule commands, which count only outside cells
abbrev pub rule_act : List ℕ → Act
rule_act name =
    cond (same name hline_name) ThinRule
    (cond (same name toprule_name) ThickRule
    (cond (same name midrule_name) ThinRule
    (cond (same name bottomrule_name) ThickRule
    Open)))

-- outside a cell, and in one
abbrev pub cell_act : Bool → ℕ → List ℕ → Act
cell_act true k name =
    cond (eqb k TokenWhiteSpace || eqb k TokenLineBreak) Skip
    (cond (eqb k TokenAmpersand) Empty
    (cond (eqb k ItemNewLine) EmptyLast
    (cond (eqb k ItemCmd) (rule_act name)
    Open)))
cell_act false k name = cond (eqb k TokenAmpersand) Close (cond (eqb k ItemNewLine) CloseLast Convert)

abbrev pub act_of : Loop → Tree → Forest → Act
act_of Plain t f = Convert
act_of (Curly blank) t f = Convert
act_of Spaced t f = cond (is_dot (kind_of t) (text_of t)) Space ThenSpace
act_of (Attached a) t f = attach_act a (is_split (kind_of t))
act_of Greedy t f = cond (eqb (kind_of t) ItemCurly && follows f) ThenComma Convert
act_of Separated t f =
    cond (eqb (kind_of t) ClauseCommandName) Skip
    (cond (eqb (kind_of t) ClauseArgument && others_follow f) ThenComma Convert)
act_of Bracketed t f = cond (eqb (kind_of t) ClauseArgument) InBrackets Skip
act_of Dollars t f = InDollars
act_of (Arguments dollars) t f = cond (eqb (kind_of t) ClauseArgument) (cond dollars InDollars Convert) Skip
act_of (Named n) t f = cond (eqb (kind_of t) ClauseArgument) (Name n) Skip
act_of Inside t f = cond (is_ends (kind_of t)) Skip Convert
act_of Figure t f = cond (is_ends (kind_of t) || is_named t) Skip Convert
act_of (Table exterior) t f =
    cond (is_ends (kind_of t)) Skip (cell_act exterior (kind_of t) (drop 1 (cmd_name (children_of t))))

-- ---- what an act comes to

-- what is written before the child, or in its place
abbrev pub before : Act → List ℕ → List ℕ
before Skip s = []
before Convert s = []
before ThenSpace s = []
before Space s = space
before ThenComma s = []
before InBrackets s = left_bracket
before InDollars s = dollar
before SplitBare s = no_base ++ (s ++ left_paren)
before SplitBased s = s ++ left_paren
before (Name n) s = named_arg ++ (decimal n ++ colon_space)
before Empty s = empty_cell
before EmptyLast s = last_empty_cell
before ThinRule s = thin_rule
before ThickRule s = thick_rule
before Open s = left_bracket
before Close s = argument_end
before CloseLast s = last_cell_end

-- whether the child is converted
abbrev pub converts : Act → Bool
converts Skip = false
converts Convert = true
converts ThenSpace = true
converts Space = false
converts ThenComma = true
converts InBrackets = true
converts InDollars = true
converts SplitBare = false
converts SplitBased = false
converts (Name n) = true
converts Empty = false
converts EmptyLast = false
converts ThinRule = false
converts ThickRule = false
converts Open = true
converts Close = false
converts CloseLast = false

-- what is written after it
abbrev pub behind : Act → List ℕ
behind Skip = []
behind Convert = []
behind ThenSpace = space
behind Space = []
behind ThenComma = comma
behind InBrackets = right_bracket
behind InDollars = dollar
behind SplitBare = []
behind SplitBased = []
behind (Name n) = comma
behind Empty = []
behind EmptyLast = []
behind ThinRule = []
behind ThickRule = []
behind Open = []
behind Close = []
behind CloseLast = []

-- ---- the loop

-- white space before the split is no base, anything else is
abbrev pub next_attach : Attach → ℕ → Attach
next_attach Bare k = cond (is_split k) Split (cond (eqb k TokenWhiteSpace) Bare Based)
next_attach Based k = cond (is_split k) Split Based
next_attach Split k = Split

-- whether the next child stands outside a cell
abbrev pub next_exterior : Bool → Act → Bool
next_exterior e Skip = e
next_exterior e Convert = e
next_exterior e ThenSpace = e
next_exterior e Space = e
next_exterior e ThenComma = e
next_exterior e InBrackets = e
next_exterior e InDollars = e
next_exterior e SplitBare = e
next_exterior e SplitBased = e
next_exterior e (Name n) = e
next_exterior e Empty = e
next_exterior e EmptyLast = e
next_exterior e ThinRule = e
next_exterior e ThickRule = e
next_exterior e Open = false
next_exterior e Close = true
next_exterior e CloseLast = true

-- the loop's state after a child of kind k with which it did a
abbrev pub next_loop : Loop → ℕ → Act → Loop
next_loop Plain k a = Plain
next_loop (Curly blank) k a = Curly (blank && is_blank k)
next_loop Spaced k a = Spaced
next_loop (Attached s) k a = Attached (next_attach s k)
next_loop Greedy k a = Greedy
next_loop Separated k a = Separated
next_loop Bracketed k a = Bracketed
next_loop Dollars k a = Dollars
next_loop (Arguments dollars) k a = Arguments dollars
next_loop (Named n) k a = cond (eqb k ClauseArgument) (Named (n + 1)) (Named n)
next_loop Inside k a = Inside
next_loop Figure k a = Figure
next_loop (Table exterior) k a = Table (next_exterior exterior a)

abbrev pub attach_end : Attach → List ℕ
attach_end Bare = []
attach_end Based = []
attach_end Split = right_paren

-- what a loop ends with: a blank curly group in Math writes zws; a table closes a cell that is still open
abbrev pub loop_end : Loop → List ℕ
loop_end Plain = []
loop_end (Curly blank) = cond blank blank_group []
loop_end Spaced = []
loop_end (Attached a) = attach_end a
loop_end Greedy = []
loop_end Separated = []
loop_end Bracketed = []
loop_end Dollars = []
loop_end (Arguments dollars) = []
loop_end (Named n) = []
loop_end Inside = []
loop_end Figure = []
loop_end (Table exterior) = cond exterior [] last_cell_end ++ table_end

-- one child
unfoldable pub turn : (Tree → Carry → Outcome) → Act → Tree → Carry → Outcome
turn conv a t c = after (before a (text_of t)) (closing (behind a) (cond (converts a) (conv t c) (done c [])))

-- the children, the first of them o rows below their parent
unfoldable pub each : (Tree → Carry → Outcome) → ℕ → Loop → Forest → Carry → Outcome
each conv o l none c = done c (loop_end l)
each conv o l (more t f) c =
    and_then (shift o (turn conv (act_of l t f) t c)) (each conv (o + size t) (next_loop l (kind_of t) (act_of l t f)) f)
