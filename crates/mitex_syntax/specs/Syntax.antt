-- The kinds of tree elements, 1 to 45, in the order in which the main match of `Converter::convert` names them.
use Rattle.std.specs.Prelude.{Bool, ◌&&◌, ◌||◌, not, ℕ, eqb, leb}

abbrev pub TokenError : ℕ
TokenError = 1

abbrev pub ItemLR : ℕ
ItemLR = 2

abbrev pub ClauseArgument : ℕ
ClauseArgument = 3

abbrev pub ScopeRoot : ℕ
ScopeRoot = 4

abbrev pub ItemText : ℕ
ItemText = 5

abbrev pub ItemBracket : ℕ
ItemBracket = 6

abbrev pub ItemParen : ℕ
ItemParen = 7

abbrev pub ItemFormula : ℕ
ItemFormula = 8

abbrev pub ItemCurly : ℕ
ItemCurly = 9

abbrev pub ClauseLR : ℕ
ClauseLR = 10

abbrev pub ItemAttachComponent : ℕ
ItemAttachComponent = 11

abbrev pub ClauseCommandName : ℕ
ClauseCommandName = 12

abbrev pub ItemBegin : ℕ
ItemBegin = 13

abbrev pub ItemEnd : ℕ
ItemEnd = 14

abbrev pub TokenWord : ℕ
TokenWord = 15

abbrev pub TokenLBrace : ℕ
TokenLBrace = 16

abbrev pub TokenRBrace : ℕ
TokenRBrace = 17

abbrev pub TokenDollar : ℕ
TokenDollar = 18

abbrev pub TokenBeginMath : ℕ
TokenBeginMath = 19

abbrev pub TokenEndMath : ℕ
TokenEndMath = 20

abbrev pub TokenComment : ℕ
TokenComment = 21

abbrev pub ItemBlockComment : ℕ
ItemBlockComment = 22

abbrev pub TokenWhiteSpace : ℕ
TokenWhiteSpace = 23

abbrev pub TokenLineBreak : ℕ
TokenLineBreak = 24

abbrev pub TokenApostrophe : ℕ
TokenApostrophe = 25

abbrev pub TokenComma : ℕ
TokenComma = 26

abbrev pub TokenSlash : ℕ
TokenSlash = 27

abbrev pub TokenCaret : ℕ
TokenCaret = 28

abbrev pub TokenUnderscore : ℕ
TokenUnderscore = 29

abbrev pub TokenHash : ℕ
TokenHash = 30

abbrev pub TokenAsterisk : ℕ
TokenAsterisk = 31

abbrev pub TokenAtSign : ℕ
TokenAtSign = 32

abbrev pub TokenDitto : ℕ
TokenDitto = 33

abbrev pub TokenSemicolon : ℕ
TokenSemicolon = 34

abbrev pub TokenLParen : ℕ
TokenLParen = 35

abbrev pub TokenRParen : ℕ
TokenRParen = 36

abbrev pub TokenLBracket : ℕ
TokenLBracket = 37

abbrev pub TokenRBracket : ℕ
TokenRBracket = 38

abbrev pub TokenTilde : ℕ
TokenTilde = 39

abbrev pub TokenAmpersand : ℕ
TokenAmpersand = 40

abbrev pub ItemNewLine : ℕ
ItemNewLine = 41

abbrev pub TokenCommandSym : ℕ
TokenCommandSym = 42

abbrev pub ItemCmd : ℕ
ItemCmd = 43

abbrev pub ItemEnv : ℕ
ItemEnv = 44

abbrev pub ItemTypstCode : ℕ
ItemTypstCode = 45

-- a kind
abbrev pub is_kind : ℕ → Bool
is_kind k = leb 1 k && leb k 45

-- kinds named Token, ClauseCommandName and ItemNewLine are tokens
abbrev pub is_token : ℕ → Bool
is_token k =
    eqb k TokenError || (eqb k ClauseCommandName || ((leb TokenWord k && leb k TokenComment) || (leb TokenWhiteSpace k && leb k TokenCommandSym)))

-- the rest are nodes; TokenError may be either
abbrev pub is_node : ℕ → Bool
is_node k = eqb k TokenError || (is_kind k && not (is_token k))

-- `is_trivia`
abbrev pub is_trivia : ℕ → Bool
is_trivia k = eqb k TokenLineBreak || (eqb k TokenWhiteSpace || (eqb k TokenComment || eqb k ItemNewLine))
