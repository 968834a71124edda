-- The texts that the converter writes, and the names that it looks for, each once.
use Rattle.std.specs.Prelude.{ℕ, List, [], ◌++◌, Bool, true, false, cond, eqb}
use Rattle.text.specs.Ascii.{ascii}
use Rattle.mitex_syntax.specs.Syntax.{TokenApostrophe, TokenComma, TokenSlash, TokenCaret, TokenUnderscore, TokenHash, TokenAsterisk, TokenAtSign}
use Rattle.mitex_syntax.specs.Syntax.{TokenDitto, TokenSemicolon, TokenLParen, TokenRParen, TokenLBracket, TokenRBracket}
use Rattle.mitex_meaning.specs.declared.LaTeXMode.{LaTeXMode}
use Rattle.mitex_meaning.specs.declared.LaTeXMode.TheVariants.{Text, Math}
use Rattle.mitex_meaning.specs.declared.LaTeXEnv.{LaTeXEnv}
use Rattle.mitex_meaning.specs.declared.LaTeXEnv.TheVariants.{None, Figure, Table, Itemize, Enumerate, Matrix, Cases, SubStack, MathCurlyGroup}
use Rattle.mitex_meaning.specs.declared.LaTeXEnv.TheVariants.{Math as MathEnv}

-- ---- marks that stand in many places

abbrev pub left_paren : List ℕ
left_paren = ascii "("

abbrev pub right_paren : List ℕ
right_paren = ascii ")"

abbrev pub left_bracket : List ℕ
left_bracket = ascii "["

abbrev pub right_bracket : List ℕ
right_bracket = ascii "]"

abbrev pub dollar : List ℕ
dollar = ascii "$"

abbrev pub hash : List ℕ
hash = ascii "#"

abbrev pub quote : List ℕ
quote = ascii "\""

abbrev pub space : List ℕ
space = ascii " "

abbrev pub comma : List ℕ
comma = ascii ","

abbrev pub comma_space : List ℕ
comma_space = ascii ", "

abbrev pub colon_space : List ℕ
colon_space = ascii ": "

abbrev pub semicolon : List ℕ
semicolon = ascii ";"

abbrev pub line_feed : List ℕ
line_feed = ascii "\n"

-- an argument in brackets ends, and another follows
abbrev pub argument_end : List ℕ
argument_end = ascii "], "

-- the arguments of a call end, and its body begins
abbrev pub body_begin : List ℕ
body_begin = ascii ")["

-- a body in brackets ends
abbrev pub block_end : List ℕ
block_end = ascii "];"

-- ---- tokens

-- escapes; braces, dollars, the ends of formulas and comments write nothing
abbrev pub escape : ℕ → List ℕ
escape k =
    cond (eqb k TokenApostrophe) (ascii "'")
    (cond (eqb k TokenComma) (ascii "\\,")
    (cond (eqb k TokenSlash) (ascii "\\/")
    (cond (eqb k TokenCaret) (ascii "\\^")
    (cond (eqb k TokenUnderscore) (ascii "\\_")
    (cond (eqb k TokenHash) (ascii "\\#")
    (cond (eqb k TokenAsterisk) (ascii "\\*")
    (cond (eqb k TokenAtSign) (ascii "\\@")
    (cond (eqb k TokenDitto) (ascii "\\\"")
    (cond (eqb k TokenSemicolon) (ascii "\\;")
    (cond (eqb k TokenLParen) (ascii "\\(")
    (cond (eqb k TokenRParen) (ascii "\\)")
    (cond (eqb k TokenLBracket) (ascii "\\[")
    (cond (eqb k TokenRBracket) (ascii "\\]")
    [])))))))))))))

abbrev pub tilde : LaTeXMode → List ℕ
tilde Text = ascii "\\~"
tilde Math = ascii "space.nobreak "

-- between columns, and between lines; a matrix and cases have their own
abbrev pub column_mark : List ℕ
column_mark = ascii "&"

abbrev pub matrix_column : List ℕ
matrix_column = ascii "zws ,"

abbrev pub line_mark : List ℕ
line_mark = ascii "\\ "

abbrev pub matrix_line : List ℕ
matrix_line = ascii "zws ;"

abbrev pub ampersand : LaTeXEnv → List ℕ
ampersand None = column_mark
ampersand Figure = column_mark
ampersand Table = column_mark
ampersand Itemize = column_mark
ampersand Enumerate = column_mark
ampersand MathEnv = column_mark
ampersand Matrix = matrix_column
ampersand Cases = column_mark
ampersand SubStack = column_mark
ampersand MathCurlyGroup = column_mark

abbrev pub new_line : LaTeXEnv → List ℕ
new_line None = line_mark
new_line Figure = line_mark
new_line Table = line_mark
new_line Itemize = line_mark
new_line Enumerate = line_mark
new_line MathEnv = line_mark
new_line Matrix = matrix_line
new_line Cases = comma
new_line SubStack = line_mark
new_line MathCurlyGroup = []

-- ---- formulas: `$x$` and `\(x\)` stand in the line, the others alone

abbrev pub display_begin : List ℕ
display_begin = ascii "$ "

abbrev pub display_end : List ℕ
display_end = ascii " $"

abbrev pub formula_begin : LaTeXMode → Bool → List ℕ
formula_begin Text true = ascii "#math.equation(block: false, $"
formula_begin Text false = display_begin
formula_begin Math inline = []

abbrev pub formula_end : LaTeXMode → Bool → List ℕ
formula_end Text true = ascii "$);"
formula_end Text false = display_end
formula_end Math inline = []

-- an environment for Math in Text
abbrev pub dollar_begin : LaTeXMode → List ℕ
dollar_begin Text = display_begin
dollar_begin Math = []

abbrev pub dollar_end : LaTeXMode → List ℕ
dollar_end Text = display_end
dollar_end Math = []

-- ---- groups

-- a curly group with nothing in it
abbrev pub blank_group : List ℕ
blank_group = ascii "zws "

-- an attachment to nothing
abbrev pub no_base : List ℕ
no_base = ascii "zws"

-- a group from `\left` to `\right`
abbrev pub lr_open : List ℕ
lr_open = ascii "lr("

-- ---- commands

abbrev pub itemize_mark : List ℕ
itemize_mark = ascii "- "

abbrev pub enumerate_mark : List ℕ
enumerate_mark = ascii "+ "

abbrev pub strong : List ℕ
strong = ascii "#strong"

abbrev pub emph : List ℕ
emph = ascii "#emph"

-- a label as it is written
abbrev pub label_mark : List ℕ → List ℕ
label_mark s = ascii "<" ++ (s ++ ascii ">")

-- `\includegraphics`: its options, and its path between quotes
abbrev pub image_begin : List ℕ
image_begin = ascii "#image("

abbrev pub image_end : List ℕ
image_end = quote ++ right_paren

-- a share of the page
abbrev pub of_page : List ℕ
of_page = ascii " * 100%"

-- ---- colours

-- the name that a colour is written by where the rules give none
abbrev pub mitexcolor : List ℕ
mitexcolor = ascii "mitexcolor"

abbrev pub no_model : List ℕ
no_model = ascii "none, "

-- the colour where none is given
abbrev pub black : List ℕ
black = ascii "black"

-- the colour ends, and the body begins
abbrev pub color_end : List ℕ
color_end = right_bracket ++ body_begin

-- ---- environments

-- an argument of an environment for Math: `arg0: `
abbrev pub named_arg : List ℕ
named_arg = ascii "arg"

abbrev pub caption_begin : List ℕ
caption_begin = ascii "caption: ["

abbrev pub caption_end : List ℕ
caption_end = ascii "],"

-- ---- tables

-- the head
abbrev pub columns_begin : List ℕ
columns_begin = ascii "stroke: none,\ncolumns: "

abbrev pub align_begin : List ℕ
align_begin = ascii ",\nalign: ("

abbrev pub align_left : List ℕ
align_left = ascii "left, "

abbrev pub align_center : List ℕ
align_center = ascii "center, "

abbrev pub align_right : List ℕ
align_right = ascii "right, "

abbrev pub align_end : List ℕ
align_end = ascii "),\n"

abbrev pub vline_begin : List ℕ
vline_begin = ascii "table.vline(stroke: .5pt, x: "

abbrev pub vline_end : List ℕ
vline_end = ascii "), "

-- the rules and cells
abbrev pub thin_rule : List ℕ
thin_rule = ascii "table.hline(stroke: .5pt),\n"

abbrev pub thick_rule : List ℕ
thick_rule = ascii "table.hline(stroke: 1pt),\n"

abbrev pub empty_cell : List ℕ
empty_cell = ascii "[], "

abbrev pub last_empty_cell : List ℕ
last_empty_cell = ascii "[],\n"

abbrev pub last_cell_end : List ℕ
last_cell_end = ascii "],\n"

abbrev pub table_end : List ℕ
table_end = ascii ");"

-- ---- names

-- the word of `\left.`
abbrev pub dot : List ℕ
dot = ascii "."

abbrev pub left_name : List ℕ
left_name = ascii "left"

abbrev pub right_name : List ℕ
right_name = ascii "right"

abbrev pub item_name : List ℕ
item_name = ascii "item"

abbrev pub label_name : List ℕ
label_name = ascii "label"

abbrev pub image_name : List ℕ
image_name = ascii "includegraphics"

abbrev pub array_name : List ℕ
array_name = ascii "array"

abbrev pub color_name : List ℕ
color_name = ascii "color"

abbrev pub textcolor_name : List ℕ
textcolor_name = ascii "textcolor"

abbrev pub colorbox_name : List ℕ
colorbox_name = ascii "colorbox"

abbrev pub textbf_name : List ℕ
textbf_name = ascii "textbf"

abbrev pub textit_name : List ℕ
textit_name = ascii "textit"

abbrev pub substack_name : List ℕ
substack_name = ascii "substack"

abbrev pub caption_name : List ℕ
caption_name = ascii "\\caption"

abbrev pub centering_name : List ℕ
centering_name = ascii "\\centering"

-- the rules of a table
abbrev pub hline_name : List ℕ
hline_name = ascii "hline"

abbrev pub toprule_name : List ℕ
toprule_name = ascii "toprule"

abbrev pub midrule_name : List ℕ
midrule_name = ascii "midrule"

abbrev pub bottomrule_name : List ℕ
bottomrule_name = ascii "bottomrule"

-- the options of an image, and the lengths of the page
abbrev pub width_name : List ℕ
width_name = ascii "width"

abbrev pub height_name : List ℕ
height_name = ascii "height"

abbrev pub textwidth : List ℕ
textwidth = ascii "\\textwidth"

abbrev pub textheight : List ℕ
textheight = ascii "\\textheight"
