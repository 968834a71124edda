-- The starred ones of the cases tried by hand, as one statement over a table: files and buffers in, an answer and buffers out, all
-- of them bytes, by the definitions that the contracts of the calls cite (`result`). The table is `hand`, the statement `starred`. A second
-- table, `small`, has edits of three words, refused ones among them, buffers one byte too short, and a table whose last cell is open; a
-- third, `altered`, has insertions and removals; a fourth, `joint`, has several blocks replaced together.
-- A file is written as it stands: the text area, which reads like LaTeX, its rows of 8 bytes, and the trailer. Bytes that no call
-- has written are 7, so that one sees what is left alone.
use Rattle.std.specs.Prelude.{◌≡◌, refl, ℕ, ◌+◌, ◌*◌, ◌-◌, ℤ, pos, neg_ℤ, length, take, replicate}
use mathlib.Core.List.{List, [], ◌∷◌, ◌++◌, map, flatten}
use Prim.Native.String.{String}
use Rattle.text.specs.Ascii.{ascii}
use Rattle.text.specs.Numbers.{four}
use Rattle.text.specs.Compare.{precedes}
use Rattle.utf8.specs.Utf8.{char_steps, valid}
use Rattle.mitex_spec.specs.RuleFile.{rises_from, rule_row_fits, rules_in, rules_of, text_of_rules, rows_of_rules, file_of_rules}
use Rattle.mitex_syntax.specs.Syntax.{ClauseArgument, ScopeRoot, ItemFormula, ItemCurly, ItemAttachComponent, ClauseCommandName}
use Rattle.mitex_syntax.specs.Syntax.{ItemBegin, ItemEnd, TokenWord, TokenLBrace, TokenRBrace, TokenDollar, TokenWhiteSpace}
use Rattle.mitex_syntax.specs.Syntax.{TokenLineBreak, TokenCaret, ItemNewLine, TokenCommandSym, ItemCmd, ItemEnv}
use Rattle.mitex_syntax.specs.Tree.{size, rows_of, text_of, file_of, count}
use Rattle.tree_file.specs.Layout.{tree_row_at, lines, grow, split, decode}
use Rattle.tree_file.specs.Depth.{depth}
use Rattle.tree_file.specs.Shape.{lowest}
use Rattle.tree_file.specs.Check.{check_tree}
use Rattle.mitex_meaning.specs.Examples.{over, few_rules, hold}
use Rattle.mitex_meaning.specs.ExamplesHand.{hand_examples}
use Rattle.ledger.specs.Ledger.{row_size, encode_carry, encode_row, decode_row, all_zero, marks_fit, row_fits, fits, move_row, same_carry}
use Rattle.edit_meaning.specs.Walk.{walk, walk_until}
use Rattle.edit_meaning.specs.Edit.{Answer, Result, room_for_text, room, settle, conversion, convert_document}
use Rattle.edit_meaning.specs.Edit.{edit_fits, text_after, ledger_after, write, again, edit}
use Rattle.edit_meaning.specs.Edit.Answer.{refused, converted, edited}
use Rattle.edit_meaning.specs.Changes.{Kind, change_fits, putting_in, taking_out, each_from, remake, front_over, exchange, change}
use Rattle.edit_meaning.specs.Changes.Kind.{put_in, take_out, replace_all}
use Rattle.manuscript.specs.Manuscript.{manuscript}

-- ---- calls

-- what a call is given
pub data Call : Type 0 where
  convert_call : (mode : ℕ) (rules tree text ledger : List ℕ) → Call
  edit_call : (mode : ℕ) (rules tree : List ℕ) (block kept : ℕ) (text ledger : List ℕ) → Call
  alter_call : (mode : ℕ) (rules tree : List ℕ) (k : Kind) (kept : ℕ) (text ledger : List ℕ) → Call

-- what it answers and leaves; whoever unfolds this unfolds all that a call computes by, of which `hold` has the conversion's part
unfoldable pub result : Call → Result
unfolding rules_of rules_in rule_row_fits rises_from valid char_steps precedes check_tree decode lines tree_row_at grow split count depth lowest hold
    walk walk_until conversion convert_document settle room room_for_text edit edit_fits again write text_after ledger_after
    change change_fits remake putting_in taking_out each_from exchange front_over
    encode_row encode_carry decode_row fits row_fits marks_fit all_zero move_row same_carry
result (convert_call mode rules tree text ledger) = convert_document (manuscript mode rules) tree text ledger
result (edit_call mode rules tree block kept text ledger) = edit (manuscript mode rules) tree block kept text ledger
result (alter_call mode rules tree k kept text ledger) = change (manuscript mode rules) tree k kept text ledger

-- a call, and what it is to give: an answer, the text buffer and the ledger
pub record Trial : Type 0 where
  pub call : Call
  pub gives : Result

abbrev pub trial : Call → Answer → List ℕ → List ℕ → Trial
trial c a text ledger = record { call = c; gives = record { answer = a; text = text; ledger = ledger } }

-- ---- bytes

abbrev pub text_mode : ℕ
text_mode = 0

abbrev math_mode : ℕ
math_mode = 1

-- rows of a tree file: a node over so many rows, a token with so many bytes of text
abbrev node_bytes : ℕ → ℕ → List ℕ
node_bytes kind under = kind ∷ 0 ∷ 0 ∷ 0 ∷ four under []

abbrev token_bytes : ℕ → ℕ → List ℕ
token_bytes kind size = kind ∷ 1 ∷ 0 ∷ 0 ∷ four size []

-- a file: text, rows, where these start and how many they are
abbrev file_with : String → List (List ℕ) → List ℕ
file_with s rows = ascii s ++ flatten rows ++ four (length (ascii s)) (four (length rows) [])

-- the root over these rows
abbrev tree_with : String → List (List ℕ) → List ℕ
tree_with s rows = file_with s (node_bytes ScopeRoot (length rows) ∷ rows)

-- `quote`: no alias, class 3, a normal environment. `tabular`: alias `table`, class 8, a table
abbrev pub rule_file : List ℕ
rule_file = file_with "quotetabulartable" ((5 ∷ 0 ∷ 255 ∷ 255 ∷ 3 ∷ 0 ∷ 0 ∷ 0 ∷ []) ∷ (7 ∷ 0 ∷ 5 ∷ 0 ∷ 8 ∷ 0 ∷ 0 ∷ 0 ∷ []) ∷ [])

abbrev sevens : ℕ → List ℕ
sevens n = replicate n 7

abbrev pub zeros : ℕ → List ℕ
zeros n = replicate n 0

-- a row of the ledger: its first bytes (4 of the length, the flag, whether a label is held, its length, a zero, the label), then zeros
abbrev ledger_row : List ℕ → List ℕ
ledger_row l = l ++ zeros (row_size - length l)

-- a row after a block that sets the flag, as a line feed does; a row that holds the label `e`
abbrev flag_row : ℕ → List ℕ
flag_row n = ledger_row (n ∷ 0 ∷ 0 ∷ 0 ∷ 1 ∷ [])

abbrev label_row : ℕ → List ℕ
label_row n = ledger_row (n ∷ 0 ∷ 0 ∷ 0 ∷ 0 ∷ 1 ∷ 1 ∷ 0 ∷ 101 ∷ [])

-- a ledger that no call has written, with two bytes more than the rows of so many blocks
abbrev ledger_for : ℕ → List ℕ
ledger_for n = sevens (row_size * n + 2)

abbrev minus : ℕ → ℤ
minus n = neg_ℤ (pos n)

-- ---- documents

abbrev word_row : ℕ → List ℕ
word_row n = token_bytes TokenWord n

abbrev space_row : List ℕ
space_row = token_bytes TokenWhiteSpace 1

abbrev break_row : List ℕ
break_row = token_bytes TokenLineBreak 1

abbrev caret_row : List ℕ
caret_row = token_bytes TokenCaret 1

abbrev dollar_row : List ℕ
dollar_row = token_bytes TokenDollar 1

-- `\item`
abbrev item_rows : List (List ℕ)
item_rows = node_bytes ItemCmd 1 ∷ token_bytes ClauseCommandName 5 ∷ []

abbrev braces_rows : List (List ℕ) → List (List ℕ)
braces_rows rows = node_bytes ItemCurly (length rows + 2) ∷ token_bytes TokenLBrace 1 ∷ rows ++ token_bytes TokenRBrace 1 ∷ []

-- a word of so many bytes in braces, as an argument
abbrev argument_rows : ℕ → List (List ℕ)
argument_rows n = node_bytes ClauseArgument 4 ∷ braces_rows (word_row n ∷ [])

-- `${\label{e}}$`
abbrev formula_rows : List (List ℕ)
formula_rows =
    node_bytes ItemFormula 12 ∷ dollar_row ∷ braces_rows (node_bytes ItemCmd 6 ∷ token_bytes ClauseCommandName 6 ∷ argument_rows 1) ++ dollar_row ∷ []

-- a table with the argument `{|l|}` around some rows; of its `\begin` and `\end` the text has the name alone
abbrev table_around : List (List ℕ) → List (List ℕ)
table_around rows =
    node_bytes ItemEnv (9 + length rows)
    ∷ node_bytes ItemBegin 6
    ∷ token_bytes TokenCommandSym 7
    ∷ argument_rows 3
    ++ rows
    ++ node_bytes ItemEnd 1
    ∷ token_bytes TokenCommandSym 7
    ∷ []

-- a cell `a` and `\\` in it
abbrev table_rows : List (List ℕ)
table_rows = table_around (word_row 1 ∷ token_bytes ItemNewLine 2 ∷ [])

abbrev table_text : List ℕ
table_text =
    ascii "#table(stroke: none,\ncolumns: 1,\nalign: (left, ),\n"
    ++ ascii "table.vline(stroke: .5pt, x: 0), table.vline(stroke: .5pt, x: 1), \n[a],\n);"

-- that table alone; `${\label{e}}$` and then that table; and block 0 of this edited to `a`
abbrev pub table_tree : List ℕ
table_tree = tree_with "tabular{|l|}a\\\\tabular" table_rows

abbrev pub labelled_tree : List ℕ
labelled_tree = tree_with "${\\label{e}}$tabular{|l|}a\\\\tabular" (formula_rows ++ table_rows)

abbrev pub unlabelled_tree : List ℕ
unlabelled_tree = tree_with "atabular{|l|}a\\\\tabular" (word_row 1 ∷ table_rows)

abbrev formula_text : List ℕ
formula_text = ascii "#math.equation(block: false, $$);"

-- the second of these, converted: the first row holds the label `e`
abbrev kept_text : List ℕ
kept_text = formula_text ++ table_text ++ ascii "<e>" ++ sevens 5

abbrev kept_ledger : List ℕ
kept_ledger = label_row 33 ++ ledger_row (160 ∷ []) ++ sevens 4

-- ---- the starred cases

-- a call with its mode, rule file, tree file and buffers (an edit's block and kept length before these); then what it gives
abbrev pub hand : List Trial
hand =
    -- the empty root
    trial (convert_call text_mode rule_file (tree_with "" []) (sevens 2) (sevens 2)) (converted 0 0) (sevens 2) (sevens 2)
    -- Math `ab`
    ∷ trial (convert_call math_mode rule_file (tree_with "ab" (word_row 2 ∷ [])) (sevens 6) (ledger_for 1))
    (converted 4 1) (ascii "a b " ++ sevens 2) (ledger_row (4 ∷ []) ++ sevens 2)
    -- line feed, space, space: the flag is set after the first
    ∷ trial (convert_call text_mode rule_file (tree_with "\n  " (break_row ∷ space_row ∷ space_row ∷ [])) (sevens 4) (ledger_for 3))
    (converted 2 3) (ascii "\n " ++ sevens 2) (flag_row 1 ++ ledger_row (1 ∷ []) ++ ledger_row (2 ∷ []) ++ sevens 2)
    -- one leading space
    ∷ trial (convert_call text_mode rule_file (tree_with " " (space_row ∷ [])) (sevens 3) (ledger_for 1))
    (converted 1 1) (ascii " " ++ sevens 2) (ledger_row (1 ∷ []) ++ sevens 2)
    -- Math `{}`
    ∷ trial (convert_call math_mode rule_file (tree_with "{}" (braces_rows [])) (sevens 6) (ledger_for 1))
    (converted 4 1) (ascii "zws " ++ sevens 2) (ledger_row (4 ∷ []) ++ sevens 2)
    -- Math `{a}`
    ∷ trial (convert_call math_mode rule_file (tree_with "{a}" (braces_rows (word_row 1 ∷ []))) (sevens 4) (ledger_for 1))
    (converted 2 1) (ascii "a " ++ sevens 2) (ledger_row (2 ∷ []) ++ sevens 2)
    -- Math `x^2`
    ∷ trial (convert_call math_mode rule_file (tree_with "x^2" (node_bytes ItemAttachComponent 3 ∷ word_row 1 ∷ caret_row ∷ word_row 1 ∷ [])) (sevens 9) (ledger_for 1))
    (converted 7 1) (ascii "x ^(2 )" ++ sevens 2) (ledger_row (7 ∷ []) ++ sevens 2)
    -- Math `^2`
    ∷ trial (convert_call math_mode rule_file (tree_with "^2" (node_bytes ItemAttachComponent 2 ∷ caret_row ∷ word_row 1 ∷ [])) (sevens 10) (ledger_for 1))
    (converted 8 1) (ascii "zws^(2 )" ++ sevens 2) (ledger_row (8 ∷ []) ++ sevens 2)
    -- `$x$`
    ∷ trial (convert_call text_mode rule_file (tree_with "$x$" (node_bytes ItemFormula 3 ∷ dollar_row ∷ word_row 1 ∷ dollar_row ∷ [])) (sevens 37) (ledger_for 1))
    (converted 35 1) (ascii "#math.equation(block: false, $x $);" ++ sevens 2) (ledger_row (35 ∷ []) ++ sevens 2)
    -- `\item` as row 1
    ∷ trial (convert_call text_mode rule_file (tree_with "\\item" item_rows) (sevens 2) (ledger_for 1)) (refused 11 1) (sevens 2) (ledger_for 1)
    -- the table
    ∷ trial (convert_call text_mode rule_file table_tree (sevens 126) (ledger_for 1))
    (converted 124 1) (table_text ++ sevens 2) (ledger_row (124 ∷ []) ++ sevens 2)
    -- `${\label{e}}$` then that table
    ∷ trial (convert_call text_mode rule_file labelled_tree (sevens 165) (sevens (row_size * 2 + 4)))
    (converted 160 2) kept_text kept_ledger
    -- block 0 edited to `a`, in the buffers that this left
    ∷ trial (edit_call text_mode rule_file unlabelled_tree 0 160 kept_text kept_ledger)
    (edited 125 (minus 35) 2) (ascii "a" ++ table_text ++ zeros 35 ++ sevens 5) (ledger_row (1 ∷ []) ++ ledger_row (125 ∷ []) ++ sevens 4)
    ∷ []

-- the definitions compute what the whole table says
pub starred : map (λ c. result c.call) hand ≡ map (λ c. c.gives) hand
unfolding result flatten
starred = refl

-- ---- small edits, buffers one byte too short, and a table whose last cell is open

-- three words, of which the second has so many bytes; and `one`, `two`, `six` as they are kept
abbrev words_tree : String → ℕ → List ℕ
words_tree s n = tree_with s (word_row 3 ∷ word_row n ∷ word_row 3 ∷ [])

-- the table with nothing after its cell
abbrev open_cell_tree : List ℕ
open_cell_tree = tree_with "tabular{|l|}atabular" (table_around (word_row 1 ∷ []))

abbrev words_text : List ℕ
words_text = ascii "onetwosix" ++ sevens 3

abbrev words_ledger : List ℕ
words_ledger = ledger_row (3 ∷ []) ++ ledger_row (6 ∷ []) ++ ledger_row (9 ∷ []) ++ sevens 2

abbrev pub small : List Trial
small =
    -- the edit stops at once; what follows is moved, and zeros stand where the text shrank
    trial (edit_call text_mode rule_file (words_tree "onexsix" 1) 1 9 words_text words_ledger)
    (edited 7 (minus 2) 1) (ascii "onexsix" ++ zeros 2 ++ sevens 3) (ledger_row (3 ∷ []) ++ ledger_row (4 ∷ []) ++ ledger_row (7 ∷ []) ++ sevens 2)
    -- the text fills its buffer; the buffer is one byte too short, and nothing changes
    ∷ trial (edit_call text_mode rule_file (words_tree "oneelevensix" 6) 1 9 words_text words_ledger)
    (edited 12 (pos 3) 1) (ascii "oneelevensix") (ledger_row (3 ∷ []) ++ ledger_row (9 ∷ []) ++ ledger_row (12 ∷ []) ++ sevens 2)
    ∷ trial (edit_call text_mode rule_file (words_tree "oneseventhsix" 7) 1 9 words_text words_ledger) (refused 15 0) words_text words_ledger
    -- whatever the text came from: what stands before the block and after it is kept
    ∷ trial (edit_call text_mode rule_file (words_tree "onexsix" 1) 1 9 (ascii "ONETWOSIX") words_ledger)
    (edited 7 (minus 2) 1) (ascii "ONExSIX" ++ zeros 2) (ledger_row (3 ∷ []) ++ ledger_row (4 ∷ []) ++ ledger_row (7 ∷ []) ++ sevens 2)
    -- a block begins with the flag of the row before: a space after a line feed writes nothing
    ∷ trial (edit_call text_mode rule_file (tree_with "\n " (break_row ∷ space_row ∷ [])) 1 2 (ascii "\na") (flag_row 1 ++ ledger_row (2 ∷ [])))
    (edited 1 (minus 1) 1) (ascii "\n" ++ zeros 1) (flag_row 1 ++ ledger_row (1 ∷ []))
    -- 6: no such block; the kept length is not the last row's, or exceeds the buffer; a row one byte too short; lengths that fall
    ∷ trial (edit_call text_mode rule_file (words_tree "onexsix" 1) 3 9 words_text words_ledger) (refused 6 0) words_text words_ledger
    ∷ trial (edit_call text_mode rule_file (words_tree "onexsix" 1) 1 8 words_text words_ledger) (refused 6 0) words_text words_ledger
    ∷ trial (edit_call text_mode rule_file (words_tree "onexsix" 1) 1 9 (ascii "onetwosi") words_ledger) (refused 6 0) (ascii "onetwosi") words_ledger
    ∷ trial (edit_call text_mode rule_file (words_tree "onexsix" 1) 1 9 words_text (take (row_size * 3 - 1) words_ledger)) (refused 6 0) words_text (take (row_size * 3 - 1) words_ledger)
    ∷ trial (edit_call text_mode rule_file (words_tree "onexsix" 1) 1 9 words_text (ledger_row (6 ∷ []) ++ ledger_row (3 ∷ []) ++ ledger_row (9 ∷ [])))
    (refused 6 0) words_text (ledger_row (6 ∷ []) ++ ledger_row (3 ∷ []) ++ ledger_row (9 ∷ []))
    -- 1 comes before 6, and 6 before 11; the row of an 11 is counted from the root
    ∷ trial (edit_call 2 rule_file (words_tree "onexsix" 1) 3 9 words_text words_ledger) (refused 1 0) words_text words_ledger
    ∷ trial (edit_call text_mode rule_file (tree_with "one\\itemsix" (word_row 3 ∷ item_rows ++ word_row 3 ∷ [])) 1 8 words_text words_ledger)
    (refused 6 0) words_text words_ledger
    ∷ trial (edit_call text_mode rule_file (tree_with "one\\itemsix" (word_row 3 ∷ item_rows ++ word_row 3 ∷ [])) 1 9 words_text words_ledger)
    (refused 11 2) words_text words_ledger
    -- the table without its `\\`: the same text fills the buffer, and a buffer one byte shorter is 15; the `\\` taken away by an edit
    ∷ trial (convert_call text_mode rule_file open_cell_tree (sevens 124) (ledger_for 1)) (converted 124 1) table_text (ledger_row (124 ∷ []) ++ sevens 2)
    ∷ trial (convert_call text_mode rule_file open_cell_tree (sevens 123) (ledger_for 1)) (refused 15 0) (sevens 123) (ledger_for 1)
    ∷ trial (edit_call text_mode rule_file open_cell_tree 0 124 table_text (ledger_row (124 ∷ []))) (edited 124 (pos 0) 1) table_text (ledger_row (124 ∷ []))
    -- Convert: the text buffer is one byte too short, or the ledger
    ∷ trial (convert_call math_mode rule_file (tree_with "ab" (word_row 2 ∷ [])) (sevens 3) (sevens row_size)) (refused 15 0) (sevens 3) (sevens row_size)
    ∷ trial (convert_call math_mode rule_file (tree_with "ab" (word_row 2 ∷ [])) (sevens 4) (sevens (row_size - 1))) (refused 15 0) (sevens 4) (sevens (row_size - 1))
    ∷ []

pub small-hold : map (λ c. result c.call) small ≡ map (λ c. c.gives) small
unfolding result flatten
small-hold = refl

-- ---- blocks put in and taken out

-- `one`, `two`, `six` with `x` after `one`, and without `two`
abbrev four_tree : List ℕ
four_tree = tree_with "onextwosix" (word_row 3 ∷ word_row 1 ∷ word_row 3 ∷ word_row 3 ∷ [])

abbrev two_tree : List ℕ
two_tree = tree_with "onesix" (word_row 3 ∷ word_row 3 ∷ [])

-- a space between the label's block and the table; and this converted
abbrev spaced_tree : List ℕ
spaced_tree = tree_with "${\\label{e}}$ tabular{|l|}a\\\\tabular" (formula_rows ++ space_row ∷ table_rows)

abbrev spaced_text : List ℕ
spaced_text = formula_text ++ ascii " " ++ table_text ++ ascii "<e>" ++ sevens 4

abbrev spaced_ledger : List ℕ
spaced_ledger = label_row 33 ++ label_row 34 ++ ledger_row (161 ∷ []) ++ sevens 4

abbrev pub altered : List Trial
altered =
    -- `x` put in after `one`: the later rows move by a place and in length; `two` taken out: nothing is converted, and the row left over
    -- is zeros
    trial (alter_call text_mode rule_file four_tree (put_in 1) 9 words_text (words_ledger ++ sevens row_size))
    (edited 10 (pos 1) 1) (ascii "onextwosix" ++ sevens 2) (ledger_row (3 ∷ []) ++ ledger_row (4 ∷ []) ++ ledger_row (7 ∷ []) ++ ledger_row (10 ∷ []) ++ sevens 2)
    ∷ trial (alter_call text_mode rule_file two_tree (take_out 1) 9 words_text words_ledger)
    (edited 6 (minus 3) 0) (ascii "onesix" ++ zeros 3 ++ sevens 3) (ledger_row (3 ∷ []) ++ ledger_row (6 ∷ []) ++ zeros row_size ++ sevens 2)
    -- a line feed after one, before a space that writes nothing: the flag is the one that stood before the position
    ∷ trial (alter_call text_mode rule_file (tree_with "\n\n " (break_row ∷ break_row ∷ space_row ∷ [])) (put_in 1) 1 (ascii "\n" ++ sevens 2) (flag_row 1 ++ ledger_row (1 ∷ []) ++ sevens (row_size + 2)))
    (edited 2 (pos 1) 1) (ascii "\n\n" ++ sevens 1) (flag_row 1 ++ flag_row 2 ++ ledger_row (2 ∷ []) ++ sevens 2)
    -- a space put in after the label's block, which is held on, and taken out again
    ∷ trial (alter_call text_mode rule_file spaced_tree (put_in 1) 160 kept_text (kept_ledger ++ sevens row_size)) (edited 161 (pos 1) 1) spaced_text spaced_ledger
    ∷ trial (alter_call text_mode rule_file labelled_tree (take_out 1) 161 spaced_text spaced_ledger)
    (edited 160 (minus 1) 0) (formula_text ++ table_text ++ ascii "<e>" ++ zeros 1 ++ sevens 4) (label_row 33 ++ ledger_row (160 ∷ []) ++ zeros row_size ++ sevens 4)
    -- the label's block taken out: the table is converted again, and loses its label
    ∷ trial (alter_call text_mode rule_file table_tree (take_out 0) 160 kept_text kept_ledger)
    (edited 124 (minus 36) 1) (table_text ++ zeros 36 ++ sevens 5) (ledger_row (124 ∷ []) ++ zeros row_size ++ sevens 4)
    -- 15: the ledger has no place for the row put in. 6: a position beyond the old count, no block to put in, no block to take out
    ∷ trial (alter_call text_mode rule_file four_tree (put_in 1) 9 words_text words_ledger) (refused 15 0) words_text words_ledger
    ∷ trial (alter_call text_mode rule_file four_tree (put_in 4) 9 words_text words_ledger) (refused 6 0) words_text words_ledger
    ∷ trial (alter_call text_mode rule_file (tree_with "" []) (put_in 0) 0 words_text words_ledger) (refused 6 0) words_text words_ledger
    ∷ trial (alter_call text_mode rule_file two_tree (take_out 3) 9 words_text words_ledger) (refused 6 0) words_text words_ledger
    ∷ []

pub altered-hold : map (λ c. result c.call) altered ≡ map (λ c. c.gives) altered
unfolding result flatten
altered-hold = refl

-- ---- several blocks replaced together

-- three words of so many bytes
abbrev pub three_words : String → ℕ → ℕ → ℕ → List ℕ
three_words s i j k = tree_with s (word_row i ∷ word_row j ∷ word_row k ∷ [])

-- the space before the label's block and the table
abbrev space_first_tree : List ℕ
space_first_tree = tree_with " ${\\label{e}}$tabular{|l|}a\\\\tabular" (space_row ∷ formula_rows ++ table_rows)

-- a line feed and a space
abbrev feed_tree : List ℕ
feed_tree = tree_with "\n " (break_row ∷ space_row ∷ [])

-- `one` and `six` replaced by a letter each
abbrev both_short : List ℕ → Call
both_short ks = alter_call text_mode rule_file (three_words "xtwoy" 1 3 1) (replace_all ks) 9 words_text words_ledger

abbrev pub joint : List Trial
joint =
    -- `one` and `six` replaced around `two`, which is moved down, or up; where the text fills its buffer, a length in between is no 15
    trial (alter_call text_mode rule_file (three_words "xtwoeleven" 1 3 6) (replace_all (0 ∷ 2 ∷ [])) 9 words_text words_ledger)
    (edited 10 (pos 1) 2) (ascii "xtwoeleven" ++ sevens 2) (ledger_row (1 ∷ []) ++ ledger_row (4 ∷ []) ++ ledger_row (10 ∷ []) ++ sevens 2)
    ∷ trial (alter_call text_mode rule_file (three_words "seventwox" 5 3 1) (replace_all (0 ∷ 2 ∷ [])) 9 (ascii "onetwosix") words_ledger)
    (edited 9 (pos 0) 2) (ascii "seventwox") (ledger_row (5 ∷ []) ++ ledger_row (8 ∷ []) ++ ledger_row (9 ∷ []) ++ sevens 2)
    ∷ trial (alter_call text_mode rule_file (three_words "elevenxto" 6 1 2) (replace_all (0 ∷ 1 ∷ 2 ∷ [])) 9 (ascii "onetwosix") words_ledger)
    (edited 9 (pos 0) 3) (ascii "elevenxto") (ledger_row (6 ∷ []) ++ ledger_row (7 ∷ []) ++ ledger_row (9 ∷ []) ++ sevens 2)
    -- whatever the text came from: what stands between the blocks is kept
    ∷ trial (alter_call text_mode rule_file (three_words "xtwoy" 1 3 1) (replace_all (0 ∷ 2 ∷ [])) 9 (ascii "ONETWOSIX") words_ledger)
    (edited 5 (minus 4) 2) (ascii "xTWOy" ++ zeros 4) (ledger_row (1 ∷ []) ++ ledger_row (4 ∷ []) ++ ledger_row (5 ∷ []) ++ sevens 2)
    -- the label's block and the space after it change places: the label is held after both, so the table stays as it was
    ∷ trial (alter_call text_mode rule_file space_first_tree (replace_all (0 ∷ 1 ∷ [])) 161 spaced_text spaced_ledger)
    (edited 161 (pos 0) 2) (ascii " " ++ formula_text ++ table_text ++ ascii "<e>" ++ sevens 4)
    (ledger_row (1 ∷ []) ++ label_row 34 ++ ledger_row (161 ∷ []) ++ sevens 4)
    -- the label's block becomes `a`, and the table is converted again, as it is named or as it is not: once
    ∷ trial (alter_call text_mode rule_file unlabelled_tree (replace_all (0 ∷ 1 ∷ [])) 160 kept_text kept_ledger)
    (edited 125 (minus 35) 2) (ascii "a" ++ table_text ++ zeros 35 ++ sevens 5) (ledger_row (1 ∷ []) ++ ledger_row (125 ∷ []) ++ sevens 4)
    ∷ trial (alter_call text_mode rule_file unlabelled_tree (replace_all (0 ∷ [])) 160 kept_text kept_ledger)
    (edited 125 (minus 35) 2) (ascii "a" ++ table_text ++ zeros 35 ++ sevens 5) (ledger_row (1 ∷ []) ++ ledger_row (125 ∷ []) ++ sevens 4)
    -- two letters become a line feed and a space, which writes nothing after it
    ∷ trial (alter_call text_mode rule_file feed_tree (replace_all (0 ∷ 1 ∷ [])) 2 (ascii "ab") (ledger_row (1 ∷ []) ++ ledger_row (2 ∷ [])))
    (edited 1 (minus 1) 2) (ascii "\n" ++ zeros 1) (flag_row 1 ++ ledger_row (1 ∷ []))
    -- 6: no number, equal ones, falling ones, one that is not below the count. 15: one byte too long. 11: at a row counted from the root
    ∷ trial (both_short []) (refused 6 0) words_text words_ledger
    ∷ trial (both_short (0 ∷ 0 ∷ [])) (refused 6 0) words_text words_ledger
    ∷ trial (both_short (2 ∷ 0 ∷ [])) (refused 6 0) words_text words_ledger
    ∷ trial (both_short (0 ∷ 3 ∷ [])) (refused 6 0) words_text words_ledger
    ∷ trial (alter_call text_mode rule_file (three_words "seventwoxy" 5 3 2) (replace_all (0 ∷ 2 ∷ [])) 9 (ascii "onetwosix") words_ledger)
    (refused 15 0) (ascii "onetwosix") words_ledger
    ∷ trial (alter_call text_mode rule_file (tree_with "xtwo\\item" (word_row 1 ∷ word_row 3 ∷ item_rows)) (replace_all (0 ∷ 2 ∷ [])) 9 words_text words_ledger)
    (refused 11 3) words_text words_ledger
    ∷ []

pub joint-hold : map (λ c. result c.call) joint ≡ map (λ c. c.gives) joint
unfolding result flatten
joint-hold = refl

-- ---- the files once more

abbrev tree_lent : Call → List ℕ
tree_lent (convert_call mode rules tree text ledger) = tree
tree_lent (edit_call mode rules tree block kept text ledger) = tree
tree_lent (alter_call mode rules tree k kept text ledger) = tree

-- one of them byte by byte; and those of the twelve conversions spell the rules and the trees of the worked ones in `mitex_meaning`
files :
    (
    tree_with "ab" (word_row 2 ∷ [])
    ≡ 97 ∷ 98 ∷ 4 ∷ 0 ∷ 0 ∷ 0 ∷ 1 ∷ 0 ∷ 0 ∷ 0 ∷ 15 ∷ 1 ∷ 0 ∷ 0 ∷ 2 ∷ 0 ∷ 0 ∷ 0 ∷ 2 ∷ 0 ∷ 0 ∷ 0 ∷ 2 ∷ 0 ∷ 0 ∷ 0 ∷ []
    )
    × (rule_file ≡ file_of_rules few_rules)
    × (map (λ c. tree_lent c.call) (take 12 hand) ≡ map (λ c. file_of (over ScopeRoot c.blocks)) (take 12 hand_examples))
unfolding flatten file_of_rules text_of_rules rows_of_rules file_of rows_of text_of size
files = (refl, refl, refl)
