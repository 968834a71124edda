-- Worked conversions: tables.
use Rattle.std.specs.Prelude.{◌≡◌, refl, true, List, [], ◌∷◌, ◌++◌}
use Rattle.text.specs.Ascii.{ascii}
use Rattle.mitex_syntax.specs.Syntax.{TokenError, ItemBegin, ItemEnd, TokenWord}
use Rattle.mitex_syntax.specs.Tree.Tree.{token}
use Rattle.mitex_meaning.specs.Examples.{Example, example, hold, usual, rule_for, writes, over, tok, tok_word, tok_sym, tok_space, tok_new_line, tok_comment, tok_ampersand, arg}
use Rattle.mitex_meaning.specs.Examples.{braced, cmd_node, env_node}
use Rattle.mitex_meaning.specs.Examples.Expected.{text, refusal}
use Rattle.mitex_meaning.specs.declared.LaTeXMode.TheVariants.{Text}

abbrev pub cell_examples : List Example
cell_examples =
    -- table: no argument
    example usual Text (env_node "tabular" [] [] ∷ []) (refusal 12 1)
    -- table: argument with a many-byte end is 12
    ∷ example usual Text
    (env_node "tabular" (arg (token TokenWord ((195 ∷ 169 ∷ []) ++ (ascii "l}")) ∷ []) ∷ []) [] ∷ [])
    (refusal 12 1)
    -- table: argument of one byte is 12
    ∷ example usual Text (env_node "tabular" (arg (tok_word "l" ∷ []) ∷ []) [] ∷ []) (refusal 12 1)
    -- table: argument ends cut whatever they are
    ∷ example usual Text
    (env_node "tabular" (arg (tok_word "lcr" ∷ []) ∷ []) [] ∷ [])
    (writes "#table(stroke: none,\ncolumns: 1,\nalign: (center, ),\n\n);")
    -- table: white space between letters is 13, around them not
    ∷ example usual Text
    (
    env_node "tabular" (braced (token TokenWord (ascii " l" ++ (194 ∷ 160 ∷ [])) ∷ []) ∷ []) []
    ∷ env_node "tabular" (braced (tok_word "l l" ∷ []) ∷ []) []
    ∷ []
    )
    (refusal 13 11)
    -- table: 13 comes before its children
    ∷ example usual Text (env_node "tabular" (braced (tok_word "x" ∷ []) ∷ []) (tok TokenError "?" ∷ []) ∷ []) (refusal 13 1)
    -- table: no columns at all
    ∷ example usual Text
    (env_node "tabular" (braced [] ∷ []) [] ∷ [])
    (writes "#table(stroke: none,\ncolumns: 0,\nalign: (),\n\n);")
    -- table: empty cells, a rule, an open last cell
    ∷ example usual Text
    (
    env_node "tabular" (braced (tok_word "l" ∷ []) ∷ []) (tok_ampersand ∷ tok_new_line ∷ cmd_node "\\hline" (braced (tok TokenError "?" ∷ []) ∷ []) ∷ tok_space ∷ tok_word "a" ∷ tok_space ∷ tok_ampersand ∷ tok_word "b" ∷ [])
    ∷ []
    )
    (writes "#table(stroke: none,\ncolumns: 1,\nalign: (left, ),\n\n[], [],\ntable.hline(stroke: .5pt),\n[a ], [b],\n);")
    -- table: a comment outside a cell opens one
    ∷ example usual Text
    (env_node "tabular" (braced (tok_word "l" ∷ []) ∷ []) (tok_comment ∷ tok_space ∷ tok_word "a" ∷ tok_new_line ∷ tok_comment ∷ []) ∷ [])
    (writes "#table(stroke: none,\ncolumns: 1,\nalign: (left, ),\n\n[ a],\n[],\n);")
    -- table: \hline inside a cell is a normal command
    ∷ example usual Text
    (env_node "tabular" (braced (tok_word "l" ∷ []) ∷ []) (tok_word "a" ∷ cmd_node "\\hline" [] ∷ []) ∷ [])
    (refusal 9 10)
    -- table: \hline as a symbol opens a cell
    ∷ example (rule_for "hline" 0 ∷ usual) Text
    (env_node "tabular" (braced (tok_word "l" ∷ []) ∷ []) (tok_sym "\\hline" ∷ []) ∷ [])
    (writes "#table(stroke: none,\ncolumns: 1,\nalign: (left, ),\n\n[hline],\n);")
    -- table: \item in a list's table is 11
    ∷ example usual Text
    (env_node "itemize" [] (env_node "tabular" (braced (tok_word "l" ∷ []) ∷ []) (cmd_node "\\item" [] ∷ []) ∷ []) ∷ [])
    (refusal 11 12)
    -- table: all direct ItemBegin and ItemEnd are passed over
    ∷ example usual Text
    (env_node "tabular" (braced (tok_word "l" ∷ []) ∷ []) (over ItemBegin [] ∷ tok_word "a" ∷ over ItemEnd [] ∷ []) ∷ [])
    (writes "#table(stroke: none,\ncolumns: 1,\nalign: (left, ),\n\n[a],\n);")
    -- numbers are decimal: 12 columns, lines at 10 and 12
    ∷ example usual Text
    (env_node "tabular" (braced (tok_word "llllllllll|ll|" ∷ []) ∷ []) [] ∷ [])
    (text (ascii "#table(stroke: none,\ncolumns: 12,\n"
    ++ (ascii "align: (left, left, left, left, left, left, left, left, left, left, left, left, ),\n" ++ (ascii "table.vline(stroke: .5pt, x: 10), table.vline(stroke: .5pt, x: 12), \n);"))))
    -- table: the four rule commands
    ∷ example usual Text
    (env_node "tabular" (braced (tok_word "l" ∷ []) ∷ []) (cmd_node "\\hline" [] ∷ cmd_node "\\toprule" [] ∷ cmd_node "\\midrule" [] ∷ cmd_node "\\bottomrule" [] ∷ []) ∷ [])
    (writes "#table(stroke: none,\ncolumns: 1,\nalign: (left, ),\n\ntable.hline(stroke: .5pt),\ntable.hline(stroke: 1pt),\ntable.hline(stroke: .5pt),\ntable.hline(stroke: 1pt),\n);")
    ∷ []

pub cell-examples-hold : hold cell_examples ≡ true
unfolding hold
cell-examples-hold = refl
