-- Worked conversions: how tables end, with a cell still open or not.
use Rattle.std.specs.Prelude.{◌≡◌, refl, true, List, [], ◌∷◌, ◌++◌}
use Rattle.text.specs.Ascii.{ascii}
use Rattle.mitex_syntax.specs.Syntax.{TokenError, ItemFormula, ItemBegin, ItemEnd, TokenComment, ItemEnv}
use Rattle.mitex_meaning.specs.Examples.{Example, example, hold, rule_for, rule_as, writes, over, tok, tok_word, tok_sym, tok_space, tok_break, tok_new_line, tok_ampersand, tok_dollar}
use Rattle.mitex_meaning.specs.Examples.{curly, braced, cmd_node, env_node}
use Rattle.mitex_meaning.specs.Examples.Expected.{text, refusal}
use Rattle.mitex_meaning.specs.declared.LaTeXMode.TheVariants.{Text, Math}

abbrev pub ending_examples : List Example
ending_examples =
    -- two cells, the second left open
    example (rule_as "tabular" 8 "table" ∷ []) Text
    (env_node "tabular" (braced (tok_word "l|c" ∷ []) ∷ []) (tok_word "a" ∷ tok_space ∷ tok_ampersand ∷ tok_space ∷ tok_word "b" ∷ []) ∷ [])
    (writes "#table(stroke: none,\ncolumns: 2,\nalign: (left, center, ),\ntable.vline(stroke: .5pt, x: 1), \n[a ], [b],\n);")
    -- the second line left open, white space at its end
    ∷ example (rule_as "tabular" 8 "table" ∷ []) Text
    (env_node "tabular" (braced (tok_word "l|c" ∷ []) ∷ []) (tok_word "a" ∷ tok_ampersand ∷ tok_word "b" ∷ tok_new_line ∷ tok_break ∷ tok_word "c" ∷ tok_break ∷ []) ∷ [])
    (writes "#table(stroke: none,\ncolumns: 2,\nalign: (left, center, ),\ntable.vline(stroke: .5pt, x: 1), \n[a], [b],\n[c\n],\n);")
    -- ends in &: no cell is open
    ∷ example (rule_as "tabular" 8 "table" ∷ []) Text
    (env_node "tabular" (braced (tok_word "l|c" ∷ []) ∷ []) (tok_word "a" ∷ tok_ampersand ∷ []) ∷ [])
    (writes "#table(stroke: none,\ncolumns: 2,\nalign: (left, center, ),\ntable.vline(stroke: .5pt, x: 1), \n[a], );")
    -- ends in a rule command outside cells
    ∷ example (rule_as "tabular" 8 "table" ∷ []) Text
    (env_node "tabular" (braced (tok_word "l|c" ∷ []) ∷ []) (cmd_node "\\hline" [] ∷ tok_word "a" ∷ tok_new_line ∷ cmd_node "\\hline" [] ∷ tok_break ∷ []) ∷ [])
    (writes "#table(stroke: none,\ncolumns: 2,\nalign: (left, center, ),\ntable.vline(stroke: .5pt, x: 1), \ntable.hline(stroke: .5pt),\n[a],\ntable.hline(stroke: .5pt),\n);")
    -- ends in a rule command inside the open cell
    ∷ example (rule_as "hline" 0 "H" ∷ rule_as "tabular" 8 "table" ∷ []) Text
    (env_node "tabular" (braced (tok_word "l|c" ∷ []) ∷ []) (tok_word "a" ∷ cmd_node "\\hline" [] ∷ []) ∷ [])
    (writes "#table(stroke: none,\ncolumns: 2,\nalign: (left, center, ),\ntable.vline(stroke: .5pt, x: 1), \n[aH ],\n);")
    -- nothing but a comment: it opens a cell
    ∷ example (rule_as "tabular" 8 "table" ∷ []) Text
    (env_node "tabular" (braced (tok_word "l|c" ∷ []) ∷ []) (tok TokenComment "% note" ∷ []) ∷ [])
    (writes "#table(stroke: none,\ncolumns: 2,\nalign: (left, center, ),\ntable.vline(stroke: .5pt, x: 1), \n[],\n);")
    -- a comment after the last \\ opens a cell
    ∷ example (rule_as "tabular" 8 "table" ∷ []) Text
    (env_node "tabular" (braced (tok_word "l|c" ∷ []) ∷ []) (tok_word "a" ∷ tok_new_line ∷ tok_break ∷ tok TokenComment "% note" ∷ tok_break ∷ []) ∷ [])
    (writes "#table(stroke: none,\ncolumns: 2,\nalign: (left, center, ),\ntable.vline(stroke: .5pt, x: 1), \n[a],\n[\n],\n);")
    -- braces that write nothing open a cell
    ∷ example (rule_as "tabular" 8 "table" ∷ []) Text
    (env_node "tabular" (braced (tok_word "l|c" ∷ []) ∷ []) (curly [] ∷ []) ∷ [])
    (writes "#table(stroke: none,\ncolumns: 2,\nalign: (left, center, ),\ntable.vline(stroke: .5pt, x: 1), \n[],\n);")
    -- a table in the last cell, the inner cell open and the outer closed
    ∷ example (rule_as "tabular" 8 "table" ∷ []) Text
    (env_node "tabular" (braced (tok_word "l|c" ∷ []) ∷ []) (env_node "tabular" (braced (tok_word "l|c" ∷ []) ∷ []) (tok_word "a" ∷ []) ∷ tok_new_line ∷ []) ∷ [])
    (text (ascii "#table(stroke: none,\ncolumns: 2,\nalign: (left, center, ),\ntable.vline(stroke: .5pt, x: 1), \n"
    ++ (ascii "[#table(stroke: none,\ncolumns: 2,\nalign: (left, center, ),\ntable.vline(stroke: .5pt, x: 1), \n[a],\n);],\n);")))
    -- a table in the last cell, the inner cell closed and the outer open
    ∷ example (rule_as "tabular" 8 "table" ∷ []) Text
    (env_node "tabular" (braced (tok_word "l|c" ∷ []) ∷ []) (env_node "tabular" (braced (tok_word "l|c" ∷ []) ∷ []) (tok_word "a" ∷ tok_new_line ∷ []) ∷ []) ∷ [])
    (text (ascii "#table(stroke: none,\ncolumns: 2,\nalign: (left, center, ),\ntable.vline(stroke: .5pt, x: 1), \n"
    ++ (ascii "[#table(stroke: none,\ncolumns: 2,\nalign: (left, center, ),\ntable.vline(stroke: .5pt, x: 1), \n[a],\n);],\n);")))
    -- a table in the last cell, both open
    ∷ example (rule_as "tabular" 8 "table" ∷ []) Text
    (env_node "tabular" (braced (tok_word "l|c" ∷ []) ∷ []) (tok_word "x" ∷ tok_ampersand ∷ env_node "tabular" (braced (tok_word "l|c" ∷ []) ∷ []) (tok_word "a" ∷ []) ∷ []) ∷ [])
    (text (ascii "#table(stroke: none,\ncolumns: 2,\nalign: (left, center, ),\ntable.vline(stroke: .5pt, x: 1), \n"
    ++ (ascii "[x], [#table(stroke: none,\ncolumns: 2,\nalign: (left, center, ),\ntable.vline(stroke: .5pt, x: 1), \n[a],\n);],\n);")))
    -- three tables in each other, all open
    ∷ example (rule_as "tabular" 8 "table" ∷ []) Text
    (
    env_node "tabular" (braced (tok_word "l|c" ∷ []) ∷ []) (tok_word "a" ∷ env_node "tabular" (braced (tok_word "l|c" ∷ []) ∷ []) (tok_word "b" ∷ env_node "tabular" (braced (tok_word "l|c" ∷ []) ∷ []) (tok_word "c" ∷ []) ∷ []) ∷ [])
    ∷ []
    )
    (text (ascii "#table(stroke: none,\ncolumns: 2,\nalign: (left, center, ),\ntable.vline(stroke: .5pt, x: 1), \n"
    ++ (ascii "[a#table(stroke: none,\ncolumns: 2,\nalign: (left, center, ),\ntable.vline(stroke: .5pt, x: 1), \n"
    ++ (ascii "[b#table(stroke: none,\ncolumns: 2,\nalign: (left, center, ),\ntable.vline(stroke: .5pt, x: 1), \n[c],\n);],\n);],\n);"))))
    -- in a figure with a caption and a label
    ∷ example (rule_for "caption" 2 ∷ rule_for "figure" 7 ∷ rule_as "tabular" 8 "table" ∷ []) Text
    (
    env_node "figure" [] (
    env_node "tabular" (braced (tok_word "l|c" ∷ []) ∷ []) (tok_word "a" ∷ tok_ampersand ∷ tok_word "b" ∷ [])
    ∷ cmd_node "\\caption" (braced (env_node "tabular" (braced (tok_word "l|c" ∷ []) ∷ []) (tok_word "c" ∷ []) ∷ []) ∷ [])
    ∷ cmd_node "\\label" (braced (tok_word "t" ∷ []) ∷ [])
    ∷ []
    )
    ∷ tok_word "z"
    ∷ []
    )
    (text (ascii "#figure(caption: [#table(stroke: none,\ncolumns: 2,\nalign: (left, center, ),\ntable.vline(stroke: .5pt, x: 1), \n"
    ++ (ascii "[c],\n);],)[#table(stroke: none,\ncolumns: 2,\nalign: (left, center, ),\ntable.vline(stroke: .5pt, x: 1), \n" ++ (ascii "[a], [b],\n);];<t>z"))))
    -- a label in the open cell
    ∷ example (rule_as "tabular" 8 "table" ∷ []) Text
    (
    env_node "tabular" (braced (tok_word "l|c" ∷ []) ∷ []) (tok_word "a" ∷ cmd_node "\\label" (braced (tok_word "t" ∷ []) ∷ []) ∷ [])
    ∷ tok_word "z"
    ∷ []
    )
    (writes "#table(stroke: none,\ncolumns: 2,\nalign: (left, center, ),\ntable.vline(stroke: .5pt, x: 1), \n[a],\n);<t>z")
    -- in a list: the indent and a line break in the open cell
    ∷ example (rule_for "itemize" 9 ∷ rule_as "tabular" 8 "table" ∷ []) Text
    (
    env_node "itemize" [] (cmd_node "\\item" [] ∷ env_node "tabular" (braced (tok_word "l|c" ∷ []) ∷ []) (tok_word "a" ∷ tok_break ∷ tok_space ∷ tok_word "b" ∷ tok_break ∷ []) ∷ tok_space ∷ tok_word "z" ∷ [])
    ∷ []
    )
    (writes "\n- #table(stroke: none,\ncolumns: 2,\nalign: (left, center, ),\ntable.vline(stroke: .5pt, x: 1), \n[a\n  b\n  ],\n);z")
    -- a line break at the end of the open cell: the next space is left out
    ∷ example (rule_as "tabular" 8 "table" ∷ []) Text
    (env_node "tabular" (braced (tok_word "l|c" ∷ []) ∷ []) (tok_word "a" ∷ tok_break ∷ []) ∷ tok_space ∷ tok_word "z" ∷ [])
    (writes "#table(stroke: none,\ncolumns: 2,\nalign: (left, center, ),\ntable.vline(stroke: .5pt, x: 1), \n[a\n],\n);z")
    -- in Math
    ∷ example (rule_as "tabular" 8 "table" ∷ []) Math
    (env_node "tabular" (braced (tok_word "l|c" ∷ []) ∷ []) (tok_word "ab" ∷ tok_ampersand ∷ tok_word "c" ∷ []) ∷ [])
    (writes "#table(stroke: none,\ncolumns: 2,\nalign: (left, center, ),\ntable.vline(stroke: .5pt, x: 1), \n[a b ], [c ],\n);")
    -- in a formula and in a matrix
    ∷ example (rule_as "matrix" 5 "mat" ∷ rule_as "tabular" 8 "table" ∷ []) Text
    (
    over ItemFormula (tok_dollar ∷ env_node "tabular" (braced (tok_word "l|c" ∷ []) ∷ []) (tok_word "ab" ∷ []) ∷ tok_dollar ∷ [])
    ∷ env_node "matrix" [] (env_node "tabular" (braced (tok_word "l|c" ∷ []) ∷ []) (tok_word "a" ∷ []) ∷ tok_ampersand ∷ tok_word "b" ∷ [])
    ∷ []
    )
    (text (ascii "#math.equation(block: false, $#table(stroke: none,\ncolumns: 2,\nalign: (left, center, ),\n"
    ++ (ascii "table.vline(stroke: .5pt, x: 1), \n[a b ],\n);$);$ mat(#table(stroke: none,\ncolumns: 2,\nalign: (left, center, ),\n"
    ++ (ascii "table.vline(stroke: .5pt, x: 1), \n[a ],\n);zws ,b ) $"))))
    -- no ItemEnd, and a child after the ItemEnd
    ∷ example (rule_as "tabular" 8 "table" ∷ []) Text
    (
    over ItemEnv (over ItemBegin (tok_sym "tabular" ∷ braced (tok_word "c" ∷ []) ∷ []) ∷ tok_word "a" ∷ [])
    ∷ over ItemEnv (over ItemBegin (tok_sym "tabular" ∷ braced (tok_word "r" ∷ []) ∷ []) ∷ tok_word "a" ∷ tok_new_line ∷ over ItemEnd (tok_sym "tabular" ∷ []) ∷ tok_word "b" ∷ [])
    ∷ []
    )
    (writes "#table(stroke: none,\ncolumns: 1,\nalign: (center, ),\n\n[a],\n);#table(stroke: none,\ncolumns: 1,\nalign: (right, ),\n\n[a],\n[b],\n);")
    -- an error in the last cell: nothing is written
    ∷ example (rule_as "tabular" 8 "table" ∷ []) Text
    (env_node "tabular" (braced (tok_word "l|c" ∷ []) ∷ []) (tok_word "a" ∷ tok_ampersand ∷ tok TokenError "?" ∷ []) ∷ [])
    (refusal 7 11)
    ∷ []

pub ending-examples-hold : hold ending_examples ≡ true
unfolding hold
ending-examples-hold = refl
