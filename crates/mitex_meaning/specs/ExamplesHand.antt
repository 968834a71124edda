-- Worked conversions: the cases tried by hand that concern conversion.
use Rattle.std.specs.Prelude.{◌≡◌, refl, true, List, [], ◌∷◌, ◌+◌}
use Rattle.text.specs.Ascii.{ascii}
use Rattle.mitex_syntax.specs.Syntax.{ItemFormula, ItemAttachComponent, TokenWord, TokenCaret}
use Rattle.mitex_syntax.specs.Tree.Tree.{token}
use Rattle.mitex_meaning.specs.Outcome.{label_most}
use Rattle.mitex_meaning.specs.Examples.{Example, example, hold, few_rules, writes, over, tok, tok_word, tok_space, tok_break, tok_new_line, tok_dollar, times, curly, braced}
use Rattle.mitex_meaning.specs.Examples.{bracketed, cmd_node, env_node}
use Rattle.mitex_meaning.specs.Examples.Expected.{refusal}
use Rattle.mitex_meaning.specs.declared.LaTeXMode.TheVariants.{Text, Math}

abbrev pub hand_examples : List Example
hand_examples =
    -- empty root
    example few_rules Text [] (writes "")
    -- Math ab
    ∷ example few_rules Math (tok_word "ab" ∷ []) (writes "a b ")
    -- line feed, space, space
    ∷ example few_rules Text (tok_break ∷ tok_space ∷ tok_space ∷ []) (writes "\n ")
    -- one leading space
    ∷ example few_rules Text (tok_space ∷ []) (writes " ")
    -- Math {}
    ∷ example few_rules Math (curly [] ∷ []) (writes "zws ")
    -- Math {a}
    ∷ example few_rules Math (curly (tok_word "a" ∷ []) ∷ []) (writes "a ")
    -- Math x^2
    ∷ example few_rules Math
    (over ItemAttachComponent (tok_word "x" ∷ tok TokenCaret "^" ∷ tok_word "2" ∷ []) ∷ [])
    (writes "x ^(2 )")
    -- Math ^2
    ∷ example few_rules Math (over ItemAttachComponent (tok TokenCaret "^" ∷ tok_word "2" ∷ []) ∷ []) (writes "zws^(2 )")
    -- Text $x$
    ∷ example few_rules Text
    (over ItemFormula (tok_dollar ∷ tok_word "x" ∷ tok_dollar ∷ []) ∷ [])
    (writes "#math.equation(block: false, $x $);")
    -- item as row 1
    ∷ example few_rules Text (cmd_node "\\item" [] ∷ []) (refusal 11 1)
    -- table
    ∷ example few_rules Text
    (env_node "tabular" (braced (tok_word "|l|" ∷ []) ∷ []) (tok_word "a" ∷ tok_new_line ∷ []) ∷ [])
    (writes "#table(stroke: none,\ncolumns: 1,\nalign: (left, ),\ntable.vline(stroke: .5pt, x: 0), table.vline(stroke: .5pt, x: 1), \n[a],\n);")
    -- label, then table
    ∷ example few_rules Text
    (
    over ItemFormula (tok_dollar ∷ curly (cmd_node "\\label" (braced (tok_word "e" ∷ []) ∷ []) ∷ []) ∷ tok_dollar ∷ [])
    ∷ env_node "tabular" (braced (tok_word "|l|" ∷ []) ∷ []) (tok_word "a" ∷ tok_new_line ∷ [])
    ∷ []
    )
    (writes "#math.equation(block: false, $$);#table(stroke: none,\ncolumns: 1,\nalign: (left, ),\ntable.vline(stroke: .5pt, x: 0), table.vline(stroke: .5pt, x: 1), \n[a],\n);<e>")
    -- held label of the most bytes
    ∷ example few_rules Text
    (over ItemFormula (tok_dollar ∷ curly (cmd_node "\\label" (braced (token TokenWord (times label_most (ascii "l")) ∷ []) ∷ []) ∷ []) ∷ tok_dollar ∷ []) ∷ [])
    (writes "#math.equation(block: false, $$);")
    -- held label of one byte more
    ∷ example few_rules Text
    (over ItemFormula (tok_dollar ∷ curly (cmd_node "\\label" (braced (token TokenWord (times (1 + label_most) (ascii "l")) ∷ []) ∷ []) ∷ []) ∷ tok_dollar ∷ []) ∷ [])
    (refusal 14 5)
    -- image width
    ∷ example few_rules Text
    (cmd_node "\\includegraphics" (bracketed (tok_word "width=0.5\\textwidth" ∷ []) ∷ braced (tok_word "p" ∷ []) ∷ []) ∷ [])
    (writes "#image(width: 0.5 * 100%, \"p\")")
    ∷ []

pub hand-examples-hold : hold hand_examples ≡ true
unfolding hold
hand-examples-hold = refl
