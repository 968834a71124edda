-- Worked conversions: formulas, curly groups, `\left` and `\right`, attachments.
use Rattle.std.specs.Prelude.{◌≡◌, refl, true, List, [], ◌∷◌}
use Rattle.mitex_syntax.specs.Syntax.{ItemLR, ItemText, ItemFormula, ClauseLR, ItemAttachComponent, TokenDollar, TokenBeginMath, TokenEndMath, TokenCaret}
use Rattle.mitex_meaning.specs.Examples.{Example, example, hold, usual, writes, over, tok, tok_word, tok_name, tok_space, tok_break, tok_new_line, tok_comment, tok_ampersand}
use Rattle.mitex_meaning.specs.Examples.{tok_dollar, curly, cmd_node, env_node}
use Rattle.mitex_meaning.specs.Examples.Expected.{refusal}
use Rattle.mitex_meaning.specs.declared.LaTeXMode.TheVariants.{Text, Math}

abbrev pub group_examples : List Example
group_examples =
    -- attach: white space is no base, a line break is
    example usual Math
    (
    over ItemAttachComponent (tok_space ∷ tok TokenCaret "^" ∷ [])
    ∷ over ItemAttachComponent (tok_break ∷ tok TokenCaret "^" ∷ [])
    ∷ []
    )
    (writes " zws^()\n^()")
    -- attach: the splitting token writes its own text, later ones the fixed text
    ∷ example usual Math
    (over ItemAttachComponent (tok_word "x" ∷ tok TokenCaret "**" ∷ tok TokenCaret "**" ∷ []) ∷ [])
    (writes "x **(\\^)")
    -- attach without a split writes no parenthesis
    ∷ example usual Math (over ItemAttachComponent (tok_word "x" ∷ []) ∷ []) (writes "x ")
    -- ClauseLR: a space after each child, a dot's too
    ∷ example usual Math
    (over ItemLR (over ClauseLR (tok_name "\\left" ∷ tok_word "." ∷ []) ∷ tok_word "x" ∷ over ClauseLR (tok_name "\\right" ∷ tok_word ")" ∷ []) ∷ []) ∷ [])
    (writes "lr( x )  )")
    -- ClauseLR of another name
    ∷ example usual Text (over ClauseLR (tok_word "\\leftx" ∷ tok_word "a" ∷ []) ∷ []) (writes "a ")
    -- curly: a comment makes it non-empty
    ∷ example usual Math (curly (tok_comment ∷ []) ∷ []) (writes "")
    -- curly: white space is written, then zws
    ∷ example usual Math (curly (tok_space ∷ []) ∷ []) (writes " zws ")
    -- curly in Text keeps the environment: \item inside works
    ∷ example usual Text (env_node "itemize" [] (curly (cmd_node "\\item" [] ∷ []) ∷ []) ∷ []) (writes "\n- ")
    -- curly in Math in a list: \item is 11
    ∷ example usual Math (env_node "itemize" [] (curly (cmd_node "\\item" [] ∷ []) ∷ []) ∷ []) (refusal 11 6)
    -- curly in a matrix: newline inside writes nothing, & stays &
    ∷ example usual Math
    (env_node "matrix" [] (tok_word "a" ∷ curly (tok_new_line ∷ tok_ampersand ∷ []) ∷ tok_new_line ∷ tok_ampersand ∷ []) ∷ [])
    (writes "mat(a &zws ;zws ,)")
    -- formula of one token: first and last are the same
    ∷ example usual Text (over ItemFormula (tok_dollar ∷ []) ∷ []) (writes "#math.equation(block: false, $$);")
    -- formula ends found below first and last children
    ∷ example usual Text
    (over ItemFormula (over ItemText (tok TokenDollar "$$" ∷ []) ∷ tok_word "x" ∷ curly [] ∷ over ItemText (tok TokenDollar "$$" ∷ []) ∷ []) ∷ [])
    (writes "$ x zws  $")
    -- formula whose first child is an empty node
    ∷ example usual Text (over ItemFormula (over ItemText [] ∷ tok_dollar ∷ tok_dollar ∷ []) ∷ []) (refusal 8 1)
    -- formula in Math writes no ends
    ∷ example usual Math (over ItemFormula (tok_dollar ∷ tok_word "x" ∷ tok_dollar ∷ []) ∷ []) (writes "x ")
    -- formulas: the four pairs of ends
    ∷ example usual Text
    (
    over ItemFormula (tok_dollar ∷ tok_word "x" ∷ tok_dollar ∷ [])
    ∷ over ItemFormula (tok TokenDollar "$$" ∷ tok_word "x" ∷ tok TokenDollar "$$" ∷ [])
    ∷ over ItemFormula (tok TokenBeginMath "\\(" ∷ tok_word "x" ∷ tok TokenEndMath "\\)" ∷ [])
    ∷ over ItemFormula (tok TokenBeginMath "\\[" ∷ tok_word "x" ∷ tok TokenEndMath "\\]" ∷ [])
    ∷ []
    )
    (writes "#math.equation(block: false, $x $);$ x  $#math.equation(block: false, $x $);$ x  $")
    -- 8: $ with $$
    ∷ example usual Text (over ItemFormula (tok_dollar ∷ tok_word "x" ∷ tok TokenDollar "$$" ∷ []) ∷ []) (refusal 8 1)
    -- 8: $$ with $
    ∷ example usual Text (over ItemFormula (tok TokenDollar "$$" ∷ tok_word "x" ∷ tok_dollar ∷ []) ∷ []) (refusal 8 1)
    -- 8: \( with \]
    ∷ example usual Text
    (over ItemFormula (tok TokenBeginMath "\\(" ∷ tok_word "x" ∷ tok TokenEndMath "\\]" ∷ []) ∷ [])
    (refusal 8 1)
    -- 8: \[ with \)
    ∷ example usual Text
    (over ItemFormula (tok TokenBeginMath "\\[" ∷ tok_word "x" ∷ tok TokenEndMath "\\)" ∷ []) ∷ [])
    (refusal 8 1)
    -- 8: $ with \)
    ∷ example usual Text (over ItemFormula (tok_dollar ∷ tok_word "x" ∷ tok TokenEndMath "\\)" ∷ []) ∷ []) (refusal 8 1)
    -- 8: \) with \(, and the texts of the other kind
    ∷ example usual Text
    (over ItemFormula (tok TokenEndMath "\\)" ∷ tok_word "x" ∷ tok TokenBeginMath "\\(" ∷ []) ∷ [])
    (refusal 8 1)
    -- 8: the right texts as words
    ∷ example usual Text (over ItemFormula (tok_word "$" ∷ tok_word "x" ∷ tok_word "$" ∷ []) ∷ []) (refusal 8 1)
    -- 8: dollars of another text
    ∷ example usual Text
    (over ItemFormula (tok TokenDollar "$$$" ∷ tok_word "x" ∷ tok TokenDollar "$$$" ∷ []) ∷ [])
    (refusal 8 1)
    -- 8: an empty formula, in Math too
    ∷ example usual Math (over ItemFormula [] ∷ []) (refusal 8 1)
    ∷ []

pub group-examples-hold : hold group_examples ≡ true
unfolding hold
group-examples-hold = refl
