-- Worked conversions: colours.
use Rattle.std.specs.Prelude.{◌≡◌, refl, true, List, [], ◌∷◌}
use Rattle.mitex_syntax.specs.Syntax.{TokenError, TokenLBracket, TokenRBracket, TokenTilde}
use Rattle.mitex_meaning.specs.Examples.{Example, example, hold, usual, rule_as, writes, tok, tok_word, tok_space, tok_new_line, tok_comment, curly, bracket, arg, braced}
use Rattle.mitex_meaning.specs.Examples.{bracketed, cmd_node}
use Rattle.mitex_meaning.specs.declared.LaTeXMode.TheVariants.{Text, Math}

abbrev pub color_examples : List Example
color_examples =
    -- \color with an empty argument
    example usual Text (cmd_node "\\color" (arg [] ∷ []) ∷ []) (writes "mycolor(none, [black])[];")
    -- \color: the colour is one element, the rest is the body
    ∷ example usual Math
    (cmd_node "\\color" (arg (tok_space ∷ tok_word "red" ∷ tok_space ∷ tok_word "ab" ∷ []) ∷ []) ∷ [])
    (writes "mycolor(none, [red])[$ $$a b $]")
    -- \color: model in brackets, newline is trivia
    ∷ example usual Text
    (
    cmd_node "\\color" (arg (tok_new_line ∷ tok TokenLBracket "[" ∷ tok_word "rg" ∷ curly (tok_word "b" ∷ []) ∷ tok TokenRBracket "]" ∷ tok_comment ∷ curly (tok_word "red" ∷ []) ∷ tok_word "a" ∷ []) ∷ [])
    ∷ []
    )
    (writes "mycolor([rg{b}], [red])[a];")
    -- \color: an unclosed model takes everything
    ∷ example usual Text
    (cmd_node "\\color" (arg (tok TokenLBracket "[" ∷ tok_word "rgb" ∷ tok TokenError "?" ∷ []) ∷ []) ∷ [])
    (writes "mycolor([rgb?], [black])[];")
    -- \color: an ItemBracket is no model
    ∷ example usual Text
    (cmd_node "\\color" (arg (bracket (tok_word "rgb" ∷ []) ∷ curly (tok_word "red" ∷ []) ∷ []) ∷ []) ∷ [])
    (writes "mycolor(none, [\\[rgb\\]])[red];")
    -- \color: further arguments are not walked
    ∷ example usual Text
    (cmd_node "\\color" (arg (tok_word "red" ∷ []) ∷ braced (tok TokenError "?" ∷ []) ∷ []) ∷ [])
    (writes "mycolor(none, [red])[];")
    -- \color: alias of a command; an environment's alias does not count
    ∷ example (rule_as "color" 3 "envalias" ∷ usual) Text
    (cmd_node "\\color" (arg [] ∷ []) ∷ [])
    (writes "mitexcolor(none, [black])[];")
    -- \textcolor without arguments
    ∷ example usual Text (cmd_node "\\textcolor" [] ∷ []) (writes "mitexcolor(none, [black])[];")
    -- \textcolor: model by its text, body in Math between dollars
    ∷ example usual Math
    (cmd_node "\\textcolor" (bracketed (tok_word "rgb" ∷ []) ∷ braced (tok_word "red" ∷ []) ∷ braced (tok_word "ab" ∷ []) ∷ braced [] ∷ []) ∷ [])
    (writes "mitexcolor([rgb], [red])[$a b $$zws $]")
    -- \textcolor: a space before the bracket makes it the colour
    ∷ example usual Text
    (cmd_node "\\textcolor" (arg (tok_space ∷ bracket (tok_word "rgb" ∷ []) ∷ []) ∷ braced (tok_word "red" ∷ []) ∷ []) ∷ [])
    (writes "mitexcolor(none, [ \\[rgb\\]])[red];")
    -- \textcolor: empty model
    ∷ example usual Text (cmd_node "\\textcolor" (arg (tok_word "[]" ∷ []) ∷ []) ∷ []) (writes "mitexcolor([], [black])[];")
    -- \textcolor: one bracket is no model
    ∷ example usual Text (cmd_node "\\textcolor" (arg (tok_word "[" ∷ []) ∷ []) ∷ []) (writes "mitexcolor(none, [[])[];")
    -- colour in Math: its argument is converted in Text
    ∷ example usual Math
    (cmd_node "\\colorbox" (braced (tok_word "red" ∷ tok TokenTilde "~" ∷ []) ∷ []) ∷ [])
    (writes "mitexcolor(none, [red\\~])[]")
    ∷ []

pub color-examples-hold : hold color_examples ≡ true
unfolding hold
color-examples-hold = refl
