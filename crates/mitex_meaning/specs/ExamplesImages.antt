-- Worked conversions: images.
use Rattle.std.specs.Prelude.{◌≡◌, refl, true, List, [], ◌∷◌, ◌++◌}
use Rattle.text.specs.Ascii.{ascii}
use Rattle.mitex_syntax.specs.Syntax.{TokenError, TokenWord}
use Rattle.mitex_syntax.specs.Tree.Tree.{token}
use Rattle.mitex_meaning.specs.Examples.{Example, example, hold, usual, writes, tok, tok_word, tok_space, curly, arg, braced, bracketed, cmd_node}
use Rattle.mitex_meaning.specs.declared.LaTeXMode.TheVariants.{Text, Math}

abbrev pub image_examples : List Example
image_examples =
    -- image: two = give an empty value
    example usual Text
    (cmd_node "\\includegraphics" (bracketed (tok_word "width=1=2" ∷ []) ∷ braced (tok_word "p" ∷ []) ∷ []) ∷ [])
    (writes "#image(width: , \"p\")")
    -- image: no = gives an empty value
    ∷ example usual Text
    (cmd_node "\\includegraphics" (bracketed (tok_word "width" ∷ []) ∷ braced (tok_word "p" ∷ []) ∷ []) ∷ [])
    (writes "#image(width: , \"p\")")
    -- image: endings removed as often as they repeat, one kind only
    ∷ example usual Text
    (cmd_node "\\includegraphics" (bracketed (tok_word "width=2\\textheight\\textwidth\\textwidth,height=\\textheight" ∷ []) ∷ braced (tok_word "p" ∷ []) ∷ []) ∷ [])
    (writes "#image(width: 2\\textheight * 100%, height:  * 100%, \"p\")")
    -- image: the space before the ending stays
    ∷ example usual Text
    (cmd_node "\\includegraphics" (bracketed (tok_word " width = 0.5 \\textwidth ,angle=4,Width=3" ∷ []) ∷ braced (tok_word "p" ∷ []) ∷ []) ∷ [])
    (writes "#image(width: 0.5  * 100%, \"p\")")
    -- image: Unicode white space trimmed
    ∷ example usual Text
    (
    cmd_node "\\includegraphics" (
    bracketed (
    token TokenWord ((227 ∷ 128 ∷ 128 ∷ [])
    ++ (ascii "width"
    ++ ((194 ∷ 160 ∷ []) ++ (ascii "=" ++ ((226 ∷ 128 ∷ 131 ∷ []) ++ (ascii "3cm" ++ ((226 ∷ 128 ∷ 168 ∷ []) ++ (ascii "," ++ ((194 ∷ 133 ∷ []) ++ (ascii "height=1"))))))))))
    ∷ []
    )
    ∷ braced (tok_word "p" ∷ [])
    ∷ []
    )
    ∷ []
    )
    (writes "#image(width: 3cm, height: 1, \"p\")")
    -- image: the argument's text, ends cut whatever they are
    ∷ example usual Text
    (cmd_node "\\includegraphics" (arg (tok_space ∷ curly (tok_word "p" ∷ []) ∷ tok_space ∷ []) ∷ []) ∷ [])
    (writes "#image(\"{p}\")")
    -- image: the first bracket and the first curly argument
    ∷ example usual Text
    (cmd_node "\\includegraphics" (braced (tok_word "p" ∷ []) ∷ bracketed (tok_word "width=1" ∷ []) ∷ bracketed (tok_word "width=2" ∷ []) ∷ braced (tok_word "q" ∷ []) ∷ []) ∷ [])
    (writes "#image(width: 1, \"p\")")
    -- image: no semicolon, also in Math
    ∷ example usual Math
    (cmd_node "\\includegraphics" (bracketed (tok_word "height=2" ∷ []) ∷ braced (tok_word "p" ∷ []) ∷ []) ∷ [])
    (writes "#image(height: 2, \"p\")")
    -- image: its arguments are not walked
    ∷ example usual Text
    (cmd_node "\\includegraphics" (braced (tok TokenError "a?b" ∷ []) ∷ []) ∷ [])
    (writes "#image(\"a?b\")")
    -- 5: only the first curly argument needs good ends
    ∷ example usual Text
    (cmd_node "\\includegraphics" (braced (tok_word "p" ∷ []) ∷ arg (token TokenWord (195 ∷ 169 ∷ []) ∷ curly [] ∷ []) ∷ []) ∷ [])
    (writes "#image(\"p\")")
    ∷ []

pub image-examples-hold : hold image_examples ≡ true
unfolding hold
image-examples-hold = refl
