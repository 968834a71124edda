-- Worked conversions: tokens, what is written unwalked, and the space flag.
use Rattle.std.specs.Prelude.{◌≡◌, refl, true, List, [], ◌∷◌, ◌++◌}
use Rattle.text.specs.Ascii.{ascii}
use Rattle.mitex_syntax.specs.Syntax.{TokenError, ClauseLR, ItemAttachComponent, ItemBegin, TokenLBrace, ItemBlockComment, TokenWhiteSpace, TokenComma, TokenCaret, TokenDitto}
use Rattle.mitex_syntax.specs.Syntax.{TokenTilde, ItemTypstCode}
use Rattle.mitex_syntax.specs.Tree.Tree.{token}
use Rattle.mitex_meaning.specs.Examples.{Example, example, hold, usual, writes, over, tok, tok_word, tok_name, tok_space, tok_break, tok_new_line, tok_comment, tok_ampersand, arg}
use Rattle.mitex_meaning.specs.Examples.{braced, cmd_node, env_node}
use Rattle.mitex_meaning.specs.declared.LaTeXMode.TheVariants.{Text, Math}

abbrev pub token_examples : List Example
token_examples =
    -- flag: root clears it, so a leading space is written
    example usual Text (tok_space ∷ []) (writes " ")
    -- flag: a comment clears it
    ∷ example usual Text (tok_break ∷ tok_comment ∷ tok_space ∷ tok_word "a" ∷ []) (writes "\n a")
    -- flag: the lone dot of ClauseLR does not clear it
    ∷ example usual Math (over ClauseLR (tok_name "\\left" ∷ tok_break ∷ tok_word "." ∷ tok_space ∷ []) ∷ []) (writes "lr(\n   ")
    -- flag: another word of ClauseLR clears it
    ∷ example usual Math
    (over ClauseLR (tok_name "\\left" ∷ tok_break ∷ tok_word "," ∷ tok_space ∷ []) ∷ [])
    (writes "lr(\n ,    ")
    -- flag: the splitting caret does not clear it
    ∷ example usual Math
    (over ItemAttachComponent (tok_word "x" ∷ tok_break ∷ tok TokenCaret "^" ∷ tok_space ∷ []) ∷ [])
    (writes "x \n^()")
    -- flag: in Text the caret is converted and clears it
    ∷ example usual Text
    (over ItemAttachComponent (tok_word "x" ∷ tok_break ∷ tok TokenCaret "^" ∷ tok_space ∷ []) ∷ [])
    (writes "x\n\\^ ")
    -- flag: & that closes a cell does not clear it, and it lives on past the table
    ∷ example usual Text
    (
    env_node "tabular" (braced (tok_word "l" ∷ []) ∷ []) (tok_word "a" ∷ tok_break ∷ tok_ampersand ∷ [])
    ∷ tok_space
    ∷ tok_word "b"
    ∷ []
    )
    (writes "#table(stroke: none,\ncolumns: 1,\nalign: (left, ),\n\n[a\n], );b")
    -- flag: the same with \\
    ∷ example usual Text
    (
    env_node "tabular" (braced (tok_word "l" ∷ []) ∷ []) (tok_word "a" ∷ tok_break ∷ tok_new_line ∷ [])
    ∷ tok_space
    ∷ tok_word "b"
    ∷ []
    )
    (writes "#table(stroke: none,\ncolumns: 1,\nalign: (left, ),\n\n[a\n],\n);b")
    -- flag: a rule command outside cells does not clear it
    ∷ example usual Text
    (
    env_node "tabular" (braced (tok_word "l" ∷ []) ∷ []) (tok_word "a" ∷ tok_break ∷ tok_new_line ∷ cmd_node "\\hline" [] ∷ [])
    ∷ tok_space
    ∷ tok_word "b"
    ∷ []
    )
    (writes "#table(stroke: none,\ncolumns: 1,\nalign: (left, ),\n\n[a\n],\ntable.hline(stroke: .5pt),\n);b")
    -- flag: line breaks outside cells do not set it
    ∷ example usual Text
    (env_node "tabular" (braced (tok_word "l" ∷ []) ∷ []) (tok_break ∷ []) ∷ tok_space ∷ tok_word "b" ∷ [])
    (writes "#table(stroke: none,\ncolumns: 1,\nalign: (left, ),\n\n); b")
    -- flag: skipped \centering and \caption do not clear it
    ∷ example usual Text
    (env_node "figure" [] (tok_break ∷ cmd_node "\\centering" [] ∷ tok_space ∷ tok_word "a" ∷ []) ∷ [])
    (writes "#figure()[\na];")
    -- flag: ItemEnd does not clear it
    ∷ example usual Text (env_node "itemize" [] (tok_break ∷ []) ∷ tok_space ∷ tok_word "b" ∷ []) (writes "\n  b")
    -- flag: trivia that \color passes over is not converted
    ∷ example usual Text
    (cmd_node "\\color" (arg (tok_break ∷ tok_word "red" ∷ tok_space ∷ tok_word "a" ∷ []) ∷ []) ∷ [])
    (writes "mycolor(none, [red])[ a];")
    -- flag: a skipped TokenWhiteSpace is left out whole
    ∷ example usual Text (tok_break ∷ token TokenWhiteSpace (ascii "  " ++ (194 ∷ 160 ∷ [])) ∷ tok_space ∷ []) (writes "\n ")
    -- typst code writes its text, unwalked
    ∷ example usual Math
    (over ItemTypstCode (tok TokenError "#f(" ∷ tok_word "ab" ∷ over ItemBegin [] ∷ tok_word ")" ∷ []) ∷ [])
    (writes "#f(ab)")
    -- block comment is unwalked
    ∷ example usual Text (over ItemBlockComment (tok TokenError "?" ∷ []) ∷ []) (writes "")
    -- \array writes nothing and is unwalked, not looked up
    ∷ example usual Text (cmd_node "\\array" (braced (tok TokenError "?" ∷ []) ∷ []) ∷ []) (writes "")
    -- fixed texts whatever the token's own
    ∷ example usual Text
    (tok TokenComma "zzz" ∷ tok TokenDitto "zzz" ∷ tok TokenLBrace "zzz" ∷ tok TokenTilde "zzz" ∷ [])
    (writes "\\,\\\"\\~")
    ∷ []

pub token-examples-hold : hold token_examples ≡ true
unfolding hold
token-examples-hold = refl
