-- Worked conversions: made documents, each with those of its rules that it names.
use Rattle.std.specs.Prelude.{◌≡◌, refl, true, List, [], ◌∷◌, ◌++◌}
use Rattle.std.proofs.Math.Option.Option.{none as nothing, some}
use Rattle.text.specs.Ascii.{ascii}
use Rattle.mitex_syntax.specs.Syntax.{ItemLR, ScopeRoot, ItemText, ItemBracket, ItemParen, ItemFormula, ClauseLR, ItemAttachComponent, ItemBegin, ItemEnd, TokenWord, TokenRBrace}
use Rattle.mitex_syntax.specs.Syntax.{TokenDollar, TokenBeginMath, TokenEndMath, TokenComment, ItemBlockComment, TokenWhiteSpace, TokenLineBreak, TokenApostrophe, TokenComma}
use Rattle.mitex_syntax.specs.Syntax.{TokenSlash, TokenCaret, TokenUnderscore, TokenHash, TokenAsterisk, TokenAtSign, TokenDitto, TokenSemicolon, TokenLParen, TokenRParen}
use Rattle.mitex_syntax.specs.Syntax.{TokenLBracket, TokenTilde, TokenCommandSym, ItemEnv, ItemTypstCode}
use Rattle.mitex_syntax.specs.Tree.Tree.{token}
use Rattle.mitex_meaning.specs.Examples.{Example, example, hold, rule_for, rule_as, rule_by, writes, over, tok, tok_word, tok_name, tok_sym, tok_space, tok_break, tok_new_line}
use Rattle.mitex_meaning.specs.Examples.{tok_ampersand, curly, arg, braced, bracketed, cmd_node, env_node}
use Rattle.mitex_meaning.specs.Examples.Expected.{text}
use Rattle.mitex_meaning.specs.declared.LaTeXMode.TheVariants.{Text, Math}

abbrev pub document_examples : List Example
document_examples =
    -- 1 block
    example (rule_for "" 0 ∷ rule_for "textcolor" 2 ∷ []) Math
    (
    cmd_node "\\textcolor" (braced (tok_word "red" ∷ []) ∷ braced (tok TokenAsterisk "*" ∷ over ItemText (token TokenWhiteSpace (226 ∷ 128 ∷ 128 ∷ []) ∷ tok TokenComment "% note" ∷ []) ∷ []) ∷ [])
    ∷ []
    )
    (text (ascii "mitexcolor(none, [red])[$\\*" ++ ((226 ∷ 128 ∷ 128 ∷ []) ++ (ascii "$]"))))
    -- 2 blocks
    ∷ example [] Math
    (token TokenRBrace (ascii "\\(" ++ (226 ∷ 128 ∷ 168 ∷ [])) ∷ tok TokenApostrophe "leftb&" ∷ [])
    (writes "'")
    -- 3 blocks
    ∷ example (rule_for "" 0 ∷ rule_as "caption" 2 "#substack" ∷ rule_by (229 ∷ 155 ∷ 190 ∷ []) 7 nothing ∷ []) Text
    (
    tok TokenLParen "("
    ∷ tok TokenSlash "/"
    ∷ over ItemEnv (
    over ItemBegin (token TokenCommandSym (229 ∷ 155 ∷ 190 ∷ []) ∷ [])
    ∷ cmd_node "\\caption" (braced (tok TokenSemicolon ";" ∷ tok_break ∷ token TokenWhiteSpace (227 ∷ 128 ∷ 128 ∷ []) ∷ []) ∷ [])
    ∷ over ItemEnd (token TokenCommandSym (229 ∷ 155 ∷ 190 ∷ []) ∷ [])
    ∷ []
    )
    ∷ []
    )
    (text (ascii "\\(\\/#" ++ ((229 ∷ 155 ∷ 190 ∷ []) ++ (ascii "(caption: [\\;\n],)[];"))))
    -- 6 blocks
    ∷ example (
    rule_as "" 0 ""
    ∷ rule_by (ascii "Zitat-" ++ (195 ∷ 159 ∷ [])) 3 (some (ascii "mitexcolor"))
    ∷ rule_as "equation" 4 "equation"
    ∷ rule_for "includegraphics" 2
    ∷ rule_for "section" 2
    ∷ rule_for "substack" 2
    ∷ rule_as "textcolor" 2 "#emph"
    ∷ []
    ) Math
    (
    tok TokenHash "#"
    ∷ tok_break
    ∷ cmd_node "\\textcolor" (braced [] ∷ braced (cmd_node "\\includegraphics" (bracketed [] ∷ braced (tok_word "a/b" ∷ []) ∷ []) ∷ []) ∷ [])
    ∷ token TokenWhiteSpace (9 ∷ [])
    ∷ over ItemEnv (
    over ItemBegin (token TokenCommandSym (ascii "Zitat-" ++ (195 ∷ 159 ∷ [])) ∷ [])
    ∷ tok_break
    ∷ over ItemFormula (
    tok TokenBeginMath "\\["
    ∷ env_node "equation" [] []
    ∷ tok_sym "\\section"
    ∷ over ItemAttachComponent (tok_break ∷ tok TokenUnderscore "_" ∷ [])
    ∷ tok_sym "\\substack"
    ∷ tok_word "width"
    ∷ tok TokenEndMath "\\]"
    ∷ []
    )
    ∷ over ItemEnd (token TokenCommandSym (ascii "Zitat-" ++ (195 ∷ 159 ∷ [])) ∷ [])
    ∷ []
    )
    ∷ token TokenWhiteSpace (226 ∷ 128 ∷ 175 ∷ [])
    ∷ []
    )
    (text (ascii "\\#\n#emph(none, [])[$#image(\"a/b\")$]" ++ ((9 ∷ []) ++ (ascii "#mitexcolor[\nequation()section\n_()substackw i d t h ];" ++ (226 ∷ 128 ∷ 175 ∷ [])))))
    -- 11 blocks
    ∷ example (rule_for "" 0 ∷ rule_for " " 0 ∷ rule_for "color" 1 ∷ rule_for "rm" 1 ∷ rule_for "tabular" 10 ∷ []) Text
    (
    env_node "tabular" (braced (tok_word "\nlc" ∷ []) ∷ []) []
    ∷ tok_word "1"
    ∷ cmd_node "\\color" (arg (tok TokenWhiteSpace "\n" ∷ []) ∷ [])
    ∷ curly (cmd_node "\\rm" (arg (tok TokenWhiteSpace "  " ∷ []) ∷ []) ∷ [])
    ∷ token TokenWhiteSpace (11 ∷ [])
    ∷ tok_break
    ∷ tok TokenComment "% note"
    ∷ token TokenWhiteSpace (227 ∷ 128 ∷ 128 ∷ [])
    ∷ tok_space
    ∷ tok TokenSlash "/"
    ∷ tok TokenRParen ")"
    ∷ []
    )
    (text (ascii "1mitexcolor(none, [black])[];rm(  )" ++ ((11 ∷ []) ++ (ascii "\n" ++ ((227 ∷ 128 ∷ 128 ∷ []) ++ (ascii " \\/\\)"))))))
    -- 41 blocks
    ∷ example (rule_for "right" 2 ∷ rule_by (ascii "textcolor") 10 (some (195 ∷ 169 ∷ [])) ∷ rule_by (240 ∷ 159 ∷ 142 ∷ 137 ∷ []) 2 (some (ascii "a b")) ∷ []) Text
    (
    cmd_node "\\textcolor" (braced (tok_word "red" ∷ []) ∷ braced [] ∷ [])
    ∷ over ItemAttachComponent (tok TokenRParen ")" ∷ tok_word "a" ∷ [])
    ∷ tok TokenComma ","
    ∷ over ItemTypstCode (tok TokenCaret "^" ∷ cmd_node "\\color" (braced (tok_word "red" ∷ []) ∷ []) ∷ [])
    ∷ tok TokenWhiteSpace "\n"
    ∷ over ItemAttachComponent []
    ∷ token TokenWhiteSpace (227 ∷ 128 ∷ 128 ∷ [])
    ∷ cmd_node "\\colorbox" (braced (tok_word "red" ∷ []) ∷ [])
    ∷ tok TokenLParen "("
    ∷ over ItemBracket (over ItemLR (over ItemBracket (tok_word "|" ∷ over ClauseLR (tok_word "\\leftx" ∷ []) ∷ []) ∷ []) ∷ [])
    ∷ tok TokenApostrophe "'"
    ∷ tok_word "."
    ∷ over ItemLR (over ClauseLR (tok_name "\\left" ∷ tok_word "|" ∷ []) ∷ over ClauseLR (tok_name "\\right" ∷ tok_word ")" ∷ []) ∷ [])
    ∷ over ScopeRoot (cmd_node "\\textcolor" (braced (tok_word "red" ∷ []) ∷ braced (tok_word "ab" ∷ []) ∷ []) ∷ [])
    ∷ tok_new_line
    ∷ over ItemAttachComponent (token TokenWhiteSpace (225 ∷ 154 ∷ 128 ∷ []) ∷ token TokenWord (195 ∷ 159 ∷ []) ∷ tok TokenCaret "^" ∷ cmd_node "\\colorbox" [] ∷ token TokenWhiteSpace (12 ∷ []) ∷ [])
    ∷ over ItemBlockComment []
    ∷ over ItemBracket (
    over ItemTypstCode (
    tok TokenSemicolon ";"
    ∷ arg (token TokenWhiteSpace (194 ∷ 133 ∷ []) ∷ tok TokenRParen "\\)&." ∷ tok TokenEndMath "\\)" ∷ [])
    ∷ over ItemLR (
    over ClauseLR (tok_name "\\left" ∷ tok_word "[" ∷ [])
    ∷ over ItemAttachComponent (token TokenWhiteSpace (11 ∷ []) ∷ tok TokenUnderscore "_" ∷ [])
    ∷ token TokenWhiteSpace (225 ∷ 154 ∷ 128 ∷ [])
    ∷ over ClauseLR (tok_name "\\right" ∷ tok TokenWhiteSpace "\n" ∷ tok_word "." ∷ [])
    ∷ []
    )
    ∷ []
    )
    ∷ []
    )
    ∷ over ClauseLR (tok_word "\\left" ∷ tok_word "." ∷ [])
    ∷ tok TokenComment "]"
    ∷ tok TokenSemicolon ";"
    ∷ tok_new_line
    ∷ token TokenWord (ascii "na" ++ ((195 ∷ 175 ∷ []) ++ (ascii "ve")))
    ∷ over ItemAttachComponent (tok TokenCaret "^" ∷ tok_word "=" ∷ [])
    ∷ tok TokenLParen "("
    ∷ tok TokenSlash "/"
    ∷ tok TokenApostrophe "'"
    ∷ token TokenWord (240 ∷ 159 ∷ 142 ∷ 137 ∷ [])
    ∷ tok TokenDollar "$$"
    ∷ tok TokenDitto "\""
    ∷ tok TokenComment "% note"
    ∷ cmd_node "\\label" (braced (tok_word "lab:16" ∷ []) ∷ [])
    ∷ tok TokenDitto "\""
    ∷ tok TokenLBracket "["
    ∷ over ItemLR (cmd_node "\\right" (braced (over ItemParen (tok_sym "\\right" ∷ []) ∷ []) ∷ []) ∷ [])
    ∷ over ClauseLR (tok_sym "\\leftx" ∷ [])
    ∷ over ClauseLR (tok_name "\\right" ∷ [])
    ∷ over ItemTypstCode (tok TokenTilde "~" ∷ [])
    ∷ tok TokenDitto "\""
    ∷ tok TokenEndMath "\\]"
    ∷ cmd_node "\\label" (braced (token TokenWord ((226 ∷ 128 ∷ 168 ∷ 226 ∷ 128 ∷ 168 ∷ []) ++ (ascii "lab:10")) ∷ []) ∷ [])
    ∷ []
    )
    (text (ascii "mitexcolor(none, [red])[];\\)a\\,^\\color{red}\n"
    ++ ((227 ∷ 128 ∷ 128 ∷ [])
    ++ (ascii "mitexcolor(none, [red])[];\\(|'.lr(| ) )mitexcolor(none, [red])[ab];\\ "
    ++ ((225 ∷ 154 ∷ 128 ∷ 195 ∷ 159 ∷ [])
    ++ (ascii "\\^mitexcolor(none, [black])[];"
    ++ ((12 ∷ [])
    ++ (ascii ";"
    ++ ((194 ∷ 133 ∷ [])
    ++ (ascii "\\)&.\\)\\left["
    ++ ((11 ∷ [])
    ++ (ascii "_"
    ++ ((225 ∷ 154 ∷ 128 ∷ [])
    ++ (ascii "\\right\n.lr( \\;\\ na" ++ ((195 ∷ 175 ∷ []) ++ (ascii "ve\\^=\\(\\/'" ++ ((240 ∷ 159 ∷ 142 ∷ 137 ∷ []) ++ (ascii "\\\"<lab:16>\\\"\\[right[right];)~\\\"<lab:10>"))))))))))))))))))
    -- 2 blocks
    ∷ example (rule_as "" 0 "#" ∷ rule_for "colorbox" 2 ∷ rule_by (232 ∷ 161 ∷ 168 ∷ []) 0 (some (ascii "#strong")) ∷ []) Math
    (
    tok TokenAtSign "@"
    ∷ cmd_node "\\colorbox" (
    braced (tok_word "red" ∷ [])
    ∷ braced (
    over ItemAttachComponent (
    over ItemAttachComponent (token TokenWhiteSpace (225 ∷ 154 ∷ 128 ∷ []) ∷ tok_word "l" ∷ tok TokenUnderscore "_" ∷ token TokenWord (232 ∷ 161 ∷ 168 ∷ []) ∷ [])
    ∷ tok TokenCaret "^"
    ∷ token TokenWhiteSpace (226 ∷ 128 ∷ 175 ∷ [])
    ∷ tok_word "||"
    ∷ []
    )
    ∷ []
    )
    ∷ []
    )
    ∷ []
    )
    (text (ascii "\\@mitexcolor(none, [red])[$" ++ ((225 ∷ 154 ∷ 128 ∷ []) ++ (ascii "l _(" ++ ((232 ∷ 161 ∷ 168 ∷ []) ++ (ascii " )^(" ++ ((226 ∷ 128 ∷ 175 ∷ []) ++ (ascii "| | )$]"))))))))
    -- 2 blocks
    ∷ example (rule_for "" 0 ∷ rule_for "item" 0 ∷ rule_for "list" 9 ∷ rule_as "midrule" 0 "#midrule" ∷ rule_as "tabular" 6 "#tabular" ∷ []) Math
    (
    token TokenRParen ((227 ∷ 128 ∷ 128 ∷ []) ++ (ascii "lright"))
    ∷ over ItemEnv (
    over ItemBegin (token TokenCommandSym (ascii "list" ++ (226 ∷ 128 ∷ 131 ∷ 226 ∷ 128 ∷ 168 ∷ [])) ∷ [])
    ∷ token TokenLineBreak ((13 ∷ []) ++ (ascii "\n"))
    ∷ token TokenWhiteSpace (194 ∷ 133 ∷ [])
    ∷ cmd_node "\\item" []
    ∷ env_node "tabular" (braced (token TokenWord ((225 ∷ 160 ∷ 142 ∷ []) ++ (ascii "lclc")) ∷ []) ∷ []) (tok_new_line ∷ cmd_node "\\midrule" [] ∷ tok_ampersand ∷ [])
    ∷ tok_break
    ∷ cmd_node "\\item" []
    ∷ over ItemEnd (token TokenCommandSym (ascii "list" ++ (226 ∷ 128 ∷ 131 ∷ 226 ∷ 128 ∷ 168 ∷ [])) ∷ [])
    ∷ []
    )
    ∷ []
    )
    (text (ascii "\\)" ++ ((13 ∷ []) ++ (ascii "\n  \n- #tabular(arg0: " ++ ((225 ∷ 160 ∷ 142 ∷ []) ++ (ascii " l c l c ,,#midrule &)\n  \n- "))))))
    ∷ []

pub document-examples-hold : hold document_examples ≡ true
unfolding hold
document-examples-hold = refl
