-- Worked conversions: lists, environments for Math, normal environments and figures.
use Rattle.std.specs.Prelude.{◌≡◌, refl, true, List, [], ◌∷◌, ◌++◌}
use Rattle.text.specs.Ascii.{ascii}
use Rattle.mitex_syntax.specs.Syntax.{TokenError, ItemText, ItemBegin, ItemEnd, TokenCommandSym, ItemEnv}
use Rattle.mitex_syntax.specs.Tree.Tree.{token}
use Rattle.mitex_meaning.specs.Examples.{Example, example, hold, usual, rule_for, writes, over, tok, tok_word, tok_sym, tok_space, tok_break, tok_new_line, tok_ampersand, arg}
use Rattle.mitex_meaning.specs.Examples.{braced, bracketed, cmd_node, env_node}
use Rattle.mitex_meaning.specs.Examples.Expected.{refusal}
use Rattle.mitex_meaning.specs.declared.LaTeXMode.TheVariants.{Text, Math}

abbrev pub environment_examples : List Example
environment_examples =
    -- environment whose name is a command in the rules
    example usual Text (env_node "alpha" [] [] ∷ []) (refusal 10 1)
    -- environment name trimmed, looked up and written trimmed
    ∷ example usual Text
    (
    over ItemEnv (
    over ItemBegin (token TokenCommandSym ((227 ∷ 128 ∷ 128 ∷ []) ++ (ascii "quote " ++ (194 ∷ 133 ∷ []))) ∷ [])
    ∷ over ItemEnd (token TokenCommandSym ((227 ∷ 128 ∷ 128 ∷ []) ++ (ascii "quote " ++ (194 ∷ 133 ∷ []))) ∷ [])
    ∷ []
    )
    ∷ []
    )
    (writes "#quote[];")
    -- U+200B is not trimmed
    ∷ example usual Text
    (
    over ItemEnv (over ItemBegin (token TokenCommandSym (ascii "quote" ++ (226 ∷ 128 ∷ 139 ∷ [])) ∷ []) ∷ over ItemEnd (token TokenCommandSym (ascii "quote" ++ (226 ∷ 128 ∷ 139 ∷ [])) ∷ []) ∷ [])
    ∷ []
    )
    (refusal 10 1)
    -- environment name of white space only: the empty name
    ∷ example (rule_for "" 3 ∷ usual) Text (env_node " " [] [] ∷ []) (writes "#[];")
    -- environment name found below first children keeps its backslash
    ∷ example (rule_for "\\foo" 3 ∷ usual) Text
    (over ItemEnv (over ItemBegin (over ItemText (tok_sym "\\foo" ∷ []) ∷ []) ∷ []) ∷ [])
    (writes "#\\foo[];")
    -- figure: a caption without argument is 12, before an error that stands earlier
    ∷ example usual Text (env_node "figure" [] (tok TokenError "?" ∷ cmd_node "\\caption" [] ∷ []) ∷ []) (refusal 12 5)
    -- figure: the first of two captions without argument
    ∷ example usual Text
    (env_node "figure" [] (cmd_node "\\caption" [] ∷ cmd_node "\\caption" (braced [] ∷ []) ∷ []) ∷ [])
    (refusal 12 4)
    -- figure: an error in the last caption comes before one in the children
    ∷ example usual Text
    (env_node "figure" [] (tok_sym "\\nosuch" ∷ cmd_node "\\caption" (braced (tok TokenError "?" ∷ []) ∷ []) ∷ []) ∷ [])
    (refusal 7 10)
    -- figure: earlier captions are not walked
    ∷ example usual Text
    (env_node "figure" [] (cmd_node "\\caption" (braced (tok TokenError "?" ∷ []) ∷ []) ∷ cmd_node "\\caption" (braced (tok_word "c" ∷ []) ∷ []) ∷ []) ∷ [])
    (writes "#figure(caption: [c],)[];")
    -- figure: a caption further in is a normal command
    ∷ example usual Text
    (env_node "figure" [] (over ItemText (cmd_node "\\caption" (braced [] ∷ []) ∷ []) ∷ []) ∷ [])
    (refusal 9 5)
    -- figure: only the caption's first argument
    ∷ example usual Text
    (env_node "figure" [] (cmd_node "\\caption" (bracketed (tok_word "short" ∷ []) ∷ braced (tok_word "long" ∷ []) ∷ []) ∷ []) ∷ [])
    (writes "#figure(caption: [\\[short\\]],)[];")
    -- lists: indent and marks
    ∷ example usual Text
    (env_node "itemize" [] (cmd_node "\\item" [] ∷ tok_break ∷ tok_space ∷ env_node "enumerate" [] (cmd_node "\\item" [] ∷ tok_break ∷ tok_word "a" ∷ []) ∷ []) ∷ [])
    (writes "\n- \n  \n  + \n    a")
    -- quote in a list: \item is 11, indent stays
    ∷ example usual Text
    (env_node "itemize" [] (env_node "quote" [] (tok_break ∷ []) ∷ env_node "quote" [] (cmd_node "\\item" [] ∷ []) ∷ []) ∷ [])
    (refusal 11 13)
    -- matrix in Text with arguments
    ∷ example usual Text
    (env_node "matrix" (braced (tok_word "a" ∷ tok_new_line ∷ []) ∷ bracketed (tok_ampersand ∷ []) ∷ []) (tok_word "b" ∷ tok_new_line ∷ tok_ampersand ∷ []) ∷ [])
    (writes "$ mat(arg0: a ,arg1: \\[zws ,\\],b zws ;zws ,) $")
    -- matrix in Math: no dollars, Math stays
    ∷ example usual Math (env_node "matrix" [] (tok_word "b" ∷ []) ∷ tok_word "c" ∷ []) (writes "mat(b )c ")
    -- cases: newline is a comma, & stays &
    ∷ example usual Math (env_node "cases" [] (tok_word "a" ∷ tok_ampersand ∷ tok_new_line ∷ []) ∷ []) (writes "cases(a &,)")
    -- quote in Math: content stays Math
    ∷ example usual Math (env_node "quote" [] (tok_word "ab" ∷ tok_new_line ∷ []) ∷ []) (writes "#quote[a b \\ ];")
    -- arguments of quote are not written
    ∷ example usual Text (env_node "quote" (braced (tok TokenError "?" ∷ []) ∷ []) [] ∷ []) (writes "#quote[];")
    -- numbers are decimal: arg10
    ∷ example usual Math
    (env_node "matrix" (arg [] ∷ arg [] ∷ arg [] ∷ arg [] ∷ arg [] ∷ arg [] ∷ arg [] ∷ arg [] ∷ arg [] ∷ arg [] ∷ arg [] ∷ []) [] ∷ [])
    (writes "mat(arg0: ,arg1: ,arg2: ,arg3: ,arg4: ,arg5: ,arg6: ,arg7: ,arg8: ,arg9: ,arg10: ,)")
    -- arguments of a list are not written
    ∷ example usual Text (env_node "itemize" (braced (tok TokenError "?" ∷ []) ∷ []) [] ∷ []) (writes "")
    -- what stands before the ItemBegin is walked too
    ∷ example usual Text
    (over ItemEnv (tok_word "a" ∷ over ItemBegin (tok_sym "quote" ∷ []) ∷ tok_word "b" ∷ []) ∷ [])
    (writes "#quote[ab];")
    -- matrix: Text inside by a # alias still has the matrix's & and newline
    ∷ example usual Math
    (env_node "matrix" [] (cmd_node "\\mbox" (braced (tok_ampersand ∷ tok_new_line ∷ []) ∷ []) ∷ []) ∷ [])
    (writes "mat(#textmath[zws ,zws ;];)")
    -- \item's arguments are not walked
    ∷ example usual Text
    (env_node "itemize" [] (cmd_node "\\item" (bracketed (tok TokenError "?" ∷ []) ∷ []) ∷ []) ∷ [])
    (writes "\n- ")
    ∷ []

pub environment-examples-hold : hold environment_examples ≡ true
unfolding hold
environment-examples-hold = refl
