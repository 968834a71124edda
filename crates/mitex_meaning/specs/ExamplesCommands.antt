-- Worked conversions: commands by their rule.
use Rattle.std.specs.Prelude.{◌≡◌, refl, true, List, [], ◌∷◌}
use Rattle.mitex_syntax.specs.Syntax.{TokenError, ItemFormula, ItemBegin, TokenCommandSym, ItemCmd}
use Rattle.mitex_syntax.specs.Tree.Tree.{token}
use Rattle.mitex_meaning.specs.Examples.{Example, example, hold, usual, rule_for, rule_as, writes, over, tok, tok_word, tok_name, tok_sym, tok_space, tok_new_line, tok_dollar, curly}
use Rattle.mitex_meaning.specs.Examples.{arg, braced, cmd_node, env_node}
use Rattle.mitex_meaning.specs.Examples.Expected.{refusal}
use Rattle.mitex_meaning.specs.declared.LaTeXMode.TheVariants.{Text, Math}

abbrev pub command_examples : List Example
command_examples =
    -- empty name: the command \ alone
    example (rule_as "" 0 "E" ∷ usual) Text (tok_sym "\\" ∷ []) (writes "E")
    -- empty alias writes nothing
    ∷ example (rule_as "x" 2 "" ∷ usual) Text (cmd_node "\\x" [] ∷ []) (writes ";")
    -- command whose name is an environment in the rules
    ∷ example usual Text (cmd_node "\\quote" [] ∷ []) (refusal 9 1)
    -- symbol \item, \label, \array, \color: looked up like any other
    ∷ example (rule_as "array" 1 "A" ∷ rule_as "item" 0 "I" ∷ rule_as "label" 2 "L" ∷ usual) Text
    (tok_sym "\\item" ∷ tok_sym "\\label" ∷ tok_sym "\\array" ∷ tok_sym "\\color" ∷ [])
    (writes "ILAmycolor")
    -- symbol \textbf in Text writes its alias
    ∷ example usual Text (tok_sym "\\textbf" ∷ []) (writes "bold")
    -- \textbf in Math writes its alias
    ∷ example usual Math (cmd_node "\\textbf" (braced (tok_word "a" ∷ []) ∷ []) ∷ []) (writes "bold(a )")
    -- \textbf in Text, class 0
    ∷ example (rule_for "textbf" 0 ∷ usual) Text (cmd_node "\\textbf" (braced (tok_word "a" ∷ []) ∷ []) ∷ []) (writes "#strong ")
    -- \textbf in Text, class 1
    ∷ example (rule_for "textbf" 1 ∷ usual) Text
    (cmd_node "\\textbf" (braced (tok_word "a" ∷ []) ∷ []) ∷ [])
    (writes "#strong(a)")
    -- \textbf in Text not in the rules
    ∷ example (rule_for "textbf" 3 ∷ usual) Text (cmd_node "\\textbf" (braced (tok_word "a" ∷ []) ∷ []) ∷ []) (refusal 9 1)
    -- alias substack makes a SubStack of any command
    ∷ example (rule_as "x" 2 "substack" ∷ usual) Math
    (cmd_node "\\x" (braced (tok_word "a" ∷ tok_new_line ∷ tok_word "b" ∷ []) ∷ []) ∷ [])
    (writes "substack(a \\ b )")
    -- \substack with another alias is none
    ∷ example (rule_as "substack" 2 "stack" ∷ usual) Math
    (cmd_node "\\substack" (braced (tok_word "a" ∷ tok_new_line ∷ tok_word "b" ∷ []) ∷ []) ∷ [])
    (writes "stack(a b )")
    -- SubStack in Text: a label inside is held
    ∷ example usual Text
    (
    cmd_node "\\substack" (braced (cmd_node "\\label" (braced (tok_word "k" ∷ []) ∷ []) ∷ []) ∷ [])
    ∷ env_node "quote" [] []
    ∷ []
    )
    (writes "substack[];#quote[];<k>")
    -- \textbf with alias substack in Text is #strong, no SubStack
    ∷ example (rule_as "textbf" 2 "substack" ∷ usual) Text
    (cmd_node "\\textbf" (braced (cmd_node "\\label" (braced (tok_word "k" ∷ []) ∷ []) ∷ []) ∷ []) ∷ [])
    (writes "#strong[<k>];")
    -- \item under SubStack inside a list
    ∷ example usual Text
    (env_node "itemize" [] (cmd_node "\\substack" (braced (cmd_node "\\item" [] ∷ []) ∷ []) ∷ []) ∷ [])
    (refusal 11 9)
    -- class 0: what stands under it is not walked
    ∷ example usual Text (cmd_node "\\alpha" (braced (tok TokenError "?" ∷ []) ∷ []) ∷ []) (writes "alpha ")
    -- class 2 in Text: only ClauseArguments are walked
    ∷ example usual Text (cmd_node "\\frac" (tok TokenError "?" ∷ braced (tok_word "a" ∷ []) ∷ []) ∷ []) (writes "frac[a];")
    -- class 2 in Math: all children are walked
    ∷ example usual Math
    (cmd_node "\\frac" (braced (tok_word "a" ∷ []) ∷ tok_space ∷ braced (tok_word "b" ∷ []) ∷ []) ∷ [])
    (writes "frac(a , b )")
    -- class 2 in Math: no comma after the last child only
    ∷ example usual Math (cmd_node "\\frac" (braced (tok_word "a" ∷ []) ∷ tok_space ∷ []) ∷ []) (writes "frac(a , )")
    -- # alias in Math: as in Text, and Text inside
    ∷ example usual Math (cmd_node "\\mbox" (braced (tok_word "ab" ∷ []) ∷ []) ∷ []) (writes "#textmath[ab];")
    -- argument before the name
    ∷ example usual Math
    (over ItemCmd (braced (tok_word "a" ∷ []) ∷ tok_name "\\frac" ∷ braced (tok_word "b" ∷ []) ∷ []) ∷ [])
    (writes "frac(a ,b )")
    -- second ClauseCommandName is passed over
    ∷ example usual Math (cmd_node "\\frac" (tok_name "nobackslash" ∷ braced (tok_word "b" ∷ []) ∷ []) ∷ []) (writes "frac(b )")
    -- Greedy, no child
    ∷ example usual Text (cmd_node "\\rm" [] ∷ []) (refusal 12 1)
    -- Greedy, a token first
    ∷ example usual Text (cmd_node "\\rm" (tok_space ∷ braced (tok_word "a" ∷ []) ∷ []) ∷ []) (refusal 12 1)
    -- Greedy, any node first: its children are converted, not itself
    ∷ example usual Text (cmd_node "\\rm" (over TokenError (tok_word "a" ∷ []) ∷ []) ∷ []) (writes "upright(a)")
    -- Greedy, an ItemBegin first
    ∷ example usual Text (cmd_node "\\rm" (over ItemBegin (tok_word "a" ∷ []) ∷ []) ∷ []) (writes "upright(a)")
    -- Greedy over an ItemBegin: its symbol has no backslash and loses its first byte
    ∷ example (rule_as "" 0 "E" ∷ usual) Text
    (cmd_node "\\rm" (over ItemBegin (tok_sym "x" ∷ []) ∷ []) ∷ [])
    (writes "upright(E)")
    -- Greedy over an ItemBegin: a symbol that begins with a many-byte character (the Rust panics)
    ∷ example usual Text
    (cmd_node "\\rm" (over ItemBegin (token TokenCommandSym (195 ∷ 169 ∷ []) ∷ []) ∷ []) ∷ [])
    (refusal 9 4)
    -- Greedy over an ItemFormula: no check 8, no Math
    ∷ example usual Text (cmd_node "\\rm" (over ItemFormula (tok_dollar ∷ tok_word "ab" ∷ []) ∷ []) ∷ []) (writes "upright(ab)")
    -- Greedy, the argument before the name
    ∷ example usual Text
    (over ItemCmd (arg (curly (tok_word "a" ∷ []) ∷ tok_word "b" ∷ []) ∷ tok_name "\\rm" ∷ []) ∷ [])
    (writes "upright(a,b)")
    -- Greedy, comma after each ItemCurly but the last child
    ∷ example usual Text
    (cmd_node "\\rm" (arg (curly (tok_word "a" ∷ []) ∷ curly (tok_word "b" ∷ []) ∷ tok_space ∷ []) ∷ []) ∷ [])
    (writes "upright(a,b, )")
    -- Greedy, the rest of the children is not walked
    ∷ example usual Text (cmd_node "\\rm" (arg (tok_word "a" ∷ []) ∷ tok TokenError "?" ∷ []) ∷ []) (writes "upright(a)")
    -- 7: ItemBegin outside an environment; its symbol needs no backslash
    ∷ example usual Text (over ItemBegin (tok_sym "x" ∷ []) ∷ []) (refusal 7 1)
    -- 7: a second command name in Greedy's node
    ∷ example usual Text (cmd_node "\\rm" (arg (tok_name "\\x" ∷ []) ∷ []) ∷ []) (refusal 7 4)
    ∷ []

pub command-examples-hold : hold command_examples ≡ true
unfolding hold
command-examples-hold = refl
