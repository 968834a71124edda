-- Worked conversions: labels written at once, held, replaced, written and dropped.
use Rattle.std.specs.Prelude.{◌≡◌, refl, true, List, [], ◌∷◌, ◌++◌, ◌+◌, ◌/◌}
use Rattle.text.specs.Ascii.{ascii}
use Rattle.mitex_syntax.specs.Syntax.{TokenError, ItemFormula, TokenWord, ItemCmd}
use Rattle.mitex_syntax.specs.Tree.Tree.{token}
use Rattle.mitex_meaning.specs.Outcome.{label_most}
use Rattle.mitex_meaning.specs.Examples.{Example, example, hold, usual, writes, over, tok, tok_word, tok_name, tok_space, tok_comment, tok_dollar, times, curly, arg, braced}
use Rattle.mitex_meaning.specs.Examples.{cmd_node, env_node}
use Rattle.mitex_meaning.specs.Examples.Expected.{text, refusal}
use Rattle.mitex_meaning.specs.declared.LaTeXMode.TheVariants.{Text, Math}

abbrev pub label_examples : List Example
label_examples =
    -- label under None in Math: nothing, and not held
    example usual Math (cmd_node "\\label" (braced (tok_word "k" ∷ []) ∷ []) ∷ []) (writes "")
    -- label under None of any length is written, no 14
    ∷ example usual Text
    (cmd_node "\\label" (braced (token TokenWord (times (10 + label_most) (ascii "k")) ∷ []) ∷ []) ∷ [])
    (text (ascii "<" ++ (times (10 + label_most) (ascii "k") ++ (ascii ">"))))
    -- label directly in a formula: env is None, so it is not held
    ∷ example usual Text
    (
    over ItemFormula (tok_dollar ∷ cmd_node "\\label" (braced (tok_word "k" ∷ []) ∷ []) ∷ tok_dollar ∷ [])
    ∷ env_node "quote" [] []
    ∷ []
    )
    (writes "#math.equation(block: false, $$);#quote[];")
    -- label in a formula's curly group is held
    ∷ example usual Text
    (
    over ItemFormula (tok_dollar ∷ curly (cmd_node "\\label" (braced (tok_word "k" ∷ []) ∷ []) ∷ []) ∷ tok_dollar ∷ [])
    ∷ env_node "quote" [] []
    ∷ []
    )
    (writes "#math.equation(block: false, $$);#quote[];<k>")
    -- label in quote is written at once: its env is None
    ∷ example usual Text
    (env_node "quote" [] (cmd_node "\\label" (braced (tok_word "k" ∷ []) ∷ []) ∷ []) ∷ [])
    (writes "#quote[<k>];")
    -- empty label is held and written as <>
    ∷ example usual Text
    (env_node "figure" [] (cmd_node "\\label" (braced (tok_space ∷ []) ∷ []) ∷ []) ∷ [])
    (writes "#figure()[];<>")
    -- later label replaces the held one
    ∷ example usual Text
    (env_node "figure" [] (cmd_node "\\label" (braced (tok_word "a" ∷ []) ∷ []) ∷ cmd_node "\\label" (braced (tok_word "b" ∷ []) ∷ []) ∷ []) ∷ [])
    (writes "#figure()[];<b>")
    -- figure in Math keeps the label held
    ∷ example usual Math
    (env_node "figure" [] (cmd_node "\\label" (braced (tok_word "k" ∷ []) ∷ []) ∷ []) ∷ [])
    (writes "#figure()[];")
    -- a list between leaves the label held
    ∷ example usual Text
    (
    over ItemFormula (tok_dollar ∷ curly (cmd_node "\\label" (braced (tok_word "k" ∷ []) ∷ []) ∷ []) ∷ tok_dollar ∷ [])
    ∷ env_node "itemize" [] []
    ∷ env_node "quote" [] []
    ∷ []
    )
    (writes "#math.equation(block: false, $$);#quote[];<k>")
    -- label in a caption: an environment inside the caption takes it
    ∷ example usual Text
    (env_node "figure" [] (cmd_node "\\caption" (braced (cmd_node "\\label" (braced (tok_word "k" ∷ []) ∷ []) ∷ env_node "quote" [] [] ∷ []) ∷ []) ∷ []) ∷ [])
    (writes "#figure(caption: [#quote[];<k>],)[];")
    -- label before a caption in the file is set after the caption's
    ∷ example usual Text
    (
    env_node "figure" [] (cmd_node "\\label" (braced (tok_word "first" ∷ []) ∷ []) ∷ cmd_node "\\caption" (braced (cmd_node "\\label" (braced (tok_word "cap" ∷ []) ∷ []) ∷ []) ∷ []) ∷ [])
    ∷ []
    )
    (writes "#figure(caption: [],)[];<first>")
    -- label's argument is its first ClauseArgument, also before the name
    ∷ example usual Text
    (over ItemCmd (arg (tok_word "<x>" ∷ []) ∷ tok_name "\\label" ∷ braced (tok_word "y" ∷ []) ∷ []) ∷ [])
    (writes "<x>")
    -- label text is the argument's text, ends cut whatever they are
    ∷ example usual Text (cmd_node "\\label" (arg (tok_word "abc" ∷ []) ∷ []) ∷ []) (writes "<b>")
    -- label in an argument of an environment for Math
    ∷ example usual Text
    (env_node "matrix" (braced (cmd_node "\\label" (braced (tok_word "k" ∷ []) ∷ []) ∷ []) ∷ []) [] ∷ [])
    (writes "$ mat(arg0: ,) $<k>")
    -- label in a matrix inside a formula waits for Text
    ∷ example usual Text
    (
    over ItemFormula (tok_dollar ∷ env_node "matrix" [] (cmd_node "\\label" (braced (tok_word "k" ∷ []) ∷ []) ∷ []) ∷ tok_dollar ∷ [])
    ∷ env_node "quote" [] []
    ∷ []
    )
    (writes "#math.equation(block: false, $mat()$);#quote[];<k>")
    -- long label in a figure
    ∷ example usual Text
    (env_node "figure" [] (cmd_node "\\label" (braced (token TokenWord (times (1 + label_most / 2) (195 ∷ 169 ∷ [])) ∷ []) ∷ []) ∷ []) ∷ [])
    (refusal 14 4)
    -- \label writes its argument's raw text, unwalked
    ∷ example usual Text
    (cmd_node "\\label" (braced (tok_word "a" ∷ cmd_node "\\b" [] ∷ tok TokenError "?" ∷ tok_comment ∷ []) ∷ []) ∷ [])
    (writes "<a\\b?%>")
    ∷ []

pub label-examples-hold : hold label_examples ≡ true
unfolding hold
label-examples-hold = refl
