-- What a token writes.
use Rattle.std.specs.Prelude.{Bool, true, false, ◌||◌, cond, List, [], ◌∷◌, ◌++◌, ℕ, drop, eqb}
use Rattle.std.proofs.Math.Option.{Option}
use Rattle.std.proofs.Math.Option.Option.{none as nothing, some}
use Rattle.text.specs.Writing.{spaces}
use Rattle.utf8.specs.Chars.{chars}
use Rattle.mitex_spec.specs.Rules.{Rule, get_cmd, written_name}
use Rattle.mitex_syntax.specs.Syntax.{TokenError, ClauseCommandName, TokenWord, TokenWhiteSpace, TokenLineBreak, TokenTilde, TokenAmpersand, ItemNewLine, TokenCommandSym}
use Rattle.mitex_meaning.specs.Outcome.{Context, Carry, Outcome, flagged}
use Rattle.mitex_meaning.specs.Outcome.Outcome.{refused, done}
use Rattle.mitex_meaning.specs.Texts.{space, escape, tilde, ampersand, new_line}
use Rattle.mitex_meaning.specs.declared.LaTeXMode.{LaTeXMode}
use Rattle.mitex_meaning.specs.declared.LaTeXMode.TheVariants.{Text, Math}

-- each character and a space
unfoldable pub spaced : List (List ℕ) → List ℕ
spaced [] = []
spaced (c ∷ cs) = c ++ (space ++ spaced cs)

-- a word; in Math each character and a space
abbrev pub word : LaTeXMode → List ℕ → List ℕ
word Text s = s
word Math s = spaced (chars s)

-- the tokens that only write
abbrev pub token_text : Context → ℕ → List ℕ → List ℕ
token_text x k s =
    cond (eqb k TokenWord) (word x.mode s)
    (cond (eqb k TokenTilde) (tilde x.mode)
    (cond (eqb k TokenAmpersand) (ampersand x.env)
    (cond (eqb k ItemNewLine) (new_line x.env)
    (escape k))))

-- white space: with the flag set it clears it and writes nothing
abbrev pub white_space : Bool → List ℕ → Carry → Outcome
white_space true s c = done (flagged false c) []
white_space false s c = done c s

-- a command symbol like `\alpha`: its name, which must be a command in the rules
abbrev pub symbol_by : List ℕ → Option Rule → Carry → Outcome
symbol_by name nothing c = refused 9 0
symbol_by name (some r) c = done c (written_name r name)

abbrev pub command_sym : Context → List ℕ → Carry → Outcome
command_sym x s c = symbol_by (drop 1 s) (get_cmd x.rules (drop 1 s)) c

-- every token but white space clears the flag first; a line break then sets it
unfoldable pub token_out : Context → ℕ → List ℕ → Carry → Outcome
token_out x k s c =
    cond (eqb k TokenWhiteSpace) (white_space c.flag s c)
    (cond (eqb k TokenLineBreak) (done (flagged true c) (s ++ spaces x.indent))
    (cond (eqb k TokenError || eqb k ClauseCommandName) (refused 7 0)
    (cond (eqb k TokenCommandSym) (command_sym x s (flagged false c))
    (done (flagged false c) (token_text x k s)))))
