-- `\color`, `\textcolor` and `\colorbox`: a model, a colour and a body. `\color` takes them from the children of its first
-- argument, since Greedy arguments are not grouped; the others take one argument each.
use Rattle.std.specs.Prelude.{Bool, true, false, ◌&&◌, cond, List, ◌++◌, ℕ, ◌+◌, length, leb}
use Rattle.std.proofs.Math.Option.{Option}
use Rattle.std.proofs.Math.Option.Option.{none as nothing, some}
use Rattle.text.specs.Compare.{starts_with, ends_with}
use Rattle.mitex_spec.specs.Rules.{Rule, alias_or}
use Rattle.mitex_syntax.specs.Syntax.{ClauseArgument, TokenLBracket, TokenRBracket}
use Rattle.mitex_syntax.specs.Tree.{Tree, Forest, size, text_of, texts_of}
use Rattle.mitex_syntax.specs.Tree.Forest.{none, more}
use Rattle.mitex_syntax.specs.Views.{offset_by, before_by, from_by, is_of, is_solid, inner}
use Rattle.mitex_meaning.specs.Outcome.{Context, Carry, Outcome, Conv, after, and_then, closing, shift, in_mode}
use Rattle.mitex_meaning.specs.Outcome.Outcome.{done}
use Rattle.mitex_meaning.specs.Children.{each}
use Rattle.mitex_meaning.specs.Texts.{left_paren, left_bracket, right_bracket, argument_end, block_end, mitexcolor, no_model, black, color_end}
use Rattle.mitex_meaning.specs.declared.LaTeXMode.{LaTeXMode}
use Rattle.mitex_meaning.specs.declared.LaTeXMode.TheVariants.{Text, Math}
use Rattle.mitex_meaning.specs.declared.Loop.{Loop}
use Rattle.mitex_meaning.specs.declared.Loop.TheVariants.{Plain, Dollars, Arguments}

-- elements, and how many rows below the command the first of them stands
pub record Rest : Type 0 where
  pub rows : ℕ
  pub elements : Forest

abbrev pub rest : ℕ → Forest → Rest
rest o f = record { rows = o; elements = f }

-- from the first element on that a test picks
abbrev pub seek : (Tree → Bool) → Rest → Rest
seek p r = rest (r.rows + offset_by p r.elements) (from_by p r.elements)

-- past the first element
abbrev pub past : ℕ → Forest → Rest
past o none = rest o none
past o (more t f) = rest (o + size t) f

abbrev pub past_first : Rest → Rest
past_first r = past r.rows r.elements

-- what is written for a model, and the elements after it
pub record Model : Type 0 where
  pub text : List ℕ
  pub behind : Rest

abbrev pub model : List ℕ → Rest → Model
model w r = record { text = w; behind = r }

abbrev pub in_model : List ℕ → List ℕ
in_model m = left_bracket ++ (m ++ argument_end)

-- `\color`: trivia is passed over; a model begins with a direct TokenLBracket and runs to a direct TokenRBracket or the end, and
-- trivia after it is passed over too
abbrev pub bracket_model : ℕ → Forest → Model
bracket_model o none = model no_model (rest o none)
bracket_model o (more t f) =
    cond (is_of TokenLBracket t)
    (model (in_model (texts_of (before_by (is_of TokenRBracket) f))) (seek is_solid (past_first (seek (is_of TokenRBracket) (rest (o + size t) f)))))
    (model no_model (rest o (more t f)))

abbrev pub model_in : Rest → Model
model_in r = bracket_model r.rows r.elements

abbrev pub greedy_model : ℕ → Forest → Model
greedy_model o f = model_in (seek is_solid (rest o f))

-- `\textcolor` and `\colorbox`: the first argument is a model if its text begins with `[` and ends with `]`
abbrev pub is_model : List ℕ → Bool
is_model s = starts_with s left_bracket && (ends_with s right_bracket && leb 2 (length s))

abbrev pub first_model : ℕ → Forest → Model
first_model o none = model no_model (rest o none)
first_model o (more t f) =
    cond (is_model (text_of t))
    (model (in_model (inner (text_of t))) (seek (is_of ClauseArgument) (rest (o + size t) f)))
    (model no_model (rest o (more t f)))

abbrev pub model_first : Rest → Model
model_first r = first_model r.rows r.elements

abbrev pub argument_model : ℕ → Forest → Model
argument_model o f = model_first (seek (is_of ClauseArgument) (rest o f))

-- ---- what is written

abbrev pub body_end : LaTeXMode → List ℕ
body_end Text = block_end
body_end Math = right_bracket

-- the colour is one element in Text, or black; in Math each body element stands between its own dollars
abbrev pub colored : Conv → Context → Loop → ℕ → Forest → Carry → Outcome
colored conv x l o none c = done c (black ++ (color_end ++ body_end x.mode))
colored conv x l o (more t f) c =
    and_then (shift o (conv (in_mode Text x) t c))
    (λ c'. after color_end (closing (body_end x.mode) (each (conv x) (o + size t) l f c')))

abbrev pub with_model : Conv → Context → List ℕ → Loop → Model → Carry → Outcome
with_model conv x name l m c =
    after (name ++ (left_paren ++ (m.text ++ left_bracket))) (colored conv x l m.behind.rows m.behind.elements c)

-- a colour command that is absent from the rules or has no alias there
abbrev pub color_alias : Option Rule → List ℕ
color_alias nothing = mitexcolor
color_alias (some r) = alias_or r.alias mitexcolor

abbrev pub body_loop : LaTeXMode → Loop
body_loop Text = Plain
body_loop Math = Dollars

abbrev pub arguments_loop : LaTeXMode → Loop
arguments_loop Text = Arguments false
arguments_loop Math = Arguments true
