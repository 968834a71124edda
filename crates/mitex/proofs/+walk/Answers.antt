-- The answers of the walk over trees, function by function. What they lean on stands in the lemma files: the loops over elements in Walking,
-- what one walk is given by another and what becomes of its answer in Rooms, the arms in Commanding, Environing, Taking, Bodies and Grouping.
use lib.ListN.{length-drop}
use Rattle.std.proofs.Common.{arith, ap, subst, sym, refl, inl, inr, true, false, Bool, ℕ, List, length, take, drop, get_or, ◌≡◌, ◌∙◌, ◌+◌, ◌/◌, ◌<◌, ◌≤◌, ◌++◌, ◌⊎◌}
use Rattle.std.specs.Option.{is_some}
use Rattle.mitex.proofs.Bodies.{Captioned, caption-walked, math-is}
use Rattle.mitex.proofs.Commanding.{arguments-number, body-number, color-head, colors-how, command-is, normal-absent, normal-found, normal-written, stacked}
use Rattle.mitex.proofs.Environing.{bare-row-low, env-absent, env-found, env-named, figure-bare, letters-bad, letters-good, letters-short, table-bad, table-letters}
use Rattle.mitex.proofs.Grouping.{agrees-further, curly-math, formula-bad, formula-good, lr-named}
use Rattle.mitex.proofs.Rooms.{as-children, back-by, back-env, back-mode, back-same, back-set, closed, exact-children, found-by, framed, handed-by, handed-on, leaves, moved, refused-here, room-on, agrees-in, room-at, some-at, told-as, turns-at, walks-at, walks-from, walks-good}
use Rattle.mitex.proofs.Spelt.{spelt, elements-few}
use Rattle.mitex.proofs.Taking.{between-short, black-is, color-is, greedy-is, greedy-refused, greedy-stands, halved, part-spans}
use Rattle.mitex.proofs.Walking.{alone-agrees, arm-room, arm-siblings, arm-turns, below-is, byte-is, child, child-behind, child-spans, children-next, flat-next, front-is, head-start, i-eighth, kind-is, left-behind, loop-done, loop-next, loop-refused, loop-row, on-is, ran-at, rest-is, rest-length, rest-short, run-asked, run-given, run-next, run-refused, siblings-at, spans-on, spells-at, steady-end, steady-refused, steady-siblings, steady-stop, stops-at, tail-is, turned, turned-passed, turned-refused, under-long, walks-kind}
use Rattle.mitex_loops.proofs.FirstChild.{empty, fits-behind, some-left}
use Rattle.mitex_meaning.proofs.Agreeing.{agrees-as, agrees-good, agrees-done, agrees-shift, agrees_after, agrees-takes, number-some, then-done}
use Rattle.mitex_syntax.proofs.Trees.{all-begins, no-left, part, spells-alone}
use Rattle.text.proofs.Writing.{part-rest, wrote-nil, wrote_as}
use Rattle.mitex_meaning.specs.declared.Act.TheVariants.{Convert}
use Rattle.mitex_meaning.specs.declared.Arguments.{Arguments}
use Rattle.mitex_meaning.specs.declared.Arguments.TheVariants.{GreedyArgument, MathArguments, NoArguments, TextArguments}
use Rattle.mitex_meaning.specs.declared.Command.TheVariants.{Array, Color, ColorArguments, IncludeGraphics}
use Rattle.mitex_meaning.specs.declared.Converter.{Converter}
use Rattle.mitex_meaning.specs.declared.Element.{Element}
use Rattle.mitex_meaning.specs.declared.LaTeXEnv.{LaTeXEnv}
use Rattle.mitex_meaning.specs.declared.LaTeXEnv.TheVariants.{Cases, Enumerate, Figure as EnvFigure, Itemize, Math as EnvMath, MathCurlyGroup, Matrix, None as EnvNone, SubStack, Table as EnvTable}
use Rattle.mitex_meaning.specs.declared.LaTeXMode.{LaTeXMode}
use Rattle.mitex_meaning.specs.declared.LaTeXMode.TheVariants.{Math, Text}
use Rattle.mitex_meaning.specs.declared.Loop.TheVariants.{Bracketed, Figure, Greedy, Inside, Named, Spaced, Table}
use Rattle.refusals.specs.declared.Reason.TheVariants.{BadColumn, Misplaced, NoArgument, NoCommand, NoEnvironment, UnlikeEnds}
use Rattle.mitex.specs.Walks.{Siblings, looping, tail_at}
use Rattle.mitex_colors.specs.Models.{ColorFound, ModelFound, model_text}
use Rattle.mitex_loops.specs.Given.{number_of}
use Rattle.mitex_loops.specs.Steady.{SteadyRun}
use Rattle.mitex_meaning.specs.Contract.{Agrees}
use Rattle.mitex_meaning.specs.Contract.Agrees.{declines}
use Rattle.refusals.specs.Refusals.{refusal_number}
use Rattle.mitex_syntax.specs.Spells.{Spells, SpellsAll}
use Rattle.mitex_spec.specs.Index.{Ready}
use Rattle.mitex_environments.specs.Captions.{caption_close, caption_text}
use Rattle.mitex_loops.specs.FirstChild.{FirstApart, behind_first, first_size}
use Rattle.mitex_meaning.specs.Children.{act_of, each, next_loop, turn}
use Rattle.mitex_meaning.specs.Colors.{Model, argument_model, body_end, color_alias}
use Rattle.mitex_meaning.specs.Commands.{arguments_by, typst_name}
use Rattle.mitex_meaning.specs.Contract.{Place, Takes, place_of, went_with}
use Rattle.mitex_meaning.specs.Conversion.{arm_by, convert as meaning, element_of}
use Rattle.mitex_meaning.specs.Environments.{env_begin, env_body, env_end, in_math, is_list, math_env, plain_env, take_label}
use Rattle.mitex_meaning.specs.Groups.{children, lr_begin, lr_end}
use Rattle.mitex_meaning.specs.Outcome.{Carry, Context, Conv, Outcome, after, and_then, closing, in_env, shift}
use Rattle.mitex_meaning.specs.Outcome.Outcome.{refused}
use Rattle.mitex_meaning.specs.Parts.{BeginFound, CaptionFound, GreedyFound}
use Rattle.mitex_meaning.specs.State.{carry_of, context_of, entered_env, with_flag, with_mode}
use Rattle.mitex_meaning.specs.Tables.{table_head}
use Rattle.mitex_meaning.specs.Texts.{block_end, color_end, dollar_begin, dollar_end, formula_begin, formula_end, hash, left_bracket, left_paren, right_paren, semicolon}
use Rattle.mitex_spec.specs.Rules.{Rule, get_cmd}
use Rattle.mitex_syntax.specs.Syntax.{ClauseArgument}
use Rattle.mitex_syntax.specs.Rows.{extent_of, token_sum}
use Rattle.mitex_meaning.specs.Runs.{is_flat}
use Rattle.mitex_syntax.specs.Tree.{Forest, Tree, size}
use Rattle.mitex_syntax.specs.Tree.Forest.{more, none}
use Rattle.mitex_syntax.specs.Views.{begin_of, first_of}
use Rattle.text.specs.Writing.{Wrote}
use Rattle.utf8.specs.Trim.{trim}
use Rattle.mitex.proofs.+walk.Goals as goal

-- ---- `args`: arguments between parens or with a semicolon after them, and a Greedy argument's children

-- what the arguments come to, by how they are taken
by-how :
    (how way : Arguments) → how ≡ way → (rs : List Rule) (f : Forest) (d : ℕ) (s : Converter)
    → arguments_by how (meaning d) (context_of rs s) f (carry_of s) ≡ arguments_by way (meaning d) (context_of rs s) f (carry_of s)
by-how how way e rs f d s = ap (λ (q : Arguments). arguments_by q (meaning d) (context_of rs s) f (carry_of s)) e

pub args-returns-in_default-clause-walks : goal.args-returns-in_default-clause-walks
args-returns-in_default-clause-walks t c =
    let k = c.args.c.now in
    let e = c.args.e in
    let q = c.children.ensures in
    λ rs ready f sp n h. agrees-as
    (by-how c.args.how GreedyArgument c.in-GreedyArgument.is rs f n k
    ∙ greedy-refused (found-by (λ g l s. GreedyFound g l s c.greedy_node.result) q.rows q.text c.greedy_node.ensures.found f sp) c.in_default.is (meaning n) _ _)
    (refused-here NoArgument)

pub args-inside-requires-clause-spelt : goal.args-inside-requires-clause-spelt
args-inside-requires-clause-spelt t c =
    let k = c.args.c.now in
    let e = c.args.e in
    let q = c.children.ensures in
    let found = found-by (λ g l s. GreedyFound g l s c.greedy_node.result) q.rows q.text c.greedy_node.ensures.found in
    let p = c.in-Some.node in
    let g = spelt e in
    let stands = greedy-stands (found g.forest g.spells) p c.in-Some.is in
    record { forest = stands.forest; spells = stands.spells }

pub args-returns-in_err-each-in-GreedyArgument-clause-walks : goal.args-returns-in_err-each-in-GreedyArgument-clause-walks
args-returns-in_err-each-in-GreedyArgument-clause-walks t c =
    let k = c.args.c.now in
    let e = c.args.e in
    let q = c.children.ensures in
    let found = found-by (λ g l s. GreedyFound g l s c.greedy_node.result) q.rows q.text c.greedy_node.ensures.found in
    let p = c.in-Some.node in
    let i = c.inside.ensures in
    let at_row : c.inside.result.row ≡ e.row + (1 + p.row / 8) = omega (arith, i.row) in
    λ rs ready f sp n h.
    let stands = greedy-stands (found f sp) p c.in-Some.is in
    agrees-as (by-how c.args.how GreedyArgument c.in-GreedyArgument.is rs f n k ∙ greedy-is stands (meaning n) _ _)
    (handed-by _ _ _ c.in_err-each-in-GreedyArgument.field-0.0 (λ o. after left_paren (closing right_paren o)) (λ _ _. refl)
    (c.from_residual.ensures.1)
    (agrees-shift (1 + p.row / 8)
    (walks-at k (looping Greedy) i.rows i.text at_row c.in_err-each-in-GreedyArgument.ensures.walks rs ready stands.forest stands.spells n
    (omega (arith, stands.fits, h)))))

pub args-returns-in_err-each-in-MathArguments-clause-walks : goal.args-returns-in_err-each-in-MathArguments-clause-walks
args-returns-in_err-each-in-MathArguments-clause-walks t c =
    let k = c.args.c.now in
    let e = c.args.e in
    λ rs ready f sp n h. agrees-as (by-how c.args.how MathArguments c.in-MathArguments.is rs f n k)
    (handed-by _ _ _ c.in_err-each-in-MathArguments.field-0.0 (λ o. after left_paren (closing right_paren o)) (λ _ _. refl)
    (c.from_residual-in_err-each-in-MathArguments.ensures.1) (c.in_err-each-in-MathArguments.ensures.walks rs ready f sp n h))

pub args-returns-in_err-each-in-TextArguments-clause-walks : goal.args-returns-in_err-each-in-TextArguments-clause-walks
args-returns-in_err-each-in-TextArguments-clause-walks t c =
    let k = c.args.c.now in
    let e = c.args.e in
    λ rs ready f sp n h. agrees-as (by-how c.args.how TextArguments c.in-TextArguments.is rs f n k)
    (handed-by _ _ _ c.in_err-each-in-TextArguments.field-0.0 (closing semicolon) (λ _ _. refl)
    (c.from_residual-in_err-each-in-TextArguments.ensures.1)
    (walks-from (looping Bracketed) (c.enter_mode-prev.ensures.1) c.in_err-each-in-TextArguments.ensures.walks rs ready f sp n h))

pub args-returns-in-NoArguments-clause-walks : goal.args-returns-in-NoArguments-clause-walks
args-returns-in-NoArguments-clause-walks t c =
    let k = c.args.c.now in
    let e = c.args.e in
    λ rs ready f sp n h. agrees-as (by-how c.args.how NoArguments c.in-NoArguments.is rs f n k)
    (agrees-done k refl refl refl c.requires.label c.put.ensures.wrote)

pub args-returns-in_ok-each-in-GreedyArgument-clause-walks : goal.args-returns-in_ok-each-in-GreedyArgument-clause-walks
args-returns-in_ok-each-in-GreedyArgument-clause-walks t c =
    let k = c.args.c.now in
    let e = c.args.e in
    let q = c.children.ensures in
    let found = found-by (λ g l s. GreedyFound g l s c.greedy_node.result) q.rows q.text c.greedy_node.ensures.found in
    let p = c.in-Some.node in
    let i = c.inside.ensures in
    let at_row : c.inside.result.row ≡ e.row + (1 + p.row / 8) = omega (arith, i.row) in
    λ rs ready f sp n h.
    let stands = greedy-stands (found f sp) p c.in-Some.is in
    agrees-as (by-how c.args.how GreedyArgument c.in-GreedyArgument.is rs f n k ∙ greedy-is stands (meaning n) _ _)
    (framed c.args.out.now.few c.put-in-GreedyArgument.ensures.wrote c.put-in-GreedyArgument.new.self.few
    (agrees-shift (1 + p.row / 8)
    (walks-at k (looping Greedy) i.rows i.text at_row c.in_ok-each-in-GreedyArgument.ensures.walks rs ready stands.forest stands.spells n
    (omega (arith, stands.fits, h))))
    c.put-in-GreedyArgument-2.ensures.wrote back-same)

pub args-returns-in_ok-each-in-MathArguments-clause-walks : goal.args-returns-in_ok-each-in-MathArguments-clause-walks
args-returns-in_ok-each-in-MathArguments-clause-walks t c =
    let k = c.args.c.now in
    let e = c.args.e in
    λ rs ready f sp n h. agrees-as (by-how c.args.how MathArguments c.in-MathArguments.is rs f n k)
    (framed c.args.out.now.few c.put-in-MathArguments.ensures.wrote c.put-in-MathArguments.new.self.few
    (c.in_ok-each-in-MathArguments.ensures.walks rs ready f sp n h) c.put-in-MathArguments-2.ensures.wrote back-same)

pub args-returns-in_ok-each-in-TextArguments-clause-walks : goal.args-returns-in_ok-each-in-TextArguments-clause-walks
args-returns-in_ok-each-in-TextArguments-clause-walks t c =
    let k = c.args.c.now in
    let e = c.args.e in
    let prev = c.enter_mode-prev.ensures in
    λ rs ready f sp n h. agrees-as (by-how c.args.how TextArguments c.in-TextArguments.is rs f n k)
    (closed c.args.out.now.few
    (walks-from (looping Bracketed) (prev.1) c.in_ok-each-in-TextArguments.ensures.walks rs ready f sp n h)
    c.put-in-TextArguments.ensures.wrote (back-mode (place_of k) Text (prev.0) c.exit_mode.ensures))

-- ---- `arm`: the element is told by the kind; what is promised of its arm is what is asked of the kind

-- what an arm comes to, by the element that the kind names
by_kind :
    (q : ℕ) {r e : Element} → r ≡ element_of q → r ≡ e → (rs : List Rule) (f : Forest) (d : ℕ) (s : Converter)
    → arm_by (element_of q) (meaning d) (context_of rs s) f (carry_of s) ≡ arm_by e (meaning d) (context_of rs s) f (carry_of s)
by_kind q u v rs f d s = ap (λ (e : Element). arm_by e (meaning d) (context_of rs s) f (carry_of s)) (sym u ∙ v)

unexpected :
    {e : Element} → (e ≡ Element.Unexpected) ⊎ (e ≡ Element.Token) → (conv : Conv) (x : Context) (f : Forest) (k : Carry) → arm_by e conv x f k ≡ refused 7 0
unexpected (inl q) conv x f k = ap (λ (e : Element). arm_by e conv x f k) q
unexpected (inr q) conv x f k = ap (λ (e : Element). arm_by e conv x f k) q

pub arm-returns-in-Unexpected-clause-walks : goal.arm-returns-in-Unexpected-clause-walks
arm-returns-in-Unexpected-clause-walks t c =
    let k = c.args.c.now in
    let e = c.args.e in
    λ rs ready f sp n h. agrees-as
    (by_kind c.args.kind c.element_of.ensures refl rs f n k ∙ unexpected c.in-Unexpected.is (meaning n) _ f _)
    (refused-here Misplaced)

pub arm-returns-in-Silent-clause-walks : goal.arm-returns-in-Silent-clause-walks
arm-returns-in-Silent-clause-walks t c =
    let k = c.args.c.now in
    let e = c.args.e in
    λ rs ready f sp n h. agrees-as
    (by_kind c.args.kind c.element_of.ensures c.in-Silent.is rs f n k)
    (agrees-done k refl refl refl c.requires.label (wrote-nil _ _ c.args.out.now.near))

pub arm-returns-in-TypstCode-clause-walks : goal.arm-returns-in-TypstCode-clause-walks
arm-returns-in-TypstCode-clause-walks t c =
    let k = c.args.c.now in
    let e = c.args.e in
    λ rs ready f sp n h. agrees-as
    (by_kind c.args.kind c.element_of.ensures c.in-TypstCode.is rs f n k)
    (agrees-done k refl refl refl c.requires.label (wrote_as sp.text_is c.put.ensures.wrote))

-- ---- `body`: a list or a normal environment is its children between two texts, in a place of its own; the others are handed on

-- by the variants of an arm that several share
plain-by-arm :
    {e : LaTeXEnv} (w : List ℕ) (conv : Conv) (x : Context) (f : Forest) (c : Carry) → (e ≡ EnvNone) ⊎ ((e ≡ Itemize) ⊎ (e ≡ Enumerate))
    → env_body e w conv x f c ≡ plain_env e w conv x f c
plain-by-arm w conv x f c (inl q) = rw q refl
plain-by-arm w conv x f c (inr (inl q)) = rw q refl
plain-by-arm w conv x f c (inr (inr q)) = rw q refl

math-by-arm :
    {e : LaTeXEnv} (w : List ℕ) (conv : Conv) (x : Context) (f : Forest) (c : Carry)
    → (e ≡ EnvMath) ⊎ ((e ≡ Matrix) ⊎ ((e ≡ Cases) ⊎ ((e ≡ SubStack) ⊎ (e ≡ MathCurlyGroup))))
    → env_body e w conv x f c ≡ math_env e w conv x f c
math-by-arm w conv x f c (inl q) = rw q refl
math-by-arm w conv x f c (inr (inl q)) = rw q refl
math-by-arm w conv x f c (inr (inr (inl q))) = rw q refl
math-by-arm w conv x f c (inr (inr (inr (inl q)))) = rw q refl
math-by-arm w conv x f c (inr (inr (inr (inr q)))) = rw q refl

pub body-returns-in_err-each-in-None-clause-walks : goal.body-returns-in_err-each-in-None-clause-walks
body-returns-in_err-each-in-None-clause-walks t c =
    let k = c.args.c.now in
    let e = c.args.e in
    let v = c.args.env in
    λ rs ready f sp n h. agrees-as (plain-by-arm c.args.name.now (meaning n) (context_of rs k) f (carry_of k) c.in-None.is)
    (handed-by _ _ _ c.in_err-each-in-None.field-0.0 (λ o. after (env_begin v c.args.name.now) (closing (env_end v) o)) (λ _ _. refl)
    (c.from_residual.ensures.1) (walks-from (looping Inside) (c.enter_env-prev.ensures.1) c.in_err-each-in-None.ensures.walks rs ready f sp n h))

pub body-exit_env-requires : goal.body-exit_env-requires
body-exit_env-requires t c =
    let k = c.args.c.now in
    let e = c.args.e in
    let good = walks-good (entered_env c.args.env k) (looping Inside) c.args.rules.some (spelt e)
    (walks-from (looping Inside) (c.enter_env-prev.ensures.1) c.in_ok-each-in-None.ensures.walks) refl in
    leaves c.each.new.c k.mode c.args.env k.indent good.placed_so

pub body-returns-in_ok-each-in-None-clause-walks : goal.body-returns-in_ok-each-in-None-clause-walks
body-returns-in_ok-each-in-None-clause-walks t c =
    let k = c.args.c.now in
    let e = c.args.e in
    let prev = c.enter_env-prev.ensures in
    λ rs ready f sp n h. agrees-as (plain-by-arm c.args.name.now (meaning n) (context_of rs k) f (carry_of k) c.in-None.is)
    (framed c.args.out.now.few c.put_env_begin.ensures.wrote c.put_env_begin.new.out.few
    (walks-from (looping Inside) (prev.1) c.in_ok-each-in-None.ensures.walks rs ready f sp n h) c.put_env_end.ensures.wrote
    (back-env (place_of k) c.args.env (prev.0) c.exit_env.ensures))

pub body-returns-in-Math-clause-walks : goal.body-returns-in-Math-clause-walks
body-returns-in-Math-clause-walks t c =
    let k = c.args.c.now in
    let e = c.args.e in
    λ rs ready f sp n h. agrees-as (math-by-arm c.args.name.now (meaning n) (context_of rs k) f (carry_of k) c.in-Math.is)
    (c.math.ensures.walks rs ready f sp n h)

-- ---- `cmd`: a command by its name, each of them as its leaf or its helper promises

pub cmd-convert_command_color-requires : goal.cmd-convert_command_color-requires
cmd-convert_command_color-requires t c =
    let k = c.args.c.now in
    let e = c.args.e in
    let q = c.children-children.ensures in
    let g = spelt e in
    let z = found-by (λ u l s. ColorFound u l s c.color_model-model.result) q.rows q.text c.color_model-model.ensures g.forest g.spells in (
      omega (arith, c.decreases),
      (
        c.requires,
        record { model = z.model; forest = g.forest; spells = g.spells; found = z.found; counts = ap number_of c.body_loop-how.ensures ∙ body-number k.mode },
      ),
    )

pub cmd-convert_command_color-requires-in-ColorArguments : goal.cmd-convert_command_color-requires-in-ColorArguments
cmd-convert_command_color-requires-in-ColorArguments t c =
    let k = c.args.c.now in
    let e = c.args.e in
    let q = c.children-children.ensures in
    let g = spelt e in
    let z = found-by (λ u l s. ModelFound (argument_model 1 u) u l s c.argument_model-model.result) q.rows q.text c.argument_model-model.ensures g.forest
    g.spells in (
      omega (arith, c.decreases),
      (
        c.requires,
        record {
          model = argument_model 1 g.forest;
          forest = g.forest;
          spells = g.spells;
          found = z;
          counts = ap number_of c.arguments_loop-how.ensures ∙ arguments-number k.mode;
        },
      ),
    )

pub cmd-returns-in-IncludeGraphics-clause-walks : goal.cmd-returns-in-IncludeGraphics-clause-walks
cmd-returns-in-IncludeGraphics-clause-walks t c =
    let k = c.args.c.now in
    let e = c.args.e in
    let q = c.children-children.ensures in
    λ rs ready f sp n h. agrees-as
    (command-is (meaning n) (context_of rs k) f (carry_of k) _ IncludeGraphics
    (c.past_first-name.ensures ∙ ap (drop 1) (c.name_tok.ensures f (as-children q.rows q.text sp)))
    (sym c.command_of.ensures ∙ c.in-IncludeGraphics.is))
    (agrees-done k refl refl refl c.requires.label (c.convert_command_includegraphics.ensures f (as-children q.rows q.text sp)).wrote)

pub cmd-returns-in-IncludeGraphics-clause-lent : goal.cmd-returns-in-IncludeGraphics-clause-lent
cmd-returns-in-IncludeGraphics-clause-lent t c =
    let k = c.args.c.now in
    let e = c.args.e in
    let q = c.children-children.ensures in
    let g = spelt e in
    (c.convert_command_includegraphics.ensures g.forest (as-children q.rows q.text g.spells)).lent

pub cmd-returns-in-IncludeGraphics-clause-kept : goal.cmd-returns-in-IncludeGraphics-clause-kept
cmd-returns-in-IncludeGraphics-clause-kept t c =
    let k = c.args.c.now in
    let e = c.args.e in
    let q = c.children-children.ensures in
    let g = spelt e in
    (c.convert_command_includegraphics.ensures g.forest (as-children q.rows q.text g.spells)).kept

pub cmd-returns-in-Array-clause-walks : goal.cmd-returns-in-Array-clause-walks
cmd-returns-in-Array-clause-walks t c =
    let k = c.args.c.now in
    let e = c.args.e in
    let q = c.children-children.ensures in
    λ rs ready f sp n h. agrees-as
    (command-is (meaning n) (context_of rs k) f (carry_of k) _ Array
    (c.past_first-name.ensures ∙ ap (drop 1) (c.name_tok.ensures f (as-children q.rows q.text sp)))
    (sym c.command_of.ensures ∙ c.in-Array.is))
    (agrees-done k refl refl refl c.requires.label (wrote-nil _ _ c.args.out.now.near))

pub cmd-returns-in-Color-clause-walks : goal.cmd-returns-in-Color-clause-walks
cmd-returns-in-Color-clause-walks t c =
    let k = c.args.c.now in
    let e = c.args.e in
    let q = c.children-children.ensures in
    λ rs ready f sp n h.
    let z = found-by (λ u l s. ColorFound u l s c.color_model-model.result) q.rows q.text c.color_model-model.ensures f sp in
    agrees-as
    (command-is (meaning n) (context_of rs k) f (carry_of k) _ Color
    (c.past_first-name.ensures ∙ ap (drop 1) (c.name_tok.ensures f (as-children q.rows q.text sp)))
    (sym c.command_of.ensures ∙ c.in-Color.is)
    ∙ z.same _ (meaning n) (context_of rs k) (carry_of k))
    (colors-how k c.past_first-name.result.now c.color_model-model.result c.body_loop-how.ensures c.convert_command_color.ensures.walks rs ready z.model f
    sp z.found n h)

pub cmd-returns-in-ColorArguments-clause-walks : goal.cmd-returns-in-ColorArguments-clause-walks
cmd-returns-in-ColorArguments-clause-walks t c =
    let k = c.args.c.now in
    let e = c.args.e in
    let q = c.children-children.ensures in
    λ rs ready f sp n h.
    let z = found-by (λ u l s. ModelFound (argument_model 1 u) u l s c.argument_model-model.result) q.rows q.text c.argument_model-model.ensures f sp in
    agrees-as
    (command-is (meaning n) (context_of rs k) f (carry_of k) _ ColorArguments
    (c.past_first-name.ensures ∙ ap (drop 1) (c.name_tok.ensures f (as-children q.rows q.text sp)))
    (sym c.command_of.ensures ∙ c.in-ColorArguments.is))
    (colors-how k c.past_first-name.result.now c.argument_model-model.result c.arguments_loop-how.ensures c.convert_command_color-in-ColorArguments.ensures.walks
    rs ready (argument_model 1 f) f sp z n h)

-- ---- `convert`: the loop over elements side by side. A run of tokens, a node that only clears the flag and a node by its arm each lead from one loop head to the next (see Walking)

-- ---- `convert`: the loop over elements side by side. A run of tokens, a node that only clears the flag and a node by its arm each lead from one loop head to the next (see Walking)

pub convert-loop-rest-init : goal.convert-loop-rest-init
convert-loop-rest-init t c =
    head-start c.requires refl

pub convert-bounds-rest-1 : goal.convert-bounds-rest-1
convert-bounds-rest-1 t c =
    let e = c.args.e in
    let k = c.args.c.now in
    let o = c.args.out.now in
    let z = c.loop-rest.invariant in
    let inv = z.loop in
    let rest = c.loop-rest.rest in
    let has : z.i < length e.rows.now = omega (arith, some-left rest.rows.now c.is_empty.ensures c.loop-rest-test.true, rest-length e.rows.now z.i z.rows) in
    omega (arith, loop-row inv has, rest-length e.rows.now z.i z.rows)

pub convert-convert_tokens-requires : goal.convert-convert_tokens-requires
convert-convert_tokens-requires t c =
    let e = c.args.e in
    let k = c.args.c.now in
    let o = c.args.out.now in
    let z = c.loop-rest.invariant in
    let inv = z.loop in
    let rest = c.loop-rest.rest in
    let has : z.i < length e.rows.now = omega (arith, some-left rest.rows.now c.is_empty.ensures c.loop-rest-test.true, rest-length e.rows.now z.i z.rows) in
    record {
      run_given = (run-asked e.rows.now e.text.now z.i z.j (rest-is e.rows.now z.i z.rows) (rest-is e.text.now z.j z.text) (run-given inv has), c.if-rest-eq-TOKEN_MARK.true);
    }

pub convert-returns-in_err-run-clause-walks : goal.convert-returns-in_err-run-clause-walks
convert-returns-in_err-run-clause-walks t c =
    let e = c.args.e in
    let k = c.args.c.now in
    let o = c.args.out.now in
    let z = c.loop-rest.invariant in
    let inv = z.loop in
    let rest = c.loop-rest.rest in
    let has : z.i < length e.rows.now = omega (arith, some-left rest.rows.now c.is_empty.ensures c.loop-rest-test.true, rest-length e.rows.now z.i z.rows) in
    λ rs ready f sp n h. told-as _ _ _ c.in_err-run.field-0.0 (c.from_residual.ensures.1)
    (λ a. Agrees a (place_of k) e.row o.at o.buffer.now c.convert_tokens.new.out.buffer.now (children (meaning n) (context_of rs k) f (carry_of k)))
    (run-refused inv (λ us de. stops-at e.rows.now e.text.now z.i z.j (rest-is e.rows.now z.i z.rows) (rest-is e.text.now z.j z.text) z.row (c.in_err-run.ensures.goes us de)) refl
    refl rs ready f sp n h)

pub convert-behind-rest-requires-clause-spelt : goal.convert-behind-rest-requires-clause-spelt
convert-behind-rest-requires-clause-spelt t c =
    let e = c.args.e in
    let k = c.args.c.now in
    let o = c.args.out.now in
    let z = c.loop-rest.invariant in
    let inv = z.loop in
    let rest = c.loop-rest.rest in
    let has : z.i < length e.rows.now = omega (arith, some-left rest.rows.now c.is_empty.ensures c.loop-rest-test.true, rest-length e.rows.now z.i z.rows) in
    let run = c.in_ok-run.run' in
    let next = run-next inv {r = run} refl refl
    (λ us de. ran-at e.rows.now e.text.now z.i z.j (rest-is e.rows.now z.i z.rows) (rest-is e.text.now z.j z.text) (c.in_ok-run.ensures.goes us de))
    c.convert_tokens.ensures.flag_alone in
    siblings-at (tail-is e.rows.now z.i z.rows run.rows) (tail-is e.text.now z.j z.text run.text) (left-behind next)

pub convert-loop-rest-preserved-then-rest-eq-TOKEN_MARK : goal.convert-loop-rest-preserved-then-rest-eq-TOKEN_MARK
convert-loop-rest-preserved-then-rest-eq-TOKEN_MARK t c =
    let e = c.args.e in
    let k = c.args.c.now in
    let o = c.args.out.now in
    let z = c.loop-rest.invariant in
    let inv = z.loop in
    let rest = c.loop-rest.rest in
    let has : z.i < length e.rows.now = omega (arith, some-left rest.rows.now c.is_empty.ensures c.loop-rest-test.true, rest-length e.rows.now z.i z.rows) in
    let run = c.in_ok-run.run' in
    let next = run-next inv {r = run} refl refl
    (λ us de. ran-at e.rows.now e.text.now z.i z.j (rest-is e.rows.now z.i z.rows) (rest-is e.text.now z.j z.text) (c.in_ok-run.ensures.goes us de))
    c.convert_tokens.ensures.flag_alone in
    let b = c.behind-rest.ensures in
    record {
      i = z.i + run.rows;
      j = z.j + run.text;
      loop = next;
      rows = on-is e.rows.now z.i z.rows run.rows b.rows;
      text = on-is e.text.now z.j z.text run.text b.text;
      row = omega (arith, b.row, z.row, i-eighth inv);
      lent = c.convert_tokens.ensures.lent ∙ z.lent;
      kept = c.convert_tokens.ensures.kept ∙ z.kept;
    }

pub convert-behind-rest-requires-then-is_flat-clause-high : goal.convert-behind-rest-requires-then-is_flat-clause-high
convert-behind-rest-requires-then-is_flat-clause-high t c =
    let e = c.args.e in
    let k = c.args.c.now in
    let o = c.args.out.now in
    let z = c.loop-rest.invariant in
    let inv = z.loop in
    let rest = c.loop-rest.rest in
    let has : z.i < length e.rows.now = omega (arith, some-left rest.rows.now c.is_empty.ensures c.loop-rest-test.true, rest-length e.rows.now z.i z.rows) in
    omega (arith, loop-row inv has, rest-length e.rows.now z.i z.rows)

pub convert-behind-rest-requires-then-is_flat-clause-spelt : goal.convert-behind-rest-requires-then-is_flat-clause-spelt
convert-behind-rest-requires-then-is_flat-clause-spelt t c =
    let e = c.args.e in
    let k = c.args.c.now in
    let o = c.args.out.now in
    let z = c.loop-rest.invariant in
    let inv = z.loop in
    let rest = c.loop-rest.rest in
    let has : z.i < length e.rows.now = omega (arith, some-left rest.rows.now c.is_empty.ensures c.loop-rest-test.true, rest-length e.rows.now z.i z.rows) in
    let is-node : get_or e.rows.now (z.i + 1) 0 ≡ 1 → ⊥ = λ q. c.if-rest-eq-TOKEN_MARK.false (byte-is e.rows.now z.i z.rows 1 ∙ q) in
    let next = flat-next inv has is-node
    (ap (is_flat c.loop-rest.c.mode) (sym (kind-is e.rows.now z.i z.rows)) ∙ sym c.is_flat.ensures ∙ c.if-is_flat.true) in
    let same : z.j + 0 ≡ z.j = omega arith in
    siblings-at (tail-is e.rows.now z.i z.rows 8) (tail-is e.text.now z.j z.text 0 ∙ ap (tail_at e.text.now) same) (left-behind next)

pub convert-loop-rest-preserved-then-is_flat : goal.convert-loop-rest-preserved-then-is_flat
convert-loop-rest-preserved-then-is_flat t c =
    let e = c.args.e in
    let k = c.args.c.now in
    let o = c.args.out.now in
    let z = c.loop-rest.invariant in
    let inv = z.loop in
    let rest = c.loop-rest.rest in
    let has : z.i < length e.rows.now = omega (arith, some-left rest.rows.now c.is_empty.ensures c.loop-rest-test.true, rest-length e.rows.now z.i z.rows) in
    let is-node : get_or e.rows.now (z.i + 1) 0 ≡ 1 → ⊥ = λ q. c.if-rest-eq-TOKEN_MARK.false (byte-is e.rows.now z.i z.rows 1 ∙ q) in
    let next = flat-next inv has is-node
    (ap (is_flat c.loop-rest.c.mode) (sym (kind-is e.rows.now z.i z.rows)) ∙ sym c.is_flat.ensures ∙ c.if-is_flat.true) in
    let same : z.j + 0 ≡ z.j = omega arith in
    let b = c.behind-rest-then-is_flat.ensures in
    record {
      i = z.i + 8;
      j = z.j;
      loop = next;
      rows = on-is e.rows.now z.i z.rows 8 b.rows;
      text = on-is e.text.now z.j z.text 0 b.text ∙ ap (λ (q : ℕ). drop q e.text.now) same;
      row = omega (arith, b.row, z.row, i-eighth inv);
      lent = z.lent;
      kept = z.kept;
    }

pub convert-span_at-span-requires : goal.convert-span_at-span-requires
convert-span_at-span-requires t c =
    let e = c.args.e in
    let k = c.args.c.now in
    let o = c.args.out.now in
    let z = c.loop-rest.invariant in
    let inv = z.loop in
    let rest = c.loop-rest.rest in
    let has : z.i < length e.rows.now = omega (arith, some-left rest.rows.now c.is_empty.ensures c.loop-rest-test.true, rest-length e.rows.now z.i z.rows) in
    spans-on e.rows.now z.i z.rows (child-spans inv has)

pub convert-inside_first-requires-clause-high : goal.convert-inside_first-requires-clause-high
convert-inside_first-requires-clause-high t c =
    let e = c.args.e in
    let k = c.args.c.now in
    let o = c.args.out.now in
    let z = c.loop-rest.invariant in
    let inv = z.loop in
    let rest = c.loop-rest.rest in
    let has : z.i < length e.rows.now = omega (arith, some-left rest.rows.now c.is_empty.ensures c.loop-rest-test.true, rest-length e.rows.now z.i z.rows) in
    let span = c.span_at-span.result in
    let is_e : span.rows ≡ extent_of (drop z.i e.rows.now) = c.span_at-span.ensures.rows ∙ ap extent_of z.rows in
    let is_n : span.text ≡ token_sum (take (extent_of (drop z.i e.rows.now)) (drop z.i e.rows.now))
    = c.span_at-span.ensures.text ∙ ap (λ (l : List ℕ). token_sum (take (extent_of l) l)) z.rows in
    let x = child inv has span.rows span.text is_e is_n in
    omega (arith, x.end, rest-length e.rows.now z.i z.rows)

pub convert-inside_first-requires-clause-stop : goal.convert-inside_first-requires-clause-stop
convert-inside_first-requires-clause-stop t c =
    let e = c.args.e in
    let k = c.args.c.now in
    let o = c.args.out.now in
    let z = c.loop-rest.invariant in
    let inv = z.loop in
    let rest = c.loop-rest.rest in
    let has : z.i < length e.rows.now = omega (arith, some-left rest.rows.now c.is_empty.ensures c.loop-rest-test.true, rest-length e.rows.now z.i z.rows) in
    let span = c.span_at-span.result in
    let is_e : span.rows ≡ extent_of (drop z.i e.rows.now) = c.span_at-span.ensures.rows ∙ ap extent_of z.rows in
    let is_n : span.text ≡ token_sum (take (extent_of (drop z.i e.rows.now)) (drop z.i e.rows.now))
    = c.span_at-span.ensures.text ∙ ap (λ (l : List ℕ). token_sum (take (extent_of l) l)) z.rows in
    let x = child inv has span.rows span.text is_e is_n in
    omega (arith, x.stop, rest-length e.text.now z.j z.text)

pub convert-inside_first-requires-clause-spelt : goal.convert-inside_first-requires-clause-spelt
convert-inside_first-requires-clause-spelt t c =
    let e = c.args.e in
    let k = c.args.c.now in
    let o = c.args.out.now in
    let z = c.loop-rest.invariant in
    let inv = z.loop in
    let rest = c.loop-rest.rest in
    let has : z.i < length e.rows.now = omega (arith, some-left rest.rows.now c.is_empty.ensures c.loop-rest-test.true, rest-length e.rows.now z.i z.rows) in
    let is-node : get_or e.rows.now (z.i + 1) 0 ≡ 1 → ⊥ = λ q. c.if-rest-eq-TOKEN_MARK.false (byte-is e.rows.now z.i z.rows 1 ∙ q) in
    let span = c.span_at-span.result in
    let is_e : span.rows ≡ extent_of (drop z.i e.rows.now) = c.span_at-span.ensures.rows ∙ ap extent_of z.rows in
    let is_n : span.text ≡ token_sum (take (extent_of (drop z.i e.rows.now)) (drop z.i e.rows.now))
    = c.span_at-span.ensures.text ∙ ap (λ (l : List ℕ). token_sum (take (extent_of l) l)) z.rows in
    siblings-at (below-is e.rows.now z.i z.rows span.rows) (front-is e.text.now z.j z.text span.text) (arm-siblings inv has is-node span.rows span.text is_e is_n)

pub convert-arm-requires : goal.convert-arm-requires
convert-arm-requires t c =
    let e = c.args.e in
    let k = c.args.c.now in
    let o = c.args.out.now in
    let z = c.loop-rest.invariant in
    let inv = z.loop in
    let rest = c.loop-rest.rest in
    let has : z.i < length e.rows.now = omega (arith, some-left rest.rows.now c.is_empty.ensures c.loop-rest-test.true, rest-length e.rows.now z.i z.rows) in
    let is-node : get_or e.rows.now (z.i + 1) 0 ≡ 1 → ⊥ = λ q. c.if-rest-eq-TOKEN_MARK.false (byte-is e.rows.now z.i z.rows 1 ∙ q) in
    let span = c.span_at-span.result in
    let is_e : span.rows ≡ extent_of (drop z.i e.rows.now) = c.span_at-span.ensures.rows ∙ ap extent_of z.rows in
    let is_n : span.text ≡ token_sum (take (extent_of (drop z.i e.rows.now)) (drop z.i e.rows.now))
    = c.span_at-span.ensures.text ∙ ap (λ (l : List ℕ). token_sum (take (extent_of l) l)) z.rows in
    let x = child inv has span.rows span.text is_e is_n in
    let b = c.inside_first.ensures in
    let low = b.rows ∙ below-is e.rows.now z.i z.rows span.rows in (
      omega (arith, under-long inv has is-node span.rows span.text is_e is_n, ap length low, x.end, c.decreases, rest-length e.rows.now z.i z.rows),
      room-at low (arm-room inv has is-node span.rows span.text is_e is_n),
    )

pub convert-returns-in_err-arm-clause-walks : goal.convert-returns-in_err-arm-clause-walks
convert-returns-in_err-arm-clause-walks t c =
    let e = c.args.e in
    let k = c.args.c.now in
    let o = c.args.out.now in
    let z = c.loop-rest.invariant in
    let inv = z.loop in
    let rest = c.loop-rest.rest in
    let has : z.i < length e.rows.now = omega (arith, some-left rest.rows.now c.is_empty.ensures c.loop-rest-test.true, rest-length e.rows.now z.i z.rows) in
    let is-node : get_or e.rows.now (z.i + 1) 0 ≡ 1 → ⊥ = λ q. c.if-rest-eq-TOKEN_MARK.false (byte-is e.rows.now z.i z.rows 1 ∙ q) in
    let span = c.span_at-span.result in
    let is_e : span.rows ≡ extent_of (drop z.i e.rows.now) = c.span_at-span.ensures.rows ∙ ap extent_of z.rows in
    let is_n : span.text ≡ token_sum (take (extent_of (drop z.i e.rows.now)) (drop z.i e.rows.now))
    = c.span_at-span.ensures.text ∙ ap (λ (l : List ℕ). token_sum (take (extent_of l) l)) z.rows in
    let b = c.inside_first.ensures in
    let at_node : c.inside_first.result.row ≡ e.row + 1 + z.i / 8 = omega (arith, b.row, z.row) in
    let there = arm-turns inv has is-node span.rows span.text is_e is_n {a = record { converter = c.arm.new.c; at = c.arm.new.out.at; refusal = refusal_number c.in_err-arm.field-0.0.reason; row = c.in_err-arm.field-0.0.row }}
    (walks-kind (with_flag false c.loop-rest.c) (kind-is e.rows.now z.i z.rows)
    (walks-at (with_flag false c.loop-rest.c) (arm_by (element_of (get_or rest.rows.now 0 0))) (b.rows ∙ below-is e.rows.now z.i z.rows span.rows)
    (b.text ∙ front-is e.text.now z.j z.text span.text) at_node c.in_err-arm.ensures.walks)) in
    λ rs ready f sp n h. told-as _ _ _ c.in_err-arm.field-0.0 (c.from_residual-in_err-arm.ensures.1)
    (λ a. Agrees a (place_of k) e.row o.at o.buffer.now c.arm.new.out.buffer.now (children (meaning n) (context_of rs k) f (carry_of k)))
    (loop-refused inv has span.rows span.text is_e is_n Convert {a = record { converter = c.arm.new.c; at = c.arm.new.out.at; refusal = refusal_number c.in_err-arm.field-0.0.reason; row = c.in_err-arm.field-0.0.row }} there (λ t g u v. refl) rs ready f sp n h
    (λ q. omega (arith, q, number-some c.in_err-arm.field-0.0.reason)))

pub convert-behind-rest-requires-in-loop-rest-clause-high : goal.convert-behind-rest-requires-in-loop-rest-clause-high
convert-behind-rest-requires-in-loop-rest-clause-high t c =
    let e = c.args.e in
    let k = c.args.c.now in
    let o = c.args.out.now in
    let z = c.loop-rest.invariant in
    let inv = z.loop in
    let rest = c.loop-rest.rest in
    let has : z.i < length e.rows.now = omega (arith, some-left rest.rows.now c.is_empty.ensures c.loop-rest-test.true, rest-length e.rows.now z.i z.rows) in
    let span = c.span_at-span.result in
    let is_e : span.rows ≡ extent_of (drop z.i e.rows.now) = c.span_at-span.ensures.rows ∙ ap extent_of z.rows in
    let is_n : span.text ≡ token_sum (take (extent_of (drop z.i e.rows.now)) (drop z.i e.rows.now))
    = c.span_at-span.ensures.text ∙ ap (λ (l : List ℕ). token_sum (take (extent_of l) l)) z.rows in
    let x = child inv has span.rows span.text is_e is_n in
    omega (arith, x.end, rest-length e.rows.now z.i z.rows)

pub convert-behind-rest-requires-in-loop-rest-clause-begun : goal.convert-behind-rest-requires-in-loop-rest-clause-begun
convert-behind-rest-requires-in-loop-rest-clause-begun t c =
    let e = c.args.e in
    let k = c.args.c.now in
    let o = c.args.out.now in
    let z = c.loop-rest.invariant in
    let inv = z.loop in
    let rest = c.loop-rest.rest in
    let has : z.i < length e.rows.now = omega (arith, some-left rest.rows.now c.is_empty.ensures c.loop-rest-test.true, rest-length e.rows.now z.i z.rows) in
    let span = c.span_at-span.result in
    let is_e : span.rows ≡ extent_of (drop z.i e.rows.now) = c.span_at-span.ensures.rows ∙ ap extent_of z.rows in
    let is_n : span.text ≡ token_sum (take (extent_of (drop z.i e.rows.now)) (drop z.i e.rows.now))
    = c.span_at-span.ensures.text ∙ ap (λ (l : List ℕ). token_sum (take (extent_of l) l)) z.rows in
    let x = child inv has span.rows span.text is_e is_n in
    omega (arith, x.stop, rest-length e.text.now z.j z.text)

pub convert-behind-rest-requires-in-loop-rest-clause-spelt : goal.convert-behind-rest-requires-in-loop-rest-clause-spelt
convert-behind-rest-requires-in-loop-rest-clause-spelt t c =
    let e = c.args.e in
    let k = c.args.c.now in
    let o = c.args.out.now in
    let z = c.loop-rest.invariant in
    let inv = z.loop in
    let rest = c.loop-rest.rest in
    let has : z.i < length e.rows.now = omega (arith, some-left rest.rows.now c.is_empty.ensures c.loop-rest-test.true, rest-length e.rows.now z.i z.rows) in
    let span = c.span_at-span.result in
    let is_e : span.rows ≡ extent_of (drop z.i e.rows.now) = c.span_at-span.ensures.rows ∙ ap extent_of z.rows in
    let is_n : span.text ≡ token_sum (take (extent_of (drop z.i e.rows.now)) (drop z.i e.rows.now))
    = c.span_at-span.ensures.text ∙ ap (λ (l : List ℕ). token_sum (take (extent_of l) l)) z.rows in
    siblings-at (tail-is e.rows.now z.i z.rows span.rows) (tail-is e.text.now z.j z.text span.text) (child-behind inv has span.rows span.text is_e is_n)

pub convert-loop-rest-preserved : goal.convert-loop-rest-preserved
convert-loop-rest-preserved t c =
    let e = c.args.e in
    let k = c.args.c.now in
    let o = c.args.out.now in
    let z = c.loop-rest.invariant in
    let inv = z.loop in
    let rest = c.loop-rest.rest in
    let has : z.i < length e.rows.now = omega (arith, some-left rest.rows.now c.is_empty.ensures c.loop-rest-test.true, rest-length e.rows.now z.i z.rows) in
    let is-node : get_or e.rows.now (z.i + 1) 0 ≡ 1 → ⊥ = λ q. c.if-rest-eq-TOKEN_MARK.false (byte-is e.rows.now z.i z.rows 1 ∙ q) in
    let span = c.span_at-span.result in
    let is_e : span.rows ≡ extent_of (drop z.i e.rows.now) = c.span_at-span.ensures.rows ∙ ap extent_of z.rows in
    let is_n : span.text ≡ token_sum (take (extent_of (drop z.i e.rows.now)) (drop z.i e.rows.now))
    = c.span_at-span.ensures.text ∙ ap (λ (l : List ℕ). token_sum (take (extent_of l) l)) z.rows in
    let b = c.inside_first.ensures in
    let at_node : c.inside_first.result.row ≡ e.row + 1 + z.i / 8 = omega (arith, b.row, z.row) in
    let there = arm-turns inv has is-node span.rows span.text is_e is_n {a = went_with c.arm.new.c c.arm.new.out.at}
    (walks-kind (with_flag false c.loop-rest.c) (kind-is e.rows.now z.i z.rows)
    (walks-at (with_flag false c.loop-rest.c) (arm_by (element_of (get_or rest.rows.now 0 0))) (b.rows ∙ below-is e.rows.now z.i z.rows span.rows)
    (b.text ∙ front-is e.text.now z.j z.text span.text) at_node c.in_ok-arm.ensures.walks)) in
    let next = loop-next inv has span.rows span.text is_e is_n Convert {a = went_with c.arm.new.c c.arm.new.out.at} there (λ t g u v. refl) refl c.arm.new.out.few refl in
    let y = c.behind-rest-in-loop-rest.ensures in
    record {
      i = z.i + span.rows;
      j = z.j + span.text;
      loop = next;
      rows = on-is e.rows.now z.i z.rows span.rows y.rows;
      text = on-is e.text.now z.j z.text span.text y.text;
      row = omega (arith, y.row, z.row, i-eighth inv);
      lent = c.arm.ensures.lent ∙ z.lent;
      kept = c.arm.ensures.kept ∙ z.kept;
    }

pub convert-returns-clause-walks : goal.convert-returns-clause-walks
convert-returns-clause-walks t c =
    let e = c.args.e in
    let k = c.args.c.now in
    let o = c.args.out.now in
    let z = c.loop-rest.invariant in
    let inv = z.loop in
    let rest = c.loop-rest.rest in
    let over : length e.rows.now ≤ z.i = omega (arith, empty rest.rows.now c.is_empty.ensures c.loop-rest-test.false, rest-length e.rows.now z.i z.rows) in
    loop-done inv over (wrote-nil c.loop-rest.out.at c.loop-rest.out.buffer.now inv.stands.place) refl

-- ---- `each`: a turn of its loop takes either the children that go at once, which `convert` walks, or one child, which `turn` takes by what the loop does with it

pub each-loop-rest-init : goal.each-loop-rest-init
each-loop-rest-init t c =
    head-start c.requires.room c.requires.how_value

pub each-steady_run-run-requires : goal.each-steady_run-run-requires
each-steady_run-run-requires t c =
    let e = c.args.e in
    let z = c.loop-rest.invariant in
    let b = left-behind z.loop in
    let rows = rest-is e.rows.now z.i z.rows in
    record {
      few = omega (arith, rest-length e.rows.now z.i z.rows, z.loop.room.few);
      forest = b.forest;
      rows_are = rows ∙ b.spells.rows_are;
      short = rest-short e.text.now z.j b.spells e.short;
    }

pub each-front-requires-clause-high : goal.each-front-requires-clause-high
each-front-requires-clause-high t c =
    let e = c.args.e in
    let k = c.args.c.now in
    let o = c.args.out.now in
    let z = c.loop-rest.invariant in
    let inv = z.loop in
    let rest = c.loop-rest.rest in
    let has : z.i < length e.rows.now = omega (arith, some-left rest.rows.now c.is_empty.ensures c.loop-rest-test.true, rest-length e.rows.now z.i z.rows) in
    let run = c.steady_run-run.result in
    let steady : (g : Forest) → SpellsAll g (tail_at e.rows.now z.i) (tail_at e.text.now z.j) → SteadyRun c.loop-rest.l g run
    = λ g sp. c.steady_run-run.ensures g (rest-is e.rows.now z.i z.rows ∙ sp.rows_are) (rest-short e.text.now z.j sp e.short) in
    omega (arith, steady-end inv steady, rest-length e.rows.now z.i z.rows, inv.stands.high)

pub each-front-requires-clause-stop : goal.each-front-requires-clause-stop
each-front-requires-clause-stop t c =
    let e = c.args.e in
    let k = c.args.c.now in
    let o = c.args.out.now in
    let z = c.loop-rest.invariant in
    let inv = z.loop in
    let rest = c.loop-rest.rest in
    let has : z.i < length e.rows.now = omega (arith, some-left rest.rows.now c.is_empty.ensures c.loop-rest-test.true, rest-length e.rows.now z.i z.rows) in
    let run = c.steady_run-run.result in
    let steady : (g : Forest) → SpellsAll g (tail_at e.rows.now z.i) (tail_at e.text.now z.j) → SteadyRun c.loop-rest.l g run
    = λ g sp. c.steady_run-run.ensures g (rest-is e.rows.now z.i z.rows ∙ sp.rows_are) (rest-short e.text.now z.j sp e.short) in
    omega (arith, steady-stop inv steady, rest-length e.text.now z.j z.text, inv.stands.begun)

pub each-front-requires-clause-spelt : goal.each-front-requires-clause-spelt
each-front-requires-clause-spelt t c =
    let e = c.args.e in
    let k = c.args.c.now in
    let o = c.args.out.now in
    let z = c.loop-rest.invariant in
    let inv = z.loop in
    let rest = c.loop-rest.rest in
    let has : z.i < length e.rows.now = omega (arith, some-left rest.rows.now c.is_empty.ensures c.loop-rest-test.true, rest-length e.rows.now z.i z.rows) in
    let run = c.steady_run-run.result in
    let steady : (g : Forest) → SpellsAll g (tail_at e.rows.now z.i) (tail_at e.text.now z.j) → SteadyRun c.loop-rest.l g run
    = λ g sp. c.steady_run-run.ensures g (rest-is e.rows.now z.i z.rows ∙ sp.rows_are) (rest-short e.text.now z.j sp e.short) in
    siblings-at (front-is e.rows.now z.i z.rows run.rows) (front-is e.text.now z.j z.text run.text) (steady-siblings inv steady)

pub each-returns-in_err-convert-clause-walks : goal.each-returns-in_err-convert-clause-walks
each-returns-in_err-convert-clause-walks t c =
    let e = c.args.e in
    let k = c.args.c.now in
    let o = c.args.out.now in
    let z = c.loop-rest.invariant in
    let inv = z.loop in
    let rest = c.loop-rest.rest in
    let has : z.i < length e.rows.now = omega (arith, some-left rest.rows.now c.is_empty.ensures c.loop-rest-test.true, rest-length e.rows.now z.i z.rows) in
    let run = c.steady_run-run.result in
    let steady : (g : Forest) → SpellsAll g (tail_at e.rows.now z.i) (tail_at e.text.now z.j) → SteadyRun c.loop-rest.l g run
    = λ g sp. c.steady_run-run.ensures g (rest-is e.rows.now z.i z.rows ∙ sp.rows_are) (rest-short e.text.now z.j sp e.short) in
    let p = c.front.ensures in
    let rows = p.rows ∙ front-is e.rows.now z.i z.rows run.rows in
    let text = p.text ∙ front-is e.text.now z.j z.text run.text in
    λ rs ready f sp n h. told-as _ _ _ c.in_err-convert.field-0.0 (c.from_residual.ensures.1)
    (λ a. Agrees a (place_of k) e.row o.at o.buffer.now c.convert.new.out.buffer.now (looping c.args.how (meaning n) (context_of rs k) f (carry_of k)))
    (steady-refused inv steady {a = record { converter = c.convert.new.c; at = c.convert.new.out.at; refusal = refusal_number c.in_err-convert.field-0.0.reason; row = c.in_err-convert.field-0.0.row }} (walks-at c.loop-rest.c children rows text (p.row ∙ z.row) c.in_err-convert.ensures.walks) rs ready f sp n h
    (λ w. omega (arith, w, number-some c.in_err-convert.field-0.0.reason)))

pub each-behind-rest-requires-clause-high : goal.each-behind-rest-requires-clause-high
each-behind-rest-requires-clause-high t c =
    let e = c.args.e in
    let k = c.args.c.now in
    let o = c.args.out.now in
    let z = c.loop-rest.invariant in
    let inv = z.loop in
    let rest = c.loop-rest.rest in
    let has : z.i < length e.rows.now = omega (arith, some-left rest.rows.now c.is_empty.ensures c.loop-rest-test.true, rest-length e.rows.now z.i z.rows) in
    let run = c.steady_run-run.result in
    let steady : (g : Forest) → SpellsAll g (tail_at e.rows.now z.i) (tail_at e.text.now z.j) → SteadyRun c.loop-rest.l g run
    = λ g sp. c.steady_run-run.ensures g (rest-is e.rows.now z.i z.rows ∙ sp.rows_are) (rest-short e.text.now z.j sp e.short) in
    omega (arith, steady-end inv steady, rest-length e.rows.now z.i z.rows, inv.stands.high)

pub each-behind-rest-requires-clause-begun : goal.each-behind-rest-requires-clause-begun
each-behind-rest-requires-clause-begun t c =
    let e = c.args.e in
    let k = c.args.c.now in
    let o = c.args.out.now in
    let z = c.loop-rest.invariant in
    let inv = z.loop in
    let rest = c.loop-rest.rest in
    let has : z.i < length e.rows.now = omega (arith, some-left rest.rows.now c.is_empty.ensures c.loop-rest-test.true, rest-length e.rows.now z.i z.rows) in
    let run = c.steady_run-run.result in
    let steady : (g : Forest) → SpellsAll g (tail_at e.rows.now z.i) (tail_at e.text.now z.j) → SteadyRun c.loop-rest.l g run
    = λ g sp. c.steady_run-run.ensures g (rest-is e.rows.now z.i z.rows ∙ sp.rows_are) (rest-short e.text.now z.j sp e.short) in
    omega (arith, steady-stop inv steady, rest-length e.text.now z.j z.text, inv.stands.begun)

pub each-behind-rest-requires-clause-spelt : goal.each-behind-rest-requires-clause-spelt
each-behind-rest-requires-clause-spelt t c =
    let e = c.args.e in
    let k = c.args.c.now in
    let o = c.args.out.now in
    let z = c.loop-rest.invariant in
    let inv = z.loop in
    let rest = c.loop-rest.rest in
    let has : z.i < length e.rows.now = omega (arith, some-left rest.rows.now c.is_empty.ensures c.loop-rest-test.true, rest-length e.rows.now z.i z.rows) in
    let run = c.steady_run-run.result in
    let steady : (g : Forest) → SpellsAll g (tail_at e.rows.now z.i) (tail_at e.text.now z.j) → SteadyRun c.loop-rest.l g run
    = λ g sp. c.steady_run-run.ensures g (rest-is e.rows.now z.i z.rows ∙ sp.rows_are) (rest-short e.text.now z.j sp e.short) in
    let p = c.front.ensures in
    let rows = p.rows ∙ front-is e.rows.now z.i z.rows run.rows in
    let text = p.text ∙ front-is e.text.now z.j z.text run.text in
    let next = children-next inv steady {a = went_with c.convert.new.c c.convert.new.out.at} (walks-at c.loop-rest.c children rows text (p.row ∙ z.row) c.in_ok-convert.ensures.walks) refl
    c.convert.new.out.few in
    siblings-at (tail-is e.rows.now z.i z.rows run.rows) (tail-is e.text.now z.j z.text run.text) (left-behind next)

pub each-loop-rest-preserved-then-run-gt0 : goal.each-loop-rest-preserved-then-run-gt0
each-loop-rest-preserved-then-run-gt0 t c =
    let e = c.args.e in
    let k = c.args.c.now in
    let o = c.args.out.now in
    let z = c.loop-rest.invariant in
    let inv = z.loop in
    let rest = c.loop-rest.rest in
    let has : z.i < length e.rows.now = omega (arith, some-left rest.rows.now c.is_empty.ensures c.loop-rest-test.true, rest-length e.rows.now z.i z.rows) in
    let run = c.steady_run-run.result in
    let steady : (g : Forest) → SpellsAll g (tail_at e.rows.now z.i) (tail_at e.text.now z.j) → SteadyRun c.loop-rest.l g run
    = λ g sp. c.steady_run-run.ensures g (rest-is e.rows.now z.i z.rows ∙ sp.rows_are) (rest-short e.text.now z.j sp e.short) in
    let p = c.front.ensures in
    let rows = p.rows ∙ front-is e.rows.now z.i z.rows run.rows in
    let text = p.text ∙ front-is e.text.now z.j z.text run.text in
    let next = children-next inv steady {a = went_with c.convert.new.c c.convert.new.out.at} (walks-at c.loop-rest.c children rows text (p.row ∙ z.row) c.in_ok-convert.ensures.walks) refl
    c.convert.new.out.few in
    let b = c.behind-rest.ensures in
    record {
      i = z.i + run.rows;
      j = z.j + run.text;
      loop = next;
      rows = on-is e.rows.now z.i z.rows run.rows b.rows;
      text = on-is e.text.now z.j z.text run.text b.text;
      row = omega (arith, b.row, z.row, i-eighth inv);
      lent = c.convert.ensures.lent ∙ z.lent;
      kept = c.convert.ensures.kept ∙ z.kept;
    }

pub each-span_at-span-requires : goal.each-span_at-span-requires
each-span_at-span-requires t c =
    let e = c.args.e in
    let k = c.args.c.now in
    let o = c.args.out.now in
    let z = c.loop-rest.invariant in
    let inv = z.loop in
    let rest = c.loop-rest.rest in
    let has : z.i < length e.rows.now = omega (arith, some-left rest.rows.now c.is_empty.ensures c.loop-rest-test.true, rest-length e.rows.now z.i z.rows) in
    spans-on e.rows.now z.i z.rows (child-spans inv has)

pub each-first_child-child-requires-clause-high : goal.each-first_child-child-requires-clause-high
each-first_child-child-requires-clause-high t c =
    let e = c.args.e in
    let k = c.args.c.now in
    let o = c.args.out.now in
    let z = c.loop-rest.invariant in
    let inv = z.loop in
    let rest = c.loop-rest.rest in
    let has : z.i < length e.rows.now = omega (arith, some-left rest.rows.now c.is_empty.ensures c.loop-rest-test.true, rest-length e.rows.now z.i z.rows) in
    let span = c.span_at-span.result in
    let is_e : span.rows ≡ extent_of (drop z.i e.rows.now) = c.span_at-span.ensures.rows ∙ ap extent_of z.rows in
    let is_n : span.text ≡ token_sum (take (extent_of (drop z.i e.rows.now)) (drop z.i e.rows.now))
    = c.span_at-span.ensures.text ∙ ap (λ (l : List ℕ). token_sum (take (extent_of l) l)) z.rows in
    let x = child inv has span.rows span.text is_e is_n in
    omega (arith, x.end, rest-length e.rows.now z.i z.rows)

pub each-front-requires-in-loop-rest-clause-high : goal.each-front-requires-in-loop-rest-clause-high
each-front-requires-in-loop-rest-clause-high t c =
    let e = c.args.e in
    let k = c.args.c.now in
    let o = c.args.out.now in
    let z = c.loop-rest.invariant in
    let inv = z.loop in
    let rest = c.loop-rest.rest in
    let has : z.i < length e.rows.now = omega (arith, some-left rest.rows.now c.is_empty.ensures c.loop-rest-test.true, rest-length e.rows.now z.i z.rows) in
    let span = c.span_at-span.result in
    let is_e : span.rows ≡ extent_of (drop z.i e.rows.now) = c.span_at-span.ensures.rows ∙ ap extent_of z.rows in
    let is_n : span.text ≡ token_sum (take (extent_of (drop z.i e.rows.now)) (drop z.i e.rows.now))
    = c.span_at-span.ensures.text ∙ ap (λ (l : List ℕ). token_sum (take (extent_of l) l)) z.rows in
    let x = child inv has span.rows span.text is_e is_n in
    omega (arith, x.end, rest-length e.rows.now z.i z.rows)

pub each-behind-rest-requires-in-loop-rest-clause-high : goal.each-behind-rest-requires-in-loop-rest-clause-high
each-behind-rest-requires-in-loop-rest-clause-high t c =
    let e = c.args.e in
    let k = c.args.c.now in
    let o = c.args.out.now in
    let z = c.loop-rest.invariant in
    let inv = z.loop in
    let rest = c.loop-rest.rest in
    let has : z.i < length e.rows.now = omega (arith, some-left rest.rows.now c.is_empty.ensures c.loop-rest-test.true, rest-length e.rows.now z.i z.rows) in
    let span = c.span_at-span.result in
    let is_e : span.rows ≡ extent_of (drop z.i e.rows.now) = c.span_at-span.ensures.rows ∙ ap extent_of z.rows in
    let is_n : span.text ≡ token_sum (take (extent_of (drop z.i e.rows.now)) (drop z.i e.rows.now))
    = c.span_at-span.ensures.text ∙ ap (λ (l : List ℕ). token_sum (take (extent_of l) l)) z.rows in
    let x = child inv has span.rows span.text is_e is_n in
    omega (arith, x.end, rest-length e.rows.now z.i z.rows)

pub each-first_child-child-requires-clause-stop : goal.each-first_child-child-requires-clause-stop
each-first_child-child-requires-clause-stop t c =
    let e = c.args.e in
    let k = c.args.c.now in
    let o = c.args.out.now in
    let z = c.loop-rest.invariant in
    let inv = z.loop in
    let rest = c.loop-rest.rest in
    let has : z.i < length e.rows.now = omega (arith, some-left rest.rows.now c.is_empty.ensures c.loop-rest-test.true, rest-length e.rows.now z.i z.rows) in
    let span = c.span_at-span.result in
    let is_e : span.rows ≡ extent_of (drop z.i e.rows.now) = c.span_at-span.ensures.rows ∙ ap extent_of z.rows in
    let is_n : span.text ≡ token_sum (take (extent_of (drop z.i e.rows.now)) (drop z.i e.rows.now))
    = c.span_at-span.ensures.text ∙ ap (λ (l : List ℕ). token_sum (take (extent_of l) l)) z.rows in
    let x = child inv has span.rows span.text is_e is_n in
    omega (arith, x.stop, rest-length e.text.now z.j z.text)

pub each-front-requires-in-loop-rest-clause-stop : goal.each-front-requires-in-loop-rest-clause-stop
each-front-requires-in-loop-rest-clause-stop t c =
    let e = c.args.e in
    let k = c.args.c.now in
    let o = c.args.out.now in
    let z = c.loop-rest.invariant in
    let inv = z.loop in
    let rest = c.loop-rest.rest in
    let has : z.i < length e.rows.now = omega (arith, some-left rest.rows.now c.is_empty.ensures c.loop-rest-test.true, rest-length e.rows.now z.i z.rows) in
    let span = c.span_at-span.result in
    let is_e : span.rows ≡ extent_of (drop z.i e.rows.now) = c.span_at-span.ensures.rows ∙ ap extent_of z.rows in
    let is_n : span.text ≡ token_sum (take (extent_of (drop z.i e.rows.now)) (drop z.i e.rows.now))
    = c.span_at-span.ensures.text ∙ ap (λ (l : List ℕ). token_sum (take (extent_of l) l)) z.rows in
    let x = child inv has span.rows span.text is_e is_n in
    omega (arith, x.stop, rest-length e.text.now z.j z.text)

pub each-behind-rest-requires-in-loop-rest-clause-begun : goal.each-behind-rest-requires-in-loop-rest-clause-begun
each-behind-rest-requires-in-loop-rest-clause-begun t c =
    let e = c.args.e in
    let k = c.args.c.now in
    let o = c.args.out.now in
    let z = c.loop-rest.invariant in
    let inv = z.loop in
    let rest = c.loop-rest.rest in
    let has : z.i < length e.rows.now = omega (arith, some-left rest.rows.now c.is_empty.ensures c.loop-rest-test.true, rest-length e.rows.now z.i z.rows) in
    let span = c.span_at-span.result in
    let is_e : span.rows ≡ extent_of (drop z.i e.rows.now) = c.span_at-span.ensures.rows ∙ ap extent_of z.rows in
    let is_n : span.text ≡ token_sum (take (extent_of (drop z.i e.rows.now)) (drop z.i e.rows.now))
    = c.span_at-span.ensures.text ∙ ap (λ (l : List ℕ). token_sum (take (extent_of l) l)) z.rows in
    let x = child inv has span.rows span.text is_e is_n in
    omega (arith, x.stop, rest-length e.text.now z.j z.text)

pub each-first_child-child-requires-clause-element : goal.each-first_child-child-requires-clause-element
each-first_child-child-requires-clause-element t c =
    let e = c.args.e in
    let k = c.args.c.now in
    let o = c.args.out.now in
    let z = c.loop-rest.invariant in
    let inv = z.loop in
    let rest = c.loop-rest.rest in
    let has : z.i < length e.rows.now = omega (arith, some-left rest.rows.now c.is_empty.ensures c.loop-rest-test.true, rest-length e.rows.now z.i z.rows) in
    let span = c.span_at-span.result in
    let is_e : span.rows ≡ extent_of (drop z.i e.rows.now) = c.span_at-span.ensures.rows ∙ ap extent_of z.rows in
    let is_n : span.text ≡ token_sum (take (extent_of (drop z.i e.rows.now)) (drop z.i e.rows.now))
    = c.span_at-span.ensures.text ∙ ap (λ (l : List ℕ). token_sum (take (extent_of l) l)) z.rows in
    let x = child inv has span.rows span.text is_e is_n in
    some-at (front-is e.rows.now z.i z.rows span.rows) (front-is e.text.now z.j z.text span.text) x.given

pub each-act_of-act-requires : goal.each-act_of-act-requires
each-act_of-act-requires t c =
    let e = c.args.e in
    let k = c.args.c.now in
    let o = c.args.out.now in
    let z = c.loop-rest.invariant in
    let inv = z.loop in
    let rest = c.loop-rest.rest in
    let has : z.i < length e.rows.now = omega (arith, some-left rest.rows.now c.is_empty.ensures c.loop-rest-test.true, rest-length e.rows.now z.i z.rows) in
    let span = c.span_at-span.result in
    let is_e : span.rows ≡ extent_of (drop z.i e.rows.now) = c.span_at-span.ensures.rows ∙ ap extent_of z.rows in
    let is_n : span.text ≡ token_sum (take (extent_of (drop z.i e.rows.now)) (drop z.i e.rows.now))
    = c.span_at-span.ensures.text ∙ ap (λ (l : List ℕ). token_sum (take (extent_of l) l)) z.rows in
    let b = child-behind inv has span.rows span.text is_e is_n in
    let rows = c.first_child-child.ensures.behind ∙ tail-is e.rows.now z.i z.rows span.rows in
    record {
      few = omega (arith, ap length (rows ∙ part-rest e.rows.now (z.i + span.rows)), length-drop (z.i + span.rows) e.rows.now, inv.room.few);
      others = record { forest = b.forest; rows_are = rows ∙ b.spells.rows_are };
    }

pub each-behind-rest-requires-in-loop-rest-clause-spelt : goal.each-behind-rest-requires-in-loop-rest-clause-spelt
each-behind-rest-requires-in-loop-rest-clause-spelt t c =
    let e = c.args.e in
    let k = c.args.c.now in
    let o = c.args.out.now in
    let z = c.loop-rest.invariant in
    let inv = z.loop in
    let rest = c.loop-rest.rest in
    let has : z.i < length e.rows.now = omega (arith, some-left rest.rows.now c.is_empty.ensures c.loop-rest-test.true, rest-length e.rows.now z.i z.rows) in
    let span = c.span_at-span.result in
    let is_e : span.rows ≡ extent_of (drop z.i e.rows.now) = c.span_at-span.ensures.rows ∙ ap extent_of z.rows in
    let is_n : span.text ≡ token_sum (take (extent_of (drop z.i e.rows.now)) (drop z.i e.rows.now))
    = c.span_at-span.ensures.text ∙ ap (λ (l : List ℕ). token_sum (take (extent_of l) l)) z.rows in
    siblings-at (tail-is e.rows.now z.i z.rows span.rows) (tail-is e.text.now z.j z.text span.text) (child-behind inv has span.rows span.text is_e is_n)

pub each-front-requires-in-loop-rest-clause-spelt : goal.each-front-requires-in-loop-rest-clause-spelt
each-front-requires-in-loop-rest-clause-spelt t c =
    let e = c.args.e in
    let k = c.args.c.now in
    let o = c.args.out.now in
    let z = c.loop-rest.invariant in
    let inv = z.loop in
    let rest = c.loop-rest.rest in
    let has : z.i < length e.rows.now = omega (arith, some-left rest.rows.now c.is_empty.ensures c.loop-rest-test.true, rest-length e.rows.now z.i z.rows) in
    let span = c.span_at-span.result in
    let is_e : span.rows ≡ extent_of (drop z.i e.rows.now) = c.span_at-span.ensures.rows ∙ ap extent_of z.rows in
    let is_n : span.text ≡ token_sum (take (extent_of (drop z.i e.rows.now)) (drop z.i e.rows.now))
    = c.span_at-span.ensures.text ∙ ap (λ (l : List ℕ). token_sum (take (extent_of l) l)) z.rows in
    let x = child inv has span.rows span.text is_e is_n in
    siblings-at (front-is e.rows.now z.i z.rows span.rows) (front-is e.text.now z.j z.text span.text) (record { forest = more x.given.tree none; spells = spells-alone x.given.spells })

pub each-turn-requires : goal.each-turn-requires
each-turn-requires t c =
    let e = c.args.e in
    let k = c.args.c.now in
    let o = c.args.out.now in
    let z = c.loop-rest.invariant in
    let inv = z.loop in
    let rest = c.loop-rest.rest in
    let has : z.i < length e.rows.now = omega (arith, some-left rest.rows.now c.is_empty.ensures c.loop-rest-test.true, rest-length e.rows.now z.i z.rows) in
    let span = c.span_at-span.result in
    let is_e : span.rows ≡ extent_of (drop z.i e.rows.now) = c.span_at-span.ensures.rows ∙ ap extent_of z.rows in
    let is_n : span.text ≡ token_sum (take (extent_of (drop z.i e.rows.now)) (drop z.i e.rows.now))
    = c.span_at-span.ensures.text ∙ ap (λ (l : List ℕ). token_sum (take (extent_of l) l)) z.rows in
    let x = child inv has span.rows span.text is_e is_n in
    let p = c.front-in-loop-rest.ensures in
    let rows = p.rows ∙ front-is e.rows.now z.i z.rows span.rows in
    let text = p.text ∙ front-is e.text.now z.j z.text span.text in
    (omega (arith, ap length rows, x.long, x.end, c.decreases), (room-at rows x.room, some-at rows text x.given))

pub each-returns-in_err-turn-clause-walks : goal.each-returns-in_err-turn-clause-walks
each-returns-in_err-turn-clause-walks t c =
    let e = c.args.e in
    let k = c.args.c.now in
    let o = c.args.out.now in
    let z = c.loop-rest.invariant in
    let inv = z.loop in
    let rest = c.loop-rest.rest in
    let has : z.i < length e.rows.now = omega (arith, some-left rest.rows.now c.is_empty.ensures c.loop-rest-test.true, rest-length e.rows.now z.i z.rows) in
    let span = c.span_at-span.result in
    let is_e : span.rows ≡ extent_of (drop z.i e.rows.now) = c.span_at-span.ensures.rows ∙ ap extent_of z.rows in
    let is_n : span.text ≡ token_sum (take (extent_of (drop z.i e.rows.now)) (drop z.i e.rows.now))
    = c.span_at-span.ensures.text ∙ ap (λ (l : List ℕ). token_sum (take (extent_of l) l)) z.rows in
    let p = c.front-in-loop-rest.ensures in
    let rows = p.rows ∙ front-is e.rows.now z.i z.rows span.rows in
    let text = p.text ∙ front-is e.text.now z.j z.text span.text in
    let act = c.act_of-act.result in
    let decide : (t : Tree) (g : Forest) → Spells t (part e.rows.now z.i span.rows) (part e.text.now z.j span.text)
    → SpellsAll g (tail_at e.rows.now (z.i + span.rows)) (tail_at e.text.now (z.j + span.text)) → act ≡ act_of c.loop-rest.l t g
    = λ t g u v. c.act_of-act.ensures t g
    (c.first_child-child.ensures.child t g (spells-at (front-is e.rows.now z.i z.rows span.rows) (front-is e.text.now z.j z.text span.text) u)
    (tail-is e.rows.now z.i z.rows span.rows ∙ v.rows_are)) in
    λ rs ready f sp n h. told-as _ _ _ c.in_err-turn.field-0.0 (c.from_residual-in_err-turn.ensures.1)
    (λ a. Agrees a (place_of k) e.row o.at o.buffer.now c.turn.new.out.buffer.now (looping c.args.how (meaning n) (context_of rs k) f (carry_of k)))
    (loop-refused inv has span.rows span.text is_e is_n act {a = record { converter = c.turn.new.c; at = c.turn.new.out.at; refusal = refusal_number c.in_err-turn.field-0.0.reason; row = c.in_err-turn.field-0.0.row }} (turns-at c.loop-rest.c act rows text (p.row ∙ z.row) c.in_err-turn.ensures.walks)
    decide rs ready f sp n h (λ w. omega (arith, w, number-some c.in_err-turn.field-0.0.reason)))

pub each-loop-rest-preserved : goal.each-loop-rest-preserved
each-loop-rest-preserved t c =
    let e = c.args.e in
    let k = c.args.c.now in
    let o = c.args.out.now in
    let z = c.loop-rest.invariant in
    let inv = z.loop in
    let rest = c.loop-rest.rest in
    let has : z.i < length e.rows.now = omega (arith, some-left rest.rows.now c.is_empty.ensures c.loop-rest-test.true, rest-length e.rows.now z.i z.rows) in
    let span = c.span_at-span.result in
    let is_e : span.rows ≡ extent_of (drop z.i e.rows.now) = c.span_at-span.ensures.rows ∙ ap extent_of z.rows in
    let is_n : span.text ≡ token_sum (take (extent_of (drop z.i e.rows.now)) (drop z.i e.rows.now))
    = c.span_at-span.ensures.text ∙ ap (λ (l : List ℕ). token_sum (take (extent_of l) l)) z.rows in
    let p = c.front-in-loop-rest.ensures in
    let rows = p.rows ∙ front-is e.rows.now z.i z.rows span.rows in
    let text = p.text ∙ front-is e.text.now z.j z.text span.text in
    let act = c.act_of-act.result in
    let decide : (t : Tree) (g : Forest) → Spells t (part e.rows.now z.i span.rows) (part e.text.now z.j span.text)
    → SpellsAll g (tail_at e.rows.now (z.i + span.rows)) (tail_at e.text.now (z.j + span.text)) → act ≡ act_of c.loop-rest.l t g
    = λ t g u v. c.act_of-act.ensures t g
    (c.first_child-child.ensures.child t g (spells-at (front-is e.rows.now z.i z.rows span.rows) (front-is e.text.now z.j z.text span.text) u)
    (tail-is e.rows.now z.i z.rows span.rows ∙ v.rows_are)) in
    let kind = ap (λ (q : ℕ). next_loop c.loop-rest.l q act) (c.first_child-child.ensures.kind ∙ kind-is e.rows.now z.i z.rows) in
    let next = loop-next inv has span.rows span.text is_e is_n act {a = went_with c.turn.new.c c.turn.new.out.at} (turns-at c.loop-rest.c act rows text (p.row ∙ z.row) c.in_ok-turn.ensures.walks)
    decide refl c.turn.new.out.few (c.next_loop-l.ensures ∙ kind) in
    let b = c.behind-rest-in-loop-rest.ensures in
    record {
      i = z.i + span.rows;
      j = z.j + span.text;
      loop = next;
      rows = on-is e.rows.now z.i z.rows span.rows b.rows;
      text = on-is e.text.now z.j z.text span.text b.text;
      row = omega (arith, b.row, z.row, i-eighth inv);
      lent = c.turn.ensures.lent ∙ z.lent;
      kept = c.turn.ensures.kept ∙ z.kept;
    }

pub each-returns-clause-walks : goal.each-returns-clause-walks
each-returns-clause-walks t c =
    let e = c.args.e in
    let k = c.args.c.now in
    let o = c.args.out.now in
    let z = c.loop-rest.invariant in
    let inv = z.loop in
    let rest = c.loop-rest.rest in
    let over : length e.rows.now ≤ z.i = omega (arith, empty rest.rows.now c.is_empty.ensures c.loop-rest-test.false, rest-length e.rows.now z.i z.rows) in
    loop-done inv over c.put_loop_end.ensures.wrote refl

-- ---- `convert_clause_lr`: `\left` and `\right`. The first child is the name; those behind it are walked between the texts that the name asks for

pub convert_clause_lr-behind-requires-clause-spelt : goal.convert_clause_lr-behind-requires-clause-spelt
convert_clause_lr-behind-requires-clause-spelt t c =
    let k = c.args.c.now in
    let e = c.args.e in
    let q = c.children-children.ensures in
    let apart = found-by (λ g l s. FirstApart g l s c.first_span-first.result) q.rows q.text c.first_span-first.ensures.parts in
    let g = spelt e in
    record { forest = behind_first g.forest; spells = (apart g.forest g.spells).behind }

pub convert_clause_lr-returns-in_err-each-clause-walks : goal.convert_clause_lr-returns-in_err-each-clause-walks
convert_clause_lr-returns-in_err-each-clause-walks t c =
    let k = c.args.c.now in
    let e = c.args.e in
    let q = c.children-children.ensures in
    let apart = found-by (λ g l s. FirstApart g l s c.first_span-first.result) q.rows q.text c.first_span-first.ensures.parts in
    let b = c.behind.ensures in
    let name = c.lr_name-name.result.now in
    λ rs ready f sp n h. agrees-as (lr-named (meaning n) (context_of rs k) f (carry_of k) name (c.lr_name-name.ensures f (exact-children q.rows q.text sp)))
    (handed-by _ _ _ c.in_err-each.field-0.0 (λ o. after (lr_begin name) (closing (lr_end name) o)) (λ _ _. refl) (c.from_residual.ensures.1)
    (agrees-further e.row (first_size f) (apart f sp).size_is
    (walks-at k (looping Spaced) b.rows b.text b.row c.in_err-each.ensures.walks rs ready (behind_first f) (apart f sp).behind n (omega (arith, fits-behind f, h)))))

pub convert_clause_lr-returns-clause-walks : goal.convert_clause_lr-returns-clause-walks
convert_clause_lr-returns-clause-walks t c =
    let k = c.args.c.now in
    let e = c.args.e in
    let q = c.children-children.ensures in
    let apart = found-by (λ g l s. FirstApart g l s c.first_span-first.result) q.rows q.text c.first_span-first.ensures.parts in
    let b = c.behind.ensures in
    let name = c.lr_name-name.result.now in
    λ rs ready f sp n h. agrees-as (lr-named (meaning n) (context_of rs k) f (carry_of k) name (c.lr_name-name.ensures f (exact-children q.rows q.text sp)))
    (framed c.args.out.now.few c.put_lr_begin.ensures.wrote c.put_lr_begin.new.out.few
    (agrees-further e.row (first_size f) (apart f sp).size_is
    (walks-at k (looping Spaced) b.rows b.text b.row c.in_ok-each.ensures.walks rs ready (behind_first f) (apart f sp).behind n (omega (arith, fits-behind f, h))))
    c.put_lr_end.ensures.wrote back-same)

-- ---- `convert_command_color`: the command's head; then black, or the first element behind the model as the colour and those behind it as the body

pub convert_command_color-returns-then-is_empty-clause-walks : goal.convert_command_color-returns-then-is_empty-clause-walks
convert_command_color-returns-then-is_empty-clause-walks t c =
    let k = c.args.c.now in
    let e = c.args.e in
    let o = c.args.out.now in
    let m = c.args.model in
    let b = c.part-rest.ensures in
    let rest = c.part-rest.result in
    let name = c.args.name.now in
    let head : (u : Model) → u.text ≡ model_text m.text → (rs : List Rule) → Ready c.args.rules.file.now c.args.rules.index.now rs
    → Wrote o.at o.buffer.now (color_alias (get_cmd rs name) ++ (left_paren ++ (u.text ++ left_bracket))) c.put_color_head.new.out.at
    c.put_color_head.new.out.buffer.now
    = λ u is rs ready. wrote_as (color-head (c.get_cmd.ensures.answers rs ready.decodes) is) (c.put_color_head.ensures name).wrote in
    λ rs ready u f sp found d h.
    let none_here : u.behind.elements ≡ none = no-left u.behind.elements (exact-children b.rows b.text found.spells).rows_are (empty rest.rows.now c.is_empty.ensures c.if-is_empty.true) in
    agrees_after o.few (head u found.text_is rs ready)
    (agrees-as (black-is (meaning d) (context_of rs k) c.args.how u.behind.rows (carry_of k) none_here)
    (framed c.put_color_head.new.out.few c.put_black.ensures.wrote c.put_black.new.out.few
    (agrees-done k refl refl refl c.requires.room.label (wrote-nil _ _ c.put_black.new.out.near)) c.put_body_end.ensures.wrote back-same))

pub convert_command_color-returns-then-is_empty-clause-lent : goal.convert_command_color-returns-then-is_empty-clause-lent
convert_command_color-returns-then-is_empty-clause-lent t c =
    c.put_body_end.ensures.lent ∙ c.put_black.ensures.lent ∙ (c.put_color_head.ensures c.args.name.now).lent

pub convert_command_color-returns-then-is_empty-clause-kept : goal.convert_command_color-returns-then-is_empty-clause-kept
convert_command_color-returns-then-is_empty-clause-kept t c =
    c.put_body_end.ensures.kept ∙ c.put_black.ensures.kept ∙ (c.put_color_head.ensures c.args.name.now).kept

pub convert_command_color-span_at-span-requires : goal.convert_command_color-span_at-span-requires
convert_command_color-span_at-span-requires t c =
    let k = c.args.c.now in
    let e = c.args.e in
    let o = c.args.out.now in
    let m = c.args.model in
    let b = c.part-rest.ensures in
    let rest = c.part-rest.result in
    let name = c.args.name.now in
    let some = some-left rest.rows.now c.is_empty.ensures c.if-is_empty.false in
    let g = c.requires.color_given in
    part-spans (exact-children b.rows b.text g.found.spells) some (elements-few rest) rest.short

pub convert_command_color-front-requires-clause-high : goal.convert_command_color-front-requires-clause-high
convert_command_color-front-requires-clause-high t c =
    let k = c.args.c.now in
    let e = c.args.e in
    let o = c.args.out.now in
    let m = c.args.model in
    let b = c.part-rest.ensures in
    let rest = c.part-rest.result in
    let name = c.args.name.now in
    let some = some-left rest.rows.now c.is_empty.ensures c.if-is_empty.false in
    let s = c.span_at-span in
    let g = c.requires.color_given in
    let q = halved (exact-children b.rows b.text g.found.spells) some (elements-few rest) rest.short s.result s.ensures.rows s.ensures.text in
    q.low

pub convert_command_color-front-requires-clause-stop : goal.convert_command_color-front-requires-clause-stop
convert_command_color-front-requires-clause-stop t c =
    let k = c.args.c.now in
    let e = c.args.e in
    let o = c.args.out.now in
    let m = c.args.model in
    let b = c.part-rest.ensures in
    let rest = c.part-rest.result in
    let name = c.args.name.now in
    let some = some-left rest.rows.now c.is_empty.ensures c.if-is_empty.false in
    let s = c.span_at-span in
    let g = c.requires.color_given in
    let q = halved (exact-children b.rows b.text g.found.spells) some (elements-few rest) rest.short s.result s.ensures.rows s.ensures.text in
    q.begun

pub convert_command_color-front-requires-clause-spelt : goal.convert_command_color-front-requires-clause-spelt
convert_command_color-front-requires-clause-spelt t c =
    let k = c.args.c.now in
    let e = c.args.e in
    let o = c.args.out.now in
    let m = c.args.model in
    let b = c.part-rest.ensures in
    let rest = c.part-rest.result in
    let name = c.args.name.now in
    let some = some-left rest.rows.now c.is_empty.ensures c.if-is_empty.false in
    let s = c.span_at-span in
    let g = c.requires.color_given in
    let q = halved (exact-children b.rows b.text g.found.spells) some (elements-few rest) rest.short s.result s.ensures.rows s.ensures.text in
    record { forest = more q.tree none; spells = spells-alone q.first }

pub convert_command_color-returns-in_err-convert-clause-walks : goal.convert_command_color-returns-in_err-convert-clause-walks
convert_command_color-returns-in_err-convert-clause-walks t c =
    let k = c.args.c.now in
    let e = c.args.e in
    let o = c.args.out.now in
    let m = c.args.model in
    let b = c.part-rest.ensures in
    let rest = c.part-rest.result in
    let name = c.args.name.now in
    let some = some-left rest.rows.now c.is_empty.ensures c.if-is_empty.false in
    let s = c.span_at-span in
    let n = m.rest.row / 8 in
    let pb = c.front.ensures in
    let prev = c.enter_mode-prev.ensures in
    let at_color : c.front.result.row ≡ e.row + n = omega (arith, pb.row, b.row) in
    let color = walks-at (with_mode Text k) children pb.rows pb.text at_color (walks-from children (prev.1) c.in_err-convert.ensures.walks) in
    λ rs ready u f sp found d h.
    let q = halved (exact-children b.rows b.text found.spells) some (elements-few rest) rest.short s.result s.ensures.rows s.ensures.text in
    let text = color_alias (get_cmd rs name) ++ (left_paren ++ (u.text ++ left_bracket)) in
    let then : Carry → Outcome = λ c'. closing (body_end k.mode) (shift (n + s.result.rows / 8) (each (meaning d (context_of rs k)) 1 c.args.how q.others c')) in
    let first = agrees-shift n (alone-agrees (with_mode Text k) color rs ready q.tree q.first d (omega (arith, q.fits, found.fits, h))) in
    agrees-as (ap (after text) (color-is (meaning d) (context_of rs k) c.args.how u.behind.rows n (carry_of k) q (omega (arith, found.row))))
    (handed-by _ _ _ c.in_err-convert.field-0.0 (λ z. after text (and_then (closing color_end z) then)) (λ _ _. refl) (c.from_residual.ensures.1) first)

pub convert_command_color-returns-in_err-convert-clause-lent : goal.convert_command_color-returns-in_err-convert-clause-lent
convert_command_color-returns-in_err-convert-clause-lent t c =
    c.convert.ensures.lent ∙ (c.put_color_head.ensures c.args.name.now).lent

pub convert_command_color-returns-in_err-convert-clause-kept : goal.convert_command_color-returns-in_err-convert-clause-kept
convert_command_color-returns-in_err-convert-clause-kept t c =
    c.convert.ensures.kept ∙ (c.put_color_head.ensures c.args.name.now).kept

pub convert_command_color-behind-requires-clause-high : goal.convert_command_color-behind-requires-clause-high
convert_command_color-behind-requires-clause-high t c =
    let k = c.args.c.now in
    let e = c.args.e in
    let o = c.args.out.now in
    let m = c.args.model in
    let b = c.part-rest.ensures in
    let rest = c.part-rest.result in
    let name = c.args.name.now in
    let some = some-left rest.rows.now c.is_empty.ensures c.if-is_empty.false in
    let s = c.span_at-span in
    let g = c.requires.color_given in
    let q = halved (exact-children b.rows b.text g.found.spells) some (elements-few rest) rest.short s.result s.ensures.rows s.ensures.text in
    q.low

pub convert_command_color-behind-requires-clause-begun : goal.convert_command_color-behind-requires-clause-begun
convert_command_color-behind-requires-clause-begun t c =
    let k = c.args.c.now in
    let e = c.args.e in
    let o = c.args.out.now in
    let m = c.args.model in
    let b = c.part-rest.ensures in
    let rest = c.part-rest.result in
    let name = c.args.name.now in
    let some = some-left rest.rows.now c.is_empty.ensures c.if-is_empty.false in
    let s = c.span_at-span in
    let g = c.requires.color_given in
    let q = halved (exact-children b.rows b.text g.found.spells) some (elements-few rest) rest.short s.result s.ensures.rows s.ensures.text in
    q.begun

pub convert_command_color-behind-requires-clause-spelt : goal.convert_command_color-behind-requires-clause-spelt
convert_command_color-behind-requires-clause-spelt t c =
    let k = c.args.c.now in
    let e = c.args.e in
    let o = c.args.out.now in
    let m = c.args.model in
    let b = c.part-rest.ensures in
    let rest = c.part-rest.result in
    let name = c.args.name.now in
    let some = some-left rest.rows.now c.is_empty.ensures c.if-is_empty.false in
    let s = c.span_at-span in
    let g = c.requires.color_given in
    let q = halved (exact-children b.rows b.text g.found.spells) some (elements-few rest) rest.short s.result s.ensures.rows s.ensures.text in
    record { forest = q.others; spells = q.behind }

pub convert_command_color-each-requires : goal.convert_command_color-each-requires
convert_command_color-each-requires t c =
    let k = c.args.c.now in
    let e = c.args.e in
    let o = c.args.out.now in
    let m = c.args.model in
    let b = c.part-rest.ensures in
    let rest = c.part-rest.result in
    let name = c.args.name.now in
    let some = some-left rest.rows.now c.is_empty.ensures c.if-is_empty.false in
    let s = c.span_at-span in
    let g = c.requires.color_given in
    let q = halved (exact-children b.rows b.text g.found.spells) some (elements-few rest) rest.short s.result s.ensures.rows s.ensures.text in
    let n = m.rest.row / 8 in
    let pb = c.front.ensures in
    let prev = c.enter_mode-prev.ensures in
    let at_color : c.front.result.row ≡ e.row + n = omega (arith, pb.row, b.row) in
    let color = walks-at (with_mode Text k) children pb.rows pb.text at_color (walks-from children (prev.1) c.in_ok-convert.ensures.walks) in
    let cb = c.behind.ensures in
    let at_body : c.behind.result.row ≡ e.row + (n + s.result.rows / 8) = omega (arith, cb.row, b.row) in
    let some_rules = c.args.rules.some in
    let first = agrees-shift n (alone-agrees (with_mode Text k) color some_rules.rules some_rules.ready q.tree q.first (size q.tree) (omega arith)) in
    let colored = closed c.put_color_head.new.out.few first c.put_color_end.ensures.wrote (back-mode (place_of k) Text (prev.0) c.exit_mode.ensures) in
    let good = agrees-good colored refl in
    let short : length c.behind.result.rows.now ≤ length e.rows.now
    = omega (
      arith,
      ap length cb.rows,
      between-short s.result.rows (length rest.rows.now) rest.rows.now,
      ap length b.rows,
      between-short m.rest.row m.rest.end e.rows.now,
    ) in (
      omega (arith, c.decreases),
      (
        record { deep = omega (arith, c.requires.room.deep, ap (λ (x : Place). x.indent) good.placed_so); label = good.short },
        g.counts,
      ),
    )

pub convert_command_color-returns-in_err-each-clause-walks : goal.convert_command_color-returns-in_err-each-clause-walks
convert_command_color-returns-in_err-each-clause-walks t c =
    let k = c.args.c.now in
    let e = c.args.e in
    let o = c.args.out.now in
    let m = c.args.model in
    let b = c.part-rest.ensures in
    let rest = c.part-rest.result in
    let name = c.args.name.now in
    let some = some-left rest.rows.now c.is_empty.ensures c.if-is_empty.false in
    let s = c.span_at-span in
    let n = m.rest.row / 8 in
    let pb = c.front.ensures in
    let prev = c.enter_mode-prev.ensures in
    let at_color : c.front.result.row ≡ e.row + n = omega (arith, pb.row, b.row) in
    let color = walks-at (with_mode Text k) children pb.rows pb.text at_color (walks-from children (prev.1) c.in_ok-convert.ensures.walks) in
    let cb = c.behind.ensures in
    let at_body : c.behind.result.row ≡ e.row + (n + s.result.rows / 8) = omega (arith, cb.row, b.row) in
    λ rs ready u f sp found d h.
    let q = halved (exact-children b.rows b.text found.spells) some (elements-few rest) rest.short s.result s.ensures.rows s.ensures.text in
    let text = color_alias (get_cmd rs name) ++ (left_paren ++ (u.text ++ left_bracket)) in
    let then : Carry → Outcome = λ c'. closing (body_end k.mode) (shift (n + s.result.rows / 8) (each (meaning d (context_of rs k)) 1 c.args.how q.others c')) in
    let first = agrees-shift n (alone-agrees (with_mode Text k) color rs ready q.tree q.first d (omega (arith, q.fits, found.fits, h))) in
    let colored = closed c.put_color_head.new.out.few first c.put_color_end.ensures.wrote (back-mode (place_of k) Text (prev.0) c.exit_mode.ensures) in
    let good = agrees-good colored refl in
    let body = agrees-in rs (λ x. shift (n + s.result.rows / 8) (each (meaning d x) 1 c.args.how q.others (carry_of c.exit_mode.new.self))) c.exit_mode.new.self
    good.placed_so
    (agrees-shift (n + s.result.rows / 8)
    (walks-at c.exit_mode.new.self (looping c.args.how) cb.rows cb.text at_body c.in_err-each.ensures.walks rs ready q.others q.behind d
    (omega (arith, q.fits, found.fits, h)))) in
    agrees-as (ap (after text) (color-is (meaning d) (context_of rs k) c.args.how u.behind.rows n (carry_of k) q (omega (arith, found.row))))
    (handed-by _ _ {c = c.each.new.c} {p = c.each.new.out.at} _ c.in_err-each.field-0.0 {x = place_of k} {out' = c.each.new.out.buffer.now} (after text) (λ _ _. refl) (c.from_residual-in_err-each.ensures.1)
    (then-done then c.put_color_head.new.out.few colored refl
    (handed-on (closing (body_end k.mode)) (λ _ _. refl) (number-some c.in_err-each.field-0.0.reason) refl refl body)))

pub convert_command_color-returns-in_err-each-clause-lent : goal.convert_command_color-returns-in_err-each-clause-lent
convert_command_color-returns-in_err-each-clause-lent t c =
    c.each.ensures.lent ∙ c.put_color_end.ensures.lent ∙ c.convert.ensures.lent ∙ (c.put_color_head.ensures c.args.name.now).lent

pub convert_command_color-returns-in_err-each-clause-kept : goal.convert_command_color-returns-in_err-each-clause-kept
convert_command_color-returns-in_err-each-clause-kept t c =
    c.each.ensures.kept ∙ c.put_color_end.ensures.kept ∙ c.convert.ensures.kept ∙ (c.put_color_head.ensures c.args.name.now).kept

pub convert_command_color-returns-clause-walks : goal.convert_command_color-returns-clause-walks
convert_command_color-returns-clause-walks t c =
    let k = c.args.c.now in
    let e = c.args.e in
    let o = c.args.out.now in
    let m = c.args.model in
    let b = c.part-rest.ensures in
    let rest = c.part-rest.result in
    let name = c.args.name.now in
    let head : (u : Model) → u.text ≡ model_text m.text → (rs : List Rule) → Ready c.args.rules.file.now c.args.rules.index.now rs
    → Wrote o.at o.buffer.now (color_alias (get_cmd rs name) ++ (left_paren ++ (u.text ++ left_bracket))) c.put_color_head.new.out.at
    c.put_color_head.new.out.buffer.now
    = λ u is rs ready. wrote_as (color-head (c.get_cmd.ensures.answers rs ready.decodes) is) (c.put_color_head.ensures name).wrote in
    let some = some-left rest.rows.now c.is_empty.ensures c.if-is_empty.false in
    let s = c.span_at-span in
    let n = m.rest.row / 8 in
    let pb = c.front.ensures in
    let prev = c.enter_mode-prev.ensures in
    let at_color : c.front.result.row ≡ e.row + n = omega (arith, pb.row, b.row) in
    let color = walks-at (with_mode Text k) children pb.rows pb.text at_color (walks-from children (prev.1) c.in_ok-convert.ensures.walks) in
    let cb = c.behind.ensures in
    let at_body : c.behind.result.row ≡ e.row + (n + s.result.rows / 8) = omega (arith, cb.row, b.row) in
    λ rs ready u f sp found d h.
    let q = halved (exact-children b.rows b.text found.spells) some (elements-few rest) rest.short s.result s.ensures.rows s.ensures.text in
    let text = color_alias (get_cmd rs name) ++ (left_paren ++ (u.text ++ left_bracket)) in
    let then : Carry → Outcome = λ c'. closing (body_end k.mode) (shift (n + s.result.rows / 8) (each (meaning d (context_of rs k)) 1 c.args.how q.others c')) in
    let first = agrees-shift n (alone-agrees (with_mode Text k) color rs ready q.tree q.first d (omega (arith, q.fits, found.fits, h))) in
    let colored = closed c.put_color_head.new.out.few first c.put_color_end.ensures.wrote (back-mode (place_of k) Text (prev.0) c.exit_mode.ensures) in
    let good = agrees-good colored refl in
    let body = agrees-in rs (λ x. shift (n + s.result.rows / 8) (each (meaning d x) 1 c.args.how q.others (carry_of c.exit_mode.new.self))) c.exit_mode.new.self
    good.placed_so
    (agrees-shift (n + s.result.rows / 8)
    (walks-at c.exit_mode.new.self (looping c.args.how) cb.rows cb.text at_body c.in_ok-each.ensures.walks rs ready q.others q.behind d
    (omega (arith, q.fits, found.fits, h)))) in
    let last = agrees-good body refl in
    agrees-as (ap (after text) (color-is (meaning d) (context_of rs k) c.args.how u.behind.rows n (carry_of k) q (omega (arith, found.row))))
    (agrees_after o.few (head u found.text_is rs ready)
    (then-done then c.put_color_head.new.out.few colored refl
    (closed c.put_color_end.new.out.few body
    (wrote_as (ap (λ (x : Place). body_end x.mode) last.placed_so) c.put_body_end-2.ensures.wrote) back-same)))

pub convert_command_color-returns-clause-lent : goal.convert_command_color-returns-clause-lent
convert_command_color-returns-clause-lent t c =
    c.put_body_end-2.ensures.lent ∙ c.each.ensures.lent ∙ c.put_color_end.ensures.lent ∙ c.convert.ensures.lent
    ∙ (c.put_color_head.ensures c.args.name.now).lent

pub convert_command_color-returns-clause-kept : goal.convert_command_color-returns-clause-kept
convert_command_color-returns-clause-kept t c =
    c.put_body_end-2.ensures.kept ∙ c.each.ensures.kept ∙ c.put_color_end.ensures.kept ∙ c.convert.ensures.kept
    ∙ (c.put_color_head.ensures c.args.name.now).kept

-- ---- `convert_curly_group`: its children are walked, in Math in an environment of their own, with a mark behind them if all of them are blank

pub convert_curly_group-returns-in_err-convert-in-Math-clause-walks : goal.convert_curly_group-returns-in_err-convert-in-Math-clause-walks
convert_curly_group-returns-in_err-convert-in-Math-clause-walks t c =
    let k = c.args.c.now in
    let e = c.args.e in
    let group = c.group_env-group.result in
    λ rs ready f sp n h. agrees-as (curly-math (meaning n) (context_of rs k) f (carry_of k) group _ c.in-Math.is c.group_env-group.ensures refl)
    (handed-by _ _ _ c.in_err-convert-in-Math.field-0.0 (closing _) (λ _ _. refl) (c.from_residual.ensures.1)
    (walks-from children (c.enter_env-prev.ensures.1) c.in_err-convert-in-Math.ensures.walks rs ready f sp n h))

pub convert_curly_group-exit_env-requires : goal.convert_curly_group-exit_env-requires
convert_curly_group-exit_env-requires t c =
    let k = c.args.c.now in
    let e = c.args.e in
    let group = c.group_env-group.result in
    let good = walks-good (entered_env group k) children c.args.rules.some (spelt e)
    (walks-from children (c.enter_env-prev.ensures.1) c.in_ok-convert-in-Math.ensures.walks) refl in
    leaves c.convert-in-Math.new.c k.mode group k.indent good.placed_so

pub convert_curly_group-returns-in_ok-convert-in-Math-clause-walks : goal.convert_curly_group-returns-in_ok-convert-in-Math-clause-walks
convert_curly_group-returns-in_ok-convert-in-Math-clause-walks t c =
    let k = c.args.c.now in
    let e = c.args.e in
    let group = c.group_env-group.result in
    let prev = c.enter_env-prev.ensures in
    λ rs ready f sp n h. agrees-as (curly-math (meaning n) (context_of rs k) f (carry_of k) group c.is_blank_group.result c.in-Math.is c.group_env-group.ensures (c.is_blank_group.ensures f e.text.now (all-begins sp)))
    (closed c.args.out.now.few (walks-from children (prev.1) c.in_ok-convert-in-Math.ensures.walks rs ready f sp n h)
    c.put_curly_end.ensures.wrote (back-env (place_of k) group (prev.0) c.exit_env.ensures))

-- ---- `convert_env`: an environment goes by its rule and is refused without one; where it ends in Text it takes the held label

pub convert_env-returns-in_default-clause-walks : goal.convert_env-returns-in_default-clause-walks
convert_env-returns-in_default-clause-walks t c =
    let k = c.args.c.now in
    let e = c.args.e in
    let q = c.children.ensures in
    λ rs ready f sp n h. agrees-as
    (env-named (meaning n) (context_of rs k) f (carry_of k) _ (c.trim-name.ensures ∙ ap trim (c.env_name.ensures f (as-children q.rows q.text sp)))
    ∙ env-absent _ _ (meaning n) (context_of rs k) f (carry_of k) (c.get_env.ensures.answers rs ready.decodes) c.in_default.is)
    (refused-here NoEnvironment)

pub convert_env-returns-in_err-body-clause-walks : goal.convert_env-returns-in_err-body-clause-walks
convert_env-returns-in_err-body-clause-walks t c =
    let k = c.args.c.now in
    let e = c.args.e in
    let q = c.children.ensures in
    λ rs ready f sp n h. agrees-as
    (env-named (meaning n) (context_of rs k) f (carry_of k) _ (c.trim-name.ensures ∙ ap trim (c.env_name.ensures f (as-children q.rows q.text sp)))
    ∙ env-found _ _ (meaning n) (context_of rs k) f (carry_of k) c.in-Some.found _ c.env_of-env.result (c.get_env.ensures.answers rs ready.decodes)
    c.in-Some.is c.written_name.ensures c.env_of-env.ensures)
    (handed-by _ _ _ c.in_err-body.field-0.0 (take_label (is_list c.env_of-env.result) k.mode) (λ _ _. refl) (c.from_residual.ensures.1)
    (c.in_err-body.ensures.walks rs ready f sp n h))

pub convert_env-take_label-requires : goal.convert_env-take_label-requires
convert_env-take_label-requires t c =
    let k = c.args.c.now in
    let e = c.args.e in
    (walks-good k (env_body c.env_of-env.result _) c.args.rules.some (spelt e) c.in_ok-body.ensures.walks refl).short

pub convert_env-returns-clause-walks : goal.convert_env-returns-clause-walks
convert_env-returns-clause-walks t c =
    let k = c.args.c.now in
    let e = c.args.e in
    let q = c.children.ensures in
    let good = walks-good k (env_body c.env_of-env.result _) c.args.rules.some (spelt e) c.in_ok-body.ensures.walks refl in
    λ rs ready f sp n h. agrees-as
    (env-named (meaning n) (context_of rs k) f (carry_of k) _ (c.trim-name.ensures ∙ ap trim (c.env_name.ensures f (as-children q.rows q.text sp)))
    ∙ env-found _ _ (meaning n) (context_of rs k) f (carry_of k) c.in-Some.found _ c.env_of-env.result (c.get_env.ensures.answers rs ready.decodes)
    c.in-Some.is c.written_name.ensures c.env_of-env.ensures)
    (subst (λ (b : Bool). Agrees (went_with c.take_label.new.c c.take_label.new.out.at) (place_of k) e.row c.args.out.now.at c.args.out.now.buffer.now c.take_label.new.out.buffer.now (take_label b k.mode (env_body c.env_of-env.result c.written_name.result.now (meaning n) (context_of rs k) f (carry_of k)))) c.is_list.ensures
    (agrees-takes _ k.mode c.args.out.now.few (c.in_ok-body.ensures.walks rs ready f sp n h)
    (subst (λ (m : LaTeXMode). Takes c.body.new.c c.body.new.out c.is_list.result m c.take_label.new.c c.take_label.new.out) (ap (λ (p : Place). p.mode) good.placed_so) c.take_label.ensures)))

-- ---- `convert_env_figure`: the argument of the last caption is walked over, if there is one, then the children; a caption without an argument is refused

pub convert_env_figure-overflow_add-row-in-Err : goal.convert_env_figure-overflow_add-row-in-Err
convert_env_figure-overflow_add-row-in-Err t c =
    let k = c.args.c.now in
    let e = c.args.e in
    let q = c.children.ensures in
    let found = found-by (λ g l s. CaptionFound g l s c.last_caption.result) q.rows q.text c.last_caption.ensures in
    let g = spelt e in
    omega (arith, e.low, bare-row-low g.spells (found g.forest g.spells) c.in-Err.is)

pub convert_env_figure-returns-in-Err-clause-walks : goal.convert_env_figure-returns-in-Err-clause-walks
convert_env_figure-returns-in-Err-clause-walks t c =
    let k = c.args.c.now in
    let e = c.args.e in
    let q = c.children.ensures in
    let found = found-by (λ g l s. CaptionFound g l s c.last_caption.result) q.rows q.text c.last_caption.ensures in
    λ rs ready f sp n h. agrees-as
    (figure-bare c.args.name.now (meaning n) (context_of rs k) (carry_of k) (found f sp) c.in-Err.is)
    (declines (number-some NoArgument) refl (omega arith))

pub convert_env_figure-part-requires-clause-inside : goal.convert_env_figure-part-requires-clause-inside
convert_env_figure-part-requires-clause-inside t c =
    let k = c.args.c.now in
    let e = c.args.e in
    let q = c.children.ensures in
    let found = found-by (λ g l s. CaptionFound g l s c.last_caption.result) q.rows q.text c.last_caption.ensures in
    let w = c.args.name.now in
    let o = c.args.out.now in
    let cap = c.in-Ok.caption in
    let p = c.unwrap_or.result in
    let walked : (f : Forest) → SpellsAll f e.rows.now e.text.now → Captioned f e.rows.now e.text.now (is_some cap) p
    = λ f sp. caption-walked cap c.unwrap_or.ensures c.in-Ok.is (found f sp) in
    let g = spelt e in (walked g.forest g.spells).inside

pub convert_env_figure-part-requires-clause-spelt : goal.convert_env_figure-part-requires-clause-spelt
convert_env_figure-part-requires-clause-spelt t c =
    let k = c.args.c.now in
    let e = c.args.e in
    let q = c.children.ensures in
    let found = found-by (λ g l s. CaptionFound g l s c.last_caption.result) q.rows q.text c.last_caption.ensures in
    let w = c.args.name.now in
    let o = c.args.out.now in
    let cap = c.in-Ok.caption in
    let p = c.unwrap_or.result in
    let walked : (f : Forest) → SpellsAll f e.rows.now e.text.now → Captioned f e.rows.now e.text.now (is_some cap) p
    = λ f sp. caption-walked cap c.unwrap_or.ensures c.in-Ok.is (found f sp) in
    let g = spelt e in
    record { forest = (walked g.forest g.spells).forest; spells = (walked g.forest g.spells).spells }

pub convert_env_figure-returns-in_err-convert-clause-walks : goal.convert_env_figure-returns-in_err-convert-clause-walks
convert_env_figure-returns-in_err-convert-clause-walks t c =
    let k = c.args.c.now in
    let e = c.args.e in
    let q = c.children.ensures in
    let found = found-by (λ g l s. CaptionFound g l s c.last_caption.result) q.rows q.text c.last_caption.ensures in
    let w = c.args.name.now in
    let o = c.args.out.now in
    let cap = c.in-Ok.caption in
    let p = c.unwrap_or.result in
    let walked : (f : Forest) → SpellsAll f e.rows.now e.text.now → Captioned f e.rows.now e.text.now (is_some cap) p
    = λ f sp. caption-walked cap c.unwrap_or.ensures c.in-Ok.is (found f sp) in
    let prev = c.enter_env-prev.ensures in
    let y = entered_env EnvFigure k in
    let i = c.part.ensures in
    let before = (hash ++ (w ++ left_paren)) ++ caption_text (is_some cap) in
    λ rs ready f sp n h. agrees-as ((walked f sp).is w (meaning n) (context_of rs k) (carry_of k))
    (handed-by _ _ _ c.in_err-convert.field-0.0 (λ z. after before (closing block_end (and_then z (λ c'. after (caption_close (is_some cap)) (each (meaning n (in_env EnvFigure (context_of rs k))) 1 Figure f c'))))) (λ _ _. refl) (c.from_residual.ensures.1)
    (agrees-shift (p.row / 8)
    (walks-at y children i.rows i.text i.row (walks-from children (prev.1) c.in_err-convert.ensures.walks) rs ready (walked f sp).forest (walked f sp).spells n
    (omega (arith, (walked f sp).fits, h)))))

pub convert_env_figure-each-requires : goal.convert_env_figure-each-requires
convert_env_figure-each-requires t c =
    let k = c.args.c.now in
    let e = c.args.e in
    let q = c.children.ensures in
    let found = found-by (λ g l s. CaptionFound g l s c.last_caption.result) q.rows q.text c.last_caption.ensures in
    let w = c.args.name.now in
    let o = c.args.out.now in
    let cap = c.in-Ok.caption in
    let p = c.unwrap_or.result in
    let walked : (f : Forest) → SpellsAll f e.rows.now e.text.now → Captioned f e.rows.now e.text.now (is_some cap) p
    = λ f sp. caption-walked cap c.unwrap_or.ensures c.in-Ok.is (found f sp) in
    let prev = c.enter_env-prev.ensures in
    let y = entered_env EnvFigure k in
    let i = c.part.ensures in
    let before = (hash ++ (w ++ left_paren)) ++ caption_text (is_some cap) in
    let good = walks-good y children c.args.rules.some (spelt c.part.result) (walks-from children (prev.1) c.in_ok-convert.ensures.walks) refl in
    (omega (arith, c.decreases), (room-on k.mode EnvFigure c.requires good.placed_so good.short, refl))

pub convert_env_figure-returns-in_err-each-clause-walks : goal.convert_env_figure-returns-in_err-each-clause-walks
convert_env_figure-returns-in_err-each-clause-walks t c =
    let k = c.args.c.now in
    let e = c.args.e in
    let q = c.children.ensures in
    let found = found-by (λ g l s. CaptionFound g l s c.last_caption.result) q.rows q.text c.last_caption.ensures in
    let w = c.args.name.now in
    let o = c.args.out.now in
    let cap = c.in-Ok.caption in
    let p = c.unwrap_or.result in
    let walked : (f : Forest) → SpellsAll f e.rows.now e.text.now → Captioned f e.rows.now e.text.now (is_some cap) p
    = λ f sp. caption-walked cap c.unwrap_or.ensures c.in-Ok.is (found f sp) in
    let prev = c.enter_env-prev.ensures in
    let y = entered_env EnvFigure k in
    let i = c.part.ensures in
    let before = (hash ++ (w ++ left_paren)) ++ caption_text (is_some cap) in
    let good = walks-good y children c.args.rules.some (spelt c.part.result) (walks-from children (prev.1) c.in_ok-convert.ensures.walks) refl in
    λ rs ready f sp n h. agrees-as ((walked f sp).is w (meaning n) (context_of rs k) (carry_of k))
    (handed-by _ _ _ c.in_err-each.field-0.0 (λ z. after before (closing block_end z)) (λ _ _. refl) (c.from_residual-in_err-each.ensures.1)
    (then-done (λ c'. after (caption_close (is_some cap)) (each (meaning n (in_env EnvFigure (context_of rs k))) 1 Figure f c')) c.put_figure_begin.new.out.few (agrees-shift (p.row / 8)
    (walks-at y children i.rows i.text i.row (walks-from children (prev.1) c.in_ok-convert.ensures.walks) rs ready (walked f sp).forest (walked f sp).spells n
    (omega (arith, (walked f sp).fits, h)))) refl
    (agrees_after c.convert.new.out.few (wrote_as (ap caption_close c.is_some-2.ensures) c.put_caption_end.ensures.wrote)
    (agrees-in rs (λ x. each (meaning n x) 1 Figure f (carry_of c.convert.new.c)) c.convert.new.c good.placed_so (c.in_err-each.ensures.walks rs ready f sp n h)))))

pub convert_env_figure-exit_env-requires : goal.convert_env_figure-exit_env-requires
convert_env_figure-exit_env-requires t c =
    let k = c.args.c.now in
    let e = c.args.e in
    let q = c.children.ensures in
    let found = found-by (λ g l s. CaptionFound g l s c.last_caption.result) q.rows q.text c.last_caption.ensures in
    let w = c.args.name.now in
    let o = c.args.out.now in
    let cap = c.in-Ok.caption in
    let p = c.unwrap_or.result in
    let walked : (f : Forest) → SpellsAll f e.rows.now e.text.now → Captioned f e.rows.now e.text.now (is_some cap) p
    = λ f sp. caption-walked cap c.unwrap_or.ensures c.in-Ok.is (found f sp) in
    let prev = c.enter_env-prev.ensures in
    let y = entered_env EnvFigure k in
    let i = c.part.ensures in
    let before = (hash ++ (w ++ left_paren)) ++ caption_text (is_some cap) in
    let good = walks-good y children c.args.rules.some (spelt c.part.result) (walks-from children (prev.1) c.in_ok-convert.ensures.walks) refl in
    let last = walks-good c.convert.new.c (looping Figure) c.args.rules.some (spelt e) c.in_ok-each.ensures.walks refl in
    leaves c.each.new.c k.mode EnvFigure k.indent (last.placed_so ∙ good.placed_so)

pub convert_env_figure-returns-clause-walks : goal.convert_env_figure-returns-clause-walks
convert_env_figure-returns-clause-walks t c =
    let k = c.args.c.now in
    let e = c.args.e in
    let q = c.children.ensures in
    let found = found-by (λ g l s. CaptionFound g l s c.last_caption.result) q.rows q.text c.last_caption.ensures in
    let w = c.args.name.now in
    let o = c.args.out.now in
    let cap = c.in-Ok.caption in
    let p = c.unwrap_or.result in
    let walked : (f : Forest) → SpellsAll f e.rows.now e.text.now → Captioned f e.rows.now e.text.now (is_some cap) p
    = λ f sp. caption-walked cap c.unwrap_or.ensures c.in-Ok.is (found f sp) in
    let prev = c.enter_env-prev.ensures in
    let y = entered_env EnvFigure k in
    let i = c.part.ensures in
    let before = (hash ++ (w ++ left_paren)) ++ caption_text (is_some cap) in
    let good = walks-good y children c.args.rules.some (spelt c.part.result) (walks-from children (prev.1) c.in_ok-convert.ensures.walks) refl in
    λ rs ready f sp n h. agrees-as ((walked f sp).is w (meaning n) (context_of rs k) (carry_of k))
    (framed o.few (wrote_as (ap (λ (b : Bool). (hash ++ (w ++ left_paren)) ++ caption_text b) c.is_some.ensures) c.put_figure_begin.ensures.wrote)
    c.put_figure_begin.new.out.few
    (then-done (λ c'. after (caption_close (is_some cap)) (each (meaning n (in_env EnvFigure (context_of rs k))) 1 Figure f c')) c.put_figure_begin.new.out.few (agrees-shift (p.row / 8)
    (walks-at y children i.rows i.text i.row (walks-from children (prev.1) c.in_ok-convert.ensures.walks) rs ready (walked f sp).forest (walked f sp).spells n
    (omega (arith, (walked f sp).fits, h)))) refl
    (agrees_after c.convert.new.out.few (wrote_as (ap caption_close c.is_some-2.ensures) c.put_caption_end.ensures.wrote)
    (agrees-in rs (λ x. each (meaning n x) 1 Figure f (carry_of c.convert.new.c)) c.convert.new.c good.placed_so (c.in_ok-each.ensures.walks rs ready f sp n h))))
    c.put.ensures.wrote (back-env (place_of k) EnvFigure (prev.0) c.exit_env.ensures))

-- ---- `convert_env_table`: its head is written by the column letters, and its children are walked in a table; without letters that fit it is refused

pub convert_env_table-returns-then-not-has_ends-clause-walks : goal.convert_env_table-returns-then-not-has_ends-clause-walks
convert_env_table-returns-then-not-has_ends-clause-walks t c =
    let k = c.args.c.now in
    let e = c.args.e in
    let q = c.children.ensures in
    let w = c.args.name.now in
    λ rs ready f sp n h. agrees-as
    (table-bad (first_of ClauseArgument (begin_of f)) w _ (meaning n) (context_of rs k) f (carry_of k) (c.table_argument-argument.ensures f (exact-children q.rows q.text sp))
    (sym c.has_ends.ensures ∙ c.if-not-has_ends.true))
    (refused-here NoArgument)

pub convert_env_table-returns-then-not-letters_fit-clause-walks : goal.convert_env_table-returns-then-not-letters_fit-clause-walks
convert_env_table-returns-then-not-letters_fit-clause-walks t c =
    let k = c.args.c.now in
    let e = c.args.e in
    let q = c.children.ensures in
    let w = c.args.name.now in
    λ rs ready f sp n h. agrees-as
    (table-letters (first_of ClauseArgument (begin_of f)) w _ _ (meaning n) (context_of rs k) f (carry_of k) (c.table_argument-argument.ensures f (exact-children q.rows q.text sp))
    (sym c.has_ends.ensures ∙ c.if-not-has_ends.false) c.trimmed_inner-letters.ensures
    ∙ letters-bad w _ (meaning n) (context_of rs k) f (carry_of k) (sym c.letters_fit.ensures ∙ c.if-not-letters_fit.true))
    (refused-here BadColumn)

pub convert_env_table-put_table_begin-requires : goal.convert_env_table-put_table_begin-requires
convert_env_table-put_table_begin-requires t c =
    let k = c.args.c.now in
    let e = c.args.e in
    let q = c.children.ensures in
    let g = spelt e in
    omega (
      arith,
      letters-short g.spells (c.table_argument-argument.ensures g.forest (exact-children q.rows q.text g.spells)) c.trimmed_inner-letters.ensures,
      e.short,
    )

pub convert_env_table-returns-in_err-each-clause-walks : goal.convert_env_table-returns-in_err-each-clause-walks
convert_env_table-returns-in_err-each-clause-walks t c =
    let k = c.args.c.now in
    let e = c.args.e in
    let q = c.children.ensures in
    let w = c.args.name.now in
    λ rs ready f sp n h. agrees-as
    (table-letters (first_of ClauseArgument (begin_of f)) w _ _ (meaning n) (context_of rs k) f (carry_of k) (c.table_argument-argument.ensures f (exact-children q.rows q.text sp))
    (sym c.has_ends.ensures ∙ c.if-not-has_ends.false) c.trimmed_inner-letters.ensures ∙ letters-good w _ (meaning n) (context_of rs k) f (carry_of k) (sym c.letters_fit.ensures ∙ c.if-not-letters_fit.false))
    (handed-by _ _ _ c.in_err-each.field-0.0 (after (hash ++ (w ++ (left_paren ++ table_head c.trimmed_inner-letters.result.now)))) (λ _ _. refl)
    (c.from_residual.ensures.1) (walks-from (looping (Table true)) (c.enter_env-prev.ensures.1) c.in_err-each.ensures.walks rs ready f sp n h))

pub convert_env_table-exit_env-requires : goal.convert_env_table-exit_env-requires
convert_env_table-exit_env-requires t c =
    let k = c.args.c.now in
    let e = c.args.e in
    let good = walks-good (entered_env EnvTable k) (looping (Table true)) c.args.rules.some (spelt e)
    (walks-from (looping (Table true)) (c.enter_env-prev.ensures.1) c.in_ok-each.ensures.walks) refl in
    leaves c.each.new.c k.mode EnvTable k.indent good.placed_so

pub convert_env_table-returns-clause-walks : goal.convert_env_table-returns-clause-walks
convert_env_table-returns-clause-walks t c =
    let k = c.args.c.now in
    let e = c.args.e in
    let q = c.children.ensures in
    let w = c.args.name.now in
    let prev = c.enter_env-prev.ensures in
    λ rs ready f sp n h. agrees-as
    (table-letters (first_of ClauseArgument (begin_of f)) w _ _ (meaning n) (context_of rs k) f (carry_of k) (c.table_argument-argument.ensures f (exact-children q.rows q.text sp))
    (sym c.has_ends.ensures ∙ c.if-not-has_ends.false) c.trimmed_inner-letters.ensures ∙ letters-good w _ (meaning n) (context_of rs k) f (carry_of k) (sym c.letters_fit.ensures ∙ c.if-not-letters_fit.false))
    (agrees_after c.args.out.now.few c.put_table_begin.ensures.wrote
    (moved (walks-from (looping (Table true)) (prev.1) c.in_ok-each.ensures.walks rs ready f sp n h)
    (back-env (place_of k) EnvTable (prev.0) c.exit_env.ensures)))

-- ---- `convert_formula`: its begin is written, its children are walked in Math, and its end is written; one that is not valid is refused

pub convert_formula-returns-then-not-is_valid-clause-walks : goal.convert_formula-returns-then-not-is_valid-clause-walks
convert_formula-returns-then-not-is_valid-clause-walks t c =
    let k = c.args.c.now in
    let e = c.args.e in
    let q = c.children-children.ensures in
    λ rs ready f sp n h. agrees-as
    (formula-bad (meaning n) (context_of rs k) f (carry_of k) (sym (c.is_valid.ensures f (as-children q.rows q.text sp)) ∙ c.if-not-is_valid.true))
    (refused-here UnlikeEnds)

pub convert_formula-returns-in_err-convert-clause-walks : goal.convert_formula-returns-in_err-convert-clause-walks
convert_formula-returns-in_err-convert-clause-walks t c =
    let k = c.args.c.now in
    let e = c.args.e in
    let q = c.children-children.ensures in
    let inline = c.is_inline-inline.result in
    λ rs ready f sp n h. agrees-as
    (formula-good (meaning n) (context_of rs k) f (carry_of k) inline
    (sym (c.is_valid.ensures f (as-children q.rows q.text sp)) ∙ c.if-not-is_valid.false) (c.is_inline-inline.ensures f (as-children q.rows q.text sp)))
    (handed-by _ _ _ c.in_err-convert.field-0.0 (λ o. after (formula_begin k.mode inline) (closing (formula_end k.mode inline) o)) (λ _ _. refl)
    (c.from_residual.ensures.1) (walks-from children (c.enter_mode-prev.ensures.1) c.in_err-convert.ensures.walks rs ready f sp n h))

pub convert_formula-returns-clause-walks : goal.convert_formula-returns-clause-walks
convert_formula-returns-clause-walks t c =
    let k = c.args.c.now in
    let e = c.args.e in
    let q = c.children-children.ensures in
    let inline = c.is_inline-inline.result in
    let prev = c.enter_mode-prev.ensures in
    let same : c.exit_mode.new.self.mode ≡ k.mode = ap (λ (d : Converter). d.mode) c.exit_mode.ensures ∙ prev.0 in
    λ rs ready f sp n h. agrees-as
    (formula-good (meaning n) (context_of rs k) f (carry_of k) inline
    (sym (c.is_valid.ensures f (as-children q.rows q.text sp)) ∙ c.if-not-is_valid.false) (c.is_inline-inline.ensures f (as-children q.rows q.text sp)))
    (framed c.args.out.now.few c.put_formula_begin.ensures.wrote c.put_formula_begin.new.out.few
    (walks-from children (prev.1) c.in_ok-convert.ensures.walks rs ready f sp n h)
    (wrote_as (ap (λ (m : LaTeXMode). formula_end m inline) same) c.put_formula_end.ensures.wrote)
    (back-mode (place_of k) Math (prev.0) c.exit_mode.ensures))

-- ---- `convert_normal_command`: the command's name as Typst has it, and then its arguments, in a stack or where it stands

pub convert_normal_command-returns-in_default-clause-walks : goal.convert_normal_command-returns-in_default-clause-walks
convert_normal_command-returns-in_default-clause-walks t c =
    let k = c.args.c.now in
    let e = c.args.e in
    λ rs ready f sp n h. agrees-as
    (normal-absent _ c.args.name.now (meaning n) (context_of rs k) f (carry_of k) (c.get_cmd.ensures.answers rs ready.decodes) c.in_default.is)
    (refused-here NoCommand)

pub convert_normal_command-returns-in_err-args-clause-walks : goal.convert_normal_command-returns-in_err-args-clause-walks
convert_normal_command-returns-in_err-args-clause-walks t c =
    let k = c.args.c.now in
    let e = c.args.e in
    let name = typst_name k.mode c.args.name.now c.written_name-written.result.now in
    λ rs ready f sp n h. agrees-as
    (normal-found _ c.args.name.now (meaning n) (context_of rs k) f (carry_of k) c.in-Some.found _ (c.get_cmd.ensures.answers rs ready.decodes)
    c.in-Some.is c.written_name-written.ensures
    ∙ normal-written c.in-Some.found.class name (meaning n) (context_of rs k) f (carry_of k) c.arguments_of-how.result c.is_stack-stack.result
    c.arguments_of-how.ensures c.is_stack-stack.ensures
    ∙ ap (λ (y : Context). after name (arguments_by c.arguments_of-how.result (meaning n) y f (carry_of k)))
    (stacked (context_of rs k) c.is_stack-stack.result c.stack_env-c.ensures))
    (handed-by _ _ _ c.in_err-args.field-0.0 (after name) (λ _ _. refl) (c.from_residual.ensures.1) (c.in_err-args.ensures.walks rs ready f sp n h))

pub convert_normal_command-returns-clause-walks : goal.convert_normal_command-returns-clause-walks
convert_normal_command-returns-clause-walks t c =
    let k = c.args.c.now in
    let e = c.args.e in
    let name = typst_name k.mode c.args.name.now c.written_name-written.result.now in
    λ rs ready f sp n h. agrees-as
    (normal-found _ c.args.name.now (meaning n) (context_of rs k) f (carry_of k) c.in-Some.found _ (c.get_cmd.ensures.answers rs ready.decodes)
    c.in-Some.is c.written_name-written.ensures
    ∙ normal-written c.in-Some.found.class name (meaning n) (context_of rs k) f (carry_of k) c.arguments_of-how.result c.is_stack-stack.result
    c.arguments_of-how.ensures c.is_stack-stack.ensures
    ∙ ap (λ (y : Context). after name (arguments_by c.arguments_of-how.result (meaning n) y f (carry_of k)))
    (stacked (context_of rs k) c.is_stack-stack.result c.stack_env-c.ensures))
    (agrees_after c.args.out.now.few c.put_typst_name.ensures.wrote
    (moved (c.in_ok-args.ensures.walks rs ready f sp n h) (back-set (place_of k) c.stack_env-c.result)))

-- ---- `each`: `Head` holds at the loop's head. A turn of it takes either the children that go at once, which `convert` walks, or one child, which `turn` takes by what the loop does with it

-- ---- `math`: the arguments of the first ItemBegin are walked over, then the children without the begin and the end

pub math-invariant_of-arguments : goal.math-invariant_of-arguments
math-invariant_of-arguments t c =
    let k = c.args.c.now in
    let e = c.args.e in
    let v = c.args.env in
    let w = c.args.name.now in
    let q = c.children.ensures in
    let begin = c.begin_part-begin.result in
    let there : (f : Forest) → SpellsAll f e.rows.now e.text.now → BeginFound f begin.row begin.children.rows.now begin.children.text.now
    = λ f sp. c.begin_part-begin.ensures.found f (exact-children q.rows q.text sp) in
    let g = spelt e in
    let args : Siblings begin.children.rows.now begin.children.text.now = record { forest = begin_of g.forest; spells = (there g.forest g.spells).spells } in
    record {
      low = omega (arith, e.low, c.begin_part-begin.ensures.inside, ap length q.rows);
      short = begin.children.some.short;
      spelt = ∣ args ∣₁;
    }

pub math-returns-in_err-each-clause-walks : goal.math-returns-in_err-each-clause-walks
math-returns-in_err-each-clause-walks t c =
    let k = c.args.c.now in
    let e = c.args.e in
    let v = c.args.env in
    let w = c.args.name.now in
    let q = c.children.ensures in
    let begin = c.begin_part-begin.result in
    let there : (f : Forest) → SpellsAll f e.rows.now e.text.now → BeginFound f begin.row begin.children.rows.now begin.children.text.now
    = λ f sp. c.begin_part-begin.ensures.found f (exact-children q.rows q.text sp) in
    let mode = c.enter_mode-prev_mode.ensures in
    let prev = c.enter_env-prev.ensures in
    let y = entered_env v (with_mode Math k) in
    let inside : c.enter_env-prev.new.self ≡ y = prev.1 ∙ ap (entered_env v) (mode.1) in
    let before = dollar_begin k.mode ++ (w ++ left_paren) in
    let behind = right_paren ++ dollar_end k.mode in
    λ rs ready f sp n h. agrees-as (math-is (there f sp) v w (meaning n) (context_of rs k) (carry_of k))
    (handed-by _ _ _ c.in_err-each.field-0.0 (λ z. after before (closing behind (and_then z (λ c'. each (meaning n (in_math v (context_of rs k))) 1 Inside f c')))) (λ _ _. refl) (c.from_residual.ensures.1)
    (agrees-shift (begin.row / 8) (walks-from (looping (Named 0)) inside c.in_err-each.ensures.walks rs ready (begin_of f) (there f sp).spells n (omega (arith, (there f sp).fits, h)))))

pub math-each-requires-2 : goal.math-each-requires-2
math-each-requires-2 t c =
    let k = c.args.c.now in
    let e = c.args.e in
    let v = c.args.env in
    let w = c.args.name.now in
    let q = c.children.ensures in
    let begin = c.begin_part-begin.result in
    let there : (f : Forest) → SpellsAll f e.rows.now e.text.now → BeginFound f begin.row begin.children.rows.now begin.children.text.now
    = λ f sp. c.begin_part-begin.ensures.found f (exact-children q.rows q.text sp) in
    let g = spelt e in
    let args : Siblings begin.children.rows.now begin.children.text.now = record { forest = begin_of g.forest; spells = (there g.forest g.spells).spells } in
    let mode = c.enter_mode-prev_mode.ensures in
    let prev = c.enter_env-prev.ensures in
    let y = entered_env v (with_mode Math k) in
    let inside : c.enter_env-prev.new.self ≡ y = prev.1 ∙ ap (entered_env v) (mode.1) in
    let before = dollar_begin k.mode ++ (w ++ left_paren) in
    let behind = right_paren ++ dollar_end k.mode in
    let good = walks-good y (looping (Named 0)) c.args.rules.some args (walks-from (looping (Named 0)) inside c.in_ok-each.ensures.walks) refl in
    (omega (arith, c.decreases), (room-on Math v c.requires good.placed_so good.short, refl))

pub math-returns-in_err-each-2-clause-walks : goal.math-returns-in_err-each-2-clause-walks
math-returns-in_err-each-2-clause-walks t c =
    let k = c.args.c.now in
    let e = c.args.e in
    let v = c.args.env in
    let w = c.args.name.now in
    let q = c.children.ensures in
    let begin = c.begin_part-begin.result in
    let there : (f : Forest) → SpellsAll f e.rows.now e.text.now → BeginFound f begin.row begin.children.rows.now begin.children.text.now
    = λ f sp. c.begin_part-begin.ensures.found f (exact-children q.rows q.text sp) in
    let g = spelt e in
    let args : Siblings begin.children.rows.now begin.children.text.now = record { forest = begin_of g.forest; spells = (there g.forest g.spells).spells } in
    let mode = c.enter_mode-prev_mode.ensures in
    let prev = c.enter_env-prev.ensures in
    let y = entered_env v (with_mode Math k) in
    let inside : c.enter_env-prev.new.self ≡ y = prev.1 ∙ ap (entered_env v) (mode.1) in
    let before = dollar_begin k.mode ++ (w ++ left_paren) in
    let behind = right_paren ++ dollar_end k.mode in
    let good = walks-good y (looping (Named 0)) c.args.rules.some args (walks-from (looping (Named 0)) inside c.in_ok-each.ensures.walks) refl in
    λ rs ready f sp n h. agrees-as (math-is (there f sp) v w (meaning n) (context_of rs k) (carry_of k))
    (handed-by _ _ _ c.in_err-each-2.field-0.0 (λ z. after before (closing behind z)) (λ _ _. refl) (c.from_residual-in_err-each-2.ensures.1)
    (then-done (λ c'. each (meaning n (in_math v (context_of rs k))) 1 Inside f c') c.put_math_begin.new.out.few (agrees-shift (begin.row / 8) (walks-from (looping (Named 0)) inside c.in_ok-each.ensures.walks rs ready (begin_of f) (there f sp).spells n (omega (arith, (there f sp).fits, h)))) refl
    (agrees-in rs (λ x. each (meaning n x) 1 Inside f (carry_of c.each.new.c)) c.each.new.c good.placed_so (c.in_err-each-2.ensures.walks rs ready f sp n h))))

pub math-exit_env-requires : goal.math-exit_env-requires
math-exit_env-requires t c =
    let k = c.args.c.now in
    let e = c.args.e in
    let v = c.args.env in
    let w = c.args.name.now in
    let q = c.children.ensures in
    let begin = c.begin_part-begin.result in
    let there : (f : Forest) → SpellsAll f e.rows.now e.text.now → BeginFound f begin.row begin.children.rows.now begin.children.text.now
    = λ f sp. c.begin_part-begin.ensures.found f (exact-children q.rows q.text sp) in
    let g = spelt e in
    let args : Siblings begin.children.rows.now begin.children.text.now = record { forest = begin_of g.forest; spells = (there g.forest g.spells).spells } in
    let mode = c.enter_mode-prev_mode.ensures in
    let prev = c.enter_env-prev.ensures in
    let y = entered_env v (with_mode Math k) in
    let inside : c.enter_env-prev.new.self ≡ y = prev.1 ∙ ap (entered_env v) (mode.1) in
    let before = dollar_begin k.mode ++ (w ++ left_paren) in
    let behind = right_paren ++ dollar_end k.mode in
    let good = walks-good y (looping (Named 0)) c.args.rules.some args (walks-from (looping (Named 0)) inside c.in_ok-each.ensures.walks) refl in
    let last = walks-good c.each.new.c (looping Inside) c.args.rules.some g c.in_ok-each-2.ensures.walks refl in
    leaves c.each-2.new.c Math v k.indent (last.placed_so ∙ good.placed_so)

pub math-returns-clause-walks : goal.math-returns-clause-walks
math-returns-clause-walks t c =
    let k = c.args.c.now in
    let e = c.args.e in
    let v = c.args.env in
    let w = c.args.name.now in
    let q = c.children.ensures in
    let begin = c.begin_part-begin.result in
    let there : (f : Forest) → SpellsAll f e.rows.now e.text.now → BeginFound f begin.row begin.children.rows.now begin.children.text.now
    = λ f sp. c.begin_part-begin.ensures.found f (exact-children q.rows q.text sp) in
    let g = spelt e in
    let args : Siblings begin.children.rows.now begin.children.text.now = record { forest = begin_of g.forest; spells = (there g.forest g.spells).spells } in
    let mode = c.enter_mode-prev_mode.ensures in
    let prev = c.enter_env-prev.ensures in
    let y = entered_env v (with_mode Math k) in
    let inside : c.enter_env-prev.new.self ≡ y = prev.1 ∙ ap (entered_env v) (mode.1) in
    let before = dollar_begin k.mode ++ (w ++ left_paren) in
    let behind = right_paren ++ dollar_end k.mode in
    let good = walks-good y (looping (Named 0)) c.args.rules.some args (walks-from (looping (Named 0)) inside c.in_ok-each.ensures.walks) refl in
    let same : c.exit_mode.new.self.mode ≡ k.mode = ap (λ (d : Converter). d.mode) c.exit_mode.ensures ∙ mode.0 in
    λ rs ready f sp n h. agrees-as (math-is (there f sp) v w (meaning n) (context_of rs k) (carry_of k))
    (framed c.args.out.now.few c.put_math_begin.ensures.wrote c.put_math_begin.new.out.few
    (then-done (λ c'. each (meaning n (in_math v (context_of rs k))) 1 Inside f c') c.put_math_begin.new.out.few (agrees-shift (begin.row / 8) (walks-from (looping (Named 0)) inside c.in_ok-each.ensures.walks rs ready (begin_of f) (there f sp).spells n (omega (arith, (there f sp).fits, h)))) refl
    (agrees-in rs (λ x. each (meaning n x) 1 Inside f (carry_of c.each.new.c)) c.each.new.c good.placed_so (c.in_ok-each-2.ensures.walks rs ready f sp n h)))
    (wrote_as (ap (λ (m : LaTeXMode). right_paren ++ dollar_end m) same) c.put_math_end.ensures.wrote)
    (back-by (back-env (place_of (with_mode Math k)) v (prev.0 ∙ ap (λ (d : Converter). d.env) (mode.1)) c.exit_env.ensures)
    (back-mode (place_of k) Math (mode.0) c.exit_mode.ensures)))

-- ---- `turn`: what is written before a child, the child itself if it is converted, and what is written after

pub turn-returns-then-not-converts-clause-walks : goal.turn-returns-then-not-converts-clause-walks
turn-returns-then-not-converts-clause-walks t c =
    let k = c.args.c.now in
    let e = c.args.e in
    turned-passed k c.args.act c.args.out.now.few c.put_before.ensures.wrote (sym c.converts.ensures ∙ c.if-not-converts.true) c.requires.room.label

pub turn-returns-in_err-convert-clause-walks : goal.turn-returns-in_err-convert-clause-walks
turn-returns-in_err-convert-clause-walks t c =
    let k = c.args.c.now in
    let e = c.args.e in
    let o = c.args.out.now in
    λ rs ready t0 sp n h. told-as _ _ _ c.in_err-convert.field-0.0 (c.from_residual.ensures.1)
    (λ a. Agrees a (place_of k) e.row o.at o.buffer.now c.convert.new.out.buffer.now (shift 1 (turn (meaning n (context_of rs k)) c.args.act t0 (carry_of k))))
    (turned-refused k c.args.act o.few c.put_before.ensures.wrote {a = record { converter = c.convert.new.c; at = c.convert.new.out.at; refusal = refusal_number c.in_err-convert.field-0.0.reason; row = c.in_err-convert.field-0.0.row }} (sym c.converts.ensures ∙ c.if-not-converts.false) c.in_err-convert.ensures.walks
    (number-some c.in_err-convert.field-0.0.reason) refl refl rs ready t0 sp n h)

pub turn-returns-clause-walks : goal.turn-returns-clause-walks
turn-returns-clause-walks t c =
    let k = c.args.c.now in
    let e = c.args.e in
    turned k c.args.act c.args.out.now.few c.put_before.ensures.wrote (sym c.converts.ensures ∙ c.if-not-converts.false)
    c.put_before.new.out.few c.in_ok-convert.ensures.walks c.put_behind.ensures.wrote
