-- By whether the label is written at once, and then by the mode, or by the length of the label.
use mathlib.Core.Path.{refl, sym, ap, ◌∙◌}
use lib.ListN.{length, drop}
use borrow.Author.Tests.{leb-true}
use denote.Enum.Bare.{same_true, same_false}
use Rattle.std.proofs.Common.{rules}
use Rattle.refusals.specs.Refusals.{refusal_of}
use Rattle.text.proofs.Writing.{wrote-nil}
use Rattle.mitex_syntax.proofs.Trees.{all-begins}
use Rattle.mitex_meaning.specs.State.{carry_of, with_label}
use Rattle.mitex_meaning.specs.Contract.{went_with}
use Rattle.mitex_meaning.specs.Contract.Agrees.{accepts}
use Rattle.mitex_meaning.specs.declared.Converter.{Converter}
use Rattle.mitex_meaning.specs.contracts.LaTeXMode.{the_type}
use Rattle.mitex_meaning.proofs.Agreeing.{agrees-as, agrees-done, agrees-halts}
use Rattle.mitex_commands.proofs.Items.{label-is, label-stored, now-text, now-math}
use Rattle.mitex_commands.proofs.convert_command_label.Goals as goal

pub returns-then-eq-clause-agrees : goal.returns-then-eq-clause-agrees
returns-then-eq-clause-agrees c =
    let d = c.args.c.now in
    let s = c.label_text-s.result.now in
    λ f sp.
    agrees-as
    (label-is d.env d.mode (carry_of d) (c.label_text-s.ensures f (all-begins sp)) c.writes_now.ensures c.if-writes_now.true
    ∙ now-text s (carry_of d) d.mode (same_true the_type (search rules) _ _ (sym c.eq.ensures ∙ c.if-eq.true)))
    (accepts refl refl refl c.requires c.put_label.ensures.wrote)

pub returns-else-eq-clause-agrees : goal.returns-else-eq-clause-agrees
returns-else-eq-clause-agrees c =
    let d = c.args.c.now in
    let s = c.label_text-s.result.now in
    λ f sp.
    agrees-as
    (label-is d.env d.mode (carry_of d) (c.label_text-s.ensures f (all-begins sp)) c.writes_now.ensures c.if-writes_now.true
    ∙ now-math s (carry_of d) d.mode (same_false the_type _ _ (sym c.eq.ensures ∙ c.if-eq.false)))
    (accepts refl refl refl c.requires (wrote-nil _ _ c.args.out.now.near))

pub returns-then-not-is_short-clause-agrees : goal.returns-then-not-is_short-clause-agrees
returns-then-not-is_short-clause-agrees c =
    let d = c.args.c.now in
    let s = c.label_text-s.result.now in
    λ f sp.
    agrees-as (label-is d.env d.mode (carry_of d) (c.label_text-s.ensures f (all-begins sp)) c.writes_now.ensures c.if-writes_now.false)
    (rw (sym c.is_short.ensures ∙ c.if-not-is_short.true) (agrees-halts (refusal_of 14 c.args.row) refl refl))

pub returns-clause-agrees : goal.returns-clause-agrees
returns-clause-agrees c =
    let d = c.args.c.now in
    let s = c.label_text-s.result.now in
    λ f sp.
    agrees-as (label-is d.env d.mode (carry_of d) (c.label_text-s.ensures f (all-begins sp)) c.writes_now.ensures c.if-writes_now.false)
    (rw (sym c.is_short.ensures ∙ c.if-not-is_short.false)
    (agrees-done (with_label s d) (ap (λ (x : Converter). went_with x c.args.out.now.at) c.with_label.ensures) refl
    (label-stored s (drop (length s) d.label) (carry_of d) refl) (leb-true _ _ (sym c.is_short.ensures ∙ c.if-not-is_short.false)) (wrote-nil _ _ c.args.out.now.near)))
