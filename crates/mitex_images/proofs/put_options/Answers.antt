-- `mitex_images::put_options` meets its contract: one option more, and all of them at the end.
use mathlib.Core.Path.{sym, ap, ◌∙◌}
use lib.Dec.{eqb}
use Rattle.std.proofs.Common.{rules, tests}
use Rattle.std.proofs.lemmas.Iterator.Consumers.{YieldsList-end}
use Rattle.std.proofs.lemmas.Iterator.Splits.{YieldsList-from_slice_split}
use Rattle.mitex_meaning.specs.Images.{options_text, comma_byte}
use Rattle.text.proofs.Outputs.{puts_nil, puts_then, puts_as}
use Rattle.mitex_images.proofs.Splitting.{cut-split, options-more}
use Rattle.mitex_images.proofs.put_options.Goals as goal

pub loop-option-init : goal.loop-option-init
unfolding options_text
loop-option-init c = puts_nil

pub loop-option-preserved : goal.loop-option-preserved
loop-option-preserved c =
    puts_as (sym (options-more c.loop-option.yielded c.in-Some.option)) (puts_then c.loop-option.invariant c.put_option.ensures)

pub returns : goal.returns
returns c =
    let s = c.args.s.now in
    let all =
    YieldsList-end (YieldsList-from_slice_split _ (λ x. eqb x comma_byte) s (cc) (cc) (cc) (λ x b q k. search (rules, tests)))
    c.loop-option.yielded _ c.loop-option.yielded_by c.next.result _ c.in-None.is c.next.ensures.steps in
    puts_as (ap options_text (all.0 ∙ cut-split comma_byte s)) c.loop-option.invariant
