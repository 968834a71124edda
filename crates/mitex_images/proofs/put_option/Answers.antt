-- `mitex_images::put_option` meets its contract: the first three parts say what the option is (`option-says`).
use mathlib.Core.Path.{◌≡◌, refl, ap, ◌∙◌}
use lib.Dec.{eqb}
use Rattle.std.proofs.Common.{rules, tests}
use Rattle.std.proofs.lemmas.Iterator.Splits.{YieldsList-from_slice_split}
use Rattle.utf8.specs.Trim.{trim}
use Rattle.mitex_meaning.specs.Images.{equals_byte, key_text}
use Rattle.text.proofs.Outputs.{puts_as}
use Rattle.mitex_images.proofs.Splitting.{picked, first_or_none, unwrapped, option-says}
use Rattle.mitex_images.proofs.put_option.Goals as goal
use native.Mathlib.Omega.{arith}

pub returns : goal.returns
returns c =
    let s = c.trim.result.now in
    let key : c.unwrap_or-key.result.now ≡ first_or_none c.next.result = unwrapped c.next.result _ _ c.unwrap_or-key.ensures refl in
    let value : c.match-next.value.now ≡ picked c.next-2.result c.next-3.result = grind arith in
    let says =
    option-says _ c.args.option.now s c.next.result c.next-2.result c.next-3.result c.trim.ensures
    (YieldsList-from_slice_split _ (λ x. eqb x equals_byte) s c.split-parts.ensures.rest c.split-parts.ensures.done c.split-parts.ensures.closure
    (λ x b q k. search (rules, tests)))
    c.next.ensures.steps c.next-2.ensures.steps c.next-3.ensures.steps in
    puts_as
    (ap (λ k. key_text k c.trim-3.result.now) (c.trim-2.ensures ∙ ap trim key)
    ∙ ap (key_text (trim (first_or_none c.next.result))) (c.trim-3.ensures ∙ ap trim value)
    ∙ says)
    c.put_key.ensures
