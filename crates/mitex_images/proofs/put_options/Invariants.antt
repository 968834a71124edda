-- The invariant: the options that came so far are written.
use mathlib.Core.List.{map}
use Rattle.text.specs.Outputs.{Puts}
use Rattle.mitex_meaning.specs.Images.{options_text}
use Rattle.mitex_images.proofs.put_options.Given as goal

abbrev pub invariant-loop-option : goal.invariant-loop-option
invariant-loop-option l = Puts l.initial.out (options_text (map (λ x. x.now) l.yielded)) l.out
