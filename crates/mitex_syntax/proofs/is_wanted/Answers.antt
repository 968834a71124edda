-- `is_wanted`: each wish is its test (`is_wanted`).
use mathlib.Core.Path.{sym, ap, ◌∙◌}
use native.Mathlib.Omega.{arith}
use Rattle.mitex_syntax.specs.Places.{is_wanted}
use Rattle.mitex_syntax.specs.declared.Wanted.{Wanted}
use Rattle.mitex_syntax.proofs.Seeking.{element-eight, wanted-kind, wanted-any-other}
use Rattle.mitex_syntax.proofs.is_wanted.Goals as goal

pub bounds-rows-0 : goal.bounds-rows-0
bounds-rows-0 c = omega (arith, element-eight c.requires.tree _ c.requires.rows_are)

pub bounds-rows-0-in-Other : goal.bounds-rows-0-in-Other
bounds-rows-0-in-Other c = omega (arith, element-eight c.requires.tree _ c.requires.rows_are)

pub returns-in-Kind : goal.returns-in-Kind
returns-in-Kind c = λ t e. wanted-kind t _ e _ ∙ ap (λ (w : Wanted). is_wanted w t) (sym c.in-Kind.is)

pub returns-in-Other : goal.returns-in-Other
returns-in-Other c = λ t e. wanted-any-other t _ e _ ∙ ap (λ (w : Wanted). is_wanted w t) (sym c.in-Other.is)
