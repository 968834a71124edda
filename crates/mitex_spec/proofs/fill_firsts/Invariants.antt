-- The invariant is `Tabled`: what is to be stored from 0 on is what stands and what is to be stored from b on. The offsets stand
-- before the table, so that names can be read all along.
use mathlib.Core.Path.{◌≡◌}
use mathlib.Core.Option.Option.{some}
use mathlib.Core.List.{List}
use Rattle.mitex_spec.specs.Rules.{Rule}
use Rattle.mitex_spec.specs.RuleFile.{rules_of}
use Rattle.mitex_spec.proofs.Firsts.{Tabled}
use Rattle.mitex_spec.proofs.fill_firsts.Given as goal

abbrev pub invariant-loop-b : goal.invariant-loop-b
invariant-loop-b l = (rs : List Rule) → rules_of l.file ≡ some rs → Tabled rs l.initial.index l.index l.b l.k
