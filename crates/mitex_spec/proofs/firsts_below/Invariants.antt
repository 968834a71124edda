-- The invariant: so many names, at least, begin with a lower byte. One more does (`firsts-next`), or no more do (`firsts-stop`).
use mathlib.Core.Path.{◌≡◌}
use mathlib.Core.Option.Option.{some}
use mathlib.Core.List.{List}
use Prim.Native.Nat.{◌≤◌}
use Rattle.mitex_spec.specs.Rules.{Rule}
use Rattle.mitex_spec.specs.RuleFile.{rules_of}
use Rattle.mitex_spec.specs.Index.{firsts_below}
use Rattle.mitex_spec.proofs.firsts_below.Given as goal

abbrev pub invariant-loop-k : goal.invariant-loop-k
invariant-loop-k l = (rs : List Rule) → rules_of l.file ≡ some rs → l.k ≤ firsts_below l.b rs
