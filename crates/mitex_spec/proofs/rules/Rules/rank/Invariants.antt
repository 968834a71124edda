-- The invariant: the rank lies from low to high, as it does at first by the table (`rank_between`). A name that precedes brings low
-- above it (`rank-high`), another high down to it (`rank-low`).
use mathlib.Core.Path.{◌≡◌}
use mathlib.Core.Option.Option.{some}
use mathlib.Core.List.{List}
use Prim.Native.Nat.{ℕ, ◌-◌, ◌≤◌, ◌<◌}
use lib.ListN.{length}
use Rattle.mitex_spec.specs.Rules.{Rule}
use Rattle.mitex_spec.specs.RuleFile.{rules_of}
use Rattle.mitex_spec.specs.Index.{rank_of}
use Rattle.mitex_spec.proofs.rules.Rules.rank.Given as goal

abbrev pub RankBetween : List ℕ → List ℕ → ℕ → ℕ → Type 0
RankBetween file name low high = (rs : List Rule) → rules_of file ≡ some rs → (low ≤ rank_of rs name) × (rank_of rs name ≤ high) × (high ≤ length rs)

abbrev pub invariant-loop-low : goal.invariant-loop-low
invariant-loop-low l = (l.low ≤ l.high) × (l.high < 4294967296) × RankBetween l.self.file.now l.name l.low l.high

abbrev pub decreases-loop-low : goal.decreases-loop-low
decreases-loop-low l = l.high - l.low
