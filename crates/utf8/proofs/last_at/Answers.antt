-- The last byte that continues no character is where the last begins (`last-found`).
use mathlib.Core.Path.{◌≡◌}
use mathlib.Core.Bool.{false}
use Prim.Native.Nat.{◌+◌, ◌<◌}
use lib.ListN.{length, get_or}
use Rattle.std.proofs.Common.{rules, subst, sym}
use Rattle.std.specs.Option.{MatchOption}
use Rattle.utf8.specs.Chars.{continues, LastAt}
use Rattle.utf8.proofs.Chars.{ContinuesFrom, last-found}
use Rattle.utf8.proofs.last_at.Goals as goal

pub returns : goal.returns
returns c =
    let s = c.args.s.now in
    let found : MatchOption c.rposition.result (ContinuesFrom s 0) (λ i. (i < length s) × (continues (get_or s i 0) ≡ false) × ContinuesFrom s (i + 1)) =
    search rules in
    subst (LastAt s) (sym c.unwrap_or.ensures) (last-found s c.rposition.result c.requires found)
