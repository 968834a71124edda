use mathlib.Core.Path.{◌≡◌, sym, ap, ◌∙◌}
use mathlib.Core.Bool.{Bool}
use mathlib.Core.List.{List}
use Prim.Native.Nat.{ℕ, ◌-◌}
use lib.ListN.{length, take, drop}
use Rattle.text.proofs.Writing.{part-rest}
use Rattle.utf8.specs.Chars.{is_white}
use Rattle.std.proofs.lemmas.Bool.Decides.{nat_tests}
use native.Mathlib.Omega.{arith}
use Rattle.utf8.proofs.Trimming.{trim_end-white, trim_end-done, trim_end-none}
use Rattle.utf8.proofs.trim_end.Goals as goal

-- the part that is tested is the last character
tested : (t : List ℕ) (k : ℕ) (r : Bool) → r ≡ is_white (take (length t - k) (drop k t)) → is_white (drop k t) ≡ r
tested t k r e = ap is_white (sym (part-rest t k)) ∙ sym e

pub returns-then-not-is_white : goal.returns-then-not-is_white
returns-then-not-is_white c =
    trim_end-done _ _ c.last_at-k.ensures (tested c.loop-k.t.now c.last_at-k.result _ c.is_white.ensures ∙ c.if-not-is_white.true)
    ∙ c.loop-k.invariant

pub loop-k-preserved : goal.loop-k-preserved
loop-k-preserved c =
    trim_end-white _ _ c.last_at-k.ensures (tested c.loop-k.t.now c.last_at-k.result _ c.is_white.ensures ∙ c.if-not-is_white.false)
    ∙ c.loop-k.invariant

pub returns : goal.returns
returns c = trim_end-none _ (grind (arith, nat_tests)) ∙ c.loop-k.invariant
