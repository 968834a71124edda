use mathlib.Core.Path.{sym, ◌∙◌, ◌≡◌}
use mathlib.Core.List.{List}
use Prim.Native.Nat.{ℕ, ◌<◌}
use borrow.Author.Rules.{rules}
use lib.ListN.{length}
use lib.Seq.{length-take-le}
use Rattle.text.proofs.Writing.{part-rest}
use Rattle.utf8.specs.Chars.{char_len}
use Rattle.utf8.proofs.Chars.{FirstLen, char_len-first}
use Rattle.std.proofs.lemmas.Bool.Decides.{nat_tests}
use native.Mathlib.Omega.{arith}
use Rattle.utf8.proofs.Trimming.{left_less, trim_start-white, trim_start-done, trim_start-none}
use Rattle.utf8.proofs.trim_start.Goals as goal

first : (t : List ℕ) (n : ℕ) → n ≡ char_len t → 0 < length t → FirstLen t n
first t n e h = rw e (char_len-first t h)

pub slice_bounds-is_white-end : goal.slice_bounds-is_white-end
slice_bounds-is_white-end c = sym (length-take-le _ _ (first _ _ c.char_len-n.ensures (grind (arith, nat_tests))).within)

pub returns-then-not-is_white : goal.returns-then-not-is_white
returns-then-not-is_white c =
    trim_start-done _ _ (first _ _ c.char_len-n.ensures (grind (arith, nat_tests))) (sym c.is_white.ensures ∙ c.if-not-is_white.true) ∙ c.loop-n.invariant

pub slice_bounds-t-count : goal.slice_bounds-t-count
slice_bounds-t-count c = (first _ _ c.char_len-n.ensures (grind (arith, nat_tests))).within

pub slice_bounds-t-start : goal.slice_bounds-t-start
slice_bounds-t-start c = let f = first _ _ c.char_len-n.ensures (grind (arith, nat_tests)) in search rules

pub loop-n-smaller : goal.loop-n-smaller
loop-n-smaller c =
    let f = first _ _ c.char_len-n.ensures (grind (arith, nat_tests)) in
    left_less _ _ f.some f.within

pub loop-n-preserved : goal.loop-n-preserved
loop-n-preserved c =
    rw part-rest
    (trim_start-white _ _ (first _ _ c.char_len-n.ensures (grind (arith, nat_tests))) (sym c.is_white.ensures ∙ c.if-not-is_white.false) ∙ c.loop-n.invariant)

pub returns : goal.returns
returns c = trim_start-none _ (grind (arith, nat_tests)) ∙ c.loop-n.invariant
