use mathlib.Core.Path.{◌≡◌, sym, ◌∙◌}
use mathlib.Core.List.{List}
use Prim.Native.Nat.{ℕ, ◌<◌}
use native.Mathlib.Omega.{arith}
use lib.ListN.{length}
use lib.Seq.{length-take-le}
use Rattle.utf8.specs.Chars.{char_len}
use Rattle.text.proofs.Writing.{part-rest}
use Rattle.mitex_tokens.proofs.Spacing.{is-none, is-some, spaced-start, spaced-all, spaced-more}
use Rattle.utf8.proofs.Chars.{FirstLen, char_len-first}
use Rattle.utf8.proofs.Trimming.{left_less}
use Rattle.mitex_tokens.proofs.put_spaced.Goals as goal

-- the first character left
first : {t : List ℕ} {n : ℕ} → n ≡ char_len t → 0 < length t → FirstLen t n
first {t} e h = rw e (char_len-first t h)

pub slice_bounds-put-end : goal.slice_bounds-put-end
slice_bounds-put-end c = sym (length-take-le _ _ (first c.char_len-n.ensures (is-some (sym c.is_empty.ensures ∙ c.loop-t-test.true))).within)

pub slice_bounds-t-count : goal.slice_bounds-t-count
slice_bounds-t-count c =
    let f = first c.char_len-n.ensures (is-some (sym c.is_empty.ensures ∙ c.loop-t-test.true)) in omega arith

pub slice_bounds-t-start : goal.slice_bounds-t-start
slice_bounds-t-start c =
    let f = first c.char_len-n.ensures (is-some (sym c.is_empty.ensures ∙ c.loop-t-test.true)) in omega arith

pub loop-t-smaller : goal.loop-t-smaller
loop-t-smaller c =
    let f = first c.char_len-n.ensures (is-some (sym c.is_empty.ensures ∙ c.loop-t-test.true)) in left_less c.loop-t.t.now _ (omega arith) (omega arith)

pub loop-t-preserved : goal.loop-t-preserved
loop-t-preserved c =
    rw part-rest (spaced-more c.loop-t.invariant (is-some (sym c.is_empty.ensures ∙ c.loop-t-test.true)) c.char_len-n.ensures c.put.ensures c.put_byte.ensures)

pub returns : goal.returns
returns c = spaced-all c.loop-t.invariant (is-none (sym c.is_empty.ensures ∙ c.loop-t-test.false))

pub loop-t-init : goal.loop-t-init
loop-t-init c = spaced-start _ _
