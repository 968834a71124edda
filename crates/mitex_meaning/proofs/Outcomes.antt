-- How outcomes compose: texts before and after, one outcome after another, and rows counted from further up. Each law goes by
-- the two cases of an outcome.
use mathlib.Core.Path.{◌≡◌, refl, sym, ap}
use mathlib.Core.List.{List, [], ◌++◌, append_assoc, append-nil}
use Prim.Native.Nat.{ℕ, ◌+◌}
use native.Mathlib.Nat.{add_assoc, zero-add}
use Rattle.mitex_meaning.specs.Outcome.{Carry, Outcome, after, and_then, closing, shift}
use Rattle.mitex_meaning.specs.Outcome.Outcome.{refused, done}

-- ---- a text before

pub after-nil : (p : Outcome) → after [] p ≡ p
after-nil (refused n r) = refl
after-nil (done c v) = refl

pub after-after : (w v : List ℕ) (p : Outcome) → after w (after v p) ≡ after (w ++ v) p
after-after w v (refused n r) = refl
after-after w v (done c u) = rw append_assoc

-- ---- one after another

pub and_then-done : (p : Outcome) → and_then p (λ c. done c []) ≡ p
and_then-done (refused n r) = refl
and_then-done (done c w) = rw append-nil

-- two ways to go on that agree
pub and_then-same : (p : Outcome) (k l : Carry → Outcome) → ((c : Carry) → k c ≡ l c) → and_then p k ≡ and_then p l
and_then-same (refused n r) k l e = refl
and_then-same (done c w) k l e = ap (after w) (e c)

pub and_then-after : (w : List ℕ) (p : Outcome) (k : Carry → Outcome) → and_then (after w p) k ≡ after w (and_then p k)
and_then-after w (refused n r) k = refl
and_then-after w (done c v) k = sym (after-after w v (k c))

pub and_then-and_then : (p : Outcome) (k l : Carry → Outcome) → and_then (and_then p k) l ≡ and_then p (λ c. and_then (k c) l)
and_then-and_then (refused n r) k l = refl
and_then-and_then (done c w) k l = and_then-after w (k c) l

-- ---- a text after

pub closing-nil : (p : Outcome) → closing [] p ≡ p
closing-nil (refused n r) = refl
closing-nil (done c v) = rw append-nil

pub closing_after : (w v : List ℕ) (p : Outcome) → closing w (after v p) ≡ after v (closing w p)
closing_after w v (refused n r) = refl
closing_after w v (done c u) = rw append_assoc

pub closing-and_then : (w : List ℕ) (p : Outcome) (k : Carry → Outcome) → closing w (and_then p k) ≡ and_then p (λ c. closing w (k c))
closing-and_then w (refused n r) k = refl
closing-and_then w (done c v) k = closing_after w v (k c)

pub and_then-closing : (w : List ℕ) (p : Outcome) (k : Carry → Outcome) → and_then (closing w p) k ≡ and_then p (λ c. after w (k c))
and_then-closing w (refused n r) k = refl
and_then-closing w (done c v) k = rw after-after

-- ---- rows

pub shift_zero : (p : Outcome) → shift 0 p ≡ p
shift_zero (refused n r) = rw zero-add
shift_zero (done c w) = refl

pub shift-shift : (a b : ℕ) (p : Outcome) → shift a (shift b p) ≡ shift (a + b) p
shift-shift a b (refused n r) = rw add_assoc
shift-shift a b (done c w) = refl

pub shift-after : (o : ℕ) (w : List ℕ) (p : Outcome) → shift o (after w p) ≡ after w (shift o p)
shift-after o w (refused n r) = refl
shift-after o w (done c v) = refl

pub shift-closing : (o : ℕ) (w : List ℕ) (p : Outcome) → shift o (closing w p) ≡ closing w (shift o p)
shift-closing o w (refused n r) = refl
shift-closing o w (done c v) = refl
