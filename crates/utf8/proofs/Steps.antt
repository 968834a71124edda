-- The byte-by-byte test over two texts, over one byte more, and at the end.
use mathlib.Core.Path.{◌≡◌, refl}
use mathlib.Core.List.{List, [], ◌∷◌, ◌++◌}
use Prim.Native.Nat.{ℕ, ◌+◌, ◌≤◌, ◌<◌}
use native.Mathlib.Numerals.{add-one}
use lib.ListN.{length, drop, get_or, drop_of_length-le}
use lib.Seq.{drop-cons}
use Rattle.utf8.specs.declared.State.{State}
use Rattle.utf8.specs.Utf8.{char_step, char_steps}

pub steps-append : (u : State) (a b : List ℕ) → char_steps u (a ++ b) ≡ char_steps (char_steps u a) b
unfolding char_steps
steps-append u [] b = refl
steps-append u (x ∷ a) b = steps-append (char_step u x) a b

pub steps-cons : (u : State) (s : List ℕ) (i : ℕ) → i < length s → char_steps u (drop i s) ≡ char_steps (char_step u (get_or s i 0)) (drop (i + 1) s)
unfolding char_steps
steps-cons u s i h = rw (drop-cons s i 0, add-one)

pub steps-end : (u : State) (s : List ℕ) (i : ℕ) → length s ≤ i → char_steps u (drop i s) ≡ u
unfolding char_steps
steps-end u s i h = rw (drop_of_length-le s h)
