-- Bytes put into the middle of a buffer, and the bytes of a row's number.
use mathlib.Core.Path.{◌≡◌, sym, ap, ◌∙◌}
use mathlib.Core.List.{List, ◌++◌, append_assoc}
use Prim.Native.Nat.{ℕ, ◌+◌, ◌-◌, ◌≤◌}
use native.Mathlib.Omega.{arith}
use lib.ListN.{length, take, drop}
use lib.Seq.{sets, sets-eq}
use borrow.Rule.Slice.PartMut.{put_mid, Post-is}

-- what is copied over a part of a buffer is stored there
pub put-part : {A : Type 0} (b s : List A) (i : ℕ) → i + length s ≤ length b → put_mid i (i + length s - i) b s ≡ sets b i s
put-part b s i h =
    ap (λ x. take i b ++ (s ++ x)) (Post-is i (i + length s) b (omega arith))
    ∙ sym (append_assoc (take i b) s (drop (i + length s) b))
    ∙ sym (sets-eq s b i h)
