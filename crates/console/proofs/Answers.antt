-- The line of an answer: what is written in parts is the line, and it has room in the buffer, since a number has at most 20 digits.
use mathlib.Core.Path.{◌≡◌, sym}
use mathlib.Core.List.{List, [], ◌∷◌, ◌++◌, append_assoc}
use Prim.Native.Nat.{ℕ, zero, suc, ◌+◌, ◌-◌, ◌/◌, ◌%◌, ◌≤◌, ◌<◌}
use native.Mathlib.Omega.{arith}
use lib.Dec.{leb, ltb}
use borrow.Author.Tests.{le-leb, lt-leb}
use lib.ListN.{length, length-append}
use lib.Seq.{length-take-le}
use Rattle.console.specs.Counts.{IsPrefixLen}
use Rattle.text.specs.Ascii.{ascii}
use Rattle.text.specs.Writing.{cap, Wrote, digits, decimal}
use Rattle.text.proofs.Compare.{by-test}
use Rattle.text.proofs.Writing.{wrote_as, wrote_then, wrote-long}
use Rattle.console.specs.Answers.{answer_most, difference, refusal_line, edited_line}

-- ---- its parts

pub five-parts : (a b c d e : List ℕ) → (((a ++ b) ++ c) ++ d) ++ e ≡ a ++ (b ++ (c ++ (d ++ e)))
five-parts a b c d e = simp append_assoc

pub seven-parts :
    (a b c d e f g : List ℕ) → (((((a ++ b) ++ c) ++ d) ++ e) ++ f) ++ g ≡ a ++ (b ++ (c ++ (d ++ (e ++ (f ++ g)))))
seven-parts a b c d e f g = simp append_assoc

pub difference-up : {a b : ℕ} → b ≤ a → decimal (a - b) ≡ difference a b
difference-up {a} {b} h = simp (le-leb b a h)

pub difference-down : {a b : ℕ} → a < b → ascii "-" ++ decimal (b - a) ≡ difference a b
difference-down {a} {b} h = simp (lt-leb b a h)

-- ---- its length

digits-most : (most n : ℕ) → length (digits most n) ≤ most
unfolding digits
digits-most zero n = omega arith
digits-most (suc most) n =
    by-test (ltb n 10) (λ t. rw t (omega arith))
    (λ t.
    let h = digits-most most (n / 10) in rw t (omega (arith, length-append (digits most (n / 10)) ((48 + n % 10) ∷ []))))

difference-most : (a b : ℕ) → length (difference a b) ≤ 21
difference-most a b =
    by-test (leb b a) (λ t. rw t (omega (arith, digits-most 20 (a - b)))) (λ t. rw t (omega (arith, digits-most 20 (b - a))))

pub refusal-most : (number row : ℕ) → length (refusal_line number row) ≤ answer_most
refusal-most number row =
    let n = digits-most 20 number in
    let r = digits-most 20 row in
    simp length-append (omega arith)

pub edited-most : (size kept count : ℕ) → length (edited_line size kept count) ≤ answer_most
edited-most size kept count =
    let l = digits-most 20 size in
    let d = difference-most size kept in
    let n = digits-most 20 count in
    simp length-append (omega arith)

-- the line has room, so it was written whole
pub line-written :
    {out w line : List ℕ} {r : ℕ} {out' : List ℕ} → length out ≡ answer_most → w ≡ line → length line ≤ answer_most → Wrote 0 out w r out'
    → Wrote 0 out line r out' × IsPrefixLen r out'
line-written {out} {w} {line} {r} {out'} l e h p =
    let q = wrote_as e p in
    let n = q.next in
    let long = wrote-long q in
    let fits : r ≤ length out' = omega arith in (q, (fits, sym (length-take-le r out' fits)))

-- seven parts, one after the other
pub edited-written :
    (size kept count : ℕ) {out₀ out₁ out₂ out₃ out₄ out₅ out₆ out₇ : List ℕ} {a b c d e f r : ℕ} → length out₀ ≡ answer_most
    → Wrote 0 out₀ (ascii "ok ") a out₁ → Wrote a out₁ (decimal size) b out₂ → Wrote b out₂ (ascii " ") c out₃
    → Wrote c out₃ (difference size kept) d out₄ → Wrote d out₄ (ascii " ") e out₅ → Wrote e out₅ (decimal count) f out₆
    → Wrote f out₆ (ascii "\n") r out₇ → Wrote 0 out₀ (edited_line size kept count) r out₇ × IsPrefixLen r out₇
edited-written size kept count {out₀} l w₁ w₂ w₃ w₄ w₅ w₆ w₇ =
    let h : length out₀ ≤ cap = omega arith in
    line-written l
    (seven-parts (ascii "ok ") (decimal size) (ascii " ") (difference size kept) (ascii " ") (decimal count) (ascii "\n"))
    (edited-most size kept count)
    (wrote_then h (wrote_then h (wrote_then h (wrote_then h (wrote_then h (wrote_then h w₁ w₂) w₃) w₄) w₅) w₆) w₇)

-- five parts, one after the other
pub refusal-written :
    (number row : ℕ) {out₀ out₁ out₂ out₃ out₄ out₅ : List ℕ} {a b c d r : ℕ} → length out₀ ≡ answer_most
    → Wrote 0 out₀ (ascii "refused ") a out₁ → Wrote a out₁ (decimal number) b out₂ → Wrote b out₂ (ascii " at ") c out₃
    → Wrote c out₃ (decimal row) d out₄ → Wrote d out₄ (ascii "\n") r out₅
    → Wrote 0 out₀ (refusal_line number row) r out₅ × IsPrefixLen r out₅
refusal-written number row {out₀} l w₁ w₂ w₃ w₄ w₅ =
    let h : length out₀ ≤ cap = omega arith in
    line-written l
    (five-parts (ascii "refused ") (decimal number) (ascii " at ") (decimal row) (ascii "\n"))
    (refusal-most number row)
    (wrote_then h (wrote_then h (wrote_then h (wrote_then h w₁ w₂) w₃) w₄) w₅)
