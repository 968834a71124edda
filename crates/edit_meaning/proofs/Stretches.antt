-- What a change writes where the buffers hold some pieces, ps, which its stretches turn into others, ns (`Spliced`): the text and the
-- rows of ns, and after them zeros and what stood there (`exchange-spliced`). By recursion over the stretches: after each stands a
-- kept part, whose text and rows are found at their old places and moved to the new ones (`between-part`, `rows-part`).
use mathlib.Core.Path.{◌≡◌, refl, sym, ap, ap₂, ◌∙◌}
use mathlib.Core.Bool.{cond}
use mathlib.Core.List.{List, [], ◌∷◌, ◌++◌, append_assoc, append-nil}
use Prim.Native.Nat.{ℕ, ◌+◌, ◌*◌, ◌-◌, ◌≤◌}
use native.Mathlib.Nat.{add-zero, zero-add}
use native.Mathlib.Omega.{arith}
use lib.IntN.{pos, ◌-ℤ◌}
use lib.ListN.{length, take, drop, length-append, length-drop, length-replicate}
use lib.Seq.{take-append_seam, take_at, drop_at}
use Rattle.mitex_meaning.specs.Parts.{between}
use Rattle.ledger.specs.Ledger.{row_size, encode_rows, move_rows, Piece, written, rows_from}
use Rattle.ledger.proofs.Rows.{AllEncodable, encodable-left, encodable-right, encode_rows-length, rows_from-length}
use Rattle.ledger.proofs.Rows.{written-append, rows_from-append, move_rows-encode}
use Rattle.edit_meaning.specs.Edit.{unchanged, room}
use Rattle.edit_meaning.specs.Edit.Answer.{edited}
use Rattle.edit_meaning.specs.Changes.{Stretch, block_after, come_count, gone_count, text_from, text_over, ledger_from, ledger_over, front_over, exchange}
use Rattle.edit_meaning.proofs.Reading.{end-of, between-part}

-- ---- the rows of a kept part, a, after the pieces x

module _ (x a y : List Piece) where
  rows-part :
      AllEncodable (rows_from 0 (x ++ (a ++ y))) → (now : ℕ) (l : List ℕ)
      → move_rows (length a) (length (written x)) now (drop (row_size * length x) (encode_rows (rows_from 0 (x ++ (a ++ y))) ++ l))
      ≡ encode_rows (rows_from now a)
  rows-part ok now l =
      let o : ℕ = length (written x) in
      let more : List ℕ = encode_rows (rows_from (o + length (written a)) y) ++ l in
      let e : encode_rows (rows_from 0 (x ++ (a ++ y))) ++ l ≡ encode_rows (rows_from 0 x) ++ (encode_rows (rows_from o a) ++ more)
      = rw (rows_from-append 0 x (a ++ y), zero-add, rows_from-append o a y) (simp append_assoc) in
      let n : length (encode_rows (rows_from 0 x)) ≡ row_size * length x
      = encode_rows-length (encodable-left 0 x (a ++ y) ok) ∙ ap (λ i. row_size * i) (rows_from-length 0 x) in
      let ok_a : AllEncodable (rows_from (o + 0) a)
      = rw add-zero (encodable-left o a y (rw zero-add at (encodable-right 0 x (a ++ y) ok))) in
      rw (e, drop_at (encode_rows (rows_from 0 x)) (encode_rows (rows_from o a) ++ more) (row_size * length x) n)
      (rw (add-zero o, add-zero now) at (move_rows-encode o now 0 a ok_a more))

-- ---- pieces whose stretches are exchanged

-- the kept pieces ps, the first of them with number i, become ns
pub data Spliced : ℕ → List Piece → List Stretch → List Piece → Type 0 where
  as_kept : {i : ℕ} {ps ns : List Piece} → ps ≡ ns → Spliced i ps [] ns
  at_stretch :
      {i : ℕ} {ps ns : List Piece} {s : Stretch} {ss : List Stretch} (a m z z' : List Piece) → s.block ≡ i + length a → s.gone ≡ length m
      → ps ≡ a ++ (m ++ z) → ns ≡ a ++ (s.come ++ z') → Spliced (block_after s) z ss z' → Spliced i ps (s ∷ ss) ns

spliced-count : {i : ℕ} {ps ns : List Piece} {ss : List Stretch} → Spliced i ps ss ns → length ps + come_count ss ≡ length ns + gone_count ss
spliced-count (as_kept e) = ap (λ ps. length ps + 0) e
spliced-count (at_stretch {s = s} {ss} a m z z' b g p n sp) =
    rw (p, n, g) (simp length-append (omega (arith, spliced-count sp)))

module _ (whole : List Piece) (rest l : List ℕ) where
  -- the new text from a stretch on: z are the kept pieces after it
  text-from :
      {i : ℕ} {z z' : List Piece} {ss : List Stretch} → Spliced i z ss z' → (s : Stretch) (x : List Piece) → block_after s ≡ i → length x ≡ i
      → whole ≡ x ++ z
      → text_from (length (written whole)) (rows_from 0 whole) s ss (written whole ++ rest) ≡ written s.come ++ written z'
  text-from (as_kept {ps = z} e) s x b n w =
      let q : between (length (written x)) (length (written whole)) (written whole ++ rest) ≡ written z
      = rw w (rw append-nil at (between-part x z [] rest)) in
      rw (end-of whole x z (block_after s) w (n ∙ sym b), q, e)
  text-from (at_stretch {s = s₂} {ss} a m z z' b₂ g p e sp) s x b n w =
      let w₁ : whole ≡ x ++ (a ++ (m ++ z)) = w ∙ ap (λ y. x ++ y) p in
      let w₂ : whole ≡ (x ++ a) ++ (m ++ z) = w₁ ∙ sym (append_assoc x a (m ++ z)) in
      let w₃ : whole ≡ ((x ++ a) ++ m) ++ z = w₂ ∙ sym (append_assoc (x ++ a) m z) in
      let n₂ : length (x ++ a) ≡ s₂.block = length-append x a ∙ ap (λ j. j + length a) n ∙ sym b₂ in
      let n₃ : length ((x ++ a) ++ m) ≡ block_after s₂ = length-append (x ++ a) m ∙ ap₂ (λ j k. j + k) n₂ (sym g) in
      let q : between (length (written x)) (length (written (x ++ a))) (written whole ++ rest) ≡ written a
      = rw w₁ (between-part x a (m ++ z) rest) in
      rw (
        end-of whole x _ (block_after s) w (n ∙ sym b),
        end-of whole (x ++ a) (m ++ z) s₂.block w₂ n₂,
        q,
        text-from sp s₂ ((x ++ a) ++ m) refl n₃ w₃,
        e,
        written-append a (s₂.come ++ z'),
        written-append s₂.come z',
      )
      (append_assoc (written s.come) (written a) (written s₂.come ++ written z'))

  text-over :
      {ss : List Stretch} {ns : List Piece} → Spliced 0 whole ss ns
      → text_over (length (written whole)) (rows_from 0 whole) ss (written whole ++ rest) ≡ written ns
  text-over (as_kept e) = take-append_seam (written whole) rest ∙ ap written e
  text-over (at_stretch {s = s} {ss} a m z z' b g p e sp) =
      let w : whole ≡ (a ++ m) ++ z = p ∙ sym (append_assoc a m z) in
      let n : length a ≡ s.block = sym (b ∙ zero-add (length a)) in
      let n₂ : length (a ++ m) ≡ block_after s = length-append a m ∙ ap₂ (λ j k. j + k) n (sym g) in
      let f : take (length (written a)) (written whole ++ rest) ≡ written a
      = rw (p, written-append a (m ++ z), append_assoc (written a)) (take-append_seam (written a) (written (m ++ z) ++ rest)) in
      rw (
        end-of whole a (m ++ z) s.block p n,
        f,
        text-from sp s (a ++ m) refl n₂ w,
        e,
        written-append a (s.come ++ z'),
        written-append s.come z',
      )

  -- the new rows from a stretch on, whose text begins at `at`
  module _ (ok : AllEncodable (rows_from 0 whole)) where
    ledger-from :
        {i : ℕ} {z z' : List Piece} {ss : List Stretch} → Spliced i z ss z' → (s : Stretch) (x : List Piece) → block_after s ≡ i → length x ≡ i
        → whole ≡ x ++ z → (at : ℕ)
        → ledger_from (length whole) (rows_from 0 whole) at s ss (encode_rows (rows_from 0 whole) ++ l)
        ≡ encode_rows (rows_from at s.come) ++ encode_rows (rows_from (at + length (written s.come)) z')
    ledger-from (as_kept {ps = z} e) s x b n w at =
        let n₁ : block_after s ≡ length x = b ∙ sym n in
        let k : length whole - length x ≡ length z = rw (w, length-append) (omega arith) in
        let now : ℕ = at + length (written s.come) in
        let q : move_rows (length z) (length (written x)) now (drop (row_size * length x) (encode_rows (rows_from 0 whole) ++ l))
        ≡ encode_rows (rows_from now z)
        = rw w (rw append-nil at (rows-part x z [] (rw (append-nil, ← w) ok) now l)) in
        rw (end-of whole x z (block_after s) w (n ∙ sym b), n₁, k, q, e)
    ledger-from (at_stretch {s = s₂} {ss} a m z z' b₂ g p e sp) s x b n w at =
        let w₁ : whole ≡ x ++ (a ++ (m ++ z)) = w ∙ ap (λ y. x ++ y) p in
        let w₂ : whole ≡ (x ++ a) ++ (m ++ z) = w₁ ∙ sym (append_assoc x a (m ++ z)) in
        let w₃ : whole ≡ ((x ++ a) ++ m) ++ z = w₂ ∙ sym (append_assoc (x ++ a) m z) in
        let n₁ : block_after s ≡ length x = b ∙ sym n in
        let n₂ : length (x ++ a) ≡ s₂.block = length-append x a ∙ ap (λ j. j + length a) n ∙ sym b₂ in
        let n₃ : length ((x ++ a) ++ m) ≡ block_after s₂ = length-append (x ++ a) m ∙ ap₂ (λ j k. j + k) n₂ (sym g) in
        let k : s₂.block - length x ≡ length a = omega (arith, n₂, length-append x a) in
        let now : ℕ = at + length (written s.come) in
        let q : move_rows (length a) (length (written x)) now (drop (row_size * length x) (encode_rows (rows_from 0 whole) ++ l))
        ≡ encode_rows (rows_from now a)
        = rw w₁ (rows-part x a (m ++ z) (rw (← w₁) ok) now l) in
        let v : length (written (x ++ a)) - length (written x) ≡ length (written a)
        = rw (written-append x a, length-append) (omega arith) in
        rw (
          end-of whole x _ (block_after s) w (n ∙ sym b),
          end-of whole (x ++ a) (m ++ z) s₂.block w₂ n₂,
          v,
          n₁,
          k,
          q,
          ledger-from sp s₂ ((x ++ a) ++ m) refl n₃ w₃ (now + length (written a)),
          e,
          rows_from-append now a (s₂.come ++ z'),
          rows_from-append (now + length (written a)) s₂.come z',
        )
        (append_assoc (encode_rows (rows_from at s.come)) (encode_rows (rows_from now a)) _)

    ledger-over :
        {ss : List Stretch} {ns : List Piece} → Spliced 0 whole ss ns
        → ledger_over (length whole) (rows_from 0 whole) ss (encode_rows (rows_from 0 whole) ++ l) ≡ encode_rows (rows_from 0 ns)
    ledger-over (as_kept e) =
        let n : length (encode_rows (rows_from 0 whole)) ≡ row_size * length whole
        = encode_rows-length ok ∙ ap (λ i. row_size * i) (rows_from-length 0 whole) in
        take_at (encode_rows (rows_from 0 whole)) l (row_size * length whole) n ∙ ap (λ ps. encode_rows (rows_from 0 ps)) e
    ledger-over (at_stretch {s = s} {ss} a m z z' b g p e sp) =
        let at : ℕ = length (written a) in
        let w : whole ≡ (a ++ m) ++ z = p ∙ sym (append_assoc a m z) in
        let n : length a ≡ s.block = sym (b ∙ zero-add (length a)) in
        let n₂ : length (a ++ m) ≡ block_after s = length-append a m ∙ ap₂ (λ j k. j + k) n (sym g) in
        let n₃ : length (encode_rows (rows_from 0 a)) ≡ row_size * s.block
        = encode_rows-length (encodable-left 0 a (m ++ z) (rw (← p) ok)) ∙ ap (λ i. row_size * i) (rows_from-length 0 a ∙ n) in
        let f : take (row_size * s.block) (encode_rows (rows_from 0 whole) ++ l) ≡ encode_rows (rows_from 0 a)
        = rw (p, rows_from-append 0 a (m ++ z), append_assoc) (take_at (encode_rows (rows_from 0 a)) _ (row_size * s.block) n₃) in
        rw (
          end-of whole a (m ++ z) s.block p n,
          f,
          ledger-from sp s (a ++ m) refl n₂ w at,
          e,
          rows_from-append 0 a (s.come ++ z'),
          zero-add,
          rows_from-append at s.come z',
        )

    -- both
    pub exchange-spliced :
        {ss : List Stretch} {ns : List Piece} → Spliced 0 whole ss ns
        → exchange (length whole) (length (written whole)) (rows_from 0 whole) ss (written whole ++ rest)
        (encode_rows (rows_from 0 whole) ++ l)
        ≡ cond (room (length (written whole ++ rest)) (length (encode_rows (rows_from 0 whole) ++ l)) ns)
        (record {
          answer = edited (length (written ns)) (pos (length (written ns)) -ℤ pos (length (written whole))) (come_count ss);
          text = front_over (written ns) (length (written ns)) (length (written whole)) (written whole ++ rest);
          ledger = front_over (encode_rows (rows_from 0 ns)) (row_size * length ns) (row_size * length whole) (encode_rows (rows_from 0 whole) ++ l);
        })
        (unchanged 15 0 (written whole ++ rest) (encode_rows (rows_from 0 whole) ++ l))
    unfolding exchange room
    exchange-spliced {ss} {ns} sp =
        let n : length whole + come_count ss - gone_count ss ≡ length ns = omega (arith, spliced-count sp) in
        rw (text-over sp, ledger-over sp, n)

-- what is put over the front of a buffer leaves its length
pub front_over-length :
    (new l : List ℕ) (size was : ℕ) → length new ≡ size → was ≤ length l → size ≤ length l → length (front_over new size was l) ≡ length l
unfolding front_over
front_over-length new l size was e h k = simp (length-append, length-replicate, length-drop) (omega arith)
