-- What a change reads from buffers that hold some pieces: where a block begins (`end-of`), its text and its carry (`block-text`,
-- `block-carry`), the text from there on (`text-after`), the carry before a block (`carry_before-take`), and what the blocks from one on
-- carry (`row_carries-rows`).
use mathlib.Core.Path.{◌≡◌, refl, sym, ap, ap₂, ◌∙◌}
use mathlib.Core.List.{List, [], ◌∷◌, ◌++◌, append_assoc, append-nil}
use Prim.Native.Nat.{ℕ, zero, suc, ◌+◌, ◌-◌, ◌≤◌, ◌<◌}
use native.Mathlib.Nat.{add_assoc, zero-add}
use native.Mathlib.Omega.{arith}
use lib.ListN.{length, take, drop, get_or, take-append-drop, length-append, length-drop}
use lib.Seq.{take-append_seam, drop-append_seam, length-take-le}
use Rattle.mitex_meaning.specs.Outcome.{Carry}
use Rattle.mitex_meaning.specs.Conversion.{start_carry}
use Rattle.mitex_meaning.specs.Parts.{between}
use Rattle.ledger.specs.Ledger.{encode_rows, decode_rows, Piece, written, rows_from}
use Rattle.ledger.proofs.Rows.{AllEncodable, decode_rows-encode, written-append, rows_from-length, rows_from-append, encodable-left}
use Rattle.edit_meaning.specs.Walk.{BlockConverter, carries, carry_after, rows_all, walk_until}
use Rattle.edit_meaning.specs.Edit.{no_row, end_before, carry_before, row_carries, again}
use Rattle.edit_meaning.specs.Changes.{last_of, carry_at, text_from_block, text_of_block, carry_of_block}
use Rattle.edit_meaning.proofs.Holding.{holding}

-- ---- what the rows say of the block at a place

row_end : (at : ℕ) (p : Piece) (a z : List Piece) → (get_or (rows_from at ((p ∷ a) ++ z)) (length a) no_row).end ≡ at + length (written (p ∷ a))
row_end at p [] z = rw length-append (omega arith)
row_end at p (q ∷ a) z = rw (length-append, ← add_assoc) (row_end (at + length p.text) q a z)

end_before-rows : (a z : List Piece) → end_before (length a) (rows_from 0 (a ++ z)) ≡ length (written a)
end_before-rows [] z = refl
end_before-rows (p ∷ a) z = row_end 0 p a z ∙ zero-add _

row-carry : (at : ℕ) (c : Carry) (p : Piece) (a z : List Piece) → (get_or (rows_from at ((p ∷ a) ++ z)) (length a) no_row).carry ≡ carry_after c (p ∷ a)
row-carry at c p [] z = refl
row-carry at c p (q ∷ a) z = row-carry (at + length p.text) p.after q a z

carry_before-rows : (a z : List Piece) → carry_before (length a) (rows_from 0 (a ++ z)) ≡ carry_after start_carry a
carry_before-rows [] z = refl
carry_before-rows (p ∷ a) z = row-carry 0 start_carry p a z

-- where block j begins, whose pieces before it are x
pub end-of : (whole x z : List Piece) (j : ℕ) → whole ≡ x ++ z → length x ≡ j → end_before j (rows_from 0 whole) ≡ length (written x)
end-of whole x z j e n = rw (e, ← n) (end_before-rows x z)

-- the rows of the first j blocks
decode-front :
    (whole x z : List Piece) (j : ℕ) → whole ≡ x ++ z → length x ≡ j → AllEncodable (rows_from 0 whole) → (l : List ℕ)
    → decode_rows j (encode_rows (rows_from 0 whole) ++ l) ≡ rows_from 0 x
decode-front whole x z j e n ok l =
    let more : List ℕ = encode_rows (rows_from (0 + length (written x)) z) ++ l in
    let d : decode_rows (length x) (encode_rows (rows_from 0 x) ++ more) ≡ rows_from 0 x
    = rw (rows_from-length 0 x) at (decode_rows-encode (encodable-left 0 x z (rw (← e) ok)) more) in
    rw (e, ← n, rows_from-append 0 x z, append_assoc) d

-- ---- text

-- that of a part a, after the pieces x
pub between-part :
    (x a y : List Piece) (rest : List ℕ)
    → between (length (written x)) (length (written (x ++ a))) (written (x ++ (a ++ y)) ++ rest) ≡ written a
between-part x a y rest =
    let e : written (x ++ (a ++ y)) ++ rest ≡ written x ++ (written a ++ (written y ++ rest))
    = rw (written-append x (a ++ y), written-append a y) (simp append_assoc) in
    let n : length (written (x ++ a)) - length (written x) ≡ length (written a) = rw (written-append x a, length-append) (omega arith) in
    rw (e, n, drop-append_seam (written x)) (take-append_seam (written a) (written y ++ rest))

-- that after the first j blocks
pub text-after :
    (x z : List Piece) (j : ℕ) → length x ≡ j → AllEncodable (rows_from 0 (x ++ z)) → (r l : List ℕ)
    → text_from_block j (holding (x ++ z) r l) ≡ written z
text-after x z j n ok r l =
    let d : end_before j (decode_rows j (encode_rows (rows_from 0 (x ++ z)) ++ l)) ≡ length (written x)
    = ap (end_before j) (decode-front (x ++ z) x z j refl n ok l) ∙ end-of x x [] j (sym (append-nil x)) n in
    ap (λ i. drop i (take (length (written (x ++ z))) (written (x ++ z) ++ r))) d
    ∙ ap (drop (length (written x))) (take-append_seam (written (x ++ z)) r ∙ written-append x z)
    ∙ drop-append_seam (written x) (written z)

module _ (ps : List Piece) (rest l : List ℕ) (ok : AllEncodable (rows_from 0 ps)) where
  -- that of block i
  pub block-text : (i : ℕ) → i < length ps → text_of_block i (holding ps rest l) ≡ written (take 1 (drop i ps))
  block-text i h =
      let x : List Piece = take i ps in
      let a : List Piece = take 1 (drop i ps) in
      let z : List Piece = drop 1 (drop i ps) in
      let w : ps ≡ x ++ (a ++ z) = sym (rw (take-append-drop 1 (drop i ps)) (take-append-drop i ps)) in
      let n : length x ≡ i = length-take-le i ps (omega arith) in
      let na : length a ≡ 1 = length-take-le 1 (drop i ps) (rw length-drop (omega arith)) in
      let n₂ : length (x ++ a) ≡ suc i = omega (arith, n, na, length-append x a) in
      let d : decode_rows (suc i) (encode_rows (rows_from 0 ps) ++ l) ≡ rows_from 0 (x ++ a)
      = decode-front ps (x ++ a) z (suc i) (w ∙ sym (append_assoc x a z)) n₂ ok l in
      let e₁ : end_before i (decode_rows (suc i) (encode_rows (rows_from 0 ps) ++ l)) ≡ length (written x)
      = ap (end_before i) d ∙ end-of (x ++ a) x a i refl n in
      let e₂ : end_before (suc i) (decode_rows (suc i) (encode_rows (rows_from 0 ps) ++ l)) ≡ length (written (x ++ a))
      = ap (end_before (suc i)) d ∙ end-of (x ++ a) (x ++ a) [] (suc i) (sym (append-nil (x ++ a))) n₂ in
      ap₂ (λ j k. between j k (written ps ++ rest)) e₁ e₂
      ∙ ap (λ q. between (length (written x)) (length (written (x ++ a))) (written q ++ rest)) w
      ∙ between-part x a z rest

  -- the carry that it begins with
  pub block-carry : (i : ℕ) → i ≤ length ps → carry_of_block i (holding ps rest l) ≡ carry_after start_carry (take i ps)
  block-carry i h =
      let n : length (take i ps) ≡ i = length-take-le i ps h in
      ap (carry_before i) (decode-front ps (take i ps) (drop i ps) i (sym (take-append-drop i ps)) n ok l)
      ∙ ap₂ (λ j qs. carry_before j (rows_from 0 qs)) (sym n) (sym (append-nil (take i ps)))
      ∙ carry_before-rows (take i ps) []

-- ---- carries

pub row_carries-rows : (at : ℕ) (k : ℕ) (ps : List Piece) → row_carries (drop k (rows_from at ps)) ≡ carries (drop k ps)
row_carries-rows at zero [] = refl
row_carries-rows at zero (p ∷ ps) = ap (λ cs. p.after ∷ cs) (row_carries-rows (at + length p.text) zero ps)
row_carries-rows at (suc k) [] = refl
row_carries-rows at (suc k) (p ∷ ps) = row_carries-rows (at + length p.text) k ps

pub carries-drop : (k : ℕ) (ps : List Piece) → drop k (carries ps) ≡ carries (drop k ps)
carries-drop zero ps = refl
carries-drop (suc k) [] = refl
carries-drop (suc k) (p ∷ ps) = carries-drop k ps

pub carry_after-append : (c : Carry) (x y : List Piece) → carry_after c (x ++ y) ≡ carry_after (carry_after c x) y
carry_after-append c [] y = refl
carry_after-append c (p ∷ x) y = carry_after-append p.after x y

last-carries : (c : Carry) (k : ℕ) (ps : List Piece) → last_of c (take k (carries ps)) ≡ carry_after c (take k ps)
last-carries c zero ps = refl
last-carries c (suc k) [] = refl
last-carries c (suc k) (p ∷ ps) = last-carries p.after k ps

pub carry_at-carries : (k : ℕ) (ps : List Piece) → carry_at k (carries ps) ≡ carry_after start_carry (take k ps)
carry_at-carries k ps = last-carries start_carry k ps

pub carry_before-take : (k : ℕ) (ps : List Piece) → k ≤ length ps → carry_before k (rows_from 0 ps) ≡ carry_after start_carry (take k ps)
carry_before-take k ps h =
    ap₂ (λ i qs. carry_before i (rows_from 0 qs)) (sym (length-take-le k ps h)) (sym (take-append-drop k ps))
    ∙ carry_before-rows (take k ps) (drop k ps)

module _ (𝓒 : BlockConverter) where
  open 𝓒 use {Block, rows as rows_of}

  pub again-rows :
      (bs : List Block) (ps : List Piece) (k : ℕ) → k ≤ length ps
      → again 𝓒 bs k (rows_from 0 ps)
      ≡ walk_until 𝓒 (carry_after start_carry (take k ps)) (1 + rows_all rows_of (take k bs)) (drop k bs) (carries (drop k ps))
  unfolding again
  again-rows bs ps k h = rw (carry_before-take k ps h, row_carries-rows 0 k ps)
