-- What replacing several blocks together converts again (`replaces-all`). From a named block to the first after which the carry is the kept
-- one, and from there on as from the kept row: that is the new conversion (`onward-until`); up to the next named block it is the old one
-- (`onward-same`). So the stretches, found one after the other, turn the old pieces into the new ones (`each`).
use mathlib.Core.Path.{◌≡◌, refl, sym, ap, ap₂, subst, ◌∙◌}
use mathlib.Core.Bool.{Bool, true, false, ◌||◌, not, cond, or-true}
use mathlib.Core.List.{List, [], ◌∷◌, ◌++◌, append-nil}
use Prim.Native.Nat.{ℕ, suc, ◌+◌, ◌-◌, ◌≤◌, ◌<◌}
use native.Mathlib.Nat.{add_assoc, add-zero, zero-add}
use native.Mathlib.Omega.{arith}
use borrow.Author.Tests.{ltb-true, ltb-false, eq-eqb, ne_eqb}
use lib.ListN.{length, take, drop, take-append-drop, length-drop}
use lib.Seq.{length-take-le, take-length, take-add, drop-drop}
use lib.Dec.{ltb}
use Rattle.mitex_meaning.specs.Outcome.{Carry, Outcome}
use Rattle.mitex_meaning.specs.Outcome.Outcome.{refused, done}
use Rattle.mitex_meaning.specs.Conversion.{start_carry}
use Rattle.ledger.specs.Ledger.{same_carry, Piece, rows_from}
use Rattle.ledger.proofs.Carries.{same_carry-true, same_carry-refl}
use Rattle.edit_meaning.specs.Walk.{BlockConverter, Walk, carries, carry_after, onto, next, next_until, rows_all, walk, walk_until}
use Rattle.edit_meaning.specs.Walk.Walk.{stopped, pieces}
use Rattle.edit_meaning.specs.Edit.{again}
use Rattle.edit_meaning.specs.Changes.{rise_below, Stretch, come_count, Remade, before_rest, stretch_then, each_from, remake}
use Rattle.edit_meaning.specs.Changes.{is_among, count_each, OnlyNamed}
use Rattle.edit_meaning.specs.Changes.Kind.{replace_all}
use Rattle.edit_meaning.specs.Changes.Remade.{halted, remade}
use Rattle.edit_meaning.proofs.Walks.{onto_all, onto_all-pieces, onto_all-stopped}
use Rattle.edit_meaning.proofs.Walks.{WalkedBlocks, none_left, one_walked, walk-walked, walked-walk, walked-length}
use Rattle.edit_meaning.proofs.Walks.{walk-past, walked-take, walked-drop}
use Rattle.edit_meaning.proofs.Walks.{Until, at_end, met, on_past, until-within, walk_until-until}
use Rattle.edit_meaning.proofs.Named.{rising-first, among-others, none_before, same-front}
use Rattle.edit_meaning.proofs.Stretches.{Spliced, as_kept, at_stretch}
use Rattle.edit_meaning.proofs.Reading.{again-rows, carry_after-append}
use Rattle.edit_meaning.proofs.Remaking.{until-some, PiecesMoved, Remakes, halts, comes_to}

-- ---- counting

count_none : (i : ℕ) (ks : List ℕ) (c d : Carry) (cs : List Carry) → count_each i ks c d cs [] ≡ 0
count_none i ks c d [] = refl
count_none i ks c d (e ∷ cs) = refl

-- a named block that was passed
count_past : (i k : ℕ) (ks : List ℕ) (c d : Carry) (cs ds : List Carry) → k < i → count_each i (k ∷ ks) c d cs ds ≡ count_each i ks c d cs ds
count_past i k ks c d [] ds h = refl
count_past i k ks c d (e ∷ cs) [] h = refl
count_past i k ks c d (e ∷ cs) (f ∷ ds) h =
    rw (ne_eqb i k (λ q. omega arith))
    (ap (λ m. cond (is_among i ks || not (same_carry c d)) 1 0 + m) (count_past (suc i) k ks e f cs ds (omega arith)))

-- blocks that are kept
count_kept :
    (a : List Piece) (i : ℕ) (ks : List ℕ) (c : Carry) (x y : List Piece) → ((j : ℕ) → i ≤ j → j < i + length a → is_among j ks ≡ false)
    → count_each i ks c c (carries (a ++ x)) (carries (a ++ y))
    ≡ count_each (i + length a) ks (carry_after c a) (carry_after c a) (carries x) (carries y)
count_kept [] i ks c x y h = ap (λ j. count_each j ks c c (carries x) (carries y)) (sym (add-zero i))
count_kept (p ∷ a) i ks c x y h =
    let j : suc i + length a ≡ i + suc (length a) = omega arith in
    rw (h i (omega arith) (omega arith), same_carry-refl c)
    (zero-add _ ∙ count_kept a (suc i) ks p.after x y (λ k f g. h k (omega arith) (omega arith))
    ∙ ap (λ k. count_each k ks (carry_after p.after a) (carry_after p.after a) (carries x) (carries y)) j)

-- blocks of a stretch, from one that is named or begins with another carry
count-stretch :
    {zs qs : List Piece} → Until zs qs → (i : ℕ) (ks : List ℕ) (c d : Carry) (x : List Piece) → (is_among i ks || not (same_carry c d)) ≡ true
    → count_each i ks c d (carries (qs ++ x)) (carries zs)
    ≡ length qs
    + count_each (i + length qs) ks (carry_after d (take (length qs) zs)) (carry_after d (take (length qs) zs)) (carries x)
    (carries (drop (length qs) zs))
count-stretch at_end i ks c d x h = rw (count_none i ks c d (carries x), count_none (i + 0) ks d d (carries x))
count-stretch (met {p} {q} {ps} e) i ks c d x h =
    let j : suc i ≡ i + 1 = omega arith in
    rw h (ap₂ (λ k b. 1 + count_each k ks b p.after (carries x) (carries ps)) j (same_carry-true q.after p.after e))
count-stretch (on_past {p} {q} {ps} {qs} e u) i ks c d x h =
    let b : Carry = carry_after p.after (take (length qs) ps) in
    let j : suc i + length qs ≡ i + suc (length qs) = omega arith in
    let more : ℕ = count_each (i + suc (length qs)) ks b b (carries x) (carries (drop (length qs) ps)) in
    let ih : count_each (suc i) ks q.after p.after (carries (qs ++ x)) (carries ps) ≡ length qs + more
    = count-stretch u (suc i) ks q.after p.after x (rw e (or-true (is_among (suc i) ks)))
    ∙ ap (λ k. length qs + count_each k ks b b (carries x) (carries (drop (length qs) ps))) j in
    rw (h, ih) (let z : 1 + (length qs + more) ≡ suc (length qs) + more = omega arith in z)

-- ---- a walk to the first block after which the carry is the kept one, and on

abbrev then_on : Walk → (ℕ → Walk) → Walk
then_on (stopped n i) f = stopped n i
then_on (pieces qs) f = onto_all qs (f (length qs))

then_on-onto : (q : Piece) (w : Walk) (f : ℕ → Walk) → then_on (onto q w) f ≡ onto q (then_on w (λ n. f (suc n)))
then_on-onto q (stopped n i) f = refl
then_on-onto q (pieces qs) f = refl

module _ (𝓒 : BlockConverter) where
  open 𝓒 use {Block, convert as convert_block, rows as rows_of}

  rows_all-append : (xs ys : List Block) → rows_all rows_of (xs ++ ys) ≡ rows_all rows_of xs + rows_all rows_of ys
  rows_all-append [] ys = sym (zero-add _)
  rows_all-append (x ∷ xs) ys = rw (rows_all-append xs ys) (sym (add_assoc (rows_of x) (rows_all rows_of xs) (rows_all rows_of ys)))

  -- the walk on from the first n of the pieces ps and of the blocks bs
  abbrev walk_from : Carry → ℕ → List Block → List Piece → ℕ → Walk
  walk_from d r bs ps n = walk 𝓒 (carry_after d (take n ps)) (r + rows_all rows_of (take n bs)) (drop n bs)

  walk-next :
      (s : Outcome) (b : Block) (bs : List Block) (p : Piece) (ps : List Piece) (d : Carry) (r : ℕ)
      → ((c : Carry)
      → walk 𝓒 c (r + rows_of b) bs ≡ then_on (walk_until 𝓒 c (r + rows_of b) bs (carries ps)) (walk_from p.after (r + rows_of b) bs ps))
      → next s r (λ c. walk 𝓒 c (r + rows_of b) bs)
      ≡ then_on (next_until s r p.after (λ c. walk_until 𝓒 c (r + rows_of b) bs (carries ps))) (walk_from d r (b ∷ bs) (p ∷ ps))
  walk-next (refused n i) b bs p ps d r ih = refl
  walk-next (done c t) b bs p ps d r ih = go (same_carry c p.after) refl
    where
      q : Piece
      q = record { text = t; after = c }

      go :
          (x : Bool) → same_carry c p.after ≡ x
          → onto q (walk 𝓒 c (r + rows_of b) bs)
          ≡ then_on (onto q (cond x (pieces []) (walk_until 𝓒 c (r + rows_of b) bs (carries ps)))) (walk_from d r (b ∷ bs) (p ∷ ps))
      go true e =
          let j : r + rows_of b ≡ r + (rows_of b + 0) = omega arith in
          ap (onto q) (ap₂ (λ c r. walk 𝓒 c r bs) (same_carry-true c p.after e) j)
      go false e =
          let w : Walk = walk_until 𝓒 c (r + rows_of b) bs (carries ps) in
          let on : walk_from p.after (r + rows_of b) bs ps ≡ (λ n. walk_from d r (b ∷ bs) (p ∷ ps) (suc n))
          = λ i n. walk 𝓒 (carry_after p.after (take n ps)) (add_assoc r (rows_of b) (rows_all rows_of (take n bs)) i) (drop n bs) in
          ap (onto q) (ih c ∙ ap (then_on w) on)
          ∙ sym (then_on-onto q w (walk_from d r (b ∷ bs) (p ∷ ps)))

  walk-until :
      (bs : List Block) (ps : List Piece) → length bs ≡ length ps → (c d : Carry) (r : ℕ)
      → walk 𝓒 c r bs ≡ then_on (walk_until 𝓒 c r bs (carries ps)) (walk_from d r bs ps)
  unfolding walk walk_until
  walk-until [] [] n c d r = refl
  walk-until [] (p ∷ ps) n c d r = absurd (omega arith)
  walk-until (b ∷ bs) [] n c d r = absurd (omega arith)
  walk-until (b ∷ bs) (p ∷ ps) n c d r =
      walk-next (convert_block c b) b bs p ps d r (λ c'. walk-until bs ps (omega arith) c' p.after (r + rows_of b))

  -- ---- two documents that differ in named blocks

  module _ (bs bs' : List Block) (ps : List Piece) (w : WalkedBlocks 𝓒 start_carry bs ps) (n : length bs' ≡ length bs) where
    -- the carry that block j began with, and its first row now
    abbrev carry : ℕ → Carry
    carry j = carry_after start_carry (take j ps)

    abbrev row : ℕ → ℕ
    row j = 1 + rows_all rows_of (take j bs')

    -- the new conversion from block j on, where the old one carries the same
    abbrev onward : ℕ → Walk
    onward j = walk 𝓒 (carry j) (row j) (drop j bs')

    carry-add : (j k : ℕ) → carry_after (carry j) (take k (drop j ps)) ≡ carry (j + k)
    carry-add j k =
        sym (carry_after-append start_carry (take j ps) (take k (drop j ps))) ∙ ap (carry_after start_carry) (sym (take-add j k ps))

    row-add : (j k : ℕ) → row j + rows_all rows_of (take k (drop j bs')) ≡ row (j + k)
    row-add j k =
        add_assoc 1 (rows_all rows_of (take j bs')) (rows_all rows_of (take k (drop j bs')))
        ∙ ap (λ r. 1 + r) (sym (rows_all-append (take j bs') (take k (drop j bs'))) ∙ ap (rows_all rows_of) (sym (take-add j k bs')))

    onward-add : (j k : ℕ) → walk_from (carry j) (row j) (drop j bs') (drop j ps) k ≡ onward (j + k)
    onward-add j k = λ i. walk 𝓒 (carry-add j k i) (row-add j k i) (drop-drop k j bs' i)

    -- k blocks that are the same give the old pieces
    onward-same : (j k : ℕ) → take k (drop j bs') ≡ take k (drop j bs) → onward j ≡ onto_all (take k (drop j ps)) (onward (j + k))
    onward-same j k e =
        ap (walk 𝓒 (carry j) (row j)) (sym (take-append-drop k (drop j bs')))
        ∙ walk-past 𝓒 {xs = take k (drop j bs')} {ps = take k (drop j ps)} (rw e (walked-take 𝓒 k (walked-drop 𝓒 j w))) (row j)
        (drop k (drop j bs'))
        ∙ ap (onto_all (take k (drop j ps))) (onward-add j k)

    same_count : length bs' ≡ length ps
    same_count = n ∙ walked-length 𝓒 w

    abbrev until : ℕ → Walk
    until k = walk_until 𝓒 (carry k) (row k) (drop k bs') (carries (drop k ps))

    lengths-from : (k : ℕ) → length (drop k bs') ≡ length (drop k ps)
    lengths-from k = simp length-drop (ap (λ i. i - k) same_count)

    onward-until : (k : ℕ) → onward k ≡ then_on (until k) (λ i. onward (k + i))
    onward-until k =
        walk-until (drop k bs') (drop k ps) (lengths-from k) (carry k) (carry k) (row k) ∙ ap (then_on (until k)) (λ i j. onward-add k j i)

    abbrev stretches : ℕ → List ℕ → Remade
    stretches j ks = each_from 𝓒 bs' (rows_from 0 ps) j ks

    -- `Remakes` from block j on
    data RemakesFrom (j : ℕ) (ks : List ℕ) : Remade → Type 0 where
      halts_there : {m i : ℕ} → onward j ≡ stopped m i → RemakesFrom j ks (halted m i)
      comes_there :
          {ss : List Stretch} (ns : List Piece) → onward j ≡ pieces ns → Spliced j (drop j ps) ss ns
          → come_count ss ≡ count_each j ks (carry j) (carry j) (carries ns) (carries (drop j ps)) → RemakesFrom j ks (remade ss)

    -- from block j on, blocks that are not named are the same
    abbrev Others : ℕ → List ℕ → Type 0
    Others j ks = (i : ℕ) → j ≤ i → is_among i ks ≡ false → take 1 (drop i bs') ≡ take 1 (drop i bs)

    others-past : (j i k : ℕ) (ks : List ℕ) → Others j (k ∷ ks) → j ≤ i → k < i → Others i ks
    others-past j i k ks o h g = λ m f q. o m (omega arith) (among-others m k ks (λ z. omega arith) ∙ q)

    drop-lengths : (j : ℕ) → length (drop j bs') ≡ length (drop j bs)
    drop-lengths j = simp length-drop (ap (λ i. i - j) n)

    others-front :
        (j k : ℕ) → ((i : ℕ) → j ≤ i → i < j + k → take 1 (drop i bs') ≡ take 1 (drop i bs)) → take k (drop j bs') ≡ take k (drop j bs)
    others-front j k f =
        same-front k (drop j bs') (drop j bs) (drop-lengths j)
        (λ i h. ap (take 1) (drop-drop i j bs') ∙ f (j + i) (omega arith) (omega arith) ∙ ap (take 1) (sym (drop-drop i j bs)))

    -- no further block is named
    each-rest : (j : ℕ) → Others j [] → RemakesFrom j [] (remade [])
    each-rest j o =
        let e : drop j bs' ≡ drop j bs
        = sym (take-length (drop j bs'))
        ∙ others-front j (length (drop j bs')) (λ i h g. o i h refl)
        ∙ ap (λ i. take i (drop j bs)) (drop-lengths j)
        ∙ take-length (drop j bs) in
        let c : count_each j [] (carry j) (carry j) (carries (drop j ps)) (carries (drop j ps)) ≡ 0
        = rw append-nil at (count_kept (drop j ps) j [] (carry j) [] [] (λ i h g. refl)) in
        comes_there (drop j ps) (rw e (walked-walk 𝓒 (walked-drop 𝓒 j w) (row j))) (as_kept refl) (sym c)

    -- one that was converted already
    each-skip : (j k : ℕ) (ks : List ℕ) → k < j → {x : Remade} → RemakesFrom j ks x → RemakesFrom j (k ∷ ks) x
    each-skip j k ks h (halts_there e) = halts_there e
    each-skip j k ks h (comes_there ns e sp c) =
        comes_there ns e sp (c ∙ sym (count_past j k ks (carry j) (carry j) (carries ns) (carries (drop j ps)) h))

    -- block k, up to which none is named
    module _ (k : ℕ) (ks : List ℕ) (j : ℕ) (h : j ≤ k) (g : k < length ps)
        (front : take (k - j) (drop j bs') ≡ take (k - j) (drop j bs))
        (none : (i : ℕ) → j ≤ i → i < k → is_among i (k ∷ ks) ≡ false) where
      abbrev a : List Piece
      a = take (k - j) (drop j ps)

      reach : j + (k - j) ≡ k
      reach = omega arith

      length-a : j + length a ≡ k
      length-a = ap (λ i. j + i) (length-take-le (k - j) (drop j ps) (rw length-drop (omega arith))) ∙ reach

      old-named : drop j ps ≡ a ++ drop k ps
      old-named = sym (take-append-drop (k - j) (drop j ps)) ∙ ap (λ y. a ++ y) (drop-drop (k - j) j ps ∙ ap (λ i. drop i ps) reach)

      onward-named : onward j ≡ onto_all a (onward k)
      onward-named = onward-same j (k - j) front ∙ ap (λ i. onto_all a (onward i)) reach

      carry-named : carry_after (carry j) a ≡ carry k
      carry-named = carry-add j (k - j) ∙ ap carry reach

      module _ (qs : List Piece) (u : until k ≡ pieces qs) where
        is-until : Until (drop k ps) qs
        is-until = walk_until-until 𝓒 (drop k bs') (drop k ps) (lengths-from k) (carry k) (row k) qs u

        some : 0 < length qs
        some = until-some is-until (rw length-drop (omega arith))

        within : k + length qs ≤ length ps
        within = omega (arith, until-within is-until, length-drop k ps)

        count-named :
            (ns : List Piece)
            → count_each j (k ∷ ks) (carry j) (carry j) (carries (a ++ (qs ++ ns))) (carries (drop j ps))
            ≡ length qs
            + count_each (k + length qs) ks (carry (k + length qs)) (carry (k + length qs)) (carries ns) (carries (drop (k + length qs) ps))
        count-named ns =
            let i : ℕ = k + length qs in
            ap (λ x. count_each j (k ∷ ks) (carry j) (carry j) (carries (a ++ (qs ++ ns))) (carries x)) old-named
            ∙ count_kept a j (k ∷ ks) (carry j) (qs ++ ns) (drop k ps) (λ i f e. none i f (omega (arith, length-a)))
            ∙ ap₂ (λ i c. count_each i (k ∷ ks) c c (carries (qs ++ ns)) (carries (drop k ps))) length-a carry-named
            ∙ count-stretch is-until k (k ∷ ks) (carry k) (carry k) ns (rw (eq-eqb k k refl))
            ∙ ap₂ (λ c x. length qs + count_each i (k ∷ ks) c c (carries ns) (carries x)) (carry-add k (length qs))
            (drop-drop (length qs) k ps)
            ∙ ap (λ m. length qs + m) (count_past i k ks (carry i) (carry i) (carries ns) (carries (drop i ps)) (omega (arith, some)))

        each-past :
            {x : Remade} → RemakesFrom (k + length qs) ks x
            → RemakesFrom j (k ∷ ks) (before_rest (record { block = k; gone = length qs; come = qs }) x)
        each-past (halts_there {m} {i} e) =
            halts_there (onward-named ∙ ap (onto_all a) (onward-until k ∙ rw (u, e) (onto_all-stopped qs m i)) ∙ onto_all-stopped a m i)
        each-past (comes_there {ss} ns e sp c) =
            let m : List Piece = take (length qs) (drop k ps) in
            let z : List Piece = drop (k + length qs) ps in
            let nm : length m ≡ length qs = length-take-le (length qs) (drop k ps) (until-within is-until) in
            let p : drop j ps ≡ a ++ (m ++ z)
            = old-named
            ∙ ap (λ y. a ++ y) (sym (take-append-drop (length qs) (drop k ps)) ∙ ap (λ y. m ++ y) (drop-drop (length qs) k ps)) in
            comes_there (a ++ (qs ++ ns))
            (onward-named ∙ ap (onto_all a) (onward-until k ∙ rw (u, e) (onto_all-pieces qs ns)) ∙ onto_all-pieces a (qs ++ ns))
            (at_stretch {i = j} a m z ns (sym length-a) (sym nm) p refl sp) (ap (λ i. length qs + i) c ∙ sym (count-named ns))

      each-named :
          ((i : ℕ) → k < i → i ≤ length ps → RemakesFrom i ks (stretches i ks)) → (x : Walk) → until k ≡ x
          → RemakesFrom j (k ∷ ks) (stretch_then k x (λ i. stretches i ks))
      each-named ih (stopped m i) u = halts_there (onward-named ∙ ap (onto_all a) (onward-until k ∙ rw u) ∙ onto_all-stopped a m i)
      each-named ih (pieces qs) u = each-past qs u (ih (k + length qs) (omega (arith, some qs u)) (within qs u))

    each_next :
        (k : ℕ) (ks : List ℕ) (j least : ℕ) → rise_below least (length bs') (k ∷ ks) ≡ true → Others j (k ∷ ks)
        → ((i : ℕ) → i ≤ length ps → Others i ks → RemakesFrom i ks (stretches i ks)) → j ≤ length ps → (x : Bool) → ltb k j ≡ x
        → RemakesFrom j (k ∷ ks)
        (cond x (stretches j ks) (stretch_then k (again 𝓒 bs' k (rows_from 0 ps)) (λ i. stretches i ks)))
    each_next k ks j least r o ih h true e =
        let g : k < j = ltb-true k j e in
        each-skip j k ks g (ih j h (others-past j j k ks o (omega arith) g))
    each_next k ks j least r o ih h false e =
        let (s, b, q) = rising-first least (length bs') k ks r in
        let g : k < length ps = subst (λ i. k < i) same_count b in
        let f : j ≤ k = ltb-false k j e in
        let none : (i : ℕ) → j ≤ i → i < k → is_among i (k ∷ ks) ≡ false
        = λ i a c. among-others i k ks (λ z. omega arith) ∙ none_before i (suc k) (length bs') ks q (omega arith) in
        let front : take (k - j) (drop j bs') ≡ take (k - j) (drop j bs)
        = others-front j (k - j) (λ i a c. o i a (none i a (omega arith))) in
        rw (again-rows 𝓒 bs' ps k (omega arith))
        (each-named k ks j f g front none (λ i a c. ih i c (others-past j i k ks o (omega arith) a)) (until k) refl)

    each :
        (ks : List ℕ) (j least : ℕ) → rise_below least (length bs') ks ≡ true → Others j ks → j ≤ length ps
        → RemakesFrom j ks (stretches j ks)
    unfolding each_from
    each [] j least r o h = each-rest j o
    each (k ∷ ks) j least r o h =
        let (s, b, q) = rising-first least (length bs') k ks r in
        each_next k ks j least r o (λ i g f. each ks i (suc k) q f g) h (ltb k j) refl

  -- ---- a block that is not named, and begins with the carry that it began with, gives the piece that it gave

  first-same :
      {c d : Carry} {xs ys : List Block} {ps qs : List Piece} → WalkedBlocks 𝓒 c xs ps → WalkedBlocks 𝓒 d ys qs → d ≡ c
      → take 1 ys ≡ take 1 xs → take 1 qs ≡ take 1 ps
  first-same none_left none_left e h = refl
  first-same none_left (one_walked {b = b} f w) e h = let z : ◌≡◌ {A = ℕ} 1 0 = ap length h in absurd (omega arith)
  first-same (one_walked {b = b} f w) none_left e h = let z : ◌≡◌ {A = ℕ} 0 1 = ap length h in absurd (omega arith)
  first-same (one_walked {b = b} {c' = c₁} {t = t₁} f w) (one_walked {b = b₂} {c' = c₂} {t = t₂} f₂ w₂) e h =
      let q : done c₂ t₂ ≡ done c₁ t₁ = sym f₂ ∙ ap₂ (λ x y. convert_block x y) e (block h) ∙ f in
      let p : c₂ ≡ c₁ = cc in
      let r : t₂ ≡ t₁ = cc in
      λ i. record { text = r i; after = p i } ∷ []
    where
      block : b₂ ∷ [] ≡ b ∷ [] → b₂ ≡ b
      block e = cc

  pub replaces-all :
      (ks : List ℕ) (bs bs' : List Block) (ps : List Piece) → WalkedBlocks 𝓒 start_carry bs ps → OnlyNamed ks bs bs'
      → rise_below 0 (length bs') ks ≡ true → Remakes 𝓒 (replace_all ks) bs' ps (remake 𝓒 bs' (rows_from 0 ps) (replace_all ks))
  unfolding remake
  replaces-all ks bs bs' ps w only r =
      go (each bs bs' ps w only.count ks 0 0 r (λ i h e. only.others i e) (omega arith))
    where
      moved : (ns : List Piece) (count : ℕ) → walk 𝓒 start_carry 1 bs' ≡ pieces ns → PiecesMoved (replace_all ks) count ps ns
      moved ns count v i e c =
          first-same (walked-drop 𝓒 i w) (walked-drop 𝓒 i (walk-walked 𝓒 bs' start_carry 1 ns v)) c (only.others i e)

      go : {x : Remade} → RemakesFrom bs bs' ps w only.count 0 ks x → Remakes 𝓒 (replace_all ks) bs' ps x
      go (halts_there e) = halts e
      go (comes_there {ss} ns e sp c) = comes_to ns e sp c (moved ns (come_count ss) e)
