-- Blocks converted again beside those of a document that was converted: to the first block after which the carry is the old one, and the
-- old pieces from there on, are together their conversion (`resume`, `resume-rest`). The reason: from the same carry the same blocks give
-- the same pieces.
use mathlib.Core.Path.{◌≡◌, refl, sym, ap, ◌∙◌}
use mathlib.Core.Bool.{Bool, true, false, cond}
use mathlib.Core.List.{List, [], ◌∷◌, ◌++◌}
use Prim.Native.Nat.{ℕ, zero, suc, ◌+◌, ◌≤◌, ◌<◌}
use native.Mathlib.Nat.{add_assoc, add-zero, not-suc-le-zero, le_of_suc-le-suc}
use native.Mathlib.Omega.{arith}
use lib.ListN.{length, take, drop}
use lib.Seq.{drop-nil}
use Rattle.mitex_meaning.specs.Outcome.{Carry, Outcome}
use Rattle.mitex_meaning.specs.Outcome.Outcome.{refused, done}
use Rattle.ledger.specs.Ledger.{same_carry, Piece}
use Rattle.ledger.proofs.Carries.{same_carry-true}
use Rattle.edit_meaning.specs.Walk.{BlockConverter, Walk, carries, carry_after, onto, next, next_until, rows_all, walk, walk_until, count_to}
use Rattle.edit_meaning.specs.Walk.Walk.{stopped, pieces}

abbrev pub onto_all : List Piece → Walk → Walk
onto_all [] w = w
onto_all (p ∷ ps) w = onto p (onto_all ps w)

pub onto_all-pieces : (ps qs : List Piece) → onto_all ps (pieces qs) ≡ pieces (ps ++ qs)
onto_all-pieces [] qs = refl
onto_all-pieces (p ∷ ps) qs = rw (onto_all-pieces ps qs)

pub onto_all-stopped : (ps : List Piece) (n i : ℕ) → onto_all ps (stopped n i) ≡ stopped n i
onto_all-stopped [] n i = refl
onto_all-stopped (p ∷ ps) n i = rw (onto_all-stopped ps n i)

-- the pieces after those that were converted again are the old ones
abbrev pub finish : Walk → List Piece → Walk
finish (stopped n i) ps = stopped n i
finish (pieces qs) ps = pieces (qs ++ drop (length qs) ps)

-- ---- converting again, beside the old pieces from the named block on

pub data Until : List Piece → List Piece → Type 0 where
  at_end : Until [] []
  met : {p q : Piece} {ps : List Piece} → same_carry q.after p.after ≡ true → Until (p ∷ ps) (q ∷ [])
  on_past : {p q : Piece} {ps qs : List Piece} → same_carry q.after p.after ≡ false → Until ps qs → Until (p ∷ ps) (q ∷ qs)

pub until-within : {ps qs : List Piece} → Until ps qs → length qs ≤ length ps
until-within at_end = omega arith
until-within (met e) = omega arith
until-within (on_past e u) = omega (arith, until-within u)

-- how many blocks are converted again is told by the two conversions alone
pub until-count : {ps qs : List Piece} → Until ps qs → length qs ≡ count_to (carries (qs ++ drop (length qs) ps)) (carries ps)
until-count at_end = refl
until-count (met e) = rw e
until-count (on_past e u) = rw e (ap suc (until-count u))

-- ---- the block at a place

pub headed {ℓ} : {A : Type ℓ} (k : ℕ) (l : List A) → k < length l → (x : A) × (drop k l ≡ x ∷ drop (suc k) l)
headed k [] h = absurd (not-suc-le-zero h)
headed zero (x ∷ l) h = (x, refl)
headed (suc k) (x ∷ l) h = headed k l (le_of_suc-le-suc h)

pub carry_after-at : (c : Carry) (k : ℕ) (ps : List Piece) (p : Piece) → drop k ps ≡ p ∷ drop (suc k) ps → carry_after c (take (suc k) ps) ≡ p.after
carry_after-at c k [] p e =
    let z : ◌≡◌ {A = ℕ} 0 1 = ap length (sym (drop-nil k) ∙ e ∙ ap (λ l. p ∷ l) (drop-nil (suc k))) in absurd (omega arith)
carry_after-at c zero (q ∷ ps) p e = ap (λ x. x.after) (first e)
  where
    first : q ∷ ps ≡ p ∷ ps → q ≡ p
    first e₂ = cc
carry_after-at c (suc k) (q ∷ ps) p e = carry_after-at q.after k ps p e

module _ (𝓒 : BlockConverter) where
  open 𝓒 use {Block, convert as convert_block, rows as rows_of}

  -- ---- a walk that went well: each block's outcome

  pub data WalkedBlocks : Carry → List Block → List Piece → Type 0 where
    none_left : {c : Carry} → WalkedBlocks c [] []
    one_walked :
        {c : Carry} {b : Block} {bs : List Block} {c' : Carry} {t : List ℕ} {ps : List Piece} → convert_block c b ≡ done c' t
        → WalkedBlocks c' bs ps → WalkedBlocks c (b ∷ bs) (record { text = t; after = c' } ∷ ps)

  walked_next :
      (s : Outcome) {c : Carry} {b : Block} {bs : List Block} (r : ℕ) (ps : List Piece) → convert_block c b ≡ s
      → ((c' : Carry) (qs : List Piece) → walk 𝓒 c' (r + rows_of b) bs ≡ pieces qs → WalkedBlocks c' bs qs)
      → next s r (λ c'. walk 𝓒 c' (r + rows_of b) bs) ≡ pieces ps → WalkedBlocks c (b ∷ bs) ps
  walked_next (refused n i) r ps e ih h = let z : ◌≡◌ {A = ℕ} 0 1 = cc in absurd (omega arith)
  walked_next (done c' t) {c} {b} {bs} r ps e ih h = go (walk 𝓒 c' (r + rows_of b) bs) refl h
    where
      go : (w : Walk) → walk 𝓒 c' (r + rows_of b) bs ≡ w → onto (record { text = t; after = c' }) w ≡ pieces ps → WalkedBlocks c (b ∷ bs) ps
      go (stopped n i) e₂ h₂ = let z : ◌≡◌ {A = ℕ} 0 1 = cc in absurd (omega arith)
      go (pieces qs) e₂ h₂ = let q : record { text = t; after = c' } ∷ qs ≡ ps = cc in rw (← q) (one_walked e (ih c' qs e₂))

  pub walk-walked : (bs : List Block) (c : Carry) (r : ℕ) (ps : List Piece) → walk 𝓒 c r bs ≡ pieces ps → WalkedBlocks c bs ps
  unfolding walk
  walk-walked [] c r ps h = let q : [] ≡ ps = cc in rw (← q) none_left
  walk-walked (b ∷ bs) c r ps h = walked_next (convert_block c b) r ps refl (λ c' qs. walk-walked bs c' (r + rows_of b) qs) h

  pub walked-walk : {c : Carry} {bs : List Block} {ps : List Piece} → WalkedBlocks c bs ps → (r : ℕ) → walk 𝓒 c r bs ≡ pieces ps
  unfolding walk
  walked-walk none_left r = refl
  walked-walk (one_walked {b = b} e w) r = rw (e, walked-walk w (r + rows_of b))

  -- over two runs of blocks
  pub walk-past :
      {c : Carry} {xs : List Block} {ps : List Piece} → WalkedBlocks c xs ps → (r : ℕ) (ys : List Block)
      → walk 𝓒 c r (xs ++ ys) ≡ onto_all ps (walk 𝓒 (carry_after c ps) (r + rows_all rows_of xs) ys)
  unfolding walk
  walk-past {c = c} none_left r ys = ap (λ n. walk 𝓒 c n ys) (sym (add-zero r))
  walk-past (one_walked {b = b} {bs = bs} {c'} {t} e w) r ys =
      rw (e, walk-past w (r + rows_of b) ys, add_assoc r (rows_of b) (rows_all rows_of bs))

  pub walked-take : {c : Carry} {bs : List Block} {ps : List Piece} (k : ℕ) → WalkedBlocks c bs ps → WalkedBlocks c (take k bs) (take k ps)
  walked-take zero w = none_left
  walked-take (suc k) none_left = none_left
  walked-take {c = c} (suc k) (one_walked {c' = c'} e w) = one_walked e (walked-take {c = c'} k w)

  pub walked-drop :
      {c : Carry} {bs : List Block} {ps : List Piece} (k : ℕ) → WalkedBlocks c bs ps → WalkedBlocks (carry_after c (take k ps)) (drop k bs) (drop k ps)
  walked-drop zero w = w
  walked-drop (suc k) none_left = none_left
  walked-drop {c = c} (suc k) (one_walked {c' = c'} e w) = walked-drop {c = c'} k w

  pub walked-length : {c : Carry} {bs : List Block} {ps : List Piece} → WalkedBlocks c bs ps → length bs ≡ length ps
  walked-length none_left = refl
  walked-length (one_walked e w) = ap suc (walked-length w)

  -- ---- converting again

  finish-onto : (q : Piece) (w : Walk) (p : Piece) (ps : List Piece) → finish (onto q w) (p ∷ ps) ≡ onto q (finish w ps)
  finish-onto q (stopped n i) p ps = refl
  finish-onto q (pieces qs) p ps = refl

  resume-step :
      (s : Outcome) (bs : List Block) (r r' : ℕ) (p : Piece) (ps : List Piece) → WalkedBlocks p.after bs ps
      → ((c' : Carry) → walk 𝓒 c' r' bs ≡ finish (walk_until 𝓒 c' r' bs (carries ps)) ps)
      → next s r (λ c'. walk 𝓒 c' r' bs) ≡ finish (next_until s r p.after (λ c'. walk_until 𝓒 c' r' bs (carries ps))) (p ∷ ps)
  resume-step (refused n i) bs r r' p ps w ih = refl
  resume-step (done c' t) bs r r' p ps w ih =
      rw finish-onto (ap (onto (record { text = t; after = c' })) (go (same_carry c' p.after) refl))
    where
      go : (b : Bool) → same_carry c' p.after ≡ b → walk 𝓒 c' r' bs ≡ finish (cond b (pieces []) (walk_until 𝓒 c' r' bs (carries ps))) ps
      go true e = ap (λ c. walk 𝓒 c r' bs) (same_carry-true c' p.after e) ∙ walked-walk w r'
      go false e = ih c'

  pub resume-rest :
      {bs : List Block} {ps : List Piece} {d : Carry} → WalkedBlocks d bs ps → (c : Carry) (r : ℕ)
      → walk 𝓒 c r bs ≡ finish (walk_until 𝓒 c r bs (carries ps)) ps
  unfolding walk walk_until
  resume-rest none_left c r = refl
  resume-rest (one_walked {b = b} {bs = bs} {c'} {t} {ps} e w) c r =
      resume-step (convert_block c b) bs r (r + rows_of b) (record { text = t; after = c' }) ps w (λ c₂. resume-rest w c₂ (r + rows_of b))

  -- from the named block, which alone may differ: what is left after the stop is the old conversion's
  pub resume :
      (b : Block) (bs : List Block) (p : Piece) (ps : List Piece) → WalkedBlocks p.after bs ps → (c : Carry) (r : ℕ)
      → walk 𝓒 c r (b ∷ bs) ≡ finish (walk_until 𝓒 c r (b ∷ bs) (carries (p ∷ ps))) (p ∷ ps)
  unfolding walk walk_until
  resume b bs p ps w c r = resume-step (convert_block c b) bs r (r + rows_of b) p ps w (λ c₂. resume-rest w c₂ (r + rows_of b))

  until-next :
      (s : Outcome) (r : ℕ) (p : Piece) (ps qs : List Piece) (k : Carry → Walk)
      → ((c : Carry) (qs₂ : List Piece) → k c ≡ pieces qs₂ → Until ps qs₂) → next_until s r p.after k ≡ pieces qs → Until (p ∷ ps) qs
  until-next (refused n i) r p ps qs k ih h = let z : ◌≡◌ {A = ℕ} 0 1 = cc in absurd (omega arith)
  until-next (done c t) r p ps qs k ih h = go (same_carry c p.after) refl h
    where
      on : (w : Walk) → k c ≡ w → same_carry c p.after ≡ false → onto (record { text = t; after = c }) w ≡ pieces qs → Until (p ∷ ps) qs
      on (stopped n i) e f h₂ = let z : ◌≡◌ {A = ℕ} 0 1 = cc in absurd (omega arith)
      on (pieces qs₂) e f h₂ = let g : record { text = t; after = c } ∷ qs₂ ≡ qs = cc in rw (← g) (on_past f (ih c qs₂ e))

      go :
          (b : Bool) → same_carry c p.after ≡ b → onto (record { text = t; after = c }) (cond b (pieces []) (k c)) ≡ pieces qs
          → Until (p ∷ ps) qs
      go true e h₂ = let g : record { text = t; after = c } ∷ [] ≡ qs = cc in rw (← g) (met e)
      go false e h₂ = on (k c) refl e h₂

  pub walk_until-until :
      (bs : List Block) (ps : List Piece) → length bs ≡ length ps → (c : Carry) (r : ℕ) (qs : List Piece)
      → walk_until 𝓒 c r bs (carries ps) ≡ pieces qs → Until ps qs
  unfolding walk_until
  walk_until-until [] [] h c r qs e = let g : [] ≡ qs = cc in rw (← g) at_end
  walk_until-until [] (p ∷ ps) h c r qs e = absurd (omega arith)
  walk_until-until (b ∷ bs) [] h c r qs e = absurd (omega arith)
  walk_until-until (b ∷ bs) (p ∷ ps) h c r qs e =
      until-next (convert_block c b) r p ps qs (λ c'. walk_until 𝓒 c' (r + rows_of b) bs (carries ps))
      (λ c' qs₂. walk_until-until bs ps (omega arith) c' (r + rows_of b) qs₂) e
