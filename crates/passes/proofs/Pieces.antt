-- Laws of the pieces that a walk comes to: they are given by the first of its blocks one after the other (`walk-gives`), no more than
-- there are blocks, each with a label that has room in a row.
use mathlib.Core.Path.{◌≡◌, refl, sym, ap, subst}
use mathlib.Core.Bool.{Bool, true, false, cond}
use mathlib.Core.List.{List, [], ◌∷◌}
use Prim.Native.Nat.{ℕ, ◌+◌, ◌≤◌, ◌<◌, min}
use Rattle.std.specs.Prelude.{Ok, Err}
use native.Mathlib.Omega.{arith}
use lib.ListN.{length}
use Rattle.text.specs.Writing.{cap}
use Rattle.mitex_meaning.specs.Outcome.{Carry, Outcome}
use Rattle.mitex_meaning.specs.Outcome.Outcome.{refused, done}
use Rattle.mitex_meaning.specs.Keeping.{Short}
use Rattle.ledger.specs.Ledger.{same_carry, Piece, written}
use Rattle.ledger.proofs.Rows.{AllShort}
use Rattle.ledger.proofs.Rows.AllShort.{short_none, short_more}
use Rattle.edit_meaning.specs.Walk.{BlockConverter, KeepsShort, Walk, onto, next, next_until, walk, walk_until}
use Rattle.edit_meaning.specs.Walk.Walk.{stopped, pieces}
use Rattle.passes.specs.Passes.{FirstPieces, walk_by, Came}
use Rattle.passes.specs.Passes.FirstPieces.{none_yet, one_more}
use Rattle.passes.specs.Passes.Came.{came_stopped, came_through}
use Rattle.refusals.specs.Refusals.{refusal_number}
use Rattle.refusals.specs.declared.Refusal.{Refusal}
use Rattle.passes.specs.declared.Standing.{Standing}

module _ (𝓒 : BlockConverter) where
  open 𝓒 use {Block, convert as convert_block, rows as rows_of}

  gives-onto :
      {c c' : Carry} {b : Block} {bs : List Block} {t : List ℕ} {ps : List Piece} (v : Walk) → convert_block c b ≡ done c' t
      → ((qs : List Piece) → v ≡ pieces qs → FirstPieces 𝓒 c' bs qs) → onto (record { text = t; after = c' }) v ≡ pieces ps
      → FirstPieces 𝓒 c (b ∷ bs) ps
  gives-onto (stopped n i) e ih h = let z : ◌≡◌ {A = ℕ} 0 1 = cc in absurd (omega arith)
  gives-onto {c} {c'} {b} {bs} {t} {ps} (pieces qs) e ih h =
      let q : record { text = t; after = c' } ∷ qs ≡ ps = cc in subst (FirstPieces 𝓒 c (b ∷ bs)) q (one_more e (ih qs refl))

  gives-next :
      {c : Carry} {b : Block} {bs : List Block} {ps : List Piece} (o : Outcome) (r : ℕ) (k : Carry → Walk) → convert_block c b ≡ o
      → ((c' : Carry) (qs : List Piece) → k c' ≡ pieces qs → FirstPieces 𝓒 c' bs qs) → next o r k ≡ pieces ps → FirstPieces 𝓒 c (b ∷ bs) ps
  gives-next (refused n i) r k e ih h = let z : ◌≡◌ {A = ℕ} 0 1 = cc in absurd (omega arith)
  gives-next (done c' t) r k e ih h = gives-onto (k c') e (ih c') h

  pub gives-stop :
      {c : Carry} {bs : List Block} (b : Bool) (v : Walk) → ((qs : List Piece) → v ≡ pieces qs → FirstPieces 𝓒 c bs qs) → (qs : List Piece)
      → cond b (pieces []) v ≡ pieces qs → FirstPieces 𝓒 c bs qs
  gives-stop {c} {bs} true v ih qs h = let q : [] ≡ qs = cc in subst (FirstPieces 𝓒 c bs) q none_yet
  gives-stop false v ih qs h = ih qs h

  gives-until :
      {c : Carry} {b : Block} {bs : List Block} {ps : List Piece} (o : Outcome) (r : ℕ) (d : Carry) (k : Carry → Walk)
      → convert_block c b ≡ o
      → ((c' : Carry) (qs : List Piece) → k c' ≡ pieces qs → FirstPieces 𝓒 c' bs qs) → next_until o r d k ≡ pieces ps → FirstPieces 𝓒 c (b ∷ bs) ps
  gives-until (refused n i) r d k e ih h = let z : ◌≡◌ {A = ℕ} 0 1 = cc in absurd (omega arith)
  gives-until (done c' t) r d k e ih h =
      gives-onto (cond (same_carry c' d) (pieces []) (k c')) e (gives-stop (same_carry c' d) (k c') (ih c')) h

  walk-all : (bs : List Block) (c : Carry) (r : ℕ) (ps : List Piece) → walk 𝓒 c r bs ≡ pieces ps → FirstPieces 𝓒 c bs ps
  unfolding walk
  walk-all [] c r ps h = let q : [] ≡ ps = cc in subst (FirstPieces 𝓒 c []) q none_yet
  walk-all (b ∷ bs) c r ps h =
      gives-next (convert_block c b) r (λ c'. walk 𝓒 c' (r + rows_of b) bs) refl (λ c' qs. walk-all bs c' (r + rows_of b) qs) h

  walk-some :
      (bs : List Block) (c : Carry) (r : ℕ) (ds : List Carry) (ps : List Piece) → walk_until 𝓒 c r bs ds ≡ pieces ps → FirstPieces 𝓒 c bs ps
  unfolding walk_until
  walk-some [] c r ds ps h = let q : [] ≡ ps = cc in subst (FirstPieces 𝓒 c []) q none_yet
  walk-some (b ∷ bs) c r [] ps h = let q : [] ≡ ps = cc in subst (FirstPieces 𝓒 c (b ∷ bs)) q none_yet
  walk-some (b ∷ bs) c r (d ∷ ds) ps h =
      gives-until (convert_block c b) r d (λ c'. walk_until 𝓒 c' (r + rows_of b) bs ds) refl (λ c' qs. walk-some bs c' (r + rows_of b) ds qs) h

  pub walk-gives :
      (edits : Bool) (bs : List Block) (c : Carry) (r : ℕ) (ds : List Carry) (ps : List Piece) → walk_by 𝓒 edits c r bs ds ≡ pieces ps
      → FirstPieces 𝓒 c bs ps
  walk-gives false bs c r ds ps h = walk-all bs c r ps h
  walk-gives true bs c r ds ps h = walk-some bs c r ds ps h

  pub gives-within : {c : Carry} {bs : List Block} {ps : List Piece} → FirstPieces 𝓒 c bs ps → length ps ≤ length bs
  gives-within none_yet = omega arith
  gives-within (one_more e g) = omega (arith, gives-within g)

  pub gives-short : KeepsShort 𝓒 → {c : Carry} {bs : List Block} {ps : List Piece} → Short c → FirstPieces 𝓒 c bs ps → AllShort ps
  gives-short keeps h none_yet = short_none
  gives-short keeps h (one_more {c} {c'} {b} {t = t} e g) = let s = keeps c c' b t h e in short_more s (gives-short keeps s g)

-- ---- where there is a block, and a carry to compare with, one is converted
some-onto : (p : Piece) (v : Walk) (qs : List Piece) → onto p v ≡ pieces qs → 0 < length qs
some-onto p (stopped n i) qs e = let z : ◌≡◌ {A = ℕ} 0 1 = cc in absurd (omega arith)
some-onto p (pieces ps) qs e = let q : p ∷ ps ≡ qs = cc in omega (arith, ap length q)

some_next : (o : Outcome) (r : ℕ) (d : Carry) (f : Carry → Walk) (qs : List Piece) → next_until o r d f ≡ pieces qs → 0 < length qs
some_next (refused n i) r d f qs e = let z : ◌≡◌ {A = ℕ} 0 1 = cc in absurd (omega arith)
some_next (done c t) r d f qs e = some-onto (record { text = t; after = c }) (cond (same_carry c d) (pieces []) (f c)) qs e

pub some-until :
    (𝓒 : BlockConverter) (c : Carry) (r : ℕ) (bs : List 𝓒.Block) (d : Carry) (ds : List Carry) (qs : List Piece) → 0 < length bs
    → walk_until 𝓒 c r bs (d ∷ ds) ≡ pieces qs → 0 < length qs
unfolding walk_until
some-until 𝓒 c r [] d ds qs h e = absurd (omega arith)
some-until 𝓒 c r (b ∷ bs) d ds qs h e = some_next (𝓒.convert c b) r d (λ c'. walk_until 𝓒 c' (r + 𝓒.rows b) bs ds) qs e

-- ---- what a measuring pass came to

pub came_refused : {from : Standing} {e : Refusal} {v : Walk} → Came from (Err e) v → v ≡ stopped (refusal_number e.reason) e.row
came_refused (came_stopped n i) = λ k. stopped (sym n k) (sym i k)

pub record Came-to (from r : Standing) (v : Walk) : Type 0 where
  pub ps : List Piece
  pub are : v ≡ pieces ps
  pub block : r.block ≡ from.block + length ps
  pub place : r.at ≡ min cap (from.at + length (written ps))

pub came-pieces : {from r : Standing} {v : Walk} → Came from (Ok r) v → Came-to from r v
came-pieces (came_through {ps = ps} b p) = record { ps = ps; are = refl; block = b; place = p }
