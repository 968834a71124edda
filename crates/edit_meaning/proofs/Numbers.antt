-- Where a refusal's number comes from: a check, a block, 6 of a change, or 15. What holds of all these holds of the number of every refusal
-- (`convert-in`, `change-in`, and so `edit-in`).
use mathlib.Core.Path.{◌≡◌, refl}
use mathlib.Core.Bool.{Bool, true, false, ◌&&◌, cond}
use mathlib.Core.List.{List, [], ◌∷◌}
use Prim.Native.Nat.{ℕ, ◌+◌, ◌*◌, ◌-◌}
use lib.ListN.{length, drop}
use lib.Dec.{leb, ltb}
use Rattle.mitex_meaning.specs.Outcome.{Carry, Outcome}
use Rattle.mitex_meaning.specs.Outcome.Outcome.{done, refused as declined}
use Rattle.mitex_meaning.specs.Conversion.{start_carry}
use Rattle.ledger.specs.Ledger.{Row, row_size, decode_rows, same_carry, Piece}
use Rattle.edit_meaning.specs.Walk.{CheckedFile, BlockConverter, Walk, onto, next, next_until, walk, walk_until}
use Rattle.edit_meaning.specs.Walk.CheckedFile.{bad, good}
use Rattle.edit_meaning.specs.Walk.Walk.{stopped, pieces}
use Rattle.edit_meaning.specs.Edit.{Answer, Result, room, room_for_text, settle, from_check, conversion, convert_document}
use Rattle.edit_meaning.specs.Edit.{row_carries, again, edit}
use Rattle.edit_meaning.specs.Numbers.{OfConvert, OfEdit}
use Rattle.edit_meaning.specs.Changes.{Kind, old_count, change_fits, Stretch, come_count, gone_count, Remade, stretch, before_rest, stretch_then}
use Rattle.edit_meaning.specs.Changes.{putting_in, without_first, taking_out, each_from, remake, text_over, exchange, exchange_or}
use Rattle.edit_meaning.specs.Changes.{change_checked, change}
use Rattle.edit_meaning.specs.Changes.Kind.{replace, put_in, take_out, replace_all}
use Rattle.edit_meaning.specs.Changes.Remade.{halted, remade}
use Rattle.edit_meaning.proofs.Changes.{edit-change}

either : (Q : Answer → Type 0) (b : Bool) (x y : Result) → Q x.answer → Q y.answer → Q (cond b x y).answer
either Q true x y h k = h
either Q false x y h k = k

module _ (P : ℕ → Type 0) where
  -- ---- blocks one after the other

  abbrev WalkIn : Walk → Type 0
  WalkIn (stopped n i) = P n
  WalkIn (pieces ps) = Unit {0}

  abbrev OutcomeIn : Outcome → Type 0
  OutcomeIn o = (n i : ℕ) → o ≡ declined n i → P n

  onto-in : (p : Piece) (w : Walk) → WalkIn w → WalkIn (onto p w)
  onto-in p (stopped n i) h = h
  onto-in p (pieces ps) h = tt

  next-in : (o : Outcome) (r : ℕ) (k : Carry → Walk) → OutcomeIn o → ((c : Carry) → WalkIn (k c)) → WalkIn (next o r k)
  next-in (declined n i) r k h ih = h n i refl
  next-in (done c t) r k h ih = onto-in _ (k c) (ih c)

  stop-in : (b : Bool) (w : Walk) → WalkIn w → WalkIn (cond b (pieces []) w)
  stop-in true w h = tt
  stop-in false w h = h

  until-in :
      (o : Outcome) (r : ℕ) (d : Carry) (k : Carry → Walk) → OutcomeIn o → ((c : Carry) → WalkIn (k c)) → WalkIn (next_until o r d k)
  until-in (declined n i) r d k h ih = h n i refl
  until-in (done c t) r d k h ih = onto-in _ (cond (same_carry c d) (pieces []) (k c)) (stop-in (same_carry c d) (k c) (ih c))

  abbrev RemadeIn : Remade → Type 0
  RemadeIn (halted n i) = P n
  RemadeIn (remade ss) = Unit {0}

  stretch-in : (k : Kind) (w : Walk) → WalkIn w → RemadeIn (stretch k w)
  stretch-in k (stopped n i) h = h
  stretch-in k (pieces qs) h = tt

  before-in : (s : Stretch) (x : Remade) → RemadeIn x → RemadeIn (before_rest s x)
  before-in s (halted n i) h = h
  before-in s (remade ss) h = tt

  then-in :
      (k : ℕ) (w : Walk) (rest : ℕ → Remade) → WalkIn w → ((n : ℕ) → RemadeIn (rest n)) → RemadeIn (stretch_then k w rest)
  then-in k (stopped n i) rest h g = h
  then-in k (pieces qs) rest h g = before-in _ (rest (k + length qs)) (g (k + length qs))

  either-in : (b : Bool) (x y : Remade) → RemadeIn x → RemadeIn y → RemadeIn (cond b x y)
  either-in true x y h g = h
  either-in false x y h g = g

  module _ (𝓒 : BlockConverter) (blocks : (c : Carry) (b : 𝓒.Block) → OutcomeIn (𝓒.convert c b)) where
    walk-in : (bs : List 𝓒.Block) (c : Carry) (r : ℕ) → WalkIn (walk 𝓒 c r bs)
    unfolding walk
    walk-in [] c r = tt
    walk-in (b ∷ bs) c r =
        next-in (𝓒.convert c b) r (λ c'. walk 𝓒 c' (r + 𝓒.rows b) bs) (blocks c b) (λ c'. walk-in bs c' (r + 𝓒.rows b))

    walk_until-in : (bs : List 𝓒.Block) (c : Carry) (r : ℕ) (ds : List Carry) → WalkIn (walk_until 𝓒 c r bs ds)
    unfolding walk_until
    walk_until-in [] c r ds = tt
    walk_until-in (b ∷ bs) c r [] = tt
    walk_until-in (b ∷ bs) c r (d ∷ ds) =
        until-in (𝓒.convert c b) r d (λ c'. walk_until 𝓒 c' (r + 𝓒.rows b) bs ds) (blocks c b)
        (λ c'. walk_until-in bs c' (r + 𝓒.rows b) ds)

    -- ---- Convert

    module _ (checks : (tree : List ℕ) (n i : ℕ) → 𝓒.check tree ≡ bad n i → P n) (full : P 15) where
      settle-in : (w : Walk) (text ledger : List ℕ) → WalkIn w → OfConvert P (settle w text ledger).answer
      unfolding settle
      settle-in (stopped n i) text ledger h = h
      settle-in (pieces ps) text ledger h = either (OfConvert P) (room (length text) (length ledger) ps) _ _ tt full

      from_in : (x : CheckedFile 𝓒.Block) → ((n i : ℕ) → x ≡ bad n i → P n) → WalkIn (from_check 𝓒 x)
      from_in (bad n i) h = h n i refl
      from_in (good bs) h = walk-in bs start_carry 1

      pub convert-in : (tree text ledger : List ℕ) → OfConvert P (convert_document 𝓒 tree text ledger).answer
      unfolding convert_document conversion
      convert-in tree text ledger = settle-in (conversion 𝓒 tree) text ledger (from_in (𝓒.check tree) (checks tree))

    -- ---- a change, so Edit too

    module _ (bs : List 𝓒.Block) (rows : List Row) where
      without_in : (c : Carry) (r : ℕ) (xs : List 𝓒.Block) (ds : List Carry) → WalkIn (without_first 𝓒 bs rows c r xs ds)
      without_in c r xs [] = tt
      without_in c r xs (d ∷ ds) = stop-in (same_carry c d) (walk_until 𝓒 c r xs ds) (walk_until-in xs c r ds)

      each_in : (ks : List ℕ) (from : ℕ) → RemadeIn (each_from 𝓒 bs rows from ks)
      unfolding each_from again
      each_in [] from = tt
      each_in (k ∷ ks) from =
          either-in (ltb k from) _ _ (each_in ks from)
          (then-in k (again 𝓒 bs k rows) (λ next. each_from 𝓒 bs rows next ks) (walk_until-in _ _ _ _) (λ next. each_in ks next))

      remake-in : (k : Kind) → RemadeIn (remake 𝓒 bs rows k)
      unfolding remake again putting_in taking_out
      remake-in (replace k) = stretch-in (replace k) (again 𝓒 bs k rows) (walk_until-in _ _ _ _)
      remake-in (put_in k) = stretch-in (put_in k) (putting_in 𝓒 bs rows k) (walk_until-in _ _ _ _)
      remake-in (take_out k) = stretch-in (take_out k) (taking_out 𝓒 bs rows k) (without_in _ _ _ (row_carries (drop k rows)))
      remake-in (replace_all ks) = each_in ks 0

    module _ (checks : (tree : List ℕ) (n i : ℕ) → 𝓒.check tree ≡ bad n i → P n) (full : P 15) (six : P 6) where
      exchange-in :
          (n kept : ℕ) (rows : List Row) (x : Remade) (text ledger : List ℕ) → RemadeIn x
          → OfEdit P (exchange_or n kept rows x text ledger).answer
      unfolding exchange
      exchange-in n kept rows (halted m i) text ledger h = h
      exchange-in n kept rows (remade ss) text ledger h =
          either (OfEdit P) (room_for_text (length (text_over kept rows ss text)) (length text) && leb (row_size * (n + come_count ss - gone_count ss)) (length ledger)) _ _ tt full

      checked-in :
          (x : CheckedFile 𝓒.Block) → ((n i : ℕ) → x ≡ bad n i → P n) → (k : Kind) (kept : ℕ) (text ledger : List ℕ)
          → OfEdit P (change_checked 𝓒 x k kept text ledger).answer
      checked-in (bad n i) h k kept text ledger = h n i refl
      checked-in (good bs) h k kept text ledger =
          let n : ℕ = old_count k (length bs) in
          let rows : List Row = decode_rows n ledger in
          either (OfEdit P) (change_fits k (length bs) kept text ledger) _ _
          (exchange-in n kept rows (remake 𝓒 bs rows k) text ledger (remake-in bs rows k)) six

      pub change-in : (tree : List ℕ) (k : Kind) (kept : ℕ) (text ledger : List ℕ) → OfEdit P (change 𝓒 tree k kept text ledger).answer
      unfolding change
      change-in tree k kept text ledger = checked-in (𝓒.check tree) (checks tree) k kept text ledger

      pub edit-in : (tree : List ℕ) (k kept : ℕ) (text ledger : List ℕ) → OfEdit P (edit 𝓒 tree k kept text ledger).answer
      edit-in tree k kept text ledger =
          rw (edit-change 𝓒 tree k kept text ledger) (change-in tree (replace k) kept text ledger)
