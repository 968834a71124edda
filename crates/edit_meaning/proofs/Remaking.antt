-- What a change converts again, beside the conversion of the new document (`Remakes`): it is halted as that conversion is stopped, or its
-- stretches turn the old pieces into the new ones, and count as demanded. Here for a change of one block; Together.antt has several. A block
-- put in is the case of a block replaced whose old piece was empty and carried on what it began with; a block taken out leaves the blocks
-- after it to begin with another carry.
use mathlib.Core.Path.{◌≡◌, refl, sym, ap, ap₂, subst, ◌∙◌}
use mathlib.Core.Bool.{Bool, true, false, cond}
use mathlib.Core.List.{List, [], ◌∷◌, ◌++◌, append_assoc}
use Prim.Native.Nat.{ℕ, zero, suc, ◌+◌, ◌-◌, ◌≤◌, ◌<◌}
use native.Mathlib.Nat.{add-zero, zero-add}
use native.Mathlib.Omega.{arith}
use lib.ListN.{length, take, drop, take-append-drop, length-append, length-drop}
use lib.Seq.{length-take-le, drop_at, drop-drop}
use Rattle.mitex_meaning.specs.Outcome.{Carry}
use Rattle.mitex_meaning.specs.Conversion.{start_carry}
use Rattle.ledger.specs.Ledger.{same_carry, Piece, rows_from}
use Rattle.ledger.proofs.Carries.{same_carry-true}
use Rattle.edit_meaning.specs.Walk.{BlockConverter, Walk, carries, carry_after, rows_all, walk, walk_until, count_to}
use Rattle.edit_meaning.specs.Walk.Walk.{stopped, pieces}
use Rattle.edit_meaning.specs.Run.{OnlyAt}
use Rattle.edit_meaning.specs.Changes.{Kind, old_count, named_block, Stretch, come_count, Remade, stretch, putting_in, taking_out, remake}
use Rattle.edit_meaning.specs.Changes.{OneMore, carry_at, count_from, is_among, count_by}
use Rattle.edit_meaning.specs.Changes.Kind.{replace, put_in, take_out, replace_all}
use Rattle.edit_meaning.specs.Changes.Remade.{halted, remade}
use Rattle.edit_meaning.proofs.Walks.{carry_after-at, onto_all, onto_all-pieces, onto_all-stopped, headed}
use Rattle.edit_meaning.proofs.Walks.{finish, resume, resume-rest}
use Rattle.edit_meaning.proofs.Walks.{WalkedBlocks, walked-walk, walk-past, walked-take, walked-drop, walked-length}
use Rattle.edit_meaning.proofs.Walks.{Until, at_end, met, on_past, until-within, until-count, walk_until-until}
use Rattle.edit_meaning.proofs.Stretches.{Spliced, as_kept, at_stretch}
use Rattle.edit_meaning.proofs.Reading.{again-rows, row_carries-rows, carries-drop, carry_before-take, carry_at-carries}

-- the pieces after the first j of ns are those after the first j' of ps
pub record Shared (j j' : ℕ) (ns ps : List Piece) : Type 0 where
  pub now : List Piece
  pub was : List Piece
  pub back : List Piece
  pub now_length : length now ≡ j
  pub was_length : length was ≡ j'
  pub new : ns ≡ now ++ back
  pub old : ps ≡ was ++ back

pub until-some : {ps qs : List Piece} → Until ps qs → 0 < length ps → 0 < length qs
until-some at_end h = absurd (omega arith)
until-some (met e) h = omega arith
until-some (on_past e u) h = omega arith

drop-less : (n : ℕ) (p : Piece) (ps : List Piece) → 0 < n → drop n (p ∷ ps) ≡ drop (n - 1) ps
drop-less zero p ps h = absurd (omega arith)
drop-less (suc n) p ps h = ap (λ i. drop i ps) (let e : n ≡ suc n - 1 = omega arith in e)

-- what was not converted again is what it was, `count` blocks being converted (`moved_by`)
abbrev AfterMoved : Kind → ℕ → List Piece → List Piece → Type 0
AfterMoved k count ps ns = Shared (named_block k + count) (named_block k + old_count k count) ns ps

abbrev pub PiecesMoved : Kind → ℕ → List Piece → List Piece → Type 0
PiecesMoved (replace k) count ps ns = AfterMoved (replace k) count ps ns
PiecesMoved (put_in k) count ps ns = AfterMoved (put_in k) count ps ns
PiecesMoved (take_out k) count ps ns = AfterMoved (take_out k) count ps ns
PiecesMoved (replace_all ks) count ps ns =
    (i : ℕ) → is_among i ks ≡ false → carry_after start_carry (take i ns) ≡ carry_after start_carry (take i ps)
    → take 1 (drop i ns) ≡ take 1 (drop i ps)

module _ (𝓒 : BlockConverter) where
  open 𝓒 use {Block, rows as rows_of}

  -- a change of a document whose pieces are ps to one whose blocks are bs
  pub data Remakes (k : Kind) (bs : List Block) (ps : List Piece) : Remade → Type 0 where
    halts : {n i : ℕ} → walk 𝓒 start_carry 1 bs ≡ stopped n i → Remakes k bs ps (halted n i)
    comes_to :
        {ss : List Stretch} (ns : List Piece) → walk 𝓒 start_carry 1 bs ≡ pieces ns → Spliced 0 ps ss ns
        → come_count ss ≡ count_by k (carries ns) (carries ps) → PiecesMoved k (come_count ss) ps ns → Remakes k bs ps (remade ss)

  -- ---- one stretch: after it stand the pieces zs, but those that the walk has passed

  abbrev single-after : ℕ → List Piece → List Piece → List Piece → List Piece
  single-after k ps zs qs = take k ps ++ (qs ++ drop (length qs) zs)

  -- as many blocks as there were before give way to the pieces qs, and those after them are the same
  record Single (kind : Kind) (ps zs qs : List Piece) : Type 0 where
    within : old_count kind (length qs) ≤ length (drop (named_block kind) ps)
    rest : drop (length qs) zs ≡ drop (old_count kind (length qs)) (drop (named_block kind) ps)
    counted : length qs ≡ count_by kind (carries (single-after (named_block kind) ps zs qs)) (carries ps)
    moved :
        AfterMoved kind (length qs) ps (single-after (named_block kind) ps zs qs)
        → PiecesMoved kind (length qs) ps (single-after (named_block kind) ps zs qs)

  module _ (kind : Kind) where
    abbrev k : ℕ
    k = named_block kind

    abbrev gone : ℕ → ℕ
    gone n = old_count kind n

    module _ {bs : List Block} {ps zs : List Piece} (h : k ≤ length ps) where
      single-pieces :
          (qs : List Piece) → walk 𝓒 start_carry 1 bs ≡ onto_all (take k ps) (pieces (qs ++ drop (length qs) zs))
          → Single kind ps zs qs → Remakes kind bs ps (stretch kind (pieces qs))
      single-pieces qs e si =
          let a : List Piece = take k ps in
          let m : List Piece = take (gone (length qs)) (drop k ps) in
          let z : List Piece = drop (gone (length qs)) (drop k ps) in
          let ns : List Piece = single-after k ps zs qs in
          let s : Stretch = record { block = k; gone = gone (length qs); come = qs } in
          let na : length a ≡ k = length-take-le k ps h in
          let nm : length m ≡ gone (length qs) = length-take-le (gone (length qs)) (drop k ps) si.within in
          let p : ps ≡ a ++ (m ++ z) = sym (rw (take-append-drop (gone (length qs)) (drop k ps)) (take-append-drop k ps)) in
          let n : ns ≡ a ++ (qs ++ z) = ap (λ y. a ++ (qs ++ y)) si.rest in
          let sp : Spliced 0 ps (s ∷ []) ns
          = at_stretch {i = 0} a m z z (sym (zero-add (length a) ∙ na)) (sym nm) p n (as_kept refl) in
          let sh : AfterMoved kind (length qs) ps ns
          = record {
            now = a ++ qs;
            was = a ++ m;
            back = z;
            now_length = rw (length-append, na);
            was_length = rw (length-append, na, nm);
            new = n ∙ sym (append_assoc a qs z);
            old = p ∙ sym (append_assoc a m z);
          } in
          comes_to ns (e ∙ onto_all-pieces a (qs ++ drop (length qs) zs)) sp (add-zero (length qs) ∙ si.counted)
          (subst (λ count. PiecesMoved kind count ps ns) (sym (add-zero (length qs))) (si.moved sh))

      single-walk :
          (w : Walk) → walk 𝓒 start_carry 1 bs ≡ onto_all (take k ps) (finish w zs)
          → ((qs : List Piece) → w ≡ pieces qs → Single kind ps zs qs) → Remakes kind bs ps (stretch kind w)
      single-walk (stopped n i) e si = halts (e ∙ onto_all-stopped (take k ps) n i)
      single-walk (pieces qs) e si = single-pieces qs e (si qs refl)

  -- what the new document carries from block k on
  carries-after :
      (k : ℕ) (ps zs qs : List Piece) → k ≤ length ps → drop k (carries (single-after k ps zs qs)) ≡ carries (qs ++ drop (length qs) zs)
  carries-after k ps zs qs h =
      carries-drop k (single-after k ps zs qs) ∙ ap carries (drop_at (take k ps) (qs ++ drop (length qs) zs) k (length-take-le k ps h))

  -- ---- the blocks before block k are the same

  module _ (bs bs' : List Block) (ps : List Piece) (w : WalkedBlocks 𝓒 start_carry bs ps) where
    walk-onward :
        (k : ℕ) → take k bs' ≡ take k bs
        → walk 𝓒 start_carry 1 bs'
        ≡ onto_all (take k ps) (walk 𝓒 (carry_after start_carry (take k ps)) (1 + rows_all rows_of (take k bs')) (drop k bs'))
    walk-onward k e =
        ap (walk 𝓒 start_carry 1) (sym (take-append-drop k bs'))
        ∙ walk-past 𝓒 {xs = take k bs'} {ps = take k ps} (rw e (walked-take 𝓒 k w)) 1 (drop k bs')

    module _ (k : ℕ) where
      abbrev c : Carry
      c = carry_after start_carry (take k ps)

      abbrev r : ℕ
      r = 1 + rows_all rows_of (take k bs')

      abbrev zs : List Piece
      zs = drop k ps

      abbrev zs₂ : List Piece
      zs₂ = drop (suc k) ps

      -- after block k, which carried on p's carry
      walked-onward : (p : Piece) → zs ≡ p ∷ zs₂ → WalkedBlocks 𝓒 p.after (drop (suc k) bs) zs₂
      walked-onward p f = subst (λ d. WalkedBlocks 𝓒 d (drop (suc k) bs) zs₂) (carry_after-at start_carry k ps p f) (walked-drop 𝓒 (suc k) w)

      -- ---- a block replaced

      module _ (only : OnlyAt k bs bs') (h : k < length bs') where
        same_count : length bs' ≡ length ps
        same_count = only.count ∙ walked-length 𝓒 w

        replaced-at : k < length ps
        replaced-at = omega (arith, same_count)

        replaced :
            (x : Block) × (drop k bs' ≡ x ∷ drop (suc k) bs') → (p : Piece) × (zs ≡ p ∷ zs₂)
            → walk 𝓒 c r (drop k bs') ≡ finish (walk_until 𝓒 c r (drop k bs') (carries zs)) zs
        replaced (x, e) (p, f) = rw (e, f) (resume 𝓒 x (drop (suc k) bs') p zs₂ (rw only.after (walked-onward p f)) c r)

        replaced-single :
            (qs : List Piece) → walk_until 𝓒 c r (drop k bs') (carries zs) ≡ pieces qs → Single (replace k) ps zs qs
        replaced-single qs u =
            let n : length (drop k bs') ≡ length zs = simp length-drop (ap (λ i. i - k) same_count) in
            let un : Until zs qs = walk_until-until 𝓒 (drop k bs') zs n c r qs u in
            record {
              within = until-within un;
              rest = refl;
              counted =
                  until-count un
                  ∙ ap₂ (λ cs ds. count_to cs ds) (sym (carries-after k ps zs qs (omega (arith, replaced-at)))) (sym (carries-drop k ps));
              moved = λ sh. sh;
            }

        pub replaces : Remakes (replace k) bs' ps (remake 𝓒 bs' (rows_from 0 ps) (replace k))
        unfolding remake
        replaces =
            rw (again-rows 𝓒 bs' ps k (omega (arith, replaced-at)))
            (single-walk (replace k) (omega (arith, replaced-at)) (walk_until 𝓒 c r (drop k bs') (carries zs))
            (walk-onward k only.before ∙ ap (onto_all (take k ps)) (replaced (headed k bs' h) (headed k ps replaced-at))) replaced-single)

      -- ---- a block put in: before it stood a blank, which carried on what it began with

      module _ (more : OneMore k bs bs') (h : k < length bs') where
        one-more-count : length bs' ≡ suc (length ps)
        one-more-count = more.count ∙ ap suc (walked-length 𝓒 w)

        put-at : k ≤ length ps
        put-at = omega (arith, one-more-count)

        abbrev blank : Piece
        blank = record { text = []; after = c }

        put-in :
            (x : Block) × (drop k bs' ≡ x ∷ drop (suc k) bs')
            → walk 𝓒 c r (drop k bs') ≡ finish (walk_until 𝓒 c r (drop k bs') (carries (blank ∷ zs))) (blank ∷ zs)
        put-in (x, e) = rw e (resume 𝓒 x (drop (suc k) bs') blank zs (rw more.back (walked-drop 𝓒 k w)) c r)

        put-in-single :
            (qs : List Piece) → walk_until 𝓒 c r (drop k bs') (carries (blank ∷ zs)) ≡ pieces qs
            → Single (put_in k) ps (blank ∷ zs) qs
        put-in-single qs u =
            let n : length (drop k bs') ≡ length (blank ∷ zs) = rw (length-drop k bs', length-drop k ps) (omega (arith, one-more-count)) in
            let un : Until (blank ∷ zs) qs = walk_until-until 𝓒 (drop k bs') (blank ∷ zs) n c r qs u in
            let some : 0 < length qs = until-some un (omega arith) in
            record {
              within = omega (arith, until-within un);
              rest = drop-less (length qs) blank zs some;
              counted =
                  until-count un
                  ∙ ap₂ (λ cs ds. count_to cs ds) (sym (carries-after k ps (blank ∷ zs) qs put-at))
                  (ap₂ (λ d ds. d ∷ ds) (sym (carry_at-carries k ps)) (sym (carries-drop k ps)));
              moved = λ sh. sh;
            }

        putting-rows : putting_in 𝓒 bs' (rows_from 0 ps) k ≡ walk_until 𝓒 c r (drop k bs') (carries (blank ∷ zs))
        unfolding putting_in
        putting-rows = rw (carry_before-take k ps put-at, row_carries-rows 0 k ps)

        pub puts-in : Remakes (put_in k) bs' ps (remake 𝓒 bs' (rows_from 0 ps) (put_in k))
        unfolding remake
        puts-in =
            rw putting-rows
            (single-walk (put_in k) put-at (walk_until 𝓒 c r (drop k bs') (carries (blank ∷ zs)))
            (walk-onward k more.front ∙ ap (onto_all (take k ps)) (put-in (headed k bs' h))) put-in-single)

      -- ---- a block taken out: those after it begin with the carry that it began with

      module _ (less : OneMore k bs' bs) (h : k < suc (length bs')) where
        one-less-count : suc (length bs') ≡ length ps
        one-less-count = sym less.count ∙ walked-length 𝓒 w

        taken_at : k < length ps
        taken_at = omega (arith, one-less-count)

        -- p is the piece of the block
        module _ (p : Piece) (f : zs ≡ p ∷ zs₂) where
          abbrev out : Bool → Walk
          out b = cond b (pieces []) (walk_until 𝓒 c r (drop k bs') (carries zs₂))

          walked-out : WalkedBlocks 𝓒 p.after (drop k bs') zs₂
          walked-out = rw (← less.back) (walked-onward p f)

          taken_out : (b : Bool) → same_carry c p.after ≡ b → walk 𝓒 c r (drop k bs') ≡ finish (out b) zs₂
          taken_out true e = ap (λ d. walk 𝓒 d r (drop k bs')) (same_carry-true c p.after e) ∙ walked-walk 𝓒 walked-out r
          taken_out false e = resume-rest 𝓒 walked-out c r

          taken-out-until : (qs : List Piece) → out false ≡ pieces qs → Until zs₂ qs
          taken-out-until qs u =
              let n : length (drop k bs') ≡ length zs₂ = rw (length-drop k bs', length-drop (suc k) ps) (omega (arith, one-less-count)) in
              walk_until-until 𝓒 (drop k bs') zs₂ n c r qs u

          taken-out-within : (b : Bool) (qs : List Piece) → out b ≡ pieces qs → length qs ≤ length zs₂
          taken-out-within true qs u = let q : [] ≡ qs = cc in rw (← q) (omega arith)
          taken-out-within false qs u = until-within (taken-out-until qs u)

          taken-out-count :
              (b : Bool) → same_carry c p.after ≡ b → (qs : List Piece) → out b ≡ pieces qs
              → length qs ≡ count_from (carry_at k (carries ps)) (drop k (carries (single-after k ps zs₂ qs))) (drop k (carries ps))
          taken-out-count true e qs u = let q : [] ≡ qs = cc in rw (carry_at-carries k ps, carries-drop k ps, f, e, ← q)
          taken-out-count false e qs u =
              rw (carry_at-carries k ps, carries-drop k ps, f, e, carries-after k ps zs₂ qs (omega (arith, taken_at)))
              (until-count (taken-out-until qs u))

          taken-out-single :
              (b : Bool) → same_carry c p.after ≡ b → (qs : List Piece) → out b ≡ pieces qs → Single (take_out k) ps zs₂ qs
          taken-out-single b e qs u =
              let i : suc k + length qs ≡ k + suc (length qs) = omega arith in
              record {
                within = omega (arith, taken_at, length-drop k ps, length-drop (suc k) ps, taken-out-within b qs u);
                rest = drop-drop (length qs) (suc k) ps ∙ ap (λ n. drop n ps) i ∙ sym (drop-drop (suc (length qs)) k ps);
                counted = taken-out-count b e qs u;
                moved = λ sh. sh;
              }

          taking-rows : taking_out 𝓒 bs' (rows_from 0 ps) k ≡ out (same_carry c p.after)
          unfolding taking_out
          taking-rows = rw (carry_before-take k ps (omega (arith, taken_at)), row_carries-rows 0 k ps, f)

          taken-out-comes : Remakes (take_out k) bs' ps (remake 𝓒 bs' (rows_from 0 ps) (take_out k))
          unfolding remake
          taken-out-comes =
              let b : Bool = same_carry c p.after in
              rw taking-rows
              (single-walk (take_out k) (omega (arith, taken_at)) (out b)
              (walk-onward k (sym less.front) ∙ ap (onto_all (take k ps)) (taken_out b refl)) (taken-out-single b refl))

        pub takes_out : Remakes (take_out k) bs' ps (remake 𝓒 bs' (rows_from 0 ps) (take_out k))
        takes_out = let (p, f) = headed k ps taken_at in taken-out-comes p f
