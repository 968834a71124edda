-- A measuring pass, one block a turn. `walk_from` is the walk over the blocks that are left; after some blocks, who finishes it from there
-- has finished it from the start (`BlocksPassed`). A turn ends the pass by a refusal (`blocks-passed-refused`) or at the kept carry (`blocks-passed-met`), or
-- the pass goes on (`blocks-passed-next`) until no block is left (`blocks-passed-end`).
use mathlib.Core.Path.{◌≡◌, refl, sym, ap, subst, ◌∙◌}
use mathlib.Core.Bool.{Bool, true, false, cond, ◌&&◌}
use mathlib.Core.List.{List, [], ◌∷◌}
use Prim.Native.Nat.{ℕ, zero, suc, ◌+◌, ◌-◌, ◌≤◌, ◌<◌, min}
use Rattle.std.specs.Prelude.{Result, Ok, Err}
use native.Mathlib.Omega.{arith}
use lib.ListN.{length, drop, length-append, length-drop}
use Rattle.text.specs.Writing.{cap}
use Rattle.mitex_syntax.specs.Tree.{Tree, Forest, size, count}
use Rattle.mitex_syntax.specs.Tree.Forest.{none, more}
use Rattle.mitex_syntax.proofs.Trees.{length-rowss}
use Rattle.mitex_meaning.specs.Outcome.{Carry, Outcome, label_most}
use Rattle.mitex_meaning.specs.Outcome.Outcome.{refused, done}
use Rattle.mitex_meaning.specs.Conversion.{start_carry}
use Rattle.mitex_meaning.specs.State.{carry_of}
use Rattle.mitex_meaning.specs.Contract.{Place, Agrees}
use Rattle.mitex_meaning.specs.Contract.Agrees.{declines, accepts}
use Rattle.mitex_meaning.proofs.Agreeing.{number-some}
use Rattle.ledger.specs.Ledger.{decode_rows, row_at, same_carry, Piece, written}
use Rattle.edit_meaning.specs.Walk.{Walk, onto, next, next_until, walk, walk_until}
use Rattle.edit_meaning.specs.Walk.Walk.{stopped, pieces}
use Rattle.edit_meaning.specs.Walk.{BlockConverter}
use Rattle.edit_meaning.specs.Edit.{carry_before, row_carries}
use Rattle.edit_meaning.proofs.Bytes.{carry_before-at, row_carries-at}
use Rattle.manuscript.specs.Manuscript.{listed, block, blocks_in}
use Rattle.passes.specs.Passes.{BlocksUpTo, row_no, converter_of, walked_to, Stepped, Steps, carries_on, kept_block, MeetsBefore, walk_by, Came}
use Rattle.passes.specs.Passes.Came.{came_stopped, came_through}
use Rattle.refusals.specs.declared.Refusal.{Refusal}
use Rattle.passes.specs.declared.Standing.{Standing}
use Rattle.passes.proofs.Stepping.{fine, same-mode, onward}
use Rattle.passes.proofs.Reaching.{count-sizes}

-- ---- what is stated

-- the walk over the blocks that a pass has before it
abbrev pub walk_from :
    {rules index rows text : List ℕ} {s : Standing} {n : ℕ} → BlocksUpTo rules index rows text s n → ℕ → Bool → List ℕ → Walk
walk_from {s = s} {n} w was edits kept =
    walk_by (converter_of w.given) edits (carry_of s.converter) (row_no s) (listed w.given.blocks)
    (carries_on (kept_block (suc s.block) n was) (decode_rows was kept))

-- some blocks were passed: who finishes from here has finished from the start
module _ {rules index rows text : List ℕ} {from : Standing} {n : ℕ} (w : BlocksUpTo rules index rows text from n) where
  pub record BlocksPassed (was : ℕ) (edits : Bool) (kept : List ℕ) (s : Standing) : Type 0 where
    pub whole : BlocksUpTo rules index rows text s n
    pub near : n ≤ suc s.block + was
    pub finish : (r : Result Standing Refusal) → Came s r (walk_from whole was edits kept) → Came from r (walk_from w was edits kept)

-- the carry before the kept block j, and those before the blocks after it
pub carries_on-at :
    (n j : ℕ) (l : List ℕ) → j ≤ n
    → carries_on j (decode_rows n l) ≡ carry_before j (decode_rows n l) ∷ carries_on (suc j) (decode_rows n l)
carries_on-at n zero l h = refl
carries_on-at n (suc j) l h =
    row_carries-at n j l (omega arith)
    ∙ ap (λ c. c ∷ row_carries (drop (suc j) (decode_rows n l))) (sym (carry_before-at n j l (omega arith)))

-- a carry compared with the one before kept block j: a document's first, or that of the row before
module _ (s : Standing) (kept : List ℕ) {b : Bool} where
  pub meets-first : (j : ℕ) → j ≡ 0 → b ≡ same_carry (carry_of s.converter) start_carry → MeetsBefore j s kept b
  meets-first j e q n h =
      q ∙ sym (ap (λ i. same_carry (carry_of s.converter) (carry_before i (decode_rows n kept))) e)

  pub meets-row :
      (j last : ℕ) → suc last ≡ j → b ≡ same_carry (carry_of s.converter) (row_at last kept).carry → MeetsBefore j s kept b
  meets-row j last e q n i =
      q
      ∙ ap (same_carry (carry_of s.converter)) (sym (carry_before-at n last kept (omega arith)))
      ∙ ap (λ k. same_carry (carry_of s.converter) (carry_before k (decode_rows n kept))) e

-- ---- one block of a walk

-- an outcome, and then what follows from its carry, but nothing at the kept carry of a change
abbrev walk_unless_kept : Bool → Outcome → ℕ → Carry → (Carry → Walk) → Walk
walk_unless_kept edits (refused n i) r d k = stopped n (r + i)
walk_unless_kept edits (done c t) r d k = onto (record { text = t; after = c }) (cond (edits && same_carry c d) (pieces []) (k c))

next-turn : (o : Outcome) (r : ℕ) (d : Carry) (k : Carry → Walk) → next o r k ≡ walk_unless_kept false o r d k
next-turn (refused n i) r d k = refl
next-turn (done c t) r d k = refl

until-turn : (o : Outcome) (r : ℕ) (d : Carry) (k : Carry → Walk) → next_until o r d k ≡ walk_unless_kept true o r d k
until-turn (refused n i) r d k = refl
until-turn (done c t) r d k = refl

module _ (𝓒 : BlockConverter) where
  open 𝓒 use {Block, convert as convert_block, rows as rows_of}

  walk_by-turn :
      (edits : Bool) (c : Carry) (r : ℕ) (b : Block) (bs : List Block) (d : Carry) (ds : List Carry)
      → walk_by 𝓒 edits c r (b ∷ bs) (d ∷ ds) ≡ walk_unless_kept edits (convert_block c b) r d (λ c'. walk_by 𝓒 edits c' (r + rows_of b) bs ds)
  unfolding walk walk_until
  walk_by-turn false c r b bs d ds = next-turn (convert_block c b) r d (λ c'. walk 𝓒 c' (r + rows_of b) bs)
  walk_by-turn true c r b bs d ds = until-turn (convert_block c b) r d (λ c'. walk_until 𝓒 c' (r + rows_of b) bs ds)

  walk_by-end : (edits : Bool) (c : Carry) (r : ℕ) (ds : List Carry) → walk_by 𝓒 edits c r [] ds ≡ pieces []
  unfolding walk walk_until
  walk_by-end false c r ds = refl
  walk_by-end true c r ds = refl

-- the pass from s to r made a piece, and the pass from r to q went on
module _ {s r : Standing} (p : Piece) (counted : r.block ≡ s.block + 1)
    (place : r.at ≡ min cap (s.at + length p.text)) where
  came-onto : {q : Result Standing Refusal} {v : Walk} → Came r q v → Came s q (onto p v)
  came-onto (came_stopped e f) = came_stopped e f
  came-onto (came_through {ps = ps} f g) = came_through {ps = p ∷ ps} (omega arith) (omega (arith, length-append p.text (written ps)))

-- by what is known of a block's answer
module _ {s : Standing} {x : Place} {row : ℕ} {out out' : List ℕ} (edits : Bool) (d : Carry) (k : Carry → Walk) where
  came_refused :
      {o : Outcome} {e : Refusal} → Agrees (walked_to s (Err e)) x row s.at out out' o → Came s (Err e) (walk_unless_kept edits o row d k)
  came_refused (declines h u v) = came_stopped u v
  came_refused {e = e} (accepts u ex ec l w) = let h = number-some e.reason in absurd (omega arith)

  came-after :
      {o : Outcome} {r : Standing} {q : Result Standing Refusal} → Agrees (walked_to s (Ok r)) x row s.at out out' o
      → r.block ≡ s.block + 1 → Came r q (cond (edits && same_carry (carry_of r.converter) d) (pieces []) (k (carry_of r.converter)))
      → Came s q (walk_unless_kept edits o row d k)
  came-after (declines h e f) counted m = absurd (omega arith)
  came-after {r = r} {q} (accepts {c} {w = t} u ex ec l w) counted m =
      came-onto {r = r} (record { text = t; after = c }) counted w.next
      (subst (λ (y : Carry). Came r q (cond (edits && same_carry y d) (pieces []) (k y))) ec m)

-- nothing more was measured
pub came-here : {r : Standing} → r.at ≤ cap → Came r (Ok r) (pieces [])
came-here low = came_through {ps = []} (omega arith) (omega arith)

-- ---- the block at which a pass stands

count-more : (t : Tree) (f : Forest) → count (more t f) ≡ 1 + count f
unfolding count
count-more t f = refl

count-some : (f : Forest) → 0 < count f → (t : Tree) × ((g : Forest) × (f ≡ more t g))
unfolding count
count-some none h = absurd (omega arith)
count-some (more t g) h = (t, (g, refl))

count_none : (f : Forest) → count f ≡ 0 → f ≡ none
unfolding count
count_none none h = refl
count_none (more t g) h = absurd (omega arith)

module _ {rules index rows text : List ℕ} {s : Standing} {n : ℕ} (w : BlocksUpTo rules index rows text s n) where
  pub rows_left : s.block < n → s.i < length rows
  rows_left h =
      let f = w.given.blocks in
      omega (arith, w.many, ap length w.given.spells.rows_are, length-drop s.i rows, length-rowss f, count-sizes f)

  came-last : (was : ℕ) (edits : Bool) (kept : List ℕ) → n ≤ s.block → Came s (Ok s) (walk_from w was edits kept)
  came-last was edits kept h =
      let c = carry_of s.converter in
      let ds = carries_on (kept_block (suc s.block) n was) (decode_rows was kept) in
      let 𝓒 = converter_of w.given in
      let e : walk_from w was edits kept ≡ pieces []
      = ap (λ f. walk_by 𝓒 edits c (row_no s) (listed f) ds) (count_none w.given.blocks (omega (arith, w.many, h)))
      ∙ walk_by-end 𝓒 edits c (row_no s) ds in
      subst (Came s (Ok s)) (sym e) (came-here w.given.place)

  module _ (h : s.block < n) where
    here : (t : Tree) × ((g : Forest) × (w.given.blocks ≡ more t g))
    here = count-some w.given.blocks (omega (arith, w.many))

    abbrev tree : Tree
    tree = here.0

    abbrev others : Forest
    others = here.1.0

    module _ (was : ℕ) (near : n ≤ suc s.block + was) (edits : Bool) (kept : List ℕ) where
      -- the kept block that is compared, the carry before it, those before the blocks after it, and the walk over the others
      abbrev compared : ℕ
      compared = kept_block (suc s.block) n was

      abbrev carry : Carry
      carry = carry_before compared (decode_rows was kept)

      abbrev carries : List Carry
      carries = carries_on (suc compared) (decode_rows was kept)

      abbrev rest : Carry → Walk
      rest c = walk_by (converter_of w.given) edits c (row_no s + size tree) (listed others) carries

      walk_turn :
          walk_from w was edits kept
          ≡ walk_unless_kept edits (block s.converter.mode w.given.rs (carry_of s.converter) tree) (row_no s) carry rest
      walk_turn =
          let c = carry_of s.converter in
          let 𝓒 = converter_of w.given in
          ap (λ f. walk_by 𝓒 edits c (row_no s) (listed f) (carries_on compared (decode_rows was kept))) here.1.1
          ∙ ap (walk_by 𝓒 edits c (row_no s) (tree ∷ listed others)) (carries_on-at was compared kept (omega arith))
          ∙ walk_by-turn 𝓒 edits c (row_no s) tree (listed others) carry carries

      came-declined :
          {out out' : List ℕ} {e : Refusal} → Steps rules index rows text s out (Err e) out' → Came s (Err e) (walk_from w was edits kept)
      came-declined {e = e} passes =
          subst (Came s (Err e)) (sym walk_turn) (came_refused edits carry rest (passes w.given tree others here.1.1).agrees)

    -- after the block
    module _ {out out' : List ℕ} {r : Standing} (passes : Steps rules index rows text s out (Ok r) out') where
      abbrev stepped : Stepped rules index rows text s w.given.rs tree others out (Ok r) out'
      stepped = passes w.given tree others here.1.1

      pub counts-one : r.block ≡ s.block + 1
      counts-one = stepped.past.counted

      pub label-short : r.converter.label_len ≤ label_most
      label-short = (fine w.given tree others here.1.1 stepped).short

      abbrev next-given : BlocksUpTo rules index rows text r n
      next-given =
          record {
            given = onward w.given tree others here.1.1 stepped;
            many = omega (arith, w.many, counts-one, ap count here.1.1, count-more tree others);
            few = w.few;
          }

      module _ (was : ℕ) (near : n ≤ suc s.block + was) (edits : Bool) (kept : List ℕ) where
        rest-after : rest was near edits kept (carry_of r.converter) ≡ walk_from next-given was edits kept
        rest-after =
            let mode = sym (same-mode w.given tree others here.1.1 stepped) in
            let row = sym stepped.past.row in
            let k : suc (compared was near edits kept) ≡ kept_block (suc r.block) n was = omega (arith, counts-one) in
            λ i. walk_by (blocks_in (mode i) w.given.rs) edits (carry_of r.converter) (row i) (listed others)
            (carries_on (k i) (decode_rows was kept))

        -- b is the answer of the test after the block
        came-turn :
            {b : Bool} {q : Result Standing Refusal} → b ≡ edits && same_carry (carry_of r.converter) (carry was near edits kept)
            → Came r q (cond b (pieces []) (walk_from next-given was edits kept)) → Came s q (walk_from w was edits kept)
        came-turn {q = q} is m =
            subst (Came s q) (sym (walk_turn was near edits kept))
            (came-after edits (carry was near edits kept) (rest was near edits kept) stepped.agrees counts-one
            (subst (Came r q) (λ i. cond (is i) (pieces []) (sym rest-after i)) m))

-- ---- the loop

pub blocks-passed-start :
    {rules index rows text : List ℕ} {from : Standing} {n was : ℕ} {edits : Bool} {kept : List ℕ}
    (w : BlocksUpTo rules index rows text from n) → n ≤ suc from.block + was → BlocksPassed w was edits kept from
blocks-passed-start w h = record { whole = w; near = h; finish = λ r m. m }

module _ {rules index rows text : List ℕ} {from s : Standing} {n : ℕ} {w : BlocksUpTo rules index rows text from n} {was : ℕ} {edits : Bool}
    {kept : List ℕ} (p : BlocksPassed w was edits kept s) where
  pub blocks-passed-end : n ≤ s.block → Came from (Ok s) (walk_from w was edits kept)
  blocks-passed-end h = p.finish (Ok s) (came-last p.whole was edits kept h)

  module _ (h : s.block < n) {out out' : List ℕ} where
    pub blocks-passed-refused :
        {e : Refusal} → Steps rules index rows text s out (Err e) out' → Came from (Err e) (walk_from w was edits kept)
    blocks-passed-refused {e} passes = p.finish (Err e) (came-declined p.whole h was p.near edits kept passes)

    module _ {r : Standing} (passes : Steps rules index rows text s out (Ok r) out') where
      -- the kept block that is compared after this one
      pub compared-within : kept_block r.block n was ≤ was
      compared-within = omega (arith, counts-one p.whole h passes)

      module _ (b : Bool)
          (is : b ≡ edits && same_carry (carry_of r.converter) (carry_before (kept_block r.block n was) (decode_rows was kept))) where
        abbrev next-whole : BlocksUpTo rules index rows text r n
        next-whole = next-given p.whole h passes

        is-met : b ≡ edits && same_carry (carry_of r.converter) (carry_before (kept_block (suc s.block) n was) (decode_rows was kept))
        is-met =
            let k : kept_block r.block n was ≡ kept_block (suc s.block) n was = omega (arith, counts-one p.whole h passes) in
            is ∙ ap (λ j. edits && same_carry (carry_of r.converter) (carry_before j (decode_rows was kept))) k

        pub blocks-passed-met : b ≡ true → Came from (Ok r) (walk_from w was edits kept)
        blocks-passed-met e =
            p.finish (Ok r) (came-turn p.whole h passes was p.near edits kept (sym e ∙ is-met) (came-here next-whole.given.place))

        pub blocks-passed-next : b ≡ false → BlocksPassed w was edits kept r
        blocks-passed-next e =
            record {
              whole = next-whole;
              near = omega (arith, p.near, counts-one p.whole h passes);
              finish = λ q m. p.finish q (came-turn p.whole h passes was p.near edits kept (sym e ∙ is-met) m);
            }
