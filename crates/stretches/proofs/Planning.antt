-- The plan while it is made, after the first i of the named blocks: its stretches come first, whatever follows (`PlanSoFar`). Each turn puts
-- one stretch more after them or none (`so-far-next`), or meets a refusal (`so-far-refused`); after the last they are all (`so-far-end`).
use mathlib.Core.Path.{◌≡◌, refl, sym, ap, subst, ◌∙◌}
use mathlib.Core.Bool.{Bool, cond}
use mathlib.Core.List.{List, [], ◌∷◌, ◌++◌, append_assoc}
use Prim.Native.Nat.{ℕ, suc, ◌+◌, ◌-◌, ◌≤◌, ◌<◌, min}
use Rattle.std.specs.Prelude.{Ok, Err}
use native.Mathlib.Omega.{arith}
use borrow.Author.Tests.{lt-ltb, le-ltb}
use lib.ListN.{length, take, drop, get_or, set, length-append, drop_of_length-le}
use lib.Seq.{drop-cons, take_at, length-take-le, set_split}
use lib.Dec.{ltb}
use Rattle.text.specs.Writing.{cap}
use Rattle.mitex_meaning.specs.declared.LaTeXMode.{LaTeXMode}
use Rattle.ledger.specs.Ledger.{Row, decode_rows, Piece, written}
use Rattle.edit_meaning.specs.Walk.{BlockConverter, Walk}
use Rattle.edit_meaning.specs.Walk.Walk.{stopped, pieces}
use Rattle.edit_meaning.specs.Edit.{end_before, again}
use Rattle.edit_meaning.specs.Changes.{Stretch, come_count, Remade, before_rest, stretch_then, each_from}
use Rattle.edit_meaning.specs.Changes.Remade.{halted, remade}
use Rattle.manuscript.specs.Manuscript.{listed, blocks_in}
use Rattle.passes.specs.Passes.{Document, Reaches}
use Rattle.passes.proofs.Reaching.{reached-start}
use Rattle.stretches.specs.Plans.{after_all, place_after, plan_size, Noted, LaidOut, PlanComes, NextNoted, StretchComes, PlanStands}
use Rattle.stretches.specs.Plans.LaidOut.{laid_end, laid_more}
use Rattle.stretches.specs.Plans.PlanComes.{plan_halted, plan_made}
use Rattle.stretches.specs.Plans.StretchComes.{passed_over, refused_there, noted_there}
use Rattle.refusals.specs.declared.Refusal.{Refusal}
use Rattle.stretches.specs.declared.Note.{Note}
use Rattle.stretches.specs.declared.Planned.{Planned}

-- ---- stretches before others

abbrev before_all : List Stretch → Remade → Remade
before_all [] x = x
before_all (s ∷ ss) x = before_rest s (before_all ss x)

before-halted : (ss : List Stretch) (n i : ℕ) → before_all ss (halted n i) ≡ halted n i
before-halted [] n i = refl
before-halted (s ∷ ss) n i = ap (before_rest s) (before-halted ss n i)

before-remade : (ss ss' : List Stretch) → before_all ss (remade ss') ≡ remade (ss ++ ss')
before-remade [] ss' = refl
before-remade (s ∷ ss) ss' = ap (before_rest s) (before-remade ss ss')

before-snoc : (ss : List Stretch) (s : Stretch) (x : Remade) → before_all (ss ++ (s ∷ [])) x ≡ before_all ss (before_rest s x)
before-snoc [] s x = refl
before-snoc (t ∷ ss) s x = ap (before_rest t) (before-snoc ss s x)

module _ {rules index rows text : List ℕ} {n : ℕ} (w : Document rules index rows text n) (m : LaTeXMode) (ledger : List ℕ) where
  abbrev 𝓒 : BlockConverter
  𝓒 = blocks_in m w.rs

  abbrev bs : List 𝓒.Block
  bs = listed w.blocks

  abbrev kept : List Row
  kept = decode_rows n ledger

  abbrev each : ℕ → List ℕ → Remade
  each = each_from 𝓒 bs kept

  -- the stretches ss of the plan s are those of the first i of the named blocks
  pub record PlanSoFar (named : List ℕ) (i : ℕ) (s : Planned) (plan : List Note) : Type 0 where
    pub ss : List Stretch
    pub within : i ≤ length named
    pub comes : each 0 named ≡ before_all ss (each s.block (drop i named))
    pub laid :
        (ss' : List Stretch) (rest : List Note) → LaidOut w m ledger s.block ss' rest
        → LaidOut w m ledger 0 (ss ++ ss') (take s.stretches plan ++ rest)
    pub after : (ss' : List Stretch) → after_all 0 (ss ++ ss') ≡ after_all s.block ss'
    pub counted : (ss' : List Stretch) → come_count (ss ++ ss') ≡ s.count + come_count ss'
    pub place : ℕ
    pub placed : (ss' : List Stretch) → place_after kept 0 0 (ss ++ ss') ≡ place_after kept place s.block ss'
    pub capped : min cap s.at ≡ min cap place

  pub so-far-start :
      (named : List ℕ) {s : Planned} {plan : List Note} → s.stretches ≡ 0 → s.block ≡ 0 → s.count ≡ 0 → s.at ≡ 0 → PlanSoFar named 0 s plan
  so-far-start named {s} {plan} e₀ e₁ e₂ e₃ =
      record {
        ss = [];
        within = omega arith;
        comes = ap (λ j. each j named) (sym e₁);
        laid =
            λ ss' rest l.
            subst (λ (j : ℕ). LaidOut w m ledger j ss' (take s.stretches plan ++ rest)) e₁
            (subst (λ (x : ℕ). LaidOut w m ledger s.block ss' (take x plan ++ rest)) (sym e₀) l);
        after = λ ss'. ap (λ j. after_all j ss') (sym e₁);
        counted = λ ss'. omega (arith, e₂);
        place = 0;
        placed = λ ss'. ap (λ j. place_after kept 0 j ss') (sym e₁);
        capped = ap (min cap) e₃;
      }

  module _ {named : List ℕ} {i : ℕ} {s : Planned} {plan : List Note} (p : PlanSoFar named i s plan) where
    -- block k is named next
    module _ (h : i < length named) {k : ℕ} (e : k ≡ get_or named i 0) where
      next : each s.block (drop i named)
          ≡ cond (ltb k s.block) (each s.block (drop (i + 1) named)) (stretch_then k (again 𝓒 bs k kept) (λ j. each j (drop (i + 1) named)))
      unfolding each_from
      next =
          let t : suc i ≡ i + 1 = omega arith in
          ap (each s.block) (drop-cons named i 0 h)
          ∙ (λ j. cond (ltb (sym e j) s.block) (each s.block (drop (t j) named))
          (stretch_then (sym e j) (again 𝓒 bs (sym e j) kept) (λ x. each x (drop (t j) named))))

      -- what is converted from there on, by whether the block was converted already
      abbrev onward : Bool → Remade
      onward b = cond b (each s.block (drop (i + 1) named)) (stretch_then k (again 𝓒 bs k kept) (λ j. each j (drop (i + 1) named)))

      -- it is not converted yet
      next-fresh : s.block ≤ k → {v : Walk} → again 𝓒 bs k kept ≡ v
          → each 0 named ≡ before_all p.ss (stretch_then k v (λ j. each j (drop (i + 1) named)))
      next-fresh g {v} a =
          p.comes
          ∙ ap (before_all p.ss)
          (next
          ∙ ap onward (le-ltb k s.block g)
          ∙ ap (λ (x : Walk). stretch_then k x (λ j. each j (drop (i + 1) named))) a)

      pub so-far-passed : k < s.block → PlanSoFar named (i + 1) s plan
      so-far-passed g =
          record {
            ss = p.ss;
            within = omega arith;
            comes =
                p.comes
                ∙ ap (before_all p.ss)
                (next ∙ ap onward (lt-ltb k s.block g));
            laid = p.laid;
            after = p.after;
            counted = p.counted;
            place = p.place;
            placed = p.placed;
            capped = p.capped;
          }

      pub so-far-refused : {number row : ℕ} → s.block ≤ k → again 𝓒 bs k kept ≡ stopped number row → each 0 named ≡ halted number row
      so-far-refused {number} {row} g a = next-fresh g a ∙ before-halted p.ss number row

      module _ {qs : List Piece} {r : Planned} {plan' : List Note} (g : s.block ≤ k) (a : again 𝓒 bs k kept ≡ pieces qs)
          (q : NextNoted w m ledger s k qs r plan plan') (long : s.stretches < length plan) where
        abbrev t : Stretch
        t = record { block = k; gone = length qs; come = qs }

        abbrev note : Note
        note = record { block = k; after = r.block; size = min cap (length (written qs)); i = r.i; j = r.j }

        assoc : (ss' : List Stretch) → (p.ss ++ (t ∷ [])) ++ ss' ≡ p.ss ++ (t ∷ ss')
        assoc ss' = append_assoc p.ss (t ∷ []) ss'

        -- its note stands after those of the stretches before
        front : take r.stretches plan' ≡ take s.stretches plan ++ (note ∷ [])
        front =
            let i = s.stretches in
            ap (take r.stretches) (q.noted ∙ set_split plan i note long ∙ sym (append_assoc (take i plan) (note ∷ []) (drop (suc i) plan)))
            ∙ take_at (take i plan ++ (note ∷ [])) (drop (suc i) plan) r.stretches
            (omega (arith, length-append (take i plan) (note ∷ []), length-take-le i plan (omega arith), q.stretches))

        noted : Noted w m ledger s.block t note
        noted =
            record {
              later = g;
              gone = refl;
              some = q.some;
              within = q.within;
              are = q.are;
              block = refl;
              after = q.block;
              size = refl;
              reached = q.reaches w.blocks text w.spells (omega (arith, q.within, w.many)) w.short;
            }

        laid_next :
            (ss' : List Stretch) (rest : List Note) → LaidOut w m ledger r.block ss' rest
            → LaidOut w m ledger 0 ((p.ss ++ (t ∷ [])) ++ ss') (take r.stretches plan' ++ rest)
        laid_next ss' rest l =
            let there : LaidOut w m ledger s.block (t ∷ ss') (note ∷ rest)
            = laid_more noted (subst (λ (j : ℕ). LaidOut w m ledger j ss' rest) q.block l) in
            let notes : take s.stretches plan ++ (note ∷ rest) ≡ take r.stretches plan' ++ rest
            = sym (append_assoc (take s.stretches plan) (note ∷ []) rest) ∙ ap (λ x. x ++ rest) (sym front) in
            subst (λ x. LaidOut w m ledger 0 x (take r.stretches plan' ++ rest)) (sym (assoc ss'))
            (subst (LaidOut w m ledger 0 (p.ss ++ (t ∷ ss'))) notes (p.laid (t ∷ ss') (note ∷ rest) there))

        pub so-far-next : PlanSoFar named (i + 1) r plan'
        so-far-next =
            let place : ℕ = p.place + (end_before k kept - end_before s.block kept) + length (written qs) in
            record {
              ss = p.ss ++ (t ∷ []);
              within = omega arith;
              comes =
                  next-fresh g a
                  ∙ sym (before-snoc p.ss t (each (k + length qs) (drop (i + 1) named)))
                  ∙ ap (λ j. before_all (p.ss ++ (t ∷ [])) (each j (drop (i + 1) named))) (sym q.block);
              laid = laid_next;
              after = λ ss'. ap (after_all 0) (assoc ss') ∙ p.after (t ∷ ss') ∙ ap (λ j. after_all j ss') (sym q.block);
              counted = λ ss'. omega (arith, q.count, ap come_count (assoc ss'), p.counted (t ∷ ss'));
              place = place;
              placed =
                  λ ss'.
                  ap (place_after kept 0 0) (assoc ss') ∙ p.placed (t ∷ ss') ∙ ap (λ j. place_after kept place j ss') (sym q.block);
              capped = omega (arith, q.at, p.capped);
            }

    none_left : each s.block [] ≡ remade []
    unfolding each_from
    none_left = refl

    pub so-far-end :
        (note : Note) {plan' : List Note} → length named ≤ i → note.block ≡ n → plan' ≡ set plan s.stretches note → PlanStands rows n s
        → length plan ≡ plan_size → PlanComes w m ledger plan' (Ok s) (each 0 named)
    so-far-end note {plan'} h f e st long =
        let end : ℕ = s.stretches in
        let within : end < length plan = omega (arith, long, st.few, st.within, w.most) in
        let all : each 0 named ≡ remade (p.ss ++ [])
        = p.comes
        ∙ ap (λ ks. before_all p.ss (each s.block ks)) (drop_of_length-le named h)
        ∙ ap (before_all p.ss) none_left
        ∙ before-remade p.ss [] in
        let laid : LaidOut w m ledger 0 (p.ss ++ []) plan'
        = subst (LaidOut w m ledger 0 (p.ss ++ [])) (sym (e ∙ set_split plan end note within))
        (p.laid [] (note ∷ drop (suc end) plan) (laid_end st.within f)) in
        subst (PlanComes w m ledger plan' (Ok s)) (sym all)
        (plan_made laid (sym (p.after [])) (omega (arith, p.counted [])) (omega (arith, st.low, st.few, st.within, w.most))
        (p.capped ∙ ap (min cap) (sym (p.placed []))))

    -- a turn: unless it met a refusal, the plan goes on
    pub so-far-after :
        (h : i < length named) {k : ℕ} (e : k ≡ get_or named i 0) {r : Planned} {plan' : List Note}
        → StretchComes w m ledger s k plan (Ok r) plan' → PlanStands rows n s → length plan ≡ plan_size → PlanSoFar named (i + 1) r plan'
    so-far-after h e (passed_over g q) st long = subst (PlanSoFar named (i + 1) s) (sym q) (so-far-passed h e g)
    so-far-after h e (noted_there g a q) st long = so-far-next h e g a q (omega (arith, long, st.few, q.some, q.within, w.most))

    pub so-far-halted :
        (h : i < length named) {k : ℕ} (e : k ≡ get_or named i 0) {f : Refusal} {plan' : List Note}
        → StretchComes w m ledger s k plan (Err f) plan' → PlanComes w m ledger plan' (Err f) (each 0 named)
    so-far-halted h e {f} {plan'} (refused_there g a o u) =
        subst (PlanComes w m ledger plan' (Err f)) (sym (so-far-refused h e g a)) (plan_halted o u)

-- ---- the numbers of a plan while it is made

pub plan-starts : {rows : List ℕ} {n : ℕ} → PlanStands rows n (record { stretches = 0; count = 0; block = 0; at = 0; from = 0; i = 0; j = 0 })
plan-starts =
    record {
      reaches = λ blocks text sp many short. reached-start sp;
      started = omega arith;
      within = omega arith;
      few = omega arith;
      counted = omega arith;
      low = omega arith;
    }

pub plan-goes-on :
    {rules index rows text : List ℕ} {n : ℕ} (w : Document rules index rows text n) (m : LaTeXMode) (ledger : List ℕ) {s r : Planned}
    {k : ℕ} {plan plan' : List Note} → PlanStands rows n s → StretchComes w m ledger s k plan (Ok r) plan' → PlanStands rows n r
plan-goes-on w m ledger st (passed_over g q) = st
plan-goes-on {rows = rows} w m ledger {s} {r} {k} st (noted_there {qs = qs} g a q) =
    record {
      reaches = subst (λ (j : ℕ). Reaches rows j j r.i r.j) (sym q.from) q.reaches;
      started = omega (arith, q.from, q.block);
      within = omega (arith, q.block, q.within);
      few = omega (arith, q.stretches, st.few, q.block, q.some);
      counted = omega (arith, q.count, st.counted, q.block);
      low = omega (arith, q.at, q.near, st.low, q.stretches);
    }
