-- One call of the exchange: the first stretch, and the others on the way. What is kept after the first is moved down before the others are
-- handled or up after that, and in the end the buffers are as if all had been stored one after the other (`exchanged`).
use mathlib.Core.Path.{◌≡◌, sym, ap, subst, ◌∙◌}
use mathlib.Core.Bool.{cond}
use mathlib.Core.List.{List, ◌++◌}
use mathlib.Core.Option.Option.{some}
use Prim.Native.Nat.{ℕ, suc, ◌+◌, ◌*◌, ◌-◌, ◌≤◌, ◌<◌}
use native.Mathlib.Omega.{arith}
use lib.ListN.{length, take, drop, length-append, length-drop}
use lib.Seq.{sets, length-sets, length-take-le, take_all}
use lib.Dec.{ltb}
use Rattle.text.specs.Writing.{cap}
use Rattle.mitex_meaning.specs.Parts.{between}
use Rattle.mitex_meaning.specs.declared.LaTeXMode.{LaTeXMode}
use Rattle.ledger.specs.Ledger.{Row, row_size, HasRow, decode_rows, encode_rows, Movable, move_rows, written, rows_from}
use Rattle.ledger.proofs.Rows.{encode_rows-length, rows_from-length, rows_from-encodable}
use Rattle.ledger.proofs.Fitting.{fits-long}
use Rattle.ledger.proofs.Writing.{sets-before, take-sets-le}
use Rattle.ledger.proofs.Fronts.{SameFront, front_rest, move_rows-front, row-same-end}
use Rattle.ledger.proofs.Moving.{move_rows-length}
use Rattle.edit_meaning.specs.Edit.{end_before}
use Rattle.edit_meaning.specs.Changes.{Stretch, block_after}
use Rattle.edit_meaning.proofs.Bytes.{end_before-at}
use Rattle.manuscript.specs.Manuscript.{blocks_in}
use Rattle.manuscript.proofs.Manuscript.{keeps-short}
use Rattle.passes.specs.Passes.{EndsBefore}
use Rattle.passes.proofs.Ends.{ends-rise, ends-kept, ends-row}
use Rattle.passes.proofs.Pieces.{gives-short}
use Rattle.stretches.specs.Plans.{next_block, rest_text, rest_rows, LaidOut}
use Rattle.stretches.specs.Plans.{Writable, WritesStretch, Exchangeable, Exchanged, Exchanges}
use Rattle.stretches.specs.declared.Note.{Note}
use Rattle.stretches.proofs.Storing.{lowered_long, lowered-rest, stored-around}
use Rattle.stretches.proofs.Laying.{note_in, carry-short, kept_text, rest_text-first, rest_rows-first}
use Rattle.stretches.proofs.Laying.{LaidFrom, LaidFirst, laid_from, laid-first, laid_none, laid_same}

-- in a plan: the notes after its first one, the first block after its first stretch, the bytes of that one's text, and the first block of
-- the next
abbrev pub rest_in : List Note → List Note
rest_in plan = take (length plan - 1) (drop 1 plan)

abbrev pub after_in : List Note → ℕ
after_in plan = (note_in plan).after

abbrev pub size_in : List Note → ℕ
size_in plan = (note_in plan).size

abbrev pub next_in : List Note → ℕ
next_in plan = (note_in (rest_in plan)).block

module _ {rules index rows text : List ℕ} {m : LaTeXMode} {n : ℕ} {plan : List Note} {at : ℕ} {out ledger : List ℕ}
    (w : Exchangeable rules index rows text m n plan at out ledger) where
  -- no stretch is left
  pub none-exchanged : n ≤ (note_in plan).block → Exchanged n w.kept at w.ss out ledger out ledger
  none-exchanged z =
      let e = laid_none w.laid z in
      record {
        text = ap (λ ss. sets out at (rest_text w.kept (decode_rows n ledger) ss out)) (sym e);
        rows = ap (λ ss. sets ledger (row_size * next_block n ss) (rest_rows n (decode_rows n ledger) at ss ledger)) (sym e);
      }

  pub plan-some : 0 < length plan
  plan-some = (laid_from w.laid).some

  -- there is one, and others after it: its text and its rows as they come
  module _ (h : (note_in plan).block < n) where
    abbrev first : LaidFirst w.document m ledger w.from w.ss plan
    first = laid-first w.laid h

    abbrev others : List Stretch
    others = first.others

    abbrev come : List ℕ
    come = written first.s.come

    abbrev fresh : List ℕ
    fresh = encode_rows (rows_from at first.s.come)

    abbrev kept-rows : List Row
    kept-rows = decode_rows n ledger

    -- the blocks that the plan names
    next-from : LaidFrom n (block_after first.s) others (drop 1 plan)
    next-from = laid_from first.laid

    pub plan-long : 1 < length plan
    plan-long = omega (arith, next-from.some, length-drop 1 plan)

    pub rest-is : rest_in plan ≡ drop 1 plan
    rest-is = take_all (length plan - 1) (drop 1 plan) (omega (arith, length-drop 1 plan))

    pub rest-some : 0 < length (rest_in plan)
    rest-some = omega (arith, plan-long, ap length rest-is, length-drop 1 plan)

    next-is : next_in plan ≡ next_block n others
    next-is = ap (λ ns. (note_in ns).block) rest-is ∙ next-from.says

    pub after_next : (after_in plan ≤ next_in plan) × (next_in plan ≤ n)
    after_next = let f = next-from in (omega (arith, first.noted.after, next-is), omega (arith, next-is))

    -- its text is a part of all, so the plan has its whole length
    come-within : length come ≤ length (rest_text w.kept kept-rows w.ss out)
    come-within =
        omega (
          arith,
          ap (λ ss. length (rest_text w.kept kept-rows ss out)) first.are,
          ap length (rest_text-first n w.kept ledger w.fitting first.s others out),
          length-append come (kept_text n kept-rows first.s others out ++ rest_text w.kept kept-rows others out),
        )

    pub size_is : size_in plan ≡ length come
    size_is = omega (arith, first.noted.size, come-within, w.small)

    -- where it ends now
    abbrev to : ℕ
    to = at + size_in plan

    pub to-small : to < cap
    to-small = omega (arith, size_is, come-within, w.small)

    -- the rows before the two blocks
    pub after-row : 0 < after_in plan → HasRow (after_in plan - 1) ledger
    after-row z = omega (arith, after_next, fits-long n w.kept ledger w.fitting)

    pub next_row : 0 < next_in plan → HasRow (next_in plan - 1) ledger
    next_row z = omega (arith, after_next, fits-long n w.kept ledger w.fitting)

    -- the kept text between the first stretch and the next stands from `old` up to `end`
    module _ {old end : ℕ} (is-old : EndsBefore ledger (after_in plan) old) (is-end : EndsBefore ledger (next_in plan) end) where
      old-is : old ≡ end_before (block_after first.s) kept-rows
      old-is = is-old n (omega (arith, after_next)) ∙ ap (λ k. end_before k kept-rows) first.noted.after

      end_is : end ≡ end_before (next_block n others) kept-rows
      end_is = is-end n after_next.1 ∙ ap (λ k. end_before k kept-rows) next-is

      pub old-end : old ≤ end
      old-end =
          omega (arith, old-is, end_is, ends-rise n w.kept ledger w.fitting _ _ next-from.later next-from.within)

      end_kept : end ≤ w.kept
      end_kept = omega (arith, end_is, ends-kept n w.kept ledger w.fitting _ next-from.within)

      -- the text of all, in three parts
      abbrev rest : List ℕ
      rest = rest_text w.kept kept-rows others out

      text-as : rest_text w.kept kept-rows w.ss out ≡ come ++ (between old end out ++ rest)
      text-as =
          ap (λ ss. rest_text w.kept kept-rows ss out) first.are
          ∙ rest_text-first n w.kept ledger w.fitting first.s others out
          ∙ (λ i. come ++ (between (sym old-is i) (sym end_is i) out ++ rest))

      text_long : length (rest_text w.kept kept-rows w.ss out) ≡ length come + (end - old + length rest)
      text_long =
          omega (
            arith,
            ap length text-as,
            length-append come (between old end out ++ rest),
            length-append (between old end out) rest,
            length-take-le (end - old) (drop old out) (omega (arith, length-drop old out, end_kept, w.inside)),
          )

      -- where what is kept ends now, and the others begin
      abbrev place : ℕ
      place = to + (end - old)

      pub place_rest : (place + length rest ≤ length out) × (place + length rest < cap)
      place_rest = (omega (arith, size_is, text_long, w.room), omega (arith, size_is, text_long, w.small))

      pub tail-room : (old + (end - old) ≤ length out) × (place ≤ length out)
      tail-room = (omega (arith, old-end, end_kept, w.inside), omega (arith, place_rest.0))

      -- what is kept was moved, if it moves down
      module _ {out₁ : List ℕ} (e₁ : out₁ ≡ cond (ltb to old) (sets out to (between old end out)) out) where
        pub out₁-long : length out₁ ≡ length out
        out₁-long = lowered_long out old to (end - old) tail-room.0 tail-room.1 e₁

        pub rest-same : rest_text w.kept kept-rows others out₁ ≡ rest
        rest-same =
            laid_same w.kept w.fitting out₁ out end
            (lowered-rest out old to (end - old) tail-room.0 tail-room.1 e₁ end (omega (arith, old-end))) first.laid
            (omega (arith, end_is))

        -- so the other stretches may be exchanged
        abbrev pub deeper : Exchangeable rules index rows text m n (rest_in plan) place out₁ ledger
        deeper =
            record {
              document = w.document;
              kept = w.kept;
              fitting = w.fitting;
              inside = omega (arith, out₁-long, w.inside);
              from = block_after first.s;
              ss = others;
              laid = subst (LaidOut w.document m ledger (block_after first.s) others) (sym rest-is) first.laid;
              room = omega (arith, ap length rest-same, out₁-long, place_rest.0);
              small = omega (arith, ap length rest-same, place_rest.1);
            }

        -- and they were
        module _ {out₂ ledger₂ : List ℕ}
            (exchanges : Exchanges rules index rows text m n (rest_in plan) place out₁ ledger out₂ ledger₂) where
          abbrev others-exchanged : Exchanged n w.kept place others out₁ ledger out₂ ledger₂
          others-exchanged = exchanges deeper

          pub out₂-long : length out₂ ≡ length out
          out₂-long = ap length others-exchanged.text ∙ length-sets out₁ place (rest_text w.kept kept-rows others out₁) ∙ out₁-long

          -- their rows stand after those that are kept, which are as they were
          abbrev rest-rows : List ℕ
          rest-rows = rest_rows n kept-rows place others ledger

          ledger₂-is : ledger₂ ≡ sets ledger (row_size * next_in plan) rest-rows
          ledger₂-is = others-exchanged.rows ∙ ap (λ k. sets ledger (row_size * k) rest-rows) (sym next-is)

          ledger₂-long : length ledger₂ ≡ length ledger
          ledger₂-long = ap length ledger₂-is ∙ length-sets ledger (row_size * next_in plan) rest-rows

          pub rows-room : row_size * next_in plan ≤ length ledger₂
          rows-room = omega (arith, ledger₂-long, after_next.1, fits-long n w.kept ledger w.fitting)

          rows-front : SameFront (row_size * next_in plan) ledger₂ ledger
          rows-front =
              let a : ℕ = row_size * next_in plan in
              record { same = ap (take a) ledger₂-is ∙ take-sets-le rest-rows ledger a a (omega arith) }

          pub rows-movable : (j : ℕ) → after_in plan ≤ j → j < next_in plan → Movable j old to ledger₂
          rows-movable j a b =
              let f = w.fitting in
              let within : j < n = omega (arith, after_next.1) in
              let low = ends-row n w.kept ledger f (block_after first.s) j (omega (arith, first.noted.after)) within in
              let high = ends-rise n w.kept ledger f (suc j) (next_block n others) (omega (arith, next-is)) next-from.within in
              let is = end_before-at n j ledger within in
              let same = row-same-end (next_in plan) rows-front j b in
              record { behind = omega (arith, old-is); small = omega (arith, old-is, end_is, place_rest.1) }

          -- then it was moved, if it moves up, and its rows got their lengths
          module _ {out₃ ledger₃ : List ℕ} (e₃ : out₃ ≡ cond (ltb old to) (sets out₂ to (between old end out₂)) out₂)
              (f₃ : ledger₃
              ≡ sets ledger₂ (row_size * after_in plan)
              (move_rows (next_in plan - after_in plan) old to (drop (row_size * after_in plan) ledger₂))) where
            pub out₃-is : out₃ ≡ sets out to (between old end out ++ rest)
            out₃-is =
                stored-around out old to (end - old) tail-room.0 tail-room.1 rest e₁
                (others-exchanged.text ∙ ap (sets out₁ place) rest-same) e₃

            abbrev moved-rows : List ℕ
            moved-rows = move_rows (next_in plan - after_in plan) old to (drop (row_size * after_in plan) ledger)

            moved-end : row_size * next_in plan ≡ row_size * after_in plan + length moved-rows
            moved-end =
                let a = after_next in
                let l = fits-long n w.kept ledger w.fitting in
                omega (
                  arith,
                  move_rows-length (next_in plan - after_in plan) old to (drop (row_size * after_in plan) ledger)
                      (omega (arith, length-drop (row_size * after_in plan) ledger)),
                )

            pub ledger₃-is : ledger₃ ≡ sets ledger (row_size * after_in plan) (moved-rows ++ rest-rows)
            ledger₃-is =
                let a : ℕ = row_size * after_in plan in
                let k : ℕ = next_in plan - after_in plan in
                let same = move_rows-front k old to (front_rest rows-front a (row_size * k) (omega arith)) in
                f₃
                ∙ (λ i. sets (ledger₂-is i) a (same i))
                ∙ sets-before moved-rows rest-rows ledger a (row_size * next_in plan) moved-end

            -- so the first stretch may be written
            abbrev pub writable : Writable rules index rows text m n (note_in plan) at to out₃ ledger₃
            writable =
                let far : row_size * first.s.block ≤ row_size * after_in plan = omega (arith, first.noted.after) in
                record {
                  document = w.document;
                  kept = ledger;
                  fitting = record { kept = w.kept; fitting = w.fitting };
                  from = w.from;
                  s = first.s;
                  noted = first.noted;
                  same =
                      ap (take (row_size * first.s.block)) ledger₃-is
                      ∙ take-sets-le (moved-rows ++ rest-rows) ledger (row_size * after_in plan) _ far;
                  long = ap length ledger₃-is ∙ length-sets ledger (row_size * after_in plan) (moved-rows ++ rest-rows);
                  ends = ap (λ k. at + k) size_is;
                  small = omega (arith, place_rest.1);
                  inside = omega (arith, ap length out₃-is, length-sets out to (between old end out ++ rest), place_rest.0);
                }

            -- and was: its rows stand before those
            fresh-end : row_size * after_in plan ≡ row_size * first.s.block + length fresh
            fresh-end =
                let p = first.noted in
                let rules = w.document.rs in
                let short = carry-short n w.kept ledger w.fitting first.s.block (omega (arith, p.within)) in
                let all = rows_from-encodable (gives-short (blocks_in m rules) (keeps-short (some m) (some rules)) short p.are) at
                (omega (arith, size_is, place_rest.1)) in
                omega (arith, encode_rows-length all, rows_from-length at first.s.come, p.after, p.gone)

            rows_as : rest_rows n kept-rows at w.ss ledger ≡ fresh ++ (moved-rows ++ rest-rows)
            rows_as =
                ap (λ ss. rest_rows n kept-rows at ss ledger) first.are
                ∙ rest_rows-first n kept-rows at first.s others ledger
                ∙ (λ i.
                fresh
                ++ (move_rows (sym next-is i - sym first.noted.after i) (sym old-is i) (at + sym size_is i)
                (drop (row_size * sym first.noted.after i) ledger)
                ++ rest_rows n kept-rows (at + sym size_is i + (sym end_is i - sym old-is i)) others ledger))

            pub exchanged :
                {out₄ ledger₄ : List ℕ} → WritesStretch rules index rows text m n (note_in plan) at to out₃ ledger₃ out₄ ledger₄
                → Exchanged n w.kept at w.ss out ledger out₄ ledger₄
            exchanged writes =
                let v = writes writable in
                record {
                  text =
                      v.text
                      ∙ ap (λ l. sets l at come) out₃-is
                      ∙ sets-before come (between old end out ++ rest) out at to (ap (λ k. at + k) size_is)
                      ∙ ap (sets out at) (sym text-as);
                  rows =
                      v.rows
                      ∙ ap (λ l. sets l (row_size * first.s.block) fresh) ledger₃-is
                      ∙ sets-before fresh (moved-rows ++ rest-rows) ledger _ _ fresh-end
                      ∙ (λ i. sets ledger (row_size * next_block n (sym first.are i)) (sym rows_as i));
                }

-- the buffers are as long as they were
pub exchanged-long :
    {n kept at : ℕ} {ss : List Stretch} {out ledger out' ledger' : List ℕ} → Exchanged n kept at ss out ledger out' ledger'
    → (length out' ≡ length out) × (length ledger' ≡ length ledger)
exchanged-long x = (ap length x.text ∙ simp length-sets, ap length x.rows ∙ simp length-sets)
