-- A stretch, written: the row before it is that of the kept ledger, so it begins with the kept carry, and the pieces
-- that were measured are given (`pieced`).
use mathlib.Core.Path.{◌≡◌, refl, sym, ap, subst, subst₃, ◌∙◌}
use mathlib.Core.List.{List, ◌++◌}
use Prim.Native.Nat.{ℕ, zero, suc, ◌*◌, ◌-◌, ◌≤◌, ◌<◌}
use native.Mathlib.Omega.{arith}
use lib.ListN.{take, drop}
use lib.Seq.{sets}
use Rattle.mitex_meaning.specs.Outcome.{Carry}
use Rattle.mitex_meaning.specs.State.{new_of, carry_of, Carried}
use Rattle.mitex_meaning.specs.declared.LaTeXMode.{LaTeXMode}
use Rattle.mitex_meaning.specs.declared.Converter.{Converter}
use Rattle.mitex_syntax.specs.Tree.{Tree}
use Rattle.ledger.specs.Ledger.{row_size, RowFits, decode_rows, encode_rows, written, rows_from}
use Rattle.ledger.proofs.Fitting.{fits-long, fits-row}
use Rattle.ledger.proofs.Writing.{front-stored}
use Rattle.ledger.proofs.Fronts.{SameFront, row-same-fits, row-same-carry}
use Rattle.edit_meaning.specs.Edit.{carry_before}
use Rattle.edit_meaning.proofs.Bytes.{carry_before-at}
use Rattle.manuscript.specs.Manuscript.{listed, blocks_in}
use Rattle.passes.specs.Passes.{FirstPieces, Pieced, CarriesBefore, Stood, Writes}
use Rattle.stretches.specs.declared.Note.{Note}
use Rattle.passes.specs.declared.Standing.{Standing}
use Rattle.passes.proofs.Starting.{blocks-begin, begins-carry}
use Rattle.stretches.specs.Plans.{Writable, WroteStretch}

carry_same :
    (n k : ℕ) {l kept : List ℕ} → k ≤ n → SameFront (row_size * k) l kept → ((i : ℕ) → i < n → RowFits i kept)
    → carry_before k (decode_rows n l) ≡ carry_before k (decode_rows n kept)
carry_same n zero h e f = refl
carry_same n (suc i) {l} {kept} h e f =
    carry_before-at n i l (omega arith)
    ∙ row-same-carry (suc i) e i (omega arith) (f i (omega arith))
    ∙ sym (carry_before-at n i kept (omega arith))

module _ {rules index rows text : List ℕ} {m : LaTeXMode} {n : ℕ} {note : Note} {at to : ℕ} {out ledger : List ℕ}
    (w : Writable rules index rows text m n note at to out ledger) where
  abbrev block : ℕ
  block = w.s.block

  pub block_within : block ≤ n
  block_within = omega (arith, w.noted.within)

  rows-front : SameFront (row_size * block) ledger w.kept
  rows-front = record { same = w.same }

  kept_row : (i : ℕ) → i < n → RowFits i w.kept
  kept_row i h = fits-row n w.fitting.kept w.kept w.fitting.fitting i h

  pub row_before : 0 < note.block → RowFits (note.block - 1) ledger
  row_before z =
      let b = block_within in
      row-same-fits block rows-front (note.block - 1) (omega (arith, w.noted.block)) w.long
      (kept_row (note.block - 1) (omega (arith, w.noted.block)))

  -- the converter as it was read, and the walk that begins with it
  module _ {c : Converter} (carries : CarriesBefore ledger note.block m c) where
    pub carried : Carried (new_of m) (carry_before block (decode_rows n w.kept)) c
    carried =
        subst (λ (d : Carry). Carried (new_of m) d c)
        (ap (λ k. carry_before k (decode_rows n ledger)) w.noted.block ∙ carry_same n block block_within rows-front kept_row)
        (carries n (omega (arith, w.noted.block, block_within)))

    abbrev from : Standing
    from = record { block = note.block; i = note.i; j = note.j; at = at; converter = c }

    abbrev stood : Stood w.document.blocks rows text block at c from
    stood =
        let r = w.noted.reached in
        record {
          left = r.left;
          are = r.are;
          spells = r.spells;
          exact = r.row;
          row = omega (arith, r.row);
          low = r.low;
          begun = r.begun;
          block = w.noted.block;
          gives = refl;
          next = refl;
        }

    -- the stretch's pieces, in a mode, from a carry on, of blocks
    abbrev PiecesOf : LaTeXMode → Carry → List Tree → Type 0
    PiecesOf d e bs = FirstPieces (blocks_in d w.document.rs) e bs w.s.come

    pub gives : PiecesOf c.mode (carry_of c) (listed w.noted.reached.left)
    gives =
        subst₃ PiecesOf (sym carried.mode) (sym (begins-carry w.document stood carried)) (sym w.noted.reached.are) w.noted.are

    abbrev pub pieced : Pieced rules index rows text from note.after ledger
    pieced =
        record {
          given = (blocks-begin w.document stood carried (omega (arith, w.ends, w.small)) block_within).given;
          ps = w.s.come;
          gives = gives;
          many = omega (arith, w.noted.block, w.noted.after, w.noted.gone);
          end = omega (arith, w.ends, w.small);
          room = omega (arith, w.noted.after, w.noted.within, w.long, fits-long n w.fitting.kept w.kept w.fitting.fitting);
          few = omega (arith, w.noted.after, w.noted.within, w.document.most);
        }

    pub wrote :
        {part ledger' : List ℕ} → Writes rules index rows text from note.after (take to out) ledger part ledger'
        → WroteStretch w.s at out ledger (part ++ drop to out) ledger'
    wrote writes =
        let v = writes pieced in
        let come = written w.s.come in
        record {
          text =
              ap (λ x. x ++ drop to out) v.text
              ∙ front-stored out come at to (omega (arith, w.ends)) w.inside;
          rows = v.rows ∙ (λ i. sets ledger (row_size * w.noted.block i) (encode_rows (rows_from at w.s.come)));
        }
