-- Blocks written with their rows. What is left to write is again a pass that gives pieces, and whoever writes these has written all
-- (`BlocksLeft`): so it is at the start, a turn takes one piece off, and at the end there is none.
use mathlib.Core.Path.{◌≡◌, refl, sym, ap, subst, ◌∙◌}
use mathlib.Core.List.{List, [], ◌∷◌, ◌++◌}
use Prim.Native.Nat.{ℕ, ◌+◌, ◌*◌, ◌≤◌, ◌<◌}
use Rattle.std.specs.Prelude.{Result, Ok, Err}
use Rattle.std.specs.Result.{IsOk}
use native.Mathlib.Omega.{arith}
use lib.ListN.{length, length-append, length-drop}
use lib.Seq.{sets, length-sets}
use Rattle.text.specs.Writing.{cap, Wrote as Put}
use Rattle.text.proofs.Writing.{sets-append, wrote-long}
use Rattle.mitex_spec.specs.Rules.{Rule}
use Rattle.mitex_syntax.specs.Tree.{Tree, Forest, rows_ofs}
use Rattle.mitex_syntax.specs.Tree.Forest.{none, more}
use Rattle.mitex_syntax.proofs.Trees.{length-rowss, size-some, size-more}
use Rattle.mitex_meaning.specs.Outcome.{Carry, label_most}
use Rattle.mitex_meaning.specs.Outcome.Outcome.{done}
use Rattle.mitex_meaning.specs.State.{carry_of}
use Rattle.mitex_meaning.specs.Contract.{Place, Agrees, went_with}
use Rattle.mitex_meaning.specs.Contract.Agrees.{accepts}
use Rattle.mitex_meaning.specs.declared.LaTeXMode.{LaTeXMode}
use Rattle.mitex_meaning.specs.Contract.{Walked}
use Rattle.mitex_meaning.proofs.Agreeing.{agrees-as, agrees-well, number-some}
use Rattle.ledger.specs.Ledger.{Row, row_size, encode_row, encode_rows, Piece, written, rows_from, HasRow}
use Rattle.ledger.proofs.Rows.{encode_row-length}
use Rattle.ledger.proofs.Writing.{carry_of-short}
use Rattle.manuscript.specs.Manuscript.{listed, block, blocks_in}
use Rattle.passes.specs.Passes.{FirstPieces, Pieced, Stepped, Steps, WrotePieces}
use Rattle.passes.specs.Passes.FirstPieces.{none_yet, one_more}
use Rattle.refusals.specs.declared.Refusal.{Refusal}
use Rattle.passes.specs.declared.Standing.{Standing}
use Rattle.passes.proofs.Stepping.{same-mode, onward}

-- ---- the next piece

-- the first of the pieces is that of the first block
record NextPiece (m : LaTeXMode) (rs : List Rule) (c : Carry) (f : Forest) (ps : List Piece) : Type 0 where
  tree : Tree
  others : Forest
  is : f ≡ more tree others
  piece : Piece
  later : List Piece
  are : ps ≡ piece ∷ later
  comes : block m rs c tree ≡ done piece.after piece.text
  gives : FirstPieces (blocks_in m rs) piece.after (listed others) later

next-piece :
    {m : LaTeXMode} {rs : List Rule} {c : Carry} (f : Forest) {ps : List Piece} → FirstPieces (blocks_in m rs) c (listed f) ps → 0 < length ps
    → NextPiece m rs c f ps
next-piece none none_yet h = absurd (omega arith)
next-piece (more t g) none_yet h = absurd (omega arith)
next-piece (more t g) (one_more {c' = c'} {t = w} {ps = ps} e gs) h =
    record { tree = t; others = g; is = refl; piece = record { text = w; after = c' }; later = ps; are = refl; comes = e; gives = gs }

no-piece : (ps : List Piece) → length ps ≡ 0 → ps ≡ []
no-piece [] e = refl
no-piece (p ∷ ps) e = absurd (omega arith)

-- an answer that agrees with a text
record PieceWritten (a : Walked) (c : Carry) (t : List ℕ) (at : ℕ) (out out' : List ℕ) : Type 0 where
  carry : carry_of a.converter ≡ c
  label : a.converter.label_len ≤ label_most
  put : Put at out t a.at out'

passed :
    {a : Walked} {x : Place} {row at : ℕ} {out out' : List ℕ} {c : Carry} {t : List ℕ} → Agrees a x row at out out' (done c t)
    → PieceWritten a c t at out out'
passed (accepts u ex ec l v) = record { carry = ec; label = l; put = v }

-- ---- a turn

pub steps-as :
    {rules index rows text : List ℕ} {s : Standing} {out out' : List ℕ} {r q : Result Standing Refusal} → r ≡ q
    → Steps rules index rows text s out r out' → Steps rules index rows text s out q out'
steps-as {rules} {index} {rows} {text} {s} {out} {out'} e p = subst (λ x. Steps rules index rows text s out x out') e p

-- the row after a block
abbrev row_of : Standing → Row
row_of r = record { end = r.at; carry = carry_of r.converter }

module _ {rules index rows text : List ℕ} {s : Standing} {to : ℕ} {ledger : List ℕ} (w : Pieced rules index rows text s to ledger) where
  module _ (h : s.block < to) where
    abbrev next :
        NextPiece s.converter.mode w.given.rs (carry_of s.converter) w.given.blocks w.ps
    next = next-piece w.given.blocks w.gives (omega (arith, w.many))

    -- the rows have a block left
    pub block-left : s.i < length rows
    block-left =
        let n = next in
        omega (
          arith,
          length-drop s.i rows,
          ap length w.given.spells.rows_are,
          ap (λ f. length (rows_ofs f)) n.is,
          length-rowss (more n.tree n.others),
          size-more n.tree n.others,
          size-some n.tree,
        )

    pub never-refused : {out out' : List ℕ} {e : Refusal} → Steps rules index rows text s out (Err e) out' → ⊥
    never-refused {e = e} p =
        let z = agrees-well refl (agrees-as (sym next.comes) (p w.given next.tree next.others next.is).agrees) in
        let h = number-some e.reason in
        omega arith

    -- it is not refused
    pub is-passed : {out out' : List ℕ} (r : Result Standing Refusal) → Steps rules index rows text s out r out' → IsOk r
    is-passed (Ok r) p = refl
    is-passed (Err e) p = absurd (never-refused p)

    module _ {out out' : List ℕ} {r : Standing} (p : Steps rules index rows text s out (Ok r) out') where
      abbrev step-made : Stepped rules index rows text s w.given.rs next.tree next.others out (Ok r) out'
      step-made = p w.given next.tree next.others next.is

      pub block-passed : r.block ≡ s.block + 1
      block-passed = step-made.past.counted

      made : PieceWritten (went_with r.converter r.at) next.piece.after next.piece.text s.at out out'
      made = passed (agrees-as (sym next.comes) step-made.agrees)

      ends_at : (r.at ≡ s.at + length next.piece.text) × (r.at + length (written next.later) < cap)
      ends_at =
          let t = next.piece.text in
          let v = written next.later in
          let l : length (written w.ps) ≡ length t + length v = ap (λ ps. length (written ps)) next.are ∙ length-append t v in
          let e = made.put.next in
          let b = w.end in
          (omega arith, omega arith)

      -- its row can be written
      pub row-left : HasRow s.block ledger × (r.at < cap) × (r.converter.label_len ≤ label_most)
      row-left = (omega (arith, w.room), omega (arith, ends_at.1), made.label)

      -- and after it the rest is left
      module _ {ledger' : List ℕ} (e : ledger' ≡ sets ledger (row_size * s.block) (encode_row (row_of r))) where
        rows_long : length ledger' ≡ length ledger
        rows_long = ap length e ∙ length-sets ledger (row_size * s.block) (encode_row (row_of r))

        gives-rest :
            FirstPieces (blocks_in r.converter.mode w.given.rs) (carry_of r.converter) (listed next.others)
            next.later
        gives-rest =
            let n = next in
            let rs = w.given.rs in
            subst (λ m. FirstPieces (blocks_in m rs) (carry_of r.converter) (listed n.others) n.later)
            (sym (same-mode w.given n.tree n.others n.is step-made))
            (subst (λ c. FirstPieces (blocks_in s.converter.mode rs) c (listed n.others) n.later) (sym made.carry) n.gives)

        abbrev rest : Pieced rules index rows text r to ledger'
        rest =
            let n = next in
            record {
              given = onward w.given n.tree n.others n.is step-made;
              ps = n.later;
              gives = gives-rest;
              many = omega (arith, w.many, ap length n.are, step-made.past.counted);
              end = ends_at.1;
              room = omega (arith, w.room, rows_long);
              few = w.few;
            }

        -- its text and its row come before theirs
        text-more : sets out' r.at (written next.later) ≡ sets out s.at (written w.ps)
        text-more =
            let t = next.piece.text in
            let v = written next.later in
            ap (λ a. sets out' a v) ends_at.0
            ∙ ap (λ o. sets o (s.at + length t) v) made.put.over
            ∙ sym (sets-append t v out s.at)
            ∙ ap (λ ps. sets out s.at (written ps)) (sym next.are)

        row_first :
            encode_rows (rows_from s.at w.ps)
            ≡ encode_row (row_of r) ++ encode_rows (rows_from r.at next.later)
        row_first =
            let n = next in
            let rest : ℕ → List ℕ = λ a. encode_rows (rows_from a n.later) in
            ap (λ ps. encode_rows (rows_from s.at ps)) n.are
            ∙ ap (λ a. encode_row (record { end = a; carry = n.piece.after }) ++ rest a) (sym ends_at.0)
            ∙ ap (λ c. encode_row (record { end = r.at; carry = c }) ++ rest r.at) (sym made.carry)

        rows_more :
            sets ledger' (row_size * r.block) (encode_rows (rows_from r.at next.later))
            ≡ sets ledger (row_size * s.block) (encode_rows (rows_from s.at w.ps))
        rows_more =
            let at = row_size * s.block in
            let row = encode_row (row_of r) in
            let v = encode_rows (rows_from r.at next.later) in
            let short = carry_of-short r.converter made.label in
            let l : length row ≡ row_size = encode_row-length (row_of r) (record { small = row-left.1; short = short }) in
            ap (λ a. sets ledger' a v) (omega (arith, block-passed))
            ∙ ap (λ o. sets o (at + length row) v) e
            ∙ sym (sets-append row v ledger at)
            ∙ ap (sets ledger at) (sym row_first)

        wrote-more : {out'' ledger'' : List ℕ} → WrotePieces next.later r out' ledger' out'' ledger'' → WrotePieces w.ps s out ledger out'' ledger''
        wrote-more x = record { text = x.text ∙ text-more; rows = x.rows ∙ rows_more }

  -- no piece is left
  wrote_none : (out : List ℕ) → to ≤ s.block → WrotePieces w.ps s out ledger out ledger
  wrote_none out h =
      let e = no-piece w.ps (omega (arith, w.many)) in
      record {
        text = ap (λ ps. sets out s.at (written ps)) (sym e);
        rows = ap (λ ps. sets ledger (row_size * s.block) (encode_rows (rows_from s.at ps))) (sym e);
      }

-- ---- what is left to write

module _ {rules index rows text : List ℕ} {from : Standing} {to : ℕ} {ledger₀ : List ℕ}
    (w : Pieced rules index rows text from to ledger₀) (out₀ : List ℕ) where
  pub record BlocksLeft (s : Standing) (out ledger : List ℕ) : Type 0 where
    pub here : Pieced rules index rows text s to ledger
    pub finish : {out' ledger' : List ℕ} → WrotePieces here.ps s out ledger out' ledger' → WrotePieces w.ps from out₀ ledger₀ out' ledger'
    pub long : length out ≡ length out₀
    pub ledger_long : length ledger ≡ length ledger₀

  pub blocks-left-start : BlocksLeft from out₀ ledger₀
  blocks-left-start = record { here = w; finish = λ x. x; long = refl; ledger_long = refl }

  module _ {s : Standing} {out ledger : List ℕ} (l : BlocksLeft s out ledger) where
    pub blocks-left-next :
        {out' ledger' : List ℕ} {r : Standing} → s.block < to → Steps rules index rows text s out (Ok r) out'
        → ledger' ≡ sets ledger (row_size * s.block) (encode_row (row_of r)) → BlocksLeft r out' ledger'
    blocks-left-next h p e =
        record {
          here = rest l.here h p e;
          finish = λ x. l.finish (wrote-more l.here h p e x);
          long = wrote-long (made l.here h p).put ∙ l.long;
          ledger_long = rows_long l.here h p e ∙ l.ledger_long;
        }

    pub blocks-left-end : to ≤ s.block → WrotePieces w.ps from out₀ ledger₀ out ledger
    blocks-left-end h = l.finish (wrote_none l.here out h)
