-- Scans over the children of a node: what is left after a step spells the elements after it (`first-passed`), and a scan that has come to
-- `now` finds from there what it finds from its start (`Scans`).
use mathlib.Core.Path.{◌≡◌, refl, sym, ap, subst, ◌∙◌}
use mathlib.Core.Bool.{Bool, true, false, cond}
use mathlib.Core.List.{List, [], ◌++◌, append_assoc, append-nil}
use Prim.Native.Nat.{ℕ, zero, suc, ◌+◌, ◌*◌, ◌-◌, ◌≤◌, ◌<◌}
use native.Mathlib.Omega.{arith}
use borrow.Author.Tests.{eqb-true}
use lib.Dec.{eqb}
use lib.ListN.{length, take, drop, get_or, length-append, take-append-drop}
use lib.Seq.{take_at, drop_at, length-take-le}
use Rattle.text.specs.Writing.{cap}
use Rattle.text.proofs.Writing.{part-rest}
use Rattle.mitex_syntax.specs.Tree.{Tree, Forest, size, sizes, kind_of, rows_of, rows_ofs, text_of, texts_of}
use Rattle.mitex_syntax.specs.Tree.Forest.{none, more}
use Rattle.mitex_syntax.specs.Rows.{extent_of, token_sum, Spans}
use Rattle.mitex_syntax.specs.Views.{offset_by, before_by, from_by}
use Rattle.mitex_syntax.specs.Spells.{Sound, SpellsAll, Begins, SomeForest}
use Rattle.mitex_syntax.proofs.Trees.{ElementAt, element, spans, rows-e, text-n, left, no-left, length-rows, size-more, size-some}
use Rattle.mitex_syntax.proofs.Seeking.{kind-first}
use Rattle.mitex_syntax.proofs.Places.{some-forest}
use Rattle.mitex_meaning.specs.Colors.{Rest, rest, seek, past, past_first}
use Rattle.mitex_colors.specs.Scanning.{stops_at, picks, Left, ScanMoved, Sought, FirstPassed}
use Rattle.mitex_colors.specs.declared.Stop.{Stop}
use Rattle.mitex_colors.specs.declared.Stop.TheVariants.{Solid, Kind}

-- what stands before the last of a list
pub before-last : (a b : List ℕ) {l : List ℕ} → l ≡ a ++ b → take (length l - length b) l ≡ a
before-last a b {l} e =
    let n : length l - length b ≡ length a = omega (arith, ap length e, length-append a b) in
    ap (λ (m : ℕ). take m l) n ∙ ap (take (length a)) e ∙ take_at a b (length a) refl

-- the test for no bytes
pub is-none : {n : ℕ} → eqb n 0 ≡ true → n ≡ 0
is-none {n} e = eqb-true n 0 e

pub is-some : {n : ℕ} → eqb n 0 ≡ false → 0 < n
is-some {n} e = on n e
  where
    on : (k : ℕ) → eqb k 0 ≡ false → 0 < k
    on zero e = cc
    on (suc k) e = omega arith

-- ---- elements that are left

module _ {rows text : List ℕ} where
  pub some_left : (s : SomeForest rows text 0 0) → Left rows text s.begins.rest s.forest
  some_left s = let b = s.begins in record { rows_are = b.rows_are; text_is = b.text_is; sound = b.sound }

  pub exact-left : {f : Forest} → SpellsAll f rows text → Left rows text [] f
  exact-left {f} sp = record { rows_are = sp.rows_are; text_is = sp.text_is ∙ sym (append-nil (texts_of f)); sound = sp.sound }

  pub left-exact : {f : Forest} → Left rows text [] f → SpellsAll f rows text
  left-exact {f} l = record { rows_are = l.rows_are; text_is = l.text_is ∙ append-nil (texts_of f); sound = l.sound }

  module _ {tail : List ℕ} {f : Forest} (l : Left rows text tail f) where
    pub left-begins : Begins f rows text
    left-begins = record { rows_are = l.rows_are; rest = tail; text_is = l.text_is; sound = l.sound }

    pub left-some : length rows < cap → length text < cap → SomeForest rows text 0 0
    left-some few short = some-forest left-begins few short

    -- at the end there is no element, and before it there is one
    pub left-none : length rows ≡ 0 → f ≡ none
    left-none h = no-left f l.rows_are h

    pub left-first : 0 < length rows → (t : Tree) × ((g : Forest) × (f ≡ more t g))
    left-first h = left f l.rows_are h

    pub left-kind : (t : Tree) (g : Forest) → f ≡ more t g → get_or rows 0 0 ≡ kind_of t
    unfolding rows_of
    left-kind t g e = ap (λ (r : List ℕ). get_or r 0 0) (l.rows_are ∙ ap rows_ofs e) ∙ kind-first t (rows_ofs g)

-- past the first of them
module _ {rows text tail : List ℕ} {t : Tree} {f : Forest} (l : Left rows text tail (more t f)) where
  left-past : Left (drop (8 * size t) rows) (drop (length (text_of t)) text) tail f
  unfolding rows_of text_of Sound
  left-past =
      let et = l.text_is ∙ append_assoc (text_of t) (texts_of f) tail in
      record {
        rows_are = ap (drop (8 * size t)) l.rows_are ∙ drop_at (rows_of t) (rows_ofs f) (8 * size t) (length-rows t);
        text_is = ap (drop (length (text_of t))) et ∙ drop_at (text_of t) (texts_of f ++ tail) (length (text_of t)) refl;
        sound = l.sound.1;
      }

  left-text : text_of t ≡ take (length (text_of t)) text
  unfolding text_of
  left-text =
      let n = length (text_of t) in
      sym (ap (take n) (l.text_is ∙ append_assoc (text_of t) (texts_of f) tail) ∙ take_at (text_of t) (texts_of f ++ tail) n refl)

-- ---- a step

-- what is left is no more than there was
module _ {rows text tail a v rows' text' : List ℕ} {r s : Rest} (p : ScanMoved rows text tail r s a v rows' text') where
  pub moved-rows : length rows' ≤ length rows
  moved-rows = omega (arith, ap length p.rows_are, length-append a rows')

  pub moved-text : length text' ≤ length text
  moved-text = omega (arith, ap length p.text_is, length-append v text')

module _ {rows text tail : List ℕ} (s : Rest) (l : Left rows text tail s.elements) where
  pub first-passed-none : length rows ≡ 0 → FirstPassed rows text tail s rows text
  first-passed-none h =
      let e = left-none l h in
      record {
        over_rows = [];
        over_text = [];
        moved =
            subst (λ (r : Rest). ScanMoved rows text tail s r [] [] rows text) (sym (ap (past s.rows) e))
            (record {
              there = subst (Left rows text tail) e l;
              rows_are = refl;
              text_is = refl;
              row = omega arith;
              fits = let z = ap sizes e in omega arith;
            });
        over = λ t f q. let z : ◌≡◌ {A = ℕ} 0 1 = cc in absurd (omega arith);
      }

  module _ (h : 0 < length rows) (few : length rows < cap) (short : length text < cap) where
    first : ElementAt s.elements rows text 0 0
    first = element (left-begins l) h (omega arith) few short

    pub first-passed-spans : Spans rows 0
    first-passed-spans = spans first few short

    module _ (e n : ℕ) (is_e : e ≡ extent_of rows) (is_n : n ≡ token_sum (take (extent_of rows) rows)) where
      pub first-high : e ≤ length rows
      first-high = let z = first.end in let re = rows-e first e n is_e is_n in omega arith

      pub first-stop : n ≤ length text
      first-stop = let z = first.stop in let tn = text-n first e n is_e is_n in omega arith

      passed : FirstPassed rows text tail s (drop e rows) (drop n text)
      passed =
          let t = first.tree in
          let g = first.others in
          let q : s.elements ≡ more t g = first.is in
          let m : Left rows text tail (more t g) = subst (Left rows text tail) q l in
          let re = rows-e first e n is_e is_n in
          let tn = text-n first e n is_e is_n in
          record {
            over_rows = take e rows;
            over_text = take n text;
            moved =
                subst (λ (r : Rest). ScanMoved rows text tail s r (take e rows) (take n text) (drop e rows) (drop n text)) (sym (ap (past s.rows) q))
                (record {
                  there =
                      subst (λ (k : ℕ). Left (drop k rows) (drop n text) tail g) (sym re)
                      (subst (λ (k : ℕ). Left (drop (8 * size t) rows) (drop k text) tail g) (sym tn) (left-past m));
                  rows_are = sym (take-append-drop e rows);
                  text_is = sym (take-append-drop n text);
                  row = omega (arith, length-take-le e rows first-high);
                  fits = omega (arith, ap sizes q, size-more t g);
                });
            over = λ u f z.
                let w : u ≡ t = cc in
                ap text_of w ∙ left-text m ∙ ap (λ (k : ℕ). take k text) (sym tn);
          }

      -- by the parts that the code has
      pub first-passed : FirstPassed rows text tail s (take (length rows - e) (drop e rows)) (take (length text - n) (drop n text))
      first-passed =
          subst (λ (r : List ℕ). FirstPassed rows text tail s r (take (length text - n) (drop n text))) (sym (part-rest rows e))
          (subst (λ (v : List ℕ). FirstPassed rows text tail s (drop e rows) v) (sym (part-rest text n)) passed)

      pub past-some : SomeForest (take (length rows - e) (drop e rows)) (take (length text - n) (drop n text)) 0 0
      past-some =
          let m = first-passed.moved in
          left-some m.there (let z = moved-rows m in omega arith) (let z = moved-text m in omega arith)

    -- a step goes on
    pub first-passed-far : {rows' text' : List ℕ} → FirstPassed rows text tail s rows' text' → length rows' < length rows
    first-passed-far {rows'} w =
        let q = first.is in
        omega (
          arith,
          w.moved.row,
          ap (λ (f : Forest). (past s.rows f).rows) q,
          size-some first.tree,
          ap length w.moved.rows_are,
          length-append w.over_rows rows',
        )

-- one step after another
pub moved_then :
    {rows text tail a v rows₁ text₁ b w rows₂ text₂ : List ℕ} {r s u : Rest} → ScanMoved rows text tail r s a v rows₁ text₁
    → ScanMoved rows₁ text₁ tail s u b w rows₂ text₂ → ScanMoved rows text tail r u (a ++ b) (v ++ w) rows₂ text₂
moved_then {a = a} {v = v} {b = b} {w = w} {rows₂ = rows₂} {text₂ = text₂} p q =
    record {
      there = q.there;
      rows_are = p.rows_are ∙ ap (λ (x : List ℕ). a ++ x) q.rows_are ∙ sym (append_assoc a b rows₂);
      text_is = p.text_is ∙ ap (λ (x : List ℕ). v ++ x) q.text_is ∙ sym (append_assoc v w text₂);
      row = omega (arith, p.row, q.row, length-append a b);
      fits = omega (arith, p.fits, q.fits);
    }

-- ---- a scan

module _ (p : Tree → Bool) where
  seek-over : (o : ℕ) (t : Tree) (f : Forest) → p t ≡ false → seek p (rest o (more t f)) ≡ seek p (rest (o + size t) f)
  unfolding offset_by from_by
  seek-over o t f e =
      let k : o + (size t + offset_by p f) ≡ o + size t + offset_by p f = omega arith in
      ap (λ (b : Bool). rest (o + cond b 0 (size t + offset_by p f)) (cond b (more t f) (from_by p f))) e ∙ ap (λ (n : ℕ). rest n (from_by p f)) k

  before-over : (t : Tree) (f : Forest) → p t ≡ false → texts_of (before_by p (more t f)) ≡ text_of t ++ texts_of (before_by p f)
  unfolding before_by text_of
  before-over t f e = ap (λ (b : Bool). texts_of (cond b none (more t (before_by p f)))) e

  -- a scan stops where there is no element, and at one that it looks for
  pub record Stopped (s : Rest) : Type 0 where
    pub here : seek p s ≡ s
    pub nothing_before : texts_of (before_by p s.elements) ≡ []

  stopped_none : (o : ℕ) → Stopped (rest o none)
  unfolding offset_by from_by before_by text_of
  stopped_none o = let k : o + 0 ≡ o = omega arith in record { here = ap (λ (n : ℕ). rest n none) k; nothing_before = refl }

  stopped-at : (o : ℕ) (t : Tree) (f : Forest) → p t ≡ true → Stopped (rest o (more t f))
  unfolding offset_by from_by before_by text_of
  stopped-at o t f e =
      let k : o + 0 ≡ o = omega arith in
      record {
        here = ap (λ (b : Bool). rest (o + cond b 0 (size t + offset_by p f)) (cond b (more t f) (from_by p f))) e ∙ ap (λ (n : ℕ). rest n (more t f)) k;
        nothing_before = ap (λ (b : Bool). texts_of (cond b none (more t (before_by p f)))) e;
      }

  pub stopped-end : (s : Rest) → s.elements ≡ none → Stopped s
  stopped-end s e = subst (λ (g : Forest). Stopped (rest s.rows g)) (sym e) (stopped_none s.rows)

  pub stopped-here : (s : Rest) (t : Tree) (f : Forest) → s.elements ≡ more t f → p t ≡ true → Stopped s
  stopped-here s t f q e = subst (λ (g : Forest). Stopped (rest s.rows g)) (sym q) (stopped-at s.rows t f e)

  -- from r, with these rows and this text, a scan has come to `now`, which has the last of them
  pub record Scans (rows text tail : List ℕ) (r : Rest) (rows' text' : List ℕ) : Type 0 where
    pub now : Rest
    pub over_rows : List ℕ
    pub over_text : List ℕ
    pub moved : ScanMoved rows text tail r now over_rows over_text rows' text'
    pub still : seek p r ≡ seek p now
    pub before : texts_of (before_by p r.elements) ≡ over_text ++ texts_of (before_by p now.elements)

  module _ {rows text tail : List ℕ} {r : Rest} {rows' text' : List ℕ} (s : Scans rows text tail r rows' text') where
    pub scan-stop : Stopped s.now → Sought p rows text tail r rows' text'
    scan-stop z =
        let m = s.moved in
        let e : s.now ≡ seek p r = sym (s.still ∙ z.here) in
        record {
          over_rows = s.over_rows;
          over_text = s.over_text;
          moved = subst (λ (u : Rest). ScanMoved rows text tail r u s.over_rows s.over_text rows' text') e m;
          before = s.before ∙ ap (λ (w : List ℕ). s.over_text ++ w) z.nothing_before ∙ append-nil s.over_text;
        }

    pub scan-next :
        {rows'' text'' : List ℕ} → FirstPassed rows' text' tail s.now rows'' text'' → (t : Tree) (f : Forest) → s.now.elements ≡ more t f
        → p t ≡ false → Scans rows text tail r rows'' text''
    scan-next w t f q e =
        let o = s.now.rows in
        let m = s.moved in
        let n : past_first s.now ≡ rest (o + size t) f = ap (past o) q in
        record {
          now = past_first s.now;
          over_rows = s.over_rows ++ w.over_rows;
          over_text = s.over_text ++ w.over_text;
          moved = moved_then m w.moved;
          still = s.still ∙ ap (λ (g : Forest). seek p (rest o g)) q ∙ seek-over o t f e ∙ ap (seek p) (sym n);
          before =
              s.before
              ∙ ap (λ (g : Forest). s.over_text ++ texts_of (before_by p g)) q
              ∙ ap (λ (x : List ℕ). s.over_text ++ x) (before-over t f e)
              ∙ sym (append_assoc s.over_text (text_of t) (texts_of (before_by p f)))
              ∙ ap (λ (x : List ℕ). (s.over_text ++ x) ++ texts_of (before_by p f)) (w.over t f q)
              ∙ ap (λ (u : Rest). (s.over_text ++ w.over_text) ++ texts_of (before_by p u.elements)) (sym n);
        }

-- ---- the loop of a scan, which tests kinds

picks-kind : (s : Stop) (t : Tree) → stops_at s (kind_of t) ≡ picks s t
picks-kind Solid t = refl
picks-kind (Kind k) t = refl

module _ (stop : Stop) {rows text tail : List ℕ} {r : Rest} {rows' text' : List ℕ} (s : Scans (picks stop) rows text tail r rows' text') where
  pub scan-end : length rows' ≡ 0 → Sought (picks stop) rows text tail r rows' text'
  scan-end h = scan-stop (picks stop) s (stopped-end (picks stop) s.now (left-none s.moved.there h))

  module _ (h : 0 < length rows') {b : Bool} (told : b ≡ stops_at stop (get_or rows' 0 0)) where
    picked : (t : Tree) (f : Forest) → s.now.elements ≡ more t f → picks stop t ≡ b
    picked t f q = sym (told ∙ ap (stops_at stop) (left-kind s.moved.there t f q) ∙ picks-kind stop t)

    pub scan-found : b ≡ true → Sought (picks stop) rows text tail r rows' text'
    scan-found e =
        let x = left-first s.moved.there h in
        scan-stop (picks stop) s (stopped-here (picks stop) s.now x.0 x.1.0 x.1.1 (picked x.0 x.1.0 x.1.1 ∙ e))

    pub scan-again :
        b ≡ false → {rows'' text'' : List ℕ} → FirstPassed rows' text' tail s.now rows'' text''
        → Scans (picks stop) rows text tail r rows'' text''
    scan-again e w =
        let x = left-first s.moved.there h in
        scan-next (picks stop) s w x.0 x.1.0 x.1.1 (picked x.0 x.1.0 x.1.1 ∙ e)
