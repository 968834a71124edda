-- The survey goes over elements side by side: what was passed, before any elements that are right, makes elements that are right
-- (`Surveying`). Where all rows and all of the text are passed, the answer is that for these elements.
use mathlib.Core.Path.{◌≡◌, refl, sym, ap, subst, ◌∙◌}
use mathlib.Core.Bool.{Bool, true}
use mathlib.Core.Option.Option.{some}
use mathlib.Core.List.{List, [], ◌∷◌, ◌++◌, append_assoc, append-nil}
use Rattle.std.specs.Prelude.{Option as Maybe, Some, Ok}
use Prim.Native.Nat.{ℕ, ◌+◌, ◌*◌, ◌-◌, ◌/◌, ◌≤◌, ◌<◌}
use native.Mathlib.Omega.{arith}
use lib.Dec.{T}
use lib.ListN.{length, take, drop, get_or, length-append, length-drop, take-append-drop}
use lib.Seq.{drop-drop, drop_at, length-take-le}
use Rattle.text.specs.Numbers.{Bytes, four, four_at}
use Rattle.text.proofs.Writing.{part-rest, rest-length}
use Rattle.utf8.specs.Utf8.{one_byte_each}
use Rattle.utf8.proofs.Texts.{one-drop}
use Rattle.text.specs.Trailer.{file_most}
use Rattle.mitex_syntax.specs.Tree.{Forest, sizes, rows_of, rows_ofs, text_of, texts_of}
use Rattle.mitex_syntax.specs.Tree.Tree.{token, node}
use Rattle.mitex_syntax.specs.Tree.Forest.{none, more}
use Rattle.mitex_syntax.specs.Spells.{token_fits, Sound, SpellsAll, Begins, SomeForest}
use Rattle.mitex_syntax.proofs.Trees.{length-rowss}
use Rattle.tree_file.specs.Layout.{lines, grows}
use Rattle.tree_file.specs.Depth.{depth, depths, depth_most}
use Rattle.tree_file.specs.Shape.{sym_fits, node_fits, Shaped, ShapedAll}
use Rattle.tree_file.specs.Check.{accepted_as}
use Rattle.tree_file.specs.Parts.{bytes_of, texts_in, LinesFit, shape_of, answer_to, TokenStands, NodeStands, Surveyed, SurveySays, Surveyable}
use Rattle.tree_file.proofs.Grow.{lines_ofs, grow-complete, length-liness}
use Rattle.tree_file.proofs.Rows.{lines-complete, same_rows}
use Rattle.tree_file.proofs.Decode.{bytes-all, text-all, fits-forest}
use Rattle.tree_file.proofs.Shaped.{shaped-lowest}
use Rattle.tree_file.proofs.Answers.{Rooted-as, answer-whole}

-- ---- the row that stands first, by its first four bytes as a number

module _ (rows : List ℕ) (by : Bytes rows) (h : 8 ≤ length rows) where
  row_is : (m n : ℕ) → m ≤ 1 → 256 * m ≤ four_at 0 rows → four_at 0 rows < 256 * m + 256 → n ≡ four_at 4 rows
      → rows ≡ get_or rows 0 0 ∷ m ∷ 0 ∷ 0 ∷ four n (drop 8 rows)
  row_is m n one low high e =
      let mark : get_or rows 1 0 ≡ m = omega (arith, by 0, by 1, by 2, by 3) in
      let zero2 : get_or rows 2 0 ≡ 0 = omega (arith, by 0, by 1, by 2, by 3) in
      let zero3 : get_or rows 3 0 ≡ 0 = omega (arith, by 0, by 1, by 2, by 3) in
      same_rows rows m n (drop 8 rows) by h mark zero2 zero3 e refl

  pub token-stands : (up : ℕ) (text : List ℕ) (n : ℕ) → 256 ≤ four_at 0 rows → four_at 0 rows < 512 → n ≡ four_at 4 rows → n ≤ length text
      → token_fits (get_or rows 0 0) (take n text) ≡ true → sym_fits up (get_or rows 0 0) (take n text) ≡ true → TokenStands up rows text n
  unfolding rows_of
  token-stands up text n low high e room fits right = record {
    room = room;
    rows_are = row_is 1 (length (take n text)) (omega arith) low high (length-take-le n text room ∙ e);
    fits = subst T (sym fits) tt;
    right = subst T (sym right) tt;
  }

-- ---- elements that are right

survey-none : (up left : ℕ) (rows text : List ℕ) → length rows ≡ 0 → Surveyed up left rows text 0
unfolding rows_of text_of Sound depth Shaped
survey-none up left [] text h = record {
  forest = none;
  begins = record { rows_are = refl; rest = text; text_is = refl; sound = tt };
  long = refl;
  low = omega arith;
  shaped = tt;
}
survey-none up left (b ∷ rows) text h = absurd (omega arith)

-- the text of elements is there
survey-room : {up left : ℕ} {rows text : List ℕ} {n : ℕ} → Surveyed up left rows text n → n ≤ length text
survey-room w = let e = w.long in omega (arith, ap length w.begins.text_is, length-append (texts_of w.forest) w.begins.rest)

-- a token before them
survey-token : {up left : ℕ} {rows text : List ℕ} {n m : ℕ} → TokenStands up rows text n → 1 ≤ left → Surveyed up left (drop 8 rows) (drop n text) m
    → Surveyed up left rows text (n + m)
unfolding rows_of text_of Sound depth Shaped
survey-token {up} {left} {rows} {text} {n} {m} x deep w =
    let t = token (get_or rows 0 0) (take n text) in
    let long = length-take-le n text x.room in
    let sum = length-append (take n text) (texts_of w.forest) in
    let d = w.low in
    let e = w.long in
    record {
      forest = more t w.forest;
      begins = record {
        rows_are = x.rows_are ∙ ap (λ l. rows_of t ++ l) w.begins.rows_are;
        rest = w.begins.rest;
        text_is = sym (take-append-drop n text) ∙ ap (λ l. take n text ++ l) w.begins.text_is
            ∙ sym (append_assoc (take n text) (texts_of w.forest) w.begins.rest);
        sound = (x.fits, w.begins.sound);
      };
      long = omega arith;
      low = omega arith;
      shaped = (x.right, w.shaped);
    }

-- a node before them, over elements that are right
survey-node :
    {up left : ℕ} {rows text : List ℕ} {e n m : ℕ} → NodeStands rows e → e ≤ length rows → 1 ≤ left
    → (g : Surveyed (get_or rows 0 0) (left - 1) (take (e - 8) (drop 8 rows)) text n) → T (node_fits (get_or rows 0 0) g.forest)
    → Surveyed up left (drop e rows) (drop n text) m → Surveyed up left rows text (n + m)
unfolding rows_of text_of Sound depth Shaped
survey-node {up} {left} {rows} {text} {e} {n} {m} x inside deep g fits w =
    let k = get_or rows 0 0 in
    let t = node k g.forest in
    let end = x.end in
    let under : x.under ≡ sizes g.forest =
    omega (arith, ap length g.begins.rows_are, length-rowss g.forest, length-take-le (e - 8) (drop 8 rows) (omega (arith, length-drop 8 rows))) in
    let past : drop (e - 8) (drop 8 rows) ≡ drop e rows = drop-drop (e - 8) 8 rows ∙ ap (λ i. drop i rows) (let z : 8 + (e - 8) ≡ e = omega arith in z) in
    let both : drop 8 rows ≡ rows_ofs g.forest ++ rows_ofs w.forest =
    sym (take-append-drop (e - 8) (drop 8 rows)) ∙ ap (λ l. l ++ drop (e - 8) (drop 8 rows)) g.begins.rows_are
    ∙ ap (λ l. rows_ofs g.forest ++ l) (past ∙ w.begins.rows_are) in
    let left-text : drop n text ≡ g.begins.rest =
    ap (drop n) g.begins.text_is ∙ drop_at (texts_of g.forest) g.begins.rest n (sym g.long) in
    let sum = length-append (texts_of g.forest) (texts_of w.forest) in
    let d = w.low in
    let c = g.low in
    let i = w.long in
    let j = g.long in
    record {
      forest = more t w.forest;
      begins = record {
        rows_are = x.rows_are ∙ ap (λ l. k ∷ 0 ∷ 0 ∷ 0 ∷ four x.under l) both
            ∙ ap (λ u. k ∷ 0 ∷ 0 ∷ 0 ∷ four u (rows_ofs g.forest ++ rows_ofs w.forest)) under;
        rest = w.begins.rest;
        text_is = g.begins.text_is ∙ ap (λ l. texts_of g.forest ++ l) (sym left-text ∙ w.begins.text_is)
            ∙ sym (append_assoc (texts_of g.forest) (texts_of w.forest) w.begins.rest);
        sound = ((x.kind, g.begins.sound), w.begins.sound);
      };
      long = omega arith;
      low = omega arith;
      shaped = ((fits, g.shaped), w.shaped);
    }

-- ---- the survey's loop

-- rows l and text t are left; elements that are right there make, with those that were passed, elements that are right
pub record Surveying (up left : ℕ) (rows text : List ℕ) (plain : Bool) (l t : List ℕ) : Type 0 where
  pub few : length l ≤ length rows
  pub short : length t ≤ length text
  pub asks : Surveyable l t plain
  pub whole : (m : ℕ) → Surveyed up left l t m → Surveyed up left rows text (length text - length t + m)

pub survey-start : (up left : ℕ) {rows text : List ℕ} {plain : Bool} → Surveyable rows text plain → Surveying up left rows text plain rows text
survey-start up left {rows} {text} a = record {
  few = omega arith;
  short = omega arith;
  asks = a;
  whole = λ m w. subst (Surveyed up left rows text) (let z : m ≡ length text - length text + m = omega arith in z) w;
}

-- what is left of a list
abbrev past : ℕ → List ℕ → List ℕ
past k s = take (length s - k) (drop k s)

module _ {up left : ℕ} {rows text : List ℕ} {plain : Bool} {l t : List ℕ} (s : Surveying up left rows text plain l t) where
  pub survey-end : length l ≡ 0 → Surveyed up left rows text (length text - length t)
  survey-end h =
      subst (Surveyed up left rows text) (let z : length text - length t + 0 ≡ length text - length t = omega arith in z)
      (s.whole 0 (survey-none up left l t h))

  -- e bytes of rows and n of text on
  past-asks : (e n : ℕ) → Surveyable (past e l) (past n t) plain
  past-asks e n =
      let few = s.asks.few in
      let short = s.asks.short in
      record {
        few = omega (arith, rest-length l e);
        short = omega (arith, rest-length t n);
        one_each = λ p. ap one_byte_each (part-rest t n) ∙ one-drop n t (s.asks.one_each p);
      }

  survey-next : (e n : ℕ) → n ≤ length t → ((m : ℕ) → Surveyed up left (drop e l) (drop n t) m → Surveyed up left l t (n + m))
      → Surveying up left rows text plain (past e l) (past n t)
  survey-next e n room first =
      let few = s.few in
      let short = s.short in
      record {
        few = omega (arith, rest-length l e);
        short = omega (arith, rest-length t n);
        asks = past-asks e n;
        whole = λ m w.
            let v = first m (subst (λ a. Surveyed up left a (drop n t) m) (part-rest l e) (subst (λ a. Surveyed up left (past e l) a m) (part-rest t n) w)) in
            let z : length text - length t + (n + m) ≡ length text - length (past n t) + m = omega (arith, rest-length t n) in
            subst (Surveyed up left rows text) z (s.whole (n + m) v);
      }

  -- past a token
  pub past-token : {n : ℕ} → TokenStands up l t n → 1 ≤ left → Surveying up left rows text plain (past 8 l) (past n t)
  past-token {n} x deep = survey-next 8 n x.room (λ m w. survey-token x deep w)

  -- at a node: the rows under it, and past it where they are right
  module _ {e : ℕ} (x : NodeStands l e) (inside : e ≤ length l) where
    pub under-length : length (take (e - 8) (drop 8 l)) ≡ e - 8
    under-length = length-take-le (e - 8) (drop 8 l) (omega (arith, length-drop 8 l))

    pub under-asks : Surveyable (take (e - 8) (drop 8 l)) t plain
    under-asks = let few = s.asks.few in record { few = omega (arith, under-length); short = s.asks.short; one_each = s.asks.one_each }

    module _
        {under : List ℕ} (same : under ≡ take (e - 8) (drop 8 l)) {a : Maybe ℕ} {n : ℕ} (says : SurveySays (get_or l 0 0) (left - 1) under t a)
        (told : a ≡ Some n)
      where
        under-right : Surveyed (get_or l 0 0) (left - 1) (take (e - 8) (drop 8 l)) t n
        under-right =
            subst (SurveySays (get_or l 0 0) (left - 1) (take (e - 8) (drop 8 l)) t) told
            (subst (λ r. SurveySays (get_or l 0 0) (left - 1) r t a) same says)

        pub under-room : n ≤ length t
        under-room = survey-room under-right

        pub under_some : SomeForest (take (e - 8) (drop 8 l)) t 0 0
        under_some =
            let few = under-asks.few in
            let short = s.asks.short in
            record {
              few = omega arith;
              short = omega arith;
              low = omega arith;
              begun = omega arith;
              forest = under-right.forest;
              begins = under-right.begins;
            }

        pub past-node :
            1 ≤ left → (b : Bool) → ((f : Forest) → Begins f under t → b ≡ node_fits (get_or l 0 0) f) → b ≡ true
            → Surveying up left rows text plain (past e l) (past n t)
        past-node deep b fits h =
            let g = under-right in
            survey-next e n under-room (λ m w. survey-node x inside deep g (subst T (sym h ∙ fits g.forest (subst (λ r. Begins g.forest r t) (sym same) g.begins)) tt) w)

-- ---- the answer

-- where all of the text is theirs
pub survey-spells : {up left : ℕ} {rows text : List ℕ} (w : Surveyed up left rows text (length text)) → SpellsAll w.forest rows text
survey-spells {up} {left} {rows} {text} w =
    let all = ap length w.begins.text_is ∙ length-append (texts_of w.forest) w.begins.rest in
    let e = w.long in
    record {
      rows_are = w.begins.rows_are;
      text_is = w.begins.text_is ∙ ap (λ l. texts_of w.forest ++ l) (nil w.begins.rest (omega arith)) ∙ append-nil (texts_of w.forest);
      sound = w.begins.sound;
    }
  where
    nil : (s : List ℕ) → length s ≡ 0 → s ≡ []
    nil [] h = refl
    nil (b ∷ s) h = absurd (omega arith)

-- elements that are spelt are those that the rows grow to
pub spelt-grows :
    (f : Forest) {rows text : List ℕ} → SpellsAll f rows text → length rows ≤ file_most → length text ≤ file_most → (n : ℕ) → length rows ≡ 8 * n
    → grows (lines n rows text) ≡ some f
unfolding LinesFit
spelt-grows f {rows} {text} sp few short n e =
    let long = length-rowss f in
    let has = ap length sp.rows_are in
    let has-text = ap length sp.text_is in
    let so_many : n ≡ length (lines_ofs f) = omega (arith, length-liness f) in
    let fit : LinesFit (lines_ofs f) = subst LinesFit (append-nil (lines_ofs f)) (fits-forest f [] sp.sound (omega arith) (omega arith) tt) in
    ap (λ l. grows (lines n l text)) (sp.rows_are ∙ sym (bytes-all f)) ∙ ap (λ l. grows (lines n (bytes_of (lines_ofs f)) l)) (sp.text_is ∙ sym (text-all f))
    ∙ ap (λ i. grows (lines i (bytes_of (lines_ofs f)) (texts_in (lines_ofs f)))) so_many ∙ ap grows (lines-complete (lines_ofs f) fit) ∙ grow-complete f

-- the answer for a root that is right
pub survey-whole :
    {f : Forest} {b : ℕ} (a : Rooted-as f b) {rows text : List ℕ} → SpellsAll f rows text → depths f ≤ depth_most → ShapedAll 0 f
    → accepted_as (length text) (length rows / 8) b ≡ answer_to (some f)
unfolding Shaped
survey-whole {f} {b} a sp low h =
    let s : ShapedAll 0 (more a.tree none) = subst (ShapedAll 0) a.is h in
    answer-whole a low (Ok tt) (sym (ap shape_of (shaped-lowest 0 0 a.tree s.0))) sp refl
