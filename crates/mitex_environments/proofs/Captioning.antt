-- The last caption of a figure: what a child shows, and the loop over the children (`CaptionRest`): the caption so far, joined with that of
-- the elements that are left, is that of all.
use mathlib.Core.Path.{◌≡◌, refl, sym, ap, subst, ◌∙◌}
use mathlib.Core.Bool.{Bool, false, cond}
use mathlib.Core.Option.Option.{none as nothing}
use mathlib.Core.List.{List}
use Prim.Native.Nat.{ℕ, ◌+◌, ◌*◌, ◌-◌, ◌/◌, ◌≤◌, ◌<◌}
use native.Mathlib.Omega.{arith}
use Rattle.std.specs.Prelude.{Option as Maybe, Some, None, Result, Ok, Err}
use Rattle.std.specs.Option.{option_or}
use lib.ListN.{length, take, drop, get_or, length-drop}
use lib.Seq.{take-take, drop-drop, take-add, drop_at, length-take-le, get_or-take}
use Rattle.text.specs.Writing.{cap}
use Rattle.text.proofs.Writing.{part-rest}
use Rattle.mitex_syntax.specs.Syntax.{ClauseArgument}
use Rattle.mitex_syntax.specs.Tree.{Tree, Forest, size, sizes, kind_of}
use Rattle.mitex_syntax.specs.Tree.Forest.{none}
use Rattle.mitex_syntax.specs.Rows.{extent_of, token_sum}
use Rattle.mitex_syntax.specs.Views.{is_of, first_of, offset_of, children_of}
use Rattle.mitex_syntax.specs.Spells.{Spells, Begins}
use Rattle.mitex_syntax.specs.Places.{FirstAt, SpotIn}
use Rattle.mitex_syntax.proofs.Trees.{kind-spelt, children-begin, get_or-here, size-children, size-more, no-left, ElementAt, element, rows-e, part-spells, past-begins, child-part}
use Rattle.mitex_meaning.specs.Environments.{Caption, is_caption, caption_from_row, or_later, last_caption}
use Rattle.mitex_meaning.specs.Environments.Caption.{absent, bare, caption}
use Rattle.mitex_meaning.specs.Parts.{between, part_rows, part_text, inner_rows, CaptionFound}
use Rattle.mitex_meaning.specs.Parts.CaptionFound.{no_caption, bare_caption, caption_at}
use Rattle.mitex_syntax.specs.declared.Spot.{Spot}
use Rattle.mitex_environments.specs.Captions.{child_caption, Shows}
use Rattle.mitex_environments.specs.Captions.Shows.{shows_none, shows_bare, shows_at}

-- ---- parts of parts

pub part-within : (l : List ℕ) (i e a b : ℕ) → a ≤ b → i + b ≤ e → e ≤ length l → between a b (between i e l) ≡ between (i + a) (i + b) l
part-within l i e a b h k m =
    let n = length-drop i l in
    ap (λ (z : ℕ). take (b - a) (drop a (take z (drop i l)))) (let z : e - i ≡ a + (e - i - a) = omega arith in z)
    ∙ ap (λ (v : List ℕ). take (b - a) (drop a v)) (take-add a (e - i - a) (drop i l))
    ∙ ap (take (b - a)) (drop_at (take a (drop i l)) (take (e - i - a) (drop a (drop i l))) a (length-take-le a (drop i l) (omega arith)))
    ∙ take-take (b - a) (e - i - a) (drop a (drop i l)) (omega arith)
    ∙ ap (take (b - a)) (drop-drop a i l)
    ∙ ap (λ (z : ℕ). take z (drop (i + a) l)) (let z : b - a ≡ i + b - (i + a) = omega arith in z)

part-long : (l : List ℕ) (i e : ℕ) → i ≤ e → e ≤ length l → length (between i e l) ≡ e - i
part-long l i e h k = length-take-le (e - i) (drop i l) (simp length-drop (omega arith))

-- ---- a child

module _ {t : Tree} {v : List ℕ} (rows : List ℕ) (p : Spot) (sp : Spells t (part_rows p rows) v) (some : p.row + 8 ≤ p.end) (end : p.end ≤ length rows) where
  pub kind-in : get_or rows p.row 0 ≡ kind_of t
  kind-in = sym (get_or-here rows p.row) ∙ sym (get_or-take (p.end - p.row) (drop p.row rows) 0 0 (omega arith)) ∙ kind-spelt t sp

  pub children-in : Begins (children_of t) (inner_rows p rows) v
  children-in =
      let i = p.row in
      let e = p.end in
      let long = part-long rows i e (omega arith) end in
      let n = length (between i e rows) in
      let er : drop 8 (between i e rows) ≡ between (i + 8) e rows =
      sym (part-rest (between i e rows) 8) ∙ part-within rows i e 8 n (omega arith) (omega arith) end
      ∙ ap (λ (z : ℕ). between (i + 8) z rows) (let z : i + n ≡ e = omega arith in z) in
      subst (λ (R : List ℕ). Begins (children_of t) R v) er (children-begin t sp)

-- the same in the terms of what was taken
pub taken-children :
    (t : Tree) {rows text r v : List ℕ} {p : Spot} → SpotIn rows text p → Spells t (part_rows p rows) (part_text p text)
    → r ≡ inner_rows p rows → v ≡ part_text p text → Begins (children_of t) r v
taken-children t {rows} {text} {r} {v} {p} k sp er ev =
    subst (λ (R : List ℕ). Begins (children_of t) R v) (sym er)
    (subst (λ (T : List ℕ). Begins (children_of t) (inner_rows p rows) T) (sym ev) (children-in rows p sp k.some_rows k.end))

-- ---- what an answer shows

shows-as :
    {w v : Caption} {n : ℕ} {rows text : List ℕ} {r : Result (Maybe Spot) ℕ} → w ≡ v → Shows v n rows text r → Shows w n rows text r
shows-as {w} {v} {n} {rows} {text} {r} e s = subst (λ (x : Caption). Shows x n rows text r) (sym e) s

shows_more : {w : Caption} {n m : ℕ} {rows text : List ℕ} {r : Result (Maybe Spot) ℕ} → n ≤ m → Shows w n rows text r → Shows w m rows text r
shows_more h (shows_none e) = shows_none e
shows_more h (shows_bare {below} e) = shows_bare {below = below} e
shows_more h (shows_at a) =
    shows_at
    (record { tree = a.tree; below = a.below; is = a.is; spells = a.spells; inside = a.inside; row = a.row; fits = let z = a.fits in omega arith })

-- of two captions the later
shows_later :
    {w v : Caption} {n : ℕ} {rows text : List ℕ} {a b : Maybe Spot} → Shows w n rows text (Ok a) → Shows v n rows text (Ok b)
    → Shows (or_later w v) n rows text (Ok (option_or b a))
shows_later {v = v} (shows_none e) y = shows-as (ap (λ (x : Caption). or_later x v) e) (on y)
  where
    on : {n : ℕ} {rows text : List ℕ} {b : Maybe Spot} → Shows v n rows text (Ok b) → Shows v n rows text (Ok (option_or b None))
    on (shows_none e) = shows_none e
    on (shows_at b) = shows_at b
shows_later {v = v} (shows_at a) (shows_none e) =
    shows-as
    (ap (λ (x : Caption). or_later x v) a.is ∙ ap (or_later (caption (1 + a.below) a.tree)) e ∙ sym a.is)
    (shows_at a)
shows_later {v = v} (shows_at a) (shows_at b) =
    shows-as
    (ap (λ (x : Caption). or_later x v) a.is ∙ ap (or_later (caption (1 + a.below) a.tree)) b.is ∙ sym b.is)
    (shows_at b)

-- one without an argument, and whatever follows it
shows-stop :
    {w v : Caption} {n m : ℕ} {rows text : List ℕ} {a : Maybe Spot} {below : ℕ} (u : Caption) → Shows w n rows text (Ok a)
    → Shows v m rows text (Err below) → or_later (or_later w v) u ≡ bare (1 + below)
shows-stop {v = v} u (shows_none e) (shows_bare q) = ap (λ (x : Caption). or_later (or_later x v) u) e ∙ ap (λ (x : Caption). or_later x u) q
shows-stop {v = v} u (shows_at a) (shows_bare q) =
    ap (λ (x : Caption). or_later (or_later x v) u) a.is ∙ ap (λ (x : Caption). or_later (or_later (caption (1 + a.below) a.tree) x) u) q

found-shows : {f : Forest} {rows text : List ℕ} {r : Result (Maybe Spot) ℕ} → Shows (last_caption 1 f) (sizes f) rows text r → CaptionFound f rows text r
found-shows (shows_none e) = no_caption e
found-shows (shows_bare {below} e) = bare_caption {below = below} e
found-shows (shows_at a) =
    caption_at
    (record { tree = a.tree; below = a.below; is = a.is; spells = a.spells; inside = a.inside; row = a.row; fits = a.fits })

-- a child that is no caption
pub other-shows :
    (t : Tree) (o : ℕ) {n : ℕ} {rows text : List ℕ} {b : Bool} → b ≡ is_caption t → b ≡ false → Shows (child_caption o t) n rows text (Ok None)
other-shows t o e z = shows_none (ap (λ (x : Bool). cond x (caption_from_row o t (first_of ClauseArgument (children_of t))) absent) (sym e ∙ z))

-- the first argument of a caption, found in rows and a text that are those of its children
module _ (t : Tree) (o : ℕ) {rows text r v : List ℕ} {p s : Spot} (q : p.row ≡ 8 * o) (k : SpotIn rows text p) (er : r ≡ inner_rows p rows)
    (ev : v ≡ part_text p text) (h : FirstAt (is_of ClauseArgument) (children_of t) r v 0 s.row s.end s.from s.to) where
  abbrev there : Spot
  there = record { row = p.row + 8 + s.row; end = p.row + 8 + s.end; from = p.from + s.from; to = p.from + s.to }

  pub argument-shows :
      Shows (caption_from_row (1 + o) t (first_of ClauseArgument (children_of t))) (size t) rows text (Ok (Some there))
  argument-shows =
      let off = offset_of ClauseArgument (children_of t) in
      let some = k.some_rows in
      let end = k.end in
      let some_text = k.some_text in
      let stop = k.stop in
      let lr = ap length er ∙ part-long rows (p.row + 8) p.end some end in
      let lt = ap length ev ∙ part-long text p.from p.to some_text stop in
      let z₁ = h.some_rows in
      let z₂ = h.end in
      let z₃ = h.some_text in
      let z₄ = h.stop in
      let row = h.row in
      shows_at {p = there}
      (record {
        tree = h.tree;
        below = o + 1 + off;
        is = ap (caption_from_row (1 + o) t) h.is ∙ ap (λ (n : ℕ). caption n h.tree) (let z : 1 + o + 1 + off ≡ 1 + (o + 1 + off) = omega arith in z);
        spells =
            subst (λ (R : List ℕ). Spells h.tree R (part_text there text))
            (ap (between s.row s.end) er ∙ part-within rows (p.row + 8) p.end s.row s.end (omega arith) (omega arith) end)
            (subst (λ (T : List ℕ). Spells h.tree (between s.row s.end r) T)
            (ap (between s.from s.to) ev ∙ part-within text p.from p.to s.from s.to (omega arith) (omega arith) stop) h.spells);
        inside = record { low = omega arith; high = omega arith; begun = omega arith; stop = omega arith };
        row = omega arith;
        fits = omega (arith, size-children t, h.fits);
      })

pub bare-shows :
    (t : Tree) {rows text : List ℕ} (i o : ℕ) → i ≡ 8 * o → first_of ClauseArgument (children_of t) ≡ nothing
    → Shows (caption_from_row (1 + o) t (first_of ClauseArgument (children_of t))) (size t) rows text (Err (i / 8))
bare-shows t i o q h =
    shows_bare {below = i / 8} (ap (caption_from_row (1 + o) t) h ∙ ap (λ (n : ℕ). bare (1 + n)) (let z : o ≡ i / 8 = omega arith in z))

-- ---- the loop

later-assoc : (a b c : Caption) → or_later (or_later a b) c ≡ or_later a (or_later b c)
later-assoc absent b c = refl
later-assoc (bare o) b c = refl
later-assoc (caption o t) absent c = refl
later-assoc (caption o t) (bare p) c = refl
later-assoc (caption o t) (caption p u) absent = refl
later-assoc (caption o t) (caption p u) (bare q) = refl
later-assoc (caption o t) (caption p u) (caption q v) = refl

later-absent : (a : Caption) → or_later a absent ≡ a
later-absent absent = refl
later-absent (bare o) = refl
later-absent (caption o t) = refl

pub record CaptionRest (f : Forest) (rows text : List ℕ) (last : Maybe Spot) (i j : ℕ) : Type 0 where
  pub forest : Forest
  pub begins : Begins forest (drop i rows) (drop j text)
  pub below : ℕ
  pub row : i ≡ 8 * below
  pub fits : sizes forest ≤ sizes f
  pub up_to_here : Caption
  pub shows : Shows up_to_here (sizes f) rows text (Ok last)
  pub whole : last_caption 1 f ≡ or_later up_to_here (last_caption (1 + below) forest)

pub caption-rest-start : {f : Forest} {rows text : List ℕ} → Begins f rows text → CaptionRest f rows text None 0 0
caption-rest-start {f} sp =
    record { forest = f; begins = sp; below = 0; row = refl; fits = omega arith; up_to_here = absent; shows = shows_none refl; whole = refl }

module _ {f : Forest} {rows text : List ℕ} {last : Maybe Spot} {i j : ℕ} (w : CaptionRest f rows text last i j) where
  pub caption-rest-end : length rows ≤ i → CaptionFound f rows text (Ok last)
  unfolding last_caption
  caption-rest-end h =
      let e : w.forest ≡ none = no-left w.forest w.begins.rows_are (simp length-drop (omega arith)) in
      found-shows
      (shows-as
      (w.whole ∙ ap (λ (g : Forest). or_later w.up_to_here (last_caption (1 + w.below) g)) e ∙ later-absent w.up_to_here)
      w.shows)

  module _ (h : i < length rows) (hj : j ≤ length text) (few : length rows < cap) (short : length text < cap) where
    abbrev pub caption-rest-element : ElementAt w.forest rows text i j
    caption-rest-element = element w.begins h hj few short

    module _ (e n : ℕ) (is_e : e ≡ extent_of (drop i rows)) (is_n : n ≡ token_sum (take (extent_of (drop i rows)) (drop i rows))) where
      abbrev pub caption-rest-spot : Spot
      caption-rest-spot = record { row = i; end = i + e; from = j; to = j + n }

      pub caption-rest-child : SpotIn rows text caption-rest-spot
      caption-rest-child =
          let c = child-part caption-rest-element e n is_e is_n in
          let some = c.some in
          record { some_rows = omega arith; end = c.end; some_text = omega arith; stop = c.stop; element = c.given }

      module _ {b : Result (Maybe Spot) ℕ}
          (told :
          (t : Tree) (o : ℕ) → i ≡ 8 * o → Spells t (part_rows caption-rest-spot rows) (part_text caption-rest-spot text)
          → Shows (child_caption (1 + o) t) (size t) rows text b) where
        abbrev x : ElementAt w.forest rows text i j
        x = caption-rest-element

        abbrev its : Caption
        its = child_caption (1 + w.below) x.tree

        here : Shows its (size x.tree) rows text b
        here = told x.tree w.below w.row (part-spells x e n is_e is_n)

        whole : last_caption 1 f ≡ or_later (or_later w.up_to_here its) (last_caption (1 + (w.below + size x.tree)) x.others)
        unfolding last_caption
        whole =
            w.whole ∙ ap (λ (y : Forest). or_later w.up_to_here (last_caption (1 + w.below) y)) x.is
            ∙ sym (later-assoc w.up_to_here its (last_caption (1 + w.below + size x.tree) x.others))
            ∙ ap (λ (m : ℕ). or_later (or_later w.up_to_here its) (last_caption m x.others))
            (let z : 1 + w.below + size x.tree ≡ 1 + (w.below + size x.tree) = omega arith in z)

        pub caption-rest-next : {a : Maybe Spot} → b ≡ Ok a → CaptionRest f rows text (option_or a last) (i + e) (j + n)
        caption-rest-next q =
            let re = rows-e x e n is_e is_n in
            let row = w.row in
            let more = size-more x.tree x.others in
            let fits = w.fits in
            let is = ap sizes x.is in
            record {
              forest = x.others;
              begins = past-begins x e n is_e is_n;
              below = w.below + size x.tree;
              row = omega arith;
              fits = omega arith;
              up_to_here = or_later w.up_to_here its;
              shows = shows_later w.shows (shows_more (omega arith) (subst (Shows its (size x.tree) rows text) q here));
              whole = whole;
            }

        pub caption-rest-stop : {below : ℕ} → b ≡ Err below → CaptionFound f rows text (Err below)
        caption-rest-stop {below} q = bare_caption {below = below} (whole ∙ shows-stop (last_caption (1 + (w.below + size x.tree)) x.others) w.shows (subst (Shows its (size x.tree) rows text) q here))
