-- What a place that was found tells: its bounds, its text, and the children of what stands there, in the terms of code that takes
-- a place apart.
use mathlib.Core.Path.{◌≡◌, sym, ap, subst, ◌∙◌}
use mathlib.Core.Bool.{Bool}
use mathlib.Core.Option.Option.{none as nothing}
use mathlib.Core.List.{List}
use Prim.Native.Nat.{ℕ, ◌+◌, ◌-◌, ◌≤◌, ◌<◌}
use native.Mathlib.Omega.{arith}
use lib.ListN.{length, take, drop, length-drop, length-take}
use lib.Seq.{drop_at, drop-drop, take-add, length-take-le}
use Rattle.text.specs.Writing.{cap}
use Rattle.mitex_syntax.specs.Tree.{Tree, Forest}
use Rattle.mitex_syntax.specs.Views.{first_by, children_of, children_in, text_in}
use Rattle.std.specs.Prelude.{Option, None, Some}
use Rattle.mitex_syntax.specs.Spells.{Spells, Begins, SomeForest}
use Rattle.mitex_syntax.specs.Places.{FirstAt, Placed, part_at, InText, SpotIn, FoundIn}
use Rattle.mitex_syntax.specs.Places.Placed.{missing, there}
use Rattle.mitex_syntax.specs.declared.Spot.{Spot}
use Rattle.mitex_syntax.proofs.Trees.{children-begin, children-part}

-- what a view asks of children that are spelt
pub some-forest : {f : Forest} {rows text : List ℕ} → Begins f rows text → length rows < cap → length text < cap → SomeForest rows text 0 0
some-forest {f} sp few short = record { few = few; short = short; low = omega arith; begun = omega arith; forest = f; begins = sp }

-- and of the children of an element, from its second row on
pub some-children :
    (t : Tree) {rows text : List ℕ} → Spells t rows text → length rows < cap → length text < cap
    → SomeForest (take (length rows - 8) (drop 8 rows)) text 0 0
some-children t sp few short = some-forest (children-part t sp) (simp (length-take, length-drop) (omega arith)) short

module _ {p : Tree → Bool} {f : Forest} {rows text : List ℕ} {i : ℕ} where
  -- a place that was found, taken apart
  pub stands : {r : Option Spot} {s : Spot} → Placed p f rows text i r → r ≡ Some s → FirstAt p f rows text i s.row s.end s.from s.to
  stands {r} {s} m e = go (subst (Placed p f rows text i) e m)
    where
      go : Placed p f rows text i (Some s) → FirstAt p f rows text i s.row s.end s.from s.to
      go (there x) = x

  pub nowhere : {r : Option Spot} → Placed p f rows text i r → r ≡ None → first_by p f ≡ nothing
  nowhere m e = go (subst (Placed p f rows text i) e m)
    where
      go : Placed p f rows text i None → first_by p f ≡ nothing
      go (missing h) = h

  -- the text of a place is that of what was found
  pub place-text : {r : Option Spot} → Placed p f rows text i r → part_at r text ≡ text_in (first_by p f)
  place-text (missing h) = ap text_in (sym h)
  place-text (there s) = s.spells.text_is ∙ ap text_in (sym s.is)

  pub place_inside : {r : Option Spot} → Placed p f rows text i r → InText text r
  place_inside (missing h) = tt
  place_inside (there s) = (s.some_text, s.stop)

  -- an element stands where one was found
  pub spot-in : {s : Spot} → FirstAt p f rows text i s.row s.end s.from s.to → SpotIn rows text s
  spot-in s =
      record {
        some_rows = s.some_rows;
        end = s.end;
        some_text = s.some_text;
        stop = s.stop;
        element = record { tree = s.tree; spells = s.spells };
      }

  pub found-in : {r : Option Spot} → Placed p f rows text i r → FoundIn rows text r
  found-in (missing h) = tt
  found-in (there s) = spot-in s

pub at-inside : (text : List ℕ) {r : Option Spot} {s : Spot} → InText text r → r ≡ Some s → (s.from ≤ s.to) × (s.to ≤ length text)
at-inside text m e = subst (InText text) e m

pub spot_at : {rows text : List ℕ} {r : Option Spot} {s : Spot} → FoundIn rows text r → r ≡ Some s → SpotIn rows text s
spot_at {rows} {text} m e = subst (FoundIn rows text) e m

pub found-inside : (rows text : List ℕ) (r : Option Spot) → FoundIn rows text r → InText text r
found-inside rows text None m = tt
found-inside rows text (Some s) m = (m.some_text, m.stop)

-- ---- the children of what was found

drop-take : (m k : ℕ) (l : List ℕ) → m ≤ length l → drop m (take (m + k) l) ≡ take k (drop m l)
drop-take m k l h = ap (drop m) (take-add m k l) ∙ drop_at (take m l) (take k (drop m l)) m (length-take-le m l h)

module _ {rows text : List ℕ} {s : Spot} (m : SpotIn rows text s) where
  -- of the element at a place
  pub spot-children :
      (t : Tree) → Spells t (take (s.end - s.row) (drop s.row rows)) (take (s.to - s.from) (drop s.from text))
      → Begins (children_of t) (take (s.end - (s.row + 8)) (drop (s.row + 8) rows)) (take (s.to - s.from) (drop s.from text))
  spot-children t sp =
      let some = m.some_rows in
      let end = m.end in
      let l = length-drop s.row rows in
      let e : s.end - s.row ≡ 8 + (s.end - (s.row + 8)) = omega arith in
      let er : drop 8 (take (s.end - s.row) (drop s.row rows)) ≡ take (s.end - (s.row + 8)) (drop (s.row + 8) rows) =
      ap (λ (n : ℕ). drop 8 (take n (drop s.row rows))) e ∙ drop-take 8 (s.end - (s.row + 8)) (drop s.row rows) (omega arith)
      ∙ ap (take (s.end - (s.row + 8))) (drop-drop 8 s.row rows) in
      subst (λ (R : List ℕ). Begins (children_of t) R (take (s.to - s.from) (drop s.from text))) er (children-begin t sp)

  pub spot-forest :
      length rows < cap → length text < cap
      → SomeForest (take (s.end - (s.row + 8)) (drop (s.row + 8) rows)) (take (s.to - s.from) (drop s.from text)) 0 0
  spot-forest few short =
      some-forest (spot-children m.element.tree m.element.spells) (simp (length-take, length-drop) (omega arith))
      (simp (length-take, length-drop) (omega arith))

module _ {p : Tree → Bool} {f : Forest} {rows text : List ℕ} {i : ℕ} {r : Spot} (s : FirstAt p f rows text i r.row r.end r.from r.to) where
  pub found-children : Begins (children_of s.tree) (take (r.end - (r.row + 8)) (drop (r.row + 8) rows)) (take (r.to - r.from) (drop r.from text))
  found-children = spot-children (spot-in s) s.tree s.spells

  pub children-found : children_in (first_by p f) ≡ children_of s.tree
  children-found = ap children_in s.is
