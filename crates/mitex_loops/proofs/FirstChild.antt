-- The first child and those behind it, as code has them that knows how far the first one goes.
use mathlib.Core.Path.{◌≡◌, refl, sym, ap, subst, ◌∙◌}
use mathlib.Core.List.{List, [], ◌∷◌, append-nil}
use Prim.Native.Nat.{ℕ, ◌+◌, ◌-◌, ◌≤◌, ◌<◌}
use native.Mathlib.Omega.{arith}
use mathlib.Core.Bool.{Bool, true, false}
use borrow.Author.Tests.{eqb-true}
use lib.Dec.{eqb}
use lib.ListN.{length, take, drop}
use Rattle.text.specs.Writing.{cap}
use Rattle.text.proofs.Writing.{part-rest}
use Rattle.mitex_syntax.specs.Tree.{Forest, sizes, rows_of, text_of, texts_of}
use Rattle.mitex_syntax.specs.Tree.Forest.{none, more}
use Rattle.mitex_syntax.specs.Spells.{Sound, Spells, SpellsAll, SomeForest}
use Rattle.mitex_syntax.specs.Rows.{extent_of, token_sum, Spans}
use Rattle.mitex_syntax.specs.declared.Span.{Span}
use Rattle.mitex_syntax.proofs.Trees.{ElementAt, element, all-begins, spells-alone, no-left, spans, rows-e, text-n, part-spells, past-exact}
use Rattle.mitex_meaning.specs.Parts.{between}
use Rattle.mitex_loops.specs.FirstChild.{first_only, behind_first, FirstApart, lr_name}

-- what the test for no bytes says
pub empty : (s : List ℕ) {b : Bool} → b ≡ eqb (length s) 0 → b ≡ true → length s ≡ 0
empty s e t = eqb-true (length s) 0 (sym e ∙ t)

pub some-left : (s : List ℕ) {b : Bool} → b ≡ eqb (length s) 0 → b ≡ false → 0 < length s
some-left [] e t = let z : ◌≡◌ {A = ℕ} 0 1 = cc in absurd (omega arith)
some-left (x ∷ s) e t = omega arith

-- ---- what reading the first child's size asks, and that it stays inside

module _ {rows text : List ℕ} (g : SomeForest rows text 0 0) (h : 0 < length rows) where
  some-head : ElementAt g.forest rows text 0 0
  some-head = element g.begins h (omega arith) g.few g.short

  pub head-spans : Spans rows 0
  head-spans = spans some-head g.few g.short

  pub head-inside :
      (e n : ℕ) → e ≡ extent_of (drop 0 rows) → n ≡ token_sum (take (extent_of (drop 0 rows)) (drop 0 rows))
      → (e ≤ length rows) × (n ≤ length text)
  head-inside e n is_e is_n =
      let x = some-head in
      (omega (arith, rows-e x e n is_e is_n, x.end), omega (arith, text-n x e n is_e is_n, x.stop))

-- ---- apart

-- no children have no bytes
no-child : (rows text : List ℕ) → SpellsAll none (between 0 0 rows) (between 0 0 text)
unfolding rows_of text_of Sound
no-child rows text = record { rows_are = refl; text_is = refl; sound = tt }

module _ {f : Forest} {rows text : List ℕ} (sp : SpellsAll f rows text) where
  -- there is no child
  pub none_apart : length rows ≡ 0 → FirstApart f rows text (record { rows = 0; text = 0 })
  none_apart h =
      let e = no-left f sp.rows_are h in
      let all = subst (λ (g : Forest). SpellsAll g rows text) e sp in
      subst (λ (g : Forest). FirstApart g rows text (record { rows = 0; text = 0 })) (sym e)
      (record {
        size_is = refl;
        first = no-child rows text;
        behind = record { rows_are = part-rest rows 0 ∙ all.rows_are; text_is = part-rest text 0 ∙ all.text_is; sound = all.sound };
      })

  -- the first child by its size
  pub some-apart :
      0 < length rows → length rows < cap → length text < cap → (s : Span) → s.rows ≡ extent_of (drop 0 rows)
      → s.text ≡ token_sum (take (extent_of (drop 0 rows)) (drop 0 rows)) → FirstApart f rows text s
  some-apart h few short s is_e is_n =
      let e = s.rows in
      let n = s.text in
      let x : ElementAt f rows text 0 0 = element (all-begins sp) h (omega arith) few short in
      let z = past-exact x e n is_e is_n sp in
      let ze : 0 + e - 0 ≡ e - 0 = omega arith in
      let zn : 0 + n - 0 ≡ n - 0 = omega arith in
      let de : 0 + e ≡ e = omega arith in
      let dn : 0 + n ≡ n = omega arith in
      subst (λ (g : Forest). FirstApart g rows text s) (sym x.is)
      (record {
        size_is = rows-e x e n is_e is_n;
        first =
            spells-alone
            (subst (λ (m : ℕ). Spells x.tree (take m rows) (between 0 n text)) ze
            (subst (λ (m : ℕ). Spells x.tree (take (0 + e - 0) rows) (take m text)) zn (part-spells x e n is_e is_n)));
        behind =
            record {
              rows_are = part-rest rows e ∙ ap (λ (m : ℕ). drop m rows) (sym de) ∙ z.rows_are;
              text_is = part-rest text n ∙ ap (λ (m : ℕ). drop m text) (sym dn) ∙ z.text_is;
              sound = z.sound;
            };
      })

-- ---- what is taken of the children

pub fits-behind : (f : Forest) → sizes (behind_first f) ≤ sizes f
unfolding sizes
fits-behind none = omega arith
fits-behind (more t f) = omega arith

-- the name of `\left` or `\right` is the first child's text without its first byte
first-name : (f : Forest) → drop 1 (texts_of (first_only f)) ≡ lr_name f
unfolding text_of
first-name none = refl
first-name (more t f) = ap (drop 1) (append-nil (text_of t))

pub name-apart : {f : Forest} {rows text : List ℕ} {s : Span} → FirstApart f rows text s → drop 1 (take s.text text) ≡ lr_name f
name-apart {f} {rows} {text} {s} a =
    let z : s.text ≡ s.text - 0 = omega arith in
    ap (drop 1) (ap (λ (m : ℕ). take m text) z ∙ a.first.text_is) ∙ first-name f
