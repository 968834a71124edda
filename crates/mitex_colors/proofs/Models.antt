-- The model that elements begin with, where its text and the elements after it stand, and the name that is written before it.
use mathlib.Core.Path.{◌≡◌, refl, sym, ap, subst, ◌∙◌}
use mathlib.Core.Bool.{Bool, true, false, ◌&&◌, cond, and-eq-true_iff}
use mathlib.Core.Option.{Option as Maybe}
use mathlib.Core.Option.Option.{none as nothing, some}
use mathlib.Core.List.{List, [], ◌++◌}
use Prim.Native.Nat.{ℕ, ◌+◌, ◌*◌, ◌-◌, ◌≤◌, ◌<◌}
use native.Mathlib.Omega.{arith}
use borrow.Author.Tests.{eq-eqb, leb-true}
use lib.Dec.{leb}
use lib.ListN.{length, take, drop, get_or, length-append, length-drop}
use lib.Seq.{drop_at, drop-drop, length-take-le, take_all}
use Rattle.std.specs.Prelude.{Option, Some, None}
use Rattle.std.specs.Borrow.{Bor}
use Rattle.std.proofs.lemmas.List.{drop-take}
use Rattle.text.specs.Compare.{starts_with, ends_with}
use Rattle.text.specs.Slices.{PartOf}
use Rattle.text.proofs.Slices.{part-at, part-of-part}
use Rattle.mitex_spec.specs.Rules.{get_cmd}
use Rattle.mitex_syntax.specs.Syntax.{ClauseArgument, TokenLBracket, TokenRBracket}
use Rattle.mitex_syntax.specs.Tree.{Tree, Forest, size, sizes, rows_of, text_of, texts_of}
use Rattle.mitex_syntax.specs.Tree.Forest.{none, more}
use Rattle.mitex_syntax.specs.Views.{first_of, offset_by, offset_of, before_by, from_by, is_of, is_solid, children_in, inner}
use Rattle.mitex_syntax.specs.Spells.{Sound, SpellsAll}
use Rattle.mitex_syntax.specs.Places.{FirstAt}
use Rattle.mitex_syntax.specs.declared.Spot.{Spot}
use Rattle.mitex_syntax.proofs.Trees.{length-rowss}
use Rattle.mitex_meaning.specs.Texts.{left_bracket, right_bracket, no_model}
use Rattle.mitex_meaning.specs.Colors.{Rest, rest, Model, model, seek, past_first, in_model, bracket_model, model_in}
use Rattle.mitex_meaning.specs.Colors.{greedy_model, is_model, first_model, model_first, with_model, color_alias, body_loop}
use Rattle.mitex_meaning.specs.Parts.{between, part_text, inner_rows}
use Rattle.mitex_colors.specs.Scanning.{Left, ScanMoved, Sought, FirstPassed}
use Rattle.mitex_colors.specs.Models.{ModelIn, ModelPassed, ModelFound, ColorFound}
use Rattle.mitex_colors.proofs.Scans.{before-last, exact-left, left-exact, left-first, left-kind, moved_then, moved-text}
use Rattle.mitex_colors.proofs.Standing.{node-there, children-there, smaller}

-- ---- what elements mean as a model and the rest

-- the first element decides by a test: none, or one that fails, is no model
pub record ModelBy (meaning : ℕ → Forest → Model) (test : Tree → Bool) (held : Rest → Tree → Model) : Type 0 where
  pub at_none : (o : ℕ) → meaning o none ≡ model no_model (rest o none)
  pub at_more :
      (o : ℕ) (t : Tree) (f : Forest)
      → meaning o (more t f) ≡ cond (test t) (held (rest o (more t f)) t) (model no_model (rest o (more t f)))

module _ {meaning : ℕ → Forest → Model} {test : Tree → Bool} {held : Rest → Tree → Model} (m : ModelBy meaning test held) (s : Rest) where
  pub bare-by : ((t : Tree) (f : Forest) → s.elements ≡ more t f → test t ≡ false) → meaning s.rows s.elements ≡ model no_model s
  bare-by = go s.elements
    where
      go : (g : Forest) → ((t : Tree) (f : Forest) → g ≡ more t f → test t ≡ false) → meaning s.rows g ≡ model no_model (rest s.rows g)
      go none h = m.at_none s.rows
      go (more t f) h =
          let r = rest s.rows (more t f) in
          m.at_more s.rows t f ∙ ap (λ (b : Bool). cond b (held r t) (model no_model r)) (h t f refl)

  pub bare-end : s.elements ≡ none → meaning s.rows s.elements ≡ model no_model s
  bare-end e = bare-by (λ t f q. let z : ◌≡◌ {A = ℕ} 0 1 = cc in absurd (omega arith))

  pub held_by : (t : Tree) (f : Forest) → s.elements ≡ more t f → test t ≡ true → meaning s.rows s.elements ≡ held s t
  held_by t f q e =
      let r = rest s.rows (more t f) in
      ap (meaning s.rows) q ∙ m.at_more s.rows t f ∙ ap (λ (b : Bool). cond b (held r t) (model no_model r)) e
      ∙ ap (λ (g : Forest). held (rest s.rows g) t) (sym q)

-- a bracket: the text up to the next one, and what is no trivia after that
abbrev pub held_model : Rest → Model
held_model s =
    model (in_model (texts_of (before_by (is_of TokenRBracket) (past_first s).elements)))
    (seek is_solid (past_first (seek (is_of TokenRBracket) (past_first s))))

pub bracket-models : ModelBy bracket_model (is_of TokenLBracket) (λ s t. held_model s)
bracket-models = record { at_none = λ o. refl; at_more = λ o t f. refl }

-- an argument in brackets, without these, and the next argument
abbrev pub held_argument : Rest → Tree → Model
held_argument s t = model (in_model (inner (text_of t))) (seek (is_of ClauseArgument) (past_first s))

pub argument-models : ModelBy first_model (λ t. is_model (text_of t)) held_argument
argument-models = record { at_none = λ o. refl; at_more = λ o t f. refl }

-- ---- a scan past a model

-- from the closing bracket of a model on
abbrev pub bracket_end : Rest → Rest
bracket_end s = seek (is_of TokenRBracket) (past_first (seek is_solid s))

-- what a scan leaves is a part of the text
last-is-part :
    {rows text tail a v rows' text' : List ℕ} {r s : Rest} → ScanMoved rows text tail r s a v rows' text' → PartOf text' text
last-is-part {v = v} {text' = text'} p =
    record {
      from = length v;
      inside = omega (arith, ap length p.text_is, length-append v text');
      is = sym (ap (λ (l : List ℕ). take (length text') (drop (length v) l)) p.text_is
          ∙ ap (take (length text')) (drop_at v text' (length v) refl) ∙ take_all (length text') text' (omega arith));
    }

-- a model in a part of the text is in the text
model-in : (w : Option (Bor (List ℕ))) {part text : List ℕ} → ModelIn w part → PartOf part text → ModelIn w text
model-in None m p = tt
model-in (Some s) m p = part-of-part m p

-- no model at the first element that a scan stops at
pub bare-passed :
    {p : Tree → Bool} {m : Model} {rows text rows' text' : List ℕ} {s : Rest} → Sought p rows text [] s rows' text' → m ≡ model no_model (seek p s)
    → ModelPassed m s rows text None rows' text'
bare-passed {rows = rows} {text = text} {rows' = rows'} {text' = text'} {s = s} a q =
    subst (λ (x : Model). ModelPassed x s rows text None rows' text') (sym q)
    (record { text_is = refl; part = tt; over_rows = a.over_rows; over_text = a.over_text; moved = a.moved })

-- `\color`: a bracket, the text up to the next one, and what is no trivia after that
pub held-passed :
    {rows text r₁ t₁ r₂ t₂ r₃ t₃ r₄ t₄ r₅ t₅ : List ℕ} {s : Rest} (w : Bor (List ℕ))
    → Sought is_solid rows text [] s r₁ t₁
    → FirstPassed r₁ t₁ [] (seek is_solid s) r₂ t₂
    → Sought (is_of TokenRBracket) r₂ t₂ [] (past_first (seek is_solid s)) r₃ t₃
    → FirstPassed r₃ t₃ [] (seek (is_of TokenRBracket) (past_first (seek is_solid s))) r₄ t₄
    → Sought is_solid r₄ t₄ [] (past_first (seek (is_of TokenRBracket) (past_first (seek is_solid s)))) r₅ t₅
    → 0 < length r₁ → get_or r₁ 0 0 ≡ TokenLBracket → w.now ≡ take (length t₂ - length t₃) t₂
    → ModelPassed (model_in (seek is_solid s)) s rows text (Some w) r₅ t₅
held-passed {rows = rows} {text = text} {t₃ = t₃} {r₅ = r₅} {t₅ = t₅} {s = s} w a b c d f h k e =
    let x = left-first a.moved.there h in
    let held = held_by bracket-models (seek is_solid s) x.0 x.1.0 x.1.1 (eq-eqb _ _ (sym (left-kind a.moved.there x.0 x.1.0 x.1.1) ∙ k)) in
    subst (λ (m : Model). ModelPassed m s rows text (Some w) r₅ t₅) (sym held)
    (record {
      text_is = ap in_model (c.before ∙ sym (e ∙ before-last c.over_text t₃ c.moved.text_is));
      part = part-of-part (part-at 0 _ (omega arith) e) (last-is-part (moved_then a.moved b.moved));
      over_rows = (((a.over_rows ++ b.over_rows) ++ c.over_rows) ++ d.over_rows) ++ f.over_rows;
      over_text = (((a.over_text ++ b.over_text) ++ c.over_text) ++ d.over_text) ++ f.over_text;
      moved = moved_then (moved_then (moved_then (moved_then a.moved b.moved) c.moved) d.moved) f.moved;
    })

-- ---- where it stands

-- the last r of the part of l from i to e
record LastPart (l a r : List ℕ) (i e : ℕ) : Type 0 where
  low : length r ≤ e
  place : e - length r ≡ i + length a
  is : between (e - length r) e l ≡ r

last-part :
    {l x : List ℕ} (a r : List ℕ) {i e : ℕ} → i ≤ e → e ≤ length l → x ≡ between i e l → x ≡ a ++ r → LastPart l a r i e
last-part {l} a r {i} {e} h k p q =
    let n = length a in
    let lx = ap length p ∙ length-take-le (e - i) (drop i l) (simp length-drop (omega arith)) in
    let la = ap length q ∙ length-append a r in
    let here : e - length r ≡ i + n = omega arith in
    let m : e - i ≡ n + (e - (i + n)) = omega arith in
    record {
      low = omega arith;
      place = here;
      is =
          ap (λ (j : ℕ). between j e l) here
          ∙ ap (take (e - (i + n))) (sym (drop-drop n i l))
          ∙ sym (drop-take n (e - (i + n)) (drop i l))
          ∙ ap (λ (j : ℕ). drop n (take j (drop i l))) (sym m)
          ∙ ap (drop n) (sym p ∙ q)
          ∙ drop_at a r n refl;
    }

-- the place that code makes of what is left, up to e and u
abbrev pub rest_at : List ℕ → List ℕ → ℕ → ℕ → Spot
rest_at r v e u = record { row = e - length r; end = e; from = u - length v; to = u }

-- in the rows from i to e and the text from j to u a scan has gone past a model
pub model-found :
    {m : Model} {s : Rest} {f : Forest} {rows text r v r' v' : List ℕ} {w : Option (Bor (List ℕ))} {p : Spot} (i e j u : ℕ) → i ≤ e
    → e ≤ length rows → j ≤ u → u ≤ length text → r ≡ between i e rows → v ≡ between j u text → ModelPassed m s r v w r' v'
    → p ≡ rest_at r' v' e u → 8 * s.rows ≡ 8 + i → sizes s.elements ≤ sizes f → ModelFound m f rows text (record { text = w; rest = p })
model-found {m} {s} {f} {rows} {text} {r' = r'} {v' = v'} {w = w} i e j u hi he hj hu er ev x q o z =
    let a = last-part x.over_rows r' hi he er x.moved.rows_are in
    let b = last-part x.over_text v' hj hu ev x.moved.text_is in
    let sp = left-exact x.moved.there in
    let low = a.low in
    let begun = b.low in
    subst (λ (y : Spot). ModelFound m f rows text (record { text = w; rest = y })) (sym q)
    (record {
      text_is = x.text_is;
      part = model-in w x.part (part-at j (u - j) (omega arith) ev);
      spells = record { rows_are = a.is ∙ sp.rows_are; text_is = b.is ∙ sp.text_is; sound = sp.sound };
      inside = record { low = omega arith; high = he; begun = omega arith; stop = hu };
      row = omega (arith, x.moved.row, a.place);
      fits = omega (arith, x.moved.fits);
    })

-- all of a list, as a part
pub whole : (l : List ℕ) → l ≡ between 0 (length l) l
whole l = sym (take_all (length l - 0) l (omega arith))

-- ---- `\textcolor` and `\colorbox`: an argument that is a model, without its ends, and the next argument

model-two : (s : List ℕ) → is_model s ≡ true → 2 ≤ length s
model-two s e =
    let p = (and-eq-true_iff (starts_with s left_bracket) (ends_with s right_bracket && leb 2 (length s))).0 e in
    leb-true 2 (length s) ((and-eq-true_iff (ends_with s right_bracket) (leb 2 (length s))).0 p.1).1

-- where text is left there is an element
text-first : {rows text : List ℕ} {f : Forest} → Left rows text [] f → 0 < length text → (t : Tree) × ((g : Forest) × (f ≡ more t g))
unfolding text_of
text-first {text = text} {f = f} l h = on f l.text_is
  where
    on : (g : Forest) → text ≡ texts_of g ++ [] → (t : Tree) × ((y : Forest) × (g ≡ more t y))
    on none e = absurd (omega (arith, ap length e))
    on (more t y) e = (t, (y, refl))

module _ {rows text r₁ t₁ r₂ t₂ : List ℕ} {s : Rest} (a : Sought (is_of ClauseArgument) rows text [] s r₁ t₁)
    (b : FirstPassed r₁ t₁ [] (seek (is_of ClauseArgument) s) r₂ t₂) where
  abbrev pub argument : List ℕ
  argument = take (length t₁ - length t₂) t₁

  -- the first argument, if there is one
  argument-is : (t : Tree) (f : Forest) → (seek (is_of ClauseArgument) s).elements ≡ more t f → text_of t ≡ argument
  argument-is t f q = b.over t f q ∙ sym (before-last b.over_text t₂ b.moved.text_is)

  pub argument-wide : is_model argument ≡ true → 2 ≤ length argument
  argument-wide k = model-two argument k

  pub argument-bare : is_model argument ≡ false → ModelPassed (model_first (seek (is_of ClauseArgument) s)) s rows text None r₁ t₁
  argument-bare k =
      bare-passed a (bare-by argument-models (seek (is_of ClauseArgument) s) (λ t f q. ap is_model (argument-is t f q) ∙ k))

  pub argument-passed :
      {r₃ t₃ : List ℕ} (w : Bor (List ℕ)) → Sought (is_of ClauseArgument) r₂ t₂ [] (past_first (seek (is_of ClauseArgument) s)) r₃ t₃
      → is_model argument ≡ true → w.now ≡ inner argument
      → ModelPassed (model_first (seek (is_of ClauseArgument) s)) s rows text (Some w) r₃ t₃
  argument-passed {r₃} {t₃} w c k e =
      let wide = argument-wide k in
      let lt = moved-text b.moved in
      let long = length-take-le (length t₁ - length t₂) t₁ (omega arith) in
      let x = text-first a.moved.there (omega arith) in
      let t = argument-is x.0 x.1.0 x.1.1 in
      let held = held_by argument-models (seek (is_of ClauseArgument) s) x.0 x.1.0 x.1.1 (ap is_model t ∙ k) in
      subst (λ (m : Model). ModelPassed m s rows text (Some w) r₃ t₃) (sym held)
      (record {
        text_is = ap in_model (ap inner t ∙ sym e);
        part = part-of-part (part-of-part (part-at 1 _ (omega (arith, long)) e) (part-at 0 _ (omega arith) refl)) (last-is-part a.moved);
        over_rows = (a.over_rows ++ b.over_rows) ++ c.over_rows;
        over_text = (a.over_text ++ b.over_text) ++ c.over_text;
        moved = moved_then (moved_then a.moved b.moved) c.moved;
      })

-- what is cut off at both ends
pub inner-cut : (s : List ℕ) → take (length s - 1 - 1) (drop 1 s) ≡ inner s
inner-cut s = let n : length s - 1 - 1 ≡ length s - 2 = omega arith in ap (λ (k : ℕ). take k (drop 1 s)) n

-- ---- `\color`

-- without an argument there is no model, and nothing at the end
between_none : (j : ℕ) (l : List ℕ) → between j j l ≡ []
between_none j l = let e : j - j ≡ 0 = omega arith in ap (λ (n : ℕ). take n (drop j l)) e

pub color-missing :
    {f : Forest} {rows text : List ℕ} → SpellsAll f rows text → first_of ClauseArgument f ≡ nothing
    → ColorFound f rows text
    (record { text = None; rest = record { row = length rows; end = length rows; from = length text; to = length text } })
unfolding rows_of text_of Sound size offset_by from_by
color-missing {f} {rows} {text} sp e =
    record {
      model = model no_model (rest (1 + sizes f) none);
      found = record {
        text_is = refl;
        part = tt;
        spells = record { rows_are = between_none (length rows) rows; text_is = between_none (length text) text; sound = tt };
        inside = record { low = omega arith; high = omega arith; begun = omega arith; stop = omega arith };
        row = omega (arith, ap length sp.rows_are, length-rowss f);
        fits = omega arith;
      };
      same = λ name conv x c.
          ap (λ (o : Maybe Tree). with_model conv x (color_alias (get_cmd x.rules name)) (body_loop x.mode)
          (greedy_model (2 + offset_of ClauseArgument f) (children_in o)) c) e;
    }

-- with one, the model is found among its children
module _ {f : Forest} {rows text : List ℕ} {p : Spot} (s : FirstAt (is_of ClauseArgument) f rows text 0 p.row p.end p.from p.to) where
  abbrev pub argument_rest : Rest
  argument_rest = rest (2 + offset_of ClauseArgument f) (node-there s refl).0

  module _ {r v : List ℕ} (er : r ≡ inner_rows p rows) (ev : v ≡ part_text p text) where
    pub argument-left : Left r v [] argument_rest.elements
    argument-left =
        exact-left
        (subst (λ (y : List ℕ). SpellsAll argument_rest.elements y v) (sym er)
        (subst (λ (y : List ℕ). SpellsAll argument_rest.elements (inner_rows p rows) y) (sym ev) (children-there s (node-there s refl).1)))

    pub color-there :
        {r' v' : List ℕ} {w : Option (Bor (List ℕ))} {q : Spot} → ModelPassed (model_in (seek is_solid argument_rest)) argument_rest r v w r' v'
        → q ≡ rest_at r' v' p.end p.to → ColorFound f rows text (record { text = w; rest = q })
    color-there {w = w} {q = q} x e =
        let g = node-there s refl in
        let c : g.0 ≡ children_in (first_of ClauseArgument f) = sym (ap children_in (s.is ∙ ap some g.1)) in
        let z = smaller s g.1 in
        let row = s.row in
        let n = 2 + offset_of ClauseArgument f in
        record {
          model = greedy_model n (children_in (first_of ClauseArgument f));
          found =
              subst (λ (y : Forest). ModelFound (greedy_model n y) f rows text (record { text = w; rest = q })) c
              (model-found (p.row + 8) p.end p.from p.to s.some_rows s.end s.some_text s.stop er ev x e (omega arith) (omega arith));
          same = λ name conv y k. refl;
        }
