-- Laws of what stands in an environment: one walk between two texts; or two walks, of which the first goes over a part of the children
-- only (the arguments of an environment for Math, the caption of a figure).
use mathlib.Core.Path.{◌≡◌, refl, sym, ap, subst, ◌∙◌}
use mathlib.Core.Bool.{Bool, true, false}
use mathlib.Core.List.{List, [], ◌++◌, append-nil}
use Prim.Native.Nat.{ℕ, ◌+◌, ◌/◌, ◌≤◌}
use native.Mathlib.Omega.{arith}
use lib.ListN.{take}
use Rattle.mitex_syntax.specs.Syntax.{ItemBegin}
use Rattle.mitex_syntax.specs.Tree.{Tree, Forest, size, sizes, rows_of, text_of}
use Rattle.mitex_syntax.specs.Tree.Forest.{none, more}
use Rattle.mitex_syntax.specs.Spells.{SpellsAll, Sound}
use Rattle.mitex_syntax.specs.Views.{begin_of, offset_of}
use Rattle.mitex_syntax.proofs.Trees.{spells-alone}
use Rattle.mitex_meaning.specs.Outcome.{Context, Carry, Outcome, Conv, after, and_then, closing, shift, in_env}
use Rattle.mitex_meaning.specs.Children.{each}
use Rattle.mitex_meaning.specs.Texts.{left_paren, right_paren, hash, body_begin, block_end, caption_begin, caption_end, dollar_begin, dollar_end}
use Rattle.mitex_meaning.specs.Environments.{Caption, math_env, in_math, last_caption, captioned, figure_env}
use Rattle.mitex_meaning.specs.Environments.Caption.{absent, caption}
use Rattle.mitex_meaning.specs.Parts.{LiesIn, part_rows, part_text, BeginFound, CaptionStands, CaptionFound}
use Rattle.mitex_meaning.specs.Parts.CaptionFound.{no_caption, bare_caption, caption_at}
use Rattle.mitex_meaning.specs.declared.LaTeXEnv.{LaTeXEnv}
use Rattle.mitex_meaning.specs.declared.LaTeXEnv.TheVariants.{Figure}
use Rattle.mitex_meaning.specs.declared.Loop.{Loop}
use Rattle.mitex_meaning.specs.declared.Loop.TheVariants.{Plain, Named, Inside, Figure as FigureLoop}
use Rattle.std.specs.Prelude.{Option, Some, None as Nothing, Result, Ok, Err}
use Rattle.std.specs.Option.{is_some, unwrap_or}
use Rattle.mitex_syntax.specs.declared.Spot.{Spot}
use Rattle.mitex_meaning.proofs.Outcomes.{after-nil, after-after, closing_after, closing-and_then, and_then-same, and_then-closing, shift-shift}
use Rattle.mitex_meaning.proofs.Loops.{each_none, each-from-zero}
use Rattle.mitex_environments.specs.Captions.{caption_text, caption_close}
use Rattle.mitex.proofs.Walking.{alone-is}

-- ---- environments for Math: the arguments of the first ItemBegin, and then all children but the begin and the end

-- the rows of a loop over the arguments, as the code counts them
begin-row :
    {f : Forest} {i : ℕ} {rows text : List ℕ} → BeginFound f i rows text → (conv : Tree → Carry → Outcome) (l : Loop) (c : Carry)
    → shift (1 + offset_of ItemBegin f) (each conv 1 l (begin_of f) c) ≡ shift (i / 8) (each conv 1 l (begin_of f) c)
begin-row {f} {i} b conv l c =
    let o = each conv 0 l (begin_of f) c in
    let below : i / 8 + 1 ≡ 1 + i / 8 = omega arith in
    b.row conv l c
    ∙ sym
    (ap (shift (i / 8)) (each-from-zero conv 1 l (begin_of f) c) ∙ shift-shift (i / 8) 1 o ∙ ap (λ (s : ℕ). shift s o) below)

pub math-is :
    {f : Forest} {i : ℕ} {rows text : List ℕ} → BeginFound f i rows text → (v : LaTeXEnv) (w : List ℕ) (conv : Conv) (x : Context) (c : Carry)
    → math_env v w conv x f c
    ≡ after (dollar_begin x.mode ++ (w ++ left_paren))
    (closing (right_paren ++ dollar_end x.mode)
    (and_then (shift (i / 8) (each (conv (in_math v x)) 1 (Named 0) (begin_of f) c)) (λ c'. each (conv (in_math v x)) 1 Inside f c')))
math-is {f} b v w conv x c =
    ap
    (λ (o : Outcome).
    after (dollar_begin x.mode ++ (w ++ left_paren))
    (closing (right_paren ++ dollar_end x.mode) (and_then o (λ c'. each (conv (in_math v x)) 1 Inside f c'))))
    (begin-row b (conv (in_math v x)) (Named 0) c)

-- ---- figures: the caption, if there is one, and then the children

abbrev in_figure : Context → Context
in_figure x = in_env Figure x

figure-at :
    (w : List ℕ) (k : Caption) (conv : Conv) (x : Context) (f : Forest) (c : Carry) → last_caption 1 f ≡ k
    → figure_env w conv x f c ≡ after (hash ++ (w ++ left_paren)) (captioned k conv (in_figure x) f c)
figure-at w k conv x f c e = ap (λ (y : Caption). after (hash ++ (w ++ left_paren)) (captioned y conv (in_figure x) f c)) e

-- where the caption stands
abbrev pub nothing : Spot
nothing = record { row = 0; end = 0; from = 0; to = 0 }

abbrev pub spot_of : Option Spot → Spot
spot_of o = unwrap_or o nothing

-- the elements that are walked over first: the caption's argument, or none; what the figure comes to by them
abbrev pub caption_first : Bool → ℕ → Forest → Forest → List ℕ → Conv → Context → Carry → Outcome
caption_first k i g f w conv x c =
    after ((hash ++ (w ++ left_paren)) ++ caption_text k)
    (closing block_end
    (and_then (shift (i / 8) (each (conv (in_figure x)) 1 Plain g c))
    (λ c'. after (caption_close k) (each (conv (in_figure x)) 1 FigureLoop f c'))))

pub record Captioned (f : Forest) (rows text : List ℕ) (k : Bool) (p : Spot) : Type 0 where
  pub forest : Forest
  pub spells : SpellsAll forest (part_rows p rows) (part_text p text)
  pub inside : LiesIn rows text p
  pub fits : sizes forest ≤ sizes f
  pub is : (w : List ℕ) (conv : Conv) (x : Context) (c : Carry) → figure_env w conv x f c ≡ caption_first k p.row forest f w conv x c

none-spells : (rows text : List ℕ) → SpellsAll none (take 0 rows) (take 0 text)
unfolding rows_of text_of Sound
none-spells rows text = record { rows_are = refl; text_is = refl; sound = tt }

none-fits : (f : Forest) → sizes none ≤ sizes f
unfolding sizes
none-fits f = omega arith

one-fits : (t : Tree) (f : Forest) → size t ≤ sizes f → sizes (more t none) ≤ sizes f
unfolding sizes
one-fits t f h = omega arith

caption-none : {f : Forest} {rows text : List ℕ} → last_caption 1 f ≡ absent → Captioned f rows text false nothing
caption-none {f} {rows} {text} e =
    record {
      forest = none;
      spells = none-spells rows text;
      inside = record { low = omega arith; high = omega arith; begun = omega arith; stop = omega arith };
      fits = none-fits f;
      is = λ w conv x c.
          let begin = hash ++ (w ++ left_paren) in
          let o = each (conv (in_figure x)) 1 FigureLoop f c in
          let body : Carry → Outcome = λ c'. after body_begin (each (conv (in_figure x)) 1 FigureLoop f c') in
          figure-at w absent conv x f c e
          ∙ ap (λ (s : List ℕ). after s (after body_begin (closing block_end o))) (sym (append-nil begin))
          ∙ ap (after (begin ++ []))
          (sym (closing_after block_end body_begin o)
          ∙ ap (closing block_end)
          (sym (after-nil (after body_begin o)) ∙ ap (λ (q : Outcome). and_then (shift (0 / 8) q) body) (sym (each_none (conv (in_figure x)) 1 Plain c))));
    }

caption-some : {f : Forest} {rows text : List ℕ} {p : Spot} → CaptionStands f rows text p → Captioned f rows text true p
caption-some {f} {p = p} s =
    record {
      forest = more s.tree none;
      spells = spells-alone s.spells;
      inside = s.inside;
      fits = one-fits s.tree f s.fits;
      is = λ w conv x c.
          let begin = hash ++ (w ++ left_paren) in
          let t = conv (in_figure x) s.tree c in
          let first = shift (1 + s.below) t in
          let o : Carry → Outcome = λ c'. each (conv (in_figure x)) 1 FigureLoop f c' in
          let body : Carry → Outcome = λ c'. after (caption_end ++ body_begin) (o c') in
          let r = s.row in
          let below : 1 + s.below ≡ p.row / 8 + 1 = omega arith in
          figure-at w (caption (1 + s.below) s.tree) conv x f c s.is
          ∙ after-after begin caption_begin (and_then (closing caption_end first) (λ c'. after body_begin (closing block_end (o c'))))
          ∙ ap (after (begin ++ caption_begin))
          (and_then-closing caption_end first (λ c'. after body_begin (closing block_end (o c')))
          ∙ and_then-same first (λ c'. after caption_end (after body_begin (closing block_end (o c')))) (λ c'. closing block_end (body c'))
          (λ c'. after-after caption_end body_begin (closing block_end (o c')) ∙ sym (closing_after block_end (caption_end ++ body_begin) (o c')))
          ∙ sym (closing-and_then block_end first body)
          ∙ ap (λ (q : Outcome). closing block_end (and_then q body))
          (ap (λ (n : ℕ). shift n t) below
          ∙ sym (shift-shift (p.row / 8) 1 t)
          ∙ ap (shift (p.row / 8)) (sym (alone-is (conv (in_figure x)) s.tree c))));
    }

-- what was found, where it is no caption without an argument
abbrev told : Option Spot → Result (Option Spot) ℕ → Option Spot
told q (Ok o) = o
told q (Err n) = q

abbrev bare_so : Result (Option Spot) ℕ → ℕ
bare_so (Ok o) = 0
bare_so (Err n) = 1

captioned-as : {f : Forest} {rows text : List ℕ} (o : Option Spot) {k : Option Spot} → k ≡ o → Captioned f rows text (is_some k) (spot_of k)
    → Captioned f rows text (is_some o) (spot_of o)
captioned-as {f = f} {rows = rows} {text = text} o e m = subst (λ (q : Option Spot). Captioned f rows text (is_some q) (spot_of q)) e m

pub caption-walked :
    {f : Forest} {rows text : List ℕ} {r : Result (Option Spot) ℕ} (o : Option Spot) {p : Spot} → p ≡ spot_of o → r ≡ Ok o → CaptionFound f rows text r
    → Captioned f rows text (is_some o) p
caption-walked {f} {rows} {text} {r} o e is found = subst (Captioned f rows text (is_some o)) (sym e) (walked found is)
  where
    walked : {q : Result (Option Spot) ℕ} → CaptionFound f rows text q → q ≡ Ok o → Captioned f rows text (is_some o) (spot_of o)
    walked (no_caption h) d = captioned-as {f = f} {rows = rows} {text = text} o {k = Nothing} (ap (told o) d) (caption-none h)
    walked (bare_caption h) d = absurd (omega (arith, ap bare_so d))
    walked (caption_at {p} s) d = captioned-as {f = f} {rows = rows} {text = text} o {k = Some p} (ap (told o) d) (caption-some s)
