-- `\item` and `\label` by what their environment is: a list or not, and whether a label is written at once. A label that is held stands
-- at the front of the array.
use mathlib.Core.Path.{◌≡◌, refl, sym, ap, ◌∙◌}
use mathlib.Core.Bool.{Bool, true, cond}
use mathlib.Core.List.{List, [], ◌∷◌, ◌++◌}
use Prim.Native.Nat.{ℕ}
use lib.ListN.{length, take}
use lib.Seq.{take_at}
use Rattle.std.specs.Prelude.{Some, None as Nothing}
use Rattle.mitex_meaning.specs.Outcome.{Carry, labelled}
use Rattle.mitex_meaning.specs.Outcome.Label.{held}
use Rattle.mitex_meaning.specs.Outcome.Outcome.{refused, done}
use Rattle.mitex_meaning.specs.State.{label_of}
use Rattle.mitex_meaning.specs.Texts.{space, label_mark}
use Rattle.mitex_meaning.specs.Commands.{item_text, item_in, label_now, label_held, label_in}
use Rattle.mitex_meaning.specs.declared.LaTeXMode.{LaTeXMode}
use Rattle.mitex_meaning.specs.declared.LaTeXMode.TheVariants.{Text, Math}
use Rattle.mitex_meaning.specs.declared.LaTeXEnv.{LaTeXEnv}
use Rattle.mitex_meaning.specs.declared.LaTeXEnv.TheVariants.{None, Figure, Table, Itemize, Enumerate, Math as MathEnv, Matrix, Cases, SubStack, MathCurlyGroup}
use Rattle.mitex_commands.specs.Leaves.{mark_of, writes_now}

pub item-written : (e : LaTeXEnv) (n : ℕ) (c : Carry) {m : ℕ} → mark_of e ≡ Some m → item_in e n c ≡ done c (item_text n (m ∷ space))
item-written None n c h = cc
item-written Figure n c h = cc
item-written Table n c h = cc
item-written Itemize n c h = cc
item-written Enumerate n c h = cc
item-written MathEnv n c h = cc
item-written Matrix n c h = cc
item-written Cases n c h = cc
item-written SubStack n c h = cc
item-written MathCurlyGroup n c h = cc

pub item-refused : (e : LaTeXEnv) (n : ℕ) (c : Carry) → mark_of e ≡ Nothing → item_in e n c ≡ refused 11 0
item-refused None n c h = refl
item-refused Figure n c h = refl
item-refused Table n c h = refl
item-refused Itemize n c h = cc
item-refused Enumerate n c h = cc
item-refused MathEnv n c h = refl
item-refused Matrix n c h = refl
item-refused Cases n c h = refl
item-refused SubStack n c h = refl
item-refused MathCurlyGroup n c h = refl

module _ (m : LaTeXMode) (s : List ℕ) (c : Carry) where
  label-by : (e : LaTeXEnv) → label_in e m s c ≡ cond (writes_now e) (label_now m s c) (label_held s c)
  label-by None = refl
  label-by Figure = refl
  label-by Table = refl
  label-by Itemize = refl
  label-by Enumerate = refl
  label-by MathEnv = refl
  label-by Matrix = refl
  label-by Cases = refl
  label-by SubStack = refl
  label-by MathCurlyGroup = refl

pub label-is :
    (e : LaTeXEnv) (m : LaTeXMode) (c : Carry) {s l : List ℕ} {r b : Bool} → s ≡ l → r ≡ writes_now e → r ≡ b
    → label_in e m l c ≡ cond b (label_now m s c) (label_held s c)
label-is e m c {s} h i j =
    ap (λ (x : List ℕ). label_in e m x c) (sym h)
    ∙ label-by m s c e
    ∙ ap (λ (x : Bool). cond x (label_now m s c) (label_held s c)) (sym i ∙ j)

-- an array that begins with a label holds it
pub label-stored :
    (s t : List ℕ) (c : Carry) {l : List ℕ} → l ≡ s ++ t → record { flag = c.flag; label = label_of true (length s) l } ≡ labelled (held s) c
label-stored s t c e =
    ap (λ (x : List ℕ). labelled (held (take (length s) x)) c) e ∙ ap (λ (x : List ℕ). labelled (held x) c) (take_at s t (length s) refl)

-- a label that is written at once, by the mode
module _ (s : List ℕ) (c : Carry) where
  pub now-text : (m : LaTeXMode) → m ≡ Text → label_now m s c ≡ done c (label_mark s)
  now-text Text h = refl
  now-text Math h = cc

  pub now-math : (m : LaTeXMode) → (m ≡ Text → ⊥) → label_now m s c ≡ done c []
  now-math Text h = absurd (h refl)
  now-math Math h = refl
