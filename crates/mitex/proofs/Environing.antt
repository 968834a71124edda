-- Laws of the arms of environments: what an environment comes to once its rule is known, and its captions and column letters.
use mathlib.Core.Path.{◌≡◌, refl, sym, ap, subst, ◌∙◌}
use mathlib.Core.Bool.{Bool, true, false, cond}
use mathlib.Core.Option.{Option}
use mathlib.Core.Option.Option.{none as nothing, some}
use mathlib.Core.List.{List, ◌++◌}
use Prim.Native.Nat.{ℕ, ◌+◌, ◌*◌, ◌-◌, ◌≤◌}
use native.Mathlib.Omega.{arith}
use lib.ListN.{length, drop, length-append, length-drop, length-take}
use Rattle.utf8.specs.Trim.{trim}
use Rattle.utf8.proofs.Trimming.{trim-length}
use Rattle.mitex_spec.specs.Rules.{Rule, get_env, alias_or}
use Rattle.mitex_spec.specs.LookUp.{alias_of, rule_of}
use Rattle.std.specs.Prelude.{Option as Maybe, Some, None as Nothing, Result, Ok, Err}
use Rattle.mitex_spec.specs.declared.rules.Found.{Found}
use Rattle.mitex_syntax.specs.Syntax.{ClauseArgument, ItemBegin}
use Rattle.mitex_syntax.specs.Tree.{Tree, Forest, size, sizes, text_of, texts_of}
use Rattle.mitex_syntax.specs.Tree.Tree.{token, node}
use Rattle.mitex_syntax.specs.Tree.Forest.{none, more}
use Rattle.mitex_syntax.specs.Spells.{SpellsAll}
use Rattle.mitex_syntax.specs.Views.{is_of, env_name, text_in, inner, first_by, first_of, children_of, children_in, begin_of, good_ends}
use Rattle.mitex_syntax.proofs.Trees.{size-more, length-rowss}
use Rattle.mitex_meaning.specs.Outcome.{Context, Carry, Conv, after, in_env}
use Rattle.mitex_meaning.specs.Outcome.Outcome.{refused}
use Rattle.mitex_meaning.specs.Texts.{left_paren, hash}
use Rattle.mitex_meaning.specs.Children.{each}
use Rattle.mitex_meaning.specs.Tables.{letters_fit, table_head}
use Rattle.mitex_meaning.specs.Environments.{Caption, is_caption, caption_from_row, or_later, last_caption, captioned, figure_env, table_by, table_with, env_of, env_with, env_by, environment}
use Rattle.mitex_meaning.specs.Environments.Caption.{absent, bare, caption}
use Rattle.mitex_meaning.specs.Parts.{CaptionFound}
use Rattle.mitex_meaning.specs.Parts.CaptionFound.{no_caption, bare_caption, caption_at}
use Rattle.mitex_meaning.specs.declared.LaTeXEnv.{LaTeXEnv}
use Rattle.mitex_meaning.specs.declared.LaTeXEnv.TheVariants.{Figure}
use Rattle.mitex_meaning.specs.declared.LaTeXEnv.TheVariants.{Table as TableEnv}
use Rattle.mitex_meaning.specs.declared.Loop.TheVariants.{Table}
use Rattle.mitex_syntax.specs.declared.Spot.{Spot}

-- ---- by rule

pub env-named : (conv : Conv) (x : Context) (f : Forest) (c : Carry) (name : List ℕ) → name ≡ trim (env_name f)
    → environment conv x f c ≡ env_by (get_env x.rules name) name conv x f c
env-named conv x f c name h = ap (λ (s : List ℕ). env_by (get_env x.rules s) s conv x f c) (sym h)

pub env-absent :
    (o : Option Rule) (name : List ℕ) (conv : Conv) (x : Context) (f : Forest) (c : Carry) {found : Maybe Found}
    → rule_of name found ≡ o → found ≡ Nothing → env_by o name conv x f c ≡ refused 10 0
env-absent o name conv x f c e h = ap (λ (p : Option Rule). env_by p name conv x f c) (sym e ∙ ap (rule_of name) h)

pub env-found :
    (o : Option Rule) (name : List ℕ) (conv : Conv) (x : Context) (f : Forest) (c : Carry) {found : Maybe Found} (r : Found) (w : List ℕ)
    (env : LaTeXEnv) → rule_of name found ≡ o → found ≡ Some r → w ≡ alias_or (alias_of r) name → env ≡ env_of r.class
    → env_by o name conv x f c ≡ env_with env w conv x f c
env-found o name conv x f c r w env e h i j =
    ap (λ (p : Option Rule). env_by p name conv x f c) (sym e ∙ ap (rule_of name) h)
    ∙ ap (λ (s : List ℕ). env_with (env_of r.class) s conv x f c) (sym i)
    ∙ ap (λ (y : LaTeXEnv). env_with y w conv x f c) (sym j)

-- ---- tables

pub table-bad :
    (o : Option Tree) (w s : List ℕ) (conv : Conv) (x : Context) (f : Forest) (c : Carry) → s ≡ text_in o → good_ends s ≡ false
    → table_by w o conv x f c ≡ refused 12 0
table-bad nothing w s conv x f c e h = refl
table-bad (some t) w s conv x f c e h =
    ap (λ (b : Bool). cond b (table_with w (trim (inner (text_in (some t)))) conv x f c) (refused 12 0)) (ap good_ends (sym e) ∙ h)

pub table-letters :
    (o : Option Tree) (w s l : List ℕ) (conv : Conv) (x : Context) (f : Forest) (c : Carry) → s ≡ text_in o → good_ends s ≡ true
    → l ≡ trim (inner s) → table_by w o conv x f c ≡ table_with w l conv x f c
table-letters nothing w s l conv x f c e h i =
    let z : ◌≡◌ {A = Bool} false true = ap good_ends (sym e) ∙ h in
    let y : ◌≡◌ {A = ℕ} 0 1 = cc in absurd (omega arith)
table-letters (some t) w s l conv x f c e h i =
    ap (λ (b : Bool). cond b (table_with w (trim (inner (text_in (some t)))) conv x f c) (refused 12 0)) (ap good_ends (sym e) ∙ h)
    ∙ ap (λ (r : List ℕ). table_with w (trim (inner r)) conv x f c) (sym e)
    ∙ ap (λ (r : List ℕ). table_with w r conv x f c) (sym i)

pub letters-bad : (w l : List ℕ) (conv : Conv) (x : Context) (f : Forest) (c : Carry) → letters_fit l ≡ false → table_with w l conv x f c ≡ refused 13 0
letters-bad w l conv x f c e = rw e

pub letters-good :
    (w l : List ℕ) (conv : Conv) (x : Context) (f : Forest) (c : Carry) → letters_fit l ≡ true → table_with w l conv x f c
    ≡ after (hash ++ (w ++ (left_paren ++ table_head l))) (each (conv (in_env TableEnv x)) 1 (Table true) f c)
letters-good w l conv x f c e =
    ap
    (λ (b : Bool).
    cond b (after (hash ++ (w ++ (left_paren ++ table_head l))) (each (conv (in_env TableEnv x)) 1 (Table true) f c)) (refused 13 0))
    e

-- ---- how far down a caption stands

abbrev Low : ℕ → Caption → Type 0
Low n absent = Unit {0}
Low n (bare p) = p ≤ n
Low n (caption p t) = Unit {0}

low-more : (n m : ℕ) (k : Caption) → n ≤ m → Low n k → Low m k
low-more n m absent h l = tt
low-more n m (bare p) h l = omega arith
low-more n m (caption p t) h l = tt

low-later : (n : ℕ) (p q : Caption) → Low n p → Low n q → Low n (or_later p q)
low-later n absent q l m = m
low-later n (bare p) q l m = l
low-later n (caption p t) absent l m = tt
low-later n (caption p t) (bare q) l m = m
low-later n (caption p t) (caption q u) l m = tt

low-at : (n o : ℕ) (t : Tree) (a : Option Tree) → o ≤ n → Low n (caption_from_row o t a)
low-at n o t nothing h = h
low-at n o t (some a) h = tt

low-if : (n : ℕ) (b : Bool) (p : Caption) → Low n p → Low n (cond b p absent)
low-if n true p l = l
low-if n false p l = tt

caption-low : (o : ℕ) (f : Forest) → Low (o + sizes f) (last_caption o f)
unfolding last_caption
caption-low o none = tt
caption-low o (more t f) =
    low-later (o + sizes (more t f)) (cond (is_caption t) (caption_from_row o t (first_of ClauseArgument (children_of t))) absent) (last_caption (o + size t) f)
    (low-if _ (is_caption t) (caption_from_row o t (first_of ClauseArgument (children_of t))) (low-at _ o t (first_of ClauseArgument (children_of t)) (omega arith)))
    (low-more (o + size t + sizes f) (o + sizes (more t f)) (last_caption (o + size t) f) (omega (arith, size-more t f)) (caption-low (o + size t) f))

pub bare-low : {f : Forest} {rows text : List ℕ} (n : ℕ) → SpellsAll f rows text → last_caption 1 f ≡ bare (1 + n) → 8 * n ≤ length rows
bare-low {f} {rows} n sp e =
    let h : Low (1 + sizes f) (bare (1 + n)) = subst (Low (1 + sizes f)) e (caption-low 1 f) in
    omega (arith, h, ap length sp.rows_are, length-rowss f)

-- ---- how long the column letters are

-- what a test finds among the children is no longer than they are
found-length : (p : Tree → Bool) (f : Forest) → length (text_in (first_by p f)) ≤ length (texts_of f)
unfolding first_by text_of
found-length p none = omega arith
found-length p (more t f) = go (p t) (found-length p f)
  where
    go : (b : Bool) → length (text_in (first_by p f)) ≤ length (texts_of f) → length (text_in (cond b (some t) (first_by p f))) ≤ length (text_of t ++ texts_of f)
    go true h = omega (arith, length-append (text_of t) (texts_of f))
    go false h = omega (arith, length-append (text_of t) (texts_of f))

children-length : (o : Option Tree) → length (texts_of (children_in o)) ≤ length (text_in o)
unfolding text_of
children-length nothing = omega arith
children-length (some (token k s)) = omega arith
children-length (some (node k f)) = omega arith

inner-length : (s : List ℕ) → length (inner s) ≤ length s
inner-length s = omega (arith, length-take (length s - 2) (drop 1 s), length-drop 1 s)

pub letters-short :
    {f : Forest} {rows text s l : List ℕ} → SpellsAll f rows text → s ≡ text_in (first_of ClauseArgument (begin_of f)) → l ≡ trim (inner s)
    → length l ≤ length text
letters-short {f} {rows} {text} {s} sp e i =
    omega (
      arith,
      ap length i,
      trim-length (inner s),
      inner-length s,
      ap length e,
      found-length (is_of ClauseArgument) (begin_of f),
      children-length (first_of ItemBegin f),
      found-length (is_of ItemBegin) f,
      ap length sp.text_is,
    )

-- ---- captions

-- how many rows below the first child one without an argument stands, and 1; 0 for any other
abbrev told : Result (Maybe Spot) ℕ → ℕ
told (Ok o) = 0
told (Err n) = 1 + n

-- a caption without an argument is refused
pub figure-bare :
    (w : List ℕ) (conv : Conv) (x : Context) {f : Forest} {rows text : List ℕ} (c : Carry) {p : Result (Maybe Spot) ℕ} {n : ℕ}
    → CaptionFound f rows text p → p ≡ Err n → figure_env w conv x f c ≡ refused 12 (1 + n)
figure-bare w conv x c (no_caption e) h = absurd (omega (arith, ap told h))
figure-bare w conv x {f} c (bare_caption e) h =
    ap (λ (q : Caption). after (hash ++ (w ++ left_paren)) (captioned q conv (in_env Figure x) f c)) e ∙ ap (refused 12) (ap told h)
figure-bare w conv x c (caption_at s) h = absurd (omega (arith, ap told h))

pub bare-row-low :
    {f : Forest} {rows text : List ℕ} {p : Result (Maybe Spot) ℕ} {n : ℕ} → SpellsAll f rows text → CaptionFound f rows text p → p ≡ Err n
    → 8 * n ≤ length rows
bare-row-low sp (no_caption e) h = absurd (omega (arith, ap told h))
bare-row-low {n = n} sp (bare_caption {below} e) h = omega (arith, bare-low below sp e, ap told h)
bare-row-low sp (caption_at s) h = absurd (omega (arith, ap told h))
