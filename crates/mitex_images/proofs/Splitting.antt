-- How a text splits at bytes, and what the parts of an option and of the options say.
use mathlib.Core.Path.{◌≡◌, refl, sym, ap, subst, ◌∙◌}
use mathlib.Core.Bool.{Bool, true, false, cond}
use mathlib.Core.Option.{Option}
use mathlib.Core.Option.Option.{none as nothing, some}
use mathlib.Core.List.{List, [], ◌∷◌, ◌++◌, map, append_assoc, append-nil}
use Prim.Native.Nat.{ℕ, ◌≤◌}
use native.Mathlib.Omega.{arith}
use lib.ListN.{length}
use lib.Dec.{eqb}
use denote.Ref.{Bor}
use Rattle.std.specs.Prelude.{Option as Maybe, Some, None}
use Rattle.std.specs.List.{slice_split, onto_first}
use Rattle.std.specs.Option.{unwrap_or}
use Rattle.std.specs.Iterator.{AlwaysYields}
use Rattle.std.proofs.lemmas.Iterator.{YieldsList}
use Rattle.text.specs.Compare.{same}
use Rattle.utf8.specs.Trim.{trim}
use Rattle.utf8.proofs.Trimming.{trim-length}
use Rattle.mitex_syntax.specs.Syntax.{ItemBracket}
use Rattle.mitex_syntax.specs.Tree.{Tree, Forest}
use Rattle.mitex_syntax.specs.Views.{inner, text_in, argument_with}
use Rattle.mitex_meaning.specs.Images.{extend, cut_at, comma_byte, equals_byte, key_of, value_of, key_text, pair_text}
use Rattle.mitex_meaning.specs.Images.{option_text, options_text, inner_text, option_argument}

-- ---- the parts, as std splits a text

onto-extend : (x : ℕ) (l : List (List ℕ)) → onto_first x l ≡ extend x l
onto-extend x [] = refl
onto-extend x (p ∷ ps) = refl

pub cut-split : (b : ℕ) (s : List ℕ) → slice_split (λ x. eqb x b) s ≡ cut_at b s
unfolding cut_at
cut-split b [] = refl
cut-split b (x ∷ s) =
    ap (λ l. cond (eqb x b) ([] ∷ l) (onto_first x l)) (cut-split b s) ∙ ap (cond (eqb x b) ([] ∷ cut_at b s)) (onto-extend x (cut_at b s))

-- there is a first part
cut-some : (b : ℕ) (s : List ℕ) → (p : List ℕ) × ((ps : List (List ℕ)) × (cut_at b s ≡ p ∷ ps))
unfolding cut_at
cut-some b [] = ([], ([], refl))
cut-some b (x ∷ s) = by (eqb x b) (cut_at b s)
  where
    by : (t : Bool) (l : List (List ℕ)) → (p : List ℕ) × ((ps : List (List ℕ)) × (cond t ([] ∷ l) (extend x l) ≡ p ∷ ps))
    by true l = ([], (l, refl))
    by false [] = (x ∷ [], ([], refl))
    by false (p ∷ ps) = (x ∷ p, (ps, refl))

-- ---- no bytes

none : (s : List ℕ) → length s ≤ 0 → s ≡ []
none [] h = refl
none (x ∷ s) h = absurd (omega arith)

trim-none : trim [] ≡ []
trim-none = none (trim []) (trim-length [])

-- ---- an option

-- what two further parts give for a value: only one alone is one
abbrev pub picked : Maybe (Bor (List ℕ)) → Maybe (Bor (List ℕ)) → List ℕ
picked (Some v) None = v.now
picked (Some v) (Some w) = []
picked None w = []

abbrev pub first_or_none : Maybe (Bor (List ℕ)) → List ℕ
first_or_none (Some k) = k.now
first_or_none None = []

pub unwrapped : (o : Maybe (Bor (List ℕ))) (d r : Bor (List ℕ)) → r ≡ unwrap_or o d → d.now ≡ [] → r.now ≡ first_or_none o
unwrapped (Some k) d r e n = ap (λ x. x.now) e
unwrapped None d r e n = ap (λ x. x.now) e ∙ n

module _ {S : Type 0} (steps : S → Maybe (Bor (List ℕ)) → S → Type 0) {s0 s1 s2 s3 : S} where
  -- what the first three parts say that are asked for
  three :
      (a b c : Maybe (Bor (List ℕ))) (p : List ℕ) (ps : List (List ℕ)) → AlwaysYields steps (λ x. x.now) s0 (p ∷ ps) → steps s0 a s1
      → steps s1 b s2 → steps s2 c s3 → (trim (first_or_none a) ≡ key_of (p ∷ ps)) × (trim (picked b c) ≡ value_of (p ∷ ps))
  three None b c p ps r x y z = absurd (r.0 _ x)
  three (Some k) None c p [] r x y z = (ap trim (r.1 k _ x).0, trim-none)
  three (Some k) None c p (v ∷ ps) r x y z = absurd ((r.1 k _ x).1.0 _ y)
  three (Some k) (Some w) c p [] r x y z = absurd ((r.1 k _ x).1 w _ y)
  three (Some k) (Some w) None p (v ∷ []) r x y z = (ap trim (r.1 k _ x).0, ap trim ((r.1 k _ x).1.1 w _ y).0)
  three (Some k) (Some w) None p (v ∷ u ∷ ps) r x y z = absurd (((r.1 k _ x).1.1 w _ y).1.0 _ z)
  three (Some k) (Some w) (Some m) p (v ∷ []) r x y z = absurd (((r.1 k _ x).1.1 w _ y).1 m _ z)
  three (Some k) (Some w) (Some m) p (v ∷ u ∷ ps) r x y z = (ap trim (r.1 k _ x).0, trim-none)

  -- an option by its parts
  pub option-says :
      (o s : List ℕ) (a b c : Maybe (Bor (List ℕ))) → s ≡ trim o
      → YieldsList steps (λ x. x.now) s0 (slice_split (λ x. eqb x equals_byte) s) → steps s0 a s1 → steps s1 b s2 → steps s2 c s3
      → key_text (trim (first_or_none a)) (trim (picked b c)) ≡ option_text o
  option-says o s a b c e road x y z =
      let parts = cut-some equals_byte s in
      let is = cut-split equals_byte s ∙ parts.1.1 in
      let t = three a b c parts.0 parts.1.0 (subst (AlwaysYields steps (λ x. x.now) s0) is road.runs) x y z in
      ap (λ k. key_text k (trim (picked b c))) (t.0 ∙ ap key_of (sym parts.1.1))
      ∙ ap (key_text (key_of (cut_at equals_byte s))) (t.1 ∙ ap value_of (sym parts.1.1))
      ∙ ap (λ v. pair_text (cut_at equals_byte v)) e

-- ---- options

options-none : options_text (cut_at comma_byte []) ≡ []
unfolding cut_at options_text same
options-none = ap (λ s. pair_text (cut_at equals_byte s) ++ []) trim-none ∙ ap (λ k. key_text k [] ++ []) trim-none

-- one option more
pub options-more :
    (xs : List (Bor (List ℕ))) (x : Bor (List ℕ))
    → options_text (map (λ y. y.now) (xs ++ (x ∷ []))) ≡ options_text (map (λ y. y.now) xs) ++ option_text x.now
unfolding options_text
options-more [] x = append-nil (option_text x.now)
options-more (y ∷ xs) x =
    ap (λ l. option_text y.now ++ l) (options-more xs x)
    ∙ sym (append_assoc (option_text y.now) (options_text (map (λ z. z.now) xs)) (option_text x.now))

-- ---- arguments

pub inner-text : (o : Option Tree) → trim (inner (text_in o)) ≡ inner_text o
inner-text nothing = trim-none
inner-text (some t) = refl

options-argument : (o : Option Tree) → options_text (cut_at comma_byte (inner_text o)) ≡ option_argument o
options-argument nothing = options-none
options-argument (some t) = refl

-- the options of the command, by the text of the argument
pub options-found : (f : Forest) {s : List ℕ} → s ≡ inner_text (argument_with ItemBracket f) → options_text (cut_at comma_byte s) ≡ option_argument (argument_with ItemBracket f)
options-found f e = ap (λ l. options_text (cut_at comma_byte l)) e ∙ options-argument (argument_with ItemBracket f)
