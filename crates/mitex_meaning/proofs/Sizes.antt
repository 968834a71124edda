-- What an arm walks over has no more rows than the children of its element: so the level below is high enough for it.
use mathlib.Core.Bool.{Bool, true, false, cond}
use mathlib.Core.Option.{Option}
use mathlib.Core.Option.Option.{none as nothing, some}
use Prim.Native.Nat.{ℕ, ◌+◌, ◌≤◌}
use native.Mathlib.Omega.{arith}
use Rattle.mitex_syntax.specs.Syntax.{ClauseArgument, TokenLBracket, TokenRBracket}
use Rattle.mitex_syntax.specs.Tree.{Tree, Forest, size, sizes, text_of}
use Rattle.mitex_syntax.specs.Tree.Forest.{none, more}
use Rattle.mitex_syntax.specs.Views.{children_of, children_in, first_by, offset_by, from_by, is_of, is_solid, first_of}
use Rattle.mitex_syntax.proofs.Trees.{size-more, size-children}
use Rattle.mitex_meaning.specs.Colors.{Rest, Model, rest, past, past_first, seek, bracket_model, greedy_model, is_model, first_model, argument_model}
use Rattle.mitex_meaning.specs.Environments.{Caption, absent, bare, caption, is_caption, caption_from_row, or_later, last_caption}

-- what holds of both is what a choice is
by_cases : {A : Type 0} (P : A → Type 0) (b : Bool) (p q : A) → P p → P q → P (cond b p q)
by_cases P true p q h g = h
by_cases P false p q h g = g

-- ---- what was found

-- an element that was found, if any, has at most n rows
abbrev pub Small : ℕ → Option Tree → Type 0
Small n nothing = Unit {0}
Small n (some t) = size t ≤ n

pub small-more : (n : ℕ) (o : Option Tree) {m : ℕ} → n ≤ m → Small n o → Small m o
small-more n nothing h s = tt
small-more n (some t) h s = omega arith

pub first_by-size : (p : Tree → Bool) (f : Forest) → Small (sizes f) (first_by p f)
unfolding first_by
first_by-size p none = tt
first_by-size p (more t f) =
    let e = size-more t f in
    by_cases (Small (sizes (more t f))) (p t) (some t) (first_by p f) (omega arith) (small-more (sizes f) (first_by p f) (omega arith) (first_by-size p f))

children-size : (n : ℕ) (o : Option Tree) → Small n o → sizes (children_in o) ≤ n
unfolding sizes
children-size n nothing s = omega arith
children-size n (some t) s = omega (arith, size-children t)

-- the children of the first element of a kind
pub children_in-size : (k : ℕ) (f : Forest) → sizes (children_in (first_of k f)) ≤ sizes f
children_in-size k f = children-size (sizes f) (first_of k f) (first_by-size _ f)

-- ---- colours

abbrev RestWithin : ℕ → Rest → Type 0
RestWithin n r = sizes r.elements ≤ n

pub from_by-size : (p : Tree → Bool) (f : Forest) → sizes (from_by p f) ≤ sizes f
unfolding from_by
from_by-size p none = omega arith
from_by-size p (more t f) =
    by_cases (λ (g : Forest). sizes g ≤ sizes (more t f)) (p t) (more t f) (from_by p f) (omega arith)
    (omega (arith, size-more t f, from_by-size p f))

past-size : (o : ℕ) (f : Forest) → sizes (past o f).elements ≤ sizes f
past-size o none = omega arith
past-size o (more t f) = omega (arith, size-more t f)

bracket_model-size : (o : ℕ) (f : Forest) → sizes (bracket_model o f).behind.elements ≤ sizes f
bracket_model-size o none = omega arith
bracket_model-size o (more t f) =
    let r = seek (is_of TokenRBracket) (rest (o + size t) f) in
    by_cases (λ (m : Model). RestWithin (sizes (more t f)) m.behind) (is_of TokenLBracket t) _ _
    (omega (
      arith,
      size-more t f,
      from_by-size (is_of TokenRBracket) f,
      past-size r.rows r.elements,
      from_by-size is_solid (past_first r).elements,
    )) (omega arith)

pub greedy_model-size : (o : ℕ) (f : Forest) → sizes (greedy_model o f).behind.elements ≤ sizes f
greedy_model-size o f = omega (arith, from_by-size is_solid f, bracket_model-size (o + offset_by is_solid f) (from_by is_solid f))

first_model-size : (o : ℕ) (f : Forest) → sizes (first_model o f).behind.elements ≤ sizes f
first_model-size o none = omega arith
first_model-size o (more t f) =
    by_cases (λ (m : Model). RestWithin (sizes (more t f)) m.behind) (is_model (text_of t)) _ _
    (omega (arith, size-more t f, from_by-size (is_of ClauseArgument) f)) (omega arith)

pub argument_model-size : (o : ℕ) (f : Forest) → sizes (argument_model o f).behind.elements ≤ sizes f
argument_model-size o f =
    omega (
      arith,
      from_by-size (is_of ClauseArgument) f,
      first_model-size (o + offset_by (is_of ClauseArgument) f) (from_by (is_of ClauseArgument) f),
    )

-- ---- captions

-- a caption's argument, if any, has at most n rows
abbrev pub Captions : ℕ → Caption → Type 0
Captions n absent = Unit {0}
Captions n (bare o) = Unit {0}
Captions n (caption o t) = size t ≤ n

pub captions-more : (n : ℕ) (p : Caption) {m : ℕ} → n ≤ m → Captions n p → Captions m p
captions-more n absent h s = tt
captions-more n (bare o) h s = tt
captions-more n (caption o t) h s = omega arith

captions-later : (n : ℕ) (p q : Caption) → Captions n p → Captions n q → Captions n (or_later p q)
captions-later n absent q s u = u
captions-later n (bare o) q s u = tt
captions-later n (caption o t) absent s u = s
captions-later n (caption o t) (bare p) s u = tt
captions-later n (caption o t) (caption p v) s u = u

captions-at : (n o : ℕ) (t : Tree) (a : Option Tree) → Small n a → Captions n (caption_from_row o t a)
captions-at n o t nothing s = tt
captions-at n o t (some a) s = s

pub last_caption-size : (o : ℕ) (f : Forest) → Captions (sizes f) (last_caption o f)
unfolding last_caption
last_caption-size o none = tt
last_caption-size o (more t f) =
    let e = size-more t f in
    let s = size-children t in
    let a = first_of ClauseArgument (children_of t) in
    captions-later (sizes (more t f)) (cond (is_caption t) (caption_from_row o t a) absent) (last_caption (o + size t) f)
    (by_cases (Captions (sizes (more t f))) (is_caption t) (caption_from_row o t a) absent
    (captions-at _ o t a (small-more (sizes (children_of t)) a (omega arith) (first_by-size _ (children_of t)))) tt)
    (captions-more (sizes f) (last_caption (o + size t) f) (omega arith) (last_caption-size (o + size t) f))
