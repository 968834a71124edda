-- The rows one by one, as code has them that goes over them in parts of eight bytes: their text bytes add up, and the first of a node
-- is that of the first node among the elements.
use mathlib.Core.Path.{◌≡◌, refl, ap, subst, ◌∙◌}
use mathlib.Core.Bool.{Bool, not}
use mathlib.Core.List.{List, [], ◌∷◌, ◌++◌}
use Prim.Native.Nat.{ℕ, ◌+◌, ◌<◌}
use native.Mathlib.Omega.{arith}
use lib.Dec.{eqb}
use lib.ListN.{length, get_or}
use denote.Ref.{Bor}
use Rattle.std.specs.Prelude.{Option, None, Some, MatchOption, IsSomeAnd, option_map}
use Rattle.std.specs.Slice.Iter.{chunks_exact_steps, chunks_exact_rest, chunks_exact_size}
use Rattle.std.specs.declared.slice.ChunksExact.{ChunksExact}
use Rattle.std.proofs.lemmas.Iterator.{YieldsList}
use Rattle.std.proofs.lemmas.Iterator.Splits.{YieldsList-from_shown_while}
use Rattle.std.specs.List.{sum_by, find}
use Rattle.std.proofs.lemmas.List.Sums.{sum_by-cons}
use Rattle.mitex_syntax.specs.Rows.{token_at, token_sum}
use Rattle.mitex_syntax.specs.Tree.{Forest, rows_of, rows_ofs}
use Rattle.mitex_syntax.specs.Tree.Tree.{token, node}
use Rattle.mitex_syntax.specs.Tree.Forest.{none, more}
use Rattle.mitex_syntax.specs.Views.{first_by, first_node}
use Rattle.mitex_syntax.specs.Places.{kind_found}

-- whole rows
unfoldable pub apart : List ℕ → List (List ℕ)
apart [] = []
apart (k ∷ []) = []
apart (k ∷ m ∷ []) = []
apart (k ∷ m ∷ y ∷ []) = []
apart (k ∷ m ∷ y ∷ z ∷ []) = []
apart (k ∷ m ∷ y ∷ z ∷ a ∷ []) = []
apart (k ∷ m ∷ y ∷ z ∷ a ∷ b ∷ []) = []
apart (k ∷ m ∷ y ∷ z ∷ a ∷ b ∷ c ∷ []) = []
apart (k ∷ m ∷ y ∷ z ∷ a ∷ b ∷ c ∷ d ∷ l) = (k ∷ m ∷ y ∷ z ∷ a ∷ b ∷ c ∷ d ∷ []) ∷ apart l

apart-row : (row l : List ℕ) → length row ≡ 8 → apart (row ++ l) ≡ row ∷ apart l
unfolding apart
apart-row [] l h = absurd (omega (arith, h))
apart-row (k ∷ []) l h = absurd (omega (arith, h))
apart-row (k ∷ m ∷ []) l h = absurd (omega (arith, h))
apart-row (k ∷ m ∷ y ∷ []) l h = absurd (omega (arith, h))
apart-row (k ∷ m ∷ y ∷ z ∷ []) l h = absurd (omega (arith, h))
apart-row (k ∷ m ∷ y ∷ z ∷ a ∷ []) l h = absurd (omega (arith, h))
apart-row (k ∷ m ∷ y ∷ z ∷ a ∷ b ∷ []) l h = absurd (omega (arith, h))
apart-row (k ∷ m ∷ y ∷ z ∷ a ∷ b ∷ c ∷ []) l h = absurd (omega (arith, h))
apart-row (k ∷ m ∷ y ∷ z ∷ a ∷ b ∷ c ∷ d ∷ []) l h = refl
apart-row (k ∷ m ∷ y ∷ z ∷ a ∷ b ∷ c ∷ d ∷ e ∷ r) l h = absurd (omega (arith, h))

apart-short : (l : List ℕ) → length l < 8 → length (apart l) ≡ 0
unfolding apart
apart-short [] h = refl
apart-short (k ∷ []) h = refl
apart-short (k ∷ m ∷ []) h = refl
apart-short (k ∷ m ∷ y ∷ []) h = refl
apart-short (k ∷ m ∷ y ∷ z ∷ []) h = refl
apart-short (k ∷ m ∷ y ∷ z ∷ a ∷ []) h = refl
apart-short (k ∷ m ∷ y ∷ z ∷ a ∷ b ∷ []) h = refl
apart-short (k ∷ m ∷ y ∷ z ∷ a ∷ b ∷ c ∷ []) h = refl
apart-short (k ∷ m ∷ y ∷ z ∷ a ∷ b ∷ c ∷ d ∷ l) h = absurd (omega arith)

-- what `chunks_exact(8)` gives
pub rows-apart : (s : ChunksExact ℕ) (l : List ℕ) → chunks_exact_size s ≡ 8 → chunks_exact_rest s ≡ l → YieldsList (chunks_exact_steps {A = ℕ}) (λ x. x.now) s (apart l)
rows-apart s l eight e =
    subst (λ r. YieldsList (chunks_exact_steps {A = ℕ}) (λ x. x.now) s (apart r)) e
    (YieldsList-from_shown_while (chunks_exact_steps {A = ℕ}) (λ x. x.now) (λ t. apart (chunks_exact_rest t)) (λ t. chunks_exact_size t ≡ 8)
    (λ t u h step. let few = step.1.0 in apart-short (chunks_exact_rest t) (omega (arith, h)))
    (λ t x u h step. (step.0 ∙ h, ap apart step.1.0 ∙ apart-row x.now (chunks_exact_rest u) (step.1.1 ∙ h))) s eight)

-- the text bytes of the rows, row by row
pub sum_apart : (l : List ℕ) → sum_by token_at (apart l) ≡ token_sum l
unfolding apart token_sum
sum_apart [] = refl
sum_apart (k ∷ []) = refl
sum_apart (k ∷ m ∷ []) = refl
sum_apart (k ∷ m ∷ y ∷ []) = refl
sum_apart (k ∷ m ∷ y ∷ z ∷ []) = refl
sum_apart (k ∷ m ∷ y ∷ z ∷ a ∷ []) = refl
sum_apart (k ∷ m ∷ y ∷ z ∷ a ∷ b ∷ []) = refl
sum_apart (k ∷ m ∷ y ∷ z ∷ a ∷ b ∷ c ∷ []) = refl
sum_apart (k ∷ m ∷ y ∷ z ∷ a ∷ b ∷ c ∷ d ∷ l) =
    sum_by-cons token_at (k ∷ m ∷ y ∷ z ∷ a ∷ b ∷ c ∷ d ∷ []) (apart l)
    ∙ ap (λ (n : ℕ). token_at (k ∷ m ∷ y ∷ z ∷ a ∷ b ∷ c ∷ d ∷ []) + n) (sum_apart l)

-- a row of a node
abbrev pub of_node : List ℕ → Bool
of_node row = not (eqb (get_or row 1 0) 1)

-- the first row of a node is that of the first node
pub find-apart : (f : Forest) → option_map (λ row. get_or row 0 0) (find of_node (apart (rows_ofs f))) ≡ kind_found (first_node f)
unfolding apart rows_of first_by
find-apart none = refl
find-apart (more (token k s) g) = find-apart g
find-apart (more (node k h) g) = refl

-- what `map` makes of what was found
pub kind-mapped :
    (o : Option (Bor (List ℕ))) (r : Option ℕ) {P : Bor (List ℕ) → ℕ → Type 0} → MatchOption o (r ≡ None) (λ x. IsSomeAnd r (P x))
    → ((x : Bor (List ℕ)) (n : ℕ) → P x n → n ≡ get_or x.now 0 0) → r ≡ option_map (λ row. get_or row 0 0) (option_map (λ x. x.now) o)
kind-mapped None r h q = h
kind-mapped (Some x) None h q = absurd h
kind-mapped (Some x) (Some n) h q = ap Some (q x n h)
