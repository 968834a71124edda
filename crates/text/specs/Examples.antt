-- Worked examples, which antt computes: a table of inputs beside what they give.
use Rattle.std.specs.Prelude.{◌≡◌, refl, Bool, true, false, List, [], ◌∷◌, map, ℕ}
use Rattle.std.proofs.lemmas.List.Edits.{sets}
use Rattle.text.specs.Ascii.{ascii}
use Rattle.text.specs.Numbers.{two, four, two_at, four_at}
use Rattle.text.specs.Compare.{same, precedes, starts_with, ends_with, index_of}
use Rattle.text.specs.Writing.{spaces, digits, decimal}

-- the lowest byte comes first
numbers-written : two 513 (four 67305985 []) ≡ 1 ∷ 2 ∷ 1 ∷ 2 ∷ 3 ∷ 4 ∷ []
numbers-written = refl

numbers-read : two_at 1 (9 ∷ 1 ∷ 2 ∷ []) ∷ four_at 0 (255 ∷ 255 ∷ 255 ∷ 255 ∷ []) ∷ [] ≡ 513 ∷ 4294967295 ∷ []
numbers-read = refl

-- two texts
pub record Pair : Type 0 where
  pub left : List ℕ
  pub right : List ℕ

abbrev pair : List ℕ → List ℕ → Pair
pair a b = record { left = a; right = b }

abbrev pairs : List Pair
pairs =
    pair [] []
    ∷ pair [] (ascii "a")
    ∷ pair (ascii "a") (ascii "ab")
    ∷ pair (ascii "ab") (ascii "a")
    ∷ pair (ascii "ab") (ascii "b")
    ∷ pair (ascii "ab") (ascii "ab")
    ∷ pair (ascii "z") (195 ∷ 169 ∷ [])
    ∷ []

abbrev on_pairs : (List ℕ → List ℕ → Bool) → List Bool
on_pairs f = map (λ p. f p.left p.right) pairs

are-same : on_pairs same ≡ true ∷ false ∷ false ∷ false ∷ false ∷ true ∷ false ∷ []
unfolding same
are-same = refl

-- what a text begins with comes before it, and bytes decide, not letters
in_order : on_pairs precedes ≡ false ∷ true ∷ true ∷ false ∷ true ∷ false ∷ true ∷ []
unfolding precedes
in_order = refl

pairs_start : on_pairs starts_with ≡ true ∷ false ∷ false ∷ true ∷ false ∷ true ∷ false ∷ []
unfolding starts_with
pairs_start = refl

pairs_end : on_pairs ends_with ≡ true ∷ false ∷ false ∷ false ∷ true ∷ true ∷ false ∷ []
unfolding ends_with same
pairs_end = refl

-- where a comma stands; the length where there is none
found : map (index_of 44) ([] ∷ ascii ",a" ∷ ascii "a,b,c" ∷ ascii "abc" ∷ []) ≡ 0 ∷ 0 ∷ 1 ∷ 3 ∷ []
unfolding index_of
found = refl

-- three bytes at each place of two, as far as they fall inside
bytes-placed :
    map (λ at. sets {A = ℕ} (0 ∷ 0 ∷ []) at (1 ∷ 2 ∷ 3 ∷ [])) (0 ∷ 1 ∷ 2 ∷ []) ≡ (1 ∷ 2 ∷ []) ∷ (0 ∷ 1 ∷ []) ∷ (0 ∷ 0 ∷ []) ∷ []
bytes-placed = refl

decimals :
    map decimal (0 ∷ 9 ∷ 10 ∷ 4294967295 ∷ 18446744073709551615 ∷ [])
    ≡ ascii "0" ∷ ascii "9" ∷ ascii "10" ∷ ascii "4294967295" ∷ ascii "18446744073709551615" ∷ []
unfolding digits
decimals = refl

indent : spaces 4 ≡ ascii "    "
indent = refl
