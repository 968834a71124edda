-- Comparing and searching bytes.
use Rattle.std.specs.Prelude.{Bool, true, false, ◌&&◌, ◌||◌, cond, ℕ, ◌+◌, ◌-◌, List, [], ◌∷◌, length, drop, eqb, leb, ltb}

-- a and b are the same bytes
unfoldable pub same : List ℕ → List ℕ → Bool
same [] [] = true
same [] (y ∷ b) = false
same (x ∷ a) [] = false
same (x ∷ a) (y ∷ b) = eqb x y && same a b

-- a comes strictly before b in the order by bytes; what a text begins with comes before it
unfoldable pub precedes : List ℕ → List ℕ → Bool
precedes [] [] = false
precedes [] (y ∷ b) = true
precedes (x ∷ a) [] = false
precedes (x ∷ a) (y ∷ b) = ltb x y || (eqb x y && precedes a b)

-- s begins with p
unfoldable pub starts_with : List ℕ → List ℕ → Bool
starts_with s [] = true
starts_with [] (y ∷ p) = false
starts_with (x ∷ s) (y ∷ p) = eqb x y && starts_with s p

-- s ends with p
unfoldable pub ends_with : List ℕ → List ℕ → Bool
ends_with s p = leb (length p) (length s) && same (drop (length s - length p) s) p

-- where the byte b first stands in s; s's length where it does not
unfoldable pub index_of : ℕ → List ℕ → ℕ
index_of b [] = 0
index_of b (x ∷ s) = cond (eqb x b) 0 (1 + index_of b s)
