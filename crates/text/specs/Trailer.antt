-- Files of rows, as the rule file and the tree file are: a text area, rows of 8 bytes, and a trailer of 8 bytes that says where the
-- rows start and how many they are. The rows say how much of the text area each takes, in order.
use Rattle.std.specs.Prelude.{Bool, ◌&&◌, List, ◌∷◌, ℕ, ◌+◌, ◌*◌, ◌-◌, eqb, leb, length, take, drop}
use Rattle.std.proofs.Math.Option.{Option}
use Rattle.std.proofs.Math.Option.Option.{none, some}
use Rattle.text.specs.Numbers.{four_at}

-- each file is at most 65,536 bytes
abbrev pub file_most : ℕ
file_most = 65536

-- where the rows start, and how many they are
abbrev pub start_of : List ℕ → ℕ
start_of file = four_at (length file - 8) file

abbrev pub count_of : List ℕ → ℕ
count_of file = four_at (length file - 4) file

-- start + 8 × count + 8 equals the file's length, which is in its bounds
abbrev pub trailed : List ℕ → Bool
trailed file = leb 8 (length file) && (leb (length file) file_most && eqb (start_of file + 8 * count_of file + 8) (length file))

abbrev pub text_area : List ℕ → List ℕ
text_area file = take (start_of file) file

abbrev pub row_area : List ℕ → List ℕ
row_area file = take (8 * count_of file) (drop (start_of file) file)

-- what the first row comes to, put before what the others come to; nothing where these come to nothing
abbrev pub ahead : {A : Type 0} → A → Option (List A) → Option (List A)
ahead a none = none
ahead a (some l) = some (a ∷ l)
