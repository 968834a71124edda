-- Three calls in a row, an edit, an insertion and a removal: a small example of what a caller of the product does. What was asked and what
-- was answered.
use Rattle.std.specs.Prelude.{List, [], ◌∷◌, ℕ}
use Rattle.edit_meaning.specs.Edit.{Answer}
use Rattle.edit_meaning.specs.Changes.{Change}
use Rattle.edit_meaning.specs.Changes.Kind.{replace, put_in, take_out}
use Rattle.calls.specs.Calls.{answer_of_edit}
use Rattle.calls.specs.declared.Three.{Three}

-- the changes as a list: each has its tree, and its block or position
abbrev pub three_changes : (one : List ℕ) (i : ℕ) (two : List ℕ) (j : ℕ) (three : List ℕ) (k : ℕ) → List Change
three_changes one i two j three k =
    record { tree = one; kind = replace i }
    ∷ record { tree = two; kind = put_in j }
    ∷ record { tree = three; kind = take_out k }
    ∷ []

abbrev pub three_answers : Three → List Answer
three_answers r = answer_of_edit r.first ∷ answer_of_edit r.second ∷ answer_of_edit r.third ∷ []
