-- What demand 3 asks of a caller can be met. The starred edit, which takes the label's block away from a table that wrote it, is allowed
-- (`edit-allowed`); so is to put that block in before the table (`insertion-allowed`), and to take it out (`removal-allowed`). So is to
-- replace both the label's block and the table, of which one changes (`joint-allowed`). So `demand-3` has something to say of them: `Starred`
-- has what the edit, the removal and the replacement of both answer and leave, byte by byte. `words-singly` has two blocks that are replaced
-- together or one by one.
use mathlib.Core.Path.{◌≡◌, refl, ap, subst₂}
use mathlib.Core.Bool.{false, true≢false}
use mathlib.Core.List.{List, [], ◌∷◌, flatten}
use Prim.Native.Nat.{ℕ, zero, suc}
use lib.ListN.{take, drop}
use Rattle.mitex_syntax.specs.Tree.{Tree}
use Rattle.edit_meaning.specs.Walk.{CheckedFile}
use Rattle.edit_meaning.specs.Walk.CheckedFile.{bad, good}
use Rattle.edit_meaning.specs.Run.{Edit, OnlyAt, Allowed}
use Rattle.edit_meaning.specs.Changes.{is_among, OneMore, OnlyNamed, AllowedChanges}
use Rattle.edit_meaning.specs.Changes.Kind.{put_in, take_out, replace_all}
use Rattle.edit_meaning.specs.Singly.{Singly}
use Rattle.edit_meaning.specs.Singly.Singly.{all_done, one_then}
use Rattle.manuscript.specs.Manuscript.{manuscript}
use Rattle.promises.specs.Starred.{result, text_mode, rule_file, table_tree, labelled_tree, unlabelled_tree, three_words}

abbrev the_edit : Edit
the_edit = record { tree = unlabelled_tree; block = 0 }

abbrev blocks_if_good : CheckedFile Tree → List Tree
blocks_if_good (bad n row) = []
blocks_if_good (good bs) = bs

abbrev blocks_at : List ℕ → List Tree
blocks_at tree = blocks_if_good ((manuscript text_mode rule_file).check tree)

only-first : OnlyAt 0 (blocks_at labelled_tree) (blocks_at unlabelled_tree)
unfolding result flatten
only-first = record { count = refl; before = refl; after = refl }

pub edit-allowed : (t l : List ℕ) → Allowed (manuscript text_mode rule_file) t l labelled_tree (the_edit ∷ [])
unfolding Allowed
edit-allowed t l = (λ bs bs' old new h. subst₂ (OnlyAt 0) (ap blocks_if_good old) (ap blocks_if_good new) only-first, tt)

label-first : OneMore 0 (blocks_at table_tree) (blocks_at labelled_tree)
unfolding result flatten
label-first = record { count = refl; front = refl; back = refl }

pub insertion-allowed :
    (t l : List ℕ) → AllowedChanges (manuscript text_mode rule_file) t l table_tree (record { tree = labelled_tree; kind = put_in 0 } ∷ [])
unfolding AllowedChanges
insertion-allowed t l = (λ bs bs' old new h. subst₂ (OneMore 0) (ap blocks_if_good old) (ap blocks_if_good new) label-first, tt)

pub removal-allowed :
    (t l : List ℕ) → AllowedChanges (manuscript text_mode rule_file) t l labelled_tree (record { tree = table_tree; kind = take_out 0 } ∷ [])
unfolding AllowedChanges
removal-allowed t l = (λ bs bs' old new h. subst₂ (OneMore 0) (ap blocks_if_good new) (ap blocks_if_good old) label-first, tt)

only_two : OnlyNamed (0 ∷ 1 ∷ []) (blocks_at labelled_tree) (blocks_at unlabelled_tree)
unfolding result flatten
only_two = record { count = refl; others = others }
  where
    others :
        (i : ℕ) → is_among i (0 ∷ 1 ∷ []) ≡ false
        → take 1 (drop i (blocks_at unlabelled_tree)) ≡ take 1 (drop i (blocks_at labelled_tree))
    others zero h = absurd (true≢false h)
    others (suc i) h = refl

pub joint-allowed :
    (t l : List ℕ)
    → AllowedChanges (manuscript text_mode rule_file) t l labelled_tree (record { tree = unlabelled_tree; kind = replace_all (0 ∷ 1 ∷ []) } ∷ [])
unfolding AllowedChanges
joint-allowed t l = (λ bs bs' old new h. subst₂ (OnlyNamed (0 ∷ 1 ∷ [])) (ap blocks_if_good old) (ap blocks_if_good new) only_two, tt)

-- `one two six` becomes `x two eleven`, together or by way of `x two six`
abbrev one_two_six : List ℕ
one_two_six = three_words "onetwosix" 3 3 3

abbrev x_two_eleven : List ℕ
x_two_eleven = three_words "xtwoeleven" 1 3 6

abbrev word_edits : List Edit
word_edits = record { tree = three_words "xtwosix" 1 3 3; block = 0 } ∷ record { tree = x_two_eleven; block = 2 } ∷ []

only-words : OnlyNamed (0 ∷ 2 ∷ []) (blocks_at one_two_six) (blocks_at x_two_eleven)
unfolding result flatten
only-words = record { count = refl; others = others }
  where
    others :
        (i : ℕ) → is_among i (0 ∷ 2 ∷ []) ≡ false → take 1 (drop i (blocks_at x_two_eleven)) ≡ take 1 (drop i (blocks_at one_two_six))
    others zero h = absurd (true≢false h)
    others (suc zero) h = refl
    others (suc (suc zero)) h = absurd (true≢false h)
    others (suc (suc (suc i))) h = refl

pub words-singly :
    OnlyNamed (0 ∷ 2 ∷ []) (blocks_at one_two_six) (blocks_at x_two_eleven)
    × Singly (manuscript text_mode rule_file) (blocks_at x_two_eleven) (blocks_at one_two_six) (0 ∷ 2 ∷ []) word_edits
unfolding result flatten
words-singly = (only-words, one_then refl (one_then refl all_done))
