-- What the check of a tree file answers: refusal 3, 4 or 5, the first that holds, or the tree. Each answer is right, and given
-- wherever it is (proofs/Bridge.antt): `accepted-says` and `accepts-laid`, `refused-3` and `refuses-3`, `refuses-4`, `refuses-5`.
use Rattle.std.specs.Prelude.{cond, ℕ, List, length, leb, Result, Ok, Err}
use Rattle.std.proofs.Math.Option.{Option}
use Rattle.std.proofs.Math.Option.Option.{none as nothing, some}
use Rattle.mitex_syntax.specs.Tree.{Tree, Forest, size, text_of, count}
use Rattle.mitex_syntax.specs.Views.{children_of}
use Rattle.tree_file.specs.Layout.{decode}
use Rattle.tree_file.specs.Depth.{depth, depth_most}
use Rattle.tree_file.specs.Shape.{lowest}
use Rattle.refusals.specs.Refusals.{refusal_of}
use Rattle.refusals.specs.declared.Refusal.{Refusal}
use Rattle.tree_file.specs.declared.Whole.{Whole}

-- the refusals, in checking order
abbrev pub bad_layout : ℕ
bad_layout = 3

abbrev pub too_deep : ℕ
too_deep = 4

abbrev pub bad_shape : ℕ
bad_shape = 5

-- refused, with number and row, or accepted as a tree
pub data Verdict : Type 0 where
  refused : ℕ → ℕ → Verdict
  accepted : Tree → Verdict

abbrev pub by_shape : Tree → Option ℕ → Verdict
by_shape t (some row) = refused bad_shape row
by_shape t nothing = accepted t

abbrev pub by_depth : Option Tree → Verdict
by_depth nothing = refused bad_layout 0
by_depth (some t) = cond (leb (depth t) depth_most) (by_shape t (lowest 0 0 t)) (refused too_deep 0)

-- all of 3 is decided for the whole file before 4, and 4 before 5
unfoldable pub check_tree : List ℕ → Verdict
check_tree file = by_depth (decode file)

-- the blocks of a document
abbrev pub blocks_of : Tree → Forest
blocks_of t = children_of t

-- the code's answer: a refusal with its number and row, or where the rows start, how many they are, and how many the blocks are
abbrev pub Checked : Type 0
Checked = Result Whole Refusal

abbrev pub refuses : ℕ → ℕ → Checked
refuses number row = Err (refusal_of number row)

abbrev pub accepted_as : ℕ → ℕ → ℕ → Checked
accepted_as start rows blocks = Ok (record { start = start; rows = rows; blocks = blocks })

abbrev pub checked_answer : Verdict → Checked
checked_answer (refused number row) = refuses number row
checked_answer (accepted t) = accepted_as (length (text_of t)) (size t) (count (blocks_of t))
