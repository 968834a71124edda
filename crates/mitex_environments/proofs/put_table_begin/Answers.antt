-- The call, and the head behind it.
use mathlib.Core.Path.{◌≡◌}
use mathlib.Core.List.{List, ◌++◌, append_assoc}
use Prim.Native.Nat.{ℕ}
use Rattle.text.proofs.Outputs.{puts_then, puts_as}
use Rattle.mitex_meaning.specs.Texts.{hash, left_paren}
use Rattle.mitex_meaning.specs.Tables.{table_head}
use Rattle.mitex_environments.proofs.put_table_begin.Goals as goal

-- a name between its marks, and the head behind it
head-joined : (w h : List ℕ) → (hash ++ (w ++ left_paren)) ++ h ≡ hash ++ (w ++ (left_paren ++ h))
head-joined w h = simp append_assoc

pub returns : goal.returns
returns c =
    puts_as (head-joined c.args.name.now (table_head c.args.letters.now)) (puts_then c.put_hash_begin.ensures c.put_table_head.ensures)
