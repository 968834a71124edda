-- The model between its ends.
use mathlib.Core.Path.{sym, ap}
use mathlib.Core.List.{List}
use Prim.Native.Nat.{ℕ}
use Rattle.std.specs.Prelude.{Option}
use Rattle.std.specs.Borrow.{Bor}
use Rattle.text.proofs.Outputs.{puts_then, puts_as}
use Rattle.mitex_colors.specs.Models.{model_text}
use Rattle.mitex_colors.proofs.put_model.Goals as goal

pub returns-in-Some : goal.returns-in-Some
returns-in-Some c =
    puts_as (ap (λ (m : Option (Bor (List ℕ))). model_text m) (sym c.in-Some.is))
    (puts_then c.put.ensures (puts_then c.put-in-Some.ensures c.put-in-Some-2.ensures))
