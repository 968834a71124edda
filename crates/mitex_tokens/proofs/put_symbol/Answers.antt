-- By what `get_cmd` finds, and its written name.
use mathlib.Core.Path.{refl, sym, ap, ◌∙◌}
use mathlib.Core.Bool.{false}
use mathlib.Core.List.{List}
use Prim.Native.Nat.{ℕ}
use Rattle.mitex_spec.specs.Rules.{get_cmd}
use Rattle.mitex_meaning.specs.Tokens.{symbol_by}
use Rattle.mitex_tokens.specs.Comes.{carrying}
use Rattle.mitex_tokens.specs.Comes.Comes.{declines, accepts}
use Rattle.mitex_tokens.proofs.Tokens.{symbol-absent, symbol-found}
use Rattle.mitex_tokens.proofs.Coming.{comes-as}
use Rattle.mitex_tokens.proofs.put_symbol.Goals as goal

pub returns-in_default-clause-comes : goal.returns-in_default-clause-comes
returns-in_default-clause-comes c =
    λ x l e.
    comes-as
    (ap (λ (n : List ℕ). symbol_by n (get_cmd x.rules n) (carrying false l)) (sym c.past_first-name.ensures)
    ∙ symbol-absent _ (carrying false l) (c.get_cmd.ensures.answers x.rules e) c.in_default.is)
    (declines refl)

pub returns-clause-comes : goal.returns-clause-comes
returns-clause-comes c =
    λ x l e.
    comes-as
    (ap (λ (n : List ℕ). symbol_by n (get_cmd x.rules n) (carrying false l)) (sym c.past_first-name.ensures)
    ∙ symbol-found _ (carrying false l) (c.get_cmd.ensures.answers x.rules e) c.in-Some.is c.written_name.ensures)
    (accepts refl c.put.ensures)
