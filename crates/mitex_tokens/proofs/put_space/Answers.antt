-- By the flag.
use mathlib.Core.Path.{refl, ap}
use mathlib.Core.Bool.{Bool}
use Rattle.text.proofs.Outputs.{puts_nil}
use Rattle.mitex_meaning.specs.Tokens.{white_space}
use Rattle.mitex_tokens.specs.Comes.{carrying}
use Rattle.mitex_tokens.proofs.Coming.{comes-as, comes-done}
use Rattle.mitex_tokens.proofs.put_space.Goals as goal

pub returns-then-c-clause-comes : goal.returns-then-c-clause-comes
returns-then-c-clause-comes c =
    λ l. comes-as (ap (λ (b : Bool). white_space b c.args.s.now (carrying b l)) c.if-c.true) (comes-done refl puts_nil)

pub returns-else-c-clause-comes : goal.returns-else-c-clause-comes
returns-else-c-clause-comes c =
    λ l. comes-as (ap (λ (b : Bool). white_space b c.args.s.now (carrying b l)) c.if-c.false) (comes-done c.if-c.false c.put.ensures)
