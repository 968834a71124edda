-- By the kind.
use mathlib.Core.Path.{refl, ap}
use native.Mathlib.Omega.{arith}
use Rattle.mitex_meaning.specs.State.{context_of}
use Rattle.mitex_meaning.specs.declared.Converter.{Converter}
use Rattle.mitex_tokens.specs.Comes.{carrying}
use Rattle.mitex_tokens.proofs.Tokens.{token-space, token-break, token-other}
use Rattle.mitex_tokens.proofs.Coming.{comes-as, comes-done}
use Rattle.mitex_tokens.proofs.put_plain.Goals as goal

pub returns-in-23-clause-comes : goal.returns-in-23-clause-comes
returns-in-23-clause-comes c =
    let d = c.args.c.now in
    λ rs l u.
    comes-as (token-space (context_of rs d) c.args.s.now (carrying d.skip_next_space l) c.args.kind c.in-23.is) (c.put_space.ensures.comes l)

pub returns-in-24-clause-comes : goal.returns-in-24-clause-comes
returns-in-24-clause-comes c =
    let d = c.args.c.now in
    λ rs l u.
    comes-as (token-break (context_of rs d) c.args.s.now (carrying d.skip_next_space l) c.args.kind c.in-24.is)
    (comes-done (ap (λ (e : Converter). e.skip_next_space) c.put_break.ensures.flag_set) c.put_break.ensures.puts)

pub returns-in_default-clause-comes : goal.returns-in_default-clause-comes
returns-in_default-clause-comes c =
    let d = c.args.c.now in
    λ rs l u.
    comes-as
    (token-other (context_of rs d) c.args.s.now (carrying d.skip_next_space l) c.args.kind
    (omega arith) (omega arith) u.error u.name u.symbol)
    (comes-done (ap (λ (e : Converter). e.skip_next_space) c.put_mark.ensures.flag_clear) (c.put_mark.ensures.puts (context_of rs d) refl refl))
