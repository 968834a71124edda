-- By the kind.
use mathlib.Core.Path.{refl, ap}
use Rattle.mitex_meaning.specs.State.{context_of}
use Rattle.mitex_meaning.specs.declared.Converter.{Converter}
use Rattle.mitex_tokens.specs.Comes.{carrying}
use Rattle.mitex_tokens.specs.Comes.Comes.{declines}
use Rattle.mitex_tokens.proofs.Tokens.{token-misplaced, token-symbol}
use Rattle.mitex_tokens.proofs.Coming.{comes-as, comes-flag}
use Rattle.mitex_tokens.proofs.put_token.Goals as goal

pub returns-in-1-clause-comes : goal.returns-in-1-clause-comes
returns-in-1-clause-comes c =
    let d = c.args.c.now in
    λ rs l e.
    comes-as (token-misplaced (context_of rs d) c.args.s.now (carrying d.skip_next_space l) c.args.kind c.in-1.is) (declines refl)

pub returns-in-42-clause-comes : goal.returns-in-42-clause-comes
returns-in-42-clause-comes c =
    let d = c.args.c.now in
    λ rs l e.
    comes-as (token-symbol (context_of rs d) c.args.s.now (carrying d.skip_next_space l) c.args.kind c.in-42.is)
    (comes-flag (ap (λ (e : Converter). e.skip_next_space) c.put_symbol.ensures.flag_clear) (c.put_symbol.ensures.comes (context_of rs d) l e))
