-- What is copied is a run, and so is the first token alone.
use mathlib.Core.Path.{sym}
use lib.Seq.{length-take-le}
use Rattle.std.proofs.lemmas.Result.{err_from_is_err_and}
use Rattle.mitex_meaning.specs.Outcome.Label.{unheld}
use Rattle.mitex_meaning.specs.State.{context_of}
use Rattle.mitex_tokens.proofs.Coming.{comes-lent, comes-kept}
use Rattle.mitex_tokens.proofs.Running.{first-fits, first_runs, first-refused, rows-eight}
use Rattle.mitex_tokens.proofs.Copying.{copies-lent, copies-kept}
use Rattle.mitex_tokens.proofs.put_part.Goals as goal

pub returns-then-is_copied-clause-lent : goal.returns-then-is_copied-clause-lent
returns-then-is_copied-clause-lent c = copies-lent c.requires.run_given.0 c.put_copied.ensures

pub returns-then-is_copied-clause-kept : goal.returns-then-is_copied-clause-kept
returns-then-is_copied-clause-kept c = copies-kept c.requires.run_given.0 c.put_copied.ensures

pub number-u-requires : goal.number-u-requires
number-u-requires c =
    let g = c.requires.run_given.0 in
    rows-eight g.spells g.some

pub slice_bounds-put_token-end : goal.slice_bounds-put_token-end
slice_bounds-put_token-end c =
    let p = c.requires.run_given in
    sym (length-take-le _ _ (first-fits p.0 p.1 c.number-u.ensures.0))

pub returns-in_err-put_token-clause-goes : goal.returns-in_err-put_token-clause-goes
returns-in_err-put_token-clause-goes c =
    let g = c.requires.run_given in
    let p = err_from_is_err_and c.from_residual.result c.from_residual.ensures.1 in
    λ rs e.
    rw (p.1, p.2)
    (first-refused g.0 g.1 c.number-u.ensures.0 (context_of rs c.args.c.now) _ (λ l. c.put_token.ensures.comes rs l e) c.in_err-put_token.was)

pub returns-clause-goes : goal.returns-clause-goes
returns-clause-goes c =
    let g = c.requires.run_given in
    λ rs e.
    first_runs g.0 g.1 c.number-u.ensures.0 (context_of rs c.args.c.now) _ (λ l. c.put_token.ensures.comes rs l e) c.in_ok-put_token.was

pub returns-clause-lent : goal.returns-clause-lent
returns-clause-lent c =
    let k = c.args.rules.some in
    comes-lent (c.put_token.ensures.comes k.rules unheld k.ready.decodes) c.in_ok-put_token.was

pub returns-clause-kept : goal.returns-clause-kept
returns-clause-kept c =
    let k = c.args.rules.some in
    comes-kept (c.put_token.ensures.comes k.rules unheld k.ready.decodes) c.in_ok-put_token.was
