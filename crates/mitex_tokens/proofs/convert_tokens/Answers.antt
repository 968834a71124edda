use mathlib.Core.Path.{refl, ◌∙◌}
use native.Mathlib.Omega.{arith}
use Rattle.mitex_tokens.proofs.Running.{row-fits, rest-given, rest-mark, ran-part, ran-in, stops_at, stops_in, flag-on}
use Rattle.mitex_tokens.proofs.convert_tokens.Goals as goal

pub token_at-requires : goal.token_at-requires
token_at-requires c =
    let k = c.args.rules.some in
    let here = c.loop-c.invariant.goes k.rules k.ready.decodes in
    (here.high, row-fits c.requires.run_given.0 here)

pub put_part-requires : goal.put_part-requires
put_part-requires c =
    let k = c.args.rules.some in
    let here = c.loop-c.invariant.goes k.rules k.ready.decodes in
    let g = c.requires.run_given.0 in
    let said = c.token_at.ensures.i_in_bounds c.loop-c-test.true in
    record { run_given = (rest-given g here said.0, rest-mark g here said.1) }

pub loop-c-preserved : goal.loop-c-preserved
loop-c-preserved c =
    let inv = c.loop-c.invariant in
    record {
      flag_alone = flag-on c.args.c.now c.put_part.ensures.flag_alone inv.flag_alone;
      lent = c.put_part.ensures.lent ∙ inv.lent;
      kept = c.put_part.ensures.kept ∙ inv.kept;
      goes = λ rs e. ran-part c.requires.run_given.0 (inv.goes rs e) (ran-in rs c.args.c.now inv.flag_alone (c.in-Ok.ensures.goes rs e));
    }

pub returns-in-Err-clause-goes : goal.returns-in-Err-clause-goes
returns-in-Err-clause-goes c =
    let inv = c.loop-c.invariant in
    let said = c.token_at.ensures.i_in_bounds c.loop-c-test.true in
    let i = said.0 in
    λ rs e.
    stops_at c.requires.run_given.0 (inv.goes rs e) (stops_in rs c.args.c.now inv.flag_alone (c.in-Err.ensures.goes rs e)) c.args.row refl
    (λ z. omega (arith, c.saturating_add-row.ensures))
