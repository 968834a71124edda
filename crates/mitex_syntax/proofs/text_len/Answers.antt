-- `text_len`: the rows one by one (`rows-apart`), and the sum of their text bytes (`sum_apart`).
use mathlib.Core.Path.{◌∙◌}
use native.Mathlib.Omega.{arith}
use Rattle.std.proofs.Common.{rules, tests}
use Rattle.std.proofs.lemmas.Iterator.{YieldsList-from_map}
use Rattle.std.proofs.lemmas.Iterator.Consumers.{YieldsList-at, sum_by_from_yields_List, fits_by_from_yields_list}
use Rattle.mitex_syntax.specs.Rows.{token_at}
use Rattle.mitex_syntax.proofs.Apart.{rows-apart, apart, sum_apart}
use Rattle.mitex_syntax.proofs.text_len.Goals as goal

pub sum-requires-clause-fits : goal.sum-requires-clause-fits
sum-requires-clause-fits c =
    fits_by_from_yields_list token_at (apart c.args.rows.now) c.map.result _
    (YieldsList-from_map _ token_at
    (YieldsList-at c.map.ensures.source (rows-apart c.chunks_exact.result c.args.rows.now c.chunks_exact.ensures.size c.chunks_exact.ensures.rest))
    c.map.ensures.closure (λ x r q k. search (rules, tests))) (omega (arith, sum_apart c.args.rows.now, c.requires.0))

pub returns : goal.returns
returns c =
    sum_by_from_yields_List token_at (apart c.args.rows.now) c.map.result _ c.sum.ensures.ran
    (YieldsList-from_map _ token_at
    (YieldsList-at c.map.ensures.source (rows-apart c.chunks_exact.result c.args.rows.now c.chunks_exact.ensures.size c.chunks_exact.ensures.rest))
    c.map.ensures.closure (λ x r q k. search (rules, tests))) ∙ sum_apart c.args.rows.now
