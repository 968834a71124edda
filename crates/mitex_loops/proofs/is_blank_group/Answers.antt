-- `mitex_loops::is_blank_group` meets its contract: what `all` answers of the rows, and what that says of the elements.
use Rattle.std.proofs.Common.{rules, tests}
use Rattle.mitex_meaning.specs.Children.{is_blank}
use Rattle.mitex_loops.proofs.RowTests.{eights, all-answers}
use Rattle.mitex_loops.proofs.Steady.{blank-answer}
use Rattle.mitex_loops.proofs.is_blank_group.Goals as goal

pub returns : goal.returns
returns c =
    let runs = eights _ _ c.chunks_exact.ensures.runs c.chunks_exact.ensures.size c.chunks_exact.ensures.rest in
    let answer = all-answers _ _ is_blank (λ x b q k. search (rules, tests)) c.args.rows.now runs c.all.result c.all.ensures.runs in
    λ f text sp. blank-answer c.all.result f answer sp
