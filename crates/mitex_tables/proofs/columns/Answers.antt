-- `mitex_tables::columns` meets its contract: what `filter` keeps is counted, and `columns-filter`.
use mathlib.Core.Path.{◌≡◌, ◌∙◌}
use native.Mathlib.Omega.{arith}
use Rattle.std.proofs.Common.{rules, tests}
use Rattle.std.proofs.lemmas.Iterator.{YieldsList-from_slice}
use Rattle.std.proofs.lemmas.Iterator.Consumers.{count_from_yields_List, YieldsList-from_filter}
use Rattle.mitex_meaning.specs.Tables.{is_column, columns}
use Rattle.mitex_tables.proofs.Letters.{columns-filter, columns-most}
use Rattle.mitex_tables.proofs.columns.Goals as goal

pub returns : goal.returns
returns c =
    let s = c.args.s.now in
    let e : c.count.result ≡ columns s =
    count_from_yields_List c.filter.result c.count.result c.count.ensures.ran
    (YieldsList-from_filter _ is_column (YieldsList-from_slice s cc) c.filter.ensures.closure (λ x b q k. search (rules, tests)))
    ∙ columns-filter s in
    (e, omega (arith, e, columns-most s))
