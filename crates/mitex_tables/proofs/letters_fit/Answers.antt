-- `mitex_tables::letters_fit` meets its contract: what `all` answers, and `letters-all`.
use mathlib.Core.Path.{◌∙◌}
use mathlib.Core.Bool.{◌||◌}
use Rattle.std.proofs.Common.{rules, tests}
use Rattle.std.proofs.lemmas.Iterator.{YieldsList-from_slice}
use Rattle.std.proofs.lemmas.Iterator.Search.{all_from_yields_List}
use Rattle.mitex_meaning.specs.Tables.{is_column, is_line}
use Rattle.mitex_tables.proofs.Letters.{letters-all}
use Rattle.mitex_tables.proofs.letters_fit.Goals as goal

pub returns : goal.returns
returns c =
    let s = c.args.s.now in
    all_from_yields_List (λ b. is_column b || is_line b) _ _ c.all.result c.all.ensures.ran (YieldsList-from_slice s cc) (λ x b q k. search (rules, tests))
    ∙ letters-all s
