-- `first_node_kind`: the rows one by one (`rows-apart`), and the first of a node among them (`find-apart`).
use mathlib.Core.Path.{ap, ◌∙◌}
use mathlib.Core.List.{List}
use Prim.Native.Nat.{ℕ}
use lib.ListN.{get_or}
use Rattle.std.specs.Prelude.{option_map}
use Rattle.std.specs.List.{find}
use Rattle.std.proofs.Common.{rules, tests}
use Rattle.std.proofs.lemmas.Iterator.Search.{find_from_yields_List}
use Rattle.mitex_syntax.proofs.Apart.{rows-apart, apart, of_node, find-apart, kind-mapped}
use Rattle.mitex_syntax.proofs.first_node_kind.Goals as goal

pub returns : goal.returns
returns c =
    λ f e. kind-mapped c.find.result c.map.result c.map.ensures.cases (λ x n k. search (rules, tests))
    ∙ ap (option_map (λ (row : List ℕ). get_or row 0 0))
    (find_from_yields_List of_node _ _ c.find.result c.find.ensures.ran
    (rows-apart c.chunks_exact.result c.args.rows.now c.chunks_exact.ensures.size c.chunks_exact.ensures.rest)
    (λ x b q k. search (rules, tests)))
    ∙ ap (λ (l : List ℕ). option_map (λ (row : List ℕ). get_or row 0 0) (find of_node (apart l))) e ∙ find-apart f
