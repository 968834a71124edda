-- Where the first ItemBegin stands its children begin a row further on (`begin-found`).
use Rattle.mitex_syntax.proofs.Trees.{all-begins}
use Rattle.mitex_syntax.proofs.Places.{stands, nowhere}
use Rattle.mitex_environments.proofs.Beginning.{begin-found, begin-none, none-spelt}
use Rattle.mitex_environments.proofs.begin_part.Goals as goal

pub invariant_of-result : goal.invariant_of-result
invariant_of-result c = record { some = none-spelt }

pub returns-in-Some-clause-found : goal.returns-in-Some-clause-found
returns-in-Some-clause-found c =
    λ f sp.
    begin-found (stands (c.begin.ensures.finds f (all-begins sp)) c.in-Some.is) c.children_at.ensures.rows c.children_at.ensures.text

pub returns-in-None-clause-found : goal.returns-in-None-clause-found
returns-in-None-clause-found c = λ f sp. begin-none (nowhere (c.begin.ensures.finds f (all-begins sp)) c.in-None.is)
