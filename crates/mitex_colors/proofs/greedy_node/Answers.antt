-- The first child that is no command name is a node or it is not (`greedy-node`, `greedy-token`, `greedy-missing`).
use Rattle.mitex_syntax.proofs.Trees.{all-begins}
use Rattle.mitex_syntax.proofs.Places.{stands, nowhere}
use Rattle.mitex_colors.proofs.Standing.{greedy-missing, greedy-token, greedy-node}
use Rattle.mitex_colors.proofs.greedy_node.Goals as goal

pub returns-in_err-argument-clause-found : goal.returns-in_err-argument-clause-found
returns-in_err-argument-clause-found c =
    λ f sp.
    rw c.from_residual.ensures (greedy-missing (nowhere (c.find.ensures.finds f (all-begins sp)) c.in_err-argument.was))

pub returns-then-children-argument-eq-TOKEN_MARK-clause-found : goal.returns-then-children-argument-eq-TOKEN_MARK-clause-found
returns-then-children-argument-eq-TOKEN_MARK-clause-found c =
    λ f sp. greedy-token (stands (c.find.ensures.finds f (all-begins sp)) c.in_ok-argument.was) c.if-children-argument-eq-TOKEN_MARK.true

pub returns-clause-found : goal.returns-clause-found
returns-clause-found c =
    λ f sp. greedy-node (stands (c.find.ensures.finds f (all-begins sp)) c.in_ok-argument.was) c.if-children-argument-eq-TOKEN_MARK.false
