-- One element side by side with none: what the walk over it promises is said of the element, one row further down.
use Rattle.mitex_meaning.specs.State.{context_of, carry_of}
use Rattle.mitex_meaning.specs.Conversion.{convert as meaning}
use Rattle.mitex.proofs.Walking.{alone-agrees, agrees-down}
use Rattle.mitex.proofs.convert_block.Goals as goal

pub returns-clause-converts : goal.returns-clause-converts
returns-clause-converts c =
    let k = c.args.c.now in
    λ rs ready t sp d h.
    agrees-down 1 (meaning d (context_of rs k) t (carry_of k)) (alone-agrees k c.convert.ensures.walks rs ready t sp d h)
