-- By whether there is a mark.
use mathlib.Core.Path.{refl, sym, ◌∙◌}
use Rattle.refusals.specs.Refusals.{refusal_of}
use Rattle.mitex_meaning.specs.State.{carry_of}
use Rattle.mitex_meaning.specs.Contract.Agrees.{accepts}
use Rattle.mitex_meaning.proofs.Agreeing.{agrees-as, agrees-halts}
use Rattle.mitex_commands.proofs.Items.{item-refused, item-written}
use Rattle.mitex_commands.proofs.convert_command_item.Goals as goal

pub returns-in_default-clause-agrees : goal.returns-in_default-clause-agrees
returns-in_default-clause-agrees c =
    let d = c.args.c.now in
    agrees-as (item-refused d.env d.indent (carry_of d) (sym c.mark_of.ensures ∙ c.in_default.is)) (agrees-halts (refusal_of 11 c.args.row) refl refl)

pub returns-clause-agrees : goal.returns-clause-agrees
returns-clause-agrees c =
    let d = c.args.c.now in
    agrees-as (item-written d.env d.indent (carry_of d) (sym c.mark_of.ensures ∙ c.in-Some.is))
    (accepts refl refl refl c.requires c.put_item.ensures.wrote)
