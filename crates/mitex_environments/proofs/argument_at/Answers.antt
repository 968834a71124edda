-- Where the argument stands among the caption's children, counted from the figure's.
use Rattle.mitex_syntax.specs.Views.{children_of}
use Rattle.mitex_syntax.proofs.Places.{stands, nowhere}
use Rattle.mitex_environments.proofs.Captioning.{taken-children, argument-shows, bare-shows}
use Rattle.mitex_environments.proofs.argument_at.Goals as goal

pub returns-in_default : goal.returns-in_default
returns-in_default c =
    let said = c.children_at.ensures in
    λ t o q sp.
    bare-shows t c.args.child.row o q (nowhere (c.find_kind.ensures.finds (children_of t) (taken-children t c.requires sp said.rows said.text)) c.in_default.is)

pub returns : goal.returns
returns c =
    let said = c.children_at.ensures in
    λ t o q sp.
    argument-shows t o q c.requires said.rows said.text
    (stands (c.find_kind.ensures.finds (children_of t) (taken-children t c.requires sp said.rows said.text)) c.in-Some.is)
