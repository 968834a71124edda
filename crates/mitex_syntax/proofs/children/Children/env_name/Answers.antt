-- `env_name`: the first token under what `begin` found, if anything was (`stands`); its children are those of what stands there
-- (`found-children`).
use mathlib.Core.Path.{sym, ap, subst₂, ◌∙◌}
use mathlib.Core.Option.{Option as Maybe}
use Rattle.mitex_syntax.specs.Tree.{Tree, Forest}
use Rattle.mitex_syntax.specs.Views.{children_of, children_in, first_token, first_tokens, text_in}
use Rattle.mitex_syntax.specs.Spells.{Begins}
use Rattle.mitex_syntax.specs.Places.{text_told}
use Rattle.mitex_syntax.proofs.Places.{stands, nowhere, found-children, children-found}
use Rattle.mitex_syntax.proofs.children.Children.env_name.Goals as goal

pub returns-in_default : goal.returns-in_default
unfolding first_token
returns-in_default c =
    λ f sp. ap (λ (o : Maybe Tree). text_in (first_tokens (children_in o))) (sym (nowhere (c.begin.ensures.finds f sp) c.in_default.is))

pub returns-in-Some-first_token : goal.returns-in-Some-first_token
returns-in-Some-first_token c =
    λ f sp. let s = stands (c.begin.ensures.finds f sp) c.in-Some.is in
    let at = subst₂ (Begins (children_of s.tree)) (sym c.children_at.ensures.rows) (sym c.children_at.ensures.text) (found-children s) in
    ap text_told (sym c.in-Some-first_token.is) ∙ (c.first_token.ensures.token (children_of s.tree) at).text_is
    ∙ ap (λ (g : Forest). text_in (first_tokens g)) (sym (children-found s))

pub returns-in-None : goal.returns-in-None
returns-in-None c =
    λ f sp. let s = stands (c.begin.ensures.finds f sp) c.in-Some.is in
    let at = subst₂ (Begins (children_of s.tree)) (sym c.children_at.ensures.rows) (sym c.children_at.ensures.text) (found-children s) in
    ap text_told (sym c.in-None.is) ∙ (c.first_token.ensures.token (children_of s.tree) at).text_is
    ∙ ap (λ (g : Forest). text_in (first_tokens g)) (sym (children-found s))
