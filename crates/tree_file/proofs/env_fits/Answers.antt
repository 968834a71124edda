-- The first ItemBegin is missing, or stands at a place (`stands`), whose children's first token decides (`env-some`).
use mathlib.Core.Path.{sym, subst₂}
use Rattle.std.proofs.Common.{rules}
use Rattle.mitex_syntax.specs.Views.{children_of}
use Rattle.mitex_syntax.specs.Spells.{Begins}
use Rattle.mitex_syntax.proofs.Places.{stands, nowhere, found-children}
use Rattle.tree_file.proofs.Rules.{env-none, env-some}
use Rattle.tree_file.proofs.env_fits.Goals as goal

pub returns-in_default : goal.returns-in_default
returns-in_default c = λ f sp. env-none f (nowhere (c.begin.ensures.finds f sp) c.in_default.is)

pub returns : goal.returns
returns c =
    λ f sp.
    let s = stands (c.begin.ensures.finds f sp) c.in-Some.is in
    let at = subst₂ (Begins (children_of s.tree)) (sym c.children_at.ensures.rows) (sym c.children_at.ensures.text) (found-children s) in
    env-some f s.tree s.is c.first_token-name.result c.is_some_and.result (c.first_token-name.ensures.token (children_of s.tree) at) (λ e. search rules)
    (λ x e. search rules)
