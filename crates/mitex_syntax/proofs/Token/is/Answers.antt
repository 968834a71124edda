-- `is`: what the token says of what is there (`token-same`).
use mathlib.Core.Path.{◌∙◌}
use Rattle.text.proofs.Compare.{same-is}
use Rattle.mitex_syntax.proofs.Tokens.{token-same}
use Rattle.mitex_syntax.proofs.Token.is.Goals as goal

pub returns-then-self-kind : goal.returns-then-self-kind
returns-then-self-kind c = λ o m. token-same m c.args.kind c.args.text.now c.if-self-kind.true (c.eq.ensures ∙ same-is c.args.self.text.now c.args.text.now)
