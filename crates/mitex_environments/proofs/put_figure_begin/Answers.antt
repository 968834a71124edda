-- The call, and the caption's begin where there is one.
use mathlib.Core.Path.{sym, ap}
use mathlib.Core.Bool.{Bool}
use mathlib.Core.List.{◌++◌}
use Rattle.text.proofs.Outputs.{puts_then, puts_as}
use Rattle.mitex_meaning.specs.Texts.{left_paren, hash}
use Rattle.mitex_environments.specs.Captions.{caption_text}
use Rattle.mitex_environments.proofs.put_figure_begin.Goals as goal

pub returns-then-captioned : goal.returns-then-captioned
returns-then-captioned c =
    puts_as (ap (λ (b : Bool). (hash ++ (c.args.name.now ++ left_paren)) ++ caption_text b) (sym c.if-captioned.true))
    (puts_then c.put_hash_begin.ensures c.put.ensures)
