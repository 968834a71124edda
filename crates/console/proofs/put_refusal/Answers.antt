-- `put_refusal`: five parts, one after the other.
use native.Mathlib.Omega.{arith}
use mathlib.Core.Path.{ap}
use Rattle.text.specs.Writing.{decimal}
use Rattle.text.proofs.Writing.{wrote_as}
use Rattle.console.proofs.Answers.{refusal-written}
use Rattle.console.proofs.put_refusal.Goals as goal

pub returns-clause-wrote : goal.returns-clause-wrote
returns-clause-wrote c =
    (refusal-written _ _ (omega arith) c.put.ensures.wrote (wrote_as (ap decimal c.from.ensures) c.put_decimal.ensures.wrote) c.put-2.ensures.wrote
    c.put_decimal-2.ensures.wrote c.put_byte.ensures.wrote).0

pub returns-clause-prefix_len : goal.returns-clause-prefix_len
returns-clause-prefix_len c =
    (refusal-written _ _ (omega arith) c.put.ensures.wrote (wrote_as (ap decimal c.from.ensures) c.put_decimal.ensures.wrote) c.put-2.ensures.wrote
    c.put_decimal-2.ensures.wrote c.put_byte.ensures.wrote).1
