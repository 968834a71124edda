-- `put_edited`: seven parts, one after the other.
use native.Mathlib.Omega.{arith}
use Rattle.console.proofs.Answers.{edited-written}
use Rattle.console.proofs.put_edited.Goals as goal

pub returns-clause-wrote : goal.returns-clause-wrote
returns-clause-wrote c =
    (edited-written _ _ _ (omega arith) c.put.ensures.wrote c.put_decimal.ensures.wrote c.put_byte.ensures.wrote c.put_difference.ensures.wrote
    c.put_byte-2.ensures.wrote c.put_decimal-2.ensures.wrote c.put_byte-3.ensures.wrote).0

pub returns-clause-prefix_len : goal.returns-clause-prefix_len
returns-clause-prefix_len c =
    (edited-written _ _ _ (omega arith) c.put.ensures.wrote c.put_decimal.ensures.wrote c.put_byte.ensures.wrote c.put_difference.ensures.wrote
    c.put_byte-2.ensures.wrote c.put_decimal-2.ensures.wrote c.put_byte-3.ensures.wrote).1
