-- The bytes of one, two or three are handed on; no white character is longer.
use native.Mathlib.Omega.{arith}
use Rattle.utf8.proofs.White.{white-bytes-other}
use Rattle.utf8.proofs.is_white.Goals as goal

pub returns-in_default : goal.returns-in_default
returns-in_default c = white-bytes-other c.args.c.now (omega arith) (omega arith) (omega arith)

pub returns-in_default-2 : goal.returns-in_default-2
returns-in_default-2 c = white-bytes-other c.args.c.now (omega arith) (omega arith) (omega arith)
