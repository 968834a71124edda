-- Bytes written to an output: the lent buffer with the place where the next byte goes.
use Rattle.std.specs.Prelude.{◌≡◌, ℕ, List, length}
use Rattle.text.specs.Writing.{Wrote}
use Rattle.text.specs.declared.output.Output.{Output}

-- the bytes w were written to o, which then is o2 over the same lent buffer, of the same length
pub record Puts (o : Output) (w : List ℕ) (o2 : Output) : Type 0 where
  pub wrote : Wrote o.at o.buffer.now w o2.at o2.buffer.now
  pub lent : o2.buffer.ghost_name ≡ o.buffer.ghost_name
  pub kept : length o2.buffer.now ≡ length o.buffer.now
