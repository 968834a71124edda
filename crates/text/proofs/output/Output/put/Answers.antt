use native.Mathlib.Omega.{arith}
use mathlib.Core.Path.{refl}
use Rattle.text.proofs.Outputs.{stored-inside}
use Rattle.text.proofs.output.Output.put.Goals as goal

pub returns : goal.returns
returns c =
    let self = c.args.self.now in
    record {
      wrote = record {
        next = c.forth-self.ensures;
        over =
            stored-inside c.args.s.now self.buffer.now c.copy_bytes.new.to self.at c.min-from.result c.min-inside.result _
            c.min-from.ensures c.min-inside.ensures (omega arith) c.copy_bytes.ensures;
      };
      lent = refl;
      kept = omega arith;
    }
