use native.Mathlib.Omega.{arith}
use mathlib.Core.Path.{refl}
use Rattle.text.proofs.Outputs.{spaces-inside}
use Rattle.text.proofs.output.Output.put_spaces.Goals as goal

pub returns : goal.returns
returns c =
    let self = c.args.self.now in
    record {
      wrote = record {
        next = simp lib.ListN.length-replicate c.forth-self.ensures;
        over =
            spaces-inside c.args.n self.buffer.now c.fill.new.self self.at c.min-from.result c.min-inside.result _
            c.min-from.ensures c.min-inside.ensures (omega arith) (c.fill.ensures.after (λ y e. e));
      };
      lent = refl;
      kept = omega arith;
    }
