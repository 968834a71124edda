-- `write_stretch`: the pass that writes is given the pieces that the plan notes (`pieced`).
use Rattle.stretches.proofs.Writing.{row_before, pieced, wrote}
use Rattle.stretches.proofs.write_stretch.Goals as goal

pub carry_before-requires : goal.carry_before-requires
carry_before-requires c = row_before c.requires

pub write_blocks-requires-clause-pieced : goal.write_blocks-requires-clause-pieced
write_blocks-requires-clause-pieced c = pieced c.requires c.carry_before.ensures

pub returns : goal.returns
returns c w = wrote w c.carry_before.ensures c.write_blocks.ensures
