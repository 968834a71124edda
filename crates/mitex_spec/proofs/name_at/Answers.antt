-- The rule is `Located` by the trailer and the index.
use native.Mathlib.Omega.{arith}
use Rattle.mitex_spec.proofs.LookUp.{located, located-given, name-room, name-part}
use Rattle.mitex_spec.proofs.name_at.Goals as goal

pub offset_bounds-index-k : goal.offset_bounds-index-k
offset_bounds-index-k c =
    let h = located-given c.requires in let r = h.row_end in let m = h.most in omega arith

pub bounds-index-k : goal.bounds-index-k
bounds-index-k c = (located-given c.requires).room

pub rule_row_at-requires : goal.rule_row_at-requires
rule_row_at-requires c = let h = located-given c.requires in (h.row_end, h.most)

pub slice_bounds-result-end : goal.slice_bounds-result-end
slice_bounds-result-end c =
    name-room (located-given c.requires) c.rule_row_at.result.now c.wide_u32-at.result c.read_u16.result
    c.rule_row_at.ensures.0 c.wide_u32-at.ensures.0 c.read_u16.ensures.0

pub returns : goal.returns
returns c = λ rs e.
    name-part (located c.requires rs e) c.rule_row_at.result.now c.wide_u32-at.result c.read_u16.result
    c.rule_row_at.ensures.0 c.wide_u32-at.ensures.0 c.read_u16.ensures.0
