-- The rule is `Located` by the trailer and the index; its alias follows its name.
use mathlib.Core.Path.{refl, sym, ◌∙◌, ap}
use Prim.Native.Nat.{◌+◌, ◌-◌}
use lib.ListN.{length, take, drop}
use Rattle.std.proofs.Common.{rules}
use Rattle.mitex_spec.proofs.LookUp.{located, located-given, name-room, alias-room, found-is, lent-map, lent-in, part_of}
use Rattle.mitex_spec.proofs.rules.Rules.rule_at.Goals as goal

pub rule_row_at-row-requires : goal.rule_row_at-row-requires
rule_row_at-row-requires c = let h = located-given c.requires in (h.row_end, h.most)

pub bounds-self-k : goal.bounds-self-k
bounds-self-k c = (located-given c.requires).room

pub slice_bounds-text-count : goal.slice_bounds-text-count
slice_bounds-text-count c =
    name-room (located-given c.requires) c.rule_row_at-row.result.now c.wide_u32.result c.read_u16.result
    c.rule_row_at-row.ensures.0 c.wide_u32.ensures.0 c.read_u16.ensures.0

pub slice_bounds-text-start : goal.slice_bounds-text-start
slice_bounds-text-start c =
    name-room (located-given c.requires) c.rule_row_at-row.result.now c.wide_u32.result c.read_u16.result
    c.rule_row_at-row.ensures.0 c.wide_u32.ensures.0 c.read_u16.ensures.0

pub map-requires : goal.map-requires
map-requires c =
    λ size e _ _ _ _ _.
    alias-room (located-given c.requires) c.rule_row_at-row.result.now c.wide_u32.result c.read_u16.result
    c.rule_row_at-row.ensures.0 c.wide_u32.ensures.0 c.read_u16.ensures.0 size (sym c.alias_size.ensures.size ∙ e)

pub returns-clause-rule : goal.returns-clause-rule
returns-clause-rule c =
    λ rs e.
    let file = c.args.self.file.now in
    let at = c.wide_u32.result + c.read_u16.result in
    let text = take (length file - at) (drop at file) in
    found-is (located c.requires rs e) c.rule_row_at-row.result.now c.wide_u32.result c.read_u16.result
    c.rule_row_at-row.ensures.0 c.wide_u32.ensures.0 c.read_u16.ensures.0 _ refl
    (lent-map text c.alias_size.result c.map.result (λ n s q. search rules) c.map.ensures.cases
    ∙ ap (λ o. part_of o text) c.alias_size.ensures.size)

pub returns-clause-inside : goal.returns-clause-inside
returns-clause-inside c =
    let room = name-room (located-given c.requires) c.rule_row_at-row.result.now c.wide_u32.result c.read_u16.result
    c.rule_row_at-row.ensures.0 c.wide_u32.ensures.0 c.read_u16.ensures.0 in
    lent-in c.args.self.file.now (c.wide_u32.result + c.read_u16.result) room c.alias_size.result c.map.result (λ n s q. search rules) c.map.ensures.cases
