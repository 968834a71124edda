use native.Mathlib.Omega.{arith}
use mathlib.Core.Path.{◌≡◌, sym, ap, ◌∙◌}
use mathlib.Core.Bool.{Bool}
use mathlib.Core.List.{List}
use Prim.Native.Nat.{ℕ, ◌+◌, ◌/◌, ◌-◌, ◌≤◌, ◌<◌}
use lib.ListN.{length}
use Rattle.text.specs.Compare.{precedes}
use Rattle.mitex_spec.specs.Index.{SomeRules}
use Rattle.mitex_spec.proofs.Firsts.{index-long, rank_between}
use Rattle.mitex_spec.proofs.Index.{ready_for, ready-numbered}
use Rattle.mitex_spec.proofs.LookUp.{rank-low, rank-high, rules-counted}
use Rattle.mitex_spec.proofs.rules.Rules.rank.Invariants.{RankBetween}
use Rattle.mitex_spec.proofs.rules.Rules.rank.Goals as goal

-- the index has the places at the first byte
room : {file index : List ℕ} (s : SomeRules file index) (b : ℕ) → b < 256 → b + 8194 ≤ length index
room s b h = let l = index-long s.ready in omega arith

-- whether the name in the middle comes before
tested : {n m : List ℕ} (name : List ℕ) {r b : Bool} → n ≡ m → r ≡ precedes n name → r ≡ b → precedes m name ≡ b
tested name e q t = ap (λ x. precedes x name) (sym e) ∙ sym q ∙ t

abbrev middle : ℕ → ℕ → ℕ
middle low high = low + (high - low) / 2

pub bounds-self-b : goal.bounds-self-b
bounds-self-b c = let r = room c.args.self.some c.first_byte-b.result c.first_byte-b.ensures.1 in omega arith

pub bounds-self-b-2 : goal.bounds-self-b-2
bounds-self-b-2 c = let r = room c.args.self.some c.first_byte-b.result c.first_byte-b.ensures.1 in omega arith

pub loop-low-init : goal.loop-low-init
loop-low-init c =
    let low = c.wide_u32-low in
    let high = c.wide_u32-high in
    let byte = c.first_byte-b in
    let s = c.args.self.some in
    let name = c.args.name.now in
    let between : RankBetween c.args.self.file.now name low.result high.result
    = λ rs e.
    rank_between (ready_for s rs e) name byte.result low.result high.result byte.ensures.0 byte.ensures.1 low.ensures.0
    high.ensures.0 in
    let b = between s.rules s.ready.decodes in
    let l = b.0 in
    let h = b.1 in
    (omega arith, high.ensures.1, between)

pub name_at-requires : goal.name_at-requires
name_at-requires c =
    let s = c.args.self.some in
    let h = (c.loop-low.invariant.2 s.rules s.ready.decodes).2 in
    let t = c.loop-low-test.true in
    record { numbered = ready-numbered s; few = omega arith }

pub loop-low-preserved-then-precedes : goal.loop-low-preserved-then-precedes
loop-low-preserved-then-precedes c =
    let t = c.loop-low-test.true in (
      omega arith,
      c.loop-low.invariant.1,
      λ rs e.
          let r = c.loop-low.invariant.2 rs e in
          let top = r.2 in
          let d = rules-counted c.args.self.file.now rs e in (
            rank-high rs c.args.name.now (middle c.loop-low.low c.loop-low.high) d.1 (omega arith)
                (tested c.args.name.now (c.name_at.ensures rs e) c.precedes.ensures c.if-precedes.true),
            r.1,
            top,
          ),
    )

pub loop-low-preserved : goal.loop-low-preserved
loop-low-preserved c =
    let t = c.loop-low-test.true in (
      omega arith,
      omega arith,
      λ rs e.
          let r = c.loop-low.invariant.2 rs e in
          let top = r.2 in (
            r.0,
            rank-low rs c.args.name.now (middle c.loop-low.low c.loop-low.high) (omega arith)
                (tested c.args.name.now (c.name_at.ensures rs e) c.precedes.ensures c.if-precedes.false),
            omega arith,
          ),
    )
