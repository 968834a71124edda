use native.Mathlib.Omega.{arith}
use mathlib.Core.Path.{◌≡◌, ap, ◌∙◌}
use mathlib.Core.Option.Option.{some}
use mathlib.Core.List.{List}
use Prim.Native.Nat.{ℕ}
use lib.ListN.{length}
use Rattle.text.specs.Numbers.{Bytes}
use Rattle.text.specs.Trailer.{count_of}
use Rattle.mitex_spec.specs.Rules.{Rule}
use Rattle.mitex_spec.specs.RuleFile.{rules_of}
use Rattle.mitex_spec.specs.Index.{first_byte}
use Rattle.mitex_spec.proofs.RuleFile.{rules-tested, file-rules}
use Rattle.mitex_spec.proofs.Firsts.{firsts-most, firsts-next, firsts-stop}
use Rattle.mitex_spec.proofs.firsts_below.Goals as goal

-- the count is that of the rules
many : (file : List ℕ) → Bytes file → (n : ℕ) → n ≡ count_of file → (rs : List Rule) → rules_of file ≡ some rs → n ≡ length rs
many file by n q rs e = q ∙ (file-rules file rs by e).count

pub count_of-count-requires : goal.count_of-count-requires
count_of-count-requires c = (rules-tested _ _ c.requires.numbered.decodes).long

pub name_at-requires : goal.name_at-requires
name_at-requires c =
    let s = c.requires.numbered in
    let n = many c.args.file.now (λ i. omega (arith, c.type_inv.file i)) c.count_of-count.result c.count_of-count.ensures.0 s.rules s.decodes in
    record { numbered = s; few = omega (arith, c.loop-k-test.true) }

pub returns-then-b-first_byte : goal.returns-then-b-first_byte
returns-then-b-first_byte c =
    λ rs e.
    let n = many c.args.file.now (λ i. omega (arith, c.type_inv.file i)) c.count_of-count.result c.count_of-count.ensures.0 rs e in
    let low = c.loop-k.invariant rs e in
    let q = c.first_byte.ensures.0 ∙ ap first_byte (c.name_at.ensures rs e) in
    let t = c.if-b-first_byte.true in
    let turn = c.loop-k-test.true in
    let high = firsts-stop c.args.b rs c.loop-k.k (omega arith) (omega arith) in
    omega arith

pub loop-k-preserved : goal.loop-k-preserved
loop-k-preserved c =
    λ rs e.
    let n = many c.args.file.now (λ i. omega (arith, c.type_inv.file i)) c.count_of-count.result c.count_of-count.ensures.0 rs e in
    let q = c.first_byte.ensures.0 ∙ ap first_byte (c.name_at.ensures rs e) in
    let t = c.if-b-first_byte.false in
    let turn = c.loop-k-test.true in
    firsts-next c.args.b rs c.loop-k.k (omega arith) (c.loop-k.invariant rs e) (omega arith)

pub returns : goal.returns
returns c =
    λ rs e.
    let low = c.loop-k.invariant rs e in
    let high = firsts-most c.args.b rs in
    let n = many c.args.file.now (λ i. omega (arith, c.type_inv.file i)) c.count_of-count.result c.count_of-count.ensures.0 rs e in
    let t = c.loop-k-test.false in
    omega arith
