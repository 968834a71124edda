-- In a turn of the loop there is an element, whose place is a child's; its caption is the last so far, or has no argument and is the answer.
use native.Mathlib.Omega.{arith}
use Rattle.std.proofs.lemmas.Result.{err_from_is_err_and}
use Rattle.mitex_syntax.proofs.Trees.{all-begins, spans}
use Rattle.mitex_environments.proofs.Captioning.{caption-rest-start, caption-rest-element, caption-rest-child, caption-rest-next, caption-rest-stop, caption-rest-end}
use Rattle.mitex_environments.proofs.last_caption.Goals as goal

pub loop-row-init : goal.loop-row-init
loop-row-init c = record { low = omega arith; begun = omega arith; rest = λ f sp. caption-rest-start sp }

pub span_at-span-requires : goal.span_at-span-requires
span_at-span-requires c =
    let all = c.args.children.some in
    let inv = c.loop-row.invariant in
    spans (caption-rest-element (inv.rest all.forest all.begins) c.loop-row-test.true inv.begun all.few all.short) all.few all.short

pub overflow_add-end : goal.overflow_add-end
overflow_add-end c =
    let all = c.args.children.some in
    let inv = c.loop-row.invariant in
    let said = c.span_at-span.ensures in
    let kid = caption-rest-child (inv.rest all.forest all.begins) c.loop-row-test.true inv.begun all.few all.short _ _ said.rows said.text in
    let few = all.few in
    let z = kid.end in omega arith

pub overflow_add-to : goal.overflow_add-to
overflow_add-to c =
    let all = c.args.children.some in
    let inv = c.loop-row.invariant in
    let said = c.span_at-span.ensures in
    let kid = caption-rest-child (inv.rest all.forest all.begins) c.loop-row-test.true inv.begun all.few all.short _ _ said.rows said.text in
    let short = all.short in
    let z = kid.stop in omega arith

pub caption_at-requires : goal.caption_at-requires
caption_at-requires c =
    let all = c.args.children.some in
    let inv = c.loop-row.invariant in
    let said = c.span_at-span.ensures in
    caption-rest-child (inv.rest all.forest all.begins) c.loop-row-test.true inv.begun all.few all.short _ _ said.rows said.text

pub returns-in_err-found : goal.returns-in_err-found
returns-in_err-found c =
    let all = c.args.children.some in
    let inv = c.loop-row.invariant in
    let said = c.span_at-span.ensures in
    let p = err_from_is_err_and c.from_residual.result c.from_residual.ensures.1 in
    λ f sp.
    rw (p.1, p.2)
    (caption-rest-stop (inv.rest f (all-begins sp)) c.loop-row-test.true inv.begun all.few all.short _ _ said.rows said.text
    c.caption_at.ensures c.in_err-found.was)

pub loop-row-preserved : goal.loop-row-preserved
loop-row-preserved c =
    let all = c.args.children.some in
    let inv = c.loop-row.invariant in
    let said = c.span_at-span.ensures in
    let kid = caption-rest-child (inv.rest all.forest all.begins) c.loop-row-test.true inv.begun all.few all.short _ _ said.rows said.text in
    record {
      low = kid.end;
      begun = kid.stop;
      rest = λ f sp.
          rw c.or-last.ensures
          (caption-rest-next (inv.rest f sp) c.loop-row-test.true inv.begun all.few all.short _ _ said.rows said.text
          c.caption_at.ensures c.in_ok-found.was);
    }

pub returns : goal.returns
returns c = λ f sp. caption-rest-end (c.loop-row.invariant.rest f (all-begins sp)) c.loop-row-test.false
