use mathlib.Core.Path.{◌≡◌, sym, subst, ◌∙◌}
use mathlib.Core.Bool.{true}
use mathlib.Core.List.{List}
use Prim.Native.Nat.{ℕ, ◌+◌, ◌<◌}
use native.Mathlib.Nat.{zero-add}
use native.Mathlib.Omega.{arith}
use lib.ListN.{length, drop, get_or}
use lib.Seq.{length-take-le}
use Rattle.mitex_syntax.specs.Rows.{num_of}
use Rattle.mitex_meaning.specs.Outcome.{Context}
use Rattle.mitex_meaning.specs.declared.LaTeXMode.TheVariants.{Text}
use Rattle.mitex_tokens.specs.Running.{is_copied}
use Rattle.mitex_tokens.specs.Runs.{RunGiven}
use Rattle.mitex_tokens.proofs.Running.{rows-eight}
use Rattle.mitex_tokens.proofs.Copying.{Copied, copied-start, copied_next, copied-stop, copied-row, copied-run}
use Rattle.mitex_tokens.proofs.put_copied.Goals as goal

-- the next token is copied too
next :
    {rows text : List ℕ} {i j n : ℕ} → RunGiven rows text → ((x : Context) → x.mode ≡ Text → Copied x rows text i j)
    → (i < length rows) × (get_or rows (i + 1) 0 ≡ 1) × (is_copied (get_or rows i 0) ≡ true) → n ≡ num_of (drop i rows)
    → (x : Context) → x.mode ≡ Text → Copied x rows text (i + 8) (j + n)
next {rows} {text} {i} {j} g p said e x t =
    subst (λ (y : ℕ). Copied x rows text (i + 8) (j + y)) (sym e)
    (copied_next (p x t) t g.short said.0 said.1 said.2 g.forest g.spells)

pub number-j-requires : goal.number-j-requires
number-j-requires c =
    let g = c.requires.run_given.0 in
    rows-eight g.spells g.some

pub loop-j-init : goal.loop-j-init
loop-j-init c =
    let a = c.args in
    let g = c.requires.run_given.0 in (
      omega arith,
      rows-eight g.spells g.some,
      λ x t.
          subst (λ (y : ℕ). Copied x a.rows.now a.text.now 8 y) (zero-add (num_of a.rows.now) ∙ sym c.number-j.ensures.0)
          (copied_next (copied-start x a.rows.now a.text.now) t g.short g.some c.requires.run_given.1
          c.requires.rows_value g.forest g.spells),
    )

pub copied_at-requires : goal.copied_at-requires
copied_at-requires c = (c.loop-j.invariant.1, copied-row c.loop-j.invariant.2 c.requires.run_given.0.spells)

pub number-j-requires-in-loop-j : goal.number-j-requires-in-loop-j
number-j-requires-in-loop-j c =
    copied-row c.loop-j.invariant.2 c.requires.run_given.0.spells (c.copied_at.ensures c.loop-j-test.true).0

pub overflow_add-j : goal.overflow_add-j
overflow_add-j c =
    let g = c.requires.run_given.0 in
    omega (
      arith,
      copied-stop (next g c.loop-j.invariant.2 (c.copied_at.ensures c.loop-j-test.true) c.number-j-in-loop-j.ensures.0),
      g.short,
    )

pub loop-j-preserved : goal.loop-j-preserved
loop-j-preserved c =
    let g = c.requires.run_given.0 in
    let said = c.copied_at.ensures c.loop-j-test.true in (
      omega arith,
      copied-row c.loop-j.invariant.2 g.spells said.0,
      next g c.loop-j.invariant.2 said c.number-j-in-loop-j.ensures.0,
    )

pub slice_bounds-put-end : goal.slice_bounds-put-end
slice_bounds-put-end c = sym (length-take-le _ _ (copied-stop c.loop-j.invariant.2))

pub returns : goal.returns
returns c = copied-run c.loop-j.invariant.2 c.loop-j.invariant.0 c.loop-j.invariant.1 c.put.ensures
