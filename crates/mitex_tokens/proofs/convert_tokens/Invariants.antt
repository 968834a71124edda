-- The invariant: how far the loop has gone (`RanTo`), while of the converter the flag alone has moved. The measure is the rows left.
use mathlib.Core.Path.{◌≡◌}
use mathlib.Core.List.{List}
use mathlib.Core.Option.Option.{some}
use Prim.Native.Nat.{◌-◌}
use lib.ListN.{length}
use Rattle.mitex_spec.specs.Rules.{Rule}
use Rattle.mitex_spec.specs.RuleFile.{rules_of}
use Rattle.mitex_meaning.specs.State.{context_of, with_flag}
use Rattle.mitex_tokens.proofs.Running.{RanTo}
use Rattle.mitex_tokens.proofs.convert_tokens.Given as goal

abbrev pub invariant-loop-c : goal.invariant-loop-c
invariant-loop-c l =
    record {
      flag_alone : l.c ≡ with_flag l.c.skip_next_space l.initial.c;
      lent : l.out.buffer.ghost_name ≡ l.initial.out.buffer.ghost_name;
      kept : length l.out.buffer.now ≡ length l.initial.out.buffer.now;
      goes :
          (rs : List Rule) → rules_of l.rules.file.now ≡ some rs
          → RanTo (context_of rs l.initial.c) l.initial.c.skip_next_space l.rows l.text l.initial.out l.i l.j l.c.skip_next_space l.out;
    }

abbrev pub decreases-loop-c : goal.decreases-loop-c
decreases-loop-c l = length l.rows - l.i
