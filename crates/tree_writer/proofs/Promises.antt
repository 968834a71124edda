-- What the writer promises of lists of steps, all together.
use Rattle.tree_writer.specs.Runs.{WriterPromises}
use Rattle.tree_writer.proofs.AnySteps.{any_step}
use Rattle.tree_writer.proofs.Answering.{answers-right, run-possible}
use Rattle.tree_writer.proofs.Finishing.{finished-right}
use Rattle.tree_writer.proofs.Feeding.{file-comes-out}
use Rattle.tree_writer.proofs.Reaching.{left-by-steps}
use Rattle.tree_writer.proofs.StateRuns.{numbers-right}

pub writer-promises : WriterPromises
writer-promises =
    record {
      any_caller = any_step;
      answered = answers-right;
      finished = finished-right;
      comes_out = file-comes-out;
      reached = left-by-steps;
      stays_possible = run-possible;
      by_numbers = numbers-right;
    }
