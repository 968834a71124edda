-- The three calls, one after the other, are the run of the three (`alters-more`), and so what demand 3 says of runs holds of them.
use Rattle.mitex_spec.specs.RuleFile.{rules_of}
use Rattle.edit_meaning.specs.ChangeCalls.RunsChanges.{no_change}
use Rattle.edit_meaning.proofs.ChangeCalls.{alters-more, edits-alter, alters-demanded}
use Rattle.manuscript.specs.Manuscript.{mode_of, manuscript}
use Rattle.manuscript.proofs.Manuscript.{keeps-short}
use Rattle.calls.proofs.three_changes.Goals as goal

pub returns-clause-run : goal.returns-clause-run
returns-clause-run c =
    alters-more (edits-alter c.edit-first.ensures) c.length_after-after_one.ensures
    (alters-more c.insert-second.ensures c.length_after-after_two.ensures
    (alters-more c.remove-third.ensures c.length_after-after_three.ensures no_change))

pub returns-clause-demand : goal.returns-clause-demand
returns-clause-demand c =
    let a = c.args in
    let file = a.rules.now in
    alters-demanded (manuscript a.mode file) (keeps-short (mode_of a.mode) (rules_of file)) (returns-clause-run c)
