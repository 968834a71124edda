-- The measures of the walk: the length of the rows, and below one length how far a function is from the children that it walks.
-- At the head of either loop `Head` holds (see Walking): the elements so far are converted.
use Rattle.std.proofs.Common.{length, ◌+◌}
use Rattle.mitex_meaning.specs.declared.Loop.TheVariants.{Plain}
use Rattle.mitex.proofs.Walking.{Head}
use Rattle.mitex.proofs.+walk.Given as goal

abbrev pub decreases-args : goal.decreases-args
decreases-args l = length l.e.rows.now + 3

abbrev pub decreases-arm : goal.decreases-arm
decreases-arm l = length l.e.rows.now + 6

abbrev pub decreases-body : goal.decreases-body
decreases-body l = length l.e.rows.now + 4

abbrev pub decreases-cmd : goal.decreases-cmd
decreases-cmd l = length l.e.rows.now + 5

abbrev pub decreases-convert : goal.decreases-convert
decreases-convert l = length l.e.rows.now + 0

abbrev pub decreases-convert_clause_lr : goal.decreases-convert_clause_lr
decreases-convert_clause_lr l = length l.e.rows.now + 3

abbrev pub decreases-convert_command_color : goal.decreases-convert_command_color
decreases-convert_command_color l = length l.e.rows.now + 3

abbrev pub decreases-convert_curly_group : goal.decreases-convert_curly_group
decreases-convert_curly_group l = length l.e.rows.now + 3

abbrev pub decreases-convert_env : goal.decreases-convert_env
decreases-convert_env l = length l.e.rows.now + 5

abbrev pub decreases-convert_env_figure : goal.decreases-convert_env_figure
decreases-convert_env_figure l = length l.e.rows.now + 3

abbrev pub decreases-convert_env_table : goal.decreases-convert_env_table
decreases-convert_env_table l = length l.e.rows.now + 3

abbrev pub decreases-convert_formula : goal.decreases-convert_formula
decreases-convert_formula l = length l.e.rows.now + 3

abbrev pub decreases-convert_normal_command : goal.decreases-convert_normal_command
decreases-convert_normal_command l = length l.e.rows.now + 4

abbrev pub decreases-each : goal.decreases-each
decreases-each l = length l.e.rows.now + 2

abbrev pub decreases-math : goal.decreases-math
decreases-math l = length l.e.rows.now + 3

abbrev pub decreases-turn : goal.decreases-turn
decreases-turn l = length l.e.rows.now + 1

abbrev pub decreases-convert-loop-rest : goal.decreases-convert-loop-rest
decreases-convert-loop-rest l = length l.rest.rows.now

abbrev pub invariant-convert-loop-rest : goal.invariant-convert-loop-rest
invariant-convert-loop-rest l = Head l.rules l.e l.initial.out l.initial.c Plain l.out l.c Plain l.rest

abbrev pub decreases-each-loop-rest : goal.decreases-each-loop-rest
decreases-each-loop-rest l = length l.rest.rows.now

abbrev pub invariant-each-loop-rest : goal.invariant-each-loop-rest
invariant-each-loop-rest l = Head l.rules l.e l.initial.out l.initial.c l.initial.l l.out l.c l.l l.rest
