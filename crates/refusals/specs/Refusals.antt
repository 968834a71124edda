-- The numbers of the sixteen refusals.
use Rattle.std.specs.Prelude.{ℕ, cond, eqb, Result, Ok, Err}
use Rattle.refusals.specs.declared.Reason.{Reason}
use Rattle.refusals.specs.declared.Reason.TheVariants.{NoMode, BadRules, BadLayout, TooDeep, BadShape, NoFit, Misplaced, UnlikeEnds, NoCommand, NoEnvironment, NoList, NoArgument, BadColumn, LongLabel, TooShort, OutOfPlace}
use Rattle.refusals.specs.declared.Refusal.{Refusal}

abbrev pub refusal_number : Reason → ℕ
refusal_number NoMode = 1
refusal_number BadRules = 2
refusal_number BadLayout = 3
refusal_number TooDeep = 4
refusal_number BadShape = 5
refusal_number NoFit = 6
refusal_number Misplaced = 7
refusal_number UnlikeEnds = 8
refusal_number NoCommand = 9
refusal_number NoEnvironment = 10
refusal_number NoList = 11
refusal_number NoArgument = 12
refusal_number BadColumn = 13
refusal_number LongLabel = 14
refusal_number TooShort = 15
refusal_number OutOfPlace = 16

-- the reason of a number; of any other, the last
abbrev pub reason_of : ℕ → Reason
reason_of n =
    cond (eqb n 1) NoMode
    (cond (eqb n 2) BadRules
    (cond (eqb n 3) BadLayout
    (cond (eqb n 4) TooDeep
    (cond (eqb n 5) BadShape
    (cond (eqb n 6) NoFit
    (cond (eqb n 7) Misplaced
    (cond (eqb n 8) UnlikeEnds
    (cond (eqb n 9) NoCommand
    (cond (eqb n 10) NoEnvironment
    (cond (eqb n 11) NoList
    (cond (eqb n 12) NoArgument
    (cond (eqb n 13) BadColumn
    (cond (eqb n 14) LongLabel
    (cond (eqb n 15) TooShort OutOfPlace))))))))))))))

abbrev pub refusal_of : ℕ → ℕ → Refusal
refusal_of n row = record { reason = reason_of n; row = row }

-- the number of a step's answer: 0 where it was taken
abbrev pub answer_number : {A : Type 0} → Result A Refusal → ℕ
answer_number (Ok _) = 0
answer_number (Err e) = refusal_number e.reason

abbrev pub answer_row : {A : Type 0} → Result A Refusal → ℕ
answer_row (Ok _) = 0
answer_row (Err e) = e.row
