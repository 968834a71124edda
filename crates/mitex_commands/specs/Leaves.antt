-- What the leaves of commands are told by: a part of a definition that a function of its own answers.
use Rattle.std.specs.Prelude.{Bool, true, false, cond, ℕ, Option, Some, None}
use Rattle.mitex_meaning.specs.declared.LaTeXEnv.{LaTeXEnv}
use Rattle.mitex_meaning.specs.declared.LaTeXEnv.TheVariants.{None as NoEnv, Figure, Table, Itemize, Enumerate, Math, Matrix, Cases, SubStack, MathCurlyGroup}

-- the mark of an item, `-` or `+`; none where the environment is no list
abbrev pub mark_of : LaTeXEnv → Option ℕ
mark_of NoEnv = None
mark_of Figure = None
mark_of Table = None
mark_of Itemize = Some 45
mark_of Enumerate = Some 43
mark_of Math = None
mark_of Matrix = None
mark_of Cases = None
mark_of SubStack = None
mark_of MathCurlyGroup = None

-- a label is written at once where there is no environment or a list
abbrev pub writes_now : LaTeXEnv → Bool
writes_now NoEnv = true
writes_now Figure = false
writes_now Table = false
writes_now Itemize = true
writes_now Enumerate = true
writes_now Math = false
writes_now Matrix = false
writes_now Cases = false
writes_now SubStack = false
writes_now MathCurlyGroup = false

-- the environment of a command's arguments
abbrev pub stack_in : LaTeXEnv → Bool → LaTeXEnv
stack_in v stack = cond stack SubStack v
