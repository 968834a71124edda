-- What a conversion comes to. Context goes down (mode, environment, indent), carry goes along (space flag, held label), and
-- the rows of refusals are counted from the element's own row.
use Rattle.std.specs.Prelude.{Bool, List, ◌++◌, ℕ, ◌+◌}
use Rattle.mitex_spec.specs.Rules.{Rule}
use Rattle.mitex_syntax.specs.Tree.{Tree, Forest}
use Rattle.mitex_meaning.specs.declared.LaTeXMode.{LaTeXMode}
use Rattle.mitex_meaning.specs.declared.LaTeXEnv.{LaTeXEnv}
use Rattle.mitex_meaning.specs.declared.LaTeXEnv.TheVariants.{None, Figure, Table, Itemize, Enumerate, Math, Matrix, Cases, SubStack, MathCurlyGroup}

-- what goes down
pub record Context : Type 0 where
  pub rules : List Rule
  pub mode : LaTeXMode
  pub env : LaTeXEnv
  pub indent : ℕ

-- no label and an empty one differ
pub data Label : Type 0 where
  unheld : Label
  held : List ℕ → Label

-- what goes along
pub record Carry : Type 0 where
  pub flag : Bool
  pub label : Label

-- the longest label that can be held
abbrev pub label_most : ℕ
label_most = 120

-- refused with a number, at a row counted from the element's own; or done, with the carry and the text
pub data Outcome : Type 0 where
  refused : ℕ → ℕ → Outcome
  done : Carry → List ℕ → Outcome

-- a text before what an outcome writes
abbrev pub after : List ℕ → Outcome → Outcome
after w (refused n r) = refused n r
after w (done c v) = done c (w ++ v)

-- an outcome, and then what follows from its carry
abbrev pub and_then : Outcome → (Carry → Outcome) → Outcome
and_then (refused n r) k = refused n r
and_then (done c w) k = after w (k c)

-- a text after what an outcome writes
abbrev pub closing : List ℕ → Outcome → Outcome
closing w (refused n r) = refused n r
closing w (done c v) = done c (v ++ w)

-- the outcome of an element that stands o rows below
abbrev pub shift : ℕ → Outcome → Outcome
shift o (refused n r) = refused n (o + r)
shift o (done c w) = done c w

-- the meaning of an element, and that of a node's children by the meaning one level below
abbrev pub Conv : Type 0
Conv = Context → Tree → Carry → Outcome

abbrev pub Arm : Type 0
Arm = Conv → Context → Forest → Carry → Outcome

-- `enter_mode`
abbrev pub in_mode : LaTeXMode → Context → Context
in_mode m x = record { rules = x.rules; mode = m; env = x.env; indent = x.indent }

-- by how much a list indents; any other environment does not
abbrev pub step_of : LaTeXEnv → ℕ
step_of None = 0
step_of Figure = 0
step_of Table = 0
step_of Itemize = 2
step_of Enumerate = 2
step_of Math = 0
step_of Matrix = 0
step_of Cases = 0
step_of SubStack = 0
step_of MathCurlyGroup = 0

-- `enter_env`
abbrev pub in_env : LaTeXEnv → Context → Context
in_env e x = record { rules = x.rules; mode = x.mode; env = e; indent = x.indent + step_of e }

abbrev pub flagged : Bool → Carry → Carry
flagged b c = record { flag = b; label = c.label }

abbrev pub labelled : Label → Carry → Carry
labelled l c = record { flag = c.flag; label = l }
