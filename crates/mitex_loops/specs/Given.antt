-- What a loop over children is given: a child by its kind, what stands in it and its text, and the rows of the children behind it. What
-- is answered holds of every tree that this child is, and of every forest whose rows stand behind it.
use Rattle.std.specs.Prelude.{◌≡◌, ℕ, ◌<◌, List, length}
use Rattle.text.specs.Writing.{cap}
use Rattle.mitex_syntax.specs.Tree.{Tree, Forest, kind_of, text_of, rows_ofs}
use Rattle.mitex_syntax.specs.Views.{children_of}
use Rattle.mitex_syntax.specs.Spells.{Begins, SomeRows}
use Rattle.mitex_loops.specs.declared.Child.{Child}
use Rattle.mitex_meaning.specs.Children.{act_of}
use Rattle.mitex_meaning.specs.declared.Loop.{Loop}
use Rattle.mitex_meaning.specs.declared.Loop.TheVariants.{Plain, Curly, Spaced, Attached, Greedy, Separated, Bracketed, Dollars, Arguments, Named, Inside, Figure, Table}
use Rattle.mitex_meaning.specs.declared.Act.{Act}

-- these are the rows of some elements, few enough to be counted
pub record OthersGiven (behind : List ℕ) : Type 0 where
  pub few : length behind < cap
  pub others : SomeRows behind

-- the child is this tree, and the others behind it are these
pub record ChildIs (t : Tree) (f : Forest) (c : Child) : Type 0 where
  pub kind : c.kind ≡ kind_of t
  pub inside : Begins (children_of t) c.inner.rows.now c.inner.text.now
  pub text_is : c.inner.text.now ≡ text_of t
  pub others : c.behind.now ≡ rows_ofs f

-- what the loop l does with the child, whatever tree it is and whatever elements stand behind it
abbrev pub Decides : Loop → Child → Act → Type 0
Decides l c a = (t : Tree) (f : Forest) → ChildIs t f c → a ≡ act_of l t f

-- the number of the next named argument, 0 in a loop that names none: so every loop begins
abbrev pub number_of : Loop → ℕ
number_of Plain = 0
number_of (Curly blank) = 0
number_of Spaced = 0
number_of (Attached a) = 0
number_of Greedy = 0
number_of Separated = 0
number_of Bracketed = 0
number_of Dollars = 0
number_of (Arguments dollars) = 0
number_of (Named n) = n
number_of Inside = 0
number_of Figure = 0
number_of (Table exterior) = 0
