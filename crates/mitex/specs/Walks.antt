-- What the functions of the walk ask, and what they promise: that their answers agree with the meaning of what they were given.
use Rattle.std.specs.Prelude.{ℕ, ◌+◌, ◌-◌, ◌≤◌, ◌≡◌, List, length, take, drop}
use Rattle.text.specs.Writing.{cap}
use Rattle.mitex_spec.specs.Rules.{Rule, get_cmd}
use Rattle.mitex_spec.specs.Index.{Ready}
use Rattle.mitex_syntax.specs.Tree.{Tree, Forest, size, sizes}
use Rattle.mitex_syntax.specs.Spells.{Spells, SpellsAll}
use Rattle.mitex_meaning.specs.Outcome.{Arm, shift, label_most}
use Rattle.mitex_meaning.specs.State.{context_of, carry_of}
use Rattle.mitex_meaning.specs.Contract.{place_of, Agrees}
use Rattle.mitex_meaning.specs.Children.{turn, each}
use Rattle.mitex_meaning.specs.Colors.{Model, with_model, color_alias}
use Rattle.mitex_meaning.specs.Conversion.{convert}
use Rattle.mitex_loops.specs.Given.{number_of}
use Rattle.mitex_colors.specs.Models.{ModelFound}
use Rattle.mitex_colors.specs.declared.ColorModel.{ColorModel}
use Rattle.mitex_meaning.specs.declared.Loop.{Loop}
use Rattle.mitex_meaning.specs.declared.Act.{Act}
use Rattle.mitex_meaning.specs.declared.Converter.{Converter}
use Rattle.mitex_meaning.specs.Contract.{Walked}

-- ---- what is asked

-- plain bounds: the indent and the held label. `slack` is 8 where the indent was not yet moved for the node of these elements: a list is
-- two further in and its children have a row less, so the indent and the rows together stay bounded.
pub record Room (slack : ℕ) (rows : List ℕ) (c : Converter) : Type 0 where
  pub deep : c.indent + slack + length rows ≤ cap
  pub label : c.label_len ≤ label_most

-- some elements side by side are spelt
pub record Siblings (rows text : List ℕ) : Type 0 where
  pub forest : Forest
  pub spells : SpellsAll forest rows text

-- what stands behind so many bytes
abbrev pub tail_at : List ℕ → ℕ → List ℕ
tail_at l n = take (length l - n) (drop n l)

-- a colour's model was found in the children, and the loop over its body counts from 0
pub record ColorGiven (rows text : List ℕ) (p : ColorModel) (l : Loop) : Type 0 where
  pub model : Model
  pub forest : Forest
  pub spells : SpellsAll forest rows text
  pub found : ModelFound model forest rows text p
  pub counts : number_of l ≡ 0

-- ---- what is promised: for whatever rules the file has, whatever elements are spelt, at every level that is high enough

-- the children of a node by a loop
abbrev pub looping : Loop → Arm
looping l conv x f c = each (conv x) 1 l f c

module _ (rules index rows text : List ℕ) (row : ℕ) (c : Converter) (at : ℕ) (out : List ℕ) (a : Walked) (out' : List ℕ) where
  -- of an element, by its own row
  abbrev pub ConvertsElement : Type 0
  ConvertsElement =
      (rs : List Rule) → Ready rules index rs → (t : Tree) → Spells t rows text → (d : ℕ) → size t ≤ d
      → Agrees a (place_of c) row at out out' (convert d (context_of rs c) t (carry_of c))

  -- of elements side by side, by the row right before the first of them and the arm that they are walked by
  abbrev pub Walks : Arm → Type 0
  Walks arm =
      (rs : List Rule) → Ready rules index rs → (f : Forest) → SpellsAll f rows text → (d : ℕ) → sizes f ≤ d
      → Agrees a (place_of c) row at out out' (arm (convert d) (context_of rs c) f (carry_of c))

  -- of one child in a loop, one row after `row`, by what the loop does with it
  abbrev pub Turns : Act → Type 0
  Turns act =
      (rs : List Rule) → Ready rules index rs → (t : Tree) → Spells t rows text → (d : ℕ) → size t ≤ d
      → Agrees a (place_of c) row at out out' (shift 1 (turn (convert d (context_of rs c)) act t (carry_of c)))

  -- of a colour command, by its model and the loop over its body
  abbrev pub Colors : List ℕ → ColorModel → Loop → Type 0
  Colors name p l =
      (rs : List Rule) → Ready rules index rs → (m : Model) (f : Forest) → SpellsAll f rows text → ModelFound m f rows text p → (d : ℕ)
      → sizes f ≤ d
      → Agrees a (place_of c) row at out out' (with_model (convert d) (context_of rs c) (color_alias (get_cmd rs name)) l m (carry_of c))
