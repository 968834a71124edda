-- A colour's model: what is written for it, and where the elements after it stand.
use Rattle.std.specs.Prelude.{◌≡◌, [], List, ℕ, ◌+◌, ◌*◌, ◌≤◌, Option, Some, None}
use Rattle.std.specs.Borrow.{Bor}
use Rattle.text.specs.Slices.{PartOf}
use Rattle.mitex_spec.specs.Rules.{get_cmd}
use Rattle.mitex_syntax.specs.Tree.{Forest, sizes}
use Rattle.mitex_syntax.specs.Spells.{SpellsAll}
use Rattle.mitex_meaning.specs.Outcome.{Context, Carry, Conv}
use Rattle.mitex_meaning.specs.Texts.{no_model}
use Rattle.mitex_meaning.specs.Colors.{Rest, Model, in_model, with_model, color_alias, body_loop}
use Rattle.mitex_meaning.specs.Commands.{color}
use Rattle.mitex_meaning.specs.Parts.{part_rows, part_text, LiesIn}
use Rattle.mitex_colors.specs.declared.ColorModel.{ColorModel}
use Rattle.mitex_colors.specs.Scanning.{ScanMoved}

-- what is written for a model, or for none
abbrev pub model_text : Option (Bor (List ℕ)) → List ℕ
model_text None = no_model
model_text (Some s) = in_model s.now

-- a model is a part of the text
abbrev pub ModelIn : Option (Bor (List ℕ)) → List ℕ → Type 0
ModelIn None text = Unit {0}
ModelIn (Some s) text = PartOf s.now text

-- from r, with these rows and this text, a scan has gone past a model
pub record ModelPassed (m : Model) (r : Rest) (rows text : List ℕ) (s : Option (Bor (List ℕ))) (rows' text' : List ℕ) : Type 0 where
  pub text_is : m.text ≡ model_text s
  pub part : ModelIn s text
  pub over_rows : List ℕ
  pub over_text : List ℕ
  pub moved : ScanMoved rows text [] r m.behind over_rows over_text rows' text'

-- a model was found, and the elements after it
pub record ModelFound (m : Model) (f : Forest) (rows text : List ℕ) (p : ColorModel) : Type 0 where
  pub text_is : m.text ≡ model_text p.text
  pub part : ModelIn p.text text
  pub spells : SpellsAll m.behind.elements (part_rows p.rest rows) (part_text p.rest text)
  pub inside : LiesIn rows text p.rest
  pub row : 8 * m.behind.rows ≡ 8 + p.rest.row
  pub fits : sizes m.behind.elements ≤ sizes f

-- a model was found by which `\color` means what it does. Where the command has no argument, nothing follows the model, and the row of
-- nothing is free.
pub record ColorFound (f : Forest) (rows text : List ℕ) (p : ColorModel) : Type 0 where
  pub model : Model
  pub found : ModelFound model f rows text p
  pub same :
      (name : List ℕ) (conv : Conv) (x : Context) (c : Carry)
      → color name conv x f c ≡ with_model conv x (color_alias (get_cmd x.rules name)) (body_loop x.mode) model c
