-- `\includegraphics[width=0.5\textwidth]{example-image}`: options split at commas, then at `=`, all trimmed.
use Rattle.std.specs.Prelude.{◌||◌, cond, List, [], ◌∷◌, ◌++◌, ℕ, zero, suc, ◌-◌, length, take, eqb}
use Rattle.std.proofs.Math.Option.{Option}
use Rattle.std.proofs.Math.Option.Option.{none as nothing, some}
use Rattle.text.specs.Compare.{same, ends_with}
use Rattle.utf8.specs.Trim.{trim}
use Rattle.mitex_syntax.specs.Syntax.{ItemCurly, ItemBracket}
use Rattle.mitex_syntax.specs.Tree.{Tree, Forest, text_of}
use Rattle.mitex_syntax.specs.Views.{inner, argument_with}
use Rattle.mitex_meaning.specs.Texts.{quote, comma_space, colon_space, image_begin, image_end}
use Rattle.mitex_meaning.specs.Texts.{of_page, width_name, height_name, textwidth, textheight}

-- the parts of a text between the bytes b
abbrev pub extend : ℕ → List (List ℕ) → List (List ℕ)
extend x [] = (x ∷ []) ∷ []
extend x (p ∷ ps) = (x ∷ p) ∷ ps

unfoldable pub cut_at : ℕ → List ℕ → List (List ℕ)
cut_at b [] = [] ∷ []
cut_at b (x ∷ s) = cond (eqb x b) ([] ∷ cut_at b s) (extend x (cut_at b s))

-- an ending removed as often as it repeats
unfoldable pub stripped : ℕ → List ℕ → List ℕ → List ℕ
stripped zero p v = v
stripped (suc n) p v = cond (ends_with v p) (stripped n p (take (length v - length p) v)) v

abbrev pub without_end : List ℕ → List ℕ → List ℕ
without_end p v = stripped (length v) p v

abbrev pub comma_byte : ℕ
comma_byte = 44

abbrev pub equals_byte : ℕ
equals_byte = 61

-- a length: a share of the page, or as it stands
abbrev pub length_text : List ℕ → List ℕ
length_text v =
    cond (ends_with v textwidth) (without_end textwidth v ++ of_page)
    (cond (ends_with v textheight) (without_end textheight v ++ of_page)
    v)

abbrev pub key_of : List (List ℕ) → List ℕ
key_of [] = []
key_of (k ∷ ps) = trim k

-- exactly one `=` gives a value
abbrev pub value_of : List (List ℕ) → List ℕ
value_of [] = []
value_of (k ∷ []) = []
value_of (k ∷ v ∷ []) = trim v
value_of (k ∷ v ∷ w ∷ ps) = []

abbrev pub key_text : List ℕ → List ℕ → List ℕ
key_text key value =
    cond (same key width_name || same key height_name) (key ++ (colon_space ++ (length_text value ++ comma_space))) []

abbrev pub pair_text : List (List ℕ) → List ℕ
pair_text ps = key_text (key_of ps) (value_of ps)

abbrev pub option_text : List ℕ → List ℕ
option_text option = pair_text (cut_at equals_byte (trim option))

unfoldable pub options_text : List (List ℕ) → List ℕ
options_text [] = []
options_text (o ∷ os) = option_text o ++ options_text os

-- an argument's text without its ends, trimmed
abbrev pub inner_text : Option Tree → List ℕ
inner_text nothing = []
inner_text (some t) = trim (inner (text_of t))

abbrev pub option_argument : Option Tree → List ℕ
option_argument nothing = []
option_argument (some t) = options_text (cut_at comma_byte (trim (inner (text_of t))))

-- the first argument in brackets has the options, the first in braces the path
abbrev pub image : Forest → List ℕ
image f =
    image_begin
    ++ (option_argument (argument_with ItemBracket f) ++ (quote ++ (inner_text (argument_with ItemCurly f) ++ image_end)))
