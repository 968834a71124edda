-- Runs of elements that a walk may go over without a call for each: a node that only clears the flag, whose children come next, and
-- children that a loop converts one after the other with nothing around them.
use Rattle.std.specs.Prelude.{Bool, true, false, ◌&&◌, ◌||◌, not, ℕ, eqb}
use Rattle.mitex_syntax.specs.Syntax.{ItemLR, ClauseArgument, ScopeRoot, ItemText, ItemBracket, ItemParen, ItemCurly, ItemAttachComponent}
use Rattle.mitex_syntax.specs.Syntax.{ItemCmd, TokenAmpersand, ItemNewLine}
use Rattle.mitex_syntax.specs.Tree.{Forest, kind_of}
use Rattle.mitex_syntax.specs.Tree.Forest.{none, more}
use Rattle.mitex_meaning.specs.Children.{is_blank, is_ends}
use Rattle.mitex_meaning.specs.declared.LaTeXMode.{LaTeXMode}
use Rattle.mitex_meaning.specs.declared.LaTeXMode.TheVariants.{Text, Math}
use Rattle.mitex_meaning.specs.declared.Attach.TheVariants.{Bare, Based, Split}
use Rattle.mitex_meaning.specs.declared.Loop.{Loop}
use Rattle.mitex_meaning.specs.declared.Loop.TheVariants.{Plain, Curly, Spaced, Attached, Greedy, Separated, Bracketed, Dollars, Arguments, Named, Inside, Figure, Table}

-- elements, and further ones behind them
unfoldable pub beside : Forest → Forest → Forest
beside none g = g
beside (more t f) g = more t (beside f g)

-- ---- nodes

-- a node of this kind means its children, in every mode
abbrev pub is_children : ℕ → Bool
is_children k =
    eqb k ItemLR || (eqb k ClauseArgument || (eqb k ScopeRoot || (eqb k ItemText || (eqb k ItemBracket || eqb k ItemParen))))

-- in Text a curly group and an attachment do, too
abbrev pub is_flat : LaTeXMode → ℕ → Bool
is_flat Text k = is_children k || (eqb k ItemCurly || eqb k ItemAttachComponent)
is_flat Math k = is_children k

-- ---- loops

-- by its kind alone a child is converted with nothing around it, and the loop stays as it is
abbrev pub is_steady : Loop → ℕ → Bool
is_steady Plain k = true
is_steady (Curly blank) k = false
is_steady Spaced k = false
is_steady (Attached Bare) k = false
is_steady (Attached Based) k = false
is_steady (Attached Split) k = true
is_steady Greedy k = not (eqb k ItemCurly)
is_steady Separated k = false
is_steady Bracketed k = false
is_steady Dollars k = false
is_steady (Arguments dollars) k = false
is_steady (Named n) k = false
is_steady Inside k = not (is_ends k)
is_steady Figure k = not (is_ends k || eqb k ItemCmd)
is_steady (Table true) k = false
is_steady (Table false) k = not (is_ends k || (eqb k TokenAmpersand || eqb k ItemNewLine))

unfoldable pub all_steady : Loop → Forest → Bool
all_steady l none = true
all_steady l (more t f) = is_steady l (kind_of t) && all_steady l f

-- nothing in a curly group but white space, line breaks and braces
unfoldable pub all_blank : Forest → Bool
all_blank none = true
all_blank (more t f) = is_blank (kind_of t) && all_blank f
