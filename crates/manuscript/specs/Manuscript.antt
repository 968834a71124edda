-- The converter of blocks that the calls stand on, for a mode and a rule file: refusals 1 to 5 of the files, and the meaning
-- of a conversion.
use Rattle.std.specs.Prelude.{List, [], ◌∷◌, ℕ, zero, suc}
use Rattle.std.proofs.Math.Option.{Option}
use Rattle.std.proofs.Math.Option.Option.{none as nothing, some}
use Rattle.mitex_spec.specs.Rules.{Rule}
use Rattle.mitex_spec.specs.RuleFile.{rules_of}
use Rattle.mitex_syntax.specs.Tree.{Tree, Forest, size}
use Rattle.mitex_syntax.specs.Tree.Forest.{none, more}
use Rattle.tree_file.specs.Check.{Verdict, check_tree, blocks_of}
use Rattle.tree_file.specs.Check.Verdict.{refused, accepted}
use Rattle.mitex_meaning.specs.Outcome.{Carry, Outcome}
use Rattle.mitex_meaning.specs.Outcome.Outcome.{refused as stop, done}
use Rattle.mitex_meaning.specs.Conversion.{convert, levels, start_context}
use Rattle.mitex_meaning.specs.declared.LaTeXMode.{LaTeXMode}
use Rattle.mitex_meaning.specs.declared.LaTeXMode.TheVariants.{Text, Math}
use Rattle.ledger.specs.Ledger.{written}
use Rattle.edit_meaning.specs.Walk.{CheckedFile, BlockConverter, Walk, carry_after}
use Rattle.edit_meaning.specs.Walk.CheckedFile.{bad, good}
use Rattle.edit_meaning.specs.Walk.Walk.{stopped, pieces}

-- 0 is Text and 1 is Math
abbrev pub mode_of : ℕ → Option LaTeXMode
mode_of zero = some Text
mode_of (suc zero) = some Math
mode_of (suc (suc n)) = nothing

-- the blocks of a document, one after the other
abbrev pub listed : Forest → List Tree
listed none = []
listed (more t f) = t ∷ listed f

-- refusals 3, 4 and 5
abbrev pub by_tree : Verdict → CheckedFile Tree
by_tree (refused n row) = bad n row
by_tree (accepted t) = good (listed (blocks_of t))

-- refusal 2 before them, and 1 before it
abbrev pub by_rules : Option (List Rule) → List ℕ → CheckedFile Tree
by_rules nothing tree = bad 2 0
by_rules (some rules) tree = by_tree (check_tree tree)

abbrev pub by_mode : Option LaTeXMode → Option (List Rule) → List ℕ → CheckedFile Tree
by_mode nothing rules tree = bad 1 0
by_mode (some m) rules tree = by_rules rules tree

-- the rules and the mode that are left; where there are none, nothing is converted
abbrev pub rules_left : Option (List Rule) → List Rule
rules_left nothing = []
rules_left (some rules) = rules

abbrev pub mode_left : Option LaTeXMode → LaTeXMode
mode_left nothing = Text
mode_left (some m) = m

abbrev pub block : LaTeXMode → List Rule → Carry → Tree → Outcome
block m rules c t = convert levels (start_context rules m) t c

abbrev pub manuscript_in : Option LaTeXMode → Option (List Rule) → BlockConverter
manuscript_in mode rules =
    record { Block = Tree; check = by_mode mode rules; convert = block (mode_left mode) (rules_left rules); rows = size }

abbrev pub manuscript : ℕ → List ℕ → BlockConverter
manuscript mode file = manuscript_in (mode_of mode) (rules_of file)

-- past refusals 1 and 2
abbrev pub blocks_in : LaTeXMode → List Rule → BlockConverter
blocks_in m rules = manuscript_in (some m) (some rules)

-- pieces put together: the text of all, and the carry after the last
abbrev pub together : Carry → Walk → Outcome
together c (stopped n row) = stop n row
together c (pieces ps) = done (carry_after c ps) (written ps)
