-- Worked examples, which antt computes: trees and the answers to their files, then files that break the layout.
use Rattle.std.specs.Prelude.{◌≡◌, refl, ℕ, zero, suc, List, [], ◌∷◌, ◌++◌, map, replicate}
use Rattle.text.specs.Ascii.{ascii}
use Rattle.text.specs.Compare.{same}
use Rattle.text.specs.Numbers.{four}
use Rattle.utf8.specs.Utf8.{char_steps, valid}
use Rattle.mitex_syntax.specs.Syntax.{ClauseArgument, ScopeRoot, ItemBracket, ItemCurly, ClauseLR, ClauseCommandName}
use Rattle.mitex_syntax.specs.Syntax.{ItemBegin, ItemEnd, TokenWord, ItemBlockComment, TokenCommandSym, ItemCmd, ItemEnv}
use Rattle.mitex_syntax.specs.Tree.{Tree, Forest, size, rows_of, text_of, file_of, count}
use Rattle.mitex_syntax.specs.Tree.Tree.{token, node}
use Rattle.mitex_syntax.specs.Tree.Forest.{none, more}
use Rattle.mitex_syntax.specs.Views.{first_by, first_token}
use Rattle.tree_file.specs.Layout.{tree_row_at, lines, grow, split, decode}
use Rattle.tree_file.specs.Depth.{depth}
use Rattle.tree_file.specs.Shape.{lowest}
use Rattle.tree_file.specs.Check.{check_tree, Checked, refuses, accepted_as, checked_answer}
use Rattle.tree_file.specs.Check.Verdict.{accepted}

-- ---- trees

abbrev one : Tree → Forest
one t = more t none

abbrev word_of : List ℕ → Tree
word_of s = token TokenWord s

abbrev symbol_of : List ℕ → Tree
symbol_of s = token TokenCommandSym s

abbrev command_over : List ℕ → Forest → Tree
command_over name f = node ItemCmd (more (token ClauseCommandName name) f)

abbrev argument_over : Forest → Tree
argument_over f = node ClauseArgument f

-- an argument that is a group with this text
abbrev group : ℕ → List ℕ → Tree
group k s = argument_over (one (node k (one (word_of s))))

-- a word, and the element after it as row 2
abbrev doc : Tree → Tree
doc t = node ScopeRoot (more (word_of (ascii "ab")) (one t))

abbrev nest : ℕ → Tree → Tree
nest zero t = t
nest (suc n) t = nest n (node ItemCurly (one t))

abbrev checked : Tree → Checked
checked t = checked_answer (check_tree (file_of t))

doc-decoded : check_tree (file_of (doc (word_of (ascii "c")))) ≡ accepted (doc (word_of (ascii "c")))
unfolding check_tree decode file_of rows_of text_of size lines tree_row_at grow split valid char_steps count depth lowest
doc-decoded = refl

-- a ClauseLR, symbols, commands and environments
shapes :
    map checked (
    doc (node ClauseLR (one (word_of (ascii "\\left"))))
    ∷ doc (node ClauseLR (one (word_of (ascii "ab"))))
    ∷ doc (node ClauseLR (one (node ItemCurly none)))
    ∷ doc (node ClauseLR none)
    ∷ doc (symbol_of (ascii "\\alpha"))
    ∷ doc (symbol_of (ascii "alpha"))
    ∷ doc (node ItemBegin (one (symbol_of (ascii "alpha"))))
    ∷ doc (node ItemEnd (one (symbol_of (ascii "alpha"))))
    ∷ doc (node ItemBegin (one (argument_over (one (symbol_of (ascii "alpha"))))))
    ∷ doc (node ItemCmd (one (word_of (ascii "ab"))))
    ∷ doc (command_over (ascii "x") none)
    ∷ doc (command_over (ascii "\\x") (one (token ClauseCommandName (ascii "y"))))
    ∷ doc (node ItemEnv (one (node ItemBegin (one (symbol_of (ascii "a"))))))
    ∷ doc (node ItemEnv (one (node ItemBegin (one (node ItemCurly (one (symbol_of (ascii "\\a"))))))))
    ∷ doc (node ItemEnv (one (node ItemBegin (more (node ItemCurly none) (one (symbol_of (ascii "a")))))))
    ∷ doc (node ItemEnv (one (word_of (ascii "ab"))))
    ∷ []
    )
    ≡ (
    accepted_as 7 4 2
    ∷ refuses 5 2
    ∷ refuses 5 2
    ∷ refuses 5 2
    ∷ accepted_as 8 3 2
    ∷ refuses 5 2
    ∷ accepted_as 7 4 2
    ∷ accepted_as 7 4 2
    ∷ refuses 5 4
    ∷ refuses 5 2
    ∷ refuses 5 2
    ∷ accepted_as 5 5 2
    ∷ accepted_as 3 5 2
    ∷ accepted_as 4 6 2
    ∷ refuses 5 2
    ∷ refuses 5 2
    ∷ []
    )
unfolding check_tree decode file_of rows_of text_of size lines tree_row_at grow split valid char_steps count depth lowest first_by first_token same
shapes = refl

-- the arguments of `\label`, `\includegraphics` and `\color`
arguments-fit :
    map (λ t. checked (doc t)) (
    command_over (ascii "\\label") none
    ∷ command_over (ascii "\\label") (one (argument_over (one (word_of (ascii "a")))))
    ∷ command_over (ascii "\\label") (one (argument_over (one (word_of (ascii "{e}")))))
    ∷ command_over (ascii "\\label") (one (argument_over (one (word_of (123 ∷ 101 ∷ 195 ∷ 169 ∷ [])))))
    ∷ node ItemBlockComment (one (command_over (ascii "\\label") none))
    ∷ command_over (ascii "\\includegraphics") (one (group ItemCurly (ascii "{f}")))
    ∷ command_over (ascii "\\includegraphics") (more (group ItemBracket (ascii "[]")) (one (group ItemCurly (ascii "{f}"))))
    ∷ command_over (ascii "\\includegraphics") (more (group ItemBracket (ascii "[")) (one (group ItemCurly (ascii "{f}"))))
    ∷ command_over (ascii "\\includegraphics") (more (group ItemCurly (ascii "{f}")) (one (group ItemCurly (ascii "{"))))
    ∷ command_over (ascii "\\includegraphics") (more (group ItemCurly (ascii "{f}")) (one (argument_over (one (word_of (ascii "ab"))))))
    ∷ command_over (ascii "\\includegraphics") (one (group ItemBracket (ascii "[w]")))
    ∷ command_over (ascii "\\color") none
    ∷ command_over (ascii "\\color") (one (argument_over none))
    ∷ command_over (ascii "\\textcolor") none
    ∷ []
    )
    ≡ (
    refuses 5 2
    ∷ refuses 5 2
    ∷ accepted_as 11 6 2
    ∷ refuses 5 2
    ∷ refuses 5 3
    ∷ accepted_as 21 7 2
    ∷ accepted_as 23 10 2
    ∷ refuses 5 2
    ∷ accepted_as 22 10 2
    ∷ refuses 5 2
    ∷ refuses 5 2
    ∷ refuses 5 2
    ∷ accepted_as 8 5 2
    ∷ accepted_as 12 4 2
    ∷ []
    )
unfolding check_tree decode file_of rows_of text_of size lines tree_row_at grow split valid char_steps count depth lowest first_by first_token same
arguments-fit = refl

-- ---- bytes

abbrev tree_row : ℕ → ℕ → ℕ → List ℕ
tree_row k mark n = k ∷ mark ∷ 0 ∷ 0 ∷ four n []

abbrev file_of_tree : List ℕ → List ℕ → ℕ → ℕ → List ℕ
file_of_tree text rows start count = text ++ (rows ++ four start (four count []))

-- the root over n rows, then a row and what follows it; `a` is the text
abbrev root_over : ℕ → List ℕ → ℕ → List ℕ
root_over n rows count = file_of_tree (ascii "a") (tree_row ScopeRoot 0 n ++ rows) 1 count

files-fit :
    map (λ b. checked_answer (check_tree b)) (
    root_over 1 (tree_row TokenWord 1 1) 2
    ∷ file_of_tree [] (tree_row ScopeRoot 0 0) 0 1
    ∷ root_over 3 (tree_row ItemCurly 0 2 ++ (tree_row ItemCurly 0 0 ++ tree_row TokenWord 1 1)) 4
    ∷ []
    )
    ≡ (accepted_as 1 2 1 ∷ accepted_as 0 1 0 ∷ accepted_as 1 4 1 ∷ [])
unfolding check_tree decode rows_of text_of size lines tree_row_at grow split valid char_steps count depth lowest
files-fit = refl

-- no trailer or no rows; a root that is none, or not over all rows; text left over; a wrong count; kinds, marks and zero bytes; a
-- token without text; a child that ends after its parent; no UTF-8
files-break :
    map (λ b. checked_answer (check_tree b)) (
    []
    ∷ file_of_tree [] [] 0 0
    ∷ file_of_tree [] (tree_row ItemCurly 0 0) 0 1
    ∷ file_of_tree [] (tree_row ScopeRoot 0 0 ++ tree_row ItemCurly 0 0) 0 2
    ∷ file_of_tree (ascii "a") (tree_row ScopeRoot 0 0) 1 1
    ∷ root_over 1 (tree_row TokenWord 1 1) 3
    ∷ root_over 0 (tree_row TokenWord 1 1) 2
    ∷ root_over 2 (tree_row TokenWord 1 1) 2
    ∷ root_over 1 (tree_row TokenWord 1 2) 2
    ∷ root_over 1 (tree_row TokenWord 0 0) 2
    ∷ root_over 1 (tree_row TokenWord 2 1) 2
    ∷ root_over 1 (tree_row ItemCurly 1 1) 2
    ∷ root_over 1 (tree_row 0 1 1) 2
    ∷ root_over 1 (tree_row 46 1 1) 2
    ∷ root_over 1 (15 ∷ 1 ∷ 1 ∷ 0 ∷ four 1 []) 2
    ∷ root_over 1 (15 ∷ 1 ∷ 0 ∷ 1 ∷ four 1 []) 2
    ∷ root_over 2 (tree_row TokenWord 1 1 ++ tree_row TokenWord 1 0) 3
    ∷ root_over 3 (tree_row ItemCurly 0 1 ++ (tree_row ItemCurly 0 1 ++ tree_row TokenWord 1 1)) 4
    ∷ file_of_tree (130 ∷ []) (tree_row ScopeRoot 0 1 ++ tree_row TokenWord 1 1) 1 2
    ∷ []
    )
    ≡ replicate 19 (refuses 3 0)
unfolding check_tree decode rows_of text_of size lines tree_row_at grow split valid char_steps count depth lowest
files-break = refl

-- ---- limits

abbrev flat : ℕ → Forest
flat zero = none
flat (suc n) = more (word_of (ascii "a")) (flat n)

limits :
    map checked (
    doc (nest 62 (word_of (ascii "a"))) ∷ doc (nest 63 (word_of (ascii "a"))) ∷ node ScopeRoot (flat 512) ∷ node ScopeRoot (flat 513) ∷ []
    )
    ≡ (accepted_as 3 65 2 ∷ refuses 4 0 ∷ accepted_as 512 513 512 ∷ refuses 3 0 ∷ [])
unfolding check_tree decode file_of rows_of text_of size lines tree_row_at grow split valid char_steps count depth lowest
limits = refl
