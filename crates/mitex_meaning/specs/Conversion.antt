-- What an element means, by levels: a level goes by the one below at the elements below. An element of n rows needs n levels.
use Rattle.std.specs.Prelude.{true, false, cond, List, [], ℕ, zero, suc, eqb}
use Rattle.mitex_spec.specs.Rules.{Rule}
use Rattle.mitex_syntax.specs.Syntax.{TokenError, ItemLR, ClauseArgument, ScopeRoot, ItemText, ItemBracket, ItemParen, ItemFormula, ItemCurly}
use Rattle.mitex_syntax.specs.Syntax.{ClauseLR, ItemAttachComponent, ItemBegin, ItemEnd, ItemBlockComment, ItemCmd, ItemEnv, ItemTypstCode}
use Rattle.mitex_syntax.specs.Tree.{Forest, texts_of}
use Rattle.mitex_syntax.specs.Tree.Tree.{token, node}
use Rattle.mitex_meaning.specs.Outcome.{Context, Carry, Outcome, Conv, Arm, flagged}
use Rattle.mitex_meaning.specs.Outcome.Label.{unheld}
use Rattle.mitex_meaning.specs.Outcome.Outcome.{refused, done}
use Rattle.mitex_meaning.specs.Tokens.{token_out}
use Rattle.mitex_meaning.specs.Children.{each}
use Rattle.mitex_meaning.specs.Groups.{children, formula, curly_group, clause_lr, attach_component}
use Rattle.mitex_meaning.specs.Commands.{command}
use Rattle.mitex_meaning.specs.Environments.{environment}
use Rattle.mitex_meaning.specs.declared.Element.{Element}
use Rattle.mitex_meaning.specs.declared.Element.TheVariants.{Children, Formula, CurlyGroup, ClauseLr, AttachComponent, Silent, Command, Environment, TypstCode, Unexpected, Token}
use Rattle.mitex_meaning.specs.declared.LaTeXMode.{LaTeXMode}
use Rattle.mitex_meaning.specs.declared.LaTeXEnv.TheVariants.{None}
use Rattle.mitex_meaning.specs.declared.Loop.TheVariants.{Plain}

-- ---- the arms of the Rust's match, in its order

abbrev pub element_of : ℕ → Element
element_of k =
    cond (eqb k TokenError) Unexpected
    (cond (eqb k ItemLR) Children
    (cond (eqb k ClauseArgument) Children
    (cond (eqb k ScopeRoot) Children
    (cond (eqb k ItemText) Children
    (cond (eqb k ItemBracket) Children
    (cond (eqb k ItemParen) Children
    (cond (eqb k ItemFormula) Formula
    (cond (eqb k ItemCurly) CurlyGroup
    (cond (eqb k ClauseLR) ClauseLr
    (cond (eqb k ItemAttachComponent) AttachComponent
    (cond (eqb k ItemBegin) Unexpected
    (cond (eqb k ItemEnd) Unexpected
    (cond (eqb k ItemBlockComment) Silent
    (cond (eqb k ItemCmd) Command
    (cond (eqb k ItemEnv) Environment
    (cond (eqb k ItemTypstCode) TypstCode
    Token))))))))))))))))

-- what a node means; a token's kind names no node
abbrev pub arm_by : Element → Arm
arm_by Unexpected conv x f c = refused 7 0
arm_by Children conv x f c = children conv x f c
arm_by Formula conv x f c = formula conv x f c
arm_by CurlyGroup conv x f c = curly_group conv x f c
arm_by ClauseLr conv x f c = clause_lr conv x f c
arm_by AttachComponent conv x f c = attach_component conv x f c
arm_by Silent conv x f c = done c []
arm_by Command conv x f c = command conv x f c
arm_by Environment conv x f c = environment conv x f c
arm_by TypstCode conv x f c = done c (texts_of f)
arm_by Token conv x f c = refused 7 0

-- a node clears the flag first
unfoldable pub step : Conv → Conv
step conv x (token k s) c = token_out x k s c
step conv x (node k f) c = arm_by (element_of k) conv x f (flagged false c)

unfoldable pub convert : ℕ → Conv
convert zero x t c = refused 7 0
convert (suc d) x t c = step (convert d) x t c

-- more levels than a tree file has rows
abbrev pub levels : ℕ
levels = 8192

-- the context at first
abbrev pub start_context : List Rule → LaTeXMode → Context
start_context rules m = record { rules = rules; mode = m; env = None; indent = 0 }

-- the carry of `Converter::new`, and the one that the root leaves for its first block, since every element but white space
-- clears the flag
abbrev pub new_carry : Carry
new_carry = record { flag = true; label = unheld }

abbrev pub start_carry : Carry
start_carry = record { flag = false; label = unheld }

-- the blocks one after the other, the first of them at row 1
abbrev pub blocks_from : List Rule → LaTeXMode → ℕ → Forest → Carry → Outcome
blocks_from rules m o f c = each (convert levels (start_context rules m)) o Plain f c
