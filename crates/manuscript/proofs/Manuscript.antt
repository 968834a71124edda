-- What the theorem over lists of changes asks of a converter of blocks holds of this one (`keeps-short`, `numbered`); past the checks a
-- call goes by the blocks (`opened-as`); and the blocks one after the other are the document (`walk-blocks`, `walk-root`).
use mathlib.Core.Path.{◌≡◌, refl, sym, ap, subst, ◌∙◌}
use mathlib.Core.Bool.{Bool, true, false, ◌&&◌, cond}
use mathlib.Core.List.{List}
use mathlib.Core.Option.{Option}
use mathlib.Core.Option.Option.{none as nothing, some}
use Prim.Native.Nat.{ℕ, ◌+◌, ◌≤◌}
use native.Mathlib.Omega.{arith}
use lib.ListN.{length}
use lib.Dec.{T, leb, leb→le}
use Rattle.mitex_spec.specs.Rules.{Rule}
use Rattle.mitex_spec.specs.RuleFile.{rules_of}
use Rattle.mitex_syntax.specs.Tree.{Tree, Forest, size, count}
use Rattle.mitex_syntax.specs.Tree.Tree.{node}
use Rattle.mitex_syntax.specs.Tree.Forest.{none, more}
use Rattle.mitex_syntax.specs.Syntax.{ScopeRoot}
use Rattle.tree_file.specs.Layout.{decode}
use Rattle.tree_file.specs.Depth.{depth, depth_most}
use Rattle.tree_file.specs.Shape.{lowest}
use Rattle.tree_file.specs.Check.{by_shape, by_depth, check_tree, blocks_of}
use Rattle.tree_file.specs.Check.Verdict.{refused, accepted}
use Rattle.mitex_meaning.specs.Outcome.{Carry, Outcome, after, and_then, shift}
use Rattle.mitex_meaning.specs.Outcome.Outcome.{refused as stop, done}
use Rattle.mitex_meaning.specs.Conversion.{convert, levels, start_context, new_carry, start_carry, blocks_from}
use Rattle.mitex_meaning.specs.Keeping.{is_walk_number}
use Rattle.mitex_meaning.specs.declared.LaTeXMode.{LaTeXMode}
use Rattle.mitex_meaning.proofs.Blocks.{plain-none, plain_more, root-blocks}
use Rattle.mitex_meaning.proofs.Outcomes.{and_then-same}
use Rattle.mitex_meaning.proofs.Keeping as Keeping
use Rattle.edit_meaning.specs.Walk.{CheckedFile, BlockConverter, KeepsShort, RefusalNumbers, Walk, onto, next, walk}
use Rattle.edit_meaning.specs.Walk.CheckedFile.{bad, good}
use Rattle.edit_meaning.specs.Walk.Walk.{stopped, pieces}
use Rattle.manuscript.specs.Manuscript.{mode_of, listed, by_tree, by_rules, by_mode, rules_left, mode_left, block, manuscript_in, manuscript, blocks_in, together}

-- as many blocks in the list as in the document
pub listed-count : (f : Forest) → length (listed f) ≡ count f
unfolding count
listed-count none = refl
listed-count (more t f) = omega (arith, listed-count f)

-- ---- numbers and labels

-- the numbers of a check that refuses
abbrev CheckNumber : ℕ → Type 0
CheckNumber n = (1 ≤ n) × (n ≤ 5)

abbrev CheckIn : CheckedFile Tree → Type 0
CheckIn (bad n row) = CheckNumber n
CheckIn (good bs) = Unit {0}

shape-in : (t : Tree) (o : Option ℕ) → CheckIn (by_tree (by_shape t o))
shape-in t (some row) = (omega arith, omega arith)
shape-in t nothing = tt

deep_in : (b : Bool) (t : Tree) (o : Option ℕ) → CheckIn (by_tree (cond b (by_shape t o) (refused 4 0)))
deep_in true t o = shape-in t o
deep_in false t o = (omega arith, omega arith)

tree-in : (o : Option Tree) → CheckIn (by_tree (by_depth o))
tree-in nothing = (omega arith, omega arith)
tree-in (some t) = deep_in (leb (depth t) depth_most) t (lowest 0 0 t)

rules-in : (o : Option (List Rule)) (tree : List ℕ) → CheckIn (by_rules o tree)
unfolding check_tree
rules-in nothing tree = (omega arith, omega arith)
rules-in (some rules) tree = tree-in (decode tree)

mode-in : (o : Option LaTeXMode) (rules : Option (List Rule)) (tree : List ℕ) → CheckIn (by_mode o rules tree)
mode-in nothing rules tree = (omega arith, omega arith)
mode-in (some m) rules tree = rules-in rules tree

of-bad : (r : CheckedFile Tree) (n row : ℕ) → r ≡ bad n row → CheckIn r → CheckNumber n
of-bad r n row e h = subst CheckIn e h

-- and of a walk
T-both : (a b : Bool) → T (a && b) → T a × T b
T-both true b h = (tt, h)
T-both false b h = elim h [ ]

walk-number : (n : ℕ) → T (is_walk_number n) → (7 ≤ n) × (n ≤ 14)
walk-number n h = let b = T-both (leb 7 n) (leb n 14) h in (leb→le 7 n b.0, leb→le n 14 b.1)

-- past refusals 1 to 5, whatever goes by the checked tree goes by its blocks, with the mode and the rules that are there
pub opened-as :
    (mode : ℕ) (rules tree : List ℕ) {m : LaTeXMode} {rs : List Rule} {t : Tree} → mode_of mode ≡ some m → rules_of rules ≡ some rs
    → check_tree tree ≡ accepted t → {A : Type 0} (call : (𝓒 : BlockConverter) → CheckedFile 𝓒.Block → A)
    → call (manuscript mode rules) ((manuscript mode rules).check tree) ≡ call (blocks_in m rs) (good (listed (blocks_of t)))
opened-as mode rules tree {m} {rs} {t} in_mode in-rules is call =
    ap (λ x. call (manuscript_in x (rules_of rules)) (by_mode x (rules_of rules) tree)) in_mode
    ∙ ap (λ x. call (manuscript_in (some m) x) (by_rules x tree)) in-rules
    ∙ ap (λ v. call (blocks_in m rs) (by_tree v)) is

module _ (mode : Option LaTeXMode) (rules : Option (List Rule)) where
  pub numbered : RefusalNumbers (manuscript_in mode rules)
  numbered =
      record {
        checked = λ tree n row e. of-bad (by_mode mode rules tree) n row e (mode-in mode rules tree);
        block = λ c t n row e. walk-number n (Keeping.keeps-number _ _ t c n row e);
      }

  pub keeps-short : KeepsShort (manuscript_in mode rules)
  keeps-short c c' t w h e = Keeping.keeps-short _ _ t c c' w e h

  -- ---- the blocks one after the other are the document

  next-together :
      (o : Outcome) (c : Carry) (r : ℕ) (k : Carry → Walk) → together c (next o r k) ≡ and_then (shift r o) (λ c'. together c' (k c'))
  next-together (stop n row) c r k = refl
  next-together (done c' w) c r k = go (k c')
    where
      go : (q : Walk) → together c (onto (record { text = w; after = c' }) q) ≡ after w (together c' q)
      go (stopped n row) = refl
      go (pieces ps) = refl

  -- what Convert writes is the meaning of the whole document, from the state past its root
  pub walk-blocks :
      (f : Forest) (r : ℕ) (c : Carry) → together c (walk (manuscript_in mode rules) c r (listed f))
      ≡ blocks_from (rules_left rules) (mode_left mode) r f c
  unfolding walk
  walk-blocks none r c = sym (plain-none _ r c)
  walk-blocks (more t f) r c =
      next-together (block (mode_left mode) (rules_left rules) c t) c r (λ c'. walk (manuscript_in mode rules) c' (r + size t) (listed f))
      ∙ and_then-same (shift r (block (mode_left mode) (rules_left rules) c t)) _ _ (λ c'. walk-blocks f (r + size t) c')
      ∙ sym (plain_more _ r t f c)

  -- and so of the root from a new converter
  pub walk-root :
      (f : Forest) → size (node ScopeRoot f) ≤ levels → together start_carry (walk (manuscript_in mode rules) start_carry 1 (listed f))
      ≡ convert levels (start_context (rules_left rules) (mode_left mode)) (node ScopeRoot f) new_carry
  walk-root f h = walk-blocks f 1 start_carry ∙ sym (root-blocks (rules_left rules) (mode_left mode) f h)
