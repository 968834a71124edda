-- What commands take of their children: a Greedy argument, a colour and its body.
use mathlib.Core.Path.{◌≡◌, sym, ap, subst, ◌∙◌}
use mathlib.Core.Option.{Option}
use mathlib.Core.List.{List, [], ◌++◌}
use Prim.Native.Nat.{ℕ, ◌+◌, ◌*◌, ◌-◌, ◌/◌, ◌≤◌, ◌<◌}
use native.Mathlib.Omega.{arith}
use lib.ListN.{length, take, drop, length-take, length-drop}
use Rattle.text.specs.Writing.{cap}
use Rattle.mitex_syntax.specs.Tree.{Tree, Forest, size, sizes}
use Rattle.mitex_syntax.specs.Tree.Forest.{none, more}
use Rattle.mitex_syntax.specs.Spells.{Spells, SpellsAll}
use Rattle.mitex_syntax.specs.Rows.{extent_of, token_sum, Spans}
use Rattle.mitex_syntax.specs.declared.Span.{Span}
use Rattle.mitex_syntax.proofs.Trees.{ElementAt, element, spans, rows-e, text-n, part-spells, past-exact, all-begins, size-more}
use Rattle.mitex_syntax.specs.Views.{offset_by}
use Rattle.mitex_meaning.specs.Outcome.{Context, Carry, Outcome, Conv, after, and_then, closing, shift, in_mode}
use Rattle.mitex_meaning.specs.Outcome.Outcome.{refused, done}
use Rattle.mitex_meaning.specs.Texts.{left_paren, right_paren, black, color_end}
use Rattle.mitex_meaning.specs.Children.{each}
use Rattle.mitex_meaning.specs.Colors.{colored, body_end}
use Rattle.mitex_meaning.specs.Commands.{is_argument, greedy_in, greedy_argument}
use Rattle.mitex_meaning.specs.Parts.{between, GreedyStands, GreedyFound}
use Rattle.mitex_meaning.specs.Parts.GreedyFound.{no_greedy, greedy_at}
use Rattle.mitex_meaning.specs.declared.LaTeXMode.TheVariants.{Text}
use Rattle.mitex_meaning.specs.declared.Loop.{Loop}
use Rattle.mitex_meaning.specs.declared.Loop.TheVariants.{Greedy}
use Rattle.std.specs.Prelude.{Option as Maybe, Some, None}
use Rattle.mitex_syntax.specs.declared.Spot.{Spot}
use Rattle.mitex_meaning.proofs.Outcomes.{and_then-closing, and_then-same, shift-shift}
use Rattle.mitex_meaning.proofs.Loops.{each-shift}
use Rattle.mitex.proofs.Walking.{rest-exact}
use Rattle.mitex.specs.Walks.{tail_at}

-- a part is no longer than the whole
pub between-short : (i e : ℕ) (l : List ℕ) → length (between i e l) ≤ length l
between-short i e l = simp (length-take, length-drop) (omega arith)

-- ---- a Greedy argument

pub greedy-refused :
    {f : Forest} {rows text : List ℕ} {r : Maybe Spot} → GreedyFound f rows text r → r ≡ None → (conv : Conv) (x : Context) (c : Carry)
    → greedy_argument conv x f c ≡ refused 12 0
greedy-refused {f} (no_greedy h) e conv x c = h (conv x) (1 + offset_by is_argument f) c
greedy-refused (greedy_at s) e conv x c = let z : ◌≡◌ {A = ℕ} 0 1 = ap found e in absurd (omega arith)
  where
    found : Maybe Spot → ℕ
    found None = 1
    found (Some p) = 0

-- the place that was found, of one that was
abbrev place_told : Spot → Maybe Spot → Spot
place_told q None = q
place_told q (Some p) = p

pub greedy-stands :
    {f : Forest} {rows text : List ℕ} {r : Maybe Spot} → GreedyFound f rows text r → (p : Spot) → r ≡ Some p → GreedyStands f rows text p
greedy-stands (no_greedy h) p e = let z : ◌≡◌ {A = ℕ} 1 0 = ap missing e in absurd (omega arith)
  where
    missing : Maybe Spot → ℕ
    missing None = 1
    missing (Some q) = 0
greedy-stands {f} {rows} {text} (greedy_at s) p e = subst (GreedyStands f rows text) (ap (place_told p) e) s

-- its children are walked between parens, from the row of their node on
pub greedy-is :
    {f : Forest} {rows text : List ℕ} {p : Spot} (s : GreedyStands f rows text p) (conv : Conv) (x : Context) (c : Carry)
    → greedy_argument conv x f c ≡ after left_paren (closing right_paren (shift (1 + p.row / 8) (each (conv x) 1 Greedy s.forest c)))
greedy-is {f} {p = p} s conv x c =
    let below : 1 + offset_by is_argument f ≡ 1 + p.row / 8 = omega (arith, s.row) in
    ap (λ (t : Option Tree). greedy_in (conv x) (1 + offset_by is_argument f) t c) s.is
    ∙ ap (λ (n : ℕ). after left_paren (closing right_paren (shift n (each (conv x) 1 Greedy s.forest c)))) below

-- ---- the first of some elements, and those behind it

pub record Halved (f : Forest) (rows text : List ℕ) (s : Span) : Type 0 where
  pub tree : Tree
  pub others : Forest
  pub is : f ≡ more tree others
  pub size_is : s.rows ≡ 8 * size tree
  pub low : s.rows ≤ length rows
  pub begun : s.text ≤ length text
  pub first : Spells tree (take s.rows rows) (take s.text text)
  pub behind : SpellsAll others (tail_at rows s.rows) (tail_at text s.text)
  pub fits : size tree + sizes others ≡ sizes f

module _ {f : Forest} {rows text : List ℕ} (sp : SpellsAll f rows text) (some : 0 < length rows) (few : length rows < cap)
    (short : length text < cap) where
  abbrev at_first : ElementAt f rows text 0 0
  at_first = element (all-begins sp) some (omega arith) few short

  -- what reading the first element's size asks
  pub part-spans : Spans rows 0
  part-spans = spans at_first few short

  pub halved : (s : Span) → s.rows ≡ extent_of (drop 0 rows) → s.text ≡ token_sum (take (extent_of (drop 0 rows)) (drop 0 rows)) → Halved f rows text s
  halved s is_e is_n =
      let x = at_first in
      let se = rows-e x s.rows s.text is_e is_n in
      let sn = text-n x s.rows s.text is_e is_n in
      let zr : 0 + s.rows ≡ s.rows = omega arith in
      let zt : 0 + s.text ≡ s.text = omega arith in
      let yr : 0 + s.rows - 0 ≡ s.rows = omega arith in
      let yt : 0 + s.text - 0 ≡ s.text = omega arith in
      record {
        tree = x.tree;
        others = x.others;
        is = x.is;
        size_is = se;
        low = omega (arith, x.end);
        begun = omega (arith, x.stop);
        first =
            subst (λ (n : ℕ). Spells x.tree (take n rows) (take s.text text)) yr
            (subst (λ (n : ℕ). Spells x.tree (take (0 + s.rows - 0) rows) (take n text)) yt (part-spells x s.rows s.text is_e is_n));
        behind =
            rest-exact rows text s.rows s.text
            (subst (λ (n : ℕ). SpellsAll x.others (drop n rows) (drop s.text text)) zr
            (subst (λ (n : ℕ). SpellsAll x.others (drop (0 + s.rows) rows) (drop n text)) zt (past-exact x s.rows s.text is_e is_n sp)));
        fits = sym (ap sizes x.is ∙ size-more x.tree x.others);
      }

-- ---- a colour and its body

-- neither of them
pub black-is :
    (conv : Conv) (x : Context) (l : Loop) (o : ℕ) {f : Forest} (c : Carry) → f ≡ none
    → colored conv x l o f c ≡ after (black ++ color_end) (closing (body_end x.mode) (done c []))
black-is conv x l o c e = ap (λ (g : Forest). colored conv x l o g c) e

-- the first element is the colour, and those behind it are the body: each is walked from the row before it on, of elements that stand n rows
-- further down
pub color-is :
    (conv : Conv) (x : Context) (l : Loop) (o n : ℕ) {f : Forest} {rows text : List ℕ} {s : Span} (c : Carry) (h : Halved f rows text s)
    → o ≡ 1 + n
    → colored conv x l o f c
    ≡ and_then (closing color_end (shift n (shift 1 (conv (in_mode Text x) h.tree c))))
    (λ c'. closing (body_end x.mode) (shift (n + s.rows / 8) (each (conv x) 1 l h.others c')))
color-is conv x l o n {f} {s = s} c h e =
    let t = h.tree in
    let g = h.others in
    let body : Carry → Outcome = λ c'. closing (body_end x.mode) (each (conv x) (o + size t) l g c') in
    let walk : Carry → Outcome = λ c'. closing (body_end x.mode) (shift (n + s.rows / 8) (each (conv x) 1 l g c')) in
    let above : o ≡ n + 1 = omega arith in
    let behind : o + size t ≡ (n + s.rows / 8) + 1 = omega (arith, h.size_is) in
    ap (λ (y : Forest). colored conv x l o y c) h.is
    ∙ sym (and_then-closing color_end (shift o (conv (in_mode Text x) t c)) body)
    ∙ ap (λ (y : Outcome). and_then (closing color_end y) body)
    (ap (λ (m : ℕ). shift m (conv (in_mode Text x) t c)) above ∙ sym (shift-shift n 1 (conv (in_mode Text x) t c)))
    ∙ and_then-same (closing color_end (shift n (shift 1 (conv (in_mode Text x) t c)))) body walk
    (λ c'. ap (closing (body_end x.mode))
    (ap (λ (m : ℕ). each (conv x) m l g c') behind ∙ each-shift (conv x) (n + s.rows / 8) 1 l g c'))
