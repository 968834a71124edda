-- Laws of the walk's loops over elements side by side. `Stands` has the numbers of a loop, `Left` its meaning: whoever agrees with what is
-- left agrees with the whole; `Looping` is all that holds at a loop's head. What the code does with what stands there (a run of tokens, a
-- node that only clears the flag, a node by its arm, a child by what the loop does with it, a run of children) leads to the next head.
use mathlib.Core.Path.{◌≡◌, refl, sym, ap, subst, ◌∙◌}
use mathlib.Core.Bool.{Bool, true, false}
use mathlib.Core.Option.Option.{some}
use mathlib.Core.List.{List, [], ◌∷◌, ◌++◌, append-nil}
use Prim.Native.Nat.{ℕ, zero, suc, ◌+◌, ◌-◌, ◌*◌, ◌/◌, ◌≤◌, ◌<◌}
use native.Mathlib.Omega.{arith}
use lib.ListN.{length, take, drop, get_or, length-drop}
use lib.Seq.{drop-drop, take-nil, get_or-take, get_or-drop}
use Rattle.text.specs.Writing.{cap, Wrote}
use Rattle.text.proofs.Writing.{part-rest}
use Rattle.mitex_spec.specs.Rules.{Rule}
use Rattle.mitex_spec.specs.RuleFile.{rules_of}
use Rattle.mitex_spec.specs.Index.{Ready, SomeRules}
use Rattle.mitex_syntax.specs.Tree.{Tree, Forest, size, sizes, kind_of, text_of, texts_of}
use Rattle.mitex_syntax.specs.Tree.Tree.{node}
use Rattle.mitex_syntax.specs.Tree.Forest.{none, more}
use Rattle.mitex_syntax.specs.Views.{children_of}
use Rattle.mitex_syntax.specs.Spells.{Spells, SpellsAll, SomeTree}
use Rattle.mitex_syntax.specs.Rows.{extent_of, token_sum, Spans}
use Rattle.mitex_syntax.specs.declared.Span.{Span}
use Rattle.mitex_syntax.proofs.Trees.{ElementAt, element, all-begins, spans, kind_at, rows-e, text-n, part, part-spells, part_length, part-short, past-exact, no-left, size-more, size-node, size-some, length-rowss, spells-alone, node-spelt, kind-spelt, spells-under}
use Rattle.mitex_meaning.specs.Outcome.{Context, Label, Carry, Outcome, after, and_then, closing, shift, flagged, label_most}
use Rattle.mitex_meaning.specs.Outcome.Outcome.{refused, done}
use Rattle.mitex_meaning.specs.State.{context_of, carry_of, label_of, with_flag}
use Rattle.mitex_meaning.specs.Contract.{Place, place_of, Agrees, went_with}
use Rattle.mitex_meaning.specs.Contract.Agrees.{declines, accepts}
use Rattle.mitex_meaning.specs.Children.{act_of, before, converts, behind, next_loop, loop_end, turn, each}
use Rattle.mitex_meaning.specs.Groups.{children}
use Rattle.mitex_meaning.specs.Conversion.{element_of, arm_by, step, convert}
use Rattle.mitex_meaning.specs.Runs.{beside, is_flat}
use Rattle.mitex_loops.specs.Given.{number_of}
use Rattle.mitex_loops.specs.Steady.{SteadyRun}
use Rattle.mitex_loops.proofs.Steady.{run-first, run-others, run_end, run-stop}
use Rattle.mitex_loops.proofs.Closing.{passes-alone}
use Rattle.mitex_loops.proofs.Plainly.{each-one}
use Rattle.mitex_loops.proofs.Acting.{number-next}
use Rattle.mitex_tokens.specs.Comes.{carrying}
use Rattle.mitex_tokens.specs.Runs.{RunGiven, Ran, StopsAt}
use Rattle.mitex_meaning.specs.declared.Loop.{Loop}
use Rattle.mitex_meaning.specs.declared.Loop.TheVariants.{Plain}
use Rattle.mitex_meaning.specs.declared.Act.{Act}
use Rattle.mitex_meaning.specs.declared.Act.TheVariants.{Convert}
use Rattle.mitex_meaning.specs.declared.Converter.{Converter}
use Rattle.mitex_meaning.specs.Contract.{Walked}
use Rattle.mitex_meaning.proofs.Outcomes.{shift-shift, shift-after, shift-closing}
use Rattle.mitex_meaning.proofs.Agreeing.{Good, agrees-good, agrees-as, agrees-done, agrees_after, agrees-shift, then-done, then-refused, number-some}
use Rattle.mitex_meaning.proofs.Loops.{turn-converts, turn-passes, each_none, each_more, each-shift, each-from-zero}
use Rattle.mitex_meaning.proofs.Blocks.{turn-plain}
use Rattle.mitex_meaning.proofs.Runs.{sizes-beside, flat-spells, steady-run, flat_step}
use Rattle.refusals.specs.declared.Refusal.{Refusal}
use Rattle.refusals.specs.Refusals.{refusal_number}
use Rattle.mitex.specs.declared.elements.Elements.{Elements}
use Rattle.mitex_spec.specs.declared.rules.Rules.{Rules}
use Rattle.text.specs.declared.output.Output.{Output}
use Rattle.mitex.proofs.Spelt.{spelt, elements-few}
use Rattle.mitex.proofs.Rooms.{back-same, closed, handed-on}
use Rattle.mitex.specs.Walks.{Room, Siblings, Walks, Turns, tail_at}

-- ---- nodes

-- a level that is high enough is one above another
record Level (d : ℕ) : Type 0 where
  lower : ℕ
  is : d ≡ suc lower

level-below : (d : ℕ) → 1 ≤ d → Level d
level-below zero h = absurd (omega arith)
level-below (suc d) h = record { lower = d; is = refl }

-- bytes of an element's first row, in the whole
first-bytes :
    {f : Forest} {rows text : List ℕ} {i j : ℕ} (x : ElementAt f rows text i j) (q : ℕ) → q < 8
    → get_or (take (8 * size x.tree) (drop i rows)) q 0 ≡ get_or rows (i + q) 0
first-bytes {rows = rows} {i = i} x q h =
    let b = x.some in
    get_or-take (8 * size x.tree) (drop i rows) q 0 (omega arith) ∙ get_or-drop i rows q 0

node_at :
    {f : Forest} {rows text : List ℕ} {i j : ℕ} (x : ElementAt f rows text i j) → (get_or rows (i + 1) 0 ≡ 1 → ⊥)
    → x.tree ≡ node (kind_of x.tree) (children_of x.tree)
node_at x is-node = node-spelt x.tree x.first.first (λ q. is-node (sym (first-bytes x 1 (omega arith)) ∙ q))

-- a node means what its arm says of its children, with the flag cleared
node-means :
    (d : ℕ) (x : Context) (k : ℕ) (f : Forest) (c : Carry) → convert (suc d) x (node k f) c ≡ arm_by (element_of k) (convert d) x f (flagged false c)
unfolding convert step
node-means d x k f c = refl

-- a part of a front
pub drop-take : (a n : ℕ) (l : List ℕ) → drop a (take n l) ≡ take (n - a) (drop a l)
drop-take zero n l = let e : n ≡ n - 0 = omega arith in ap (λ (m : ℕ). take m l) e
drop-take (suc a) zero l = let e : 0 ≡ 0 - suc a = omega arith in ap (λ (m : ℕ). take m (drop (suc a) l)) e
drop-take (suc a) (suc n) [] = sym (take-nil (suc n - suc a))
drop-take (suc a) (suc n) (x ∷ l) = let e : n - a ≡ suc n - suc a = omega arith in drop-take a n l ∙ ap (λ (m : ℕ). take m (drop a l)) e

-- ---- where a loop stands

-- the numbers and the converter: c is in the place that c₀ was in
pub record Stands (rows text out : List ℕ) (c₀ c : Converter) (i j at : ℕ) : Type 0 where
  pub high : i ≤ length rows
  pub begun : j ≤ length text
  pub place : at ≤ cap
  pub room : length out ≤ cap
  pub short : c.label_len ≤ label_most
  pub placed_so : place_of c ≡ place_of c₀

-- the meaning: what is left spells a forest, and whoever agrees with what that forest still gives agrees with the target
pub record Left (target : Outcome) (x : Place) (row at₀ : ℕ) (out₀ : List ℕ) (tail_at : Forest → Outcome) (level : ℕ) (rows text : List ℕ)
    (i j at : ℕ) (out : List ℕ) : Type 0 where
  pub forest : Forest
  pub spells : SpellsAll forest (drop i rows) (drop j text)
  pub fits : sizes forest ≤ level
  pub onward : (a : Walked) (o : List ℕ) → Agrees a x row at out o (tail_at forest) → Agrees a x row at₀ out₀ o target

-- what the whole loop comes to, and what is left of it
abbrev pub wholly : List Rule → ℕ → Converter → Loop → Forest → Outcome
wholly rs n d l f = each (convert n (context_of rs d)) 1 l f (carry_of d)

abbrev remains : List Rule → ℕ → Converter → ℕ → Loop → Converter → Forest → Outcome
remains rs n d₀ i l d g = each (convert n (context_of rs d₀)) (1 + i / 8) l g (carry_of d)

-- plain bounds of what the loop was given: lengths, the place, the row, the indent, the held label
pub record Bounds (rows text out : List ℕ) (at row : ℕ) (c : Converter) : Type 0 where
  pub few : length rows < cap
  pub short : length text < cap
  pub room : length out ≤ cap
  pub place : at ≤ cap
  pub low : row + 8 + length rows ≤ cap
  pub deep : c.indent + 0 + length rows ≤ cap
  pub label : c.label_len ≤ label_most

-- what holds at the loop's head: it began with the converter d₀ and the loop l₀ at the place w₀, and stands at i and j
pub record Looping (rules index rows text : List ℕ) (row : ℕ) (out₀ : List ℕ) (w₀ : ℕ) (d₀ : Converter) (l₀ : Loop) (out : List ℕ) (w : ℕ)
    (d : Converter) (l : Loop) (i j : ℕ) : Type 0 where
  pub room : Bounds rows text out₀ w₀ row d₀
  pub some_rules : SomeRules rules index
  pub spelt : Siblings rows text
  pub stands : Stands rows text out d₀ d i j w
  pub counts : number_of l ≤ i
  pub left :
      (rs : List Rule) → Ready rules index rs → (f : Forest) → SpellsAll f rows text → (n : ℕ) → sizes f ≤ n
      → Left (wholly rs n d₀ l₀ f) (place_of d₀) row w₀ out₀ (remains rs n d₀ i l d) n rows text i j w out

-- the same in the terms of the code: the elements that are left, and the output over the same lent buffer, of the same length
pub record Head (rules : Rules) (e : Elements) (o₀ : Output) (d₀ : Converter) (l₀ : Loop) (o : Output) (d : Converter) (l : Loop) (rest : Elements)
    : Type 0 where
  pub i : ℕ
  pub j : ℕ
  pub loop : Looping rules.file.now rules.index.now e.rows.now e.text.now e.row o₀.buffer.now o₀.at d₀ l₀ o.buffer.now o.at d l i j
  pub rows : rest.rows.now ≡ drop i e.rows.now
  pub text : rest.text.now ≡ drop j e.text.now
  pub row : rest.row ≡ e.row + i / 8
  pub lent : o.buffer.ghost_name ≡ o₀.buffer.ghost_name
  pub kept : length o.buffer.now ≡ length o₀.buffer.now

pub head-start :
    {rules : Rules} {e : Elements} {o : Output} {d : Converter} {l : Loop} → Room 0 e.rows.now d → number_of l ≡ 0
    → Head rules e o d l o d l e
head-start {rules} {e} {o} {d} {l} r h =
    record {
      i = 0;
      j = 0;
      loop = record {
        room = record { few = elements-few e; short = e.short; room = o.few; place = o.near; low = e.low; deep = r.deep; label = r.label };
        some_rules = rules.some;
        spelt = spelt e;
        stands = record { high = omega arith; begun = omega arith; place = o.near; room = o.few; short = r.label; placed_so = refl };
        counts = omega arith;
        left = λ rs ready f sp n k. record { forest = f; spells = sp; fits = k; onward = λ a p m. m };
      };
      rows = refl;
      text = refl;
      row = omega arith;
      lent = refl;
      kept = refl;
    }

-- the text of what is left is few bytes enough to be counted
pub rest-short : (text : List ℕ) (j : ℕ) {f : Forest} {rows : List ℕ} → SpellsAll f rows (tail_at text j) → length text < cap → length (texts_of f) < cap
rest-short text j sp short = omega (arith, ap length sp.text_is, ap length (part-rest text j), length-drop j text)

-- what is left, and parts of it, in the whole
module _ (l : List ℕ) (i : ℕ) {r : List ℕ} (is : r ≡ drop i l) where
  pub rest-is : r ≡ tail_at l i
  rest-is = is ∙ sym (part-rest l i)

  pub rest-length : length r ≡ length l - i
  rest-length = ap length is ∙ length-drop i l

  pub front-is : (n : ℕ) → take n r ≡ part l i n
  front-is n = let z : n ≡ i + n - i = omega arith in ap (take n) is ∙ ap (λ (m : ℕ). take m (drop i l)) z

  pub below-is : (n : ℕ) → take (n - 8) (drop 8 r) ≡ take (i + n - (i + 8)) (drop (i + 8) l)
  below-is n =
      let z : n - 8 ≡ i + n - (i + 8) = omega arith in
      ap (λ (s : List ℕ). take (n - 8) (drop 8 s)) is
      ∙ ap (take (n - 8)) (drop-drop 8 i l)
      ∙ ap (λ (m : ℕ). take m (drop (i + 8) l)) z

  pub on-is : {r' : List ℕ} (n : ℕ) → r' ≡ tail_at r n → r' ≡ drop (i + n) l
  on-is n e = e ∙ part-rest r n ∙ ap (drop n) is ∙ drop-drop n i l

  pub tail-is : (n : ℕ) → tail_at r n ≡ tail_at l (i + n)
  tail-is n = on-is n refl ∙ sym (part-rest l (i + n))

  pub byte-is : (q : ℕ) → get_or r q 0 ≡ get_or l (i + q) 0
  byte-is q = ap (λ (s : List ℕ). get_or s q 0) is ∙ get_or-drop i l q 0

  pub kind-is : get_or r 0 0 ≡ get_or l i 0
  kind-is = let z : i + 0 ≡ i = omega arith in byte-is 0 ∙ ap (λ (q : ℕ). get_or l q 0) z

  pub spans-on : Spans l i → Spans r 0
  spans-on s =
      record {
        some = omega (arith, s.some, rest-length);
        inside = omega (arith, s.inside, rest-length, ap extent_of is);
        few = omega (arith, s.few, rest-length);
        short = subst (λ (t : List ℕ). token_sum (take (extent_of t) t) < cap) (sym is) s.short;
      }

-- ---- the child at i, as the code has it: e bytes of rows, n bytes of text

pub record Child (rows text : List ℕ) (c : Converter) (i j e n : ℕ) : Type 0 where
  pub end : i + e ≤ length rows
  pub stop : j + n ≤ length text
  pub some : 8 ≤ e
  pub room : Room 0 (part rows i e) c
  pub given : SomeTree (part rows i e) (part text j n)
  pub long : length (part rows i e) ≡ e

-- what is left, as the code has it
pub rest-exact : {g : Forest} (rows text : List ℕ) (i j : ℕ) → SpellsAll g (drop i rows) (drop j text) → SpellsAll g (tail_at rows i) (tail_at text j)
rest-exact {g} rows text i j sp =
    subst (λ (r : List ℕ). SpellsAll g r (tail_at text j)) (sym (part-rest rows i))
    (subst (λ (s : List ℕ). SpellsAll g (drop i rows) s) (sym (part-rest text j)) sp)

module _ {rules index rows text : List ℕ} {row : ℕ} {out₀ : List ℕ} {w₀ : ℕ} {d₀ : Converter} {l₀ : Loop} {out : List ℕ} {w : ℕ}
    {d : Converter} {l : Loop} {i j : ℕ} (k : Looping rules index rows text row out₀ w₀ d₀ l₀ out w d l i j) where
  -- what is left spells elements
  pub left-spelt : Siblings (drop i rows) (drop j text)
  left-spelt =
      let z = k.left k.some_rules.rules k.some_rules.ready k.spelt.forest k.spelt.spells (sizes k.spelt.forest) (omega arith) in
      record { forest = z.forest; spells = z.spells }

  pub loop-room : length out ≤ cap
  loop-room = k.stands.room

  pub left-behind : Siblings (tail_at rows i) (tail_at text j)
  left-behind = record { forest = left-spelt.forest; spells = rest-exact rows text i j left-spelt.spells }

  -- what is left is some rows whole
  pub i-eighth : i ≡ 8 * (i / 8)
  i-eighth =
      omega (
        arith,
        length-rowss k.spelt.forest,
        ap length k.spelt.spells.rows_are,
        length-rowss left-spelt.forest,
        ap length left-spelt.spells.rows_are,
        length-drop i rows,
        k.stands.high,
      )

  -- there is room for a whole row
  pub loop-row : i < length rows → i + 8 ≤ length rows
  loop-row h = omega (arith, i-eighth, length-rowss k.spelt.forest, ap length k.spelt.spells.rows_are)

  module _ (h : i < length rows) where
    child-element : {f : Forest} → SpellsAll f (drop i rows) (drop j text) → ElementAt f rows text i j
    child-element sp = element (all-begins sp) h k.stands.begun k.room.few k.room.short

    pub child-spans : Spans rows i
    child-spans = spans (child-element left-spelt.spells) k.room.few k.room.short

    module _ (e n : ℕ) (is_e : e ≡ extent_of (drop i rows)) (is_n : n ≡ token_sum (take (extent_of (drop i rows)) (drop i rows))) where
      pub child : Child rows text d i j e n
      child =
          let x = child-element left-spelt.spells in
          let re = rows-e x e n is_e is_n in
          let tn = text-n x e n is_e is_n in
          let pl = part_length x e n is_e is_n in
          let ps = part-short x e n is_e is_n in
          let z = x.end in
          let y = x.stop in
          let b = x.some in
          let r = k.room in
          let ind : d.indent ≡ d₀.indent = ap (λ (q : Place). q.indent) k.stands.placed_so in
          record {
            end = omega arith;
            stop = omega arith;
            some = omega arith;
            room = record { deep = omega (arith, r.deep); label = k.stands.short };
            given = record { tree = x.tree; spells = part-spells x e n is_e is_n };
            long = pl;
          }

      -- the elements behind it
      pub child-behind : Siblings (tail_at rows (i + e)) (tail_at text (j + n))
      child-behind =
          let x = child-element left-spelt.spells in
          record { forest = x.others; spells = rest-exact rows text (i + e) (j + n) (past-exact x e n is_e is_n left-spelt.spells) }

      module _ (act : Act) {a : Walked} {out' : List ℕ} (m : Turns rules index (part rows i e) (part text j n) (row + i / 8) d w out a out' act)
          (de : (t : Tree) (g : Forest) → Spells t (part rows i e) (part text j n) → SpellsAll g (tail_at rows (i + e)) (tail_at text (j + n)) → act ≡ act_of l t g) where
        module _ (rs : List Rule) (ready : Ready rules index rs) (f : Forest) (sp : SpellsAll f rows text) (level : ℕ) (fit : sizes f ≤ level) where
          abbrev conv : Tree → Carry → Outcome
          conv = convert level (context_of rs d₀)

          abbrev at_head : Left (wholly rs level d₀ l₀ f) (place_of d₀) row w₀ out₀ (remains rs level d₀ i l d) level rows text i j w out
          at_head = k.left rs ready f sp level fit

          abbrev here : ElementAt at_head.forest rows text i j
          here = child-element at_head.spells

          smaller : size here.tree + sizes here.others ≤ level
          smaller = omega (arith, at_head.fits, ap sizes here.is, size-more here.tree here.others)

          spelt-child : Spells here.tree (part rows i e) (part text j n)
          spelt-child = part-spells here e n is_e is_n

          acted : act ≡ act_of l here.tree here.others
          acted = de here.tree here.others spelt-child (rest-exact rows text (i + e) (j + n) (past-exact here e n is_e is_n at_head.spells))

          -- what follows the child
          then : Carry → Outcome
          then = each conv (1 + i / 8 + size here.tree) (next_loop l (kind_of here.tree) (act_of l here.tree here.others)) here.others

          met : Agrees a (place_of d) row w out out' (shift (1 + i / 8) (turn conv act here.tree (carry_of d)))
          met =
              let below : i / 8 + 1 ≡ 1 + i / 8 = omega arith in
              agrees-as
              (sym (shift-shift (i / 8) 1 (turn conv act here.tree (carry_of d)) ∙ ap (λ (q : ℕ). shift q (turn conv act here.tree (carry_of d))) below))
              (agrees-shift (i / 8)
              (subst
              (λ (p : Place). Agrees a (place_of d) (row + i / 8) w out out'
              (shift 1 (turn (convert level (record { rules = rs; mode = p.mode; env = p.env; indent = p.indent })) act here.tree (carry_of d))))
              k.stands.placed_so
              (m rs ready here.tree spelt-child level (omega (arith, smaller)))))

          is-rest : remains rs level d₀ i l d at_head.forest ≡ and_then (shift (1 + i / 8) (turn conv act here.tree (carry_of d))) then
          unfolding then
          is-rest =
              ap (λ (g : Forest). each conv (1 + i / 8) l g (carry_of d)) here.is
              ∙ each_more conv (1 + i / 8) l here.tree here.others (carry_of d)
              ∙ ap (λ (b : Act). and_then (shift (1 + i / 8) (turn conv b here.tree (carry_of d))) then) (sym acted)

          -- the child was refused
          pub loop-refused : (a.refusal ≡ 0 → ⊥) → Agrees a (place_of d₀) row w₀ out₀ out' (wholly rs level d₀ l₀ f)
          loop-refused z = at_head.onward a out' (agrees-as is-rest (then-refused then met z))

          next-left :
              a.refusal ≡ 0 → (l' : Loop) → l' ≡ next_loop l (get_or rows i 0) act
              → Left (wholly rs level d₀ l₀ f) (place_of d₀) row w₀ out₀ (remains rs level d₀ (i + e) l' a.converter) level rows text (i + e) (j + n)
              a.at out'
          unfolding then
          next-left z l' next =
              let re = rows-e here e n is_e is_n in
              let at_next : 1 + (i + e) / 8 ≡ 1 + i / 8 + size here.tree = omega arith in
              let loop-next : l' ≡ next_loop l (kind_of here.tree) (act_of l here.tree here.others)
              = next
              ∙ ap (λ (q : ℕ). next_loop l q act) (kind_at here)
              ∙ ap (next_loop l (kind_of here.tree)) acted in
              record {
                forest = here.others;
                spells = past-exact here e n is_e is_n at_head.spells;
                fits = omega (arith, smaller);
                onward =
                    λ b p mm. at_head.onward b p
                    (agrees-as is-rest (then-done then loop-room met z
                    (agrees-as
                    (ap (λ (q : ℕ). each conv q (next_loop l (kind_of here.tree) (act_of l here.tree here.others)) here.others
                    (carry_of a.converter)) (sym at_next)
                    ∙ ap (λ (q : Loop). each conv (1 + (i + e) / 8) q here.others (carry_of a.converter)) (sym loop-next)) mm)));
              }

        -- the child is done, and there is more to do
        pub loop-next :
            a.refusal ≡ 0 → length out' ≤ cap → {l' : Loop} → l' ≡ next_loop l (get_or rows i 0) act
            → Looping rules index rows text row out₀ w₀ d₀ l₀ out' a.at a.converter l' (i + e) (j + n)
        loop-next z same {l'} next =
            let x = child in
            let g : Good a (place_of d)
            = agrees-good (m k.some_rules.rules k.some_rules.ready x.given.tree x.given.spells (size x.given.tree) (omega arith)) z in
            record {
              room = k.room;
              some_rules = k.some_rules;
              spelt = k.spelt;
              stands = record {
                high = x.end;
                begun = x.stop;
                place = g.place;
                room = same;
                short = g.short;
                placed_so = g.placed_so ∙ k.stands.placed_so;
              };
              counts = omega (arith, x.some, k.counts, number-next l (get_or rows i 0) act, ap number_of next);
              left = λ rs ready f sp level fit. next-left rs ready f sp level fit z l' next;
            }

-- ---- one element in a plain loop

alone-size : (t : Tree) → sizes (more t none) ≡ size t
unfolding size
alone-size t = omega arith

-- comes to what the element comes to, one row below
pub alone-is : (conv : Tree → Carry → Outcome) (t : Tree) (c : Carry) → each conv 1 Plain (more t none) c ≡ shift 1 (conv t c)
alone-is conv t c = each-from-zero conv 1 Plain (more t none) c ∙ ap (shift 1) (each-one conv t c)

module _ {rules index rows text : List ℕ} {row : ℕ} (c : Converter) {at : ℕ} {out : List ℕ} {a : Walked} {out' : List ℕ}
    (m : Walks rules index rows text row c at out a out' children) where
  pub alone-agrees :
      (rs : List Rule) → Ready rules index rs → (t : Tree) → Spells t rows text → (d : ℕ) → size t ≤ d
      → Agrees a (place_of c) row at out out' (shift 1 (convert d (context_of rs c) t (carry_of c)))
  alone-agrees rs ready t sp d h =
      agrees-as (sym (alone-is (convert d (context_of rs c)) t (carry_of c))) (m rs ready (more t none) (spells-alone sp) d (omega (arith, alone-size t)))

-- ---- one child, as the code does it: a text before, the child itself, a text after

turn-is :
    (rows text : List ℕ) (act : Act) → converts act ≡ true → (conv : Tree → Carry → Outcome) {t : Tree} → Spells t rows text → (c : Carry)
    → shift 1 (turn conv act t c) ≡ after (before act text) (closing (behind act) (shift 1 (conv t c)))
turn-is rows text act e conv {t} sp c =
    ap (shift 1)
    (turn-converts conv act t c e ∙ ap (λ (s : List ℕ). after (before act s) (closing (behind act) (conv t c))) (sym sp.text_is))
    ∙ shift-after 1 (before act text) (closing (behind act) (conv t c))
    ∙ ap (after (before act text)) (shift-closing 1 (behind act) (conv t c))

module _ {rules index rows text : List ℕ} {row : ℕ} (start : Converter) {w p : ℕ} {out out₁ : List ℕ} (act : Act) (room : length out ≤ cap)
    (begun : Wrote w out (before act text) p out₁) where
  -- it is passed over
  pub turned-passed :
      converts act ≡ false → start.label_len ≤ label_most → Turns rules index rows text row start w out (went_with start p) out₁ act
  turned-passed e short rs ready t sp d k =
      agrees-as
      (ap (shift 1)
      (turn-passes (convert d (context_of rs start)) act t (carry_of start) e
      ∙ ap (λ (v : List ℕ). done (carry_of start) (before act (text_of t) ++ v)) (passes-alone act e)
      ∙ ap (done (carry_of start)) (append-nil (before act (text_of t)))
      ∙ ap (λ (s : List ℕ). done (carry_of start) (before act s)) (sym sp.text_is)))
      (agrees-done start refl refl refl short begun)

  -- it is converted
  pub turned :
      {c : Converter} {q r : ℕ} {out₂ out₃ : List ℕ} → converts act ≡ true → length out₁ ≤ cap
      → Walks rules index rows text row start p out₁ (went_with c q) out₂ children → Wrote q out₂ (behind act) r out₃
      → Turns rules index rows text row start w out (went_with c r) out₃ act
  turned e room₁ m ended rs ready t sp d k =
      agrees-as (turn-is rows text act e (convert d (context_of rs start)) sp (carry_of start))
      (agrees_after room begun (closed room₁ (alone-agrees start m rs ready t sp d k) ended back-same))

  -- it is converted, and was refused
  pub turned-refused :
      {a b : Walked} {out₂ out₃ : List ℕ} → converts act ≡ true → Walks rules index rows text row start p out₁ a out₂ children → 0 < a.refusal
      → b.refusal ≡ a.refusal → b.row ≡ a.row → Turns rules index rows text row start w out b out₃ act
  turned-refused e m has u v rs ready t sp d k =
      agrees-as (turn-is rows text act e (convert d (context_of rs start)) sp (carry_of start))
      (handed-on (λ o. after (before act text) (closing (behind act) o)) (λ _ _. refl) has u v (alone-agrees start m rs ready t sp d k))

-- ---- a run of tokens

-- what the code has in another way
pub siblings-at : {rows text rows' text' : List ℕ} → rows' ≡ rows → text' ≡ text → Siblings rows text → Siblings rows' text'
siblings-at {rows} {text} {rows'} {text'} er et g = subst (λ (l : List ℕ). Siblings l text') (sym er) (subst (Siblings rows) (sym et) g)

pub spells-at : {t : Tree} {rows text rows' text' : List ℕ} → rows' ≡ rows → text' ≡ text → Spells t rows text → Spells t rows' text'
spells-at {t} {rows} {text} {rows'} {text'} er et sp = subst (λ (l : List ℕ). Spells t l text') (sym er) (subst (Spells t rows) (sym et) sp)

pub walks-kind :
    {rules index rows text : List ℕ} {row : ℕ} (c : Converter) {at : ℕ} {out : List ℕ} {a : Walked} {out' : List ℕ} {k k' : ℕ} → k' ≡ k
    → Walks rules index rows text row c at out a out' (arm_by (element_of k')) → Walks rules index rows text row c at out a out' (arm_by (element_of k))
walks-kind {rules} {index} {rows} {text} {row} c {at} {out} {a} {out'} e m =
    subst (λ (q : ℕ). Walks rules index rows text row c at out a out' (arm_by (element_of q))) e m

module _ (rows text : List ℕ) (i j : ℕ) {rows' text' : List ℕ} (er : rows' ≡ tail_at rows i) (et : text' ≡ tail_at text j) where
  pub run-asked : RunGiven (tail_at rows i) (tail_at text j) → RunGiven rows' text'
  run-asked g = subst (λ (l : List ℕ). RunGiven l text') (sym er) (subst (RunGiven (tail_at rows i)) (sym et) g)

  pub stops-at : {x : Context} {flag : Bool} {row row' : ℕ} {e : Refusal} → row' ≡ row → StopsAt x flag rows' text' row' e → StopsAt x flag (tail_at rows i) (tail_at text j) row e
  stops-at {x} {flag} {row} {row'} {e} eo m =
      subst (λ (l : List ℕ). StopsAt x flag l (tail_at text j) row e) er
      (subst (λ (s : List ℕ). StopsAt x flag rows' s row e) et (subst (λ (n : ℕ). StopsAt x flag rows' text' n e) eo m))

  pub ran-at : {x : Context} {flag flag' : Bool} {o o' : Output} {s : Span} → Ran x flag rows' text' o flag' o' s → Ran x flag (tail_at rows i) (tail_at text j) o flag' o' s
  ran-at {x} {flag} {flag'} {o} {o'} {s} m =
      subst (λ (l : List ℕ). Ran x flag l (tail_at text j) o flag' o' s) er (subst (λ (u : List ℕ). Ran x flag rows' u o flag' o' s) et m)

rest-behind : (l : List ℕ) (n m : ℕ) → drop m (tail_at l n) ≡ drop (n + m) l
rest-behind l n m = ap (drop m) (part-rest l n) ∙ drop-drop m n l

module _ {rules index rows text : List ℕ} {row : ℕ} {out₀ : List ℕ} {w₀ : ℕ} {d₀ : Converter} {out : List ℕ} {w : ℕ} {d : Converter} {i j : ℕ}
    (k : Looping rules index rows text row out₀ w₀ d₀ Plain out w d Plain i j) where
  rest-long : length (tail_at rows i) ≡ length rows - i
  rest-long = ap length (part-rest rows i) ∙ length-drop i rows

  pub run-given : i < length rows → RunGiven (tail_at rows i) (tail_at text j)
  run-given h =
      let s = left-spelt k in
      record {
        forest = s.forest;
        spells = rest-exact rows text i j s.spells;
        few = omega (arith, rest-long, k.room.few);
        short = omega (arith, ap length (part-rest text j), length-drop j text, k.room.short);
        some = omega (arith, rest-long);
      }

  in_place : (rs : List Rule) → context_of rs d₀ ≡ context_of rs d
  in_place rs = ap (λ (p : Place). record { rules = rs; mode = p.mode; env = p.env; indent = p.indent }) (sym k.stands.placed_so)

  abbrev held_so : Label
  held_so = label_of d.label_held d.label_len d.label

  -- a token of the run was refused
  module _ {e : Refusal} (m : (rs : List Rule) → rules_of rules ≡ some rs
      → StopsAt (context_of rs d) d.skip_next_space (tail_at rows i) (tail_at text j) (row + i / 8) e) where
    pub run-refused :
        {a : Walked} {o : List ℕ} → a.refusal ≡ refusal_number e.reason → a.row ≡ e.row → (rs : List Rule) → Ready rules index rs → (f : Forest)
        → SpellsAll f rows text → (level : ℕ) → sizes f ≤ level → Agrees a (place_of d₀) row w₀ out₀ o (wholly rs level d₀ Plain f)
    run-refused {a} {o} u v rs ready f sp level fit =
        let z = k.left rs ready f sp level fit in
        let q = m rs ready.decodes in
        let at_row : e.row ≡ row + (1 + i / 8 + q.below) = omega (arith, q.is (omega (arith, rest-long, k.room.low))) in
        z.onward a o
        (agrees-as
        (ap (λ (y : Context). each (convert level y) (1 + i / 8) Plain z.forest (carry_of d)) (in_place rs)
        ∙ q.stops.refuses z.forest level held_so (1 + i / 8) (rest-exact rows text i j z.spells) z.fits)
        (declines (number-some e.reason) u (v ∙ at_row)))

  -- the run is done
  module _ {r : Span} {o : Output} {o' : Output} {flag : Bool} (is_at : o.at ≡ w) (is_out : o.buffer.now ≡ out)
      (m : (rs : List Rule) → rules_of rules ≡ some rs
      → Ran (context_of rs d) d.skip_next_space (tail_at rows i) (tail_at text j) o flag o' r) where
    abbrev first : Ran (context_of k.some_rules.rules d) d.skip_next_space (tail_at rows i) (tail_at text j) o flag o' r
    first = m k.some_rules.rules k.some_rules.ready.decodes

    pub tokens-high : i + r.rows ≤ length rows
    tokens-high = omega (arith, first.high, rest-long, k.stands.high)

    pub tokens-stop : j + r.text ≤ length text
    tokens-stop = omega (arith, first.stop, ap length (part-rest text j), length-drop j text, k.stands.begun)

    run-left :
        (rs : List Rule) → Ready rules index rs → (f : Forest) → SpellsAll f rows text → (level : ℕ) → sizes f ≤ level
        → Left (wholly rs level d₀ Plain f) (place_of d₀) row w₀ out₀ (remains rs level d₀ (i + r.rows) Plain (with_flag flag d)) level rows text
        (i + r.rows) (j + r.text) o'.at o'.buffer.now
    run-left rs ready f sp level fit =
        let head = k.left rs ready f sp level fit in
        let g = (m rs ready.decodes).goes head.forest level (rest-exact rows text i j head.spells) head.fits in
        let e8 = i-eighth k in
        let wrote : Wrote w out g.written o'.at o'.buffer.now
        = subst (λ (q : ℕ). Wrote q out g.written o'.at o'.buffer.now) is_at
        (subst (λ (q : List ℕ). Wrote o.at q g.written o'.at o'.buffer.now) is_out g.wrote.wrote) in
        let at_next : 1 + i / 8 + r.rows / 8 ≡ 1 + (i + r.rows) / 8 = omega arith in
        record {
          forest = g.forest;
          spells = subst (λ (v : List ℕ). SpellsAll g.forest v (drop (j + r.text) text)) (rest-behind rows i r.rows)
              (subst (λ (v : List ℕ). SpellsAll g.forest (drop r.rows (tail_at rows i)) v) (rest-behind text j r.text) g.spells);
          fits = omega (arith, g.fits, head.fits);
          onward =
              λ b p mm. head.onward b p
              (agrees-as
              (ap (λ (y : Context). each (convert level y) (1 + i / 8) Plain head.forest (carry_of d)) (in_place rs)
              ∙ g.is held_so (1 + i / 8)
              ∙ ap (λ (y : Context). after g.written (each (convert level y) (1 + i / 8 + r.rows / 8) Plain g.forest (carrying flag held_so))) (sym (in_place rs))
              ∙ ap (λ (q : ℕ). after g.written (each (convert level (context_of rs d₀)) q Plain g.forest (carrying flag held_so))) at_next)
              (agrees_after (loop-room k) wrote mm));
        }

    -- and there is more to do
    pub run-next :
        {d' : Converter} → d' ≡ with_flag flag d
        → Looping rules index rows text row out₀ w₀ d₀ Plain o'.buffer.now o'.at d' Plain (i + r.rows) (j + r.text)
    run-next e =
        subst
        (λ (q : Converter). Looping rules index rows text row out₀ w₀ d₀ Plain o'.buffer.now o'.at q Plain (i + r.rows) (j + r.text)) (sym e)
        (record {
          room = k.room;
          some_rules = k.some_rules;
          spelt = k.spelt;
          stands = record {
            high = tokens-high;
            begun = tokens-stop;
            place = o'.near;
            room = o'.few;
            short = k.stands.short;
            placed_so = k.stands.placed_so;
          };
          counts = omega arith;
          left = run-left;
        })

  -- ---- a node that only clears the flag: what is below_row it comes next

  module _ (h : i < length rows) (is-node : get_or rows (i + 1) 0 ≡ 1 → ⊥) (flat : is_flat d.mode (get_or rows i 0) ≡ true) where
    flat-left :
        (rs : List Rule) (ready : Ready rules index rs) (f : Forest) (sp : SpellsAll f rows text) (level : ℕ) (fit : sizes f ≤ level)
        → Left (wholly rs level d₀ Plain f) (place_of d₀) row w₀ out₀ (remains rs level d₀ (i + 8) Plain (with_flag false d)) level rows text (i + 8) j
        w out
    flat-left rs ready f sp level fit =
        let z = k.left rs ready f sp level fit in
        let here = child-element k h z.spells in
        let e8 = i-eighth k in
        let t-is : here.tree ≡ node (kind_of here.tree) (children_of here.tree)
        = node_at here is-node in
        let g-is : z.forest ≡ more (node (kind_of here.tree) (children_of here.tree)) here.others
        = here.is ∙ ap (λ (t : Tree). more t here.others) t-is in
        let sp-at = subst (λ (g : Forest). SpellsAll g (drop i rows) (drop j text)) g-is z.spells in
        let at_next : 1 + (1 + i / 8) ≡ 1 + (i + 8) / 8 = omega arith in
        let flat-so : is_flat (context_of rs d₀).mode (kind_of here.tree) ≡ true
        = ap (λ (p : Place). is_flat p.mode (kind_of here.tree)) (sym k.stands.placed_so) ∙ ap (is_flat d.mode) (sym (kind_at here)) ∙ flat in
        let fits_so : sizes (more (node (kind_of here.tree) (children_of here.tree)) here.others) ≤ level
        = subst (λ (g : Forest). sizes g ≤ level) g-is z.fits in
        record {
          forest = beside (children_of here.tree) here.others;
          spells = subst (λ (v : List ℕ). SpellsAll (beside (children_of here.tree) here.others) v (drop j text)) (drop-drop 8 i rows)
              (flat-spells (kind_of here.tree) (children_of here.tree) here.others sp-at);
          fits = omega (
            arith,
            fits_so,
            sizes-beside (children_of here.tree) here.others,
            size-more (node (kind_of here.tree) (children_of here.tree)) here.others,
            size-node (kind_of here.tree) (children_of here.tree),
          );
          onward =
              λ b p mm. z.onward b p
              (agrees-as
              (ap (λ (g : Forest). each (convert level (context_of rs d₀)) (1 + i / 8) Plain g (carry_of d)) g-is
              ∙ flat_step (context_of rs d₀) level (1 + i / 8) (kind_of here.tree) (children_of here.tree) here.others (carry_of d) flat-so fits_so
              ∙ ap (λ (q : ℕ). each (convert level (context_of rs d₀)) q Plain (beside (children_of here.tree) here.others) (flagged false (carry_of d)))
              at_next)
              mm);
        }

    pub flat-next : Looping rules index rows text row out₀ w₀ d₀ Plain out w (with_flag false d) Plain (i + 8) j
    flat-next =
        record {
          room = k.room;
          some_rules = k.some_rules;
          spelt = k.spelt;
          stands = record {
            high = loop-row k h;
            begun = k.stands.begun;
            place = k.stands.place;
            room = k.stands.room;
            short = k.stands.short;
            placed_so = k.stands.placed_so;
          };
          counts = omega arith;
          left = flat-left;
        }

-- ---- children that a loop converts with nothing around them

module _ {rules index rows text : List ℕ} {row : ℕ} {out₀ : List ℕ} {w₀ : ℕ} {d₀ : Converter} {l₀ : Loop} {out : List ℕ} {w : ℕ}
    {d : Converter} {l : Loop} {i j : ℕ} (k : Looping rules index rows text row out₀ w₀ d₀ l₀ out w d l i j) where
  module _ {run : Span} (s : (g : Forest) → SpellsAll g (tail_at rows i) (tail_at text j) → SteadyRun l g run) where
    -- the children that go at once, where g is left
    these : {g : Forest} → SpellsAll g (drop i rows) (drop j text) → SteadyRun l g run
    these {g} sp = s g (rest-exact rows text i j sp)

    pub steady-end : i + run.rows ≤ length rows
    steady-end = let z = left-spelt k in run_end rows text i j z.spells (these z.spells) k.stands.high

    pub steady-stop : j + run.text ≤ length text
    steady-stop = let z = left-spelt k in run-stop rows text i j z.spells (these z.spells) k.stands.begun

    pub steady-siblings : Siblings (part rows i run.rows) (part text j run.text)
    steady-siblings = let y = (left-spelt k).spells in record { forest = (these y).first; spells = run-first rows text i j y (these y) }

    module _ {a : Walked} {out' : List ℕ}
        (m : Walks rules index (part rows i run.rows) (part text j run.text) (row + i / 8) d w out a out' children) where
      module _ (rs : List Rule) (ready : Ready rules index rs) (f : Forest) (sp : SpellsAll f rows text) (level : ℕ) (fit : sizes f ≤ level) where
        abbrev from : Left (wholly rs level d₀ l₀ f) (place_of d₀) row w₀ out₀ (remains rs level d₀ i l d) level rows text i j w out
        from = k.left rs ready f sp level fit

        abbrev those : SteadyRun l from.forest run
        those = these from.spells

        abbrev means : Tree → Carry → Outcome
        means = convert level (context_of rs d₀)

        -- what comes after them
        onwards : Carry → Outcome
        onwards = each means (1 + i / 8 + sizes those.first) l those.others

        these-fit : sizes those.first + sizes those.others ≤ level
        these-fit = omega (arith, from.fits, ap sizes those.is, sizes-beside those.first those.others)

        agreed : Agrees a (place_of d) row w out out' (each means (1 + i / 8) Plain those.first (carry_of d))
        agreed =
            let below : i / 8 + 1 ≡ 1 + i / 8 = omega arith in
            agrees-as
            (ap (λ (q : ℕ). each means q Plain those.first (carry_of d)) (sym below) ∙ each-shift means (i / 8) 1 Plain those.first (carry_of d))
            (agrees-shift (i / 8)
            (subst
            (λ (p : Place). Agrees a (place_of d) (row + i / 8) w out out'
            (each (convert level (record { rules = rs; mode = p.mode; env = p.env; indent = p.indent })) 1 Plain those.first (carry_of d)))
            k.stands.placed_so
            (m rs ready those.first (run-first rows text i j from.spells those) level (omega (arith, these-fit)))))

        is-two : remains rs level d₀ i l d from.forest ≡ and_then (each means (1 + i / 8) Plain those.first (carry_of d)) onwards
        unfolding onwards
        is-two =
            ap (λ (g : Forest). each means (1 + i / 8) l g (carry_of d)) those.is
            ∙ steady-run means (1 + i / 8) l those.first those.others (carry_of d) those.steady

        -- one of them was refused
        pub steady-refused : (a.refusal ≡ 0 → ⊥) → Agrees a (place_of d₀) row w₀ out₀ out' (wholly rs level d₀ l₀ f)
        steady-refused z = from.onward a out' (agrees-as is-two (then-refused onwards agreed z))

        steady-left :
            a.refusal ≡ 0
            → Left (wholly rs level d₀ l₀ f) (place_of d₀) row w₀ out₀ (remains rs level d₀ (i + run.rows) l a.converter) level rows text (i + run.rows)
            (j + run.text) a.at out'
        unfolding onwards
        steady-left z =
            let q = those in
            let e8 = i-eighth k in
            let at_next : 1 + i / 8 + sizes q.first ≡ 1 + (i + run.rows) / 8 = omega (arith, q.rows_are) in
            record {
              forest = q.others;
              spells = run-others rows text i j from.spells q;
              fits = omega (arith, these-fit);
              onward =
                  λ b p mm. from.onward b p
                  (agrees-as is-two (then-done onwards (loop-room k) agreed z
                  (agrees-as (ap (λ (n : ℕ). each means n l q.others (carry_of a.converter)) at_next) mm)));
            }

      -- they are done, and there is more to do
      pub children-next :
          a.refusal ≡ 0 → length out' ≤ cap
          → Looping rules index rows text row out₀ w₀ d₀ l₀ out' a.at a.converter l (i + run.rows) (j + run.text)
      children-next z same =
          let y = steady-siblings in
          let g : Good a (place_of d) = agrees-good (m k.some_rules.rules k.some_rules.ready y.forest y.spells (sizes y.forest) (omega arith)) z in
          record {
            room = k.room;
            some_rules = k.some_rules;
            spelt = k.spelt;
            stands = record {
              high = steady-end;
              begun = steady-stop;
              place = g.place;
              room = same;
              short = g.short;
              placed_so = g.placed_so ∙ k.stands.placed_so;
            };
            counts = omega (arith, k.counts);
            left = λ rs ready f sp level fit. steady-left rs ready f sp level fit z;
          }

-- ---- the end of the loop

module _ {rules index rows text : List ℕ} {row : ℕ} {out₀ : List ℕ} {w₀ : ℕ} {d₀ : Converter} {l₀ : Loop} {out : List ℕ} {w : ℕ}
    {d : Converter} {l : Loop} {i j : ℕ} (k : Looping rules index rows text row out₀ w₀ d₀ l₀ out w d l i j) (h : length rows ≤ i) where
  -- the loop's own end is written
  pub loop-done :
      {p : ℕ} {out₁ : List ℕ} {a : Walked} → Wrote w out (loop_end l) p out₁ → a ≡ went_with d p → (rs : List Rule) → Ready rules index rs → (f : Forest)
      → SpellsAll f rows text → (n : ℕ) → sizes f ≤ n → Agrees a (place_of d₀) row w₀ out₀ out₁ (wholly rs n d₀ l₀ f)
  loop-done {p} {out₁} {a} ended went rs ready f sp n fit =
      let z = k.left rs ready f sp n fit in
      z.onward a out₁
      (agrees-as
      (ap (remains rs n d₀ i l d) (no-left z.forest z.spells.rows_are (simp length-drop (omega arith)))
      ∙ each_none (convert n (context_of rs d₀)) (1 + i / 8) l (carry_of d))
      (agrees-done d went k.stands.placed_so refl k.stands.short ended))

-- ---- a node in a plain loop, by the arm of its kind

-- the rows below_row the node of e bytes that stands at i
abbrev pub below_row : List ℕ → ℕ → ℕ → List ℕ
below_row rows i e = take (i + e - (i + 8)) (drop (i + 8) rows)

module _ {rules index rows text : List ℕ} {row : ℕ} {out₀ : List ℕ} {w₀ : ℕ} {d₀ : Converter} {out : List ℕ} {w : ℕ} {d : Converter} {i j : ℕ}
    (k : Looping rules index rows text row out₀ w₀ d₀ Plain out w d Plain i j) (h : i < length rows) (is-node : get_or rows (i + 1) 0 ≡ 1 → ⊥)
    (e n : ℕ) (is_e : e ≡ extent_of (drop i rows)) (is_n : n ≡ token_sum (take (extent_of (drop i rows)) (drop i rows))) where
  abbrev here-child : Child rows text d i j e n
  here-child = child k h e n is_e is_n

  part_bytes : (q : ℕ) → q < 8 → get_or (part rows i e) q 0 ≡ get_or rows (i + q) 0
  part_bytes q l =
      let some = here-child.some in
      get_or-take (i + e - i) (drop i rows) q 0 (omega arith) ∙ get_or-drop i rows q 0

  -- whatever element is spelt there is a node
  node-there : (t : Tree) → Spells t (part rows i e) (part text j n) → t ≡ node (get_or rows i 0) (children_of t)
  node-there t sp =
      let first : i + 0 ≡ i = omega arith in
      node-spelt t sp (λ q. is-node (sym (part_bytes 1 (omega arith)) ∙ q))
      ∙ ap (λ (q : ℕ). node q (children_of t)) (sym (kind-spelt t sp) ∙ part_bytes 0 (omega arith) ∙ ap (λ (q : ℕ). get_or rows q 0) first)

  under-is : drop 8 (part rows i e) ≡ below_row rows i e
  under-is =
      let less : i + e - i - 8 ≡ i + e - (i + 8) = omega arith in
      drop-take 8 (i + e - i) (drop i rows)
      ∙ ap (λ (q : ℕ). take q (drop 8 (drop i rows))) less
      ∙ ap (take (i + e - (i + 8))) (drop-drop 8 i rows)

  under-spells : (t : Tree) → Spells t (part rows i e) (part text j n) → SpellsAll (children_of t) (below_row rows i e) (part text j n)
  under-spells t sp =
      subst (λ (l : List ℕ). SpellsAll (children_of t) l (part text j n)) under-is
      (spells-under (subst (λ (u : Tree). Spells u (part rows i e) (part text j n)) (node-there t sp) sp))

  pub arm-siblings : Siblings (below_row rows i e) (part text j n)
  arm-siblings = let g = here-child.given in record { forest = children_of g.tree; spells = under-spells g.tree g.spells }

  pub under-long : length (below_row rows i e) + 8 ≡ e
  under-long =
      let some = here-child.some in
      omega (arith, ap length under-is, length-drop 8 (part rows i e), here-child.long)

  pub arm-room : Room 8 (below_row rows i e) (with_flag false d)
  arm-room =
      let r = here-child.room in
      let long = under-long in
      let whole = here-child.long in
      record { deep = omega (arith, r.deep); label = r.label }

  -- what the arm promises of the children is the element's turn
  pub arm-turns :
      {a : Walked} {out' : List ℕ}
      → Walks rules index (below_row rows i e) (part text j n) (row + 1 + i / 8) (with_flag false d) w out a out' (arm_by (element_of (get_or rows i 0)))
      → Turns rules index (part rows i e) (part text j n) (row + i / 8) d w out a out' Convert
  arm-turns {a} {out'} m rs ready t sp level fit =
      let l = level-below level (omega (arith, size-some t)) in
      let t-is = node-there t sp in
      let f = children_of t in
      let at_row : row + 1 + i / 8 ≡ row + i / 8 + 1 = omega arith in
      let fits : sizes f ≤ l.lower = omega (arith, ap size t-is, size-node (get_or rows i 0) f, l.is) in
      agrees-as
      (ap (shift 1)
      (turn-plain (convert level (context_of rs d)) t (carry_of d)
      ∙ ap (λ (u : Tree). convert level (context_of rs d) u (carry_of d)) t-is
      ∙ ap (λ (q : ℕ). convert q (context_of rs d) (node (get_or rows i 0) f) (carry_of d)) l.is
      ∙ node-means l.lower (context_of rs d) (get_or rows i 0) f (carry_of d)))
      (agrees-shift 1
      (subst
      (λ (q : ℕ). Agrees a (place_of d) q w out out'
      (arm_by (element_of (get_or rows i 0)) (convert l.lower) (context_of rs d) f (flagged false (carry_of d))))
      at_row
      (m rs ready f (under-spells t sp) l.lower fits)))

-- ---- a block

-- what agrees below a row agrees so many rows further down
pub agrees-down :
    (n : ℕ) (o : Outcome) {a : Walked} {x : Place} {row at : ℕ} {out out' : List ℕ} → Agrees a x row at out out' (shift n o)
    → Agrees a x (n + row) at out out' o
agrees-down n (refused k r) (declines h p q) = declines {r = r} h p (omega arith)
agrees-down n (done c w) (accepts u ex ec l v) = accepts u ex ec l v
