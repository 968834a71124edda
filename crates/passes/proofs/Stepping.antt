-- Laws of one block's turn: the block at which a pass stands is an element of the rows, it has room to be converted, and after it
-- the pass can go on (`onward`).
use mathlib.Core.Path.{◌≡◌, refl, sym, ap, subst, ◌∙◌}
use mathlib.Core.List.{List}
use Prim.Native.Nat.{ℕ, ◌+◌, ◌/◌, ◌≤◌, ◌<◌}
use Rattle.std.specs.Prelude.{Ok, Err}
use native.Mathlib.Omega.{arith}
use lib.ListN.{length, take, drop, length-drop}
use Rattle.text.specs.Writing.{cap}
use Rattle.mitex_spec.specs.Rules.{Rule}
use Rattle.mitex_syntax.specs.Tree.{Tree, Forest}
use Rattle.mitex_syntax.specs.Tree.Forest.{none, more}
use Rattle.mitex_syntax.specs.Spells.{SpellsAll}
use Rattle.mitex_syntax.specs.Rows.{extent_of, token_sum, Spans}
use Rattle.mitex_syntax.proofs.Trees.{ElementAt, element, first-spelt, size-some, all-begins, spans, rows-e, text-n, part, part-spells, past-exact, ChildPart, child-part, spells-alone}
use Rattle.mitex_meaning.specs.Outcome.{Context}
use Rattle.mitex_meaning.specs.State.{context_of, carry_of}
use Rattle.mitex_meaning.specs.Contract.{Place, place_of, Agrees, went_with, walked_by}
use Rattle.mitex_meaning.specs.Conversion.{convert, levels, start_context}
use Rattle.manuscript.specs.Manuscript.{block}
use Rattle.mitex_meaning.specs.declared.Converter.{Converter}
use Rattle.mitex_meaning.specs.Contract.{Walked}
use Rattle.mitex_meaning.proofs.Agreeing.{Good, agrees-good, agrees-stops}
use Rattle.mitex.specs.Walks.{Room, Siblings, ConvertsElement}
use Rattle.passes.specs.Passes.{Outside, BlocksGiven, row_no, Stepped}
use Rattle.refusals.specs.declared.Refusal.{Refusal}
use Rattle.passes.specs.declared.Standing.{Standing}

-- outside of all environments the context is the first one
outside-context : (rs : List Rule) (c : Converter) → Outside c → context_of rs c ≡ start_context rs c.mode
outside-context rs c o = λ i. record { rules = rs; mode = c.mode; env = o.env i; indent = o.indent i }

module _ {rules index rows text : List ℕ} {s : Standing} (w : BlocksGiven rules index rows text s) where
  pub rows_few : length rows < cap
  rows_few = omega (arith, w.few)

  pub text-short : length text < cap
  text-short = omega (arith, w.short)

  module _ (h : s.i < length rows) where
    next-element : ElementAt w.blocks rows text s.i s.j
    next-element = element (all-begins w.spells) h w.begun rows_few text-short

    pub next-spans : Spans rows s.i
    next-spans = spans next-element rows_few text-short

    module _ (e n : ℕ) (is_e : e ≡ extent_of (drop s.i rows))
        (is_n : n ≡ token_sum (take (extent_of (drop s.i rows)) (drop s.i rows))) where
      pub next-child : ChildPart rows text s.i s.j e n
      next-child = child-part next-element e n is_e is_n

      pub next-room : Room 0 (part rows s.i e) s.converter
      next-room =
          let x = next-child in
          let f = w.few in
          let o = w.outside in
          record { deep = omega (arith, x.rows_long, x.end, o.indent); label = o.label }

      -- as the walk has it
      pub next-low : s.i / 8 + 8 + length (part rows s.i e) ≤ cap
      next-low =
          let x = next-child in
          let f = w.few in
          omega (arith, x.rows_long, x.end)

      pub next-short : length (part text s.j n) < cap
      next-short =
          let x = next-child in
          let g = w.short in
          omega (arith, x.text_long, x.stop)

      pub next-siblings : Siblings (part rows s.i e) (part text s.j n)
      next-siblings =
          let x = next-child.given in
          record { forest = more x.tree none; spells = spells-alone x.spells }

  module _ (t : Tree) (g : Forest) (is : w.blocks ≡ more t g) where
    abbrev named-element : ElementAt w.blocks rows text s.i s.j
    named-element =
        let lr = length-drop s.i rows in
        let lt = length-drop s.j text in
        let l = w.low in
        let b = w.begun in
        let fr = first-spelt (all-begins (subst (λ f. SpellsAll f (drop s.i rows) (drop s.j text)) is w.spells))
        (omega (arith, w.few)) (omega (arith, w.short)) in
        record {
          tree = t;
          others = g;
          is = is;
          first = fr;
          end = omega (arith, fr.inside, size-some t);
          stop = omega (arith, fr.fits);
          some = size-some t;
        }

    module _ (e n : ℕ) (is_e : e ≡ extent_of (drop s.i rows))
        (is_n : n ≡ token_sum (take (extent_of (drop s.i rows)) (drop s.i rows))) where
      -- the block was converted, or refused
      abbrev Converted : Walked → List ℕ → List ℕ → Type 0
      Converted a out out' =
          ConvertsElement rules index (part rows s.i e) (part text s.j n) (1 + s.i / 8) s.converter s.at out a out'

      converted : {a : Walked} {out out' : List ℕ} → Converted a out out'
          → Agrees a (place_of s.converter) (row_no s) s.at out out' (block s.converter.mode w.rs (carry_of s.converter) t)
      converted {a} {out} {out'} m =
          let x = named-element in
          let c = s.converter in
          subst (λ (y : Context). Agrees a (place_of c) (row_no s) s.at out out' (convert levels y t (carry_of c)))
          (outside-context w.rs c w.outside)
          (m w.rs w.ready t (part-spells x e n is_e is_n) levels (omega (arith, x.end, w.few)))

      pub stepped-on :
          {out out' out'' : List ℕ} {c : Converter} {at : ℕ} → out'' ≡ out' → Converted (went_with c at) out out'
          → Stepped rules index rows text s w.rs t g out
          (Ok (record { block = s.block + 1; i = s.i + e; j = s.j + n; at = at; converter = c })) out''
      stepped-on {out} {c = c} {at} q m =
          let x = named-element in
          let re = rows-e x e n is_e is_n in
          let tn = text-n x e n is_e is_n in
          record {
            past = record {
              counted = refl;
              row = omega arith;
              spells = past-exact x e n is_e is_n w.spells;
              low = omega (arith, x.end);
              begun = omega (arith, x.stop);
            };
            agrees =
                let o = block s.converter.mode w.rs (carry_of s.converter) t in
                subst (λ x. Agrees (went_with c at) (place_of s.converter) (row_no s) s.at out x o) (sym q) (converted m);
          }

      pub stepped-refused :
          {out out' out'' : List ℕ} {c : Converter} {at : ℕ} (f : Refusal) → Converted (walked_by c at (Err f)) out out'
          → Stepped rules index rows text s w.rs t g out (Err f) out''
      stepped-refused f m = record { past = tt; agrees = agrees-stops f (converted m) }

    -- after the block
    module _ {out out' : List ℕ} {r : Standing} (p : Stepped rules index rows text s w.rs t g out (Ok r) out') where
      pub fine : Good (went_with r.converter r.at) (place_of s.converter)
      fine = agrees-good p.agrees refl

      pub same-mode : r.converter.mode ≡ s.converter.mode
      same-mode = ap (λ (q : Place). q.mode) fine.placed_so

      abbrev pub onward : BlocksGiven rules index rows text r
      onward =
          record {
            rs = w.rs;
            ready = w.ready;
            blocks = g;
            spells = p.past.spells;
            low = p.past.low;
            begun = p.past.begun;
            few = w.few;
            short = w.short;
            place = fine.place;
            outside = record {
              env = ap (λ (q : Place). q.env) fine.placed_so ∙ w.outside.env;
              indent = ap (λ (q : Place). q.indent) fine.placed_so ∙ w.outside.indent;
              label = fine.short;
            };
          }
