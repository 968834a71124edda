-- A run of tokens: what the first rows say of a token (`Head`), what it comes to in a plain loop, and how far the loop has gone (`RanTo`), to
-- which each further run is added.
use mathlib.Core.Path.{◌≡◌, refl, sym, ap, subst, ◌∙◌}
use mathlib.Core.Bool.{Bool}
use mathlib.Core.List.{List, [], ◌++◌}
use Prim.Native.Nat.{ℕ, zero, suc, ◌+◌, ◌*◌, ◌-◌, ◌/◌, ◌≤◌, ◌<◌, ◌^◌}
use native.Mathlib.Omega.{arith}
use lib.ListN.{length, take, drop, get_or, length-append, length-drop}
use lib.Seq.{take_at, drop-drop, get_or-drop}
use Rattle.std.specs.Prelude.{Result, Ok, Err}
use Rattle.refusals.specs.Refusals.{refusal_number}
use Rattle.refusals.specs.declared.Reason.{Reason}
use Rattle.refusals.specs.declared.Refusal.{Refusal}
use Rattle.text.specs.Writing.{cap}
use Rattle.text.proofs.Writing.{part-rest}
use Rattle.text.specs.declared.output.Output.{Output}
use Rattle.text.proofs.Outputs.{puts_then}
use Rattle.mitex_spec.specs.Rules.{Rule}
use Rattle.mitex_syntax.specs.Rows.{num_of}
use Rattle.mitex_syntax.specs.Tree.{Tree, Forest, size, sizes, rows_of, rows_ofs, text_of, texts_of}
use Rattle.mitex_syntax.specs.Tree.Tree.{token, node}
use Rattle.mitex_syntax.specs.Tree.Forest.{none, more}
use Rattle.mitex_syntax.specs.Spells.{SpellsAll}
use Rattle.mitex_syntax.specs.declared.Span.{Span}
use Rattle.mitex_syntax.proofs.Trees.{length-rowss, others-exact}
use Rattle.mitex_syntax.proofs.Tokens.{token-number}
use Rattle.mitex_meaning.specs.Outcome.{Context, Label, Carry, Outcome, after, and_then, closing, shift}
use Rattle.mitex_meaning.specs.Outcome.Outcome.{refused}
use Rattle.mitex_meaning.specs.State.{context_of, with_flag}
use Rattle.mitex_meaning.specs.Tokens.{token_out}
use Rattle.mitex_meaning.specs.declared.Converter.{Converter}
use Rattle.mitex_meaning.specs.Children.{turn, each}
use Rattle.mitex_meaning.specs.Conversion.{step, convert}
use Rattle.mitex_meaning.specs.declared.Loop.TheVariants.{Plain}
use Rattle.mitex_meaning.specs.declared.Act.TheVariants.{Convert}
use Rattle.mitex_meaning.proofs.Outcomes.{after-nil, after-after, closing-nil}
use Rattle.mitex_meaning.proofs.Loops.{turn-converts, each_more}
use Rattle.mitex_tokens.specs.Comes.{carrying, Comes}
use Rattle.mitex_tokens.specs.Runs.{RunGiven, Gone, Ran, Stops, StopsAt}
use Rattle.mitex_tokens.proofs.Coming.{passed, refused-so, uniform-token}

abbrev pub span : ℕ → ℕ → Span
span i j = record { rows = i; text = j }

-- ---- the first token of a forest, by its row and the text

abbrev pub head_of : List ℕ → List ℕ → Tree
head_of rows text = token (get_or rows 0 0) (take (num_of rows) text)

pub record Head (f : Forest) (rows text : List ℕ) : Type 0 where
  pub others : Forest
  pub is : f ≡ more (head_of rows text) others
  pub some : 8 ≤ length rows
  pub fits : num_of rows ≤ length text
  pub rest : SpellsAll others (drop 8 rows) (drop (num_of rows) text)

pub head :
    (f : Forest) {rows text : List ℕ} → SpellsAll f rows text → 0 < length rows → get_or rows 1 0 ≡ 1 → length text < cap → Head f rows text
unfolding rows_of text_of size
head none sp h e short = absurd (omega (arith, ap length sp.rows_are))
head (more (node k g) f) sp h e short = absurd (omega (arith, e, ap (λ (l : List ℕ). get_or l 1 0) sp.rows_are))
head (more (token k s) f) {rows} {text} sp h e short =
    let er = sp.rows_are in
    let et = sp.text_is in
    let lt = ap length et ∙ length-append s (texts_of f) in
    let n : num_of rows ≡ length s = ap num_of er ∙ token-number (token k s) (rows_ofs f) refl (omega arith) in
    let t : take (num_of rows) text ≡ s
    = ap (λ (m : ℕ). take m text) n ∙ ap (take (length s)) et ∙ take_at s (texts_of f) (length s) refl in
    let kind : k ≡ get_or rows 0 0 = sym (ap (λ (l : List ℕ). get_or l 0 0) er) in
    let is : token k s ≡ head_of rows text = ap (λ (m : ℕ). token m s) kind ∙ ap (token (get_or rows 0 0)) (sym t) in
    record {
      others = f;
      is = ap (λ (u : Tree). more u f) is;
      some = omega (arith, ap length er);
      fits = omega arith;
      rest = subst (λ (m : ℕ). SpellsAll f (drop 8 rows) (drop m text)) (sym n) (others-exact sp);
    }

-- elements are whole rows
pub rows-eight : {f : Forest} {rows text : List ℕ} → SpellsAll f rows text → 0 < length rows → 8 ≤ length rows
rows-eight {f} sp h = omega (arith, ap length sp.rows_are, length-rowss f)

-- ---- a token in the loop

turn-token : (n : ℕ) (x : Context) (k : ℕ) (s : List ℕ) (c : Carry) → 1 ≤ n → turn (convert n x) Convert (token k s) c ≡ token_out x k s c
unfolding convert step
turn-token zero x k s c h = absurd (omega arith)
turn-token (suc n) x k s c h =
    turn-converts (convert (suc n) x) Convert (token k s) c refl ∙ after-nil (closing [] (token_out x k s c)) ∙ closing-nil (token_out x k s c)

pub each-token :
    (n : ℕ) (x : Context) (o : ℕ) (k : ℕ) (s : List ℕ) (f : Forest) (c : Carry) → 1 ≤ n → each (convert n x) o Plain (more (token k s) f) c
    ≡ and_then (shift o (token_out x k s c)) (each (convert n x) (o + 1) Plain f)
unfolding size
each-token n x o k s f c h =
    each_more (convert n x) o Plain (token k s) f c
    ∙ ap (λ (p : Outcome). and_then (shift o p) (each (convert n x) (o + 1) Plain f)) (turn-token n x k s c h)

-- ---- the first token alone, as a run; its text has u bytes

module _ {rows text : List ℕ} (given : RunGiven rows text) (mark : get_or rows 1 0 ≡ 1) {u : ℕ} (e : u ≡ num_of rows) where
  pub first-fits : u ≤ length text
  first-fits = omega (arith, (head given.forest given.spells given.some mark given.short).fits)

  module _ (x : Context) (flag : Bool) {b : Bool} {o o2 : Output} {r : Result (Unit {0}) Reason}
      (m : (l : Label) → Comes r b l o o2 (token_out x (get_or rows 0 0) (take u text) (carrying flag l))) where
    module _ (f : Forest) (n : ℕ) (sp : SpellsAll f rows text) (q : sizes f ≤ n) where
      abbrev there : Head f rows text
      there = head f sp given.some mark given.short

      fewer : 1 + sizes there.others ≤ sizes f
      unfolding size
      fewer = omega (arith, ap sizes there.is)

      -- the whole where the token comes to y
      abbrev whole : ℕ → Outcome → Outcome
      whole k y = and_then (shift k y) (each (convert n x) (k + 1) Plain there.others)

      goes_on :
          (l : Label) (k : ℕ) → each (convert n x) k Plain f (carrying flag l)
          ≡ whole k (token_out x (get_or rows 0 0) (take u text) (carrying flag l))
      goes_on l k =
          ap (λ (y : Forest). each (convert n x) k Plain y (carrying flag l)) there.is
          ∙ each-token n x k (get_or rows 0 0) (take (num_of rows) text) there.others (carrying flag l) (omega (arith, fewer))
          ∙ ap (λ (y : ℕ). whole k (token_out x (get_or rows 0 0) (take y text) (carrying flag l))) (sym e)

      gone-first : r ≡ Ok tt → Gone x flag f n rows text o (span 8 u) b o2
      gone-first z =
          let g = passed (uniform-token x (get_or rows 0 0) (take u text) flag) m z in
          record {
            forest = there.others;
            spells = subst (λ (y : ℕ). SpellsAll there.others (drop 8 rows) (drop y text)) (sym e) there.rest;
            fits = omega (arith, fewer);
            written = g.written;
            wrote = g.puts;
            is = λ l k. goes_on l k ∙ ap (whole k) (g.is l);
          }

    pub first_runs : r ≡ Ok tt → Ran x flag rows text o b o2 (span 8 u)
    first_runs z =
        record {
          high = rows-eight given.spells given.some;
          stop = first-fits;
          some = omega arith;
          goes = λ f n sp q. gone-first f n sp q z;
        }

    pub first-refused : {y : Reason} → r ≡ Err y → Stops x flag rows text (refusal_number y) 0
    first-refused z =
        let some = given.some in
        record {
          high = omega arith;
          refuses = λ f n l k sp q. goes_on f n sp q l k ∙ ap (whole f n sp q k) (refused-so (m l) z);
        }

-- ---- how far a loop has gone

-- the loop over what is spelt goes on behind i bytes of rows and j of text
pub record RanTo (x : Context) (flag : Bool) (rows text : List ℕ) (o : Output) (i j : ℕ) (b : Bool) (o2 : Output) : Type 0 where
  pub high : i ≤ length rows
  pub stop : j ≤ length text
  pub whole : i ≡ 8 * (i / 8)
  pub goes : (f : Forest) (n : ℕ) → SpellsAll f rows text → sizes f ≤ n → Gone x flag f n rows text o (span i j) b o2

module _ {x : Context} {flag : Bool} {rows text : List ℕ} {o : Output} {i j : ℕ} {b : Bool} {o2 : Output} (given : RunGiven rows text)
    (p : RanTo x flag rows text o i j b o2) where
  gone-given : Gone x flag given.forest (sizes given.forest) rows text o (span i j) b o2
  gone-given = p.goes given.forest (sizes given.forest) given.spells (omega arith)

  pub row-fits : i < length rows → i + 8 ≤ length rows
  row-fits h =
      let l = length-drop i rows in
      omega (arith, rows-eight gone-given.spells (omega arith))

  -- what a further run is given, and as a part of the rows and of the text
  rest_plain : i < length rows → RunGiven (drop i rows) (drop j text)
  rest_plain h =
      record {
        forest = gone-given.forest;
        spells = gone-given.spells;
        few = omega (arith, given.few, length-drop i rows);
        short = omega (arith, given.short, length-drop j text);
        some = omega (arith, length-drop i rows);
      }

  pub rest-given : i < length rows → RunGiven (take (length rows - i) (drop i rows)) (take (length text - j) (drop j text))
  rest-given h =
      subst (λ (y : List ℕ). RunGiven y (take (length text - j) (drop j text))) (sym (part-rest rows i))
      (subst (λ (y : List ℕ). RunGiven (drop i rows) y) (sym (part-rest text j)) (rest_plain h))

  pub rest-mark : get_or rows (i + 1) 0 ≡ 1 → get_or (take (length rows - i) (drop i rows)) 1 0 ≡ 1
  rest-mark mark = ap (λ (y : List ℕ). get_or y 1 0) (part-rest rows i) ∙ get_or-drop i rows 1 0 ∙ mark

-- a run that begins where the loop has gone to, by the parts that the code has
module _ {x : Context} {flag : Bool} {rows text : List ℕ} {o : Output} {i j : ℕ} {b : Bool} {o2 : Output} (given : RunGiven rows text)
    (p : RanTo x flag rows text o i j b o2) where
  module _ {s : Span} {d : Bool} {o3 : Output}
      (part : Ran x b (take (length rows - i) (drop i rows)) (take (length text - j) (drop j text)) o2 d o3 s) where
    q : Ran x b (drop i rows) (drop j text) o2 d o3 s
    q =
        subst (λ (y : List ℕ). Ran x b y (drop j text) o2 d o3 s) (part-rest rows i)
        (subst (λ (y : List ℕ). Ran x b (take (length rows - i) (drop i rows)) y o2 d o3 s) (part-rest text j) part)

    -- where it ends
    pub part-high : i + s.rows ≤ length rows
    part-high = omega (arith, q.high, length-drop i rows, p.high)

    pub part-stop : j + s.text ≤ length text
    part-stop = omega (arith, q.stop, length-drop j text, p.stop)

    -- what it spells are whole rows
    part-whole : s.rows ≡ 8 * (s.rows / 8)
    part-whole =
        let g = p.goes given.forest (sizes given.forest) given.spells (omega arith) in
        let k = q.goes g.forest (sizes g.forest) g.spells (omega arith) in
        omega (
          arith,
          q.high,
          length-drop s.rows (drop i rows),
          ap length g.spells.rows_are,
          length-rowss g.forest,
          ap length k.spells.rows_are,
          length-rowss k.forest,
        )

    gone-on :
        (f : Forest) (n : ℕ) → SpellsAll f rows text → sizes f ≤ n → Gone x flag f n rows text o (span (i + s.rows) (j + s.text)) d o3
    gone-on f n sp h =
        let g = p.goes f n sp h in
        let k = q.goes g.forest n g.spells (omega (arith, g.fits)) in
        record {
          forest = k.forest;
          spells =
              subst (λ (y : List ℕ). SpellsAll k.forest y (drop (j + s.text) text)) (drop-drop s.rows i rows)
              (subst (λ (y : List ℕ). SpellsAll k.forest (drop s.rows (drop i rows)) y) (drop-drop s.text j text) k.spells);
          fits = omega (arith, g.fits, k.fits);
          written = g.written ++ k.written;
          wrote = puts_then g.wrote k.wrote;
          is =
              λ c m.
              let row : m + i / 8 + s.rows / 8 ≡ m + (i + s.rows) / 8 = omega (arith, p.whole) in
              g.is c m
              ∙ ap (after g.written) (k.is c (m + i / 8))
              ∙ after-after g.written k.written (each (convert n x) (m + i / 8 + s.rows / 8) Plain k.forest (carrying d c))
              ∙ ap (λ (y : ℕ). after (g.written ++ k.written) (each (convert n x) y Plain k.forest (carrying d c))) row;
        }

    pub ran-part : RanTo x flag rows text o (i + s.rows) (j + s.text) d o3
    ran-part = record { high = part-high; stop = part-stop; whole = omega (arith, p.whole, part-whole); goes = gone-on }

  -- or its first element is refused, so many rows behind `row`
  module _ {number : ℕ} (part : Stops x b (take (length rows - i) (drop i rows)) (take (length text - j) (drop j text)) number 0) where
    r : Stops x b (drop i rows) (drop j text) number 0
    r =
        subst (λ (y : List ℕ). Stops x b y (drop j text) number 0) (part-rest rows i)
        (subst (λ (y : List ℕ). Stops x b (take (length rows - i) (drop i rows)) y number 0) (part-rest text j) part)

    stops-part : Stops x flag rows text number (i / 8)
    stops-part =
        record {
          high = omega (arith, r.high, length-drop i rows, p.whole);
          refuses =
              λ f n c m sp h.
              let g = p.goes f n sp h in
              let row : m + i / 8 + 0 ≡ m + i / 8 = omega arith in
              g.is c m
              ∙ ap (after g.written) (r.refuses g.forest n c (m + i / 8) g.spells (omega (arith, g.fits)))
              ∙ ap (refused number) row;
        }

    pub stops_at : {e : Refusal} (row : ℕ) → refusal_number e.reason ≡ number → (row + length rows < 2 ^ 64 → e.row ≡ row + 1 + i / 8)
        → StopsAt x flag rows text row e
    stops_at {e} row h k =
        record { below = i / 8; stops = subst (λ (y : ℕ). Stops x flag rows text y (i / 8)) (sym h) stops-part; is = k }

-- ---- the converter, of which the flag alone moves

pub flag-on :
    {a b : Converter} (c : Converter) → a ≡ with_flag a.skip_next_space b → b ≡ with_flag b.skip_next_space c → a ≡ with_flag a.skip_next_space c
flag-on {a} c e f = e ∙ ap (with_flag a.skip_next_space) f

module _ (rs : List Rule) {b : Converter} (c : Converter) (e : b ≡ with_flag b.skip_next_space c) {flag : Bool} {rows text : List ℕ} where
  pub ran-in :
      {o o2 : Output} {d : Bool} {s : Span} → Ran (context_of rs b) flag rows text o d o2 s → Ran (context_of rs c) flag rows text o d o2 s
  ran-in {o} {o2} {d} {s} m = subst (λ (x : Context). Ran x flag rows text o d o2 s) (ap (context_of rs) e) m

  pub stops_in : {number below : ℕ} → Stops (context_of rs b) flag rows text number below → Stops (context_of rs c) flag rows text number below
  stops_in {number} {below} m = subst (λ (x : Context). Stops x flag rows text number below) (ap (context_of rs) e) m
