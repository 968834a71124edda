-- Words and white space that are copied: how far the loop over what is spelt has gone, with their texts as they are (`Copied`), and what
-- comes of it as a run (`copies-run`).
use mathlib.Core.Path.{◌≡◌, refl, sym, ap, subst, ◌∙◌}
use mathlib.Core.Bool.{Bool, true, false, ◌||◌}
use mathlib.Core.List.{List, []}
use Prim.Native.Nat.{ℕ, ◌+◌, ◌*◌, ◌/◌, ◌≤◌, ◌<◌}
use native.Mathlib.Nat.{add-zero}
use native.Mathlib.Omega.{arith}
use borrow.Author.Tests.{eqb-true}
use lib.Dec.{eqb}
use lib.ListN.{length, take, drop, get_or, length-drop}
use lib.Seq.{take-add, drop-drop, get_or-drop}
use Rattle.text.specs.Writing.{cap}
use Rattle.text.specs.Outputs.{Puts}
use Rattle.text.specs.declared.output.Output.{Output}
use Rattle.mitex_syntax.specs.Syntax.{TokenWord, TokenWhiteSpace}
use Rattle.mitex_syntax.specs.Rows.{num_of}
use Rattle.mitex_syntax.specs.Tree.{Forest, size, sizes}
use Rattle.mitex_syntax.specs.Spells.{SpellsAll}
use Rattle.mitex_syntax.proofs.Trees.{get_or-here}
use Rattle.mitex_meaning.specs.Outcome.{Context, Label, Outcome, after, and_then, shift}
use Rattle.mitex_meaning.specs.Outcome.Outcome.{done}
use Rattle.mitex_meaning.specs.Tokens.{word, token_out}
use Rattle.mitex_meaning.specs.Children.{each}
use Rattle.mitex_meaning.specs.Conversion.{convert, start_context}
use Rattle.mitex_meaning.specs.declared.LaTeXMode.{LaTeXMode}
use Rattle.mitex_meaning.specs.declared.LaTeXMode.TheVariants.{Text}
use Rattle.mitex_meaning.specs.declared.Loop.TheVariants.{Plain}
use Rattle.mitex_meaning.proofs.Outcomes.{after-nil, after-after}
use Rattle.mitex_tokens.specs.Comes.{carrying}
use Rattle.mitex_tokens.specs.Running.{is_copied}
use Rattle.mitex_tokens.specs.Runs.{RunGiven, Copies, Ran}
use Rattle.mitex_syntax.specs.declared.Span.{Span}
use Rattle.mitex_tokens.proofs.Tokens.{token-space, token-word}
use Rattle.mitex_tokens.proofs.Running.{Head, head, each-token, rows-eight, span}

-- such a token writes its text
copied-out :
    (x : Context) (k : ℕ) (s : List ℕ) (l : Label) → x.mode ≡ Text → is_copied k ≡ true
    → token_out x k s (carrying false l) ≡ done (carrying false l) s
copied-out x k s l t e = on (eqb k TokenWord) refl
  where
    on : (b : Bool) → eqb k TokenWord ≡ b → token_out x k s (carrying false l) ≡ done (carrying false l) s
    on true q = token-word x s (carrying false l) k (eqb-true k TokenWord q) ∙ ap (λ (m : LaTeXMode). done (carrying false l) (word m s)) t
    on false q =
        token-space x s (carrying false l) k (eqb-true k TokenWhiteSpace (ap (λ (b : Bool). b || eqb k TokenWhiteSpace) (sym q) ∙ e))

-- the loop over f goes on behind i bytes of rows and j of text, which is written
pub record CopiedTo (x : Context) (f : Forest) (n : ℕ) (rows text : List ℕ) (i j : ℕ) : Type 0 where
  pub forest : Forest
  pub spells : SpellsAll forest (drop i rows) (drop j text)
  pub fits : sizes forest ≤ sizes f
  pub is :
      (l : Label) (o : ℕ) → each (convert n x) o Plain f (carrying false l)
      ≡ after (take j text) (each (convert n x) (o + i / 8) Plain forest (carrying false l))

pub record Copied (x : Context) (rows text : List ℕ) (i j : ℕ) : Type 0 where
  pub stop : j ≤ length text
  pub whole : i ≡ 8 * (i / 8)
  pub goes : (f : Forest) (n : ℕ) → SpellsAll f rows text → sizes f ≤ n → CopiedTo x f n rows text i j

pub copied-start : (x : Context) (rows text : List ℕ) → Copied x rows text 0 0
copied-start x rows text =
    record {
      stop = omega arith;
      whole = refl;
      goes =
          λ f n sp q. record {
            forest = f;
            spells = sp;
            fits = omega arith;
            is =
                λ l o. sym (after-nil (each (convert n x) (o + 0) Plain f (carrying false l))
                ∙ ap (λ (m : ℕ). each (convert n x) m Plain f (carrying false l)) (add-zero o));
          };
    }

-- the next token
module _ {x : Context} {rows text : List ℕ} {i j : ℕ} (p : Copied x rows text i j) (t : x.mode ≡ Text) (short : length text < cap)
    (h : i < length rows) (mark : get_or rows (i + 1) 0 ≡ 1) (c : is_copied (get_or rows i 0) ≡ true) where
  module _ (f : Forest) (n : ℕ) (sp : SpellsAll f rows text) (q : sizes f ≤ n) where
    abbrev before : CopiedTo x f n rows text i j
    before = p.goes f n sp q

    abbrev there : Head before.forest (drop i rows) (drop j text)
    there =
        head before.forest before.spells (omega (arith, length-drop i rows)) (get_or-drop i rows 1 0 ∙ mark)
        (omega (arith, short, length-drop j text))

    abbrev kind : ℕ
    kind = get_or (drop i rows) 0 0

    abbrev said : List ℕ
    said = take (num_of (drop i rows)) (drop j text)

    fewer : 1 + sizes there.others ≤ sizes f
    unfolding size
    fewer = omega (arith, before.fits, ap sizes there.is)

    abbrev then : ℕ → Label → Outcome
    then o l = each (convert n x) o Plain there.others (carrying false l)

    goes_on :
        (l : Label) (o : ℕ) → each (convert n x) o Plain f (carrying false l) ≡ after (take j text) (after said (then (o + i / 8 + 1) l))
    goes_on l o =
        before.is l o
        ∙ ap (λ (y : Forest). after (take j text) (each (convert n x) (o + i / 8) Plain y (carrying false l))) there.is
        ∙ ap (after (take j text))
        (each-token n x (o + i / 8) kind said there.others (carrying false l) (omega (arith, fewer))
        ∙ ap (λ (y : Outcome). and_then (shift (o + i / 8) y) (each (convert n x) (o + i / 8 + 1) Plain there.others))
        (copied-out x kind said l t (ap is_copied (get_or-here rows i) ∙ c)))

    copied-to : CopiedTo x f n rows text (i + 8) (j + num_of (drop i rows))
    copied-to =
        record {
          forest = there.others;
          spells =
              subst (λ (y : List ℕ). SpellsAll there.others y (drop (j + num_of (drop i rows)) text)) (drop-drop 8 i rows)
              (subst (λ (y : List ℕ). SpellsAll there.others (drop 8 (drop i rows)) y) (drop-drop (num_of (drop i rows)) j text) there.rest);
          fits = omega (arith, fewer);
          is =
              λ l o.
              let row : o + i / 8 + 1 ≡ o + (i + 8) / 8 = omega arith in
              goes_on l o
              ∙ after-after (take j text) said (then (o + i / 8 + 1) l)
              ∙ ap (λ (y : List ℕ). after y (then (o + i / 8 + 1) l)) (sym (take-add j (num_of (drop i rows)) text))
              ∙ ap (λ (y : ℕ). after (take (j + num_of (drop i rows)) text) (then y l)) row;
        }

  pub copied_next : (f : Forest) → SpellsAll f rows text → Copied x rows text (i + 8) (j + num_of (drop i rows))
  copied_next f sp =
      record {
        stop = omega (arith, (there f (sizes f) sp (omega arith)).fits, length-drop j text, p.stop);
        whole = omega (arith, p.whole);
        goes = copied-to;
      }

-- ---- what was copied, in bytes

-- any context in Text
abbrev in_text : Context
in_text = start_context [] Text

module _ {rows text : List ℕ} {i j : ℕ} (p : (x : Context) → x.mode ≡ Text → Copied x rows text i j) where
  pub copied-stop : j ≤ length text
  copied-stop = (p in_text refl).stop

  -- rows are whole
  pub copied-row : {f : Forest} → SpellsAll f rows text → i < length rows → i + 8 ≤ length rows
  copied-row {f} sp h =
      let g = (p in_text refl).goes f (sizes f) sp (omega arith) in
      omega (arith, rows-eight g.spells (omega (arith, length-drop i rows)), length-drop i rows)

  -- once it is written
  pub copied-run : {o o2 : Output} → 8 ≤ i → i ≤ length rows → Puts o (take j text) o2 → Copies rows text o (span i j) o2
  copied-run some high wrote =
      record {
        some = some;
        high = high;
        stop = copied-stop;
        whole = (p in_text refl).whole;
        goes =
            λ x t f n sp q.
            let g = (p x t).goes f n sp q in
            record { forest = g.forest; spells = g.spells; fits = g.fits; written = take j text; wrote = wrote; is = g.is };
      }

-- ---- what was copied, as a run

pub copies-run : {x : Context} {rows text : List ℕ} {o o2 : Output} {s : Span} → x.mode ≡ Text → Copies rows text o s o2 → Ran x false rows text o false o2 s
copies-run {x} t q = record { high = q.high; stop = q.stop; some = q.some; goes = q.goes x t }

pub copies-lent :
    {rows text : List ℕ} {o o2 : Output} {s : Span} → RunGiven rows text → Copies rows text o s o2 → o2.buffer.ghost_name ≡ o.buffer.ghost_name
copies-lent g q = (q.goes in_text refl g.forest (sizes g.forest) g.spells (omega arith)).wrote.lent

pub copies-kept :
    {rows text : List ℕ} {o o2 : Output} {s : Span} → RunGiven rows text → Copies rows text o s o2 → length o2.buffer.now ≡ length o.buffer.now
copies-kept g q = (q.goes in_text refl g.forest (sizes g.forest) g.spells (omega arith)).wrote.kept
