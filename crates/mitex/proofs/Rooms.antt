-- What one walk is given by another, and what becomes of its answer: a refusal is handed on, and whoever went on stands where it stood.
use mathlib.Core.Path.{◌≡◌, refl, sym, ap, subst, ◌∙◌}
use mathlib.Core.List.{List}
use Prim.Native.Nat.{ℕ, ◌+◌, ◌-◌, ◌≤◌, ◌<◌}
use native.Mathlib.Omega.{arith}
use lib.ListN.{length}
use Rattle.std.specs.Prelude.{Result, Ok, Err}
use Rattle.std.specs.Result.{IsErrAnd}
use Rattle.refusals.specs.Refusals.{refusal_number}
use Rattle.refusals.specs.declared.Reason.{Reason}
use Rattle.refusals.specs.declared.Refusal.{Refusal}
use Rattle.text.specs.Writing.{cap, Wrote}
use Rattle.text.proofs.Writing.{wrote_then}
use Rattle.mitex_spec.specs.Rules.{Rule}
use Rattle.mitex_spec.specs.Index.{SomeRules}
use Rattle.mitex_syntax.specs.Tree.{Forest, sizes}
use Rattle.mitex_syntax.specs.Spells.{SpellsAll, Begins, SomeTree}
use Rattle.mitex_syntax.proofs.Trees.{all-begins}
use Rattle.mitex_meaning.specs.Outcome.{Arm, Context, Outcome, after, closing, step_of, label_most}
use Rattle.mitex_meaning.specs.Outcome.Outcome.{refused}
use Rattle.mitex_meaning.specs.State.{carry_of, context_of, placed, with_mode, exited_env}
use Rattle.mitex_meaning.specs.Contract.{Place, place_of, Agrees, went_with, walked_by}
use Rattle.mitex_meaning.specs.Contract.Agrees.{declines, accepts}
use Rattle.mitex_meaning.specs.declared.LaTeXMode.{LaTeXMode}
use Rattle.mitex_meaning.specs.declared.LaTeXEnv.{LaTeXEnv}
use Rattle.mitex_meaning.specs.declared.LaTeXEnv.TheVariants.{None, Figure, Table, Itemize, Enumerate, Math, Matrix, Cases, SubStack, MathCurlyGroup}
use Rattle.mitex_meaning.specs.declared.Converter.{Converter}
use Rattle.mitex_meaning.specs.Contract.{Walked}
use Rattle.mitex_meaning.proofs.Agreeing.{Good, number-some, agrees-good, agrees_after}
use Rattle.mitex_meaning.specs.declared.Act.{Act}
use Rattle.mitex.specs.Walks.{Room, Siblings, Walks, Turns}

-- ---- refusals

-- refused at the row of the node
pub refused-here :
    {c : Converter} {at₁ : ℕ} (r : Reason) {x : Place} {row at : ℕ} {out out' : List ℕ}
    → Agrees (walked_by c at₁ (Err (record { reason = r; row = row }))) x row at out out' (refused (refusal_number r) 0)
refused-here r = declines (number-some r) refl (omega arith)

-- what was refused stays so, in whatever place and whatever is written around it
pub handed-on :
    {a b : Walked} {x y : Place} {row at at' : ℕ} {out out' out₁ out₂ : List ℕ} {o : Outcome} (around : Outcome → Outcome)
    → ((n r : ℕ) → around (refused n r) ≡ refused n r) → 0 < a.refusal → b.refusal ≡ a.refusal → b.row ≡ a.row
    → Agrees a x row at out out' o → Agrees b y row at' out₁ out₂ (around o)
handed-on {b = b} {y = y} {row = row} {at' = at'} {out₁ = out₁} {out₂ = out₂} around same some u v (declines {n} {r} h q s) =
    subst (Agrees b y row at' out₁ out₂) (sym (same n r)) (declines h (u ∙ q) (v ∙ s))
handed-on around same some u v (accepts z ex ec k w) = absurd (omega arith)

-- the refusal that `?` hands on
pub handed-by :
    (c' : Converter) (p' : ℕ) {c : Converter} {p : ℕ} (r : Result (Unit {0}) Refusal) (e : Refusal) {x y : Place} {row at at' : ℕ} {out out' out₁ out₂ : List ℕ}
    {o : Outcome} (around : Outcome → Outcome) → ((n m : ℕ) → around (refused n m) ≡ refused n m) → IsErrAnd r (λ b. b ≡ e)
    → Agrees (record { converter = c; at = p; refusal = refusal_number e.reason; row = e.row }) x row at out out' o
    → Agrees (walked_by c' p' r) y row at' out₁ out₂ (around o)
handed-by c' p' (Ok u) e around same h m = absurd h
handed-by c' p' (Err b) e around same h m =
    handed-on around same (number-some e.reason) (ap (λ (s : Refusal). refusal_number s.reason) h) (ap (λ (s : Refusal). s.row) h) m

pub told-as :
    (c : Converter) (p : ℕ) (r : Result (Unit {0}) Refusal) (e : Refusal) → IsErrAnd r (λ b. b ≡ e) → (P : Walked → Type 0)
    → P (record { converter = c; at = p; refusal = refusal_number e.reason; row = e.row }) → P (walked_by c p r)
told-as c p (Ok u) e h P m = absurd h
told-as c p (Err b) e h P m = subst (λ (s : Refusal). P (record { converter = c; at = p; refusal = refusal_number s.reason; row = s.row })) (sym h) m

-- ---- elements that were walked over in another place

-- from the converter c, which stands in y, to d in x: the carry stays
pub record Back (c d : Converter) (y x : Place) : Type 0 where
  pub placed_so : place_of c ≡ y → place_of d ≡ x
  pub carry : carry_of d ≡ carry_of c
  pub short : d.label_len ≡ c.label_len

pub back-same : {c : Converter} {x : Place} → Back c c x x
back-same = record { placed_so = λ e. e; carry = refl; short = refl }

pub back-by : {c d e : Converter} {x y z : Place} → Back c d z y → Back d e y x → Back c e z x
back-by p q = record { placed_so = λ s. q.placed_so (p.placed_so s); carry = q.carry ∙ p.carry; short = q.short ∙ p.short }

-- out of a mode
pub back-mode :
    {c d : Converter} (x : Place) (m : LaTeXMode) {prev : LaTeXMode} → prev ≡ x.mode → d ≡ with_mode prev c
    → Back c d (record { mode = m; env = x.env; indent = x.indent }) x
back-mode {c} {d} x m {prev} e h =
    record {
      placed_so =
          λ s. ap place_of h
          ∙ (λ i. record { mode = e i; env = (ap (λ (p : Place). p.env) s) i; indent = (ap (λ (p : Place). p.indent) s) i });
      carry = ap carry_of h;
      short = ap (λ (k : Converter). k.label_len) h;
    }

-- out of an environment
pub back-env :
    {c d : Converter} (x : Place) (v : LaTeXEnv) {prev : LaTeXEnv} → prev ≡ x.env → d ≡ exited_env prev c
    → Back c d (record { mode = x.mode; env = v; indent = x.indent + step_of v }) x
back-env {c} {d} x v {prev} e h =
    record {
      placed_so =
          λ s. let less : x.indent + step_of v - step_of v ≡ x.indent = omega arith in
          ap place_of h
          ∙ (λ i. record {
            mode = (ap (λ (p : Place). p.mode) s) i;
            env = e i;
            indent = (ap (λ (p : Place). p.indent - step_of p.env) s ∙ less) i;
          });
      carry = ap carry_of h;
      short = ap (λ (k : Converter). k.label_len) h;
    }

-- ---- elements between two texts

-- a text is written after elements
pub closed :
    {c d : Converter} {y x : Place} {row at p q : ℕ} {out out₁ out₂ v : List ℕ} {o : Outcome} → length out ≤ cap
    → Agrees (went_with c p) y row at out out₁ o → Wrote p out₁ v q out₂ → Back c d y x → Agrees (went_with d q) x row at out out₂ (closing v o)
closed h (declines g u s) w b = absurd (omega arith)
closed h (accepts u ex ec k wr) w b =
    accepts refl (b.placed_so ex) (b.carry ∙ ec) (omega (arith, b.short)) (wrote_then h wr w)

-- nothing is
pub moved :
    {c d : Converter} {y x : Place} {row at p : ℕ} {out out₁ : List ℕ} {o : Outcome} → Agrees (went_with c p) y row at out out₁ o
    → Back c d y x → Agrees (went_with d p) x row at out out₁ o
moved (declines g u s) b = absurd (omega arith)
moved (accepts u ex ec k wr) b = accepts refl (b.placed_so ex) (b.carry ∙ ec) (omega (arith, b.short)) wr

-- what was read of all children holds of the elements
pub as-children :
    {f : Forest} {rows text rows' text' : List ℕ} → rows' ≡ rows → text' ≡ text → SpellsAll f rows text → Begins f rows' text'
as-children {f} {rows} {text} {rows'} {text'} er et sp =
    subst (λ (s : List ℕ). Begins f rows' s) (sym et) (subst (λ (l : List ℕ). Begins f l text) (sym er) (all-begins sp))

-- from a converter that is told in another way
pub walks-from :
    {rules index rows text : List ℕ} {row : ℕ} {c d : Converter} {at : ℕ} {out : List ℕ} {a : Walked} {out' : List ℕ} (arm : Arm) → c ≡ d
    → Walks rules index rows text row c at out a out' arm → Walks rules index rows text row d at out a out' arm
walks-from {rules} {index} {rows} {text} {row} {at = at} {out = out} {a = a} {out' = out'} arm e m =
    subst (λ (k : Converter). Walks rules index rows text row k at out a out' arm) e m

-- out of an environment that was set as it is
pub back-set :
    {c : Converter} (x : Place) (v : LaTeXEnv)
    → Back c (placed c.mode x.env c.indent c) (record { mode = x.mode; env = v; indent = x.indent }) x
back-set {c} x v =
    record {
      placed_so = λ s. (λ i. record { mode = (ap (λ (p : Place). p.mode) s) i; env = x.env; indent = (ap (λ (p : Place). p.indent) s) i });
      carry = refl;
      short = refl;
    }

-- an environment that was entered can be left
pub leaves : (c : Converter) (m : LaTeXMode) (v : LaTeXEnv) (n : ℕ) → place_of c ≡ record { mode = m; env = v; indent = n + step_of v }
    → step_of c.env ≤ c.indent
leaves c m v n e = omega (arith, ap (λ (p : Place). step_of p.env) e, ap (λ (p : Place). p.indent) e)

-- how far an environment indents
pub step_small : (v : LaTeXEnv) → step_of v ≤ 2
step_small None = omega arith
step_small Figure = omega arith
step_small Table = omega arith
step_small Itemize = omega arith
step_small Enumerate = omega arith
step_small Math = omega arith
step_small Matrix = omega arith
step_small Cases = omega arith
step_small SubStack = omega arith
step_small MathCurlyGroup = omega arith

-- behind a walk in an environment there is room for another over the same rows
pub room-on :
    {rows : List ℕ} {k d : Converter} (m : LaTeXMode) (v : LaTeXEnv) → Room 8 rows k
    → place_of d ≡ record { mode = m; env = v; indent = k.indent + step_of v } → d.label_len ≤ label_most → Room 0 rows d
room-on m v r e l = record { deep = omega (arith, r.deep, step_small v, ap (λ (p : Place). p.indent) e); label = l }

-- ---- children and parts, as the code has them

pub exact-children :
    {f : Forest} {rows text rows' text' : List ℕ} → rows' ≡ rows → text' ≡ text → SpellsAll f rows text → SpellsAll f rows' text'
exact-children {f} {rows} {text} {rows'} {text'} er et sp =
    subst (λ (s : List ℕ). SpellsAll f rows' s) (sym et) (subst (λ (l : List ℕ). SpellsAll f l text) (sym er) sp)

-- what was found of all children holds of the elements
pub found-by :
    {rows text rows' text' : List ℕ} (P : Forest → List ℕ → List ℕ → Type 0) → rows' ≡ rows → text' ≡ text
    → ((f : Forest) → SpellsAll f rows' text' → P f rows' text') → (f : Forest) → SpellsAll f rows text → P f rows text
found-by {rows} {text} {rows'} {text'} P er et m f sp =
    subst (λ (l : List ℕ). P f l text) er (subst (λ (s : List ℕ). P f rows' s) et (m f (exact-children er et sp)))

pub walks-at :
    {rules index rows text rows' text' : List ℕ} {row row' : ℕ} (c : Converter) {at : ℕ} {out : List ℕ} {a : Walked} {out' : List ℕ} (arm : Arm)
    → rows' ≡ rows → text' ≡ text → row' ≡ row → Walks rules index rows' text' row' c at out a out' arm
    → Walks rules index rows text row c at out a out' arm
walks-at {rules} {index} {rows} {text} {rows'} {text'} {row} {row'} c {at} {out} {a} {out'} arm er et eo m =
    subst (λ (l : List ℕ). Walks rules index l text row c at out a out' arm) er
    (subst (λ (s : List ℕ). Walks rules index rows' s row c at out a out' arm) et
    (subst (λ (n : ℕ). Walks rules index rows' text' n c at out a out' arm) eo m))

pub turns-at :
    {rules index rows text rows' text' : List ℕ} {row row' : ℕ} (c : Converter) {at : ℕ} {out : List ℕ} {a : Walked} {out' : List ℕ} (act : Act)
    → rows' ≡ rows → text' ≡ text → row' ≡ row → Turns rules index rows' text' row' c at out a out' act
    → Turns rules index rows text row c at out a out' act
turns-at {rules} {index} {rows} {text} {rows'} {text'} {row} {row'} c {at} {out} {a} {out'} act er et eo m =
    subst (λ (l : List ℕ). Turns rules index l text row c at out a out' act) er
    (subst (λ (s : List ℕ). Turns rules index rows' s row c at out a out' act) et
    (subst (λ (n : ℕ). Turns rules index rows' text' n c at out a out' act) eo m))

pub room-at : {slack : ℕ} {rows rows' : List ℕ} {c : Converter} → rows' ≡ rows → Room slack rows c → Room slack rows' c
room-at {slack} {c = c} e r = subst (λ (l : List ℕ). Room slack l c) (sym e) r

pub some-at : {rows text rows' text' : List ℕ} → rows' ≡ rows → text' ≡ text → SomeTree rows text → SomeTree rows' text'
some-at {rows} {text} {rows'} {text'} er et g = subst (λ (l : List ℕ). SomeTree l text') (sym er) (subst (SomeTree rows) (sym et) g)

-- ---- what was walked over

-- by the place of the converter that was lent
pub agrees-in :
    (rs : List Rule) (T : Context → Outcome) (d : Converter) {x : Place} {a : Walked} {row at : ℕ} {out out' : List ℕ} → place_of d ≡ x
    → Agrees a (place_of d) row at out out' (T (context_of rs d))
    → Agrees a x row at out out' (T (record { rules = rs; mode = x.mode; env = x.env; indent = x.indent }))
agrees-in rs T d {a = a} {row = row} {at = at} {out = out} {out' = out'} e m =
    subst (λ (p : Place). Agrees a p row at out out' (T (record { rules = rs; mode = p.mode; env = p.env; indent = p.indent }))) e m

-- a text, elements and a text
pub framed :
    {c d : Converter} {y x : Place} {row at p q r : ℕ} {out out₁ out₂ out₃ w v : List ℕ} {o : Outcome} → length out ≤ cap
    → Wrote at out w p out₁ → length out₁ ≤ cap → Agrees (went_with c q) y row p out₁ out₂ o → Wrote q out₂ v r out₃ → Back c d y x
    → Agrees (went_with d r) x row at out out₃ (after w (closing v o))
framed room begun room₁ m ended b = agrees_after room begun (closed room₁ m ended b)

-- a walk that was not refused leaves a place in the text and a label that is not too long
pub walks-good :
    {rules index rows text : List ℕ} {row : ℕ} (c : Converter) {at : ℕ} {out : List ℕ} {a : Walked} {out' : List ℕ} (arm : Arm)
    → SomeRules rules index → Siblings rows text → Walks rules index rows text row c at out a out' arm → a.refusal ≡ 0 → Good a (place_of c)
walks-good c arm s g m z = agrees-good (m s.rules s.ready g.forest g.spells (sizes g.forest) (omega arith)) z
