-- Laws of answers that agree with outcomes: how agreement follows `after`, `closing`, `and_then` and `shift`.
use mathlib.Core.Path.{◌≡◌, refl, sym, ap, subst, ◌∙◌}
use mathlib.Core.Bool.{Bool}
use mathlib.Core.List.{List}
use Prim.Native.Nat.{ℕ, ◌+◌, ◌≤◌, ◌<◌}
use native.Mathlib.Omega.{arith}
use lib.ListN.{length}
use Rattle.text.specs.Writing.{cap, Wrote}
use Rattle.refusals.specs.Refusals.{refusal_number}
use Rattle.refusals.specs.declared.Reason.{Reason}
use Rattle.refusals.specs.declared.Reason.TheVariants.{NoMode, BadRules, BadLayout, TooDeep, BadShape, NoFit, Misplaced, UnlikeEnds, NoCommand, NoEnvironment, NoList, NoArgument, BadColumn, LongLabel, TooShort, OutOfPlace}
use Rattle.refusals.specs.declared.Refusal.{Refusal}
use Rattle.text.specs.declared.output.Output.{Output}
use Rattle.text.proofs.Writing.{wrote_then, wrote-low}
use Rattle.std.specs.Prelude.{Err}
use Rattle.std.proofs.Common.{lit<}
use Rattle.mitex_meaning.specs.Outcome.{Carry, Outcome, and_then, after, closing, shift, label_most}
use Rattle.mitex_meaning.specs.Outcome.Outcome.{refused, done}
use Rattle.mitex_meaning.specs.State.{carry_of}
use Rattle.mitex_meaning.specs.Contract.{Place, place_of, Agrees, went_with, refused_with, walked_by, Takes}
use Rattle.mitex_meaning.specs.Contract.Agrees.{declines, accepts}
use Rattle.mitex_meaning.specs.Environments.{taken, dropped, take_label}
use Rattle.mitex_meaning.specs.declared.LaTeXMode.{LaTeXMode}
use Rattle.mitex_meaning.specs.declared.Converter.{Converter}
use Rattle.mitex_meaning.specs.Contract.{Walked}

pub agrees-as :
    {o o' : Outcome} {a : Walked} {x : Place} {row at : ℕ} {out out' : List ℕ} → o ≡ o' → Agrees a x row at out out' o'
    → Agrees a x row at out out' o
agrees-as {o} {o'} {a} {x} {row} {at} {out} {out'} e m = subst (Agrees a x row at out out') (sym e) m

-- an answer that is no refusal
pub record Good (a : Walked) (x : Place) : Type 0 where
  pub place : a.at ≤ cap
  pub short : a.converter.label_len ≤ label_most
  pub placed_so : place_of a.converter ≡ x

module _ {a : Walked} {x : Place} {row at : ℕ} {out out' : List ℕ} where
  pub agrees-done :
      {c : Carry} {w : List ℕ} {p : ℕ} (d : Converter) → a ≡ went_with d p → place_of d ≡ x → carry_of d ≡ c → d.label_len ≤ label_most
      → Wrote at out w p out' → Agrees a x row at out out' (done c w)
  agrees-done {c} {w} d g ex ec l wr = subst (λ (b : Walked). Agrees b x row at out out' (done c w)) (sym g) (accepts refl ex ec l wr)

  pub agrees-refused : {d : Converter} {n : ℕ} (r : ℕ) → 0 < n → a ≡ refused_with d n (row + r) → Agrees a x row at out out' (refused n r)
  agrees-refused {d} {n} r h e = subst (λ (b : Walked). Agrees b x row at out out' (refused n r)) (sym e) (declines h refl refl)

  -- refused at the element's own row
  pub agrees-here : {d : Converter} {n : ℕ} → 0 < n → a ≡ refused_with d n row → Agrees a x row at out out' (refused n 0)
  agrees-here {d} {n} h e = agrees-refused 0 h (e ∙ ap (refused_with d n) (let z : row ≡ row + 0 = omega arith in z))

  -- what comes to a text is no refusal
  pub agrees-well : {o : Outcome} {c : Carry} {w : List ℕ} → o ≡ done c w → Agrees a x row at out out' o → a.refusal ≡ 0
  agrees-well e (declines h p q) = let z : ◌≡◌ {A = ℕ} 0 1 = cc in absurd (omega arith)
  agrees-well e (accepts u ex ec l w) = u

  pub agrees-good : {o : Outcome} → Agrees a x row at out out' o → a.refusal ≡ 0 → Good a x
  agrees-good (declines h p q) z = absurd (omega arith)
  agrees-good (accepts u ex ec l w) z = record { place = wrote-low w; short = l; placed_so = ex }

  -- a child's rows are counted from its own first row
  pub agrees-shift : {o : Outcome} (n : ℕ) → Agrees a x (row + n) at out out' o → Agrees a x row at out out' (shift n o)
  agrees-shift n (declines {r = r} h p q) = declines {r = n + r} h p (omega arith)
  agrees-shift n (accepts u ex ec l w) = accepts u ex ec l w

module _ {row at at₁ : ℕ} {out out₁ out₂ w : List ℕ} {a : Walked} {x : Place} where
  -- what was written before
  pub agrees_after :
      {o : Outcome} → length out ≤ cap → Wrote at out w at₁ out₁ → Agrees a x row at₁ out₁ out₂ o → Agrees a x row at out out₂ (after w o)
  agrees_after h wr (declines g p q) = declines g p q
  agrees_after h wr (accepts u ex ec l v) = accepts u ex ec l (wrote_then h wr v)

-- ---- what a walk that was lent the converter answers

-- no refusal has the number 0
pub number-some : (e : Reason) → 0 < refusal_number e
number-some e = elim e as (λ z. 0 < refusal_number z) [
  | NoMode ↦ lit< tt
  | BadRules ↦ lit< tt
  | BadLayout ↦ lit< tt
  | TooDeep ↦ lit< tt
  | BadShape ↦ lit< tt
  | NoFit ↦ lit< tt
  | Misplaced ↦ lit< tt
  | UnlikeEnds ↦ lit< tt
  | NoCommand ↦ lit< tt
  | NoEnvironment ↦ lit< tt
  | NoList ↦ lit< tt
  | NoArgument ↦ lit< tt
  | BadColumn ↦ lit< tt
  | LongLabel ↦ lit< tt
  | TooShort ↦ lit< tt
  | OutOfPlace ↦ lit< tt
]

module _ {row at : ℕ} {out out₁ out₂ : List ℕ} {c d : Converter} {x y : Place} {p q : ℕ} (e : Refusal) where
  -- a refusal is handed on, whatever stands then
  pub agrees-stops :
      {o : Outcome} → Agrees (walked_by c p (Err e)) x row at out out₁ o → Agrees (walked_by d q (Err e)) y row at out out₂ o
  agrees-stops (declines {r = k} g u v) = declines {r = k} g u v
  agrees-stops (accepts u ex ec l v) = let h = number-some e.reason in absurd (omega arith)

  -- and so it is where a text would follow
  pub agrees-stops-closing :
      {o : Outcome} (w : List ℕ) → Agrees (walked_by c p (Err e)) x row at out out₁ o → Agrees (walked_by d q (Err e)) y row at out out₂ (closing w o)
  agrees-stops-closing w (declines {r = k} g u v) = declines {r = k} g u v
  agrees-stops-closing w (accepts u ex ec l v) = let h = number-some e.reason in absurd (omega arith)

  -- or the end of an environment
  pub agrees-stops-taking :
      {o : Outcome} (list : Bool) (m : LaTeXMode) → Agrees (walked_by c p (Err e)) x row at out out₁ o
      → Agrees (walked_by d q (Err e)) y row at out out₂ (take_label list m o)
  agrees-stops-taking list m (declines {r = k} g u v) = declines {r = k} g u v
  agrees-stops-taking list m (accepts u ex ec l v) = let h = number-some e.reason in absurd (omega arith)

-- an element is refused at its own row
pub agrees-halts :
    {row at : ℕ} {out out₁ : List ℕ} {c : Converter} {x : Place} {p n : ℕ} (e : Refusal) → refusal_number e.reason ≡ n → e.row ≡ row
    → Agrees (walked_by c p (Err e)) x row at out out₁ (refused n 0)
agrees-halts {row} {n = n} e h r =
    declines {r = 0} (subst (λ (k : ℕ). 0 < k) h (number-some e.reason)) h (r ∙ (let z : row ≡ row + 0 = omega arith in z))

module _ {row at : ℕ} {out out₁ : List ℕ} {c d : Converter} {x : Place} {p : ℕ} where
  -- a text after elements that were walked over in whatever place
  pub agrees-closes :
      {out₂ w : List ℕ} {q : ℕ} {o : Outcome} → length out ≤ cap → Agrees (went_with c p) x row at out out₁ o → Wrote p out₁ w q out₂
      → carry_of d ≡ carry_of c → d.label_len ≡ c.label_len → Agrees (went_with d q) (place_of d) row at out out₂ (closing w o)
  agrees-closes h (declines g u v) wr ed el = absurd (omega arith)
  agrees-closes h (accepts u ex ec l v) wr ed el =
      accepts refl refl (ed ∙ ec) (subst (λ (k : ℕ). k ≤ label_most) (sym el) l) (wrote_then h v wr)

  -- elements that were walked over in another place: the caller stands where it stood
  pub agrees-placed :
      {o : Outcome} → Agrees (went_with c p) x row at out out₁ o → carry_of d ≡ carry_of c → d.label_len ≡ c.label_len
      → Agrees (went_with d p) (place_of d) row at out out₁ o
  agrees-placed (declines g u v) ed el = absurd (omega arith)
  agrees-placed (accepts u ex ec l v) ed el = accepts refl refl (ed ∙ ec) (subst (λ (k : ℕ). k ≤ label_most) (sym el) l) v

module _ {row at : ℕ} {out : List ℕ} {c d : Converter} {o o2 : Output} {x : Place} (list : Bool) (m : LaTeXMode) where
  -- an environment takes the held label
  pub agrees-takes :
      {w : Outcome} → length out ≤ cap → Agrees (went_with c o.at) x row at out o.buffer.now w → Takes c o list m d o2
      → Agrees (went_with d o2.at) x row at out o2.buffer.now (take_label list m w)
  agrees-takes h (declines g u v) t = absurd (omega arith)
  agrees-takes h (accepts u ex ec l v) t =
      accepts refl (t.placed_so ∙ ex) (t.carry ∙ ap (dropped list m) ec) (t.short l)
      (wrote_then h v (subst (λ (y : Carry). Wrote o.at o.buffer.now (taken list m y.label) o2.at o2.buffer.now) ec t.written.wrote))

module _ {row at : ℕ} {out out₁ : List ℕ} {a : Walked} {x : Place} (k : Carry → Outcome) where
  -- an element was converted, and what follows it goes on from there, in whatever place
  pub then-done :
      {o : Outcome} {b : Walked} {y : Place} {out₂ : List ℕ} → length out ≤ cap → Agrees a x row at out out₁ o → a.refusal ≡ 0
      → Agrees b y row a.at out₁ out₂ (k (carry_of a.converter)) → Agrees b y row at out out₂ (and_then o k)
  then-done h (declines g p q) z m = absurd (omega arith)
  then-done {o} {b} {y} {out₂} h (accepts {c} u ex ec l v) z m =
      agrees_after h v (subst (λ (e : Carry). Agrees b y row a.at out₁ out₂ (k e)) ec m)

  -- an element was refused, and so is the whole
  pub then-refused : {o : Outcome} {y : Place} → Agrees a x row at out out₁ o → (a.refusal ≡ 0 → ⊥) → Agrees a y row at out out₁ (and_then o k)
  then-refused (declines g p q) z = declines g p q
  then-refused (accepts u ex ec l v) z = absurd (z u)
