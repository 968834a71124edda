-- A converter with another carry has that carry, in the place where it was.
use mathlib.Core.Path.{◌≡◌, refl, sym, ap, subst}
use mathlib.Core.Bool.{Bool}
use mathlib.Core.List.{List}
use Prim.Native.Nat.{ℕ, ◌≤◌}
use native.Mathlib.Omega.{arith}
use lib.ListN.{length, drop}
use lib.Seq.{take_at}
use Rattle.mitex_meaning.specs.Outcome.{Label, Carry, flagged, labelled, label_most}
use Rattle.mitex_meaning.specs.Outcome.Label.{unheld, held}
use Rattle.mitex_meaning.specs.State.{carry_of, new_of, with_flag, opening_of, without_label, with_label, with_held, with_carry, Carried}
use Rattle.mitex_meaning.specs.Keeping.{Short}
use Rattle.mitex_meaning.specs.Conversion.{start_carry}
use Rattle.mitex_meaning.specs.declared.LaTeXMode.{LaTeXMode}
use Rattle.mitex_meaning.specs.declared.Converter.{Converter}

-- ---- the carry

module _ (c : Converter) {r : Converter} where
  pub flag-says : {b : Bool} → r ≡ with_flag b c → Carried c (flagged b (carry_of c)) r
  flag-says {b} e =
      subst (Carried c (flagged b (carry_of c))) (sym e)
      (record { mode = refl; env = refl; indent = refl; carry = refl; short = λ h. h })

  pub unlabelled-says : r ≡ without_label c → Carried c (labelled unheld (carry_of c)) r
  unlabelled-says e =
      subst (Carried c (labelled unheld (carry_of c))) (sym e)
      (record { mode = refl; env = refl; indent = refl; carry = refl; short = λ h. omega arith })

  pub labelled-says : {s : List ℕ} → length s ≤ label_most → r ≡ with_label s c → Carried c (labelled (held s) (carry_of c)) r
  labelled-says {s} h e =
      subst (Carried c (labelled (held s) (carry_of c))) (sym e)
      (record {
        mode = refl;
        env = refl;
        indent = refl;
        carry = ap (λ (x : List ℕ). labelled (held x) (carry_of c)) (take_at s (drop (length s) c.label) (length s) refl);
        short = λ _. h;
      })

pub carry-says : (c : Converter) {r : Converter} (e : Carry) → Short e → r ≡ with_carry e c → Carried c e r
carry-says c {r} e h q = on e.label h q
  where
    flagged-first : {x : Carry} → Carried (with_flag e.flag c) x r → Carried c x r
    flagged-first m = record { mode = m.mode; env = m.env; indent = m.indent; carry = m.carry; short = m.short }

    on : (l : Label) → Short (record { flag = e.flag; label = l }) → r ≡ with_held l (with_flag e.flag c)
        → Carried c (record { flag = e.flag; label = l }) r
    on unheld h q = flagged-first (unlabelled-says (with_flag e.flag c) q)
    on (held s) h q = flagged-first (labelled-says (with_flag e.flag c) h q)

-- the carry that a document starts with
pub opening-says : {m : LaTeXMode} {r : Converter} → r ≡ opening_of m → Carried (new_of m) start_carry r
opening-says {m} e = flag-says (new_of m) e
