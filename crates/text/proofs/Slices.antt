-- What was cut out of a text is a part of it (`part-at`), and a part of a part is one of the whole (`part-of-part`).
use mathlib.Core.Path.{◌≡◌, sym, ap, ◌∙◌}
use mathlib.Core.List.{List}
use Prim.Native.Nat.{ℕ, ◌+◌, ◌-◌, ◌≤◌}
use native.Mathlib.Omega.{arith}
use lib.ListN.{length, take, drop, length-take, length-drop}
use lib.Seq.{take-take, drop-drop}
use Rattle.std.proofs.lemmas.List.{take_min, drop-take}
use Rattle.text.specs.Slices.{PartOf}

-- by its own length
pub cut-is : {s : List ℕ} (k : ℕ) (l : List ℕ) → s ≡ take k l → s ≡ take (length s) l
cut-is k l e = e ∙ sym (take_min k l) ∙ ap (λ (n : ℕ). take n l) (sym (ap length e ∙ length-take k l))

pub part-at : {s text : List ℕ} (from k : ℕ) → from ≤ length text → s ≡ take k (drop from text) → PartOf s text
part-at {s} {text} from k h e =
    record {
      from = from;
      inside = omega (arith, ap length e, length-take k (drop from text), length-drop from text);
      is = cut-is k (drop from text) e;
    }

pub part-of-part : {s t text : List ℕ} → PartOf s t → PartOf t text → PartOf s text
part-of-part {s} {t} {text} p q =
    let a = p.from in
    let k = length t - a in
    let m : length t ≡ a + k = omega (arith, p.inside) in
    record {
      from = q.from + a;
      inside = omega (arith, p.inside, q.inside);
      is =
          p.is
          ∙ ap (λ (l : List ℕ). take (length s) (drop a l)) (q.is ∙ ap (λ (n : ℕ). take n (drop q.from text)) m)
          ∙ ap (take (length s)) (drop-take a k (drop q.from text))
          ∙ take-take (length s) k (drop a (drop q.from text)) (omega (arith, p.inside))
          ∙ ap (take (length s)) (drop-drop a q.from text);
    }
