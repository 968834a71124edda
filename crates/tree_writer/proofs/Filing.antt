-- The finish: rows turned round, moved after the text, and the trailer.
use mathlib.Core.Path.{◌≡◌, sym, ap, ◌∙◌}
use mathlib.Core.List.{List, [], ◌++◌, reverse, append-nil}
use Prim.Native.Nat.{ℕ, ◌+◌, ◌*◌, ◌-◌, ◌≤◌}
use native.Mathlib.Omega.{arith}
use lib.ListN.{length, take, drop, length-drop, length-reverse}
use lib.Seq.{sets, take-length, drop-length, take_all, drop_at, length-take-le}
use Rattle.text.specs.Numbers.{four}
use Rattle.text.proofs.Writing.{sets-append}
use Rattle.tree_writer.specs.Buffers.{turned_rows, filed}

module _ (b : List ℕ) (t n : ℕ) (h : t + 8 * n + 8 ≤ length b) where
  abbrev from : ℕ
  from = length b - 8 * n

  turned_by : {o : List ℕ} → o ≡ take from b ++ (reverse (drop from (take (length b) b)) ++ drop (length b) b) → o ≡ turned_rows n b
  turned_by e =
      e
      ∙ ap (λ x. take from b ++ (reverse (drop from x) ++ drop (length b) b)) (take-length b)
      ∙ ap (λ x. take from b ++ (reverse (drop from b) ++ x)) (drop-length b)
      ∙ ap (λ x. take from b ++ x) (append-nil (reverse (drop from b)))

  back : take (8 * n) (drop from (turned_rows n b)) ≡ reverse (drop from b)
  back =
      ap (take (8 * n)) (drop_at (take from b) (reverse (drop from b)) from (length-take-le from b (omega arith)))
      ∙ take_all (8 * n) (reverse (drop from b)) (omega (arith, length-reverse (drop from b), length-drop from b))

  pub filed-by :
      {o₁ o₂ o₃ o₄ : List ℕ} → o₁ ≡ take from b ++ (reverse (drop from (take (length b) b)) ++ drop (length b) b)
      → o₂ ≡ sets o₁ t (take (8 * n) (drop from o₁)) → o₃ ≡ sets o₂ (t + 8 * n) (four t []) → o₄ ≡ sets o₃ (t + 8 * n + 4) (four n [])
      → o₄ ≡ filed t n b
  filed-by {o₁} {o₂} {o₃} {o₄} e₁ e₂ e₃ e₄ =
      let p₁ = turned_by e₁ in
      let p₂ : o₂ ≡ sets (turned_rows n b) t (reverse (drop from b)) =
      e₂ ∙ ap (λ x. sets x t (take (8 * n) (drop from x))) p₁ ∙ ap (sets (turned_rows n b) t) back in
      e₄ ∙ ap (λ x. sets x (t + 8 * n + 4) (four n [])) (e₃ ∙ ap (λ x. sets x (t + 8 * n) (four t [])) p₂)
      ∙ sym (sets-append (four t []) (four n []) (sets (turned_rows n b) t (reverse (drop from b))) (t + 8 * n))
