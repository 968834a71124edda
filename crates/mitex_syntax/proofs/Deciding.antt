-- A test that is made in steps: what each early answer says of the whole.
use mathlib.Core.Path.{◌≡◌, sym, ap, ◌∙◌}
use mathlib.Core.Bool.{Bool, true, false, ◌&&◌, ◌||◌}

module _ {x : Bool} (a b : Bool) (is-a : x ≡ a) where
  pub and-then : {y : Bool} → x ≡ true → y ≡ b → y ≡ a && b
  and-then e is_b = is_b ∙ ap (λ (c : Bool). c && b) (sym e ∙ is-a)

  pub and-not : x ≡ false → false ≡ a && b
  and-not e = ap (λ (c : Bool). c && b) (sym e ∙ is-a)

  pub or-then : x ≡ true → true ≡ a || b
  or-then e = ap (λ (c : Bool). c || b) (sym e ∙ is-a)

  pub or-not : {y : Bool} → x ≡ false → y ≡ b → y ≡ a || b
  or-not e is_b = is_b ∙ ap (λ (c : Bool). c || b) (sym e ∙ is-a)
