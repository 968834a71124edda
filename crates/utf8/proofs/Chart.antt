-- The chart has the lengths of the rule: an equation that antt computes over all 256 entries at once, and a law that carries it to each.
use mathlib.Core.Path.{◌≡◌, ◌∙◌, ap, refl}
use mathlib.Core.List.{List, [], ◌∷◌}
use Prim.Native.Nat.{ℕ, zero, suc, ◌+◌, ◌*◌, ◌/◌, ◌%◌, ◌<◌}
use native.Mathlib.Nat.{le_of_suc-le-suc, not-suc-le-zero, div-add-mod}
use native.Mathlib.Omega.{arith}
use lib.ListN.{get_or}
use Rattle.utf8.specs.Utf8.{length_by}
use Rattle.utf8.specs.Chart.{length_chart}

-- what a function gives at the numbers below n
unfoldable pub tabulate : {A : Type 0} → ℕ → (ℕ → A) → List A
tabulate zero f = []
tabulate (suc n) f = f zero ∷ tabulate n (λ k. f (suc k))

pub tabulate-at : {A : Type 0} {n k : ℕ} (f : ℕ → A) (d : A) → k < n → get_or (tabulate n f) k d ≡ f k
unfolding tabulate
tabulate-at {n = zero} f d h = absurd (not-suc-le-zero h)
tabulate-at {n = suc n} {k = zero} f d h = refl
tabulate-at {n = suc n} {k = suc k} f d h = tabulate-at (λ i. f (suc i)) d (le_of_suc-le-suc h)

-- the rule for the whole chart
pub chart-lengths : length_chart ≡ tabulate 16 (λ i. tabulate 16 (λ j. length_by (16 * i + j)))
unfolding tabulate
chart-lengths = refl

-- and so for the entry of each first byte
pub chart-right : (b : ℕ) → b < 256 → get_or (get_or length_chart (b / 16) []) (b % 16) 0 ≡ length_by b
chart-right b h =
    let line : b / 16 < 16 = omega arith in
    let column : b % 16 < 16 = omega arith in
    ap (λ chart. get_or (get_or chart (b / 16) []) (b % 16) 0) chart-lengths
    ∙ ap (λ entries. get_or entries (b % 16) 0) (tabulate-at _ [] line)
    ∙ tabulate-at _ 0 column
    ∙ ap length_by (div-add-mod b 16)
