-- What is written behind a child that is passed over: nothing.
use mathlib.Core.Path.{◌≡◌, refl}
use mathlib.Core.Bool.{false}
use mathlib.Core.List.{[]}
use Prim.Native.Nat.{ℕ}
use native.Mathlib.Omega.{arith}
use Rattle.mitex_meaning.specs.Children.{converts, behind}
use Rattle.mitex_meaning.specs.declared.Act.{Act}
use Rattle.mitex_meaning.specs.declared.Act.TheVariants.{Skip, Convert, ThenSpace, Space, ThenComma, InBrackets, InDollars, SplitBare, SplitBased, Name, Empty, EmptyLast, ThinRule, ThickRule, Open, Close, CloseLast}

-- an act that converts nothing writes nothing behind the child
pub passes-alone : (a : Act) → converts a ≡ false → behind a ≡ []
passes-alone Skip e = refl
passes-alone Convert e = refl
passes-alone ThenSpace e = let z : ◌≡◌ {A = ℕ} 0 1 = cc in absurd (omega arith)
passes-alone Space e = refl
passes-alone ThenComma e = let z : ◌≡◌ {A = ℕ} 0 1 = cc in absurd (omega arith)
passes-alone InBrackets e = let z : ◌≡◌ {A = ℕ} 0 1 = cc in absurd (omega arith)
passes-alone InDollars e = let z : ◌≡◌ {A = ℕ} 0 1 = cc in absurd (omega arith)
passes-alone SplitBare e = refl
passes-alone SplitBased e = refl
passes-alone (Name n) e = let z : ◌≡◌ {A = ℕ} 0 1 = cc in absurd (omega arith)
passes-alone Empty e = refl
passes-alone EmptyLast e = refl
passes-alone ThinRule e = refl
passes-alone ThickRule e = refl
passes-alone Open e = refl
passes-alone Close e = refl
passes-alone CloseLast e = refl
