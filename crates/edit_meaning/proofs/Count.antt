-- What `count_to` counts, in words (`count_to-first`): to the first block after which both carry the same, or to the last. So does `count_by`,
-- of what a change of one block compares; of several that are replaced it counts these and those that begin with another carry
-- (`count_by-first`).
use mathlib.Core.Path.{◌≡◌, refl, sym, ap, subst, ◌∙◌}
use mathlib.Core.Logic.{◌≢◌, ◌⊎◌, inl, inr, ◌↔◌}
use mathlib.Core.Bool.{Bool, true, false, ◌||◌, not, cond, or-true, false≢true}
use mathlib.Core.List.{List, [], ◌∷◌}
use Prim.Native.Nat.{ℕ, zero, suc, ◌+◌, ◌≤◌, ◌<◌}
use native.Mathlib.Nat.{add-zero, zero-add, le_of_suc-le-suc}
use native.Mathlib.Omega.{arith}
use lib.ListN.{length, take, drop, get_or, length-drop}
use borrow.Author.Tests.{ltb-true, lt-ltb, le-leb, eq-eqb}
use Rattle.mitex_meaning.specs.Outcome.{Carry}
use Rattle.mitex_meaning.specs.Conversion.{start_carry}
use Rattle.ledger.specs.Ledger.{same_carry}
use Rattle.ledger.proofs.Carries.{same_carry-true, same_carry-false}
use Rattle.edit_meaning.specs.Walk.{count_to, FirstSame}
use Rattle.edit_meaning.specs.Changes.{Kind, rise_below, named_there, last_of, carry_at, is_among, count_each, count_by, JustThose, FirstSameBy}
use Rattle.edit_meaning.specs.Changes.{BlocksBeside}
use Rattle.edit_meaning.specs.Changes.Kind.{replace, put_in, take_out, replace_all}
use Rattle.edit_meaning.proofs.Named.{among-others, none_before}

first_step :
    (c d : Carry) (cs ds : List Carry) (n : ℕ) → FirstSame cs ds n → (b : Bool) → same_carry c d ≡ b
    → FirstSame (c ∷ cs) (d ∷ ds) (suc (cond b 0 n))
first_step c d cs ds n f true e =
    record { within = omega arith; one = omega arith; apart = λ j h. absurd (omega arith); meets = meet }
  where
    meet : (j : ℕ) → suc j ≡ 1 → 1 < suc (length cs) → get_or (c ∷ cs) j start_carry ≡ get_or (d ∷ ds) j start_carry
    meet zero q h = same_carry-true c d e
    meet (suc j) q h = absurd (omega arith)
first_step c d cs ds n f false e = record { within = omega (arith, f.within); one = omega arith; apart = part; meets = meet }
  where
    part : (j : ℕ) → suc j < suc n → get_or (c ∷ cs) j start_carry ≢ get_or (d ∷ ds) j start_carry
    part zero h = same_carry-false c d e
    part (suc j) h = f.apart j (le_of_suc-le-suc h)

    meet : (j : ℕ) → suc j ≡ suc n → suc n < suc (length cs) → get_or (c ∷ cs) j start_carry ≡ get_or (d ∷ ds) j start_carry
    meet zero q h = let x : 0 < n = f.one (omega arith) in absurd (omega arith)
    meet (suc j) q h = f.meets j (omega arith) (omega arith)

pub count_to-first : (cs ds : List Carry) → length cs ≡ length ds → FirstSame cs ds (count_to cs ds)
count_to-first [] [] h =
    record {
      within = omega arith;
      one = λ x. absurd (omega arith);
      apart = λ j x. absurd (omega arith);
      meets = λ j q x. absurd (omega arith);
    }
count_to-first [] (d ∷ ds) h = absurd (omega arith)
count_to-first (c ∷ cs) [] h = absurd (omega arith)
count_to-first (c ∷ cs) (d ∷ ds) h = first_step c d cs ds (count_to cs ds) (count_to-first cs ds (omega arith)) (same_carry c d) refl

-- ---- several that are replaced

-- a block put before others, or not
abbrev also_if : Bool → ℕ → List ℕ → List ℕ
also_if b i more = cond b (i ∷ more) more

also-many : (b : Bool) (i : ℕ) (more : List ℕ) → length (also_if b i more) ≡ cond b 1 0 + length more
also-many true i more = omega arith
also-many false i more = omega arith

also-rise :
    (b : Bool) (i : ℕ) (more : List ℕ) (least n : ℕ) → least ≤ i → i < n → ((m : ℕ) → m ≤ suc i → rise_below m n more ≡ true)
    → rise_below least n (also_if b i more) ≡ true
also-rise true i more least n h g f = rw (le-leb least i h, lt-ltb i n g) (f (suc i) (omega arith))
also-rise false i more least n h g f = f least (omega arith)

also-first : (b : Bool) (i : ℕ) (more : List ℕ) → is_among i more ≡ false → is_among i (also_if b i more) ≡ b
also-first true i more h = rw (eq-eqb i i refl)
also-first false i more h = h

also-others : (b : Bool) (i j : ℕ) (more : List ℕ) → j ≢ i → is_among j (also_if b i more) ≡ is_among j more
also-others true i j more h = among-others j i more h
also-others false i j more h = refl

-- whether block i is counted, and all that are, from block i on
abbrev is_counted : ℕ → List ℕ → Carry → Carry → Bool
is_counted i ks c d = is_among i ks || not (same_carry c d)

abbrev each_counted : ℕ → List ℕ → Carry → Carry → List Carry → List Carry → List ℕ
each_counted i ks c d [] ds = []
each_counted i ks c d (e ∷ es) [] = []
each_counted i ks c d (e ∷ es) (h ∷ hs) = also_if (is_counted i ks c d) i (each_counted (suc i) ks e h es hs)

counted-many : (i : ℕ) (ks : List ℕ) (c d : Carry) (cs ds : List Carry) → length (each_counted i ks c d cs ds) ≡ count_each i ks c d cs ds
counted-many i ks c d [] ds = refl
counted-many i ks c d (e ∷ es) [] = refl
counted-many i ks c d (e ∷ es) (h ∷ hs) =
    also-many (is_counted i ks c d) i (each_counted (suc i) ks e h es hs)
    ∙ ap (λ n. cond (is_counted i ks c d) 1 0 + n) (counted-many (suc i) ks e h es hs)

counted-rise :
    (i : ℕ) (ks : List ℕ) (c d : Carry) (cs ds : List Carry) (least n : ℕ) → least ≤ i → i + length cs ≤ n
    → rise_below least n (each_counted i ks c d cs ds) ≡ true
counted-rise i ks c d [] ds least n h g = refl
counted-rise i ks c d (e ∷ es) [] least n h g = refl
counted-rise i ks c d (e ∷ es) (x ∷ hs) least n h g =
    also-rise (is_counted i ks c d) i (each_counted (suc i) ks e x es hs) least n h (omega arith)
    (λ m f. counted-rise (suc i) ks e x es hs m n f (omega arith))

counted-are :
    (i : ℕ) (ks : List ℕ) (c d : Carry) (cs ds : List Carry) → length cs ≡ length ds → (j : ℕ) → j < length cs
    → is_among (i + j) (each_counted i ks c d cs ds) ≡ is_counted (i + j) ks (last_of c (take j cs)) (last_of d (take j ds))
counted-are i ks c d [] ds n j h = absurd (omega arith)
counted-are i ks c d (e ∷ es) [] n j h = absurd (omega arith)
counted-are i ks c d (e ∷ es) (x ∷ hs) n zero h =
    let more : List ℕ = each_counted (suc i) ks e x es hs in
    let none : is_among i more ≡ false
    = none_before i (suc i) (suc i + length es) more
    (counted-rise (suc i) ks e x es hs (suc i) (suc i + length es) (omega arith) (omega arith)) (omega arith) in
    rw (add-zero i) (also-first (is_counted i ks c d) i more none)
counted-are i ks c d (e ∷ es) (x ∷ hs) n (suc j) h =
    let next : suc i + j ≡ i + suc j = omega arith in
    also-others (is_counted i ks c d) i (i + suc j) (each_counted (suc i) ks e x es hs) (λ q. omega arith)
    ∙ subst
    (λ m. is_among m (each_counted (suc i) ks e x es hs) ≡ is_counted m ks (last_of e (take j es)) (last_of x (take j hs))) next
    (counted-are (suc i) ks e x es hs (omega arith) j (le_of_suc-le-suc h))

-- a test of either, in words
counted-says : (i : ℕ) (ks : List ℕ) (c d : Carry) → (is_counted i ks c d ≡ true) ↔ ((is_among i ks ≡ true) ⊎ (c ≢ d))
counted-says i ks c d = (go (is_among i ks) refl (same_carry c d) refl, back)
  where
    go : (a : Bool) → is_among i ks ≡ a → (b : Bool) → same_carry c d ≡ b → a || not b ≡ true → (is_among i ks ≡ true) ⊎ (c ≢ d)
    go true p b q h = inl p
    go false p true q h = absurd (false≢true h)
    go false p false q h = inr (same_carry-false c d q)

    back : (is_among i ks ≡ true) ⊎ (c ≢ d) → is_counted i ks c d ≡ true
    back (inl p) = rw p
    back (inr q) = unlike (same_carry c d) refl
      where
        unlike : (b : Bool) → same_carry c d ≡ b → is_among i ks || not b ≡ true
        unlike true e = absurd (q (same_carry-true c d e))
        unlike false e = or-true (is_among i ks)

count_each-just : (ks : List ℕ) (cs ds : List Carry) → length cs ≡ length ds → JustThose ks cs ds (count_each 0 ks start_carry start_carry cs ds)
count_each-just ks cs ds n =
    record {
      blocks = each_counted 0 ks start_carry start_carry cs ds;
      many = counted-many 0 ks start_carry start_carry cs ds;
      rising = counted-rise 0 ks start_carry start_carry cs ds 0 (length cs) (omega arith) (omega arith);
      are = are;
    }
  where
    is : (i : ℕ) → i < length cs → is_among i (each_counted 0 ks start_carry start_carry cs ds) ≡ is_counted i ks (carry_at i cs) (carry_at i ds)
    is i h = rw zero-add at (counted-are 0 ks start_carry start_carry cs ds n i h)

    are :
        (i : ℕ) → i < length cs
        → (is_among i (each_counted 0 ks start_carry start_carry cs ds) ≡ true) ↔ ((is_among i ks ≡ true) ⊎ (carry_at i cs ≢ carry_at i ds))
    are i h = rw (is i h) (counted-says i ks (carry_at i cs) (carry_at i ds))

-- ---- by the kind of a change

from-head : (k : ℕ) (ds : List Carry) → k < length ds → drop k ds ≡ get_or ds k start_carry ∷ drop (suc k) ds
from-head k [] h = absurd (omega arith)
from-head zero (d ∷ ds) h = refl
from-head (suc k) (d ∷ ds) h = from-head k ds (le_of_suc-le-suc h)

none-or-first :
    (c d : Carry) (cs ds : List Carry) → length cs ≡ length ds → (b : Bool) → same_carry c d ≡ b
    → (c ≡ d → cond b 0 (count_to cs ds) ≡ 0) × (c ≢ d → FirstSame cs ds (cond b 0 (count_to cs ds)))
none-or-first c d cs ds h true e = (λ q. refl, λ q. absurd (q (same_carry-true c d e)))
none-or-first c d cs ds h false e = (λ q. absurd (same_carry-false c d e q), λ q. count_to-first cs ds h)

-- the two documents carry as many as they have blocks
pub count_by-first :
    {Block : Type 0} (k : Kind) (bs bs' : List Block) (cs ds : List Carry) → length cs ≡ length bs' → length ds ≡ length bs
    → named_there k (length bs') ≡ true → BlocksBeside k bs bs' → FirstSameBy k cs ds (count_by k cs ds)
count_by-first (replace k) bs bs' cs ds n' n h b =
    count_to-first (drop k cs) (drop k ds) (rw (length-drop k cs, length-drop k ds) (omega (arith, b.count)))
count_by-first (put_in k) bs bs' cs ds n' n h b =
    count_to-first (drop k cs) (carry_at k ds ∷ drop k ds)
    (rw (length-drop k cs, length-drop k ds) (omega (arith, b.count, ltb-true k (length bs') h)))
count_by-first (take_out k) bs bs' cs ds n' n h b =
    let here : k < length ds = omega (arith, b.count, ltb-true k (suc (length bs')) h) in
    let m : length (drop k cs) ≡ length (drop (suc k) ds) = rw (length-drop k cs, length-drop (suc k) ds) (omega (arith, b.count)) in
    rw (from-head k ds here)
    (none-or-first (carry_at k ds) (get_or ds k start_carry) (drop k cs) (drop (suc k) ds) m (same_carry (carry_at k ds) (get_or ds k start_carry)) refl)
count_by-first (replace_all ks) bs bs' cs ds n' n h b = count_each-just ks cs ds (n' ∙ b.count ∙ sym n)
