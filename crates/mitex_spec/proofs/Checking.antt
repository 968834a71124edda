-- What the check of a rule file finds, row by row: why a row does not fit, or that it does, and what is left to look at.
-- A loop stands where the answer for the whole is the answer for the rest (`RulesLeft`, `Filled`).
use mathlib.Core.Path.{◌≡◌, refl, sym, ap, subst, ◌∙◌}
use mathlib.Core.Bool.{Bool, true, false, ◌&&◌, ◌||◌, cond, true≢false}
use mathlib.Core.Option.{Option}
use mathlib.Core.Option.Option.{none, some}
use mathlib.Core.List.{List, [], ◌∷◌, ◌++◌}
use Prim.Native.Nat.{ℕ, suc, ◌+◌, ◌*◌, ◌-◌, ◌≤◌, ◌<◌}
use native.Mathlib.Numerals.{add-one}
use native.Mathlib.Omega.{arith}
use lib.Dec.{eqb, leb}
use borrow.Author.Tests.{ne_eqb, le-leb}
use lib.ListN.{length, take, drop, get_or, set, length-append, drop_of_length-le}
use lib.Seq.{sets, take-take}
use Rattle.std.proofs.lemmas.List.{drop-take}
use Rattle.text.specs.Numbers.{two_at}
use Rattle.text.proofs.Numbers.{eight}
use Rattle.text.specs.Compare.{precedes}
use Rattle.text.proofs.Compare.{by-test}
use Rattle.text.proofs.Writing.{part-rest}
use Rattle.utf8.specs.Utf8.{one_byte_each, valid, char_steps}
use Rattle.utf8.proofs.Texts.{one-valid, one-take, one-drop}
use Rattle.mitex_spec.specs.Rules.{Rule}
use Rattle.text.specs.Trailer.{ahead}
use Rattle.mitex_spec.specs.RuleFile.{class_most, no_alias, padded, valid_alias, rule_fits, rises_from, rises, may_follow, length_of_name}
use Rattle.mitex_spec.specs.RuleFile.{alias_length, rule_taken, alias_at, rule_at, rule_row_fits, rules_in, rising}
use Rattle.mitex_spec.specs.Index.{starts_from, has_rules}
use Rattle.mitex_spec.proofs.RuleFile.{RuleRowFits, rule-row-says}

-- ---- one row

pub or-later : (b x r : Bool) → r ≡ x → b ≡ false → r ≡ (b || x)
or-later b x r e f = e ∙ sym (ap (λ t. t || x) f)

pub row-not : (rows text : List ℕ) → (RuleRowFits rows text → ⊥) → false ≡ rule_row_fits rows text
row-not rows text h = by-test (rule_row_fits rows text) (λ e. absurd (h (rule-row-says rows text e))) (λ e. sym e)

alias-valid : (m : ℕ) (t : List ℕ) → valid_alias (alias_at m t) ≡ valid (take (cond (eqb m no_alias) 0 m) t)
unfolding valid char_steps
alias-valid m t =
    by-test (eqb m no_alias)
    (λ e. ap (λ b. valid_alias (cond b none (some (take m t)))) e ∙ sym (ap (λ b. valid (take (cond b 0 m) t)) e))
    (λ e. ap (λ b. valid_alias (cond b none (some (take m t)))) e ∙ sym (ap (λ b. valid (take (cond b 0 m) t)) e))

-- all but the alias was found good
row-alias :
    (rows text : List ℕ) (n end : ℕ) → padded rows ≡ true → end ≡ rule_taken rows → end ≤ length text → get_or rows 4 0 ≤ class_most
    → n ≡ length_of_name rows → valid (take n text) ≡ true → valid (take (end - n) (drop n text)) ≡ rule_row_fits rows text
unfolding rule_row_fits
row-alias rows text n end pad e room low q name =
    let a : alias_length rows ≡ end - n = omega arith in
    ap (λ k. valid (take k (drop n text))) (sym a)
    ∙ ap (λ k. valid (take (alias_length rows) (drop k text))) q
    ∙ sym (alias-valid (two_at 2 rows) (drop (length_of_name rows) text))
    ∙ sym
    (ap (λ b. b && (leb (rule_taken rows) (length text) && rule_fits (rule_at rows text))) pad
    ∙ ap (λ b. b && rule_fits (rule_at rows text)) (le-leb (rule_taken rows) (length text) (omega arith))
    ∙ ap (λ b. b && (valid (take (length_of_name rows) text) && valid_alias (alias_at (two_at 2 rows) (drop (length_of_name rows) text))))
    (le-leb (get_or rows 4 0) class_most low)
    ∙ ap (λ b. b && valid_alias (alias_at (two_at 2 rows) (drop (length_of_name rows) text))) (ap (λ k. valid (take k text)) (sym q) ∙ name))

-- all but the texts was found good, and the characters of the text have one byte each
pub row_plain :
    (rows text : List ℕ) → padded rows ≡ true → rule_taken rows ≤ length text → get_or rows 4 0 ≤ class_most → one_byte_each text ≡ true → true ≡ rule_row_fits rows text
row_plain rows text pad room low one =
    let n = length_of_name rows in
    sym (one-valid _ (one-take (rule_taken rows - n) (drop n text) (one-drop n text one)))
    ∙ row-alias rows text n (rule_taken rows) pad refl room low refl (one-valid _ (one-take n text one))

-- the same where name and alias are the parts of what the row takes, on either side of the name's end
module _ (row text : List ℕ) (n end : ℕ) (pad : padded row ≡ true) (taken : end ≡ rule_taken row) (room : end ≤ length text) (low : get_or row 4 0 ≤ class_most)
    (name : n ≡ length_of_name row) where
  name-part : take n (take end text) ≡ take n text
  name-part = take-take n end text (omega arith)

  alias-part : drop n (take end text) ≡ take (end - n) (drop n text)
  alias-part = ap (λ k. drop n (take k text)) (omega arith) ∙ drop-take n (end - n) text

  pub row-texts : valid (take n (take end text)) ≡ true → valid (drop n (take end text)) ≡ rule_row_fits row text
  row-texts e = ap valid alias-part ∙ row-alias row text n end pad taken room low name (ap valid (sym name-part) ∙ e)

  pub row-name : valid (take n (take end text)) ≡ false → false ≡ rule_row_fits row text
  row-name e = row-not row text (λ f. true≢false (sym f.name ∙ ap (λ k. valid (take k text)) (sym name) ∙ ap valid (sym name-part) ∙ e))

-- ---- all rows

-- a row of eight bytes says what the rows say that begin with it
record FirstRow (row next l : List ℕ) : Type 0 where
  fits : (t : List ℕ) → rule_row_fits l t ≡ rule_row_fits row t
  name : length_of_name l ≡ length_of_name row
  taken : rule_taken l ≡ rule_taken row
  others : drop 8 l ≡ next

first-row : (row next l : List ℕ) → l ≡ row ++ next → length row ≡ 8 → FirstRow row next l
unfolding rule_row_fits
first-row row next l e h =
    let byte : ℕ → ℕ = λ i. get_or row i 0 in
    let bytes : row ≡ byte 0 ∷ byte 1 ∷ byte 2 ∷ byte 3 ∷ byte 4 ∷ byte 5 ∷ byte 6 ∷ byte 7 ∷ []
    = eight row (omega arith) ∙ ap (λ x. byte 0 ∷ byte 1 ∷ byte 2 ∷ byte 3 ∷ byte 4 ∷ byte 5 ∷ byte 6 ∷ byte 7 ∷ x) (drop_of_length-le row {i = 8} (omega arith)) in
    subst (FirstRow row next) (sym (e ∙ ap (λ x. x ++ next) bytes))
    (record { fits = λ t. sym (ap (λ x. rule_row_fits x t) bytes); name = refl; taken = refl; others = refl })

-- rules that follow a name, if there is one
abbrev rises_after : Option (List ℕ) → List Rule → Bool
rises_after none rs = rises rs
rises_after (some last) rs = rises_from last rs

abbrev accepted_after : Option (List ℕ) → Option (List Rule) → Bool
accepted_after last none = false
accepted_after last (some rs) = rises_after last rs

-- the answer for n rows is that for the m rows that are left, after the name before them
pub record RulesLeft (n : ℕ) (rows text : List ℕ) (last : Option (List ℕ)) (l t : List ℕ) : Type 0 where
  pub m : ℕ
  pub long : length l ≡ 8 * m
  pub still : has_rules (rising (rules_in n rows text)) ≡ accepted_after last (rules_in m l t)

rules-left-all : (o : Option (List Rule)) → has_rules (rising o) ≡ accepted_after none o
rules-left-all none = refl
rules-left-all (some rs) =
    by-test (rises rs)
    (λ e. ap (λ b. has_rules (cond b (some rs) none)) e ∙ sym e)
    (λ e. ap (λ b. has_rules (cond b (some rs) none)) e ∙ sym e)

pub rules-left-start : (n : ℕ) (rows text : List ℕ) → length rows ≡ 8 * n → RulesLeft n rows text none rows text
rules-left-start n rows text h = record { m = n; long = h; still = rules-left-all (rules_in n rows text) }

accepted_after-ahead :
    (last : Option (List ℕ)) (r : Rule) (o : Option (List Rule)) → accepted_after last (ahead r o) ≡ (may_follow last r.name && accepted_after (some r.name) o)
unfolding rises_from
accepted_after-ahead none r none = refl
accepted_after-ahead none r (some rs) = refl
accepted_after-ahead (some last) r none = sym (mathlib.Core.Bool.and-false (precedes last r.name))
accepted_after-ahead (some last) r (some rs) = refl

none_left : (l t : List ℕ) (last : Option (List ℕ)) → eqb (length t) 0 ≡ accepted_after last (rules_in 0 l t)
unfolding rules_in rises_from
none_left l [] none = refl
none_left l [] (some last) = refl
none_left l (x ∷ t) last = ne_eqb (length (x ∷ t)) 0 (λ e. omega arith)

module _ {n : ℕ} {rows text : List ℕ} {last : Option (List ℕ)} {l t : List ℕ} (s : RulesLeft n rows text last l t) where
  pub rules-left-end : length l < 8 → eqb (length t) 0 ≡ has_rules (rising (rules_in n rows text))
  rules-left-end h =
      let q = s.long in
      let z : s.m ≡ 0 = omega arith in
      none_left l t last ∙ sym (s.still ∙ ap (λ j. accepted_after last (rules_in j l t)) z)

  -- `row` is the next of the rows that are left, and `next` those after it
  module _ (row next : List ℕ) (e : l ≡ row ++ next) (h : length row ≡ 8) where
    first : FirstRow row next l
    first = first-row row next l e h

    one_more : s.m ≡ suc (s.m - 1)
    one_more = let q = s.long in omega (arith, ap length e, length-append row next)

    abbrev others : Option (List Rule)
    others = rules_in (s.m - 1) (drop 8 l) (drop (rule_taken l) t)

    next_row : (b : Bool) → rule_row_fits row t ≡ b → has_rules (rising (rules_in n rows text)) ≡ accepted_after last (cond b (ahead (rule_at l t) others) none)
    unfolding rules_in
    next_row b q =
        s.still
        ∙ ap (λ j. accepted_after last (rules_in j l t)) one_more
        ∙ ap (λ b. accepted_after last (cond b (ahead (rule_at l t) others) none)) (first.fits t ∙ q)

    pub rules-left-unfit : rule_row_fits row t ≡ false → false ≡ has_rules (rising (rules_in n rows text))
    rules-left-unfit q = sym (next_row false q)

    module _ (i : ℕ) (fits : rule_row_fits row t ≡ true) (name : i ≡ length_of_name row) where
      fit_row : (b : Bool) → may_follow last (take i t) ≡ b → has_rules (rising (rules_in n rows text)) ≡ (b && accepted_after (some (take i t)) others)
      fit_row b f =
          next_row true fits
          ∙ accepted_after-ahead last (rule_at l t) others
          ∙ ap (λ j. may_follow last (take j t) && accepted_after (some (take j t)) others) (first.name ∙ sym name)
          ∙ ap (λ b. b && accepted_after (some (take i t)) others) f

      pub rules-left-falls : may_follow last (take i t) ≡ false → false ≡ has_rules (rising (rules_in n rows text))
      rules-left-falls f = sym (fit_row false f)

      pub rules-left-next : (k : ℕ) → may_follow last (take i t) ≡ true → k ≡ rule_taken row → RulesLeft n rows text (some (take i t)) next (take (length t - k) (drop k t))
      rules-left-next k f q =
          record {
            m = s.m - 1;
            long = let w = s.long in omega (arith, ap length e, length-append row next);
            still =
                fit_row true f
                ∙ ap (λ x. accepted_after (some (take i t)) (rules_in (s.m - 1) x (drop (rule_taken l) t))) first.others
                ∙ ap (λ x. accepted_after (some (take i t)) (rules_in (s.m - 1) next (drop x t))) (first.taken ∙ sym q)
                ∙ ap (λ x. accepted_after (some (take i t)) (rules_in (s.m - 1) next x)) (sym (part-rest t k));
          }

-- ---- the index

-- what is to be stored for n rows is what stands and what is to be stored for the m that are left
pub record Filled (n : ℕ) (rows index₀ index l : List ℕ) (at k : ℕ) : Type 0 where
  pub m : ℕ
  pub long : length l ≡ 8 * m
  pub still : sets index₀ 0 (starts_from 0 n rows) ≡ sets index k (starts_from at m l)

pub filled-start : (n : ℕ) (rows index : List ℕ) → length rows ≡ 8 * n → Filled n rows index index rows 0 0
filled-start n rows index h = record { m = n; long = h; still = refl }

module _ {n : ℕ} {rows index₀ index l : List ℕ} {at k : ℕ} (s : Filled n rows index₀ index l at k) where
  store-next : (j : ℕ) → s.m ≡ suc j → sets index₀ 0 (starts_from 0 n rows) ≡ sets (set index k at) (k + 1) (starts_from (at + rule_taken l) j (drop 8 l))
  unfolding starts_from
  store-next j e =
      s.still
      ∙ ap (λ i. sets index k (starts_from at i l)) e
      ∙ ap (λ i. sets (set index k at) i (starts_from (at + rule_taken l) j (drop 8 l))) (sym (add-one k))

  -- `row` is the next of the rows that are left
  pub filled_next :
      (row next : List ℕ) → l ≡ row ++ next → length row ≡ 8 → (index' : List ℕ) (j k' i : ℕ) → j ≡ k → k' ≡ k + 1 → index' ≡ set index j at → i ≡ rule_taken row
      → Filled n rows index₀ index' next (at + i) k'
  filled_next row next e h index' j k' i f g p q =
      let w = s.long in
      let long = length-append row next in
      let first = first-row row next l e h in
      let starts : ℕ → List ℕ → List ℕ = λ x y. starts_from (at + x) (s.m - 1) y in
      record {
        m = s.m - 1;
        long = omega (arith, ap length e);
        still =
            store-next (s.m - 1) (omega (arith, ap length e))
            ∙ ap (λ x. sets x (k + 1) (starts (rule_taken l) (drop 8 l))) (sym (p ∙ ap (λ x. set index x at) f))
            ∙ ap (λ x. sets index' (k + 1) (starts (rule_taken l) x)) first.others
            ∙ ap (λ x. sets index' (k + 1) (starts x next)) (first.taken ∙ sym q)
            ∙ ap (λ x. sets index' x (starts i next)) (sym g);
      }

  pub filled-end : length l < 8 → index ≡ sets index₀ 0 (starts_from 0 n rows)
  unfolding starts_from
  filled-end h =
      let w = s.long in let z : s.m ≡ 0 = omega arith in sym (s.still ∙ ap (λ i. sets index k (starts_from at i l)) z)
