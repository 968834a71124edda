-- Looking a name up. As names rise, those that come before a name are the first ones (`rank_of`), and only the next can be the
-- name itself (`get-rank`). Where a rule's row and texts stand in the file follows row by row (`stands`, `located`).
use mathlib.Core.Path.{◌≡◌, refl, sym, ap, subst, ◌∙◌}
use mathlib.Core.Bool.{Bool, true, false, ◌&&◌, cond, true≢false, and-eq-true_iff}
use mathlib.Core.Option.{Option, some-injective}
use mathlib.Core.Option.Option.{none, some}
use mathlib.Core.List.{List, [], ◌∷◌, ◌++◌}
use Prim.Native.Nat.{ℕ, zero, suc, ◌+◌, ◌*◌, ◌-◌, ◌≤◌, ◌<◌}
use native.Mathlib.Omega.{arith}
use Rattle.std.specs.Prelude.{Option as Maybe, Some, None, MatchOption, IsSomeAnd}
use Rattle.std.specs.Borrow.{Bor}
use lib.Dec.{eqb, ltb, leb-suc-suc}
use borrow.Author.Tests.{ne_eqb, lt-ltb, le-ltb}
use lib.ListN.{length, take, drop, get_or, length-append, length-take, length-drop}
use lib.Seq.{length-take-le, drop-drop, take-add, take_at, take-take, drop-append_seam, get_or-take}
use Rattle.std.proofs.lemmas.List.{drop-take}
use Rattle.text.specs.Numbers.{two_at}
use Rattle.text.specs.Compare.{same, precedes}
use Rattle.text.proofs.Writing.{part-rest}
use Rattle.text.proofs.Slices.{part-at}
use Rattle.text.proofs.Compare.{by-test, same-differ, precedes-trans, precedes-not-same}
use Rattle.mitex_spec.specs.Rules.{Rule, rule, get, alias_or, written_name}
use Rattle.text.specs.Trailer.{file_most, start_of, count_of, text_area, row_area, ahead}
use Rattle.text.proofs.Trailer.{length-text_area, ahead-some}
use Rattle.mitex_spec.specs.RuleFile.{no_alias, rises_from, rises, length_of_name, alias_length, alias_size, rule_taken, rule_at}
use Rattle.mitex_spec.specs.RuleFile.{rule_row_fits, rules_in, rules_of, number_of_alias, alias_text, rule_text}
use Rattle.mitex_spec.specs.Index.{offsets_from, rule_row_at, rule_no, rank_of, SomeRule}
use Rattle.mitex_spec.specs.LookUp.{lent, alias_of, rule_found, rule_of, LentIn}
use Rattle.mitex_spec.specs.declared.rules.Found.{Found}
use Rattle.mitex_spec.proofs.RuleFile.{RuleRowFits, rule-row-says, alias_number, alias-text, no-rules, rising-some, rules-whole, rules-tested}
use Rattle.mitex_spec.proofs.Firsts.{rank-cons}
use Rattle.mitex_spec.proofs.Index.{length-offsets, rules-one}

-- ---- names that rise

rises-tail : (r : Rule) (rs : List Rule) → rises (r ∷ rs) ≡ true → rises rs ≡ true
unfolding rises_from
rises-tail r [] e = refl
rises-tail r (s ∷ rs) e = ((and-eq-true_iff (precedes r.name s.name) (rises_from s.name rs)).0 e).1

rises-far : (rs : List Rule) (name : List ℕ) (k : ℕ) → rises_from name rs ≡ true → k < length rs → precedes name (rule_no rs k).name ≡ true
unfolding rises_from
rises-far [] name k e h = absurd (omega arith)
rises-far (r ∷ rs) name zero e h = ((and-eq-true_iff (precedes name r.name) (rises_from r.name rs)).0 e).0
rises-far (r ∷ rs) name (suc k) e h =
    let p = (and-eq-true_iff (precedes name r.name) (rises_from r.name rs)).0 e in
    precedes-trans name r.name (rule_no rs k).name p.0 (rises-far rs r.name k p.1 (omega arith))

-- ---- the rank of a name

-- a name that does not come before it has at most the names before it before it
pub rank-low : (rs : List Rule) (name : List ℕ) (k : ℕ) → k < length rs → precedes (rule_no rs k).name name ≡ false → rank_of rs name ≤ k
rank-low [] name k h e = absurd (omega arith)
rank-low (r ∷ rs) name zero h e = let q = rank-cons r rs name false e in omega arith
rank-low (r ∷ rs) name (suc k) h e =
    let i = rank-low rs name k (omega arith) e in
    by-test (precedes r.name name)
    (λ t. let q = rank-cons r rs name true t in omega arith)
    (λ t. let q = rank-cons r rs name false t in omega arith)

-- one that does comes after all that come before it
pub rank-high : (rs : List Rule) (name : List ℕ) (k : ℕ) → rises rs ≡ true → k < length rs → precedes (rule_no rs k).name name ≡ true → k + 1 ≤ rank_of rs name
rank-high [] name k up h e = absurd (omega arith)
rank-high (r ∷ rs) name zero up h e = let q = rank-cons r rs name true e in omega arith
rank-high (r ∷ rs) name (suc k) up h e =
    let i = rank-high rs name k (rises-tail r rs up) (omega arith) e in
    let t = precedes-trans r.name (rule_no rs k).name name (rises-far rs r.name k up (omega arith)) e in
    let q = rank-cons r rs name true t in
    omega arith

-- ---- the rule of a name

get-cons : (r : Rule) (rs : List Rule) (name : List ℕ) (b : Bool) → same r.name name ≡ b → get (r ∷ rs) name ≡ cond b (some r) (get rs name)
unfolding get
get-cons r rs name b e = ap (λ t. cond t (some r) (get rs name)) e

-- a name that comes no later than another is not among those after that
get_after : (rs : List Rule) (last name : List ℕ) → rises_from last rs ≡ true → precedes last name ≡ false → get rs name ≡ none
unfolding rises_from get
get_after [] last name up e = refl
get_after (r ∷ rs) last name up e =
    let p = (and-eq-true_iff (precedes last r.name) (rises_from r.name rs)).0 up in
    get-cons r rs name false
    (same-differ r.name name (λ q. true≢false (sym (ap (precedes last) (sym q) ∙ p.0) ∙ e)))
    ∙ get_after rs r.name name p.1
    (by-test (precedes r.name name)
    (λ t. absurd (true≢false (sym (precedes-trans last r.name name p.0 t) ∙ e)))
    (λ t. t))

abbrev answer_by : List Rule → List ℕ → ℕ → Option Rule
answer_by rs name k = cond (ltb k (length rs) && same (rule_no rs k).name name) (some (rule_no rs k)) none

get-rank : (rs : List Rule) (name : List ℕ) → rises rs ≡ true → get rs name ≡ answer_by rs name (rank_of rs name)
unfolding get rank_of
get-rank [] name up = refl
get-rank (r ∷ rs) name up =
    by-test (precedes r.name name)
    (λ e.
    let k = rank_of rs name in
    let q : rank_of (r ∷ rs) name ≡ suc k = rank-cons r rs name true e ∙ omega arith in
    get-cons r rs name false (same-differ r.name name (precedes-not-same r.name name e))
    ∙ get-rank rs name (rises-tail r rs up)
    ∙ ap (λ b. cond (b && same (rule_no rs k).name name) (some (rule_no rs k)) none) (sym (leb-suc-suc (suc k) (length rs)))
    ∙ sym (ap (answer_by (r ∷ rs) name) q))
    (λ e.
    let here : answer_by (r ∷ rs) name (rank_of (r ∷ rs) name) ≡ cond (same r.name name) (some r) none
    = ap (answer_by (r ∷ rs) name) (rank-cons r rs name false e)
    ∙ ap (λ b. cond (b && same r.name name) (some r) none) (lt-ltb 0 (length (r ∷ rs)) (omega arith)) in
    ap (λ o. cond (same r.name name) (some r) o) (get_after rs r.name name up e) ∙ sym here)

module _ (rs : List Rule) (name : List ℕ) (k : ℕ) (up : rises rs ≡ true) (at : k ≡ rank_of rs name) where
  get_at : get rs name ≡ answer_by rs name k
  get_at = get-rank rs name up ∙ ap (answer_by rs name) (sym at)

  pub get-past : length rs ≤ k → get rs name ≡ none
  get-past h = get_at ∙ ap (λ b. cond (b && same (rule_no rs k).name name) (some (rule_no rs k)) none) (le-ltb k (length rs) h)

  get-next : k < length rs → (b : Bool) → same (rule_no rs k).name name ≡ b → get rs name ≡ cond b (some (rule_no rs k)) none
  get-next h b e =
      get_at
      ∙ ap (λ t. cond (t && same (rule_no rs k).name name) (some (rule_no rs k)) none) (lt-ltb k (length rs) h)
      ∙ ap (λ t. cond t (some (rule_no rs k)) none) e

  pub get-same : k < length rs → same (rule_no rs k).name name ≡ true → get rs name ≡ some (rule_no rs k)
  get-same h e = get-next h true e

  pub get_other : k < length rs → same (rule_no rs k).name name ≡ false → get rs name ≡ none
  get_other h e = get-next h false e

-- ---- where a rule stands

-- the text of a row's rule is what the row takes
text-takes : (rows text : List ℕ) → rule_text (rule_at rows text) ≡ take (rule_taken rows) text
text-takes rows text =
    ap (λ x. take (length_of_name rows) text ++ x) (alias-text (two_at 2 rows) (drop (length_of_name rows) text))
    ∙ sym (take-add (length_of_name rows) (alias_length rows) text)

-- the rule of a number is that of its row, in the text from its offset on
record Stands (rows text : List ℕ) (at : ℕ) (rs : List Rule) (k : ℕ) : Type 0 where
  offset : ℕ
  begins : get_or (offsets_from at rs) k 0 ≡ at + offset
  is : rule_no rs k ≡ rule_at (drop (8 * k) rows) (drop offset text)
  room : offset + rule_taken (drop (8 * k) rows) ≤ length text

-- what the first row of some comes to, and the others
record FirstAndOthers (n : ℕ) (rows text : List ℕ) (rs : List Rule) : Type 0 where
  fits : RuleRowFits rows text
  others : List Rule
  reads : rules_in n (drop 8 rows) (drop (rule_taken rows) text) ≡ some others
  is : rule_at rows text ∷ others ≡ rs

first-others : (n : ℕ) (rows text : List ℕ) (rs : List Rule) → rules_in (suc n) rows text ≡ some rs → FirstAndOthers n rows text rs
unfolding rules_in
first-others n rows text rs e =
    let o = rules_in n (drop 8 rows) (drop (rule_taken rows) text) in
    by-test (rule_row_fits rows text)
    (λ t.
    let a = ahead-some (rule_at rows text) o rs (sym (ap (λ b. cond b (ahead (rule_at rows text) o) none) t) ∙ e) in
    record { fits = rule-row-says rows text t; others = a.0; reads = a.1.0; is = a.1.1 })
    (λ t. absurd (no-rules (sym (ap (λ b. cond b (ahead (rule_at rows text) o) none) t) ∙ e)))

rules_in-none : (rows text : List ℕ) (rs : List Rule) → rules_in 0 rows text ≡ some rs → length rs ≡ 0
unfolding rules_in
rules_in-none rows [] rs e = ap length (sym (some-injective _ _ e))
rules_in-none rows (x ∷ text) rs e = absurd (no-rules e)

rules_in-many : (n : ℕ) (rows text : List ℕ) (rs : List Rule) → rules_in n rows text ≡ some rs → length rs ≡ n
rules_in-many zero rows text rs e = rules_in-none rows text rs e
rules_in-many (suc n) rows text rs e =
    let f = first-others n rows text rs e in
    sym (ap length f.is) ∙ ap suc (rules_in-many n (drop 8 rows) (drop (rule_taken rows) text) f.others f.reads)

stands : (n : ℕ) (rows text : List ℕ) (rs : List Rule) (at k : ℕ) → rules_in n rows text ≡ some rs → k < length rs → Stands rows text at rs k
unfolding offsets_from
stands zero rows text rs at k e h = absurd (omega (arith, rules_in-none rows text rs e))
stands (suc n) rows text rs at zero e h =
    let f = first-others n rows text rs e in
    subst (λ l. Stands rows text at l 0) f.is (record { offset = 0; begins = omega arith; is = refl; room = let z = f.fits.room in omega arith })
stands (suc n) rows text rs at (suc k) e h =
    let f = first-others n rows text rs e in
    let taken = rule_taken rows in
    let long : length (rule_text (rule_at rows text)) ≡ taken = ap length (text-takes rows text) ∙ length-take-le taken text f.fits.room in
    let i = stands n (drop 8 rows) (drop taken text) f.others (at + length (rule_text (rule_at rows text))) k f.reads (omega (arith, ap length f.is)) in
    let row : drop (8 * k) (drop 8 rows) ≡ drop (8 * suc k) rows = drop-drop (8 * k) 8 rows ∙ ap (λ j. drop j rows) (omega arith) in
    subst (λ l. Stands rows text at l (suc k)) f.is
    (record {
      offset = taken + i.offset;
      begins = i.begins ∙ omega arith;
      is =
          i.is
          ∙ ap (λ x. rule_at x (drop i.offset (drop taken text))) row
          ∙ ap (rule_at (drop (8 * suc k) rows)) (drop-drop i.offset taken text);
      room = let q = i.room in let z = f.fits.room in omega (arith, ap rule_taken row, length-drop taken text);
    })

pub record Located (file index : List ℕ) (k : ℕ) (r : Rule) : Type 0 where
  pub room : k < length index
  pub most : length file ≤ file_most
  pub row_end : start_of file + 8 * k + 8 ≤ length file
  pub name_size : length_of_name (rule_row_at file k) ≡ length r.name
  pub alias_number : two_at 2 (rule_row_at file k) ≡ number_of_alias r.alias
  pub class_is : get_or (rule_row_at file k) 4 0 ≡ r.class
  pub short : length (rule_text r) < no_alias
  pub text_end : get_or index k 0 + length (rule_text r) ≤ length file
  pub text_is : take (length (rule_text r)) (drop (get_or index k 0) file) ≡ rule_text r

-- the trailer counts the rules of a file, whose names rise
pub rules-counted : (file : List ℕ) (rs : List Rule) → rules_of file ≡ some rs → (count_of file ≡ length rs) × (rises rs ≡ true)
rules-counted file rs e =
    let w = rules-tested file rs e in
    let r = rising-some (rules_in (count_of file) (row_area file) (text_area file)) rs (sym (rules-whole file w) ∙ e) in
    (sym (rules_in-many (count_of file) (row_area file) (text_area file) rs r.0), r.1)

two_at-take : (m i : ℕ) (l : List ℕ) → i + 2 ≤ m → two_at i (take m l) ≡ two_at i l
two_at-take m i l h = rw (get_or-take m l i 0 (omega arith), get_or-take m l (i + 1) 0 (omega arith))

module _ {file index : List ℕ} {k : ℕ} (s : SomeRule file index k) (rs : List Rule) (e : rules_of file ≡ some rs) where
  rules-are : s.numbered.rules ≡ rs
  rules-are = rules-one file s.numbered.decodes e

  pub few : k < length rs
  few = subst (λ l. k < length l) rules-are s.few

  holds : take (length rs) index ≡ offsets_from 0 rs
  holds = subst (λ l. take (length l) index ≡ offsets_from 0 l) rules-are s.numbered.holds

  in-index : k < length index
  in-index =
      let h = few in
      omega (arith, ap length holds, length-offsets rs 0, length-take (length rs) index)

  pub located : Located file index k (rule_no rs k)
  located =
      let w = rules-tested file rs e in
      let sum = w.sum in
      let most = w.short in
      let h = few in
      let n = (rules-counted file rs e).0 in
      let c = count_of file in
      let start = start_of file in
      let read = (rising-some (rules_in c (row_area file) (text_area file)) rs (sym (rules-whole file w) ∙ e)).0 in
      let t = stands c (row_area file) (text_area file) rs 0 k read h in
      let row = drop (8 * k) (row_area file) in
      let text = drop t.offset (text_area file) in
      let taken = rule_taken row in
      let room = t.room in
      let end = length-text_area file w in
      let m = 8 * c - 8 * k in
      let part : row ≡ take m (rule_row_at file k)
      = ap (λ j. drop (8 * k) (take j (drop start file))) (omega arith) ∙ drop-take (8 * k) m (drop start file) ∙ ap (take m) (drop-drop (8 * k) start file) in
      let size : two_at 0 row ≡ two_at 0 (rule_row_at file k) = ap (two_at 0) part ∙ two_at-take m 0 (rule_row_at file k) (omega arith) in
      let number : two_at 2 row ≡ two_at 2 (rule_row_at file k) = ap (two_at 2) part ∙ two_at-take m 2 (rule_row_at file k) (omega arith) in
      let class : get_or row 4 0 ≡ get_or (rule_row_at file k) 4 0
      = ap (λ l. get_or l 4 0) part ∙ get_or-take m (rule_row_at file k) 4 0 (omega arith) in
      let inside : taken ≤ length text = omega (arith, length-drop t.offset (text_area file)) in
      let long : length (rule_text (rule_no rs k)) ≡ taken
      = ap (λ r. length (rule_text r)) t.is ∙ ap length (text-takes row text) ∙ length-take-le taken text inside in
      let offset : get_or index k 0 ≡ t.offset = sym (get_or-take (length rs) index k 0 h) ∙ ap (λ l. get_or l k 0) holds ∙ t.begins ∙ omega arith in
      let there : take taken text ≡ take taken (drop t.offset file)
      = ap (λ j. take taken (drop t.offset (take j file))) (omega arith)
      ∙ ap (take taken) (drop-take t.offset (start - t.offset) file)
      ∙ take-take taken (start - t.offset) (drop t.offset file) (omega arith) in
      record {
        room = in-index;
        most = most;
        row_end = omega arith;
        name_size = sym (ap (λ r. length r.name) t.is ∙ length-take-le (two_at 0 row) text (omega arith) ∙ size);
        alias_number =
            sym
            (ap (λ r. number_of_alias r.alias) t.is
            ∙ alias_number (two_at 2 row) (drop (two_at 0 row) text) (omega (arith, length-drop (two_at 0 row) text))
            ∙ number);
        class_is = sym (ap (λ r. r.class) t.is ∙ class);
        short = omega arith;
        text_end = omega arith;
        text_is =
            ap (λ i. take (length (rule_text (rule_no rs k))) (drop i file)) offset
            ∙ ap (λ i. take i (drop t.offset file)) long
            ∙ sym there
            ∙ sym (ap rule_text t.is ∙ text-takes row text);
      }

-- the same of the rules that a caller gave
pub located-given : {file index : List ℕ} {k : ℕ} (s : SomeRule file index k) → Located file index k (rule_no s.numbered.rules k)
located-given s = located s s.numbered.rules s.numbered.decodes

-- ---- an alias by its length

abbrev size_of : Option (List ℕ) → Maybe ℕ
size_of none = None
size_of (some a) = Some (length a)

abbrev pub part_of : Maybe ℕ → List ℕ → Option (List ℕ)
part_of None text = none
part_of (Some n) text = some (take n text)

size_of-is : (o : Option (List ℕ)) → length (alias_text o) < no_alias → cond (eqb (number_of_alias o) no_alias) None (Some (number_of_alias o)) ≡ size_of o
size_of-is none h = refl
size_of-is (some a) h = ap (λ b. cond b None (Some (length a))) (ne_eqb (length a) no_alias (λ e. omega arith))

size_of-text : (o : Option (List ℕ)) (n : ℕ) → size_of o ≡ Some n → n ≡ length (alias_text o)
size_of-text none n e = absurd cc
size_of-text (some a) n e = cc

part_of-size : (o : Option (List ℕ)) (text : List ℕ) → take (length (alias_text o)) text ≡ alias_text o → part_of (size_of o) text ≡ o
part_of-size none text e = refl
part_of-size (some a) text e = ap some e

-- ---- what the code reads there

-- `n` is the length of the name, by the row, which begins at `at`
module _ {file index : List ℕ} {k : ℕ} {r : Rule} (l : Located file index k r)
    (row : List ℕ) (at n : ℕ) (w : row ≡ rule_row_at file k) (p : at ≡ get_or index k 0) (z : n ≡ two_at 0 row) where
  name_size : n ≡ length r.name
  name_size = z ∙ ap (two_at 0) w ∙ l.name_size

  pub name-room : at + n ≤ length file
  name-room =
      let e = name_size in
      let t = l.text_end in
      omega (arith, length-append r.name (alias_text r.alias))

  text_at : take (length (rule_text r)) (drop at file) ≡ rule_text r
  text_at = ap (λ i. take (length (rule_text r)) (drop i file)) p ∙ l.text_is

  name-at : take n (drop at file) ≡ r.name
  name-at =
      let e = name_size in
      sym (take-take n (length (rule_text r)) (drop at file) (omega (arith, length-append r.name (alias_text r.alias))))
      ∙ ap (take n) text_at
      ∙ take_at r.name (alias_text r.alias) n (sym e)

  pub name-part : take (at + n - at) (drop at file) ≡ r.name
  name-part = let e : at + n - at ≡ n = omega arith in ap (λ i. take i (drop at file)) e ∙ name-at

  -- the text after the name
  abbrev after : List ℕ
  after = take (length file - (at + n)) (drop (at + n) file)

  alias-at : take (length (alias_text r.alias)) after ≡ alias_text r.alias
  alias-at =
      let a = alias_text r.alias in
      let x = drop at file in
      let m = length a in
      let e : length (rule_text r) ≡ n + m = length-append r.name a ∙ ap (λ i. i + m) (sym name_size) in
      let whole : r.name ++ take m (drop n x) ≡ r.name ++ a
      = ap (λ t. t ++ take m (drop n x)) (sym name-at) ∙ sym (take-add n m x) ∙ ap (λ i. take i x) (sym e) ∙ text_at in
      ap (take m) (part-rest file (at + n))
      ∙ ap (take m) (sym (drop-drop n at file))
      ∙ sym (drop-append_seam r.name (take m (drop n x)))
      ∙ ap (drop (length r.name)) whole
      ∙ drop-append_seam r.name a

  alias_size-is : alias_size row ≡ size_of r.alias
  alias_size-is =
      let t = l.short in
      ap alias_size w
      ∙ ap (λ m. cond (eqb m no_alias) None (Some m)) l.alias_number
      ∙ size_of-is r.alias (omega (arith, length-append r.name (alias_text r.alias)))

  pub alias-room : (size : ℕ) → alias_size row ≡ Some size → size ≡ length (take size after)
  alias-room size e =
      let q = size_of-text r.alias size (sym alias_size-is ∙ e) in
      let t = l.text_end in
      let z = name_size in
      sym (length-take-le size after (omega (arith, ap length (part-rest file (at + n)), length-drop (at + n) file, length-append r.name (alias_text r.alias))))

  -- a class and an alias that were read so are those of the rule
  pub found-is : (found : Found) → found.class ≡ get_or row 4 0 → lent found.alias ≡ part_of (alias_size row) after → rule_found r.name found ≡ r
  found-is found e q =
      ap (λ a. rule r.name a found.class) (q ∙ ap (λ s. part_of s after) alias_size-is ∙ part_of-size r.alias after alias-at)
      ∙ ap (λ c. rule r.name r.alias c) (e ∙ ap (λ x. get_or x 4 0) w ∙ l.class_is)

-- what `map` makes of a length
pub lent-map :
    {post : ℕ → Bor (List ℕ) → Type 0} (text : List ℕ) (size : Maybe ℕ) (part : Maybe (Bor (List ℕ))) → ((n : ℕ) (s : Bor (List ℕ)) → post n s → s.now ≡ take n text)
    → MatchOption size (part ≡ None) (λ n. IsSomeAnd part (post n)) → lent part ≡ part_of size text
lent-map text None part h e = ap lent e
lent-map text (Some n) None h e = absurd e
lent-map text (Some n) (Some s) h e = ap some (h n s e)

-- what it makes of one is a part of the file, where the text is what is left of the file from a place on
pub lent-in :
    {post : ℕ → Bor (List ℕ) → Type 0} (file : List ℕ) (at : ℕ) → at ≤ length file → (size : Maybe ℕ) (part : Maybe (Bor (List ℕ)))
    → ((n : ℕ) (s : Bor (List ℕ)) → post n s → s.now ≡ take n (take (length file - at) (drop at file)))
    → MatchOption size (part ≡ None) (λ n. IsSomeAnd part (post n)) → LentIn file part
lent-in file at h None None cut e = tt
lent-in file at h None (Some s) cut e = absurd cc
lent-in file at h (Some n) None cut e = absurd e
lent-in file at h (Some n) (Some s) cut e = part-at at n h (cut n s e ∙ ap (take n) (part-rest file at))

-- ---- the written name

-- it is the written name of the rule that was found
pub written-name : (name : List ℕ) (found : Found) (r : Rule) → rule_of name (Some found) ≡ some r → alias_or (alias_of found) name ≡ written_name r name
written-name name found r e = ap (λ x. alias_or x.alias name) (some-injective _ _ e)
