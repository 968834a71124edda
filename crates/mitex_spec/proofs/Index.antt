-- What the check leaves in the index are the offsets of the names (`begun-fit`) and the table of first bytes (`checked-fit`), so
-- that look-ups can be asked (`checked-ready`).
use mathlib.Core.Path.{◌≡◌, refl, sym, ap, subst, ◌∙◌}
use mathlib.Core.Bool.{Bool, true, false, true≢false}
use mathlib.Core.Option.{Option}
use mathlib.Core.Option.Option.{none, some}
use mathlib.Core.List.{List, [], ◌∷◌, ◌++◌, append_assoc}
use Prim.Native.Nat.{ℕ, suc, ◌+◌, ◌*◌, ◌-◌, ◌≤◌, ◌<◌}
use native.Mathlib.Omega.{arith}
use lib.ListN.{length, take, drop, set, length-append}
use lib.Seq.{sets, length-sets, sets-eq, length-take-le, take-set-le, take-append_seam, drop_at}
use Rattle.text.specs.Numbers.{Bytes}
use Rattle.mitex_spec.specs.Rules.{Rule}
use Rattle.text.specs.Trailer.{start_of, count_of, trailed, row_area}
use Rattle.text.proofs.Trailer.{Trailed, part-rows, part-many}
use Rattle.mitex_spec.specs.RuleFile.{no_alias, rules_in, rising, rules_of, rule_text, text_of_rules, rows_of_rules}
use Rattle.mitex_spec.specs.Index.{offsets_from, starts_from, firsts_start, index_size, firsts, has_rules, indexed, ChecksRules, Numbered, Ready, SomeRules}
use Rattle.mitex_spec.proofs.RuleFile.{rule_row-reads, rules-whole, rules-broken, file-rules}
use Rattle.mitex_spec.proofs.Firsts.{length-firsts}

-- ---- a run of stores

take-sets : (n : ℕ) (l : List ℕ) (i : ℕ) (vs : List ℕ) → n ≤ i → take n (sets l i vs) ≡ take n l
take-sets n l i [] h = refl
take-sets n l i (v ∷ vs) h = take-sets n (set l i v) (suc i) vs (omega arith) ∙ take-set-le n l i v h

part-sets : (l : List ℕ) (i : ℕ) (vs : List ℕ) → i + length vs ≤ length l → take (length vs) (drop i (sets l i vs)) ≡ vs
part-sets l i vs h =
    ap (λ x. take (length vs) (drop i x)) (sets-eq vs l i h)
    ∙ ap (λ x. take (length vs) (drop i x)) (append_assoc (take i l) vs (drop (i + length vs) l))
    ∙ ap (take (length vs)) (drop_at (take i l) (vs ++ drop (i + length vs) l) i (length-take-le i l (omega arith)))
    ∙ take-append_seam vs (drop (i + length vs) l)

-- ---- the offsets

pub length-offsets : (rs : List Rule) (at : ℕ) → length (offsets_from at rs) ≡ length rs
unfolding offsets_from
length-offsets [] at = refl
length-offsets (r ∷ rs) at = let e = length-offsets rs (at + length (rule_text r)) in omega arith

offsets-stand : (rs : List Rule) (index : List ℕ) → length rs ≤ length index → take (length rs) (sets index 0 (offsets_from 0 rs)) ≡ offsets_from 0 rs
offsets-stand rs index h =
    let l = length-offsets rs 0 in
    ap (λ k. take k (sets index 0 (offsets_from 0 rs))) (sym l) ∙ part-sets index 0 (offsets_from 0 rs) (omega arith)

-- the rows say where the names begin
starts-offsets :
    (rs : List Rule) (at : ℕ) → length (text_of_rules rs) < no_alias → starts_from at (length rs) (rows_of_rules rs) ≡ offsets_from at rs
unfolding starts_from offsets_from rows_of_rules text_of_rules
starts-offsets [] at h = refl
starts-offsets (r ∷ rs) at h =
    let long = length-append (rule_text r) (text_of_rules rs) in
    let e = (rule_row-reads r (rows_of_rules rs) [] (omega arith)).takes in
    ap (λ k. at ∷ starts_from (at + k) (length rs) (rows_of_rules rs)) e
    ∙ ap (λ l. at ∷ l) (starts-offsets rs (at + length (rule_text r)) (omega arith))

-- ---- what the check answers

refused : (file index : List ℕ) → rules_of file ≡ none → ChecksRules file index false index
refused file index e = record { answer = sym (ap has_rules e); fills = sym (ap (λ o. indexed o index) e) }

pub checked-broken : (file index : List ℕ) → trailed file ≡ false → ChecksRules file index false index
checked-broken file index h = refused file index (rules-broken file h)

has_rules-none : (o : Option (List Rule)) → has_rules o ≡ false → o ≡ none
has_rules-none none e = refl
has_rules-none (some rs) e = absurd (true≢false e)

has_rules-some : (o : Option (List Rule)) → has_rules o ≡ true → (rs : List Rule) × (o ≡ some rs)
has_rules-some none e = absurd (true≢false (sym e))
has_rules-some (some rs) e = (rs, refl)

-- the file has rules, and their offsets were stored
pub record Begun (file index index' : List ℕ) : Type 0 where
  pub rules : List Rule
  pub decodes : rules_of file ≡ some rules
  pub begins : index' ≡ sets index 0 (offsets_from 0 rules)

-- the parts that the code takes are the rows and the text
module _ (file : List ℕ) (w : Trailed file) (start : ℕ) (e : start ≡ start_of file) where
  abbrev rows : List ℕ
  rows = take (length file - 8 - start) (drop start file)

  abbrev Asks : Bool → Type 0
  Asks fit = (n : ℕ) → length rows ≡ 8 * n → fit ≡ has_rules (rising (rules_in n rows (take start file)))

  fit-whole : (fit : Bool) → Asks fit → fit ≡ has_rules (rules_of file)
  fit-whole fit asks =
      asks (count_of file) (part-many file w start e)
      ∙ ap (λ l. has_rules (rising (rules_in (count_of file) l (take start file)))) (part-rows file w start e)
      ∙ ap (λ k. has_rules (rising (rules_in (count_of file) (row_area file) (take k file)))) e
      ∙ sym (ap has_rules (rules-whole file w))

  pub checked-unfit : (index : List ℕ) (fit : Bool) → Asks fit → fit ≡ false → ChecksRules file index false index
  checked-unfit index fit asks e = refused file index (has_rules-none (rules_of file) (sym (fit-whole fit asks) ∙ e))

  pub begun-fit :
      (index index' : List ℕ) (fit : Bool) → Bytes file → Asks fit → fit ≡ true
      → ((n : ℕ) → length rows ≡ 8 * n → index' ≡ sets index 0 (starts_from 0 n rows)) → Begun file index index'
  begun-fit index index' fit by asks t fill =
      let s = has_rules-some (rules_of file) (sym (fit-whole fit asks) ∙ t) in
      let d = file-rules file s.0 by s.1 in
      let at = d.start in
      let sum = w.sum in
      let short = w.short in
      record {
        rules = s.0;
        decodes = s.1;
        begins =
            fill (count_of file) (part-many file w start e)
            ∙ ap (λ l. sets index 0 (starts_from 0 (count_of file) l)) (part-rows file w start e ∙ d.rows_are)
            ∙ ap (λ n. sets index 0 (starts_from 0 n (rows_of_rules s.0))) d.count
            ∙ ap (sets index 0) (starts-offsets s.0 0 (omega arith));
      }

-- a file has at most 8,191 rules
pub rules-few : (file : List ℕ) (rs : List Rule) → Bytes file → rules_of file ≡ some rs → length rs ≤ 8191
rules-few file rs by e =
    let d = file-rules file rs by e in
    let c = d.count in
    let sum = d.whole.sum in
    let short = d.whole.short in
    omega arith

-- then the rules can be found by their numbers, and after the offsets the table is filled
module _ {file index index' : List ℕ} (b : Begun file index index') where
  pub begun-numbered : Bytes file → index_size ≤ length index → Numbered file index'
  begun-numbered by room =
      let few = rules-few file b.rules by b.decodes in
      record { rules = b.rules; decodes = b.decodes; holds = ap (take (length b.rules)) b.begins ∙ offsets-stand b.rules index (omega arith) }

  pub checked-fit :
      {index'' : List ℕ} → ((rs : List Rule) → rules_of file ≡ some rs → index'' ≡ sets index' firsts_start (firsts rs)) → ChecksRules file index true index''
  checked-fit {index''} fill =
      record {
        answer = sym (ap has_rules b.decodes);
        fills =
            fill b.rules b.decodes
            ∙ ap (λ l. sets l firsts_start (firsts b.rules)) b.begins
            ∙ sym (ap (λ o. indexed o index) b.decodes);
      }

-- ---- what look-ups ask

-- an index that had room holds the offsets and the table after the check
pub checked-ready :
    (file index index' : List ℕ) (rs : List Rule) → rules_of file ≡ some rs → length rs ≤ firsts_start → index_size ≤ length index
    → index' ≡ indexed (rules_of file) index → Ready file index' rs
checked-ready file index index' rs e few room q =
    let offsets = sets index 0 (offsets_from 0 rs) in
    let all : index' ≡ sets offsets firsts_start (firsts rs) = q ∙ ap (λ o. indexed o index) e in
    let n = length-firsts 257 0 rs in
    record {
      decodes = e;
      holds = ap (take (length rs)) all ∙ take-sets (length rs) offsets firsts_start (firsts rs) few ∙ offsets-stand rs index (omega arith);
      tabled =
          ap (λ l. take 257 (drop firsts_start l)) all
          ∙ ap (λ k. take k (drop firsts_start (sets offsets firsts_start (firsts rs)))) (sym n)
          ∙ part-sets offsets firsts_start (firsts rs) (omega (arith, length-sets index 0 (offsets_from 0 rs)));
    }

-- the check accepted: there are rules, and look-ups can be asked for them
pub checked-rules :
    {file index : List ℕ} {ok : Bool} {index' : List ℕ} → Bytes file → index_size ≤ length index → ChecksRules file index ok index' → ok ≡ true
    → SomeRules file index'
checked-rules {file} {index} {ok} {index'} by room c t =
    let s = has_rules-some (rules_of file) (sym c.answer ∙ t) in
    let few = rules-few file s.0 by s.1 in
    record { rules = s.0; ready = checked-ready file index index' s.0 s.1 (omega arith) room c.fills }

-- the check refused: there are none, and the index is as it was
pub checked-none :
    {file index : List ℕ} {ok : Bool} {index' : List ℕ} → ChecksRules file index ok index' → ok ≡ false
    → (rules_of file ≡ none) × (index' ≡ index)
checked-none {file} {index} {ok} {index'} c f =
    let e = has_rules-none (rules_of file) (sym c.answer ∙ f) in (e, c.fills ∙ ap (λ o. indexed o index) e)

-- a file has one list of rules
pub rules-one : (file : List ℕ) {rs ss : List Rule} → rules_of file ≡ some rs → rules_of file ≡ some ss → rs ≡ ss
rules-one file p q = cc

pub ready_for : {file index : List ℕ} (s : SomeRules file index) (rs : List Rule) → rules_of file ≡ some rs → Ready file index rs
ready_for {file} {index} s rs e = subst (Ready file index) (rules-one file s.ready.decodes e) s.ready

-- what look-ups ask is enough to find a rule by its number
abbrev pub ready-numbered : {file index : List ℕ} → SomeRules file index → Numbered file index
ready-numbered s = record { rules = s.rules; decodes = s.ready.decodes; holds = s.ready.holds }
