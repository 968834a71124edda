-- Reading and writing a rule file undo each other. A row that was written reads as its rule (`rule_row-reads`), and a row that
-- fits is the one that its rule is written as (`row_written`); the rest is a walk along the rows.
use mathlib.Core.Path.{◌≡◌, refl, sym, ap, subst, ◌∙◌}
use mathlib.Core.Bool.{Bool, true, false, ◌&&◌, cond, and-eq-true_iff}
use mathlib.Core.Option.{Option}
use mathlib.Core.Option.Option.{none, some}
use mathlib.Core.List.{List, [], ◌∷◌, ◌++◌, append_assoc}
use Prim.Native.Nat.{ℕ, zero, suc, ◌+◌, ◌*◌, ◌≤◌, ◌<◌}
use native.Mathlib.Omega.{arith}
use lib.Dec.{eqb, leb}
use borrow.Author.Tests.{eqb-true, leb-true, ne_eqb, le-leb}
use lib.ListN.{length, take, drop, get_or, length-append, length-drop, take-append-drop}
use lib.Seq.{take-append_seam, drop-append_seam, length-take-le, drop-drop}
use Rattle.text.specs.Numbers.{Bytes, two, four, two_at}
use Rattle.text.proofs.Numbers.{eight, bytes_drop, two-says, two-of}
use Rattle.text.proofs.Compare.{by-test}
use Rattle.text.specs.Trailer.{file_most, start_of, count_of, trailed, text_area, row_area, ahead}
use Rattle.text.proofs.Trailer.{Trailed, trailed-says, trailed-is, areas, length-text_area, length-row_area, bytes-row_area}
use Rattle.text.proofs.Trailer.{laid_out, laid-length, laid-count, laid-trailed, laid-text, laid-rows, ahead-some}
use Rattle.utf8.specs.Utf8.{valid}
use Rattle.mitex_spec.specs.Rules.{Rule, rule}
use Rattle.mitex_spec.specs.RuleFile.{class_most, no_alias, padded, valid_alias, rule_fits, all_fit, rises, length_of_name}
use Rattle.mitex_spec.specs.RuleFile.{alias_length, rule_taken, alias_at, rule_at, rule_row_fits, rules_in, rising, rules_of}
use Rattle.mitex_spec.specs.RuleFile.{number_of_alias, alias_text, rule_text, rule_row, text_of_rules, rows_of_rules, file_of_rules}

pub and-join : (a b : Bool) → a ≡ true → b ≡ true → (a && b) ≡ true
and-join a b p q = (and-eq-true_iff a b).1 (p, q)

-- ---- a rule that was written, before rows and text that follow

-- an alias of fewer than 65,535 bytes, read by its length, is there again
alias-reads : (o : Option (List ℕ)) (t : List ℕ) → length (alias_text o) < no_alias → alias_at (number_of_alias o) (alias_text o ++ t) ≡ o
alias-reads none t h = refl
alias-reads (some a) t h =
    ap (λ b. cond b none (some (take (length a) (a ++ t)))) (ne_eqb (length a) no_alias (λ e. omega arith))
    ∙ ap some (take-append_seam a t)

alias-takes : (o : Option (List ℕ)) → length (alias_text o) < no_alias → cond (eqb (number_of_alias o) no_alias) 0 (number_of_alias o) ≡ length (alias_text o)
alias-takes none h = refl
alias-takes (some a) h = ap (λ b. cond b 0 (length a)) (ne_eqb (length a) no_alias (λ e. omega arith))

alias-low : (o : Option (List ℕ)) → length (alias_text o) < no_alias → number_of_alias o < 65536
alias-low none h = omega arith
alias-low (some a) h = omega arith

-- the fields of a row, by the rule
pub record RowReads (r : Rule) (rows text t : List ℕ) : Type 0 where
  pub name_length : length_of_name rows ≡ length r.name
  pub alias_number : two_at 2 rows ≡ number_of_alias r.alias
  pub takes : rule_taken rows ≡ length (rule_text r)
  pub is : rule_at rows text ≡ r
  pub rest : drop (rule_taken rows) text ≡ t

pub rule_row-reads : (r : Rule) (l t : List ℕ) → length (rule_text r) < no_alias → RowReads r (rule_row r l) (rule_text r ++ t) t
rule_row-reads r l t h =
    let n = length r.name in
    let a = alias_text r.alias in
    let long = length-append r.name a in
    let short : length a < no_alias = omega arith in
    let e : length_of_name (rule_row r l) ≡ n = two-says n (omega arith) in
    let f : two_at 2 (rule_row r l) ≡ number_of_alias r.alias = two-says (number_of_alias r.alias) (alias-low r.alias short) in
    let k : rule_taken (rule_row r l) ≡ length (rule_text r)
    = ap (λ x. x + alias_length (rule_row r l)) e ∙ ap (λ x. n + cond (eqb x no_alias) 0 x) f ∙ ap (λ x. n + x) (alias-takes r.alias short) ∙ sym long in
    let s : drop n (rule_text r ++ t) ≡ a ++ t = ap (drop n) (append_assoc r.name a t) ∙ drop-append_seam r.name (a ++ t) in
    let p : take n (rule_text r ++ t) ≡ r.name = ap (take n) (append_assoc r.name a t) ∙ take-append_seam r.name (a ++ t) in
    let q : alias_at (two_at 2 (rule_row r l)) (drop (length_of_name (rule_row r l)) (rule_text r ++ t)) ≡ r.alias
    = ap (λ x. alias_at x (drop (length_of_name (rule_row r l)) (rule_text r ++ t))) f
    ∙ ap (λ x. alias_at (number_of_alias r.alias) (drop x (rule_text r ++ t))) e
    ∙ ap (alias_at (number_of_alias r.alias)) s
    ∙ alias-reads r.alias t short in
    record {
      name_length = e;
      alias_number = f;
      takes = k;
      is =
          ap (λ x. rule x (alias_at (two_at 2 (rule_row r l)) (drop (length_of_name (rule_row r l)) (rule_text r ++ t))) r.class)
          (ap (λ x. take x (rule_text r ++ t)) e ∙ p)
          ∙ ap (λ x. rule r.name x r.class) q;
      rest = ap (λ x. drop x (rule_text r ++ t)) k ∙ drop-append_seam (rule_text r) t;
    }

row_fits : (r : Rule) (l t : List ℕ) → length (rule_text r) < no_alias → rule_fits r ≡ true → rule_row_fits (rule_row r l) (rule_text r ++ t) ≡ true
unfolding rule_row_fits
row_fits r l t h fit =
    let s = rule_row-reads r l t h in
    and-join _ _
    (le-leb (rule_taken (rule_row r l)) (length (rule_text r ++ t)) (omega (arith, s.takes, length-append (rule_text r) t)))
    (ap rule_fits s.is ∙ fit)

pub rules_in-written : (rs : List Rule) → all_fit rs ≡ true → length (text_of_rules rs) < no_alias → rules_in (length rs) (rows_of_rules rs) (text_of_rules rs) ≡ some rs
unfolding all_fit rules_in rows_of_rules text_of_rules
rules_in-written [] fit h = refl
rules_in-written (r ∷ rs) fit h =
    let f = (and-eq-true_iff (rule_fits r) (all_fit rs)).0 fit in
    let long = length-append (rule_text r) (text_of_rules rs) in
    let short : length (rule_text r) < no_alias = omega arith in
    let s = rule_row-reads r (rows_of_rules rs) (text_of_rules rs) short in
    let i = rules_in-written rs f.1 (omega arith) in
    let rows = rule_row r (rows_of_rules rs) in
    let text = rule_text r ++ text_of_rules rs in
    let others = rules_in (length rs) (rows_of_rules rs) (drop (rule_taken rows) text) in
    ap (λ b. cond b (ahead (rule_at rows text) others) none) (row_fits r (rows_of_rules rs) (text_of_rules rs) short f.0)
    ∙ ap (λ x. ahead x others) s.is
    ∙ ap (λ x. ahead r (rules_in (length rs) (rows_of_rules rs) x)) s.rest
    ∙ ap (ahead r) i

-- ---- a row that fits

-- what the test of a row says
pub record RuleRowFits (rows text : List ℕ) : Type 0 where
  pub pad : padded rows ≡ true
  pub room : rule_taken rows ≤ length text
  pub fits : rule_fits (rule_at rows text) ≡ true
  pub low : get_or rows 4 0 ≤ class_most
  pub name : valid (take (length_of_name rows) text) ≡ true

pub rule-row-says : (rows text : List ℕ) → rule_row_fits rows text ≡ true → RuleRowFits rows text
unfolding rule_row_fits
rule-row-says rows text e =
    let r = rule_at rows text in
    let a = (and-eq-true_iff (padded rows) (leb (rule_taken rows) (length text) && rule_fits r)).0 e in
    let b = (and-eq-true_iff (leb (rule_taken rows) (length text)) (rule_fits r)).0 a.1 in
    let c = (and-eq-true_iff (leb r.class class_most) (valid r.name && valid_alias r.alias)).0 b.1 in
    let d = (and-eq-true_iff (valid r.name) (valid_alias r.alias)).0 c.1 in
    record { pad = a.0; room = leb-true _ _ b.0; fits = b.1; low = leb-true _ _ c.0; name = d.0 }

pub alias_number : (m : ℕ) (t : List ℕ) → cond (eqb m no_alias) 0 m ≤ length t → number_of_alias (alias_at m t) ≡ m
alias_number m t h =
    by-test (eqb m no_alias)
    (λ e. ap (λ b. number_of_alias (cond b none (some (take m t)))) e ∙ sym (eqb-true m no_alias e))
    (λ e.
    ap (λ b. number_of_alias (cond b none (some (take m t)))) e
    ∙ length-take-le m t (subst (λ b. cond b 0 m ≤ length t) e h))

pub alias-text : (m : ℕ) (t : List ℕ) → alias_text (alias_at m t) ≡ take (cond (eqb m no_alias) 0 m) t
alias-text m t =
    by-test (eqb m no_alias)
    (λ e. ap (λ b. alias_text (cond b none (some (take m t)))) e ∙ sym (ap (λ b. take (cond b 0 m) t) e))
    (λ e. ap (λ b. alias_text (cond b none (some (take m t)))) e ∙ sym (ap (λ b. take (cond b 0 m) t) e))

-- the row is the row of its rule, and the text begins with the rule's text
row_written : (rows text : List ℕ) → Bytes rows → 8 ≤ length rows → RuleRowFits rows text → rows ≡ rule_row (rule_at rows text) (drop 8 rows)
row_written rows text by h f =
    let n = length_of_name rows in
    let m = two_at 2 rows in
    let room = f.room in
    let e : length (take n text) ≡ n = length-take-le n text (omega arith) in
    let g : number_of_alias (alias_at m (drop n text)) ≡ m = alias_number m (drop n text) (simp length-drop (omega arith)) in
    let tail = get_or rows 4 0 ∷ 0 ∷ 0 ∷ 0 ∷ drop 8 rows in
    let byte : ℕ → ℕ = λ i. get_or rows i 0 in
    let z = (and-eq-true_iff _ _).0 f.pad in
    let z' = (and-eq-true_iff _ _).0 z.1 in
    eight rows h
    ∙ ap (λ x. byte 0 ∷ byte 1 ∷ byte 2 ∷ byte 3 ∷ byte 4 ∷ x ∷ byte 6 ∷ byte 7 ∷ drop 8 rows) (eqb-true _ _ z.0)
    ∙ ap (λ x. byte 0 ∷ byte 1 ∷ byte 2 ∷ byte 3 ∷ byte 4 ∷ 0 ∷ x ∷ byte 7 ∷ drop 8 rows) (eqb-true _ _ z'.0)
    ∙ ap (λ x. byte 0 ∷ byte 1 ∷ byte 2 ∷ byte 3 ∷ byte 4 ∷ 0 ∷ 0 ∷ x ∷ drop 8 rows) (eqb-true _ _ z'.1)
    ∙ ap (λ x. byte 0 ∷ byte 1 ∷ x) (sym (two-of (byte 2) (byte 3) tail (by 2) (by 3)))
    ∙ sym (two-of (byte 0) (byte 1) (two m tail) (by 0) (by 1))
    ∙ sym (ap (λ x. two x (two m tail)) e)
    ∙ sym (ap (λ x. two (length (take n text)) (two x tail)) g)

text-written : (rows text : List ℕ) → text ≡ rule_text (rule_at rows text) ++ drop (rule_taken rows) text
text-written rows text =
    let n = length_of_name rows in
    let k = alias_length rows in
    sym
    (append_assoc (take n text) (alias_text (alias_at (two_at 2 rows) (drop n text))) (drop (rule_taken rows) text)
    ∙ ap (λ x. take n text ++ (x ++ drop (rule_taken rows) text)) (alias-text (two_at 2 rows) (drop n text))
    ∙ ap (λ x. take n text ++ (take k (drop n text) ++ x)) (sym (drop-drop k n text))
    ∙ ap (λ x. take n text ++ x) (take-append-drop k (drop n text))
    ∙ take-append-drop n text)

-- ---- all rows

pub record RulesWritten (n : ℕ) (rows text : List ℕ) (rs : List Rule) : Type 0 where
  pub many : length rs ≡ n
  pub rows_are : rows ≡ rows_of_rules rs
  pub text_is : text ≡ text_of_rules rs
  pub fit : all_fit rs ≡ true

pub no-rules : {rs : List Rule} → none ≡ some rs → ⊥
no-rules e = let z : ◌≡◌ {A = ℕ} 0 1 = cc in omega arith

pub rules_in-says : (n : ℕ) (rows text : List ℕ) (rs : List Rule) → Bytes rows → length rows ≡ 8 * n → rules_in n rows text ≡ some rs → RulesWritten n rows text rs
unfolding rules_in rows_of_rules text_of_rules all_fit
rules_in-says zero [] [] [] by l e = record { many = refl; rows_are = refl; text_is = refl; fit = refl }
rules_in-says zero (x ∷ rows) text rs by l e = absurd (omega arith)
rules_in-says zero [] (x ∷ text) rs by l e = absurd (no-rules e)
rules_in-says zero [] [] (r ∷ rs) by l e = absurd (let z : ◌≡◌ {A = ℕ} 0 1 = cc in omega arith)
rules_in-says (suc n) rows text rs by l e =
    by-test (rule_row_fits rows text)
    (λ t.
    let s = rule-row-says rows text t in
    let o = rules_in n (drop 8 rows) (drop (rule_taken rows) text) in
    let a = ahead-some (rule_at rows text) o rs (sym (ap (λ b. cond b (ahead (rule_at rows text) o) none) t) ∙ e) in
    let i = rules_in-says n (drop 8 rows) (drop (rule_taken rows) text) a.0 (bytes_drop 8 rows by) (length-drop 8 rows ∙ omega arith) a.1.0 in
    let many = i.many in
    subst (RulesWritten (suc n) rows text) a.1.1
    (record {
      many = ap suc many;
      rows_are = row_written rows text by (omega arith) s ∙ ap (rule_row (rule_at rows text)) i.rows_are;
      text_is = text-written rows text ∙ ap (λ x. rule_text (rule_at rows text) ++ x) i.text_is;
      fit = and-join _ _ s.fits i.fit;
    }))
    (λ t. absurd (no-rules (sym (ap (λ b. cond b (ahead (rule_at rows text) (rules_in n (drop 8 rows) (drop (rule_taken rows) text))) none) t) ∙ e)))

-- ---- the file

pub length-rows_of_rules : (rs : List Rule) → length (rows_of_rules rs) ≡ 8 * length rs
unfolding rows_of_rules
length-rows_of_rules [] = refl
length-rows_of_rules (r ∷ rs) = let e = length-rows_of_rules rs in omega arith

pub rules-whole : (file : List ℕ) → Trailed file → rules_of file ≡ rising (rules_in (count_of file) (row_area file) (text_area file))
unfolding rules_of
rules-whole file w = ap (λ b. cond b (rising (rules_in (count_of file) (row_area file) (text_area file))) none) (trailed-is file w)

pub rules-broken : (file : List ℕ) → trailed file ≡ false → rules_of file ≡ none
unfolding rules_of
rules-broken file t = ap (λ b. cond b (rising (rules_in (count_of file) (row_area file) (text_area file))) none) t

pub rules-tested : (file : List ℕ) (rs : List Rule) → rules_of file ≡ some rs → Trailed file
rules-tested file rs e =
    by-test (trailed file)
    (λ t. trailed-says file t)
    (λ t. absurd (no-rules (sym (rules-broken file t) ∙ e)))

-- what is written is read again
pub rules-file : (rs : List Rule) → all_fit rs ≡ true → rises rs ≡ true → length (file_of_rules rs) ≤ file_most → rules_of (file_of_rules rs) ≡ some rs
unfolding file_of_rules
rules-file rs fit up short =
    let text = text_of_rules rs in
    let rows = rows_of_rules rs in
    let n = length rs in
    let f = laid_out n text rows in
    let l = length-rows_of_rules rs in
    let t : text_area f ≡ text = laid-text n text rows l short in
    rules-whole f (laid-trailed n text rows l short)
    ∙ ap (λ x. rising (rules_in (count_of f) (row_area f) x)) t
    ∙ ap (λ x. rising (rules_in (count_of f) x text)) (laid-rows n text rows l short)
    ∙ ap (λ x. rising (rules_in x rows text)) (laid-count n text rows l short)
    ∙ ap rising (rules_in-written rs fit (omega (arith, laid-length n text rows l short)))
    ∙ ap (λ b. cond b (some rs) none) up

-- what is read was written so
pub record RulesDecoded (file : List ℕ) (rs : List Rule) : Type 0 where
  pub is : file ≡ file_of_rules rs
  pub fit : all_fit rs ≡ true
  pub rise : rises rs ≡ true
  pub whole : Trailed file
  pub start : start_of file ≡ length (text_of_rules rs)
  pub count : count_of file ≡ length rs
  pub rows_are : row_area file ≡ rows_of_rules rs

pub rising-some : (o : Option (List Rule)) (rs : List Rule) → rising o ≡ some rs → (o ≡ some rs) × (rises rs ≡ true)
rising-some none rs e = absurd (no-rules e)
rising-some (some ms) rs e =
    by-test (rises ms)
    (λ t. let q : some ms ≡ some rs = sym (ap (λ b. cond b (some ms) none) t) ∙ e in (q, ap rises (sym (some_is q)) ∙ t))
    (λ t. absurd (no-rules (sym (ap (λ b. cond b (some ms) none) t) ∙ e)))
  where
    some_is : {xs ys : List Rule} → some xs ≡ some ys → xs ≡ ys
    some_is e = cc

pub file-rules : (file : List ℕ) (rs : List Rule) → Bytes file → rules_of file ≡ some rs → RulesDecoded file rs
unfolding file_of_rules
file-rules file rs by e =
    let w = rules-tested file rs e in
    let r = rising-some (rules_in (count_of file) (row_area file) (text_area file)) rs (sym (rules-whole file w) ∙ e) in
    let v = rules_in-says (count_of file) (row_area file) (text_area file) rs (bytes-row_area file by) (length-row_area file w) r.0 in
    let many = v.many in
    let start : start_of file ≡ length (text_of_rules rs) = sym (length-text_area file w) ∙ ap length v.text_is in
    record {
      is =
          areas file w by
          ∙ ap (λ x. x ++ (row_area file ++ four (start_of file) (four (count_of file) []))) v.text_is
          ∙ ap (λ x. text_of_rules rs ++ (x ++ four (start_of file) (four (count_of file) []))) v.rows_are
          ∙ ap (λ x. text_of_rules rs ++ (rows_of_rules rs ++ four x (four (count_of file) []))) start
          ∙ ap (λ x. text_of_rules rs ++ (rows_of_rules rs ++ four (length (text_of_rules rs)) (four x []))) (sym many);
      fit = v.fit;
      rise = r.1;
      whole = w;
      start = start;
      count = sym many;
      rows_are = v.rows_are;
    }
