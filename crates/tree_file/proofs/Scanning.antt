-- The scan for shape goes row by row. After the row of a node come the rows under it and then those of the elements after it,
-- which are elements side by side (`row_opened`); and what is above a row counts only where it is an ItemBegin or ItemEnd.
use mathlib.Core.Path.{◌≡◌, refl, sym, ap, subst, ◌∙◌}
use mathlib.Core.Bool.{Bool, true, false, ◌&&◌, ◌||◌, cond, true≢false}
use mathlib.Core.Option.{Option}
use mathlib.Core.Option.Option.{none as nothing, some}
use mathlib.Core.List.{List, ◌++◌, append_assoc}
use Rattle.std.specs.Prelude.{Result, Ok, Err, ⊤}
use Prim.Native.Nat.{ℕ, ◌+◌, ◌*◌, ◌-◌, ◌/◌, ◌≤◌, ◌<◌}
use native.Mathlib.Omega.{arith}
use lib.Dec.{T, eqb, leb}
use native.Mathlib.Decide.{dec_le}
use mathlib.Core.Logic.{dite}
use Rattle.text.proofs.Writing.{part-rest, rest-length}
use borrow.Author.Tests.{eq-eqb, ne_eqb, eqb-true, leb-true}
use lib.ListN.{length, take, drop, get_or, length-append, get_or-append}
use lib.Seq.{take_at, drop_at}
use Rattle.text.specs.Writing.{cap}
use Rattle.mitex_syntax.specs.Syntax.{ClauseLR, ItemBegin, ItemEnd, TokenCommandSym, ItemCmd, ItemEnv, is_token, is_node}
use Rattle.mitex_syntax.specs.Tree.{Tree, Forest, size, sizes, rows_of, rows_ofs, text_of, texts_of, kind_of}
use Rattle.mitex_syntax.specs.Tree.Tree.{token, node}
use Rattle.mitex_syntax.specs.Tree.Forest.{none, more}
use Rattle.mitex_syntax.specs.Rows.{extent_of, token_at, token_sum, Spans}
use Rattle.utf8.specs.Utf8.{valid}
use Rattle.mitex_syntax.specs.Spells.{token_fits, Sound, Sounds, Spells, SpellsAll, Begins}
use Rattle.text.proofs.Numbers.{four-says}
use Rattle.mitex_syntax.proofs.Trees.{length-rowss, size-some, left, no-left, First, first-spelt, all-begins, others-exact, spells-alone}
use Rattle.tree_file.specs.Shape.{slashed, backslash, sym_fits, unless, or_else, lowest, lowests}
use Rattle.text.specs.Trailer.{file_most}
use Rattle.tree_file.specs.Parts.{shape_of, is_frame, is_ruled, first_fits, LowestFrom, PassSays, Scannable, Checkable}
use Rattle.mitex_syntax.specs.declared.Span.{Span}
use Rattle.tree_file.proofs.Grow.{join}
use Rattle.tree_file.proofs.Shapes.{token-some, shape-breaks, shape-right}

-- ---- two forests, one after the other

rows_ofs-join : (f g : Forest) → rows_ofs (join f g) ≡ rows_ofs f ++ rows_ofs g
unfolding join rows_of
rows_ofs-join none g = refl
rows_ofs-join (more t f) g = ap (λ l. rows_of t ++ l) (rows_ofs-join f g) ∙ sym (append_assoc (rows_of t) (rows_ofs f) (rows_ofs g))

texts_of-join : (f g : Forest) → texts_of (join f g) ≡ texts_of f ++ texts_of g
unfolding join text_of
texts_of-join none g = refl
texts_of-join (more t f) g = ap (λ l. text_of t ++ l) (texts_of-join f g) ∙ sym (append_assoc (text_of t) (texts_of f) (texts_of g))

sounds-join : (f g : Forest) → Sounds f → Sounds g → Sounds (join f g)
unfolding join Sound
sounds-join none g h k = k
sounds-join (more t f) g h k = (h.0, sounds-join f g h.1 k)

or_else-assoc : (a b c : Option ℕ) → or_else (or_else a b) c ≡ or_else a (or_else b c)
or_else-assoc nothing b c = refl
or_else-assoc (some r) b c = refl

lowests-join : (up row : ℕ) (f g : Forest) → lowests up row (join f g) ≡ or_else (lowests up row f) (lowests up (row + sizes f) g)
unfolding join lowest size
lowests-join up row none g = ap (λ n. lowests up n g) (let z : row ≡ row + 0 = omega arith in z)
lowests-join up row (more t f) g =
    let z : row + size t + sizes f ≡ row + (size t + sizes f) = omega arith in
    ap (or_else (lowest up row t)) (lowests-join up (row + size t) f g ∙ ap (λ n. or_else (lowests up (row + size t) f) (lowests up n g)) z)
    ∙ sym (or_else-assoc (lowest up row t) (lowests up (row + size t) f) (lowests up (row + (size t + sizes f)) g))

-- ---- what is above

not-frame : (up : ℕ) → is_frame up ≡ false → (k : ℕ) (s : List ℕ) → sym_fits up k s ≡ sym_fits 0 k s
not-frame up h k s = go (eqb up ItemBegin) (eqb up ItemEnd) h
  where
    go : (a b : Bool) → (a || b) ≡ false → cond (eqb k TokenCommandSym) (a || (b || slashed s)) true ≡ cond (eqb k TokenCommandSym) (slashed s) true
    go false false e = refl
    go true b e = absurd (let z : ◌≡◌ {A = ℕ} 0 1 = cc in omega arith)
    go false true e = absurd (let z : ◌≡◌ {A = ℕ} 0 1 = cc in omega arith)

not-frames : (up row : ℕ) → is_frame up ≡ false → (f : Forest) → lowests up row f ≡ lowests 0 row f
unfolding lowest
not-frames up row h none = refl
not-frames up row h (more (token k s) f) =
    ap (λ b. or_else (unless b row) (lowests up (row + size (token k s)) f)) (not-frame up h k s)
    ∙ ap (or_else (unless (sym_fits 0 k s) row)) (not-frames up (row + size (token k s)) h f)
not-frames up row h (more (node k g) f) = ap (or_else (lowest 0 row (node k g))) (not-frames up (row + size (node k g)) h f)

-- ---- the row that stands first

-- the elements after its row
abbrev row_opened : Tree → Forest → Forest
row_opened (token k s) f = f
row_opened (node k g) f = join g f

opened-spells : (t : Tree) (f : Forest) {rows text : List ℕ} → SpellsAll (more t f) rows text → length text < cap
    → SpellsAll (row_opened t f) (drop 8 rows) (drop (token_at rows) text)
unfolding rows_of text_of Sound
opened-spells (token k s) f {rows} {text} sp h =
    let e : token_at rows ≡ length s = ap token_at sp.rows_are ∙ four-says (length s) (omega (arith, ap length sp.text_is, length-append s (texts_of f))) in
    record {
      rows_are = ap (drop 8) sp.rows_are;
      text_is = ap (drop (token_at rows)) sp.text_is ∙ drop_at s (texts_of f) (token_at rows) (sym e);
      sound = sp.sound.1;
    }
opened-spells (node k g) f {rows} {text} sp h =
    let e : token_at rows ≡ 0 = ap token_at sp.rows_are in
    record {
      rows_are = ap (drop 8) sp.rows_are ∙ sym (rows_ofs-join g f);
      text_is = ap (λ n. drop n text) e ∙ sp.text_is ∙ sym (texts_of-join g f);
      sound = sounds-join g f sp.sound.0.1 sp.sound.1;
    }

opened-same : (t : Tree) (f : Forest) (row : ℕ) → is_frame (kind_of t) ≡ false → first_fits t ≡ true
    → lowests 0 row (more t f) ≡ lowests 0 (row + 1) (row_opened t f)
unfolding lowest size
opened-same (token k s) f row h e = ap (λ b. or_else (unless b row) (lowests 0 (row + 1) f)) e
opened-same (node k g) f row h e =
    let z : row + (1 + sizes g) ≡ row + 1 + sizes g = omega arith in
    ap (λ b. or_else (or_else (unless b row) (lowests k (row + 1) g)) (lowests 0 (row + (1 + sizes g)) f)) e
    ∙ ap (λ o. or_else o (lowests 0 (row + (1 + sizes g)) f)) (not-frames k (row + 1) h g)
    ∙ ap (λ n. or_else (lowests 0 (row + 1) g) (lowests 0 n f)) z
    ∙ sym (lowests-join 0 (row + 1) g f)

opened-breaks : (t : Tree) (f : Forest) (row : ℕ) → first_fits t ≡ false → lowests 0 row (more t f) ≡ some row
unfolding lowest
opened-breaks (token k s) f row e = ap (λ b. or_else (unless b row) (lowests 0 (row + size (token k s)) f)) e
opened-breaks (node k g) f row e = ap (λ b. or_else (or_else (unless b row) (lowests k (row + 1) g)) (lowests 0 (row + size (node k g)) f)) e

-- ---- whether its own row breaks a rule, by its kind

kind-first : (t : Tree) (f : Forest) {rows text : List ℕ} → SpellsAll (more t f) rows text → get_or rows 0 0 ≡ kind_of t
unfolding rows_of
kind-first (token k s) f sp = ap (λ l. get_or l 0 0) sp.rows_are
kind-first (node k g) f sp = ap (λ l. get_or l 0 0) sp.rows_are

-- a kind without rules is none that has
unruled : (k m : ℕ) → is_ruled k ≡ false → is_ruled m ≡ true → eqb k m ≡ false
unruled k m h r = ne_eqb k m (λ e. absurd (true≢false (sym r ∙ ap is_ruled (sym e) ∙ h)))

pub unruled-fits : (t : Tree) → is_ruled (kind_of t) ≡ false → true ≡ first_fits t
unruled-fits (token k s) h = rw (unruled k TokenCommandSym h refl)
unruled-fits (node k g) h = rw (unruled k ClauseLR h refl, unruled k ItemCmd h refl, unruled k ItemEnv h refl)

pub first-unruled : (t : Tree) (f : Forest) {rows text : List ℕ} → SpellsAll (more t f) rows text → is_ruled (get_or rows 0 0) ≡ false → true ≡ first_fits t
first-unruled t f sp h = unruled-fits t (ap is_ruled (sym (kind-first t f sp)) ∙ h)

pub first-sym : (t : Tree) (f : Forest) {rows text : List ℕ} → SpellsAll (more t f) rows text → get_or rows 0 0 ≡ TokenCommandSym → slashed text ≡ first_fits t
unfolding text_of Sound
first-sym (token k s) f sp e =
    let is : eqb k TokenCommandSym ≡ true = eq-eqb k TokenCommandSym (sym (kind-first (token k s) f sp) ∙ e) in
    ap slashed sp.text_is ∙ ap (λ b. eqb b backslash) (get_or-append s (texts_of f) 0 0 (token-some k s sp.sound.0)) ∙ rw is
first-sym (node k g) f sp e = absurd (subst T (ap is_node (sym (kind-first (node k g) f sp) ∙ e)) sp.sound.0.0)

-- the kinds with rules are nodes', but for one
ruled-node : (k : ℕ) → is_ruled k ≡ true → (k ≡ TokenCommandSym → ⊥) → is_token k ≡ false
ruled-node k h n = go (eqb k ClauseLR) refl
  where
    high : TokenCommandSym ≤ k → k ≤ ItemEnv → is_token k ≡ false
    high a b = dite (dec_le k ItemCmd) (λ l. ap is_token (let z : k ≡ ItemCmd = omega arith in z)) (λ l. ap is_token (let z : k ≡ ItemEnv = omega arith in z))

    between : (a b : Bool) → leb TokenCommandSym k ≡ a → leb k ItemEnv ≡ b → (a && b) ≡ true → is_token k ≡ false
    between true true p q e = high (leb-true TokenCommandSym k p) (leb-true k ItemEnv q)
    between true false p q e = absurd (true≢false (sym e))
    between false b p q e = absurd (true≢false (sym e))

    go : (a : Bool) → eqb k ClauseLR ≡ a → is_token k ≡ false
    go true p = ap is_token (eqb-true k ClauseLR p)
    go false p = between (leb TokenCommandSym k) (leb k ItemEnv) refl refl (sym (ap (λ x. x || (leb TokenCommandSym k && leb k ItemEnv)) p) ∙ h)

token-kind : (k : ℕ) (s : List ℕ) → is_token k ≡ false → T (token_fits k s) → ⊥
token-kind k s e h = subst (λ x. T (x && (leb 1 (length s) && valid s))) e h

-- the rows under a node that stands first
first-begins : (k : ℕ) (g f : Forest) {rows text : List ℕ} → SpellsAll (more (node k g) f) rows text → length rows < cap → (e : ℕ) → e ≡ extent_of rows
    → Begins g (take (e - 8) (drop 8 rows)) text
unfolding rows_of text_of Sound size
first-begins k g f {rows} {text} sp few e is =
    let long = length-rowss g in
    let all = ap length sp.rows_are in
    let sum = length-append (rows_ofs g) (rows_ofs f) in
    let x : e ≡ 8 + 8 * sizes g = is ∙ ap extent_of sp.rows_are ∙ ap (λ n. 8 + 8 * n) (four-says (sizes g) (omega arith)) in
    record {
      rows_are = ap (λ l. take (e - 8) (drop 8 l)) sp.rows_are ∙ take_at (rows_ofs g) (rows_ofs f) (e - 8) (omega arith);
      rest = texts_of f;
      text_is = sp.text_is;
      sound = sp.sound.0.1;
    }

module _ (t : Tree) (f : Forest) {rows text : List ℕ} (sp : SpellsAll (more t f) rows text) (few : length rows < cap) where
  pub first_under : is_ruled (get_or rows 0 0) ≡ true → (get_or rows 0 0 ≡ TokenCommandSym → ⊥) → (e : ℕ) → e ≡ extent_of rows
      → (g : Forest) × ((t ≡ node (get_or rows 0 0) g) × Begins g (take (e - 8) (drop 8 rows)) text)
  unfolding Sound
  first_under h n e is = go t sp (ruled-node (get_or rows 0 0) h n)
    where
      go : (u : Tree) → SpellsAll (more u f) rows text → is_token (get_or rows 0 0) ≡ false
          → (g : Forest) × ((u ≡ node (get_or rows 0 0) g) × Begins g (take (e - 8) (drop 8 rows)) text)
      go (token k s) q z = absurd (token-kind k s (ap is_token (sym (kind-first (token k s) f q)) ∙ z) q.sound.0)
      go (node k g) q z = (g, (ap (λ m. node m g) (sym (kind-first (node k g) f q)), first-begins k g f q few e is))

-- ---- the element that stands first

pub record ScanHead (g : Forest) (rows text : List ℕ) : Type 0 where
  pub tree : Tree
  pub others : Forest
  pub is : g ≡ more tree others
  pub exact : SpellsAll (more tree others) rows text
  pub first : First tree others rows text
  pub some : 1 ≤ size tree

pub scan-head : (g : Forest) {rows text : List ℕ} → SpellsAll g rows text → 8 ≤ length rows → length rows ≤ file_most → length text ≤ file_most → ScanHead g rows text
scan-head g {rows} {text} sp h few short =
    let x = left g sp.rows_are (omega arith) in
    let e = x.1.1 in
    let q = subst (λ y. SpellsAll y rows text) e sp in
    record {
      tree = x.0;
      others = x.1.0;
      is = e;
      exact = q;
      first = first-spelt (all-begins q) (omega arith) (omega arith);
      some = size-some x.0;
    }

-- that of the elements that are given
pub given-scan-head : {rows text : List ℕ} (s : Scannable rows text) → ScanHead s.forest rows text
given-scan-head s = scan-head s.forest s.spells s.some s.few s.short

-- what reading its size asks
pub scan-head-spans : {g : Forest} {rows text : List ℕ} → ScanHead g rows text → length rows < cap → length text < cap → Spans rows 0
scan-head-spans {g} {rows} {text} x few short =
    let e = x.first.extent in
    let i = x.first.inside in
    let b = x.some in
    let z = x.first.fits in
    record {
      some = omega arith;
      inside = omega arith;
      few = few;
      short = subst (λ n. n < cap) (sym (ap (λ m. token_sum (take m rows)) e ∙ x.first.sum)) (omega arith);
    }

-- where its own row breaks a rule
pub scan-head-breaks : {g : Forest} {rows text : List ℕ} (x : ScanHead g rows text) (row : ℕ) (b : Bool) → b ≡ first_fits x.tree → b ≡ false → lowests 0 row g ≡ some row
scan-head-breaks x row b e h = ap (lowests 0 row) x.is ∙ opened-breaks x.tree x.others row (sym e ∙ h)

-- where it does not what is left decides
pub scan-head-opened : {g : Forest} {rows text : List ℕ} (x : ScanHead g rows text) → length text < cap → (row : ℕ) → is_frame (get_or rows 0 0) ≡ false
    → (b : Bool) → b ≡ first_fits x.tree → b ≡ true → (n : ℕ) → n ≡ token_at rows → LowestFrom g row (row + 8 / 8) (drop 8 rows) (drop n text)
scan-head-opened {g} {rows} {text} x short row h b e t n is =
    record {
      forest = row_opened x.tree x.others;
      spells = subst (λ m. SpellsAll (row_opened x.tree x.others) (drop 8 rows) (drop m text)) (sym is) (opened-spells x.tree x.others x.exact short);
      same = ap (lowests 0 row) x.is ∙ opened-same x.tree x.others row (ap is_frame (sym (kind-first x.tree x.others x.exact)) ∙ h) (sym e ∙ t);
    }

-- its text is there
pub scan-head-room : {g : Forest} {rows text : List ℕ} (x : ScanHead g rows text) → length text < cap → token_at rows ≤ length text
unfolding rows_of text_of
scan-head-room {g} {rows} {text} x short = go x.tree x.exact
  where
    go : (t : Tree) → SpellsAll (more t x.others) rows text → token_at rows ≤ length text
    go (token k s) sp =
        let all = ap length sp.text_is ∙ length-append s (texts_of x.others) in
        omega (arith, ap token_at sp.rows_are, four-says (length s) (omega arith))
    go (node k f) sp = omega (arith, ap token_at sp.rows_are)

-- e bytes of rows and n of text are those of the whole element
pub record Spanned (rows : List ℕ) (e n : ℕ) : Type 0 where
  pub is_e : e ≡ extent_of rows
  pub is_n : n ≡ token_sum (take (extent_of rows) rows)

module _ {g : Forest} {rows text : List ℕ} {e n : ℕ} (w : Spanned rows e n) (x : ScanHead g rows text) where
  pub pass-whole-rows : e ≡ 8 * size x.tree
  pass-whole-rows = w.is_e ∙ x.first.extent

  pub pass-whole-text : n ≡ length (text_of x.tree)
  pass-whole-text = w.is_n ∙ ap (λ m. token_sum (take m rows)) x.first.extent ∙ x.first.sum

  pub pass-whole-spells : Spells x.tree (take e rows) (take n text)
  pass-whole-spells =
      subst (λ m. Spells x.tree (take m rows) (take n text)) (sym pass-whole-rows)
      (subst (λ m. Spells x.tree (take (8 * size x.tree) rows) (take m text)) (sym pass-whole-text) x.first.first)

  pub pass-whole-rest : SpellsAll x.others (drop e rows) (drop n text)
  pass-whole-rest =
      subst (λ m. SpellsAll x.others (drop m rows) (drop n text)) (sym pass-whole-rows)
      (subst (λ m. SpellsAll x.others (drop (8 * size x.tree) rows) (drop m text)) (sym pass-whole-text) (others-exact x.exact))

  -- what the answer for it says of all, under a node of the kind `up`
  module _ (up row : ℕ) (a : Result ⊤ ℕ) (says : (u : Tree) → Spells u (take e rows) (take n text) → a ≡ shape_of (lowest up row u)) where
    pass-whole-lowest : lowests up row g ≡ or_else (lowest up row x.tree) (lowests up (row + size x.tree) x.others)
    unfolding lowest
    pass-whole-lowest = ap (lowests up row) x.is

    pub pass-whole-breaks : (r : ℕ) → a ≡ Err r → lowests up row g ≡ some r
    pass-whole-breaks r b =
        let y = shape-breaks (lowest up row x.tree) r (sym (says x.tree pass-whole-spells) ∙ b) in
        pass-whole-lowest ∙ ap (λ o. or_else o (lowests up (row + size x.tree) x.others)) y

    pub pass-whole-same : a ≡ Ok tt → lowests up row g ≡ lowests up (row + e / 8) x.others
    pass-whole-same b =
        let y = shape-right (lowest up row x.tree) (sym (says x.tree pass-whole-spells) ∙ b) in
        let size_is : size x.tree ≡ e / 8 = sym (ap (λ m. m / 8) pass-whole-rows ∙ omega arith) in
        pass-whole-lowest ∙ ap (λ o. or_else o (lowests up (row + size x.tree) x.others)) y ∙ ap (λ m. lowests up (row + m) x.others) size_is

-- ---- the scan

-- what is left decides, of any tree that is spelt
pub record ShapeScan (rows text l t : List ℕ) (at : ℕ) : Type 0 where
  pub asked : Checkable rows text 0
  pub few : at + length l ≤ length rows
  pub short : length t ≤ length text
  pub reach : (u : Tree) → Spells u rows text → LowestFrom (more u none) 0 at l t

-- e bytes of rows and n of text on stands the next row
pub record ShapeScanMoves (rows text l t : List ℕ) (at e n : ℕ) : Type 0 where
  pub some : 8 ≤ e
  pub rows_in : e ≤ length l
  pub text_in : n ≤ length t
  pub low : at + e ≤ file_most
  pub next : ShapeScan rows text (take (length l - e) (drop e l)) (take (length t - n) (drop n t)) (at + e / 8)

alone : (u : Tree) → lowests 0 0 (more u none) ≡ lowest 0 0 u
unfolding lowest
alone u = go (lowest 0 0 u)
  where
    go : (o : Option ℕ) → or_else o nothing ≡ o
    go nothing = refl
    go (some r) = refl

pub shape-scan-start : {rows text : List ℕ} → Checkable rows text 0 → ShapeScan rows text rows text 0
shape-scan-start a = record { asked = a; few = omega arith; short = omega arith; reach = λ u sp. record { forest = more u none; spells = spells-alone sp; same = refl } }

module _ {rows text l t : List ℕ} {at : ℕ} (s : ShapeScan rows text l t at) where
  reached : LowestFrom (more s.asked.given.tree none) 0 at l t
  reached = s.reach s.asked.given.tree s.asked.given.spells

  pub shape-scan-asks : 8 ≤ length l → Scannable l t
  shape-scan-asks h =
      let a = s.asked.few in
      let b = s.asked.short in
      let c = s.few in
      let d = s.short in
      record { forest = reached.forest; spells = reached.spells; some = h; few = omega arith; short = omega arith }

  pub shape-scan-breaks : (p : Result Span ℕ) (r : ℕ) → PassSays l t at p → p ≡ Err r → (u : Tree) → Spells u rows text → Err r ≡ shape_of (lowest 0 0 u)
  shape-scan-breaks p r w e u sp =
      let z : PassSays l t at (Err r) = subst (PassSays l t at) e w in
      let x = s.reach u sp in
      sym (ap shape_of (sym (alone u) ∙ x.same ∙ z x.forest x.spells))

  pub shape-scan-end : length l < 8 → (u : Tree) → Spells u rows text → Ok tt ≡ shape_of (lowest 0 0 u)
  unfolding lowest
  shape-scan-end h u sp =
      let x = s.reach u sp in
      let e = no-left x.forest x.spells.rows_are (omega (arith, ap length x.spells.rows_are, length-rowss x.forest)) in
      sym (ap shape_of (sym (alone u) ∙ x.same ∙ ap (lowests 0 at) e))

  -- the next place
  pub shape-scan-moves : (p : Result Span ℕ) (m : Span) → PassSays l t at p → p ≡ Ok m → ShapeScanMoves rows text l t at m.rows m.text
  shape-scan-moves p m w is =
      let e = m.rows in
      let n = m.text in
      let q : PassSays l t at (Ok m) = subst (PassSays l t at) is w in
      let b = q.1 in
      let d = s.few in
      let f = s.short in
      record {
        some = q.0;
        rows_in = b;
        text_in = q.2;
        low = let a = s.asked.few in omega arith;
        next = record {
          asked = s.asked;
          few = omega (arith, rest-length l e);
          short = omega (arith, rest-length t n);
          reach = λ u sp.
              let x = s.reach u sp in
              let y = q.3 x.forest x.spells in
              record {
                forest = y.forest;
                spells = subst (λ a. SpellsAll y.forest a (take (length t - n) (drop n t))) (sym (part-rest l e))
                    (subst (λ a. SpellsAll y.forest (drop e l) a) (sym (part-rest t n)) y.spells);
                same = x.same ∙ y.same;
              };
        };
      }
