-- Rows, and text that begins with theirs, spell elements in one way only (`forest-once`). So that some elements are spelt is a
-- fact, with one proof at most (`SomeForest-prop`), and a ghost field may hold it.
use mathlib.Core.Path.{◌≡◌, refl, sym, ap, ◌∙◌}
use mathlib.Core.HLevel.{is_prop→PathP, ×_prop, Unit-prop}
use mathlib.Core.List.{List, [], ◌++◌, append_assoc, append-nil}
use Prim.Native.Nat.{ℕ, ◌+◌, ◌*◌, ◌/◌, ◌%◌, ◌≤◌, ◌<◌}
use native.Mathlib.Omega.{arith}
use Rattle.std.proofs.Props.{props}
use Rattle.std.proofs.Math.Dec.{T_prop}
use Rattle.std.proofs.lemmas.List.{append_cancel_left}
use lib.ListN.{length, take, drop, length-append, length-drop}
use lib.Seq.{take_at, drop_at}
use Rattle.text.specs.Writing.{cap}
use Rattle.text.specs.Numbers.{four, four_at}
use Rattle.mitex_syntax.specs.Tree.{Tree, Forest, size, sizes, rows_of, rows_ofs, text_of, texts_of}
use Rattle.mitex_syntax.specs.Tree.Tree.{token, node}
use Rattle.mitex_syntax.specs.Tree.Forest.{none, more}
use Rattle.mitex_syntax.specs.Spells.{token_fits, Sound, Sounds, Begins, SomeForest}
use Rattle.mitex_syntax.specs.Syntax.{is_node}

-- what is the same of two elements with the same first rows and text
pub record Once (t u : Tree) (r s a b : List ℕ) : Type 0 where
  pub same : t ≡ u
  pub rows_left : r ≡ s
  pub text_left : a ≡ b

four-says :
    (n : ℕ) → n < cap → n % 256 + 256 * (n / 256 % 256) + 65536 * (n / 256 / 256 % 256) + 16777216 * (n / 256 / 256 / 256 % 256) ≡ n
four-says n h = omega arith

four-once : (m n : ℕ) (r s : List ℕ) → m < cap → n < cap → four m r ≡ four n s → m ≡ n
four-once m n r s hm hn e = sym (four-says m hm) ∙ ap (four_at 0) e ∙ four-says n hn

-- the rows of a tree
mutual
  unfolding rows_of size

  pub length-rows : (t : Tree) → length (rows_of t) ≡ 8 * size t
  length-rows (token k s) = refl
  length-rows (node k f) = omega (arith, length-rowss f)

  pub length-rowss : (f : Forest) → length (rows_ofs f) ≡ 8 * sizes f
  length-rowss none = refl
  length-rowss (more t f) = omega (arith, length-append (rows_of t) (rows_ofs f), length-rows t, length-rowss f)

pub size-some : (t : Tree) → 1 ≤ size t
unfolding size
size-some (token k s) = omega arith
size-some (node k f) = omega arith

mutual
  unfolding rows_of text_of size

  tree-once :
      (t u : Tree) (r s a b : List ℕ) → size t < cap → size u < cap → length (text_of t) < cap → length (text_of u) < cap
      → rows_of t ++ r ≡ rows_of u ++ s → text_of t ++ a ≡ text_of u ++ b → Once t u r s a b
  tree-once (token k x) (token j y) r s a b ht hu hx hy e q =
      let l : length x ≡ length y = four-once (length x) (length y) r s hx hy (ap (drop 4) e) in
      let i : x ≡ y = sym (take_at x a (length x) refl) ∙ ap (take (length x)) q ∙ take_at y b (length x) (sym l) in
      let o : k ≡ j = cc in
      record {
        same = cc;
        rows_left = ap (drop 8) e;
        text_left = sym (drop_at x a (length x) refl) ∙ ap (drop (length x)) q ∙ drop_at y b (length x) (sym l);
      }
  tree-once (token k x) (node j g) r s a b ht hu hx hy e q = let z : ◌≡◌ {A = ℕ} 1 0 = cc in absurd (omega arith)
  tree-once (node k f) (token j y) r s a b ht hu hx hy e q = let z : ◌≡◌ {A = ℕ} 0 1 = cc in absurd (omega arith)
  tree-once (node k f) (node j g) r s a b ht hu hx hy e q =
      let l : sizes f ≡ sizes g = four-once (sizes f) (sizes g) (rows_ofs f ++ r) (rows_ofs g ++ s) (omega arith) (omega arith) (ap (drop 4) e) in
      let o : k ≡ j = cc in
      let z = forest-once f g r s a b (omega arith) (omega arith) hx hy l (ap (drop 8) e) q in
      let i : f ≡ g = z.0 in
      record { same = cc; rows_left = z.1.0; text_left = z.1.1 }

  pub forest-once :
      (f g : Forest) (r s a b : List ℕ) → sizes f < cap → sizes g < cap → length (texts_of f) < cap → length (texts_of g) < cap
      → sizes f ≡ sizes g → rows_ofs f ++ r ≡ rows_ofs g ++ s → texts_of f ++ a ≡ texts_of g ++ b → (f ≡ g) × ((r ≡ s) × (a ≡ b))
  forest-once none none r s a b hf hg hx hy l e q = (refl, (e, q))
  forest-once none (more u g) r s a b hf hg hx hy l e q = absurd (omega (arith, size-some u))
  forest-once (more t f) none r s a b hf hg hx hy l e q = absurd (omega (arith, size-some t))
  forest-once (more t f) (more u g) r s a b hf hg hx hy l e q =
      let lt = length-append (text_of t) (texts_of f) in
      let lu = length-append (text_of u) (texts_of g) in
      let o =
      tree-once t u (rows_ofs f ++ r) (rows_ofs g ++ s) (texts_of f ++ a) (texts_of g ++ b) (omega arith) (omega arith) (omega arith) (omega arith)
      (sym (append_assoc (rows_of t) (rows_ofs f) r) ∙ e ∙ append_assoc (rows_of u) (rows_ofs g) s)
      (sym (append_assoc (text_of t) (texts_of f) a) ∙ q ∙ append_assoc (text_of u) (texts_of g) b) in
      let n : size t ≡ size u = ap size o.same in
      let z =
      forest-once f g r s a b (omega arith) (omega arith) (omega arith) (omega arith) (omega arith) o.rows_left o.text_left in
      let i : f ≡ g = z.0 in
      let p : t ≡ u = o.same in
      (cc, z.1)

-- ---- facts

mutual
  unfolding Sound

  pub Sound-prop : (t : Tree) → IsProp (Sound t)
  Sound-prop (token k s) = T_prop (token_fits k s)
  Sound-prop (node k f) = ×_prop (T_prop (is_node k)) (Sounds-prop f)

  pub Sounds-prop : (f : Forest) → IsProp (Sounds f)
  Sounds-prop none = Unit-prop
  Sounds-prop (more t f) = ×_prop (Sound-prop t) (Sounds-prop f)

pub Begins-prop : (f : Forest) (rows text : List ℕ) → IsProp (Begins f rows text)
Begins-prop f rows text x y =
    let rows_prop : IsProp (rows ≡ rows_ofs f) = hlevel props in
    let text_prop : (l : List ℕ) → IsProp (text ≡ texts_of f ++ l) = hlevel props in
    let r : x.rest ≡ y.rest = append_cancel_left (texts_of f) x.rest y.rest (sym x.text_is ∙ y.text_is) in
    λ i. record {
      rows_are = rows_prop x.rows_are y.rows_are i;
      rest = r i;
      text_is = is_prop→PathP (λ k. text ≡ texts_of f ++ r k) (λ k. text_prop (r k)) x.text_is y.text_is i;
      sound = Sounds-prop f x.sound y.sound i;
    }

same-forest :
    (f g : Forest) {rows text : List ℕ} → length rows < cap → length text < cap → Begins f rows text → Begins g rows text → f ≡ g
same-forest f g few short x y =
    let rx = ap length x.rows_are ∙ length-rowss f in
    let ry = ap length y.rows_are ∙ length-rowss g in
    let tx = ap length x.text_is ∙ length-append (texts_of f) x.rest in
    let ty = ap length y.text_is ∙ length-append (texts_of g) y.rest in
    (forest-once f g [] [] x.rest y.rest (omega arith) (omega arith) (omega arith) (omega arith) (omega arith)
    (append-nil (rows_ofs f) ∙ sym x.rows_are ∙ y.rows_are ∙ sym (append-nil (rows_ofs g))) (sym x.text_is ∙ y.text_is)).0

pub SomeForest-prop : (rows text : List ℕ) (i j : ℕ) → IsProp (SomeForest rows text i j)
SomeForest-prop rows text i j x y =
    let few_prop : IsProp (length rows < cap) = hlevel props in
    let short_prop : IsProp (length text < cap) = hlevel props in
    let low_prop : IsProp (i ≤ length rows) = hlevel props in
    let begun_prop : IsProp (j ≤ length text) = hlevel props in
    let few = x.few in
    let short = x.short in
    let l = length-drop i rows in
    let m = length-drop j text in
    let e : x.forest ≡ y.forest = same-forest x.forest y.forest (omega arith) (omega arith) x.begins y.begins in
    λ k. record {
      few = few_prop x.few y.few k;
      short = short_prop x.short y.short k;
      low = low_prop x.low y.low k;
      begun = begun_prop x.begun y.begun k;
      forest = e k;
      begins =
          is_prop→PathP (λ n. Begins (e n) (drop i rows) (drop j text)) (λ n. Begins-prop (e n) (drop i rows) (drop j text)) x.begins y.begins k;
    }
