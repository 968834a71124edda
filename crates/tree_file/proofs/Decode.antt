-- `decode` and `file_of` are each other's inverse: the definition that computes gives t exactly where the file is that of t, within
-- the limits. Read the trailer, then the rows (Rows), then let them grow (Grow).
use mathlib.Core.Path.{◌≡◌, refl, sym, ap, subst, ◌∙◌}
use mathlib.Core.Bool.{Bool, true, false, ◌&&◌, cond, and-eq-true_iff}
use mathlib.Core.Option.{Option}
use mathlib.Core.Option.Option.{none as nothing, some}
use mathlib.Core.List.{List, [], ◌∷◌, ◌++◌, append_assoc, append-nil}
use Prim.Native.Nat.{ℕ, ◌*◌, ◌≤◌, ◌<◌}
use native.Mathlib.Omega.{arith}
use lib.Dec.{eqb, leb}
use borrow.Author.Tests.{eq-eqb, le-leb, eqb-true, leb-true}
use lib.ListN.{length, length-append}
use Rattle.text.specs.Numbers.{Bytes, four}
use Rattle.text.specs.Writing.{cap}
use Rattle.mitex_syntax.specs.Syntax.{ScopeRoot}
use Rattle.mitex_syntax.specs.Tree.{Tree, Forest, size, sizes, rows_of, rows_ofs, text_of, texts_of, count, file_of}
use Rattle.mitex_syntax.specs.Tree.Tree.{token, node}
use Rattle.mitex_syntax.specs.Tree.Forest.{none, more}
use Rattle.mitex_syntax.specs.Spells.{Sound, Sounds, Spells}
use Rattle.mitex_syntax.proofs.Trees.{length-rows}
use Rattle.text.specs.Trailer.{file_most, trailed, start_of, count_of, text_area, row_area}
use Rattle.text.proofs.Trailer.{Trailed, trailed-says, trailed-is, areas, length-text_area, length-row_area}
use Rattle.text.proofs.Trailer.{bytes-row_area, laid-length, laid-count, laid-trailed, laid-text, laid-rows}
use Rattle.tree_file.specs.Layout.{blocks_most, Line, lines, grow, grows, root, decode, Rooted, Laid}
use Rattle.tree_file.specs.Parts.{bytes_of, texts_in, LinesFit}
use Rattle.tree_file.proofs.Grow.{no-some, lines_of, lines_ofs, grow-sound, grow-complete, length-lines}
use Rattle.tree_file.proofs.Rows.{Read, lines-sound, lines-complete}

mutual
  unfolding rows_of lines_of bytes_of

  pub bytes-tree : (t : Tree) (ls : List Line) → bytes_of (lines_of t ++ ls) ≡ rows_of t ++ bytes_of ls
  bytes-tree (token k s) ls = refl
  bytes-tree (node k f) ls = ap (λ l. k ∷ 0 ∷ 0 ∷ 0 ∷ four (sizes f) l) (bytes-forest f ls)

  pub bytes-forest : (f : Forest) (ls : List Line) → bytes_of (lines_ofs f ++ ls) ≡ rows_ofs f ++ bytes_of ls
  bytes-forest none ls = refl
  bytes-forest (more t f) ls =
      ap bytes_of (append_assoc (lines_of t) (lines_ofs f) ls) ∙ bytes-tree t (lines_ofs f ++ ls)
      ∙ ap (λ l. rows_of t ++ l) (bytes-forest f ls) ∙ sym (append_assoc (rows_of t) (rows_ofs f) (bytes_of ls))

mutual
  unfolding text_of lines_of texts_in

  pub text-tree : (t : Tree) (ls : List Line) → texts_in (lines_of t ++ ls) ≡ text_of t ++ texts_in ls
  text-tree (token k s) ls = refl
  text-tree (node k f) ls = text-forest f ls

  pub text-forest : (f : Forest) (ls : List Line) → texts_in (lines_ofs f ++ ls) ≡ texts_of f ++ texts_in ls
  text-forest none ls = refl
  text-forest (more t f) ls =
      ap texts_in (append_assoc (lines_of t) (lines_ofs f) ls) ∙ text-tree t (lines_ofs f ++ ls)
      ∙ ap (λ l. text_of t ++ l) (text-forest f ls) ∙ sym (append_assoc (text_of t) (texts_of f) (texts_in ls))

pub bytes-all : (f : Forest) → bytes_of (lines_ofs f) ≡ rows_ofs f
unfolding bytes_of
bytes-all f = ap bytes_of (sym (append-nil (lines_ofs f))) ∙ bytes-forest f [] ∙ append-nil (rows_ofs f)

pub text-all : (f : Forest) → texts_in (lines_ofs f) ≡ texts_of f
unfolding texts_in
text-all f = ap texts_in (sym (append-nil (lines_ofs f))) ∙ text-forest f [] ∙ append-nil (texts_of f)

mutual
  unfolding lines_of LinesFit Sound

  pub sound-tree : (t : Tree) (ls : List Line) → LinesFit (lines_of t ++ ls) → Sound t × LinesFit ls
  sound-tree (token k s) ls h = (h.0, h.2)
  sound-tree (node k f) ls h = let w = sound-forest f ls h.2 in ((h.0, w.0), w.1)

  pub sound-forest : (f : Forest) (ls : List Line) → LinesFit (lines_ofs f ++ ls) → Sounds f × LinesFit ls
  sound-forest none ls h = (tt, h)
  sound-forest (more t f) ls h =
      let w = sound-tree t (lines_ofs f ++ ls) (subst LinesFit (append_assoc (lines_of t) (lines_ofs f) ls) h) in
      let v = sound-forest f ls w.1 in
      ((w.0, v.0), v.1)

mutual
  unfolding lines_of LinesFit Sound text_of size

  pub fits-tree : (t : Tree) (ls : List Line) → Sound t → length (text_of t) < cap → size t < cap → LinesFit ls → LinesFit (lines_of t ++ ls)
  fits-tree (token k s) ls h lt ls' r = (h, lt, r)
  fits-tree (node k f) ls h lt lo r = (h.0, omega arith, fits-forest f ls h.1 lt (omega arith) r)

  pub fits-forest : (f : Forest) (ls : List Line) → Sounds f → length (texts_of f) < cap → sizes f < cap → LinesFit ls → LinesFit (lines_ofs f ++ ls)
  fits-forest none ls h lt lo r = r
  fits-forest (more t f) ls h lt lo r =
      subst LinesFit (sym (append_assoc (lines_of t) (lines_ofs f) ls))
      (fits-tree t (lines_ofs f ++ ls) h.0 (omega (arith, length-append (text_of t) (texts_of f))) (omega arith)
      (fits-forest f ls h.1 (omega (arith, length-append (text_of t) (texts_of f))) (omega arith) r))

-- the root
root-node :
    (k : ℕ) (f : Forest) (t : Tree) (b : Bool) → eqb k ScopeRoot && leb (count f) blocks_most ≡ b → cond b (some (node k f)) nothing ≡ some t
    → (node k f ≡ t) × (k ≡ ScopeRoot) × (count f ≤ blocks_most)
root-node k f t true e q = let w = (and-eq-true_iff _ _).0 e in (cc, eqb-true k ScopeRoot w.0, leb-true _ _ w.1)
root-node k f t false e q = absurd (no-some q)

pub root-sound : (o : Option Forest) (t : Tree) → root o ≡ some t → (o ≡ some (more t none)) × Rooted t
root-sound nothing t e = absurd (no-some e)
root-sound (some none) t e = absurd (no-some e)
root-sound (some (more u (more v f))) t e = absurd (no-some e)
root-sound (some (more (token k s) none)) t e = absurd (no-some e)
root-sound (some (more (node k f) none)) t e =
    let w = root-node k f t _ refl e in
    (ap (λ u. some (more u none)) w.0, subst Rooted w.0 (w.1, w.2))

pub root-complete : (t : Tree) → Rooted t → root (some (more t none)) ≡ some t
root-complete (token k s) h = absurd h
root-complete (node k f) h = let a = eq-eqb k ScopeRoot h.0 in let b = le-leb (count f) blocks_most h.1 in rw (a, b)

-- the trailer decides
pub decode-by : (b : List ℕ) → Trailed b → decode b ≡ root (grows (lines (count_of b) (row_area b) (text_area b)))
unfolding decode
decode-by b h = ap (λ x. cond x (root (grows (lines (count_of b) (row_area b) (text_area b)))) nothing) (trailed-is b h)

pub decode-not : (b : List ℕ) → trailed b ≡ false → decode b ≡ nothing
unfolding decode
decode-not b h = ap (λ x. cond x (root (grows (lines (count_of b) (row_area b) (text_area b)))) nothing) h

decode-some : (b : List ℕ) (t : Tree) → decode b ≡ some t → Trailed b
unfolding decode
decode-some b t e =
    let go : (x : Bool) → trailed b ≡ x → cond x (root (grows (lines (count_of b) (row_area b) (text_area b)))) nothing ≡ some t → Trailed b = elim
    [ true ↦ λ p q. trailed-says b p | false ↦ λ p q. absurd (no-some q) ] in
    go (trailed b) refl e

pub read-tree : (t : Tree) (rows text : List ℕ) (ls : List Line) → Read rows text ls → ls ≡ lines_ofs (more t none) → Spells t rows text
unfolding rows_of text_of Sound
read-tree t rows text ls r e =
    record {
      rows_are = r.rows_are ∙ ap bytes_of e ∙ bytes-all (more t none) ∙ append-nil (rows_of t);
      text_is = r.text_is ∙ ap texts_in e ∙ text-all (more t none) ∙ append-nil (text_of t);
      sound = (sound-forest (more t none) [] (subst LinesFit (e ∙ sym (append-nil (lines_ofs (more t none)))) r.fit)).0.0;
    }

pub grows_some : (o : Option (List Line)) (f : Forest) → grows o ≡ some f → (ls : List Line) × ((o ≡ some ls) × (grow ls ≡ some f))
grows_some nothing f e = absurd (no-some e)
grows_some (some ls) f e = (ls, (refl, e))

-- a file that decodes has the rows and the text of its tree
pub record Decoded (t : Tree) (b : List ℕ) : Type 0 where
  pub trailer : Trailed b
  pub spells : Spells t (row_area b) (text_area b)
  pub start : start_of b ≡ length (text_of t)
  pub rows : count_of b ≡ size t
  pub rooted : Rooted t

pub decoded : (b : List ℕ) → Bytes b → (t : Tree) → decode b ≡ some t → Decoded t b
decoded b by t e =
    let h = decode-some b t e in
    let r = root-sound (grows (lines (count_of b) (row_area b) (text_area b))) t (sym (decode-by b h) ∙ e) in
    let w = grows_some (lines (count_of b) (row_area b) (text_area b)) (more t none) r.0 in
    let rd = lines-sound (count_of b) (row_area b) (text_area b) w.0 (bytes-row_area b by) (length-row_area b h) w.1.0 in
    let sp = read-tree t (row_area b) (text_area b) w.0 rd (grow-sound w.0 (more t none) w.1.1) in
    record {
      trailer = h;
      spells = sp;
      start = sym (length-text_area b h) ∙ ap length sp.text_is;
      rows = let p : 8 * count_of b ≡ 8 * size t = sym (length-row_area b h) ∙ ap length sp.rows_are ∙ length-rows t in omega arith;
      rooted = r.1;
    }

pub decode-sound : (b : List ℕ) → Bytes b → (t : Tree) → decode b ≡ some t → Laid t b
unfolding file_of
decode-sound b by t e =
    let d = decoded b by t e in
    record {
      bytes = areas b d.trailer by
          ∙ ap (λ x. x ++ (row_area b ++ four (start_of b) (four (count_of b) []))) d.spells.text_is
          ∙ ap (λ x. text_of t ++ (x ++ four (start_of b) (four (count_of b) []))) d.spells.rows_are
          ∙ ap (λ x. text_of t ++ (rows_of t ++ four x (four (count_of b) []))) d.start
          ∙ ap (λ x. text_of t ++ (rows_of t ++ four (length (text_of t)) (four x []))) d.rows;
      short = d.trailer.short;
      sound = d.spells.sound;
      rooted = d.rooted;
    }

decode-file : (t : Tree) → length (file_of t) ≤ file_most → Sound t → Rooted t → decode (file_of t) ≡ some t
unfolding file_of rows_of lines_of LinesFit bytes_of texts_in
decode-file t short sd rt =
    let b = file_of t in
    let n = size t in
    let l = length-rows t in
    let all = laid-length n (text_of t) (rows_of t) l short in
    let ta = laid-text n (text_of t) (rows_of t) l short in
    let ra = laid-rows n (text_of t) (rows_of t) l short in
    let ct = laid-count n (text_of t) (rows_of t) l short in
    let fit : LinesFit (lines_of t ++ []) = fits-tree t [] sd (omega arith) (omega arith) tt in
    let ls = lines_of t ++ [] in
    decode-by b (laid-trailed n (text_of t) (rows_of t) l short)
    ∙ ap (λ x. root (grows (lines (count_of b) x (text_area b)))) (ra ∙ sym (append-nil (rows_of t)) ∙ sym (bytes-tree t []))
    ∙ ap (λ x. root (grows (lines (count_of b) (bytes_of ls) x))) (ta ∙ sym (append-nil (text_of t)) ∙ sym (text-tree t []))
    ∙ ap (λ x. root (grows (lines x (bytes_of ls) (texts_in ls)))) (ct ∙ sym (ap length (append-nil (lines_of t)) ∙ length-lines t))
    ∙ ap (λ x. root (grows x)) (lines-complete ls fit)
    ∙ ap root (grow-complete (more t none))
    ∙ root-complete t rt

pub decode-complete : (b : List ℕ) (t : Tree) → Laid t b → decode b ≡ some t
decode-complete b t l =
    ap decode l.bytes ∙ decode-file t (subst (λ x. length x ≤ file_most) l.bytes l.short) l.sound l.rooted
