-- `grow` and `lines_ofs` are each other's inverse: rows that nest are the rows of one forest, and those of every forest nest.
-- So a list of rows grows just where each node's rows do (`grow-cut`), which is what a walk into child ranges needs.
use mathlib.Core.Path.{◌≡◌, refl, sym, ap, subst, ◌∙◌}
use mathlib.Core.Bool.{Bool, true, false, cond}
use mathlib.Core.Option.{Option}
use mathlib.Core.Option.Option.{none as nothing, some}
use mathlib.Core.List.{List, [], ◌∷◌, ◌++◌, append_assoc, append-nil}
use Prim.Native.Nat.{ℕ, ◌+◌, ◌-◌, ◌≤◌}
use native.Mathlib.Omega.{arith}
use lib.Dec.{eqb, leb}
use borrow.Author.Tests.{ne_eqb, le-leb, eqb-true, leb-true}
use lib.ListN.{length, take, drop, length-append, take-append-drop, length-take}
use lib.Seq.{take_at, drop_at}
use Rattle.mitex_syntax.specs.Tree.{Tree, Forest, size, sizes}
use Rattle.mitex_syntax.specs.Tree.Tree.{token, node}
use Rattle.mitex_syntax.specs.Tree.Forest.{none, more}
use Rattle.mitex_syntax.proofs.Trees.{size-some}
use Rattle.tree_file.specs.Layout.{Line, grow, split, tree_ahead, closed, splits, cut_with, Cut}
use Rattle.tree_file.specs.Layout.Line.{token_line, node_line}
use Rattle.tree_file.specs.Layout.Cut.{cut}

-- two forests, one after the other
unfoldable pub join : Forest → Forest → Forest
join none g = g
join (more t f) g = more t (join f g)

-- the rows of a tree
unfoldable mutual
  pub lines_of : Tree → List Line
  lines_of (token k s) = token_line k s ∷ []
  lines_of (node k f) = node_line k (sizes f) ∷ lines_ofs f

  pub lines_ofs : Forest → List Line
  lines_ofs none = []
  lines_ofs (more t f) = lines_of t ++ lines_ofs f

pub join-none : (f : Forest) → join f none ≡ f
unfolding join
join-none none = refl
join-none (more t f) = ap (more t) (join-none f)

pub join-assoc : (f g h : Forest) → join (join f g) h ≡ join f (join g h)
unfolding join
join-assoc none g h = refl
join-assoc (more t f) g h = ap (more t) (join-assoc f g h)

pub lines_ofs-join : (f g : Forest) → lines_ofs (join f g) ≡ lines_ofs f ++ lines_ofs g
unfolding join lines_of
lines_ofs-join none g = refl
lines_ofs-join (more t f) g = ap (λ l. lines_of t ++ l) (lines_ofs-join f g) ∙ sym (append_assoc (lines_of t) (lines_ofs f) (lines_ofs g))

pub sizes-join : (f g : Forest) → sizes (join f g) ≡ sizes f + sizes g
unfolding join size
sizes-join none g = omega arith
sizes-join (more t f) g = omega (arith, sizes-join f g)

mutual
  unfolding lines_of size

  pub length-lines : (t : Tree) → length (lines_of t) ≡ size t
  length-lines (token k s) = refl
  length-lines (node k f) = omega (arith, length-liness f)

  pub length-liness : (f : Forest) → length (lines_ofs f) ≡ sizes f
  length-liness none = refl
  length-liness (more t f) = omega (arith, length-append (lines_of t) (lines_ofs f), length-lines t, length-liness f)

-- a forest before what comes
abbrev pub forest_ahead : Forest → Option Forest → Option Forest
forest_ahead f nothing = nothing
forest_ahead f (some g) = some (join f g)

pub split-join : (f g : Forest) → split (sizes f) (join f g) ≡ some (cut f g)
unfolding split size join
split-join none none = refl
split-join none (more t g) = refl
split-join (more t f) g =
    let e : eqb (size t + sizes f) 0 ≡ false = ne_eqb _ _ (λ (z : size t + sizes f ≡ 0). omega (arith, size-some t)) in
    let l : leb (size t) (size t + sizes f) ≡ true = le-leb (size t) (size t + sizes f) (omega arith) in
    let d : size t + sizes f - size t ≡ sizes f = omega arith in
    rw (e, l, d, split-join f g)

pub no-some : {A : Type 0} {a : A} → nothing ≡ some a → ⊥
no-some e = let z : ◌≡◌ {A = ℕ} 0 1 = cc in omega arith

-- g and h are f cut after n rows
pub record Split (n : ℕ) (f g h : Forest) : Type 0 where
  pub whole : f ≡ join g h
  pub so_many : sizes g ≡ n

first_some : (t : Tree) (o : Option Cut) (g h : Forest) → cut_with t o ≡ some (cut g h) → (g' : Forest) × ((o ≡ some (cut g' h)) × (g ≡ more t g'))
first_some t nothing g h e = absurd (no-some e)
first_some t (some (cut a b)) g h e = (a, (cc, cc))

split-at-none : (f : Forest) (n : ℕ) (g h : Forest) → n ≡ 0 → some (cut none f) ≡ some (cut g h) → Split n f g h
unfolding join size
split-at-none f n g h z e =
    let p : none ≡ g = cc in
    let q : f ≡ h = cc in
    record { whole = subst (λ x. f ≡ join x h) p q; so_many = ap sizes (sym p) ∙ sym z }

split-none : (n : ℕ) (g h : Forest) (b : Bool) → eqb n 0 ≡ b → cond b (some (cut none none)) nothing ≡ some (cut g h) → Split n none g h
split-none n g h true z e = split-at-none none n g h (eqb-true n 0 z) e
split-none n g h false z e = absurd (no-some e)

split-more : (t : Tree) (f : Forest) (n : ℕ) (g h : Forest) (b d : Bool) → eqb n 0 ≡ b → leb (size t) n ≡ d
    → ((g h : Forest) → split (n - size t) f ≡ some (cut g h) → Split (n - size t) f g h)
    → cond b (some (cut none (more t f))) (cond d (cut_with t (split (n - size t) f)) nothing) ≡ some (cut g h) → Split n (more t f) g h
unfolding join size
split-more t f n g h true d z l i e = split-at-none (more t f) n g h (eqb-true n 0 z) e
split-more t f n g h false false z l i e = absurd (no-some e)
split-more t f n g h false true z l i e =
    let w = first_some t (split (n - size t) f) g h e in
    let s = i w.0 h w.1.0 in
    let le = leb-true (size t) n l in
    record {
      whole = ap (more t) s.whole ∙ ap (λ x. join x h) (sym w.1.1);
      so_many = ap sizes w.1.1 ∙ omega (arith, s.so_many);
    }

pub split-sound : (f : Forest) (n : ℕ) (g h : Forest) → split n f ≡ some (cut g h) → Split n f g h
unfolding split
split-sound none n g h e = split-none n g h (eqb n 0) refl e
split-sound (more t f) n g h e = split-more t f n g h (eqb n 0) (leb (size t) n) refl refl (split-sound f (n - size t)) e

-- what grows spells the rows
pub tree_ahead-some : (t : Tree) (o : Option Forest) (f : Forest) → tree_ahead t o ≡ some f → (g : Forest) × ((o ≡ some g) × (f ≡ more t g))
tree_ahead-some t nothing f e = absurd (no-some e)
tree_ahead-some t (some g) f e = (g, (cc, cc))

-- a node closed over the first trees of those that come
record ClosedNode (k n : ℕ) (o : Option Forest) (f : Forest) : Type 0 where
  whole : Forest
  under : Forest
  others : Forest
  grown : o ≡ some whole
  cuts : split n whole ≡ some (cut under others)
  is : f ≡ more (node k under) others

closed_some : (k n : ℕ) (o : Option Forest) (f : Forest) → closed k (splits n o) ≡ some f → ClosedNode k n o f
closed_some k n nothing f e = absurd (no-some e)
closed_some k n (some u) f e =
    let go : (c : Option Cut) → split n u ≡ c → closed k c ≡ some f → ClosedNode k n (some u) f = elim [
      | nothing ↦ λ p q. absurd (no-some q)
      | some (cut g h) ↦ λ p q. record { whole = u; under = g; others = h; grown = refl; cuts = p; is = cc }
    ] in
    go (split n u) refl e

pub grow-sound : (ls : List Line) (f : Forest) → grow ls ≡ some f → ls ≡ lines_ofs f
unfolding grow lines_of
grow-sound [] f e = ap lines_ofs (let p : none ≡ f = cc in p)
grow-sound (token_line k s ∷ ls) f e =
    let w = tree_ahead-some (token k s) (grow ls) f e in
    ap (λ l. token_line k s ∷ l) (grow-sound ls w.0 w.1.0) ∙ ap lines_ofs (sym w.1.1)
grow-sound (node_line k n ∷ ls) f e =
    let w = closed_some k n (grow ls) f e in
    let g = w.under in
    let h = w.others in
    let s = split-sound w.whole n g h w.cuts in
    ap (λ l. node_line k n ∷ l) (grow-sound ls w.whole w.grown ∙ ap lines_ofs s.whole ∙ lines_ofs-join g h)
    ∙ ap (λ m. node_line k m ∷ lines_ofs g ++ lines_ofs h) (sym s.so_many)
    ∙ ap lines_ofs (sym w.is)

forest_ahead-tree_ahead : (t : Tree) (f : Forest) (o : Option Forest) → tree_ahead t (forest_ahead f o) ≡ forest_ahead (more t f) o
unfolding join
forest_ahead-tree_ahead t f nothing = refl
forest_ahead-tree_ahead t f (some h) = refl

closed-forest_ahead : (k : ℕ) (f : Forest) (o : Option Forest) → closed k (splits (sizes f) (forest_ahead f o)) ≡ tree_ahead (node k f) o
closed-forest_ahead k f nothing = refl
closed-forest_ahead k f (some g) = ap (closed k) (split-join f g)

pub none-forest_ahead : (o : Option Forest) → o ≡ forest_ahead none o
unfolding join
none-forest_ahead nothing = refl
none-forest_ahead (some f) = refl

mutual
  unfolding grow lines_of join

  pub grow-tree : (t : Tree) (ls : List Line) → grow (lines_of t ++ ls) ≡ tree_ahead t (grow ls)
  grow-tree (token k s) ls = refl
  grow-tree (node k f) ls = ap (λ o. closed k (splits (sizes f) o)) (grow-forest f ls) ∙ closed-forest_ahead k f (grow ls)

  pub grow-forest : (f : Forest) (ls : List Line) → grow (lines_ofs f ++ ls) ≡ forest_ahead f (grow ls)
  grow-forest none ls = none-forest_ahead (grow ls)
  grow-forest (more t f) ls =
      ap grow (append_assoc (lines_of t) (lines_ofs f) ls)
      ∙ grow-tree t (lines_ofs f ++ ls)
      ∙ ap (tree_ahead t) (grow-forest f ls)
      ∙ forest_ahead-tree_ahead t f (grow ls)

pub grow-complete : (f : Forest) → grow (lines_ofs f) ≡ some f
unfolding grow
grow-complete f = ap grow (sym (append-nil (lines_ofs f))) ∙ grow-forest f [] ∙ ap some (join-none f)

abbrev pub cut_of : Option Forest → Option Forest → Option Cut
cut_of nothing o = nothing
cut_of (some f) nothing = nothing
cut_of (some f) (some g) = some (cut f g)

cut-cases : (c : Option Cut) (x y : Option Forest)
    → ((f g : Forest) → x ≡ some f → y ≡ some g → c ≡ some (cut f g))
    → ((g h : Forest) → c ≡ some (cut g h) → (x ≡ some g) × (y ≡ some h))
    → c ≡ cut_of x y
cut-cases nothing nothing y j p = refl
cut-cases nothing (some f) nothing j p = refl
cut-cases nothing (some f) (some g) j p = j f g refl refl
cut-cases (some (cut g h)) x y j p = let w = p g h refl in sym (ap (λ x. cut_of x y) w.0 ∙ ap (cut_of (some g)) w.1)

-- a list of rows is cut where its forest is
pub grow-cut : (ls : List Line) (n : ℕ) → n ≤ length ls → splits n (grow ls) ≡ cut_of (grow (take n ls)) (grow (drop n ls))
grow-cut ls n le =
    let a = take n ls in let b = drop n ls in
    let ab : a ++ b ≡ ls = take-append-drop n ls in
    let la : length a ≡ n = length-take n ls ∙ omega arith in
    let join_up : (f g : Forest) → grow a ≡ some f → grow b ≡ some g → splits n (grow ls) ≡ some (cut f g) = λ f g p q.
    let pa = grow-sound a f p in
    let e : grow ls ≡ some (join f g) = ap grow (sym ab ∙ ap (λ l. l ++ b) pa) ∙ grow-forest f b ∙ ap (forest_ahead f) q in
    let m : n ≡ sizes f = sym la ∙ ap length pa ∙ length-liness f in
    ap (splits n) e ∙ ap (λ m. split m (join f g)) m ∙ split-join f g in
    let part : (u g h : Forest) → grow ls ≡ some u → split n u ≡ some (cut g h) → (grow a ≡ some g) × (grow b ≡ some h) = λ u g h p q.
    let s = split-sound u n g h q in
    let e : ls ≡ lines_ofs g ++ lines_ofs h = grow-sound ls u p ∙ ap lines_ofs s.whole ∙ lines_ofs-join g h in
    let lg : length (lines_ofs g) ≡ n = length-liness g ∙ s.so_many in (
      ap (λ l. grow (take n l)) e ∙ ap grow (take_at (lines_ofs g) (lines_ofs h) n lg) ∙ grow-complete g,
      ap (λ l. grow (drop n l)) e ∙ ap grow (drop_at (lines_ofs g) (lines_ofs h) n lg) ∙ grow-complete h,
    ) in
    let open_up : (o : Option Forest) → grow ls ≡ o → (g h : Forest) → splits n o ≡ some (cut g h) → (grow a ≡ some g) × (grow b ≡ some h) = elim [
      | nothing ↦ λ p g h q. absurd (no-some q)
      | some u ↦ λ p g h q. part u g h p q
    ] in
    cut-cases (splits n (grow ls)) (grow a) (grow b) join_up (open_up (grow ls) refl)
