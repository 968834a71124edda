-- Rows that nest, for the walks over raw rows: into each child's range (`Turn`, `At`), from child to child under a node (`Lands`), and
-- from row to row (`LinesRest`). Each record says how what is left decides the whole.
use mathlib.Core.Path.{◌≡◌, refl, sym, ap, subst, ◌∙◌}
use mathlib.Core.Bool.{Bool, true, false}
use mathlib.Core.Option.{Option}
use mathlib.Core.Option.Option.{none as nothing, some}
use mathlib.Core.List.{List, [], ◌∷◌, ◌++◌}
use Rattle.std.specs.Prelude.{Result, Ok, Err, ⊤}
use Prim.Native.Nat.{ℕ, zero, suc, ◌+◌, ◌*◌, ◌-◌, ◌≤◌, ◌<◌, max}
use native.Mathlib.Omega.{arith}
use native.Mathlib.Decide.{dec_le}
use Rattle.text.proofs.Writing.{part-rest}
use borrow.Author.Tests.{ne_eqb, le-leb, lt-leb}
use lib.ListN.{length, take, drop, length-drop, take-append-drop, length-take}
use lib.Seq.{take_at, drop_at, drop-drop}
use Rattle.text.specs.Numbers.{four}
use Rattle.text.proofs.Numbers.{eight, four-says}
use Rattle.mitex_syntax.specs.Tree.{Tree, Forest, size, sizes}
use Rattle.mitex_syntax.specs.Tree.Tree.{token, node}
use Rattle.mitex_syntax.specs.Tree.Forest.{none, more}
use Rattle.tree_file.specs.Layout.{Line, grow, split, tree_ahead, closed, splits, cut_with, Cut}
use Rattle.tree_file.specs.Layout.Line.{token_line, node_line}
use Rattle.tree_file.specs.Layout.Cut.{cut}
use Rattle.tree_file.specs.Depth.{depth, depths}
use Rattle.tree_file.specs.Shape.{is_some}
use Rattle.tree_file.specs.Parts.{bytes_of, LinesFit, under_of, Nested}
use Rattle.tree_file.specs.declared.Unnested.{Unnested}
use Rattle.tree_file.specs.declared.Unnested.TheVariants.{Broken, Deep}
use Rattle.tree_file.proofs.Grow.{join, no-some, none-forest_ahead, lines_of, lines_ofs, forest_ahead, cut_of, grow-cut}
use Rattle.tree_file.proofs.Grow.{grow-sound, length-liness, split-sound, sizes-join, join-assoc, join-none}
use Rattle.tree_file.proofs.Rows.{fits-drop}

-- how many rows lie under a row
abbrev pub under_line : Line → ℕ
under_line (token_line k s) = 0
under_line (node_line k n) = n

pub length-bytes : (ls : List Line) → length (bytes_of ls) ≡ 8 * length ls
unfolding bytes_of
length-bytes [] = refl
length-bytes (token_line k s ∷ ls) = omega (arith, length-bytes ls)
length-bytes (node_line k n ∷ ls) = omega (arith, length-bytes ls)

pub bytes-append : (xs ys : List Line) → bytes_of (xs ++ ys) ≡ bytes_of xs ++ bytes_of ys
unfolding bytes_of
bytes-append [] ys = refl
bytes-append (token_line k s ∷ xs) ys = ap (λ l. k ∷ 1 ∷ 0 ∷ 0 ∷ four (length s) l) (bytes-append xs ys)
bytes-append (node_line k n ∷ xs) ys = ap (λ l. k ∷ 0 ∷ 0 ∷ 0 ∷ four n l) (bytes-append xs ys)

pub lines-one : (l : Line) (ls : List Line) → drop 8 (bytes_of (l ∷ ls)) ≡ bytes_of ls
unfolding bytes_of
lines-one (token_line k s) ls = refl
lines-one (node_line k n) ls = refl

pub under-is : (l : Line) (ls : List Line) → LinesFit (l ∷ ls) → under_of (bytes_of (l ∷ ls)) ≡ under_line l
unfolding bytes_of LinesFit
under-is (token_line k s) ls h = refl
under-is (node_line k n) ls h = four-says n h.1

module _ (ls : List Line) (n : ℕ) (le : n ≤ length ls) where
  cut-length : length (take n ls) ≡ n
  cut-length = length-take n ls ∙ omega arith

  pub lines-take : take (8 * n) (bytes_of ls) ≡ bytes_of (take n ls)
  lines-take =
      ap (λ l. take (8 * n) (bytes_of l)) (sym (take-append-drop n ls))
      ∙ ap (take (8 * n)) (bytes-append (take n ls) (drop n ls))
      ∙ take_at (bytes_of (take n ls)) (bytes_of (drop n ls)) (8 * n) (length-bytes (take n ls) ∙ omega (arith, cut-length))

  pub lines-past : drop (8 * n) (bytes_of ls) ≡ bytes_of (drop n ls)
  lines-past =
      ap (λ l. drop (8 * n) (bytes_of l)) (sym (take-append-drop n ls))
      ∙ ap (drop (8 * n)) (bytes-append (take n ls) (drop n ls))
      ∙ drop_at (bytes_of (take n ls)) (bytes_of (drop n ls)) (8 * n) (length-bytes (take n ls) ∙ omega (arith, cut-length))

pub lines-fit-first : (n : ℕ) (ls : List Line) → LinesFit ls → LinesFit (take n ls)
unfolding LinesFit
lines-fit-first zero ls h = tt
lines-fit-first (suc n) [] h = tt
lines-fit-first (suc n) (token_line k s ∷ ls) h = (h.0, h.1, lines-fit-first n ls h.2)
lines-fit-first (suc n) (node_line k m ∷ ls) h = (h.0, h.1, lines-fit-first n ls h.2)

pub lines-fit-past : (n : ℕ) (ls : List Line) → LinesFit ls → LinesFit (drop n ls)
unfolding LinesFit
lines-fit-past zero ls h = h
lines-fit-past (suc n) [] h = tt
lines-fit-past (suc n) (token_line k s ∷ ls) h = lines-fit-past n ls h.2
lines-fit-past (suc n) (node_line k m ∷ ls) h = lines-fit-past n ls h.2

-- the tree of a row over a forest
abbrev pub tree_of : Line → Forest → Tree
tree_of (token_line k s) g = token k s
tree_of (node_line k n) g = node k g

abbrev pub built : Line → Option Cut → Option Forest
built l nothing = nothing
built l (some (cut g h)) = some (more (tree_of l g) h)

closed-built : (k n : ℕ) (c : Option Cut) → closed k c ≡ built (node_line k n) c
closed-built k n nothing = refl
closed-built k n (some (cut g h)) = refl

tree_ahead-built : (k : ℕ) (s : List ℕ) (o : Option Forest) → tree_ahead (token k s) o ≡ built (token_line k s) (cut_of (some none) o)
tree_ahead-built k s nothing = refl
tree_ahead-built k s (some f) = refl

-- a row, the rows under it and those after
pub grow-step : (l : Line) (ns : List Line) → under_line l ≤ length ns → grow (l ∷ ns) ≡ built l (cut_of (grow (take (under_line l) ns)) (grow (drop (under_line l) ns)))
unfolding grow
grow-step (token_line k s) ns h = tree_ahead-built k s (grow ns)
grow-step (node_line k n) ns h = ap (closed k) (grow-cut ns n h) ∙ closed-built k n (cut_of (grow (take n ns)) (grow (drop n ns)))

-- rows that are too few under a node
pub grow-short : (l : Line) (ns : List Line) → length ns < under_line l → grow (l ∷ ns) ≡ nothing
unfolding grow
grow-short (token_line k s) ns h = absurd (omega arith)
grow-short (node_line k n) ns h =
    let go : (o : Option Forest) → grow ns ≡ o → closed k (splits n o) ≡ nothing = elim [
      | nothing ↦ λ e. refl
      | some f ↦ λ e.
          let in_split : (c : Option Cut) → split n f ≡ c → closed k c ≡ nothing = elim [
            | nothing ↦ λ q. refl
            | some (cut g u) ↦ λ q. absurd (
                let s = split-sound f n g u q in
                let a = ap length (grow-sound ns f e) ∙ length-liness f in
                let b = ap sizes s.whole ∙ sizes-join g u in
                let d = s.so_many in
                omega arith)
          ] in
          in_split (split n f) refl
    ] in
    go (grow ns) refl

pub depths-join : (f g : Forest) → depths (join f g) ≡ max (depths f) (depths g)
unfolding depth join
depths-join none g = omega arith
depths-join (more t f) g = omega (arith, depths-join f g)

-- the walk has passed rows that grow to `done`, no deeper than `left`
pub record Turn (ls : List Line) (left : ℕ) (rest : List ℕ) : Type 0 where
  pub ms : List Line
  pub done : Forest
  pub spelt : rest ≡ bytes_of ms
  pub fit : LinesFit ms
  pub same : grow ls ≡ forest_ahead done (grow ms)
  pub low : depths done ≤ left

pub turn-start : (ls : List Line) (left : ℕ) (rows : List ℕ) → rows ≡ bytes_of ls → LinesFit ls → Turn ls left rows
unfolding depth
turn-start ls left rows e h = record { ms = ls; done = none; spelt = e; fit = h; same = none-forest_ahead (grow ls); low = omega arith }

-- the row at which the walk stands
pub record At (ls : List Line) (left : ℕ) (rest : List ℕ) (n : ℕ) : Type 0 where
  pub line : Line
  pub ns : List Line
  pub done : Forest
  pub spelt : rest ≡ bytes_of (line ∷ ns)
  pub number : n ≡ under_line line
  pub fit : LinesFit ns
  pub same : grow ls ≡ forest_ahead done (grow (line ∷ ns))
  pub low : depths done ≤ left
  pub long : length rest ≡ 8 + 8 * length ns

pub at_row : {ls : List Line} {left : ℕ} {rest : List ℕ} → Turn ls left rest → 8 ≤ length rest → (n : ℕ) → n ≡ under_of rest → At ls left rest n
unfolding bytes_of
at_row {ls} {left} {rest} w h n e =
    let go : (ms : List Line) → rest ≡ bytes_of ms → LinesFit ms → grow ls ≡ forest_ahead w.done (grow ms) → At ls left rest n = elim [
      | [] ↦ λ p q r. absurd (omega (arith, ap length p))
      | ◌∷◌ l ns ↦ λ p q r. record {
        line = l;
        ns = ns;
        done = w.done;
        spelt = p;
        number = e ∙ ap under_of p ∙ under-is l ns q;
        fit = fits-drop l ns q;
        same = r;
        low = w.low;
        long = ap length p ∙ length-bytes (l ∷ ns) ∙ omega arith;
      }
    ] in
    go w.ms w.spelt w.fit w.same

pub at-short : {ls : List Line} {left : ℕ} {rest : List ℕ} {n : ℕ} → At ls left rest n → length rest < 8 + 8 * n → grow ls ≡ nothing
at-short {ls} {left} {rest} {n} a h =
    let l = a.long in let m = a.number in
    a.same ∙ ap (forest_ahead a.done) (grow-short a.line a.ns (omega arith))

-- the child's range
pub at-child :
    {ls : List Line} {left : ℕ} {rest : List ℕ} {n : ℕ} → (a : At ls left rest n) → 8 + 8 * n ≤ length rest
    → take (8 + 8 * n - 8) (drop 8 rest) ≡ bytes_of (take n a.ns)
at-child {ls} {left} {rest} {n} a h =
    let l = a.long in
    ap (λ k. take k (drop 8 rest)) (let e : 8 + 8 * n - 8 ≡ 8 * n = omega arith in e)
    ∙ ap (λ r. take (8 * n) (drop 8 r)) a.spelt ∙ ap (take (8 * n)) (lines-one a.line a.ns) ∙ lines-take a.ns n (omega arith)

pub at-past :
    {ls : List Line} {left : ℕ} {rest : List ℕ} {n : ℕ} → (a : At ls left rest n) → 8 + 8 * n ≤ length rest
    → drop (8 + 8 * n) rest ≡ bytes_of (drop n a.ns)
at-past {ls} {left} {rest} {n} a h =
    let l = a.long in
    sym (drop-drop (8 * n) 8 rest)
    ∙ ap (λ r. drop (8 * n) (drop 8 r)) a.spelt
    ∙ ap (drop (8 * n)) (lines-one a.line a.ns)
    ∙ lines-past a.ns n (omega arith)

at-grows :
    {ls : List Line} {left : ℕ} {rest : List ℕ} {n : ℕ} → (a : At ls left rest n) → 8 + 8 * n ≤ length rest
    → grow ls ≡ forest_ahead a.done (built a.line (cut_of (grow (take n a.ns)) (grow (drop n a.ns))))
at-grows {ls} {left} {rest} {n} a h =
    let l = a.long in let m = a.number in
    a.same ∙ ap (forest_ahead a.done) (grow-step a.line a.ns (omega arith)
    ∙ ap (λ k. built a.line (cut_of (grow (take k a.ns)) (grow (drop k a.ns)))) (sym m))

at-broken :
    {ls : List Line} {left : ℕ} {rest : List ℕ} {n : ℕ} → (a : At ls left rest n) → 8 + 8 * n ≤ length rest → grow (take n a.ns) ≡ nothing
    → grow ls ≡ nothing
at-broken {ls} {left} {rest} {n} a h e = at-grows a h ∙ ap (λ o. forest_ahead a.done (built a.line (cut_of o (grow (drop n a.ns))))) e

pub child-length : (r : List ℕ) (n : ℕ) → 8 + 8 * n ≤ length r → length (take (8 + 8 * n - 8) (drop 8 r)) ≡ 8 * n
child-length r n h = length-take (8 + 8 * n - 8) (drop 8 r) ∙ omega (arith, length-drop 8 r)

-- a child whose range holds a forest
over-child : (l : Line) (d g : Forest) (o : Option Forest) → forest_ahead d (built l (cut_of (some g) o)) ≡ forest_ahead (join d (more (tree_of l g) none)) o
unfolding join
over-child l d g nothing = refl
over-child l d g (some h) = ap some (sym (join-assoc d (more (tree_of l g) none) h))

depth-child : (l : Line) (g : Forest) (left : ℕ) → 1 ≤ left → depths g ≤ left - 1 → depth (tree_of l g) ≤ left
unfolding depth
depth-child (token_line k s) g left h p = h
depth-child (node_line k n) g left h p = omega arith

-- a row that has none under it
pub none-under : (ns : List Line) (n left : ℕ) → n ≤ 0 → Nested (grow (take n ns)) left (Ok tt)
unfolding grow depth
none-under ns n left h = let z : 0 ≡ n = omega arith in subst (λ m. Nested (grow (take m ns)) left (Ok tt)) z (none, (refl, omega arith))

pub at_next :
    {ls : List Line} {left : ℕ} {rest : List ℕ} {n : ℕ} → (a : At ls left rest n) → 8 + 8 * n ≤ length rest → 1 ≤ left
    → Nested (grow (take n a.ns)) (left - 1) (Ok tt)
    → Turn ls left (take (length rest - (8 + 8 * n)) (drop (8 + 8 * n) rest))
unfolding depth
at_next {ls} {left} {rest} {n} a h one w =
    let g = w.0 in
    let t = tree_of a.line g in
    record {
      ms = drop n a.ns;
      done = join a.done (more t none);
      spelt = part-rest rest (8 + 8 * n) ∙ at-past a h;
      fit = lines-fit-past n a.ns a.fit;
      same =
          at-grows a h
          ∙ ap (λ o. forest_ahead a.done (built a.line (cut_of o (grow (drop n a.ns))))) w.1.0
          ∙ over-child a.line a.done g (grow (drop n a.ns));
      low = let p = depth-child a.line g left one w.1.1 in let q = a.low in omega (arith, depths-join a.done (more t none));
    }

forest_ahead-some : (d : Forest) (o : Option Forest) (f : Forest) → forest_ahead d o ≡ some f → (u : Forest) × ((o ≡ some u) × (f ≡ join d u))
forest_ahead-some d nothing f e = absurd (no-some e)
forest_ahead-some d (some u) f e = (u, (refl, cc))

built-some : (l : Line) (c : Option Cut) (u : Forest) → built l c ≡ some u → (g : Forest) × ((h : Forest) × ((c ≡ some (cut g h)) × (u ≡ more (tree_of l g) h)))
built-some l nothing u e = absurd (no-some e)
built-some l (some (cut g h)) u e = (g, (h, (refl, cc)))

cut_of-some : (x y : Option Forest) (g h : Forest) → cut_of x y ≡ some (cut g h) → (x ≡ some g) × (y ≡ some h)
cut_of-some nothing y g h e = absurd (no-some e)
cut_of-some (some f) nothing g h e = absurd (no-some e)
cut_of-some (some f) (some f') g h e = (cc, cc)

deep-tree :
    (l : Line) (n : ℕ) (ns : List Line) (g : Forest) (left : ℕ) → n ≡ under_line l → grow (take n ns) ≡ some g → suc (left - 1) ≤ depths g → 1 ≤ left
    → suc left ≤ depth (tree_of l g)
unfolding depth grow
deep-tree (token_line k s) n ns g left e p q h =
    let z : some none ≡ some g = ap (λ m. grow (take m ns)) (sym e) ∙ p in
    let w : none ≡ g = cc in
    absurd (omega (arith, ap depths w))
deep-tree (node_line k m) n ns g left e p q h = omega arith

at-deep :
    {ls : List Line} {left : ℕ} {rest : List ℕ} {n : ℕ} → (a : At ls left rest n) → 8 + 8 * n ≤ length rest → 1 ≤ left
    → Nested (grow (take n a.ns)) (left - 1) (Err Deep) → Nested (grow ls) left (Err Deep)
unfolding depth
at-deep {ls} {left} {rest} {n} a h one w f e =
    let b = forest_ahead-some a.done (built a.line (cut_of (grow (take n a.ns)) (grow (drop n a.ns)))) f (sym (at-grows a h) ∙ e) in
    let c = built-some a.line (cut_of (grow (take n a.ns)) (grow (drop n a.ns))) b.0 b.1.0 in
    let g = c.0 in let u = c.1.0 in
    let p = cut_of-some (grow (take n a.ns)) (grow (drop n a.ns)) g u c.1.1.0 in
    let d = deep-tree a.line n a.ns g left a.number p.0 (w g p.0) one in
    omega (arith, ap depths b.1.1, depths-join a.done b.0, ap depths c.1.1.1)

depth-some : (t : Tree) → 1 ≤ depth t
unfolding depth
depth-some (token k s) = omega arith
depth-some (node k f) = omega arith

depths-some : (u : Forest) → 1 ≤ length (lines_ofs u) → 1 ≤ depths u
unfolding depth lines_of
depths-some none h = absurd (omega arith)
depths-some (more t f) h = omega (arith, depth-some t)

-- rows where none may be
pub turn-deep : {ls : List Line} {left : ℕ} {rest : List ℕ} → Turn ls left rest → 8 ≤ length rest → left ≡ 0 → Nested (grow ls) left (Err Deep)
turn-deep {ls} {left} {rest} w h z f e =
    let b = forest_ahead-some w.done (grow w.ms) f (sym w.same ∙ e) in
    let u = b.0 in
    let s = ap length (grow-sound w.ms u b.1.0) in
    let l = ap length w.spelt ∙ length-bytes w.ms in
    let d = depths-some u (omega arith) in
    omega (arith, ap depths b.1.1, depths-join w.done u)

pub turn_end : {ls : List Line} {left : ℕ} {rest : List ℕ} → Turn ls left rest → length rest < 8 → Nested (grow ls) left (Ok tt)
unfolding grow
turn_end {ls} {left} {rest} w h =
    let go : (ms : List Line) → rest ≡ bytes_of ms → grow ls ≡ forest_ahead w.done (grow ms) → Nested (grow ls) left (Ok tt) = elim [
      | [] ↦ λ p q. (w.done, (q ∙ ap some (join-none w.done), w.low))
      | ◌∷◌ l ns ↦ λ p q. absurd (omega (arith, ap length p, length-bytes (l ∷ ns)))
    ] in
    go w.ms w.spelt w.same

-- what a child's answer says of the whole
pub at-answer :
    {ls : List Line} {left : ℕ} {rest : List ℕ} {n : ℕ} → (a : At ls left rest n) → 8 + 8 * n ≤ length rest → (r x : Result ⊤ Unnested)
    → ((ms : List Line) → take (8 + 8 * n - 8) (drop 8 rest) ≡ bytes_of ms → LinesFit ms → Nested (grow ms) (left - 1) r) → r ≡ x
    → Nested (grow (take n a.ns)) (left - 1) x
at-answer {ls} {left} {rest} {n} a h r x f e =
    subst (Nested (grow (take n a.ns)) (left - 1)) e (f (take n a.ns) (at-child a h) (lines-fit-first n a.ns a.fit))

-- and where it is refused the whole is, for the same reason
pub at-refused :
    {ls : List Line} {left : ℕ} {rest : List ℕ} {n : ℕ} → (a : At ls left rest n) → 8 + 8 * n ≤ length rest → 1 ≤ left → (x : Unnested)
    → Nested (grow (take n a.ns)) (left - 1) (Err x) → Nested (grow ls) left (Err x)
at-refused a h one Broken w = at-broken a h w
at-refused a h one Deep w = at-deep a h one w

-- the first tree of rows that grow
pub record FirstGrown (l : Line) (ns : List Line) (g : Forest) : Type 0 where
  pub inside : under_line l ≤ length ns
  pub tree : Tree
  pub others : Forest
  pub grown : grow (drop (under_line l) ns) ≡ some others
  pub is : g ≡ more tree others
  pub so_big : size tree ≡ 1 + under_line l

pub first-grown : (l : Line) (ns : List Line) (g : Forest) → grow (l ∷ ns) ≡ some g → FirstGrown l ns g
unfolding size grow
first-grown l ns g e =
    let short : length ns < under_line l → ⊥ = λ h. no-some (sym (grow-short l ns h) ∙ e) in
    let le : under_line l ≤ length ns = elim (dec_le (under_line l) (length ns)) [ yes p ↦ p | no q ↦ absurd (short (omega arith)) ] in
    let c = built-some l (cut_of (grow (take (under_line l) ns)) (grow (drop (under_line l) ns))) g (sym (grow-step l ns le) ∙ e) in
    let a = c.0 in let b = c.1.0 in
    let p = cut_of-some (grow (take (under_line l) ns)) (grow (drop (under_line l) ns)) a b c.1.1.0 in
    let la : sizes a ≡ under_line l = sym (length-liness a) ∙ ap length (sym (grow-sound (take (under_line l) ns) a p.0)) ∙ length-take (under_line l) ns ∙ omega arith in
    let big : (l : Line) → under_line l ≡ sizes a → size (tree_of l a) ≡ 1 + under_line l = elim [ token_line k s ↦ λ q. refl | node_line k m ↦ λ q. omega arith ] in
    record { inside = le; tree = tree_of l a; others = b; grown = p.1; is = c.1.1.1; so_big = big l (sym la) }

-- hopping from tree to tree
pub record Lands (n : ℕ) (f : Forest) (left : ℕ) (rest : List ℕ) : Type 0 where
  pub ms : List Line
  pub g : Forest
  pub spelt : rest ≡ bytes_of ms
  pub fit : LinesFit ms
  pub grown : grow ms ≡ some g
  pub same : is_some (split n f) ≡ is_some (split left g)

is_some-first : (t : Tree) (c : Option Cut) → is_some (cut_with t c) ≡ is_some c
is_some-first t nothing = refl
is_some-first t (some (cut g h)) = refl

split-past : (t : Tree) (g : Forest) (n : ℕ) → 0 < n → size t ≤ n → is_some (split n (more t g)) ≡ is_some (split (n - size t) g)
unfolding split
split-past t g n h le =
    let x = ne_eqb n 0 (λ (e : n ≡ 0). omega arith) in
    let y = le-leb (size t) n le in
    let z = is_some-first t (split (n - size t) g) in
    rw (x, y, z)

split-over : (t : Tree) (g : Forest) (n : ℕ) → 0 < n → n < size t → is_some (split n (more t g)) ≡ false
unfolding split
split-over t g n h lt =
    let x = ne_eqb n 0 (λ (e : n ≡ 0). omega arith) in
    let y = lt-leb (size t) n lt in
    rw (x, y)

split-out : (n : ℕ) → 0 < n → is_some (split n none) ≡ false
unfolding split
split-out n h = let x = ne_eqb n 0 (λ (e : n ≡ 0). omega arith) in rw x

split-zero : (g : Forest) → is_some (split 0 g) ≡ true
unfolding split
split-zero none = refl
split-zero (more t g) = refl

pub lands-start : (n : ℕ) (f : Forest) (ls : List Line) (rows : List ℕ) → rows ≡ bytes_of ls → LinesFit ls → grow ls ≡ some f → Lands n f n rows
lands-start n f ls rows e h g = record { ms = ls; g = f; spelt = e; fit = h; grown = g; same = refl }

pub lands-out : {n : ℕ} {f : Forest} {left : ℕ} {rest : List ℕ} → Lands n f left rest → 0 < left → length rest < 8 → false ≡ is_some (split n f)
unfolding grow
lands-out {n} {f} {left} {rest} w h l =
    let go : (ms : List Line) → rest ≡ bytes_of ms → grow ms ≡ some w.g → is_some (split left w.g) ≡ false = elim [
      | [] ↦ λ p q. (let z : none ≡ w.g = cc in ap (λ x. is_some (split left x)) (sym z) ∙ split-out left h)
      | ◌∷◌ x ns ↦ λ p q. absurd (omega (arith, ap length p, length-bytes (x ∷ ns)))
    ] in
    sym (w.same ∙ go w.ms w.spelt w.grown)

-- the row at which a hop stands
pub record LandsAt (n : ℕ) (f : Forest) (left : ℕ) (rest : List ℕ) (m : ℕ) : Type 0 where
  pub line : Line
  pub ns : List Line
  pub g : Forest
  pub spelt : rest ≡ bytes_of (line ∷ ns)
  pub fit : LinesFit ns
  pub number : m ≡ under_line line
  pub top : FirstGrown line ns g
  pub same : is_some (split n f) ≡ is_some (split left g)
  pub long : length rest ≡ 8 + 8 * length ns

pub lands-at : {n : ℕ} {f : Forest} {left : ℕ} {rest : List ℕ} → Lands n f left rest → 8 ≤ length rest → (m : ℕ) → m ≡ under_of rest → LandsAt n f left rest m
unfolding bytes_of
lands-at {n} {f} {left} {rest} w h m e =
    let go : (ms : List Line) → rest ≡ bytes_of ms → LinesFit ms → grow ms ≡ some w.g → LandsAt n f left rest m = elim [
      | [] ↦ λ p q r. absurd (omega (arith, ap length p))
      | ◌∷◌ l ns ↦ λ p q r. record {
        line = l;
        ns = ns;
        g = w.g;
        spelt = p;
        fit = fits-drop l ns q;
        number = e ∙ ap under_of p ∙ under-is l ns q;
        top = first-grown l ns w.g r;
        same = w.same;
        long = ap length p ∙ length-bytes (l ∷ ns) ∙ omega arith;
      }
    ] in
    go w.ms w.spelt w.fit w.grown

pub lands-over : {n : ℕ} {f : Forest} {left : ℕ} {rest : List ℕ} {m : ℕ} → LandsAt n f left rest m → 0 < left → left ≤ m → false ≡ is_some (split n f)
lands-over {n} {f} {left} {rest} {m} a h le =
    let t = a.top in let x = t.so_big in let y = a.number in
    sym (a.same ∙ ap (λ x. is_some (split left x)) t.is ∙ split-over t.tree t.others left h (omega arith))

pub lands-never : {n : ℕ} {f : Forest} {left : ℕ} {rest : List ℕ} {m : ℕ} → LandsAt n f left rest m → length rest < 8 + 8 * m → ⊥
lands-never {n} {f} {left} {rest} {m} a h = let t = a.top.inside in let y = a.number in let z = a.long in omega arith

pub lands-next :
    {n : ℕ} {f : Forest} {left : ℕ} {rest : List ℕ} {m : ℕ} → LandsAt n f left rest m → 8 + 8 * m ≤ length rest → m < left
    → Lands n f (left - m - 1) (take (length rest - (8 + 8 * m)) (drop (8 + 8 * m) rest))
lands-next {n} {f} {left} {rest} {m} a h lt =
    let t = a.top in let x = t.so_big in let y = a.number in let z = a.long in
    record {
      ms = drop m a.ns;
      g = t.others;
      spelt =
          part-rest rest (8 + 8 * m)
          ∙ sym (drop-drop (8 * m) 8 rest)
          ∙ ap (λ r. drop (8 * m) (drop 8 r)) a.spelt
          ∙ ap (drop (8 * m)) (lines-one a.line a.ns)
          ∙ lines-past a.ns m (omega arith);
      fit = lines-fit-past m a.ns a.fit;
      grown = ap (λ k. grow (drop k a.ns)) y ∙ t.grown;
      same = a.same ∙ ap (λ x. is_some (split left x)) t.is ∙ split-past t.tree t.others left (omega arith) (omega arith)
          ∙ ap (λ k. is_some (split k t.others)) (let q : left - size t.tree ≡ left - m - 1 = omega arith in q);
    }

pub lands-end : {n : ℕ} {f : Forest} {left : ℕ} {rest : List ℕ} → Lands n f left rest → left ≤ 0 → true ≡ is_some (split n f)
lands-end {n} {f} {left} {rest} w h = sym (w.same ∙ ap (λ k. is_some (split k w.g)) (let q : left ≡ 0 = omega arith in q) ∙ split-zero w.g)

-- from row to row, the rest decides
pub record LinesRest (ls : List Line) (rest : List ℕ) : Type 0 where
  pub ms : List Line
  pub spelt : rest ≡ bytes_of ms
  pub fit : LinesFit ms
  pub same : is_some (grow ls) ≡ is_some (grow ms)

pub lines-rest-start : (ls : List Line) (rows : List ℕ) → rows ≡ bytes_of ls → LinesFit ls → LinesRest ls rows
lines-rest-start ls rows e h = record { ms = ls; spelt = e; fit = h; same = refl }

is_some-tree_ahead : (t : Tree) (o : Option Forest) → is_some (tree_ahead t o) ≡ is_some o
is_some-tree_ahead t nothing = refl
is_some-tree_ahead t (some f) = refl

is_some-closed : (k : ℕ) (c : Option Cut) → is_some (closed k c) ≡ is_some c
is_some-closed k nothing = refl
is_some-closed k (some (cut g h)) = refl

row-lands :
    (l : Line) (ns : List Line) (b : Bool) → ((f : Forest) → grow ns ≡ some f → b ≡ is_some (split (under_line l) f)) → b ≡ true
    → is_some (grow (l ∷ ns)) ≡ is_some (grow ns)
unfolding grow
row-lands (token_line k s) ns b h e = is_some-tree_ahead (token k s) (grow ns)
row-lands (node_line k n) ns b h e =
    let go : (o : Option Forest) → ((f : Forest) → o ≡ some f → b ≡ is_some (split n f)) → is_some (closed k (splits n o)) ≡ is_some o = elim
    [ nothing ↦ λ q. refl | some f ↦ λ q. is_some-closed k (split n f) ∙ sym (q f refl) ∙ e ] in
    go (grow ns) h

row-falls : (l : Line) (ns : List Line) (b : Bool) → ((f : Forest) → grow ns ≡ some f → b ≡ is_some (split (under_line l) f)) → b ≡ false → is_some (grow (l ∷ ns)) ≡ false
unfolding grow
row-falls (token_line k s) ns b h e =
    let go : (o : Option Forest) → ((f : Forest) → o ≡ some f → b ≡ is_some (split 0 f)) → is_some (tree_ahead (token k s) o) ≡ false = elim
    [ nothing ↦ λ q. refl | some f ↦ λ q. absurd (let z : false ≡ true = sym e ∙ q f refl ∙ split-zero f in let y : ◌≡◌ {A = ℕ} 0 1 = cc in omega arith) ] in
    go (grow ns) h
row-falls (node_line k n) ns b h e =
    let go : (o : Option Forest) → ((f : Forest) → o ≡ some f → b ≡ is_some (split n f)) → is_some (closed k (splits n o)) ≡ false = elim
    [ nothing ↦ λ q. refl | some f ↦ λ q. is_some-closed k (split n f) ∙ sym (q f refl) ∙ e ] in
    go (grow ns) h

-- how many rows lie under a row, by its own bytes
pub under-alone : (l : List ℕ) → 8 ≤ length l → under_of (take 8 l) ≡ under_of l
under-alone l h = let e = eight l h in ap (λ x. under_of (take 8 x)) e ∙ sym (ap under_of e)

abbrev Landing : List ℕ → ℕ → Bool → Type 0
Landing after n b = (ms : List Line) (f : Forest) → after ≡ bytes_of ms → LinesFit ms → grow ms ≡ some f → b ≡ is_some (split n f)

-- the row at which the walk stands, the rows after it, and whether those under it are whole trees
record LinesRestAt (ls : List Line) (after : List ℕ) (b : Bool) : Type 0 where
  line : Line
  ns : List Line
  spelt : after ≡ bytes_of ns
  fit : LinesFit ns
  same : is_some (grow ls) ≡ is_some (grow (line ∷ ns))
  landing : (f : Forest) → grow ns ≡ some f → b ≡ is_some (split (under_line line) f)

lines-rest-at :
    {ls : List Line} {rest after : List ℕ} → LinesRest ls rest → 8 ≤ length rest → after ≡ drop 8 rest → (n : ℕ) → n ≡ under_of rest → (b : Bool)
    → Landing after n b → LinesRestAt ls after b
unfolding bytes_of
lines-rest-at {ls} {rest} {after} w h past n e b k =
    let go : (ms : List Line) → rest ≡ bytes_of ms → LinesFit ms → is_some (grow ls) ≡ is_some (grow ms) → LinesRestAt ls after b = elim [
      | [] ↦ λ p q r. absurd (omega (arith, ap length p))
      | ◌∷◌ l ns ↦ λ p q r.
          let d : after ≡ bytes_of ns = past ∙ ap (drop 8) p ∙ lines-one l ns in
          let m : n ≡ under_line l = e ∙ ap under_of p ∙ under-is l ns q in
          let fit = fits-drop l ns q in
          record { line = l; ns = ns; spelt = d; fit = fit; same = r; landing = λ f g. k ns f d fit g ∙ ap (λ x. is_some (split x f)) m }
    ] in
    go w.ms w.spelt w.fit w.same

pub lines-rest-falls :
    {ls : List Line} {rest after : List ℕ} → LinesRest ls rest → 8 ≤ length rest → after ≡ drop 8 rest → (n : ℕ) → n ≡ under_of rest → (b : Bool)
    → Landing after n b → b ≡ false → false ≡ is_some (grow ls)
lines-rest-falls w h p n e b k z = let a = lines-rest-at w h p n e b k in sym (a.same ∙ row-falls a.line a.ns b a.landing z)

pub lines-rest-next :
    {ls : List Line} {rest after : List ℕ} → LinesRest ls rest → 8 ≤ length rest → after ≡ drop 8 rest → (n : ℕ) → n ≡ under_of rest → (b : Bool)
    → Landing after n b → b ≡ true → LinesRest ls after
lines-rest-next w h p n e b k z =
    let a = lines-rest-at w h p n e b k in
    record { ms = a.ns; spelt = a.spelt; fit = a.fit; same = a.same ∙ row-lands a.line a.ns b a.landing z }

pub lines-rest-end : {ls : List Line} {rest : List ℕ} → LinesRest ls rest → length rest < 8 → true ≡ is_some (grow ls)
unfolding grow
lines-rest-end {ls} {rest} w h =
    let go : (ms : List Line) → rest ≡ bytes_of ms → is_some (grow ms) ≡ true = elim
    [ [] ↦ λ p. refl | ◌∷◌ l ns ↦ λ p. absurd (omega (arith, ap length p, length-bytes (l ∷ ns))) ] in
    sym (w.same ∙ go w.ms w.spelt)
