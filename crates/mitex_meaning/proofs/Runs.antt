-- Runs of elements: what elements with others behind them spell, that a flat node is its children, and that a loop over children
-- that it is steady on is a plain one and then the loop over the others. Each law of loops goes child by child.
use mathlib.Core.Path.{◌≡◌, refl, sym, ap, subst, ◌∙◌}
use mathlib.Core.Bool.{Bool, true, false, ◌&&◌, ◌||◌, not, cond, and-true}
use mathlib.Core.List.{List, [], ◌++◌, append_assoc}
use Prim.Native.Nat.{ℕ, zero, suc, ◌+◌, ◌*◌, ◌≤◌}
use native.Mathlib.Nat.{add_assoc, add-zero}
use native.Mathlib.Omega.{arith}
use borrow.Author.Tests.{eqb-true, not-true}
use lib.Dec.{eqb}
use lib.ListN.{length, take, drop}
use lib.Seq.{take_at, drop_at}
use Rattle.mitex_syntax.specs.Syntax.{ItemLR, ClauseArgument, ScopeRoot, ItemText, ItemBracket, ItemParen, ItemCurly, ItemAttachComponent}
use Rattle.mitex_syntax.specs.Syntax.{ItemCmd, TokenAmpersand, ItemNewLine}
use Rattle.mitex_syntax.specs.Tree.{Tree, Forest, size, sizes, rows_of, rows_ofs, text_of, texts_of, kind_of}
use Rattle.mitex_syntax.specs.Tree.Tree.{node}
use Rattle.mitex_syntax.specs.Tree.Forest.{none, more}
use Rattle.mitex_syntax.specs.Spells.{Sound, Sounds, SpellsAll}
use Rattle.mitex_syntax.proofs.Trees.{length-rowss, size-node, size-more}
use Rattle.mitex_meaning.specs.Outcome.{Context, Carry, Outcome, Conv, and_then, closing, shift, flagged}
use Rattle.mitex_meaning.specs.Outcome.Outcome.{done}
use Rattle.mitex_meaning.specs.Texts.{blank_group}
use Rattle.mitex_meaning.specs.Children.{is_blank, is_ends, act_of, next_loop, turn, each}
use Rattle.mitex_meaning.specs.Groups.{curly_in, attach_loop}
use Rattle.mitex_meaning.specs.Conversion.{element_of, arm_by, step, convert}
use Rattle.mitex_meaning.specs.Runs.{beside, is_children, is_flat, is_steady, all_steady, all_blank}
use Rattle.mitex_meaning.specs.declared.LaTeXMode.{LaTeXMode}
use Rattle.mitex_meaning.specs.declared.LaTeXMode.TheVariants.{Text, Math}
use Rattle.mitex_meaning.specs.declared.Attach.TheVariants.{Bare, Based, Split}
use Rattle.mitex_meaning.specs.declared.Loop.{Loop}
use Rattle.mitex_meaning.specs.declared.Loop.TheVariants.{Plain, Curly, Spaced, Attached, Greedy, Separated, Bracketed, Dollars, Arguments, Named, Inside, Figure, Table}
use Rattle.mitex_meaning.specs.declared.Act.{Act}
use Rattle.mitex_meaning.specs.declared.Act.TheVariants.{Convert}
use Rattle.mitex_meaning.proofs.Outcomes.{after-nil, and_then-same, and_then-and_then, closing-and_then}
use Rattle.mitex_meaning.proofs.Loops.{each_more, each-shift}
use Rattle.mitex_meaning.proofs.Blocks.{turn-plain, plain-none, plain_more}
use Rattle.mitex_meaning.proofs.Levels.{same-each, convert-level}

-- ---- elements and others behind them

pub sizes-beside : (f g : Forest) → sizes (beside f g) ≡ sizes f + sizes g
unfolding beside size
sizes-beside none g = omega arith
sizes-beside (more t f) g = omega (arith, sizes-beside f g)

pub rows-beside : (f g : Forest) → rows_ofs (beside f g) ≡ rows_ofs f ++ rows_ofs g
unfolding beside rows_of
rows-beside none g = refl
rows-beside (more t f) g = ap (λ (l : List ℕ). rows_of t ++ l) (rows-beside f g) ∙ sym (append_assoc (rows_of t) (rows_ofs f) (rows_ofs g))

pub texts-beside : (f g : Forest) → texts_of (beside f g) ≡ texts_of f ++ texts_of g
unfolding beside text_of
texts-beside none g = refl
texts-beside (more t f) g = ap (λ (s : List ℕ). text_of t ++ s) (texts-beside f g) ∙ sym (append_assoc (text_of t) (texts_of f) (texts_of g))

pub beside-beside : (f g h : Forest) → beside (beside f g) h ≡ beside f (beside g h)
unfolding beside
beside-beside none g h = refl
beside-beside (more t f) g h = ap (more t) (beside-beside f g h)

pub sounds-beside : (f g : Forest) → Sounds f → Sounds g → Sounds (beside f g)
unfolding beside Sound
sounds-beside none g s u = u
sounds-beside (more t f) g s u = (s.0, sounds-beside f g s.1 u)

pub sounds-apart : (f g : Forest) → Sounds (beside f g) → Sounds f × Sounds g
unfolding beside Sound
sounds-apart none g s = (tt, s)
sounds-apart (more t f) g s = let r = sounds-apart f g s.1 in ((s.0, r.0), r.1)

-- the bytes of the first ones, and those of the others
module _ (f g : Forest) {rows text : List ℕ} (sp : SpellsAll (beside f g) rows text) where
  rows-two : rows ≡ rows_ofs f ++ rows_ofs g
  rows-two = sp.rows_are ∙ rows-beside f g

  text-two : text ≡ texts_of f ++ texts_of g
  text-two = sp.text_is ∙ texts-beside f g

  pub first-apart : SpellsAll f (take (8 * sizes f) rows) (take (length (texts_of f)) text)
  first-apart =
      record {
        rows_are = ap (take (8 * sizes f)) rows-two ∙ take_at (rows_ofs f) (rows_ofs g) (8 * sizes f) (length-rowss f);
        text_is = ap (take (length (texts_of f))) text-two ∙ take_at (texts_of f) (texts_of g) (length (texts_of f)) refl;
        sound = (sounds-apart f g sp.sound).0;
      }

  pub others_apart : SpellsAll g (drop (8 * sizes f) rows) (drop (length (texts_of f)) text)
  others_apart =
      record {
        rows_are = ap (drop (8 * sizes f)) rows-two ∙ drop_at (rows_ofs f) (rows_ofs g) (8 * sizes f) (length-rowss f);
        text_is = ap (drop (length (texts_of f))) text-two ∙ drop_at (texts_of f) (texts_of g) (length (texts_of f)) refl;
        sound = (sounds-apart f g sp.sound).1;
      }

-- past a node's own row its children come, and then what stood behind it
pub flat-spells : (k : ℕ) (f g : Forest) {rows text : List ℕ} → SpellsAll (more (node k f) g) rows text → SpellsAll (beside f g) (drop 8 rows) text
unfolding rows_of text_of Sound
flat-spells k f g sp =
    record {
      rows_are = ap (drop 8) sp.rows_are ∙ sym (rows-beside f g);
      text_is = sp.text_is ∙ sym (texts-beside f g);
      sound = sounds-beside f g sp.sound.0.1 sp.sound.1;
    }

-- ---- tests

both_so : (a b : Bool) → (a && b) ≡ true → (a ≡ true) × (b ≡ true)
both_so true b e = (refl, e)
both_so false b e = let z : ◌≡◌ {A = ℕ} 0 1 = cc in absurd (omega arith)

none_so : (a b : Bool) → not (a || b) ≡ true → (a ≡ false) × (b ≡ false)
none_so true b e = let z : ◌≡◌ {A = ℕ} 0 1 = cc in absurd (omega arith)
none_so false true e = let z : ◌≡◌ {A = ℕ} 0 1 = cc in absurd (omega arith)
none_so false false e = (refl, refl)

and_assoc : (a b d : Bool) → ((a && b) && d) ≡ (a && (b && d))
and_assoc true b d = refl
and_assoc false b d = refl

pub one-so : {A : Type 0} (a b : Bool) → (a ≡ true → A) → (b ≡ true → A) → (a || b) ≡ true → A
one-so true b p q e = p refl
one-so false b p q e = q e

-- ---- steady loops

pub steady-act : (l : Loop) (t : Tree) (f : Forest) → is_steady l (kind_of t) ≡ true → act_of l t f ≡ Convert
steady-act Plain t f e = refl
steady-act (Curly blank) t f e = refl
steady-act Spaced t f e = let z : ◌≡◌ {A = ℕ} 0 1 = cc in absurd (omega arith)
steady-act (Attached Bare) t f e = let z : ◌≡◌ {A = ℕ} 0 1 = cc in absurd (omega arith)
steady-act (Attached Based) t f e = let z : ◌≡◌ {A = ℕ} 0 1 = cc in absurd (omega arith)
steady-act (Attached Split) t f e = refl
steady-act Greedy t f e = rw (not-true (eqb (kind_of t) ItemCurly) e)
steady-act Separated t f e = let z : ◌≡◌ {A = ℕ} 0 1 = cc in absurd (omega arith)
steady-act Bracketed t f e = let z : ◌≡◌ {A = ℕ} 0 1 = cc in absurd (omega arith)
steady-act Dollars t f e = let z : ◌≡◌ {A = ℕ} 0 1 = cc in absurd (omega arith)
steady-act (Arguments dollars) t f e = let z : ◌≡◌ {A = ℕ} 0 1 = cc in absurd (omega arith)
steady-act (Named n) t f e = let z : ◌≡◌ {A = ℕ} 0 1 = cc in absurd (omega arith)
steady-act Inside t f e = rw (not-true (is_ends (kind_of t)) e)
steady-act Figure t f e =
    let s = none_so (is_ends (kind_of t)) (eqb (kind_of t) ItemCmd) e in
    rw (s.0, s.1)
steady-act (Table true) t f e = let z : ◌≡◌ {A = ℕ} 0 1 = cc in absurd (omega arith)
steady-act (Table false) t f e =
    let s = none_so (is_ends (kind_of t)) (eqb (kind_of t) TokenAmpersand || eqb (kind_of t) ItemNewLine) e in
    let u = none_so (eqb (kind_of t) TokenAmpersand) (eqb (kind_of t) ItemNewLine) (ap not s.1) in
    rw (s.0, u.0, u.1)

pub steady-next : (l : Loop) (k : ℕ) → is_steady l k ≡ true → next_loop l k Convert ≡ l
steady-next Plain k e = refl
steady-next (Curly blank) k e = let z : ◌≡◌ {A = ℕ} 0 1 = cc in absurd (omega arith)
steady-next Spaced k e = refl
steady-next (Attached Bare) k e = let z : ◌≡◌ {A = ℕ} 0 1 = cc in absurd (omega arith)
steady-next (Attached Based) k e = let z : ◌≡◌ {A = ℕ} 0 1 = cc in absurd (omega arith)
steady-next (Attached Split) k e = refl
steady-next Greedy k e = refl
steady-next Separated k e = refl
steady-next Bracketed k e = refl
steady-next Dollars k e = refl
steady-next (Arguments dollars) k e = refl
steady-next (Named n) k e = let z : ◌≡◌ {A = ℕ} 0 1 = cc in absurd (omega arith)
steady-next Inside k e = refl
steady-next Figure k e = refl
steady-next (Table true) k e = refl
steady-next (Table false) k e = refl

pub steady-beside : (l : Loop) (f g : Forest) → all_steady l (beside f g) ≡ (all_steady l f && all_steady l g)
unfolding beside all_steady
steady-beside l none g = refl
steady-beside l (more t f) g =
    ap (λ (b : Bool). is_steady l (kind_of t) && b) (steady-beside l f g) ∙ sym (and_assoc (is_steady l (kind_of t)) (all_steady l f) (all_steady l g))

-- a plain loop is steady on everything
pub plain-steady : (f : Forest) → all_steady Plain f ≡ true
unfolding all_steady
plain-steady none = refl
plain-steady (more t f) = plain-steady f

module _ (conv : Tree → Carry → Outcome) where
  -- one child
  steady-more :
      (o : ℕ) (l : Loop) (t : Tree) (f : Forest) (c : Carry) → is_steady l (kind_of t) ≡ true
      → each conv o l (more t f) c ≡ and_then (shift o (conv t c)) (each conv (o + size t) l f)
  steady-more o l t f c e =
      let a = steady-act l t f e in
      each_more conv o l t f c
      ∙ ap (λ (b : Act). and_then (shift o (turn conv b t c)) (each conv (o + size t) (next_loop l (kind_of t) b) f)) a
      ∙ ap (λ (m : Loop). and_then (shift o (turn conv Convert t c)) (each conv (o + size t) m f)) (steady-next l (kind_of t) e)
      ∙ ap (λ (p : Outcome). and_then (shift o p) (each conv (o + size t) l f)) (turn-plain conv t c)

  -- the elements f in a plain loop, and then the loop over the others
  pub steady-run :
      (o : ℕ) (l : Loop) (f g : Forest) (c : Carry) → all_steady l f ≡ true
      → each conv o l (beside f g) c ≡ and_then (each conv o Plain f c) (each conv (o + sizes f) l g)
  unfolding beside all_steady size
  steady-run o l none g c e =
      sym
      (ap (λ (p : Outcome). and_then p (each conv (o + 0) l g)) (plain-none conv o c) ∙ after-nil (each conv (o + 0) l g c)
      ∙ ap (λ (n : ℕ). each conv n l g c) (add-zero o))
  steady-run o l (more t f) g c e =
      let s = both_so (is_steady l (kind_of t)) (all_steady l f) e in
      let rest : (k : Carry) → each conv (o + size t) l (beside f g) k
      ≡ and_then (each conv (o + size t) Plain f k) (each conv (o + (size t + sizes f)) l g)
      = λ k. steady-run (o + size t) l f g k s.1
      ∙ ap (λ (n : ℕ). and_then (each conv (o + size t) Plain f k) (each conv n l g)) (add_assoc o (size t) (sizes f)) in
      steady-more o l t (beside f g) c s.0
      ∙ and_then-same (shift o (conv t c)) (each conv (o + size t) l (beside f g))
      (λ k. and_then (each conv (o + size t) Plain f k) (each conv (o + (size t + sizes f)) l g)) rest
      ∙ sym (and_then-and_then (shift o (conv t c)) (each conv (o + size t) Plain f) (each conv (o + (size t + sizes f)) l g))
      ∙ ap (λ (p : Outcome). and_then p (each conv (o + (size t + sizes f)) l g)) (sym (plain_more conv o t f c))

  -- ---- a curly group in Math is a plain loop, and then a mark if nothing in it is more than blank

  curly-from :
      (b : Bool) (o : ℕ) (f : Forest) (c : Carry)
      → each conv o (Curly b) f c ≡ closing (cond (b && all_blank f) blank_group []) (each conv o Plain f c)
  unfolding all_blank each
  curly-from b o none c = ap (λ (d : Bool). done c (cond d blank_group [])) (sym (and-true b))
  curly-from b o (more t f) c =
      let w = cond (b && (is_blank (kind_of t) && all_blank f)) blank_group [] in
      and_then-same (shift o (turn conv Convert t c)) (each conv (o + size t) (Curly (b && is_blank (kind_of t))) f)
      (λ k. closing w (each conv (o + size t) Plain f k))
      (λ k. curly-from (b && is_blank (kind_of t)) (o + size t) f k
      ∙ ap (λ (d : Bool). closing (cond d blank_group []) (each conv (o + size t) Plain f k)) (and_assoc b (is_blank (kind_of t)) (all_blank f)))
      ∙ sym (closing-and_then w (shift o (turn conv Convert t c)) (each conv (o + size t) Plain f))

  pub curly-blank : (o : ℕ) (f : Forest) (c : Carry) → each conv o (Curly true) f c ≡ closing (cond (all_blank f) blank_group []) (each conv o Plain f c)
  curly-blank = curly-from true

-- ---- flat nodes

abbrev Flat : LaTeXMode → ℕ → Type 0
Flat m k = (conv : Conv) (x : Context) (f : Forest) (c : Carry) → x.mode ≡ m → arm_by (element_of k) conv x f c ≡ each (conv x) 1 Plain f c

flat-kind : (m : LaTeXMode) (j k : ℕ) → Flat m k → eqb j k ≡ true → Flat m j
flat-kind m j k h e = subst (Flat m) (sym (eqb-true j k e)) h

flat-children : (m : LaTeXMode) (k : ℕ) → is_children k ≡ true → Flat m k
flat-children m k =
    one-so (eqb k ItemLR) _ (flat-kind m k ItemLR (λ conv x f c e. refl))
    (one-so (eqb k ClauseArgument) _ (flat-kind m k ClauseArgument (λ conv x f c e. refl))
    (one-so (eqb k ScopeRoot) _ (flat-kind m k ScopeRoot (λ conv x f c e. refl))
    (one-so (eqb k ItemText) _ (flat-kind m k ItemText (λ conv x f c e. refl))
    (one-so (eqb k ItemBracket) _ (flat-kind m k ItemBracket (λ conv x f c e. refl))
    (flat-kind m k ItemParen (λ conv x f c e. refl))))))

flat-arm : (m : LaTeXMode) (k : ℕ) → is_flat m k ≡ true → Flat m k
flat-arm Math k = flat-children Math k
flat-arm Text k =
    one-so (is_children k) _ (flat-children Text k)
    (one-so (eqb k ItemCurly) _ (flat-kind Text k ItemCurly (λ conv x f c e. ap (λ (m : LaTeXMode). curly_in m conv x f c) e))
    (flat-kind Text k ItemAttachComponent (λ conv x f c e. ap (λ (m : LaTeXMode). each (conv x) 1 (attach_loop m) f c) e)))

-- a flat node at any level that is high enough
flat-convert :
    (n : ℕ) (x : Context) (k : ℕ) (f : Forest) (c : Carry) → is_flat x.mode k ≡ true → size (node k f) ≤ n
    → convert n x (node k f) c ≡ each (convert n x) 1 Plain f (flagged false c)
unfolding convert step
flat-convert zero x k f c e h = absurd (omega (arith, size-node k f))
flat-convert (suc d) x k f c e h =
    let s = size-node k f in
    flat-arm x.mode k e (convert d) x f (flagged false c) refl
    ∙ same-each (sizes f) (convert d x) (convert (suc d) x) (λ t b w. convert-level d (suc d) x t b (omega arith) (omega arith)) 1 Plain f (flagged false c)
    (omega arith)

pub flat_step :
    (x : Context) (n o k : ℕ) (f g : Forest) (c : Carry) → is_flat x.mode k ≡ true → sizes (more (node k f) g) ≤ n
    → each (convert n x) o Plain (more (node k f) g) c ≡ each (convert n x) (1 + o) Plain (beside f g) (flagged false c)
flat_step x n o k f g c e h =
    let s = size-node k f in
    let m = size-more (node k f) g in
    let conv = convert n x in
    let p : o + 1 ≡ 1 + o = omega arith in
    let q : o + size (node k f) ≡ 1 + o + sizes f = omega arith in
    plain_more conv o (node k f) g c
    ∙ ap (λ (r : Outcome). and_then (shift o r) (each conv (o + size (node k f)) Plain g)) (flat-convert n x k f c e (omega arith))
    ∙ ap (λ (r : Outcome). and_then r (each conv (o + size (node k f)) Plain g)) (sym (each-shift conv o 1 Plain f (flagged false c)))
    ∙ ap (λ (i : ℕ). and_then (each conv i Plain f (flagged false c)) (each conv (o + size (node k f)) Plain g)) p
    ∙ ap (λ (i : ℕ). and_then (each conv (1 + o) Plain f (flagged false c)) (each conv i Plain g)) q
    ∙ sym (steady-run conv (1 + o) Plain f g (flagged false c) (plain-steady f))
