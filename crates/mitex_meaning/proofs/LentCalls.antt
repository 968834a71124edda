-- Two kinds of calls in a walk of the code, as steps. All that is known of the callee is that it meets its contract.
--     calls-move   a form by value is called on a converter that was copied out
--     calls-lend   a local converter is lent to a form, for a lifetime that is made for the call, and comes back
use Prim.Native.Nat.{ℕ}
use mathlib.Core.Path.{◌≡◌, sym, ap, subst}
use mathlib.Core.List.{List, [], ◌∷◌}
use seplogic.Ra.Ura.{Ura}
use base.Fraction.{full_share}
use mir.Syntax.{Callee, Place, Opd as Operand, Body as Code, seq, call, named}
use mir.Val.{Val, vptr}
use base.Logic.{ent, sep, emp, snd∗, ex_e, id⊢}
use base.Fml.{Fml, GName, ftrue, fsep, fat, flft, flent}
use prog.Wp.{Env, Calls, Loops}
use types.Logic.{Logic, sem}
use contract.Monad.{fact}
use types.Kit.{Item, Post, runs, lands, Seq, ‵, raw, ◌⊛◌, some, later, ◌$◌, ◌∵◌, !, qed, move, drop, use0, use1, use2, use3}
use types.Kit.{split, join, pick, fsplit, fjoin, fpick, fpack, frame, await, done}
use types.Run.{Opds}
use types.SemTy.{Body}
use types.Tokens.{lft_new, lft_end}
use sound.WpLaws.{FmC}
use denote.Exit.{Last, yes}
use denote.Laws.{Is, shows}
use denote.Lend.{lends_ref, ref_back}
use denote.Memory.{mem, cell_at, part_of}
use denote.Ref.{MutBor, MutRef}
use denote.Steps.{only, facts, heard, nothing}
use denote.Struct.Laws as LL
use denote.Triple.Call.{calls_at}
use denote.Triple.Clauses.{ensured, lasts}
use denote.Triple.Statement.{Triple}
use denote.Triple.Walked.{says}
use Rattle.mitex_meaning.specs.declared.Converter.{Converter}
use Rattle.mitex_meaning.proofs.LentForms.{Known, mach, Held, Form, ended, clauses, Lends, Move, move-ended, move-clauses, Moves}
use Rattle.mitex_meaning.proofs.LentWalks.{had, converter-had, lies}
use Rattle.mitex_meaning.specs.contracts.Converter as T
use Rattle.mitex_meaning.proofs.Converter.TheLaws as T'

-- ---- a form by value
module _ {M : Type 1} {𝓤 : Ura M} (𝓛 : Logic 𝓤) (N : Move) where
  module _ (h : Converter) (p : N.P.row.Denot) where
    abbrev to-move : (Moves N 𝓛).Ghost
    to-move = ((tt, tt, tt, (h, (p, tt)), (mach h ∷ [], (N.P.word p ∷ [], tt))), tt)

    abbrev pub move-item : Item 𝓤
    move-item = raw ((Moves N 𝓛).pre to-move)

    -- both arguments own only facts, so what the call asks is had for nothing
    move-asked : N.Asks h p → Held h → Known N.P p → ent 𝓤 (emp 𝓤) ((Moves N 𝓛).pre to-move)
    move-asked ok was is =
        qed 𝓛 [] ∵ says ! ok $ nothing ! $ frame ! $ nothing ! $ had ! N.P p is $ fjoin ! $ converter-had ! h was $ fjoin ! $ done !

    -- of what the callee ensures, the clause alone
    move-told : (r : Converter) → ent 𝓤 (ensured 𝓛 (move-ended N) (move-clauses N 𝓤) tt (h, (p, tt)) tt r) (fact 𝓤 (r ≡ N.gives p h))
    move-told r = ex_e 𝓤 _ (λ ws. snd∗ 𝓤 (sem 𝓛 (lasts (move-ended N) tt (h, (p, tt)) ws)) (fact 𝓤 (r ≡ N.gives p h)))

module _ {M : Type 1} {𝓤 : Ura M} {𝓛 : Logic 𝓤} {K : Type 0} {Γ : List (Item 𝓤)}
    {E : Env 𝓤 𝓛.H} {C : Calls 𝓤 𝓛.H} {Λ : Loops 𝓤 𝓛.H} {f : Callee} {xs : List Operand} {d : Place} {rest : Code} {q : Post 𝓤 𝓛.H} where
  open 𝓛 use {H}

  pub calls-move : K → (N : Move) → FmC 𝓤 H 𝓛.laws C → Triple 𝓤 (C f) (Moves N 𝓛)
      → (h : Converter) (p : N.P.row.Denot) → N.Asks h p → Held h → Known N.P p
      → Opds K 𝓛 (move-item 𝓛 N h p ∷ Γ) E xs (mach h ∷ N.P.word p ∷ [])
      → (Held (N.gives p h) → Seq K 𝓛 Γ (lands C Λ E d (mach (N.gives p h)) rest q))
      → Seq K 𝓛 Γ (runs C Λ E (seq (call f xs d) rest) q)
  calls-move t N fm known h p ok was is reads k =
      let h' = N.gives p h in
      let Ensured = ensured 𝓛 (move-ended N) (move-clauses N 𝓤) tt (h, (p, tt)) tt in
      use0 𝓛 (move-item 𝓛 N h p) (move-asked 𝓛 N h p ok was is) $
      calls_at t fm (Moves N 𝓛) known (to-move 𝓛 N h p) reads (λ v.
      use1 𝓛 (later (some (λ (r : Converter). (‵ ftrue ⊛ ‵ ((T.the_row).own_val r (v ∷ []))) ⊛ raw (Ensured r)))) (id⊢ 𝓤 _) $
      await t tt $ pick t (λ r. split t $ move t (1 ∷ []) $
      use1 𝓛 (raw (fact 𝓤 (r ≡ h'))) (move-told 𝓛 N h p r) $ heard t (r ≡ h') (λ e. split t $ drop t $
      facts t T.the_row (Is T.the_row) (shows 𝓛 T.the_row) r (v ∷ []) (λ held.
      let gives = subst (λ (x : Converter). Is T.the_row x (v ∷ [])) e held in
      let same = LL.tells T.the_type T'.the_laws h' (v ∷ []) gives in
      subst (λ (u : Val). Seq K 𝓛 Γ (lands C Λ E d u rest q)) (sym (ap only same)) (k (subst (Is T.the_row h') same gives))))))

-- ---- a form on a lent converter, which stands in the local at the block l; α is the lifetime that is made, γ the name
module _ {M : Type 1} {𝓤 : Ura M} (𝓛 : Logic 𝓤) (F : Form) where
  open 𝓛 use {A}

  module _ (l : ℕ) (h : Converter) (p : F.P.row.Denot) (α : ℕ) (γ : GName) where
    abbrev lent : MutBor Converter
    lent = record { ref_ptr = (l, 0); ghost_name = γ; now = h }

    abbrev lent-own : Fml
    lent-own = (MutRef (named 0) (α ∷ []) T.the_row).own_val lent (vptr l 0 ∷ [])

    abbrev to-lend : (Lends F 𝓛).Ghost
    to-lend = (((α ∷ [], tt), (full_share, tt), tt, (lent, (p, tt)), (vptr l 0 ∷ [], (F.P.word p ∷ [], tt))), tt)

    abbrev pub lend-item : Item 𝓤
    lend-item = raw ((Lends F 𝓛).pre to-lend)

    lend-asked : ent 𝓤 (emp 𝓤) (F.asks 𝓤 h p) → Known F.P p
        → ent 𝓤 (sep 𝓤 (A.lft (α ∷ []) full_share) (sem 𝓛 lent-own)) ((Lends F 𝓛).pre to-lend)
    lend-asked ok is =
        qed 𝓛 (‵ (flft (α ∷ []) full_share) ∷ ‵ lent-own ∷ []) ∵
        use0 𝓛 (raw (F.asks 𝓤 h p)) ok $ nothing ! $ had ! F.P p is $ fjoin ! $ move ! (3 ∷ 0 ∷ []) $ fjoin ! $
        nothing ! $ move ! (3 ∷ 0 ∷ []) $ join ! $ move ! (0 ∷ 1 ∷ []) $ join ! $ frame ! $ done !

-- the lender's part
abbrev pub Owed : ℕ → ℕ → GName → Fml
Owed l α γ = flent (α ∷ []) (Body (mem T.the_row) l 0 γ)

module _ {M : Type 1} {𝓤 : Ura M} {𝓛 : Logic 𝓤} {K : Type 0} {Γ : List (Item 𝓤)}
    {E : Env 𝓤 𝓛.H} {C : Calls 𝓤 𝓛.H} {Λ : Loops 𝓤 𝓛.H} {f : Callee} {xs : List Operand} {d : Place} {rest : Code} {q : Post 𝓤 𝓛.H} where
  open 𝓛 use {H}

  pub calls-lend : K → (F : Form) → FmC 𝓤 H 𝓛.laws C → Triple 𝓤 (C f) (Lends F 𝓛)
      → (l : ℕ) (h : Converter) (p : F.P.row.Denot) → ent 𝓤 (emp 𝓤) (F.asks 𝓤 h p) → Held h → Known F.P p
      → ((α : ℕ) (γ : GName) → Opds K 𝓛 (lend-item 𝓛 F l h p α γ ∷ ‵ (Owed l α γ) ∷ Γ) E xs (vptr l 0 ∷ F.P.word p ∷ []))
      → ((h' : Converter) (r : F.R.row.Denot) → F.Promise h p r h' → Held h' → Known F.R r
      → Seq K 𝓛 (‵ (fat full_share T'.mir l 0 (mach h')) ∷ Γ) (lands C Λ E d (F.R.word r) rest q))
      → Seq K 𝓛 (‵ (fat full_share T'.mir l 0 (mach h)) ∷ Γ) (runs C Λ E (seq (call f xs d) rest) q)
  unfolding part_of
  calls-lend t F fm known l h p ok was is reads k =
      use1 𝓛 (‵ (cell_at full_share (T.the_row).mir (mach h ∷ []) l 0)) (𝓛.laws.at_raw full_share T'.mir l 0 (mach h)) $
      converter-had t h was $ move t (1 ∷ 0 ∷ []) $ fjoin t $
      fpack t (List Val) (λ us. fsep (cell_at full_share (T.the_row).mir us l 0) ((T.the_row).own_val h us)) (mach h ∷ []) $
      lft_new t tt (λ α. move t (1 ∷ []) $
      use1 𝓛 (later (some (λ (γ : GName). ‵ (lent-own 𝓛 F l h p α γ) ⊛ ‵ (Owed l α γ))))
      (lends_ref 𝓛 T.the_row (named 0) (α ∷ []) h l 0) $ await t tt $ pick t (λ γ. split t $ move t (2 ∷ 0 ∷ []) $
      use2 𝓛 (lend-item 𝓛 F l h p α γ) (lend-asked 𝓛 F l h p α γ ok is) $
      calls_at t fm (Lends F 𝓛) known (to-lend 𝓛 F l h p α γ) (reads α γ) (λ v.
      let token = ‵ (flft (α ∷ []) full_share) in
      let args : MutBor Converter × (F.P.row.Denot × Unit {0}) = (lent 𝓛 F l h p α γ, (p, tt)) in
      let Ensured = ensured 𝓛 (ended F) (clauses F 𝓤) (α ∷ [], tt) args tt in
      use1 𝓛 (later (some (λ (r : F.R.row.Denot). ((token ⊛ ‵ ftrue) ⊛ ‵ (F.R.row.own_val r (v ∷ []))) ⊛ raw (Ensured r)))) (id⊢ 𝓤 _) $
      await t tt $ pick t (λ r. split t $ move t (1 ∷ []) $
      -- what the callee ensures, at some last value
      use1 𝓛
      (some (λ (zs : Converter × (Last (F.P.row.exit yes) p × Unit {0})).
      ‵ (lasts (ended F) (α ∷ [], tt) args zs) ⊛ raw (fact 𝓤 (F.Promise h p r zs.0))))
      (id⊢ 𝓤 _) $ pick t (λ zs. split t $ move t (1 ∷ []) $ heard t (F.Promise h p r zs.0) (λ kept. fsplit t $ fsplit t $
      move t (3 ∷ []) $ split t $ split t $ move t (2 ∷ []) $
      facts t F.R.row (Is F.R.row) (shows 𝓛 F.R.row) r (v ∷ []) (λ gives.
      -- [the token; true; the last value; the borrow; true; the lender's part; …]: the lifetime is ended, and the local comes back
      lft_end t tt $ move t (0 ∷ 5 ∷ 2 ∷ []) $
      use3 𝓛 (later (‵ ((mem T.the_row).own_at zs.0 l 0))) (ref_back 𝓛 T.the_row (α ∷ []) γ zs.0 l 0) $ await t tt $
      fpick t (λ us. fsplit t $ lies t zs.0 us l 0 (λ held.
      -- [the converter's cell; true; the borrow; true; …]
      move t (1 ∷ []) $ drop t $ move t (1 ∷ []) $ drop t $ move t (1 ∷ []) $ drop t $
      let same = F.R.tells r (v ∷ []) gives in
      subst (λ (u : Val). Seq K 𝓛 (‵ (fat full_share T'.mir l 0 (mach zs.0)) ∷ Γ) (lands C Λ E d u rest q)) (sym (ap only same))
      (k zs.0 r kept held (subst (Is F.R.row r) same gives)))))))))))
