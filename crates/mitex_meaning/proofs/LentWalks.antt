-- What the proofs of the forms on a lent converter share. Each is a walk of the code: the borrow is opened, what stands there is
-- read and overwritten, and the borrow is closed at another converter.
--     opened, closed   the steps. A borrow's cell stands at the raw form of the type, which lacks the names of the enums, so that no
--                      field that is an enum could be read or written there; once opened it is spelled
--     Loan             what there is of a lent converter
--     Walk, ends       what a form's walk shows, and how it ends
--     proved           a form whose code has such a walk meets its contract
use Prim.Native.Nat.{ℕ}
use mathlib.Core.Path.{refl}
use mathlib.Core.List.{List, [], ◌∷◌}
use seplogic.Ra.Ura.{Ura}
use base.Fraction.{full_share}
use lib.Dec.{T as Holds}
use mir.Syntax.{Fn, named}
use mir.Val.{Val, WT, has_ty, vptr}
use base.Logic.{SProp, ent}
use base.Stored.{Gv}
use base.Fml.{GName, Lft, Share, ftrue, fat, flft, fobs, fauth, fbor, fobor}
use prog.Model.{Model}
use prog.Routine.{Callee, Env}
use prog.Wp.{WpFn, Tables, Closed}
use types.Logic.{Logic}
use contract.Running.{Running, tables, tables_of}
use types.Kit.{Goal, Soaks, Item, Seq, Step, step, ⋆, ‵, raw, ◌⊛◌, ◌$◌, ◌∵◌, !, qed, by, move, keep, use1}
use types.Kit.{split, join, fsplit, fsplit3, fjoin, fjoin3, feq_i, suffices, frame, done}
use types.SemTy.{Body}
use sound.WpLaws.{WpFn-mono}
use denote.RattleType.{owns}
use denote.Enum.Laws as EL
use denote.Exit.{Last, yes}
use denote.Laws.{Is, shows}
use denote.Memory.{mem, cell_at}
use denote.Ref.{MutBor, MutRef, mut_vals, mut_Tells}
use denote.Signature.{plain}
use denote.Steps.{opens, closes, owned, facts, nothing}
use denote.Struct.Laws as LL
use denote.Struct.Steps.{spelt}
use denote.Triple.Statement.{Triple}
use denote.Triple.Table.{entered}
use denote.Triple.Walked.{says, Stays, stay_ref, stay_none, walk_of, Goes-none, Goes-ref, ends_at, walked, walk_Meets}
use Rattle.mitex_meaning.specs.declared.Converter.{Converter}
use Rattle.mitex_meaning.proofs.LentForms.{Datum, Known, mode_datum, env_datum, mach, Held, Form, ended, clauses, Lends}
use Rattle.mitex_meaning.specs.contracts.Converter as T
use Rattle.mitex_meaning.proofs.Converter.TheLaws as T'
use Rattle.mitex_meaning.specs.contracts.LaTeXEnv as E
use Rattle.mitex_meaning.proofs.LaTeXEnv.TheLaws as E'
use Rattle.mitex_meaning.specs.contracts.LaTeXMode as D
use Rattle.mitex_meaning.proofs.LaTeXMode.TheLaws as D'

-- ---- machine values have their types' MIR types
module _ {M : Type 1} {𝓤 : Ura M} (𝓛 : Logic 𝓤) where
  pub typed : (h : Converter) → Held h → Holds (has_ty T'.mir (mach h)) × WT (mach h)
  typed h is = ((LL.lawful T.the_type T'.the_laws 𝓛).typed h (mach h ∷ []) is).0

  pub mode-typed : (m : mode_datum.row.Denot) → Known mode_datum m → Holds (has_ty D'.mir (mode_datum.word m)) × WT (mode_datum.word m)
  mode-typed m is = ((EL.lawful D.the_type D'.the_laws 𝓛 tt).typed m (mode_datum.word m ∷ []) is).0

  pub env-typed : (e : env_datum.row.Denot) → Known env_datum e → Holds (has_ty E'.mir (env_datum.word e)) × WT (env_datum.word e)
  env-typed e is = ((EL.lawful E.the_type E'.the_laws 𝓛 tt).typed e (env_datum.word e ∷ []) is).0

-- ---- steps
module _ {M : Type 1} {𝓤 : Ura M} {𝓛 : Logic 𝓤} {K : Type 0} {Γ : List (Item 𝓤)} {G : Goal 𝓤 𝓛.H} where
  -- what a datum owns, and what a converter owns, is had for nothing
  pub had : K → (P : Datum) (x : P.row.Denot) → Known P x → Step K 𝓛 (‵ (P.row.own_val x (P.word x ∷ [])) ∷ Γ) G Γ G
  had t P x is = owned t P.row (Is P.row) (P.makes 𝓛) x (P.word x ∷ []) is

  pub converter-had : K → (h : Converter) → Held h → Step K 𝓛 (‵ ((T.the_row).own_val h (mach h ∷ [])) ∷ Γ) G Γ G
  converter-had t h is = owned t T.the_row (Is T.the_row) (LL.makes T.the_type T'.the_plain 𝓛) h (mach h ∷ []) is

  -- a converter that lies in memory is spelled: its machine value stands there
  pub lies : K → (h : Converter) (vs : List Val) (b o : ℕ) → (Held h → Seq K 𝓛 (‵ (fat full_share T'.mir b o (mach h)) ∷ Γ) G)
      → Seq K 𝓛 (‵ (cell_at full_share (T.the_row).mir vs b o) ∷ ‵ ((T.the_row).own_val h vs) ∷ Γ) G
  lies t h vs b o k =
      let shown = shows 𝓛 T.the_row in
      spelt t T.the_row (Is T.the_row) shown (LL.vals T.the_type T'.the_laws) (LL.tells T.the_type T'.the_laws) full_share h vs b o $
      use1 𝓛 (‵ (fat full_share T'.mir b o (mach h))) (𝓛.laws.raw_at full_share T'.mir b o (mach h)) $
      move t (1 ∷ []) $ facts t T.the_row (Is T.the_row) shown h (mach h ∷ []) k

module _ {M : Type 1} {𝓤 : Ura M} {𝓛 : Logic 𝓤} {K : Type 0} {Γ : List (Item 𝓤)} {G : Goal 𝓤 𝓛.H} where
  pub loan-opened : K → Soaks G → {κ : Lft} {q : Share} (h : Converter) {γ : GName} (b o : ℕ)
      → (Held h
      → Seq K 𝓛
      (‵ (fat full_share T'.mir b o (mach h))
      ∷ ‵ (fobor κ q (Body (mem T.the_row) b o γ))
      ∷ ‵ (fobs γ ((T.the_row).coded.code h))
      ∷ ‵ (fauth γ ((T.the_row).coded.code h))
      ∷ Γ)
      G)
      → Seq K 𝓛 (‵ (fobs γ ((T.the_row).coded.code h)) ∷ ‵ (fbor κ (Body (mem T.the_row) b o γ)) ∷ ‵ (flft κ q) ∷ Γ) G
  loan-opened t z {κ} {q} h {γ} b o k = opens t z T.the_row {κ = κ} {q = q} {h = h} {γ = γ} b o (λ vs. lies t h vs b o k)

  pub loan-closed : K → Soaks G → {κ : Lft} {q : Share} {u w : Gv} (h : Converter) {γ : GName} (b o : ℕ) → Held h
      → Step K 𝓛 (‵ (fobs γ ((T.the_row).coded.code h)) ∷ ‵ (fbor κ (Body (mem T.the_row) b o γ)) ∷ ‵ (flft κ q) ∷ Γ) G
      (‵ (fat full_share T'.mir b o (mach h)) ∷ ‵ (fobor κ q (Body (mem T.the_row) b o γ)) ∷ ‵ (fobs γ u) ∷ ‵ (fauth γ w) ∷ Γ) G
  loan-closed t z h b o is =
      step (λ s.
      use1 𝓛 (‵ (cell_at full_share (T.the_row).mir (mach h ∷ []) b o)) (𝓛.laws.at_raw full_share T'.mir b o (mach h)) $
      converter-had t h is $ move t (1 ∷ 0 ∷ []) $ closes t z T.the_row h (mach h ∷ []) b o $ s)

-- ---- from a walk to the contract
module _ (F : Form) where
  -- of the lent converter and of the datum the walk still has at exit what it had
  abbrev stayed : Stays (ended F).signature.params (ended F).kept
  stayed = (stay_ref (0 ∷ []) tt (plain (λ _. T.the_row)), (stay_none (λ _. F.P.row) yes, tt))

  module _ {M : Type 1} {𝓤 : Ura M} (𝓛 : Logic 𝓤) (κ : Lft) (q : Share) (b o : ℕ) (γ : GName) where
    -- what there is of a converter h that is lent: what its name says, the borrow and the lifetime's token
    abbrev pub Loan : Converter → List (Item 𝓤)
    Loan h = ‵ (fobs γ ((T.the_row).coded.code h)) ∷ ‵ (fbor κ (Body (mem T.the_row) b o γ)) ∷ ‵ (flft κ q) ∷ []

    module _ (h : Converter) (p : F.P.row.Denot) where
      abbrev entry : (walk_of 𝓛 (ended F) stayed (clauses F 𝓤)).Ghost
      entry =
          let lent : MutBor Converter = record { ref_ptr = (b, o); ghost_name = γ; now = h } in
          (((κ, tt), (q, tt), tt, (lent, (p, tt)), (vptr b o ∷ [], (F.P.word p ∷ [], tt))), tt)

      abbrev Ends : Val → SProp 𝓤
      Ends = (walk_of 𝓛 (ended F) stayed (clauses F 𝓤)).post entry

      -- a walk ends at a converter and a result of which the promise holds
      pub ends : (h' : Converter) (r : F.R.row.Denot) → Known F.P p → Known F.R r → F.Promise h p r h'
          → ent 𝓤 (⋆ 𝓛 (Loan h')) (Ends (F.R.word r))
      ends h' r is known kept =
          let lasts : Converter × (Last (F.P.row.exit yes) p × Unit {0}) = (h', (F.P.last p, tt)) in
          qed 𝓛 (Loan h') ∵
          suffices ! _ (ends_at 𝓛 (ended F) stayed (clauses F 𝓤) entry (F.R.word r) r lasts (tt, (tt, tt))) $
          says ! kept $ nothing ! $ move ! (3 ∷ 0 ∷ []) $ join ! $ frame ! $
          feq_i ! (List Val) (vptr b o ∷ []) (vptr b o ∷ []) refl $ fjoin3 ! $
          nothing ! $ had ! F.P p is $ fjoin ! $ move ! (1 ∷ 0 ∷ []) $ fjoin ! $
          had ! F.R r known $ move ! (1 ∷ 0 ∷ []) $ done !

  module _ {M : Type 1} {𝓤 : Ura M} (𝓛 : Logic 𝓤) (𝓣 : Tables 𝓤 𝓛.H) (fn : Fn) where
    open 𝓛 use {H}

    abbrev pub LoanWalk : Type 1
    LoanWalk =
        (κ : Lft) (q : Share) (b o : ℕ) (γ : GName) (h : Converter) (p : F.P.row.Denot) → Known F.P p
        → ent 𝓤 (⋆ 𝓛 (raw (F.asks 𝓤 h p) ∷ Loan 𝓛 κ q b o γ h))
        (WpFn 𝓤 H 𝓣.C 𝓣.Λ fn (vptr b o ∷ F.P.word p ∷ []) (Ends 𝓛 κ q b o γ h p))

    meets : LoanWalk → Triple 𝓤 (WpFn 𝓤 H 𝓣.C 𝓣.Λ fn) (Lends F 𝓛)
    meets walk =
        walk_Meets 𝓛 (ended F) stayed
        (Goes-ref 𝓛 1 0 tt (plain (λ _. T.the_row)), (Goes-none 𝓛 1 (λ _. F.P.row) yes (λ κs. F.P.silent), tt))
        (clauses F 𝓤) (WpFn 𝓤 H 𝓣.C 𝓣.Λ fn) (WpFn-mono 𝓤 H 𝓛.laws 𝓣 fn)
        (walked 𝓛 (ended F) stayed (clauses F 𝓤) (WpFn 𝓤 H 𝓣.C 𝓣.Λ fn) (λ κs. (mut_vals, ((λ x. F.P.word x ∷ []), tt)))
        (λ κs. (mut_Tells (named 0) κs.0 T.the_row, (F.P.tells, tt)))
        (λ κs qs bounds a _ are.
        let words : List Val × (List Val × Unit {0}) = (mut_vals a.0, (F.P.word a.1.0 ∷ [], tt)) in
        qed 𝓛
        (((‵ (flft κs.0 qs.0) ⊛ ‵ ftrue) ⊛ ‵ (owns (MutRef (named 0) κs.0 T.the_row ∷ F.P.row ∷ []) a words))
        ∷ raw (F.asks 𝓤 a.0.now a.1.0)
        ∷ []) ∵
        split ! $ split ! $ move ! (2 ∷ []) $ fsplit ! $ fsplit3 ! $ keep ! (6 ∷ 1 ∷ 2 ∷ 4 ∷ []) $
        by ! (walk κs.0 qs.0 a.0.ref_ptr.0 a.0.ref_ptr.1 a.0.ghost_name a.0.now a.1.0 are.1.0)))

  -- the function fn, which the table ρ has under the name k
  module _ {M : Type 1} {𝓤 : Ura M} (𝓛 : Logic 𝓤) (𝓜 : Model 𝓤 𝓛.H) (𝓡 : Running 𝓤 𝓛.H 𝓜) (ρ : Env) (k : Callee) where
    open 𝓛 use {H}

    pub proved : (fn : Fn) → Closed 𝓤 H (tables 𝓤 H 𝓜 𝓡 ρ).C (tables 𝓤 H 𝓜 𝓡 ρ).Λ k fn
        → LoanWalk 𝓛 (tables_of 𝓤 H 𝓜 (tables 𝓤 H 𝓜 𝓡 ρ)) fn → Triple 𝓤 ((tables 𝓤 H 𝓜 𝓡 ρ).C k) (Lends F 𝓛)
    unfolding tables_of
    proved fn is_code walk =
        let 𝓣 = tables 𝓤 H 𝓜 𝓡 ρ in
        entered 𝓤 H (Lends F 𝓛) 𝓣.C 𝓣.Λ k fn is_code
        (meets 𝓛 (tables_of 𝓤 H 𝓜 𝓣) fn walk)
