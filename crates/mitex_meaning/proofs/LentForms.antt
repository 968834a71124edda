-- The contracts of the forms on a lent converter, and of the forms by value that they call, as data: a proof about one of them is
-- then a proof about any. Such a form takes the converter and a datum (plain data that owns only facts).
--     Datum            plain data with its laws: `mode_datum`, `env_datum`, `no_datum`
--     mach, Held       a converter's machine value, and what whoever holds the converter knows
--     Form, Lends      a form on a lent converter, and its contract
--     Move, Moves      a form by value, and its contract
use Prim.Native.Nat.{◌+◌, ◌<◌, ◌≤◌, ◌^◌}
use mathlib.Core.Path.{◌≡◌, refl}
use mathlib.Core.List.{[], ◌∷◌}
use seplogic.Ra.Ura.{Ura}
use mir.Val.{Val, vunit}
use base.Logic.{SProp, emp}
use base.Fml.{ftrue}
use types.Logic.{Logic}
use contract.Monad.{fact}
use denote.RattleType.{RattleType}
use denote.Builtin.{RefMut, unit}
use denote.Enum.Laws as EL
use denote.Exit.{Last, left, yes}
use denote.Laws.{Is, Tells, Makes}
use denote.Plain.{Nothing-Makes, Nothing-Tells}
use denote.Signature.{plain}
use denote.Struct.Laws as LL
use denote.Triple.Clauses.{Ended, Clauses, closing}
use denote.Triple.Spec.{triple_of}
use denote.Triple.Statement.{Contract}
use Rattle.mitex_meaning.specs.Outcome.{step_of}
use Rattle.mitex_meaning.specs.State.{with_mode, entered_env, exited_env}
use Rattle.mitex_meaning.specs.declared.Converter.{Converter}
use Rattle.mitex_meaning.specs.declared.LaTeXMode.{LaTeXMode}
use Rattle.mitex_meaning.specs.contracts.Converter as T
use Rattle.mitex_meaning.proofs.Converter.TheLaws as T'
use Rattle.mitex_meaning.specs.contracts.LaTeXEnv as E
use Rattle.mitex_meaning.proofs.LaTeXEnv.TheLaws as E'
use Rattle.mitex_meaning.specs.contracts.LaTeXMode as D
use Rattle.mitex_meaning.proofs.LaTeXMode.TheLaws as D'

-- ---- plain data beside the converter
-- its machine value, which its type tells; what it owns is had for nothing, and nothing is said of it at exit
pub record Datum : Type 2 where
  pub row : RattleType
  pub word : row.Denot → Val
  pub tells : Tells row (Is row) (λ x. word x ∷ [])
  pub makes : {M : Type 1} {𝓤 : Ura M} (𝓛 : Logic 𝓤) → Makes 𝓛 row (Is row)
  pub last : (x : row.Denot) → Last (row.exit yes) x
  pub silent : (x : row.Denot) (f : Last (row.exit yes) x) → left (row.exit yes) x f ≡ ftrue

-- what whoever holds the datum knows
abbrev pub Known : (P : Datum) → P.row.Denot → Type 0
Known P x = Is P.row x (P.word x ∷ [])

abbrev pub mode_datum : Datum
mode_datum =
    record {
      row = D.the_row;
      word = EL.val D.the_type D'.the_laws;
      tells = EL.tells D.the_type D'.the_laws;
      makes = λ 𝓛. EL.makes D.the_type D'.the_plain 𝓛;
      last = λ x. tt;
      silent = λ x f. refl;
    }

abbrev pub env_datum : Datum
env_datum =
    record {
      row = E.the_row;
      word = EL.val E.the_type E'.the_laws;
      tells = EL.tells E.the_type E'.the_laws;
      makes = λ 𝓛. EL.makes E.the_type E'.the_plain 𝓛;
      last = λ x. tt;
      silent = λ x f. refl;
    }

abbrev pub no_datum : Datum
no_datum =
    record {
      row = unit;
      word = λ _. vunit;
      tells = Nothing-Tells;
      makes = Nothing-Makes;
      last = λ x. tt;
      silent = λ x f. refl;
    }

-- ---- the converter
abbrev pub mach : Converter → Val
mach = LL.val T.the_type T'.the_laws

abbrev pub Held : Converter → Type 0
Held h = Is T.the_row h (mach h ∷ [])

-- what whoever holds the converter knows of its mode, its environment and its indent
pub mode-known : (h : Converter) → Held h → Known mode_datum h.mode
mode-known h was = (LL.owed T.the_type T'.the_laws h _ was).0

pub env-known : (h : Converter) → Held h → Known env_datum h.env
env-known h was = (LL.owed T.the_type T'.the_laws h _ was).1.0

pub indent-fits : (h : Converter) → Held h → h.indent < 2 ^ 64
indent-fits h was = (LL.owed T.the_type T'.the_laws h _ was).1.1.0.1

-- in another mode: of the mode what is known of it, of the other fields what was known
pub held-in-mode : (h : Converter) (m : LaTeXMode) → Held h → Known mode_datum m → Held (with_mode m h)
held-in-mode h m was is = LL.owes T.the_type T'.the_laws (with_mode m h) (is, (LL.owed T.the_type T'.the_laws h _ was).1)

-- ---- a form on a lent converter takes the datum P and returns the datum R
-- what it asks of the converter and P, and what it promises of these two, of R, and of the converter at exit
pub record Form : Type 2 where
  pub P : Datum
  pub R : Datum
  pub asks : {M : Type 1} (𝓤 : Ura M) → Converter → P.row.Denot → SProp 𝓤
  pub Promise : Converter → P.row.Denot → R.row.Denot → Converter → Type 0

module _ (F : Form) where
  abbrev pub ended : Ended
  ended =
      record {
        signature =
            record {
              lifetimes = 1;
              outlives = [];
              params = RefMut 0 tt T.the_row tt ∷ plain (λ _. F.P.row) ∷ [];
              result = plain (λ _. F.R.row);
            };
        kept = (yes, (yes, tt));
      }

  abbrev pub clauses : {M : Type 1} (𝓤 : Ura M) → Clauses 𝓤 ended
  clauses 𝓤 κs a =
      record {
        ghost = Unit {0};
        requires = λ _. F.asks 𝓤 a.0.now a.1.0;
        ensures = λ _ r e. fact 𝓤 (F.Promise a.0.now a.1.0 r e.0.now);
      }

  abbrev pub Lends : {M : Type 1} {𝓤 : Ura M} (𝓛 : Logic 𝓤) → Contract 𝓤
  Lends {𝓤 = 𝓤} 𝓛 = triple_of 𝓛 ended.signature (closing 𝓛 ended (clauses 𝓤))

-- ---- a form by value takes the datum P: what it asks, and the converter that it gives
pub record Move : Type 2 where
  pub P : Datum
  pub Asks : Converter → P.row.Denot → Type 0
  pub gives : P.row.Denot → Converter → Converter

module _ (N : Move) where
  abbrev pub move-ended : Ended
  move-ended =
      record {
        signature =
            record {
              lifetimes = 0;
              outlives = [];
              params = plain (λ _. T.the_row) ∷ plain (λ _. N.P.row) ∷ [];
              result = plain (λ _. T.the_row);
            };
        kept = (yes, (yes, tt));
      }

  abbrev pub move-clauses : {M : Type 1} (𝓤 : Ura M) → Clauses 𝓤 move-ended
  move-clauses 𝓤 κs a =
      record {
        ghost = Unit {0};
        requires = λ _. fact 𝓤 (N.Asks a.0 a.1.0);
        ensures = λ _ r e. fact 𝓤 (r ≡ N.gives a.1.0 a.0);
      }

  abbrev pub Moves : {M : Type 1} {𝓤 : Ura M} (𝓛 : Logic 𝓤) → Contract 𝓤
  Moves {𝓤 = 𝓤} 𝓛 = triple_of 𝓛 move-ended.signature (closing 𝓛 move-ended (move-clauses 𝓤))

-- ---- the forms, with the definitions that their contracts cite
abbrev pub entered-env-move : Move
entered-env-move = record { P = env_datum; Asks = λ h e. h.indent + step_of e < 2 ^ 64; gives = entered_env }

abbrev pub exited-env-move : Move
exited-env-move = record { P = env_datum; Asks = λ h e. step_of h.env ≤ h.indent; gives = exited_env }

abbrev pub enter-mode-form : Form
enter-mode-form = record { P = mode_datum; R = mode_datum; asks = λ 𝓤 h m. emp 𝓤; Promise = λ h m r h'. (r ≡ h.mode) × (h' ≡ with_mode m h) }

abbrev pub exit-mode-form : Form
exit-mode-form = record { P = mode_datum; R = no_datum; asks = λ 𝓤 h m. emp 𝓤; Promise = λ h m r h'. h' ≡ with_mode m h }

abbrev pub enter-env-form : Form
enter-env-form =
    record {
      P = env_datum;
      R = env_datum;
      asks = λ 𝓤 h e. fact 𝓤 (entered-env-move.Asks h e);
      Promise = λ h e r h'. (r ≡ h.env) × (h' ≡ entered_env e h);
    }

abbrev pub exit-env-form : Form
exit-env-form = record { P = env_datum; R = no_datum; asks = λ 𝓤 h e. fact 𝓤 (exited-env-move.Asks h e); Promise = λ h e r h'. h' ≡ exited_env e h }
