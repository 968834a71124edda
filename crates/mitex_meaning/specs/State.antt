-- The converter's state as context and carry, and how the state moves.
use Rattle.std.specs.Prelude.{◌≡◌, Bool, true, false, ℕ, ◌+◌, ◌-◌, ◌≤◌, List, ◌++◌, length, take, drop, replicate}
use Rattle.mitex_spec.specs.Rules.{Rule}
use Rattle.mitex_meaning.specs.Outcome.{Context, Label, Carry, label_most, step_of}
use Rattle.mitex_meaning.specs.Outcome.Label.{unheld, held}
use Rattle.mitex_meaning.specs.declared.LaTeXMode.{LaTeXMode}
use Rattle.mitex_meaning.specs.declared.LaTeXEnv.{LaTeXEnv}
use Rattle.mitex_meaning.specs.declared.LaTeXEnv.TheVariants.{None}
use Rattle.mitex_meaning.specs.declared.Converter.{Converter}

-- the first bytes of the array, while a label is held
abbrev pub label_of : Bool → ℕ → List ℕ → Label
label_of true n l = held (take n l)
label_of false n l = unheld

abbrev pub context_of : List Rule → Converter → Context
context_of rules c = record { rules = rules; mode = c.mode; env = c.env; indent = c.indent }

abbrev pub carry_of : Converter → Carry
carry_of c = record { flag = c.skip_next_space; label = label_of c.label_held c.label_len c.label }

-- ---- as in the Rust

-- `Converter::new`
abbrev pub new_of : LaTeXMode → Converter
new_of m =
    record {
      mode = m;
      env = None;
      indent = 0;
      label = replicate label_most 0;
      label_len = 0;
      label_held = false;
      skip_next_space = true;
    }

-- the converter in another mode, environment and indent
abbrev pub placed : LaTeXMode → LaTeXEnv → ℕ → Converter → Converter
placed m e n c =
    record {
      mode = m;
      env = e;
      indent = n;
      label = c.label;
      label_len = c.label_len;
      label_held = c.label_held;
      skip_next_space = c.skip_next_space;
    }

abbrev pub with_mode : LaTeXMode → Converter → Converter
with_mode m c = placed m c.env c.indent c

abbrev pub entered_env : LaTeXEnv → Converter → Converter
entered_env e c = placed c.mode e (c.indent + step_of e) c

abbrev pub exited_env : LaTeXEnv → Converter → Converter
exited_env p c = placed c.mode p (c.indent - step_of c.env) c

-- ---- another carry, in the place where it was

-- the label's array, how many of its bytes count, whether it is held, and the flag
abbrev pub loaded : List ℕ → ℕ → Bool → Bool → Converter → Converter
loaded l n h b c =
    record {
      mode = c.mode;
      env = c.env;
      indent = c.indent;
      label = l;
      label_len = n;
      label_held = h;
      skip_next_space = b;
    }

abbrev pub with_flag : Bool → Converter → Converter
with_flag b c = loaded c.label c.label_len c.label_held b c

-- a new converter past the root
abbrev pub opening_of : LaTeXMode → Converter
opening_of m = with_flag false (new_of m)

abbrev pub without_label : Converter → Converter
without_label c = loaded c.label 0 false c.skip_next_space c

-- the label is written over the front of the array
abbrev pub with_label : List ℕ → Converter → Converter
with_label s c = loaded (s ++ drop (length s) c.label) (length s) true c.skip_next_space c

abbrev pub with_held : Label → Converter → Converter
with_held unheld c = without_label c
with_held (held s) c = with_label s c

abbrev pub with_carry : Carry → Converter → Converter
with_carry e c = with_held e.label (with_flag e.flag c)

-- ---- what moves

-- another carry, and mode, environment and indent as they were
pub record Carried (c : Converter) (e : Carry) (r : Converter) : Type 0 where
  pub mode : r.mode ≡ c.mode
  pub env : r.env ≡ c.env
  pub indent : r.indent ≡ c.indent
  pub carry : carry_of r ≡ e
  pub short : c.label_len ≤ label_most → r.label_len ≤ label_most
