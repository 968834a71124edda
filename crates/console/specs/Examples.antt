-- Worked lines, which antt computes: a line beside what it asks for, and an answer beside its line.
use Rattle.std.specs.Prelude.{◌≡◌, refl, List, [], ◌∷◌, map, ℕ, Option, Some, None}
use Prim.Native.String.{String}
use Rattle.text.specs.Ascii.{ascii}
use Rattle.text.specs.Compare.{index_of}
use Rattle.text.specs.Writing.{digits}
use Rattle.console.specs.Mode.{mode_in}
use Rattle.console.specs.Request.{number_from, request_in}
use Rattle.console.specs.Answers.{refusal_line, edited_line}
use Rattle.console.specs.declared.Request.{Request}

-- ---- what is read

modes : map (λ s. mode_in (ascii s)) ("t" ∷ "m" ∷ "m\n" ∷ "x" ∷ "" ∷ []) ≡ 0 ∷ 1 ∷ 1 ∷ 2 ∷ 2 ∷ []
modes = refl

pub record ReadLine : Type 0 where
  pub bytes : String
  pub request : Option Request

abbrev edit : ℕ → ℕ → ℕ → Option Request
edit mode block kept = Some (record { mode = mode; block = block; kept = kept })

abbrev read_line : String → Option Request → ReadLine
read_line s r = record { bytes = s; request = r }

abbrev read_lines : List ReadLine
read_lines =
    read_line "t 3 120\n" (edit 0 3 120)
    -- without an end, with bytes after it, with leading zeros
    ∷ read_line "m 0 0" (edit 1 0 0)
    ∷ read_line "t 3 120\nm" (edit 0 3 120)
    ∷ read_line "t 03 0120\n" (edit 0 3 120)
    -- a letter that names no mode
    ∷ read_line "x 3 120\n" (edit 2 3 120)
    -- 64 bits, and one number more
    ∷ read_line "t 18446744073709551615 0\n" (edit 0 18446744073709551615 0)
    ∷ read_line "t 18446744073709551616 0\n" None
    -- other forms
    ∷ read_line "" None
    ∷ read_line "t 3\n" None
    ∷ read_line "t 3 \n" None
    ∷ read_line "t  3 120\n" None
    ∷ read_line "t 3 120 \n" None
    ∷ read_line "t 3 -1\n" None
    ∷ read_line "t3 120\n" None
    -- 64 bytes without an end
    ∷ read_line "t 0 000000000000000000000000000000000000000000000000000000000000" None
    ∷ []

read-lines-ask : map (λ x. request_in (ascii x.bytes)) read_lines ≡ map (λ x. x.request) read_lines
unfolding request_in number_from index_of
read-lines-ask = refl

-- ---- what is printed

pub record PrintedLine : Type 0 where
  pub line : List ℕ
  pub reads : String

abbrev printed_line : List ℕ → String → PrintedLine
printed_line l s = record { line = l; reads = s }

abbrev printed_lines : List PrintedLine
printed_lines =
    printed_line (refusal_line 11 1) "refused 11 at 1\n"
    ∷ printed_line (refusal_line 1 0) "refused 1 at 0\n"
    -- a text that is shorter now, one as long as before, and a longer one
    ∷ printed_line (edited_line 34 65 2) "ok 34 -31 2\n"
    ∷ printed_line (edited_line 34 34 1) "ok 34 0 1\n"
    ∷ printed_line (edited_line 120 34 10) "ok 120 86 10\n"
    -- numbers of 64 bits
    ∷ printed_line (edited_line 0 18446744073709551615 1) "ok 0 -18446744073709551615 1\n"
    ∷ printed_line (edited_line 18446744073709551615 0 1) "ok 18446744073709551615 18446744073709551615 1\n"
    ∷ []

printed-lines-read : map (λ x. x.line) printed_lines ≡ map (λ x. ascii x.reads) printed_lines
unfolding digits
printed-lines-read = refl
