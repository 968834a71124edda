-- Near passes: programs that do nearly what is asked. For each of them two calls, of real files, at which no program that meets the
-- contracts of the calls answers so. The calls are those of the tables of `Starred`, and some of the same files in other buffers.
use Rattle.std.specs.Prelude.{◌≡◌, refl, ℕ, ◌*◌, ◌-◌, ◌≤◌, pos, negsuc, take, drop, get_or, replicate}
use Rattle.std.proofs.Common.{sym, ap, subst, subst₂, ◌∙◌, arith}
use mathlib.Core.List.{List, [], ◌∷◌, ◌++◌, map, flatten}
use Rattle.text.specs.Ascii.{ascii}
use Rattle.ledger.specs.Ledger.{row_size}
use Rattle.edit_meaning.specs.Edit.{Answer, Result, at_front}
use Rattle.edit_meaning.specs.Edit.Answer.{refused, converted, edited}
use Rattle.edit_meaning.specs.Calls.{Gives, Converts, Edits}
use Rattle.edit_meaning.specs.ChangeCalls.{Alters}
use Rattle.manuscript.specs.Manuscript.{manuscript}
use Rattle.promises.specs.Starred.{zeros, Call, Trial, trial, result, hand, starred, small, small-hold, altered, altered-hold}
use Rattle.promises.specs.Starred.{joint, joint-hold}
use Rattle.promises.specs.Starred.Call.{convert_call, edit_call, alter_call}

-- ---- programs

-- what is answered and left at each call
abbrev pub Program : Type 0
Program = Call → Result

-- what the contracts of `convert`, `edit`, `insert`, `remove` and `replace_all` say of a call
abbrev pub Right : Call → Result → Type 0
Right (convert_call mode rules tree text ledger) r =
    Converts (manuscript mode rules) tree text ledger r.answer r.text r.ledger
Right (edit_call mode rules tree block kept text ledger) r =
    Edits (manuscript mode rules) tree block kept text ledger r.answer r.text r.ledger
Right (alter_call mode rules tree k kept text ledger) r =
    Alters (manuscript mode rules) tree k kept text ledger r.answer r.text r.ledger

abbrev pub Meets : Program → Type 0
Meets p = (c : Call) → Right c (p c)

-- the definitions themselves meet it, and whatever meets it is the definitions at each call
pub result-meets : Meets result
unfolding result
result-meets (convert_call mode rules tree text ledger) = record { gives = record { answer = refl; bytes = refl; rows = refl } }
result-meets (edit_call mode rules tree block kept text ledger) = record { gives = record { answer = refl; bytes = refl; rows = refl } }
result-meets (alter_call mode rules tree k kept text ledger) = record { gives = record { answer = refl; bytes = refl; rows = refl } }

right-gives : (c : Call) (r : Result) → Right c r → Gives (result c) r.answer r.text r.ledger
unfolding result
right-gives (convert_call mode rules tree text ledger) r h = h.gives
right-gives (edit_call mode rules tree block kept text ledger) r h = h.gives
right-gives (alter_call mode rules tree k kept text ledger) r h = h.gives

meets-is : (p : Program) → Meets p → (c : Call) → p c ≡ result c
meets-is p m c =
    let g = right-gives c (p c) (m c) in
    λ i. record { answer = g.answer i; text = g.bytes i; ledger = g.rows i }

-- ---- calls

-- the text buffer as it is lent
abbrev text_lent : Call → List ℕ
text_lent (convert_call mode rules tree text ledger) = text
text_lent (edit_call mode rules tree block kept text ledger) = text
text_lent (alter_call mode rules tree k kept text ledger) = text

abbrev ledger_lent : Call → List ℕ
ledger_lent (convert_call mode rules tree text ledger) = ledger
ledger_lent (edit_call mode rules tree block kept text ledger) = ledger
ledger_lent (alter_call mode rules tree k kept text ledger) = ledger

-- the new document converted from its start, in the same buffers
abbrev afresh : Call → Call
afresh (convert_call mode rules tree text ledger) = convert_call mode rules tree text ledger
afresh (edit_call mode rules tree block kept text ledger) = convert_call mode rules tree text ledger
afresh (alter_call mode rules tree k kept text ledger) = convert_call mode rules tree text ledger

-- the same files in other buffers; the kept length goes with these, and an edit's block
abbrev in_buffers : ℕ → ℕ → List ℕ → List ℕ → Call → Call
in_buffers block kept text ledger (convert_call mode rules tree t l) = convert_call mode rules tree text ledger
in_buffers block kept text ledger (edit_call mode rules tree b k t l) = edit_call mode rules tree block kept text ledger
in_buffers block kept text ledger (alter_call mode rules tree k n t l) = alter_call mode rules tree k kept text ledger

abbrev no_result : Result
no_result = record { answer = refused 0 0; text = []; ledger = [] }

abbrev no_trial : Trial
no_trial = record { call = convert_call 0 [] [] [] []; gives = no_result }

abbrev call_at : ℕ → List Trial → Call
call_at k trials = (get_or trials k no_trial).call

abbrev gives_at : ℕ → List Trial → Result
gives_at k trials = (get_or trials k no_trial).gives

-- Math `ab`; `$x$`; `\item` as row 1, in a text buffer of two bytes
abbrev letters_call : Call
letters_call = call_at 1 hand

abbrev formula_call : Call
formula_call = call_at 8 hand

abbrev item_call : Call
item_call = call_at 9 hand

-- line feed, space, space, of which two bytes are written, in a text buffer of two
abbrev tight_call : Call
tight_call = in_buffers 0 0 (replicate 2 7) (replicate (3 * row_size) 7) (call_at 2 hand)

-- the label's block 0 edited to `a`, and a table after it that wrote the label
abbrev unlabelled_call : Call
unlabelled_call = call_at 12 hand

-- The same file where the table is the block named: the row before it holds a label that this document never had, and the text
-- before it is another's.
abbrev borrowed_call : Call
borrowed_call = in_buffers 1 160 (text_lent unlabelled_call) (ledger_lent unlabelled_call) unlabelled_call

-- `two` edited to `x` between `one` and `six`; the same in a text from nowhere
abbrev words_call : Call
words_call = call_at 0 small

abbrev shouted_call : Call
shouted_call = call_at 3 small

-- `a` edited to a line feed, after which the second block, a space, writes nothing any more
abbrev folded_call : Call
folded_call = in_buffers 0 2 (ascii "a ") ((1 ∷ zeros (row_size - 1)) ++ (2 ∷ zeros (row_size - 1))) (call_at 4 small)

-- `two` taken out between `one` and `six`
abbrev taken_call : Call
taken_call = call_at 1 altered

-- a line feed put in after a line feed
abbrev fed_call : Call
fed_call = call_at 2 altered

-- a space put in after the label's block, and taken out again
abbrev spaced_call : Call
spaced_call = call_at 3 altered

abbrev closed_call : Call
closed_call = call_at 4 altered

-- the label's block taken out
abbrev loose_call : Call
loose_call = call_at 5 altered

-- `one` and `six` replaced around `two`; the same, and all three, in a buffer that is full and where the first grows
abbrev around_call : Call
around_call = call_at 0 joint

abbrev full_call : Call
full_call = call_at 1 joint

abbrev fuller_call : Call
fuller_call = call_at 2 joint

-- the label's block and the table replaced; two letters by a line feed and a space
abbrev relabelled_call : Call
relabelled_call = call_at 5 joint

abbrev broken_call : Call
broken_call = call_at 7 joint

-- what is right for those that the tables do not have
abbrev further : List Trial
further =
    trial tight_call (converted 2 3) (ascii "\n ") (take (3 * row_size) (gives_at 2 hand).ledger)
    ∷ trial borrowed_call (edited 160 (pos 0) 1) (text_lent borrowed_call) (ledger_lent borrowed_call)
    ∷ trial (afresh borrowed_call)
    (converted 125 2) (at_front (take 125 (gives_at 12 hand).text) (text_lent borrowed_call)) (gives_at 12 hand).ledger
    ∷ trial (afresh shouted_call) (converted 7 3) (ascii "onexsixIX") (gives_at 3 small).ledger
    ∷ trial folded_call (edited 1 (negsuc 0) 2) (ascii "\n" ++ zeros 1) (gives_at 4 small).ledger
    ∷ []

further-hold : map (λ c. result c.call) further ≡ map (λ c. c.gives) further
unfolding result flatten
further-hold = refl

-- ---- the near passes

abbrev length_said : Answer → ℕ
length_said (refused number row) = 0
length_said (converted len blocks) = len
length_said (edited len growth count) = len

abbrev number_said : Answer → ℕ
number_said (refused number row) = number
number_said (converted len blocks) = 0
number_said (edited len growth count) = 0

abbrev count_said : Answer → ℕ
count_said (refused number row) = 0
count_said (converted len blocks) = blocks
count_said (edited len growth count) = count

-- the text that an edit left is the one that Convert gives
abbrev TextOfConvert : Result → Result → Type 0
TextOfConvert r whole = take (length_said whole.answer) r.text ≡ take (length_said whole.answer) whole.text

-- after the named block, whose text ended at `old` and ends at `new`, stands what was kept there
abbrev TailCopied : ℕ → ℕ → ℕ → Call → Result → Type 0
TailCopied kept old new c r = take (kept - old) (drop new r.text) ≡ take (kept - old) (drop old (text_lent c))

-- the ledger from row k on is as it was lent
abbrev RowsStay : ℕ → Call → Result → Type 0
RowsStay k c r = drop (row_size * k) r.ledger ≡ drop (row_size * k) (ledger_lent c)

abbrev byte_at : ℕ → List ℕ → ℕ
byte_at i l = get_or l i 0

-- p is any program that meets the contract
module _ (p : Program) (meets : Meets p) where
  -- at a call of a table it gives what the table says
  at_call :
      (trials : List Trial) → map (λ c. result c.call) trials ≡ map (λ c. c.gives) trials → (k : ℕ)
      → get_or (map (λ c. p c.call) trials) k no_result ≡ get_or (map (λ c. c.gives) trials) k no_result
  at_call trials h k =
      let same : map (λ c. p c.call) trials ≡ map (λ c. result c.call) trials = λ i. map (λ c. meets-is p meets c.call i) trials in
      ap (λ (l : List Result). get_or l k no_result) (same ∙ h)

  letters-is : p letters_call ≡ gives_at 1 hand
  letters-is = at_call hand starred 1

  formula-is : p formula_call ≡ gives_at 8 hand
  formula-is = at_call hand starred 8

  -- one that writes nothing: the text buffer is as it was lent
  pub nothing_written : ((p letters_call).text ≡ text_lent letters_call → ⊥) × ((p formula_call).text ≡ text_lent formula_call → ⊥)
  nothing_written = (
    λ h. let z : ◌≡◌ {A = ℕ} 7 97 = ap (byte_at 0) (sym h ∙ ap (λ r. r.text) letters-is) in omega arith,
    λ h. let z : ◌≡◌ {A = ℕ} 7 35 = ap (byte_at 0) (sym h ∙ ap (λ r. r.text) formula-is) in omega arith,
  )

  -- one fixed text: whatever it is, it is not the text of both
  pub fixed-text : (s : List ℕ) → (p letters_call).text ≡ at_front s (text_lent letters_call) → (p formula_call).text ≡ at_front s (text_lent formula_call) → ⊥
  fixed-text [] h k = nothing_written.0 h
  fixed-text (x ∷ s) h k =
      let a : x ≡ 97 = ap (byte_at 0) (sym h ∙ ap (λ r. r.text) letters-is) in
      let b : x ≡ 35 = ap (byte_at 0) (sym k ∙ ap (λ r. r.text) formula-is) in
      omega arith

  -- one that refuses all, with whatever number
  pub refuses-all : (n i : ℕ) → ((p letters_call).answer ≡ refused n i → ⊥) × ((p formula_call).answer ≡ refused n i → ⊥)
  refuses-all n i = (
    λ h. let z : ◌≡◌ {A = ℕ} 0 4 = ap length_said (sym h ∙ ap (λ r. r.answer) letters-is) in omega arith,
    λ h. let z : ◌≡◌ {A = ℕ} 0 35 = ap length_said (sym h ∙ ap (λ r. r.answer) formula-is) in omega arith,
  )

  -- 15 before measuring: the file has more text than the buffer has room for, but what is written fits; or 11 is met first
  pub early-fifteen : ((p tight_call).answer ≡ refused 15 0 → ⊥) × ((p item_call).answer ≡ refused 15 0 → ⊥)
  early-fifteen = (
    λ h. let z : ◌≡◌ {A = ℕ} 15 0 = ap number_said (sym h ∙ ap (λ r. r.answer) (at_call further further-hold 0)) in omega arith,
    λ h. let z : ◌≡◌ {A = ℕ} 15 11 = ap number_said (sym h ∙ ap (λ r. r.answer) (at_call hand starred 9)) in omega arith,
  )

  -- an edit that converts the whole document and works out the count afterwards
  pub whole_again : (TextOfConvert (p borrowed_call) (p (afresh borrowed_call)) → ⊥) × (TextOfConvert (p shouted_call) (p (afresh shouted_call)) → ⊥)
  whole_again = (
    λ h.
        let z : ◌≡◌ {A = ℕ} 35 97
        = ap (byte_at 0) (subst₂ TextOfConvert (at_call further further-hold 1) (at_call further further-hold 2) h) in
        omega arith,
    λ h.
        let z : ◌≡◌ {A = ℕ} 79 111
        = ap (byte_at 0) (subst₂ TextOfConvert (at_call small small-hold 3) (at_call further further-hold 3) h) in
        omega arith,
  )

  -- an edit that converts the named block and copies later ones
  pub later-copied : (TailCopied 160 33 1 unlabelled_call (p unlabelled_call) → ⊥) × (TailCopied 2 1 1 folded_call (p folded_call) → ⊥)
  later-copied = (
    λ h.
        let z : ◌≡◌ {A = ℕ} 0 60 = ap (byte_at 124) (subst (TailCopied 160 33 1 unlabelled_call) (at_call hand starred 12) h) in
        omega arith,
    λ h. let z : ◌≡◌ {A = ℕ} 0 32 = ap (byte_at 0) (subst (TailCopied 2 1 1 folded_call) (at_call further further-hold 4) h) in omega arith,
  )

  -- a count that is always the block total
  pub always-total : (count_said (p words_call).answer ≡ 3 → ⊥) × (count_said (p shouted_call).answer ≡ 3 → ⊥)
  always-total = (
    λ h. let z : ◌≡◌ {A = ℕ} 3 1 = sym h ∙ ap (λ r. count_said r.answer) (at_call small small-hold 0) in omega arith,
    λ h. let z : ◌≡◌ {A = ℕ} 3 1 = sym h ∙ ap (λ r. count_said r.answer) (at_call small small-hold 3) in omega arith,
  )

  -- an insertion that does not compare with the carry before the position, so that it converts a block more
  pub before-skipped : (count_said (p fed_call).answer ≡ 2 → ⊥) × (count_said (p spaced_call).answer ≡ 2 → ⊥)
  before-skipped = (
    λ h. let z : ◌≡◌ {A = ℕ} 2 1 = sym h ∙ ap (λ r. count_said r.answer) (at_call altered altered-hold 2) in omega arith,
    λ h. let z : ◌≡◌ {A = ℕ} 2 1 = sym h ∙ ap (λ r. count_said r.answer) (at_call altered altered-hold 3) in omega arith,
  )

  -- a removal that always converts a block
  pub always-one : (1 ≤ count_said (p taken_call).answer → ⊥) × (1 ≤ count_said (p closed_call).answer → ⊥)
  always-one = (
    λ h. let z : ◌≡◌ {A = ℕ} (count_said (p taken_call).answer) 0 = ap (λ r. count_said r.answer) (at_call altered altered-hold 1) in omega arith,
    λ h. let z : ◌≡◌ {A = ℕ} (count_said (p closed_call).answer) 0 = ap (λ r. count_said r.answer) (at_call altered altered-hold 4) in omega arith,
  )

  -- a removal that leaves the row left over as it was
  pub rows_stay : (RowsStay 2 taken_call (p taken_call) → ⊥) × (RowsStay 1 loose_call (p loose_call) → ⊥)
  rows_stay = (
    λ h. let z : ◌≡◌ {A = ℕ} 0 9 = ap (byte_at 0) (subst (RowsStay 2 taken_call) (at_call altered altered-hold 1) h) in omega arith,
    λ h. let z : ◌≡◌ {A = ℕ} 0 160 = ap (byte_at 0) (subst (RowsStay 1 loose_call) (at_call altered altered-hold 5) h) in omega arith,
  )

  -- several replaced by converting from the first of them to the last
  pub straight-through : (count_said (p around_call).answer ≡ 3 → ⊥) × (count_said (p full_call).answer ≡ 3 → ⊥)
  straight-through = (
    λ h. let z : ◌≡◌ {A = ℕ} 3 2 = sym h ∙ ap (λ r. count_said r.answer) (at_call joint joint-hold 0) in omega arith,
    λ h. let z : ◌≡◌ {A = ℕ} 3 2 = sym h ∙ ap (λ r. count_said r.answer) (at_call joint joint-hold 1) in omega arith,
  )

  -- several replaced, one of which was converted again before and now counts twice
  pub counted-twice : (count_said (p relabelled_call).answer ≡ 3 → ⊥) × (count_said (p broken_call).answer ≡ 3 → ⊥)
  counted-twice = (
    λ h. let z : ◌≡◌ {A = ℕ} 3 2 = sym h ∙ ap (λ r. count_said r.answer) (at_call joint joint-hold 5) in omega arith,
    λ h. let z : ◌≡◌ {A = ℕ} 3 2 = sym h ∙ ap (λ r. count_said r.answer) (at_call joint joint-hold 7) in omega arith,
  )

  -- several replaced by edits one by one, with 15 for a length in between
  pub between-fifteen : ((p full_call).answer ≡ refused 15 0 → ⊥) × ((p fuller_call).answer ≡ refused 15 0 → ⊥)
  between-fifteen = (
    λ h. let z : ◌≡◌ {A = ℕ} 15 0 = ap number_said (sym h ∙ ap (λ r. r.answer) (at_call joint joint-hold 1)) in omega arith,
    λ h. let z : ◌≡◌ {A = ℕ} 15 0 = ap number_said (sym h ∙ ap (λ r. r.answer) (at_call joint joint-hold 2)) in omega arith,
  )
