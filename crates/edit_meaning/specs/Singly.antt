-- Several blocks replaced together, or one by one. One call that replaces several blocks leaves what calls of Edit leave that replace them
-- one by one, in the list's order, wherever these are all accepted (`AllIsSingly`): the same text up to its length, the same rows, and
-- growths with the same sum. The bytes after the text may differ, since a text that was longer in between leaves zeros there; so may the
-- counts. Calls one by one may be refused for a document in between, as with 15 for its length, where the one call is accepted; not the
-- other way round. TogetherExamples.antt has both computed. More generally, changes that come to the same blocks leave the same
-- (`SameDocument`). The theorems are `all-is-singly` and `same-document`, in proofs/Singly.antt.
use Rattle.std.specs.Prelude.{◌≡◌, true, List, [], ◌∷◌, ◌++◌, ℕ, suc, ◌*◌, ℤ, pos, ◌+ℤ◌, length, take, drop}
use Rattle.ledger.specs.Ledger.{row_size}
use Rattle.edit_meaning.specs.Walk.{BlockConverter}
use Rattle.edit_meaning.specs.Walk.CheckedFile.{good}
use Rattle.edit_meaning.specs.Edit.{Answer, Result}
use Rattle.edit_meaning.specs.Edit.Answer.{refused, converted, edited}
use Rattle.edit_meaning.specs.Run.{Edit, Kept, leaves, run, Holds}
use Rattle.edit_meaning.specs.Changes.{Change, named_there, call_change, run_changes, reference_changes, OnlyNamed, AllowedChanges}
use Rattle.edit_meaning.specs.Changes.Kind.{replace_all}

-- ---- answers

abbrev pub growth_of : Answer → ℤ
growth_of (refused n i) = pos 0
growth_of (converted len n) = pos 0
growth_of (edited len g n) = g

abbrev pub growths : List Answer → ℤ
growths [] = pos 0
growths (a ∷ said) = growth_of a +ℤ growths said

abbrev pub AcceptedAnswer : Answer → Type 0
AcceptedAnswer (refused n i) = ⊥
AcceptedAnswer (converted len n) = Unit {0}
AcceptedAnswer (edited len g n) = Unit {0}

abbrev pub AllAccepted : List Answer → Type 0
AllAccepted [] = Unit {0}
AllAccepted (a ∷ said) = AcceptedAnswer a × AllAccepted said

-- ---- what is left

-- the same length, the same text up to it, and the same rows of n blocks
pub record SameKept (n : ℕ) (s s' : Kept) : Type 0 where
  pub size : s.size ≡ s'.size
  pub text : take s.size s.text ≡ take s.size s'.text
  pub rows : take (row_size * n) s.ledger ≡ take (row_size * n) s'.ledger

-- one call that answers a and leaves s, beside calls that answer `said` and leave s', in a document of n blocks
pub record AsSingly (n : ℕ) (a : Answer) (s : Kept) (said : List Answer) (s' : Kept) : Type 0 where
  pub accepted : AcceptedAnswer a
  pub kept : SameKept n s s'
  pub growth : growth_of a ≡ growths said

-- the blocks bs with block k of bs' in the place of their own
abbrev pub with_block : {Block : Type 0} → ℕ → List Block → List Block → List Block
with_block k bs bs' = take k bs ++ (take 1 (drop k bs') ++ drop (suc k) bs)

module _ (𝓒 : BlockConverter) where
  open 𝓒 use {Block, check}

  -- edits that give the blocks ks of bs the content of bs', one by one: each tree has the blocks of the one before, and one of bs' more
  pub data Singly (bs' : List Block) : List Block → List ℕ → List Edit → Type 0 where
    all_done : {bs : List Block} → Singly bs' bs [] []
    one_then :
        {bs : List Block} {k : ℕ} {ks tree : List ℕ} {es : List Edit} → check tree ≡ good (with_block k bs bs')
        → Singly bs' (with_block k bs bs') ks es → Singly bs' bs (k ∷ ks) (record { tree = tree; block = k } ∷ es)

  module _ (t l : List ℕ) where
    -- Buffers hold the document old. The new one differs from it only in the blocks ks, of which there are some and which rise. Where these
    -- are replaced one by one and all accepted, the call that replaces them together is accepted, and leaves the same.
    abbrev pub AllIsSingly : Type 0
    AllIsSingly =
        (old new : List ℕ) (s : Kept) (bs bs' : List Block) (ks : List ℕ) (es : List Edit) → Holds 𝓒 t l old s
        → check old ≡ good bs → check new ≡ good bs' → named_there (replace_all ks) (length bs') ≡ true → OnlyNamed ks bs bs'
        → Singly bs' bs ks es → AllAccepted (run 𝓒 s es).answers
        → (let r : Result = call_change 𝓒 s (record { tree = new; kind = replace_all ks }) in
        AsSingly (length bs') r.answer (leaves r s.size) (run 𝓒 s es).answers (run 𝓒 s es).left)

    -- two lists of changes, refused ones included, whose last documents have the same blocks
    abbrev pub SameDocument : Type 0
    SameDocument =
        (tree : List ℕ) (s : Kept) (bs : List Block) → Holds 𝓒 t l tree s → (es es' : List Change)
        → AllowedChanges 𝓒 t l tree es → AllowedChanges 𝓒 t l tree es'
        → check (reference_changes 𝓒 t l tree es).last ≡ good bs → check (reference_changes 𝓒 t l tree es').last ≡ good bs
        → SameKept (length bs) (run_changes 𝓒 s es).left (run_changes 𝓒 s es').left
        × (growths (run_changes 𝓒 s es).answers ≡ growths (run_changes 𝓒 s es').answers)
