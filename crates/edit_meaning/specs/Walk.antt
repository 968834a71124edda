-- Blocks converted one after the other, all of them or from a named one on, over any check of a tree file and any converter of
-- one block. A block's refusal has a row counted from the block's own first row; here the rows of the blocks before are added.
use Rattle.std.specs.Prelude.{◌≡◌, ◌≢◌, cond, List, [], ◌∷◌, ℕ, suc, ◌+◌, ◌≤◌, ◌<◌, length, get_or}
use Rattle.mitex_meaning.specs.Outcome.{Carry, Outcome}
use Rattle.mitex_meaning.specs.Outcome.Outcome.{refused, done}
use Rattle.mitex_meaning.specs.Conversion.{start_carry}
use Rattle.mitex_meaning.specs.Keeping.{Short}
use Rattle.ledger.specs.Ledger.{same_carry, Piece}

-- a tree file checked: refused with a number and a row, or its blocks
pub data CheckedFile (Block : Type 0) : Type 0 where
  bad : ℕ → ℕ → CheckedFile Block
  good : List Block → CheckedFile Block

-- what is known of the layers below, in one mode and with one rule file: how a tree file is checked (1 to 5), how a block is
-- converted from a carry (7 to 14), and how many rows a block has
pub record BlockConverter : Type 1 where
  pub Block : Type 0
  pub check : List ℕ → CheckedFile Block
  pub convert : Carry → Block → Outcome
  pub rows : Block → ℕ

-- what is asked of them: a label that is left has room in a row (this is what 14 is for), and their refusals have these numbers
abbrev pub KeepsShort : BlockConverter → Type 0
KeepsShort 𝓒 = (c c' : Carry) (b : 𝓒.Block) (t : List ℕ) → Short c → 𝓒.convert c b ≡ done c' t → Short c'

pub record RefusalNumbers (𝓒 : BlockConverter) : Type 0 where
  pub checked : (tree : List ℕ) (n i : ℕ) → 𝓒.check tree ≡ bad n i → (1 ≤ n) × (n ≤ 5)
  pub block : (c : Carry) (b : 𝓒.Block) (n i : ℕ) → 𝓒.convert c b ≡ refused n i → (7 ≤ n) × (n ≤ 14)

-- blocks converted: stopped with a number at a row, or a piece for each
pub data Walk : Type 0 where
  stopped : ℕ → ℕ → Walk
  pieces : List Piece → Walk

abbrev pub carries : List Piece → List Carry
carries [] = []
carries (p ∷ ps) = p.after ∷ carries ps

-- the carry after some pieces that begin with c
abbrev pub carry_after : Carry → List Piece → Carry
carry_after c [] = c
carry_after c (p ∷ ps) = carry_after p.after ps

-- a piece before those of a walk
abbrev pub onto : Piece → Walk → Walk
onto p (stopped n i) = stopped n i
onto p (pieces ps) = pieces (p ∷ ps)

-- a block whose first row is r, and then what follows from its carry
abbrev pub next : Outcome → ℕ → (Carry → Walk) → Walk
next (refused n i) r k = stopped n (r + i)
next (done c t) r k = onto (record { text = t; after = c }) (k c)

-- the same, and nothing follows where the carry is the kept one
abbrev pub next_until : Outcome → ℕ → Carry → (Carry → Walk) → Walk
next_until (refused n i) r d k = stopped n (r + i)
next_until (done c t) r d k = onto (record { text = t; after = c }) (cond (same_carry c d) (pieces []) (k c))

-- the rows of blocks
abbrev pub rows_all : {Block : Type 0} → (Block → ℕ) → List Block → ℕ
rows_all rows_of [] = 0
rows_all rows_of (b ∷ bs) = rows_of b + rows_all rows_of bs

module _ (𝓒 : BlockConverter) where
  open 𝓒 use {Block, convert as convert_block, rows as rows_of}

  -- all blocks, from the carry c, the first block's first row being r
  unfoldable pub walk : Carry → ℕ → List Block → Walk
  walk c r [] = pieces []
  walk c r (b ∷ bs) = next (convert_block c b) r (λ c'. walk c' (r + rows_of b) bs)

  -- no further than the first block after which the carry is the kept one
  unfoldable pub walk_until : Carry → ℕ → List Block → List Carry → Walk
  walk_until c r [] ds = pieces []
  walk_until c r (b ∷ bs) [] = pieces []
  walk_until c r (b ∷ bs) (d ∷ ds) = next_until (convert_block c b) r d (λ c'. walk_until c' (r + rows_of b) bs ds)

-- how many blocks from the first on, to the first after which both carry the same, or to the last
abbrev pub count_to : List Carry → List Carry → ℕ
count_to [] ds = 0
count_to (c ∷ cs) [] = suc (count_to cs [])
count_to (c ∷ cs) (d ∷ ds) = suc (cond (same_carry c d) 0 (count_to cs ds))

-- The same count in words (`count_to-first`), n blocks: no more than there are (`within`), one at least (`one`), before the last of them
-- the carries differ (`apart`), and after it they are the same, unless it is the last of all (`meets`).
pub record FirstSame (cs ds : List Carry) (n : ℕ) : Type 0 where
  pub within : n ≤ length cs
  pub one : 0 < length cs → 0 < n
  pub apart : (j : ℕ) → suc j < n → get_or cs j start_carry ≢ get_or ds j start_carry
  pub meets : (j : ℕ) → suc j ≡ n → n < length cs → get_or cs j start_carry ≡ get_or ds j start_carry
