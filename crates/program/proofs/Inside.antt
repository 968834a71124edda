-- The text of an accepted conversion lies within its buffer: it is what the buffer then begins with.
use mathlib.Core.Path.{◌≡◌, sym, ap, ◌∙◌}
use mathlib.Core.List.{List, ◌++◌}
use Prim.Native.Nat.{ℕ, ◌≤◌}
use native.Mathlib.Omega.{arith}
use lib.ListN.{length, drop, length-append}
use Rattle.text.proofs.Compare.{by-test}
use Rattle.ledger.specs.Ledger.{written}
use Rattle.edit_meaning.specs.Walk.{BlockConverter, Walk}
use Rattle.edit_meaning.specs.Walk.Walk.{stopped, pieces}
use Rattle.edit_meaning.specs.Edit.{Answer, room, settle, conversion, convert_document}
use Rattle.edit_meaning.specs.Edit.Answer.{refused, converted}
use Rattle.edit_meaning.specs.Calls.{Gives, Converts}

settled-inside :
    (v : Walk) (text ledger : List ℕ) {n k : ℕ} {text' ledger' : List ℕ} → Gives (settle v text ledger) (converted n k) text' ledger'
    → n ≤ length text'
unfolding settle
settled-inside (stopped m i) text ledger {n} {k} g =
    let x : converted n k ≡ refused m i = g.answer in
    let y : ◌≡◌ {A = ℕ} 0 1 = cc in absurd (omega arith)
settled-inside (pieces ps) text ledger {n} {k} {text'} g =
    by-test (room (length text) (length ledger) ps)
    (λ r.
    let x : converted n k ≡ converted (length (written ps)) (length ps) = rw r at g.answer in
    let e : n ≡ length (written ps) = cc in
    let b : text' ≡ written ps ++ drop (length (written ps)) text = rw r at g.bytes in
    let l = ap length b ∙ length-append (written ps) (drop (length (written ps)) text) in omega (arith, l, e))
    (λ r.
    let x : converted n k ≡ refused 15 0 = rw r at g.answer in
    let y : ◌≡◌ {A = ℕ} 0 1 = cc in absurd (omega arith))

pub converted-inside :
    {𝓒 : BlockConverter} {tree text ledger : List ℕ} {a : Answer} {n k : ℕ} {text' ledger' : List ℕ}
    → Converts 𝓒 tree text ledger a text' ledger' → a ≡ converted n k → n ≤ length text'
unfolding convert_document
converted-inside {𝓒} {tree} {text} {ledger} {a} {n} {k} {text'} {ledger'} w e =
    settled-inside (conversion 𝓒 tree) text ledger
    (record { answer = sym e ∙ w.gives.answer; bytes = w.gives.bytes; rows = w.gives.rows })
