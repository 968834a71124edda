use mathlib.Core.Path.{◌≡◌, ap, ◌∙◌}
use mathlib.Core.Bool.{not}
use mathlib.Core.List.{List}
use Prim.Native.Nat.{ℕ, ◌-◌}
use lib.ListN.{length, take, drop}
use borrow.Author.Tests.{tests}
use Rattle.std.proofs.Common.{rules}
use Rattle.std.specs.List.{position}
use Rattle.std.specs.Option.{unwrap_or}
use Rattle.std.proofs.lemmas.Iterator.{YieldsList-from_slice}
use Rattle.std.proofs.lemmas.Iterator.Search.{position_from_yields_List}
use Rattle.utf8.specs.Chars.{continues}
use Rattle.text.proofs.Writing.{part-rest}
use Rattle.utf8.proofs.Chars.{char_len-none, char_len-found}
use Rattle.utf8.proofs.char_len.Goals as goal

pub returns-in-empty : goal.returns-in-empty
returns-in-empty c = char_len-none c.args.s.now c.in-empty.len_below

pub returns-in-len1-up : goal.returns-in-len1-up
returns-in-len1-up c =
    let s = c.args.s.now in
    let rest : List ℕ = take (length s - 1) (drop 1 s) in
    let found : c.position.result ≡ position (λ b. not (continues b)) rest =
    position_from_yields_List (λ b. not (continues b)) _ _ c.position.result c.position.ensures.ran (YieldsList-from_slice rest cc)
    (λ x b q k. search (rules, tests)) in
    char_len-found s c.unwrap_or.result c.in-len1-up.len_at_least
    (c.unwrap_or.ensures ∙ ap (λ o. unwrap_or o (length rest)) found ∙ ap (λ r. unwrap_or (position (λ b. not (continues b)) r) (length r)) (part-rest s 1))
