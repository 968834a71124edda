-- What tests on a kind give: each law is a case of `is_trivia`, `is_token` or `is_node`.
use mathlib.Core.Path.{◌≡◌, refl, sym, ap, ◌∙◌}
use mathlib.Core.Bool.{Bool, true, false, ◌&&◌, ◌||◌, not, and-true, and-false}
use Prim.Native.Nat.{ℕ, ◌≤◌, ◌<◌}
use native.Mathlib.Omega.{arith}
use borrow.Author.Tests.{ne_eqb, le-leb, lt-leb, leb-true, leb-false}
use lib.Dec.{leb}
use Rattle.mitex_syntax.specs.Syntax.{is_kind, is_trivia, is_token, is_node, TokenError, ClauseCommandName, TokenWord, TokenComment}
use Rattle.mitex_syntax.specs.Syntax.{ItemBlockComment, TokenWhiteSpace, TokenLineBreak, ItemNewLine, TokenCommandSym, ItemTypstCode}

pub no-trivia :
    (k : ℕ) → (k ≡ TokenLineBreak → ⊥) → (k ≡ TokenWhiteSpace → ⊥) → (k ≡ TokenComment → ⊥) → (k ≡ ItemNewLine → ⊥) → false ≡ is_trivia k
no-trivia k a b c d = rw (ne_eqb k TokenLineBreak a, ne_eqb k TokenWhiteSpace b, ne_eqb k TokenComment c, ne_eqb k ItemNewLine d)

module _ (k : ℕ) (no-error : k ≡ TokenError → ⊥) where
  module _ (no_name : k ≡ ClauseCommandName → ⊥) where
    pub low-token : k < TokenWord → false ≡ is_token k
    low-token h =
        rw (ne_eqb k TokenError no-error, ne_eqb k ClauseCommandName no_name, lt-leb TokenWord k h, lt-leb TokenWhiteSpace k (omega arith))

    pub high-token : TokenWord ≤ k → (k ≡ ItemBlockComment → ⊥) → leb k TokenCommandSym ≡ is_token k
    high-token h no-comment =
        rw (ne_eqb k TokenError no-error, ne_eqb k ClauseCommandName no_name, le-leb TokenWord k h) (go (leb k TokenComment) refl)
      where
        go : (b : Bool) → leb k TokenComment ≡ b → leb k TokenCommandSym ≡ b || (leb TokenWhiteSpace k && leb k TokenCommandSym)
        go true e = le-leb k TokenCommandSym (omega (arith, leb-true k TokenComment e))
        go false e = rw (le-leb TokenWhiteSpace k (omega (arith, no-comment, leb-false k TokenComment e)))

  node_by : {b c : Bool} → is_token k ≡ b → is_kind k ≡ c → is_node k ≡ c && not b
  node_by {b} {c} e h =
      ap (λ (x : Bool). x || (is_kind k && not (is_token k))) (ne_eqb k TokenError no-error) ∙ ap (λ (x : Bool). is_kind k && not x) e
      ∙ ap (λ (x : Bool). x && not b) h

  pub token-not-node : (b : Bool) → b ≡ is_token k → b ≡ true → false ≡ is_node k
  token-not-node b e h = sym (node_by {c = is_kind k} (sym e ∙ h) refl ∙ and-false (is_kind k))

  pub other-node : (b : Bool) → b ≡ is_token k → b ≡ false → (k ≡ 0 → ⊥) → leb k ItemTypstCode ≡ is_node k
  other-node b e h no_zero =
      let positive = ap (λ (x : Bool). x && leb k ItemTypstCode) (le-leb 1 k (omega (arith, no_zero))) in
      sym (node_by {c = leb k ItemTypstCode} (sym e ∙ h) positive ∙ and-true (leb k ItemTypstCode))
