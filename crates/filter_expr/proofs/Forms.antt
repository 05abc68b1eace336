-- Tokens that are neither three nor four are no test.
use Rattle.std.proofs.Common.{◌≡◌, List, [], ◌∷◌, length, refl, None}
use Rattle.filter_expr.specs.declared.lexer.Token.{Token}
use Rattle.filter_expr.specs.declared.selectors.Shape.{Shape}
use Rattle.filter_expr.specs.Tests.{test_of}

pub no_form : (s : Shape) (ts : List Token) → (length ts ≡ 3 → ⊥) → (length ts ≡ 4 → ⊥) → test_of s ts ≡ None
no_form s [] three four = refl
no_form s (a ∷ []) three four = refl
no_form s (a ∷ b ∷ []) three four = refl
no_form s (a ∷ b ∷ c ∷ []) three four = absurd (three refl)
no_form s (a ∷ b ∷ c ∷ d ∷ []) three four = absurd (four refl)
no_form s (a ∷ b ∷ c ∷ d ∷ e ∷ ts) three four = refl
