-- The pieces of a list of tokens go on token by token.
use Rattle.std.proofs.Common.{◌≡◌, Bool, true, false, cond, List, [], ◌∷◌, ◌++◌, Some, None, option_map, refl, ap, ◌∙◌, append_assoc}
use Rattle.filter_expr.specs.declared.lexer.Token.{Token}
use Rattle.filter_expr.specs.Grammar.{put_first, put_front, is_close, inside}

pub front_more : (ts : List Token) (t : Token) (ps : List (List Token)) → put_front (ts ++ t ∷ []) ps ≡ put_front ts (put_first t ps)
front_more ts t [] = refl
front_more ts t (p ∷ ps) = ap (λ q. q ∷ ps) (append_assoc ts (t ∷ []) p)

with_one : (b : Bool) (t : Token) (us : List Token) → option_map (λ vs. t ∷ vs) (cond b (Some us) None) ≡ cond b (Some (t ∷ us)) None
with_one true t us = refl
with_one false t us = refl

pub inside_last : (us : List Token) (t : Token) → inside (us ++ t ∷ []) ≡ cond (is_close t) (Some us) None
inside_last [] t = refl
inside_last (a ∷ []) t = with_one (is_close t) a []
inside_last (a ∷ b ∷ us) t = ap (option_map (λ vs. a ∷ vs)) (inside_last (b ∷ us) t) ∙ with_one (is_close t) a (b ∷ us)
