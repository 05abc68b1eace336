-- Reading goes on word by word, and token by token.
use Rattle.std.proofs.Common.{◌≡◌, ℕ, ◌+◌, ◌-◌, ◌<◌, true, List, [], ◌∷◌, ◌++◌, length, take, drop, get_or, refl, sym, ap, subst, ◌∙◌, Option, Some, None, arith, append_assoc, suc}
use Rattle.std.proofs.lemmas.Bool.{cond-true}
use Rattle.std.proofs.lemmas.List.{take_rest}
use Rattle.filter_expr.specs.declared.lexer.Token.{Token}
use Rattle.filter_expr.specs.Tokens.{between, in_word, read, before, with_front, word_token, is_word_byte}

-- from the first byte on
word_from : (b : List ℕ) (n : ℕ) → 0 < length b → is_word_byte (get_or b 0 0) ≡ true
    → ((w : List ℕ) → read (in_word w) (drop 1 b) ≡ before (word_token (w ++ take n (drop 1 b))) (read between (drop n (drop 1 b))))
    → read between b ≡ before (word_token (take (n + 1) b)) (read between (drop (n + 1) b))
word_from [] n some is so = absurd (omega arith)
word_from (c ∷ cs) n some is so =
    let e : suc n ≡ n + 1 = omega arith in
    cond-true _ _ _ is ∙ so (c ∷ []) ∙ ap (λ k. before (word_token (take k (c ∷ cs))) (read between (drop k (c ∷ cs)))) e

pub word_read : (b more : List ℕ) (n : ℕ) → more ≡ drop 1 b → 0 < length b → is_word_byte (get_or b 0 0) ≡ true
    → ((w : List ℕ) → read (in_word w) more ≡ before (word_token (w ++ take n more)) (read between (drop n more)))
    → read between b ≡ before (word_token (take (n + 1) b)) (read between (take (length b - (n + 1)) (drop (n + 1) b)))
word_read b more n behind some is so =
    word_from b n some is (subst (λ m. (w : List ℕ) → read (in_word w) m ≡ before (word_token (w ++ take n m)) (read between (drop n m))) behind so)
    ∙ ap (λ cs. before (word_token (take (n + 1) b)) (read between cs)) (sym (take_rest b (n + 1)))

pub more_front : (ts : List Token) (t : Token) (read : Option (List Token)) → with_front (ts ++ t ∷ []) read ≡ with_front ts (before t read)
more_front ts t None = refl
more_front ts t (Some us) = ap Some (append_assoc ts (t ∷ []) us)
