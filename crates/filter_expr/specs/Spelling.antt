-- How tokens are written: one after another, with spaces between them where one likes, and at least one between two words.
use Rattle.std.specs.Prelude.{◌≡◌, ℕ, ◌==◌, Bool, true, false, not, ◌&&◌, List, [], ◌∷◌, ◌++◌}
use Rattle.std.specs.List.{list_all}
use Rattle.filter_expr.specs.declared.lexer.Token.{Token}
use Rattle.filter_expr.specs.declared.lexer.Token.TheVariants as k
use Rattle.filter_expr.specs.Tokens.{is_word_byte, word_token}

abbrev pub begins_word : List ℕ → Bool
begins_word [] = false
begins_word (c ∷ cs) = is_word_byte c

-- a byte that is no quotation mark and no backslash
abbrev pub is_inner : ℕ → Bool
is_inner c = not (c == 34) && not (c == 92)

-- the text is written of these tokens, and of spaces
pub data AreTokens : List ℕ → List Token → Type 0 where
  no_more : AreTokens [] []
  space : {text : List ℕ} {ts : List Token} → AreTokens text ts → AreTokens (32 ∷ text) ts
  -- `(`
  opening : {text : List ℕ} {ts : List Token} → AreTokens text ts → AreTokens (40 ∷ text) (k.Open ∷ ts)
  -- `)`
  closing : {text : List ℕ} {ts : List Token} → AreTokens text ts → AreTokens (41 ∷ text) (k.Close ∷ ts)
  -- `==`
  equality : {text : List ℕ} {ts : List Token} → AreTokens text ts → AreTokens (61 ∷ 61 ∷ text) (k.Equal ∷ ts)
  -- `!=`
  difference : {text : List ℕ} {ts : List Token} → AreTokens text ts → AreTokens (33 ∷ 61 ∷ text) (k.Unequal ∷ ts)
  -- bytes of words, as many as there are
  word : {text : List ℕ} {ts : List Token} {c : ℕ} (w : List ℕ) → list_all is_word_byte (c ∷ w) ≡ true → begins_word text ≡ false
      → AreTokens text ts → AreTokens (c ∷ (w ++ text)) (word_token (c ∷ w) ∷ ts)
  -- a text between two quotation marks
  quotation : {text : List ℕ} {ts : List Token} {q : List ℕ} → list_all is_inner q ≡ true → AreTokens text ts → AreTokens (34 ∷ (q ++ (34 ∷ text))) (k.Quoted q ∷ ts)
