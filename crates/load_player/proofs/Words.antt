-- The words of a load's lines.
use Rattle.std.proofs.Common.{◌≡◌, ℕ, ◌+◌, ◌<◌, ◌^◌, Bool, true, false, nat_lt, ◌&&◌, cond, List, [], ◌∷◌, ◌++◌, length, codes, refl, ap, ◌∙◌, append_assoc, arith}
use Rattle.std.specs.Fmt.{decimal}
use Rattle.std.specs.List.{list_all, onto_first}
use Rattle.std.proofs.lemmas.Bool.Decides.{nat_tests}
use Rattle.load_player.specs.declared.method.Method.TheVariants.{Put, Get, Delete}
use Rattle.load_player.specs.LoadScript.{request}
use Rattle.script_lang.specs.Requests.{is_token_byte, is_token}
use Rattle.script_lang.specs.Words.{is_space, words_of}
use Rattle.load_player.proofs.Decimals.{decimal_all, all_append, and_true}

abbrev pub AreTokens : List ℕ → Type 0
AreTokens word = list_all is_token_byte word ≡ true

no_space : (b : ℕ) (rest : Bool) → (is_token_byte b && rest) ≡ true → is_space b ≡ false
no_space b rest e = grind (arith, nat_tests)

and_then : (a b : Bool) → (a && b) ≡ true → b ≡ true
and_then true b e = e
and_then false b e = absurd cc

split_last : (word : List ℕ) → AreTokens word → words_of word ≡ word ∷ []
split_last [] is = refl
split_last (b ∷ word) is =
    ap (λ t. cond t ([] ∷ words_of word) (onto_first b (words_of word))) (no_space b (list_all is_token_byte word) is)
    ∙ ap (onto_first b) (split_last word (and_then (is_token_byte b) (list_all is_token_byte word) is))

split_word : (word rest : List ℕ) → AreTokens word → words_of (word ++ 32 ∷ rest) ≡ word ∷ words_of rest
split_word [] rest is = refl
split_word (b ∷ word) rest is =
    ap (λ t. cond t ([] ∷ words_of (word ++ 32 ∷ rest)) (onto_first b (words_of (word ++ 32 ∷ rest)))) (no_space b (list_all is_token_byte word) is)
    ∙ ap (onto_first b) (split_word word rest (and_then (is_token_byte b) (list_all is_token_byte word) is))

digit_token : (d : ℕ) → d < 10 → is_token_byte (48 + d) ≡ true
digit_token d small = grind (arith, nat_tests)

decimal_tokens : (n : ℕ) → n < 2 ^ 64 → AreTokens (decimal n)
decimal_tokens n small = decimal_all is_token_byte digit_token n small

abbrev pub target : ℕ → List ℕ
target k = codes "/v1/kv/k" ++ decimal k

target_tokens : (k : ℕ) → k < 2 ^ 64 → AreTokens (target k)
target_tokens k small = all_append is_token_byte (codes "/v1/kv/k") (decimal k) refl (decimal_tokens k small)

some_length : (ds : List ℕ) (b : ℕ) → nat_lt 0 (length (b ∷ ds)) ≡ true
some_length ds b = grind (arith, nat_tests)

pub target_is_token : (k : ℕ) → k < 2 ^ 64 → is_token (target k) ≡ true
target_is_token k small =
    and_true (nat_lt 0 (length (target k))) (list_all is_token_byte (target k)) (some_length (codes "v1/kv/k" ++ decimal k) 47) (target_tokens k small)

pub put_words : (j k : ℕ) → j < 2 ^ 64 → k < 2 ^ 64 → words_of (request Put j k) ≡ codes "http" ∷ codes "1" ∷ codes "PUT" ∷ target k ∷ (codes "=v" ++ decimal j) ∷ []
put_words j k number key =
    ap (λ (t : List ℕ). words_of (codes "http 1 PUT /v1/kv/k" ++ t)) (append_assoc (decimal k) (codes " =v") (decimal j))
    ∙ ap (λ (ws : List (List ℕ)). codes "http" ∷ codes "1" ∷ codes "PUT" ∷ ws)
    (split_word (target k) (codes "=v" ++ decimal j) (target_tokens k key)
    ∙ ap (λ (ws : List (List ℕ)). target k ∷ ws) (split_last (codes "=v" ++ decimal j) (all_append is_token_byte (codes "=v") (decimal j) refl (decimal_tokens j number))))

pub get_words : (j k : ℕ) → k < 2 ^ 64 → words_of (request Get j k) ≡ codes "http" ∷ codes "1" ∷ codes "GET" ∷ target k ∷ []
get_words j k key = ap (λ (ws : List (List ℕ)). codes "http" ∷ codes "1" ∷ codes "GET" ∷ ws) (split_last (target k) (target_tokens k key))

pub delete_words : (j k : ℕ) → k < 2 ^ 64 → words_of (request Delete j k) ≡ codes "http" ∷ codes "1" ∷ codes "DELETE" ∷ target k ∷ []
delete_words j k key = ap (λ (ws : List (List ℕ)). codes "http" ∷ codes "1" ∷ codes "DELETE" ∷ ws) (split_last (target k) (target_tokens k key))

pub opening_words : (seed : ℕ) → seed < 2 ^ 64 → words_of (codes "cluster 3 1 " ++ decimal seed) ≡ codes "cluster" ∷ codes "3" ∷ codes "1" ∷ decimal seed ∷ []
opening_words seed small = ap (λ (ws : List (List ℕ)). codes "cluster" ∷ codes "3" ∷ codes "1" ∷ ws) (split_last (decimal seed) (decimal_tokens seed small))
