-- The lines of a load's script.
use Rattle.std.proofs.Common.{◌≡◌, ℕ, ◌+◌, ◌<◌, ◌^◌, Bool, true, false, nat_eq, nat_le, ◌&&◌, cond, List, [], ◌∷◌, ◌++◌, length, codes, refl, ap, ◌∙◌, arith}
use Rattle.std.specs.Fmt.{decimal}
use Rattle.std.specs.List.{list_all, AllByRecursion as Each}
use Rattle.std.proofs.lemmas.Bool.Decides.{nat_tests}
use Rattle.load_player.specs.declared.method.Method.{Method}
use Rattle.load_player.specs.declared.method.Method.TheVariants.{Put, Get, Delete}
use Rattle.load_player.specs.LoadScript.{method_of, key_of, request, requests_from, load_lines, text_of, drawn}
use Rattle.script_player.specs.Line.{lines_of, onto_line}
use Rattle.load_player.proofs.Decimals.{decimal_all, all_append}

-- a byte that ends no line
abbrev goes_on : ℕ → Bool
goes_on b = nat_le 32 b

abbrev IsLine : List ℕ → Type 0
IsLine line = list_all goes_on line ≡ true

ends_none : (b : ℕ) (rest : Bool) → (goes_on b && rest) ≡ true → nat_eq b 10 ≡ false
ends_none b rest e = grind (arith, nat_tests)

and_then : (a b : Bool) → (a && b) ≡ true → b ≡ true
and_then true b e = e
and_then false b e = absurd cc

line_first : (line rest : List ℕ) → IsLine line → lines_of ((line ++ codes "\n") ++ rest) ≡ line ∷ lines_of rest
line_first [] rest is = refl
line_first (b ∷ line) rest is =
    ap (λ t. cond t ([] ∷ lines_of ((line ++ codes "\n") ++ rest)) (onto_line b (lines_of ((line ++ codes "\n") ++ rest)))) (ends_none b (list_all goes_on line) is)
    ∙ ap (onto_line b) (line_first line rest (and_then (goes_on b) (list_all goes_on line) is))

pub lines_are : (lines : List (List ℕ)) → Each IsLine lines → lines_of (text_of lines) ≡ lines
lines_are [] all = refl
lines_are (line ∷ lines) all = line_first line (text_of lines) all.0 ∙ ap (λ more. line ∷ more) (lines_are lines all.1)

digit_goes_on : (d : ℕ) → d < 10 → goes_on (48 + d) ≡ true
digit_goes_on d small = grind (arith, nat_tests)

decimal_line : (n : ℕ) → n < 2 ^ 64 → IsLine (decimal n)
decimal_line n small = decimal_all goes_on digit_goes_on n small

request_line : (method : Method) (j k : ℕ) → j < 2 ^ 64 → k < 1000 → IsLine (request method j k)
request_line Put j k number key =
    all_append goes_on (codes "http 1 PUT /v1/kv/k" ++ decimal k ++ codes " =v") (decimal j)
    (all_append goes_on (codes "http 1 PUT /v1/kv/k" ++ decimal k) (codes " =v") (all_append goes_on (codes "http 1 PUT /v1/kv/k") (decimal k) refl (decimal_line k (omega (arith, key)))) refl)
    (decimal_line j number)
request_line Get j k number key = all_append goes_on (codes "http 1 GET /v1/kv/k") (decimal k) refl (decimal_line k (omega (arith, key)))
request_line Delete j k number key = all_append goes_on (codes "http 1 DELETE /v1/kv/k") (decimal k) refl (decimal_line k (omega (arith, key)))

key_small : (word : ℕ) → key_of word < 1000
key_small word = omega arith

-- what holds of each request and of a settling holds of all lines behind the opening
pub each_line : (P : List ℕ → Type 0) (j : ℕ) (words : List ℕ) → j + length words < 2 ^ 64 → P (codes "settle 64") →
    ((method : Method) (i k : ℕ) → i < 2 ^ 64 → k < 1000 → P (request method i k)) → Each P (requests_from j words)
each_line P j [] few settles asks = tt
each_line P j (word ∷ words) few settles asks =
    (asks (method_of word) j (key_of word) (omega (arith, few)) (key_small word), (settles, each_line P (j + 1) words (omega (arith, few)) settles asks))

pub load_lines_are : (seed size : ℕ) → seed < 2 ^ 64 → 1 + length (drawn seed size) < 2 ^ 64 → lines_of (text_of (load_lines seed size)) ≡ load_lines seed size
load_lines_are seed size small few =
    lines_are (load_lines seed size)
    (all_append goes_on (codes "cluster 3 1 ") (decimal seed) refl (decimal_line seed small), (refl, (refl, each_line IsLine 1 (drawn seed size) few refl request_line)))
