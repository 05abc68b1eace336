-- How long the lines of a load are.
use Rattle.std.proofs.Common.{◌≡◌, ℕ, ◌+◌, ◌<◌, ◌≤◌, ◌^◌, List, ◌++◌, length, length-append, codes, ap, arith}
use Rattle.std.specs.Fmt.{decimal}
use Rattle.std.proofs.lemmas.Fmt.{length-decimal-le}
use Rattle.load_player.specs.declared.method.Method.{Method}
use Rattle.load_player.specs.declared.method.Method.TheVariants.{Put, Get, Delete}
use Rattle.load_player.specs.LoadScript.{key_of, request}

pub opening_short : (seed : ℕ) (text : List ℕ) → seed < 2 ^ 64 → text ≡ codes "cluster 3 1 " ++ decimal seed ++ codes "\ntimeout 1\nsettle 64\n" → length text ≤ 64
opening_short seed text is opened =
    let d = length-decimal-le 20 seed (omega arith) (omega (arith, is)) is in
    let whole : length text ≡ length (codes "cluster 3 1 " ++ decimal seed ++ codes "\ntimeout 1\nsettle 64\n") = ap length opened in
    omega (arith, whole, length-append (codes "cluster 3 1 " ++ decimal seed) (codes "\ntimeout 1\nsettle 64\n"), length-append (codes "cluster 3 1 ") (decimal seed), d)

request_short : (method : Method) (j k : ℕ) → j < 2 ^ 32 → k < 1000 → length (request method j k) ≤ 40
request_short Put j k number key =
    let d = length-decimal-le 10 j (omega arith) (omega (arith, number)) (omega (arith, number)) in
    let e = length-decimal-le 3 k (omega arith) key (omega (arith, key)) in
    omega (arith, length-append (codes "http 1 PUT /v1/kv/k" ++ decimal k ++ codes " =v") (decimal j), length-append (codes "http 1 PUT /v1/kv/k" ++ decimal k) (codes " =v"), length-append (codes "http 1 PUT /v1/kv/k") (decimal k), d, e)
request_short Get j k number key =
    let e = length-decimal-le 3 k (omega arith) key (omega (arith, key)) in
    omega (arith, length-append (codes "http 1 GET /v1/kv/k") (decimal k), e)
request_short Delete j k number key =
    let e = length-decimal-le 3 k (omega arith) key (omega (arith, key)) in
    omega (arith, length-append (codes "http 1 DELETE /v1/kv/k") (decimal k), e)

key_small : (word : ℕ) → key_of word < 1000
key_small word = omega arith

-- a request and the settling behind it
pub request_appended : (before after : List ℕ) (method : Method) (j word : ℕ) → j < 2 ^ 32 → after ≡ before ++ request method j (key_of word) ++ codes "\nsettle 64\n" → length after ≤ length before + 64
request_appended before after method j word number is =
    let line = request method j (key_of word) in
    let short = request_short method j (key_of word) number (key_small word) in
    let whole : length after ≡ length (before ++ line ++ codes "\nsettle 64\n") = ap length is in
    omega (arith, whole, length-append (before ++ line) (codes "\nsettle 64\n"), length-append before line, short)
