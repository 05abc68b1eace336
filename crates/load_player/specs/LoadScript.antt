-- The script of a load: requests on 1,000 keys to a cluster of three servers, drawn from a seed.
use Rattle.std.specs.Prelude.{ℕ, ◌+◌, ◌/◌, ◌%◌, ◌==◌, if◌then◌else◌, List, [], ◌∷◌, ◌++◌, flat_map, codes}
use Rattle.std.specs.Fmt.{decimal}
use Rattle.rand_core.specs.Pcg32Seed.{pcg32_seed}
use Rattle.rand_core.specs.Steps.{first_words}
use Rattle.rand_pcg.specs.Pcg.{pcg32, pcg32_of_seed}
use Rattle.load_player.specs.declared.method.Method.{Method}
use Rattle.load_player.specs.declared.method.Method.TheVariants.{Put, Get, Delete}

-- as many words as there are requests, of the generator PCG XSH RR 64/32 with this seed
abbrev pub drawn : ℕ → ℕ → List ℕ
drawn seed size = first_words pcg32 size (pcg32_of_seed (pcg32_seed 16 seed))

-- a word tells the key by its last three digits, and the method by the digits before: half of the requests put, a
-- quarter get, and a quarter delete
abbrev pub key_of : ℕ → ℕ
key_of word = word % 1000

abbrev pub method_at : ℕ → Method
method_at m = if m == 2 then Get else if m == 3 then Delete else Put

abbrev pub method_of : ℕ → Method
method_of word = method_at (word / 1000 % 4)

-- the line of the request with number j, on key k
abbrev pub request : Method → ℕ → ℕ → List ℕ
request Put j k = codes "http 1 PUT /v1/kv/k" ++ decimal k ++ codes " =v" ++ decimal j
request Get j k = codes "http 1 GET /v1/kv/k" ++ decimal k
request Delete j k = codes "http 1 DELETE /v1/kv/k" ++ decimal k

-- the lines of the requests by these words, the first of them with number j
abbrev pub requests_from : ℕ → List ℕ → List (List ℕ)
requests_from j [] = []
requests_from j (word ∷ words) =
    request (method_of word) j (key_of word) ∷ codes "settle 64" ∷ requests_from (j + 1) words

abbrev pub load_lines : ℕ → ℕ → List (List ℕ)
load_lines seed size =
    (codes "cluster 3 1 " ++ decimal seed) ∷ codes "timeout 1" ∷ codes "settle 64" ∷ requests_from 1 (drawn seed size)

-- lines as a text: each ends with a line feed
abbrev pub text_of : List (List ℕ) → List ℕ
text_of lines = flat_map (λ line. line ++ codes "\n") lines

abbrev pub load_script : ℕ → ℕ → List ℕ
load_script seed size = text_of (load_lines seed size)
